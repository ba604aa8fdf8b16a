-- The items that are made are those of the program's lists.
use Rattle.std.proofs.Common.{◌≡◌, ℕ, suc, ◌<◌, ◌≤◌, List, [], ◌∷◌, length, map, refl, sym, ◌∙◌, subst, subst₂, slice_index_or, arith}
use Rattle.std.specs.List.{AllByRecursion}
use Rattle.std.proofs.lemmas.List.Elements.{All-from_recursion}
use Rattle.geo_terms.specs.Stores.{Store, tree_of}
use Rattle.geo_program.specs.declared.commands.Command.{Command}
use Rattle.geo_program.specs.declared.names.Name.{Name}
use Rattle.geo_program.specs.declared.statements.Statement.{Statement}
use Rattle.geo_program.specs.WellFormed.{IsWellFormed, Source}
use Rattle.geo_lowering.specs.declared.version.Version.{Version}
use Rattle.geo_lowering.specs.Counting.{param_places, points_named}
use Rattle.geo_lowering.specs.Lowering.{Layout, layout_of, line_places, pair_numbers, point_place, point_places}
use Rattle.geo_lowering.specs.Inner.Renaming.{AreRenamed}
use Rattle.geo_lowering.proofs.Renamed.{renamed-same}
use Rattle.geo_conditions.specs.declared.conditions.ListedCondition.{ListedCondition}
use Rattle.geo_conditions.specs.declared.item_terms.Places.{Places}
use Rattle.geo_conditions.specs.declared.items.Item.{Item}
use Rattle.geo_conditions.specs.Inner.ConditionLists.{found_of}
use Rattle.geo_conditions.specs.Inner.ItemForms.{AreItems, ArePlaced, IsPrintableCondition, IsPrintableGoal, condition_item_form, goal_item_form, places_layout}
use Rattle.geo_conditions.specs.Inner.ItemTerms.{terms_layout}
use Rattle.geo_conditions.specs.Lists.{AreConditions, AreGoals, AreStoredConditions, AreStoredGoals, condition_item}
use Rattle.geo_conditions.proofs.ItemScopes.{named_few}

-- the lists' layout is the program's
pub same_layout : (version : Version) (cs : List Command) (places : Places) → map (λ a. a.0) places.points.now ≡ point_places version 0 cs
    → map pair_numbers places.lines.now ≡ line_places version (point_place version cs) 0 cs
    → map (λ t. t.0) places.params.now ≡ param_places 0 cs → places_layout places ≡ layout_of version cs
same_layout version cs places x y z = λ i. record {
  point = λ a. slice_index_or (x i) a 0;
  line = λ a. slice_index_or (y i) a (record { left = 0; right = 0 });
  param = λ t. slice_index_or (z i) t 0;
}

-- terms that are renamed by points and parameters are so by all places
pub placed_by : (terms nodes : Store) (places : Places) → length places.terms.now ≡ length terms → AreRenamed (terms_layout places.points.now places.params.now) terms nodes places.terms.now
    → ArePlaced terms nodes places
placed_by terms nodes places count h = record {
  count = count;
  renamed = record {
    stored = h.stored;
    trees = λ k b. h.trees k b ∙ renamed-same (terms_layout places.points.now places.params.now) (places_layout places) (λ a. refl) (λ t. refl) (tree_of terms (record { 0 = k }));
  };
}

-- a program names few points
pub few_named : (p : Source) → IsWellFormed p → points_named p.commands ≤ 512
few_named p w = let h = named_few p.nodes 0 p.commands in let k = w.few in omega arith

same_items : (version : Version) (p : Source) (listed : List ListedCondition)
    → map (condition_item_form p.names p.nodes (layout_of version p.commands)) listed ≡ map (condition_item version p) (map (found_of p.nodes) listed)
same_items version p [] = refl
same_items version p (i ∷ listed) = λ j. condition_item version p (found_of p.nodes i) ∷ same_items version p listed j

pub stored_conditions : (version : Version) (p : Source) (nodes : Store) (items : List Item) (listed : List ListedCondition) → AreConditions p (map (found_of p.nodes) listed)
    → AreItems nodes items (map (condition_item_form p.names p.nodes (layout_of version p.commands)) listed) → AreStoredConditions version p nodes items
stored_conditions version p nodes items listed are h = record {
  stored = All-from_recursion (λ i. i.term.0 < length nodes) items h.stored;
  are = record { conditions = map (found_of p.nodes) listed; listed = are; written = h.are ∙ same_items version p listed };
}

pub stored_goals : (version : Version) (p : Source) (nodes : Store) (items : List Item) (goals : List Statement) → AreGoals p goals
    → AreItems nodes items (map (goal_item_form p.names p.nodes (layout_of version p.commands) (suc (length p.commands))) goals) → AreStoredGoals version p nodes items
stored_goals version p nodes items goals are h = record {
  stored = All-from_recursion (λ i. i.term.0 < length nodes) items h.stored;
  are = record { goals = goals; listed = are; written = h.are };
}

-- the printer's names and terms are the program's
module _ (p : Source) (names : List Name) (terms : Store) (x : names ≡ p.names) (y : terms ≡ p.nodes) where
  pub rows_by_names : (rows : List ListedCondition) → AllByRecursion (λ i. IsPrintableCondition p.names p.nodes i.condition) rows
      → AllByRecursion (λ i. IsPrintableCondition names terms i.condition) rows
  rows_by_names rows h = subst₂ (λ (ns : List Name) (ts : Store). AllByRecursion (λ i. IsPrintableCondition ns ts i.condition) rows) (sym x) (sym y) h

  pub goals_by_names : (goals : List Statement) → AllByRecursion (IsPrintableGoal p.names p.nodes) goals → AllByRecursion (IsPrintableGoal names terms) goals
  goals_by_names goals h = subst₂ (λ (ns : List Name) (ts : Store). AllByRecursion (IsPrintableGoal ns ts) goals) (sym x) (sym y) h

  pub conditions_by : (version : Version) (l : Layout) (nodes : Store) (items : List Item) (rows listed : List ListedCondition)
      → l ≡ layout_of version p.commands → rows ≡ listed → AreConditions p (map (found_of p.nodes) listed)
      → AreItems nodes items (map (condition_item_form names terms l) rows) → AreStoredConditions version p nodes items
  conditions_by version l nodes items rows listed z r are h =
      stored_conditions version p nodes items listed are
      (subst (AreItems nodes items) (λ i. map (condition_item_form (x i) (y i) (z i)) (r i)) h)

  pub goals_by : (version : Version) (l : Layout) (line : ℕ) (nodes : Store) (items : List Item) (rows goals : List Statement)
      → l ≡ layout_of version p.commands → line ≡ suc (length p.commands) → rows ≡ goals → AreGoals p goals
      → AreItems nodes items (map (goal_item_form names terms l line) rows) → AreStoredGoals version p nodes items
  goals_by version l line nodes items rows goals z n r are h = stored_goals version p nodes items goals are (subst (AreItems nodes items) (λ i. map (goal_item_form (x i) (y i) (z i) (n i)) (r i)) h)
