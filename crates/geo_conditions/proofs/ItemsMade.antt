-- Terms and items of conditions and goals, one after another.
use Rattle.std.proofs.Common.{◌≡◌, ◌<◌, List, [], ◌∷◌, ◌++◌, length, map, refl, ◌∙◌}
use Rattle.std.specs.List.{AllByRecursion}
use Rattle.std.proofs.lemmas.List.{map_push}
use Rattle.geo_terms.specs.Constructions.{Construction}
use Rattle.geo_terms.specs.Stores.{Store}
use Rattle.geo_program.specs.declared.statements.Statement.{Statement}
use Rattle.geo_program.specs.declared.statements.Statement.TheVariants as statement
use Rattle.geo_lowering.specs.Inner.Renaming.{item_at}
use Rattle.geo_lowering.proofs.ConditionValues.{each_append}
use Rattle.geo_conditions.specs.declared.conditions.Condition.{Condition}
use Rattle.geo_conditions.specs.declared.conditions.Condition.TheVariants as condition
use Rattle.geo_conditions.specs.declared.items.Item.{Item}
use Rattle.geo_conditions.specs.declared.item_terms.Places.{Places}
use Rattle.geo_conditions.specs.Inner.ItemForms.{AreItems, ArePlaced, HasItem}
use Rattle.geo_conditions.specs.Inner.ItemTerms.{AreSidesWithin, IsItemStored, IsTermWithin, Keeps, condition_item_term, goal_item_term}
use Rattle.geo_conditions.specs.Lists.{ItemForm, item_form}
use Rattle.geo_conditions.proofs.TermsInterned.{still_stored}

module _ (terms nodes : Store) (places : Places) (h : ArePlaced terms nodes places) where
  pub condition_stored : (c : Condition) → IsTermWithin (length places.terms.now) c → IsItemStored nodes (condition_item_term places.points.now places.lines.now places.terms.now c)
  condition_stored (condition.Different a b) k = tt
  condition_stored (condition.NotCollinear a b c) k = tt
  condition_stored (condition.NotParallel a b c d) k = tt
  condition_stored (condition.Crossing a b) k = tt
  condition_stored (condition.Nonzero e) k = h.renamed.stored e.0 k

  pub goal_stored : (g : Statement) → AreSidesWithin (length places.terms.now) g → IsItemStored nodes (goal_item_term places.points.now places.terms.now g)
  goal_stored (statement.Equal e f) k = (h.renamed.stored e.0 k.0, h.renamed.stored f.0 k.1)
  goal_stored (statement.Collinear a b c) k = tt
  goal_stored (statement.Parallel a b c d) k = tt
  goal_stored (statement.Perpendicular a b c d) k = tt
  goal_stored (statement.Identical a b) k = tt
  goal_stored (statement.Midpoint m a b) k = tt
  goal_stored (statement.SameLength a b c d) k = tt
  goal_stored (statement.Harmonic a b c d) k = tt
  goal_stored (statement.Concyclic a b c d) k = tt

-- renamed terms stay where they are
pub still_placed : (terms : Store) (places : Places) (one two : Construction) → Keeps one two → ArePlaced terms one.nodes places → ArePlaced terms two.nodes places
still_placed terms places one two keeps h = record {
  count = h.count;
  renamed = record {
    stored = λ k b. still_stored one two (item_at places.terms.now (record { 0 = k })) keeps (h.renamed.stored k b);
    trees = λ k b. keeps.trees (item_at places.terms.now (record { 0 = k })) (h.renamed.stored k b) ∙ h.renamed.trees k b;
  };
}

-- items stay what they are
same_forms : (one two : Construction) (items : List Item) → Keeps one two → AllByRecursion (λ i. i.term.0 < length one.nodes) items → map (item_form two.nodes) items ≡ map (item_form one.nodes) items
same_forms one two [] keeps h = refl
same_forms one two (x ∷ xs) keeps h = λ i. record { text = x.text; term = keeps.trees x.term h.0 i; line = x.line } ∷ same_forms one two xs keeps h.1 i

all_stored : (one two : Construction) (items : List Item) → Keeps one two → AllByRecursion (λ i. i.term.0 < length one.nodes) items → AllByRecursion (λ i. i.term.0 < length two.nodes) items
all_stored one two [] keeps h = tt
all_stored one two (x ∷ xs) keeps h = (still_stored one two x.term keeps h.0, all_stored one two xs keeps h.1)

pub still_items : (one two : Construction) (items : List Item) (forms : List ItemForm) → Keeps one two → AreItems one.nodes items forms → AreItems two.nodes items forms
still_items one two items forms keeps h = record { stored = all_stored one two items keeps h.stored; are = same_forms one two items keeps h.stored ∙ h.are }

-- one more item
pub more_items : (one two : Construction) (items : List Item) (forms : List ItemForm) (item : Item) (form : ItemForm) → AreItems one.nodes items forms → HasItem one two item form
    → AreItems two.nodes (items ++ item ∷ []) (forms ++ form ∷ [])
more_items one two items forms item form h k =
    let still = still_items one two items forms k.keeps h in
    record {
      stored = each_append (λ i. i.term.0 < length two.nodes) items (item ∷ []) still.stored (k.stored, tt);
      are = map_push (item_form two.nodes) items item ∙ (λ i. still.are i ++ k.is i ∷ []);
    }
