-- Goals are asked one after another.
use Rattle.std.proofs.Common.{◌≡◌, ℕ, suc, ◌+◌, ◌<◌, ◌≤◌, Option, Some, None, List, [], ◌∷◌, ◌++◌, drop, get_or, length, map, refl, sym}
use Rattle.std.proofs.Common.{◌∙◌, ap, ap₂, subst, subst₂, add-one, append-nil, append_assoc, drop-cons, arith}
use Rattle.std.specs.List.{AllByRecursion}
use Rattle.std.specs.Option.{option_to_list}
use Rattle.std.proofs.lemmas.List.{map_push}
use Rattle.geo_points.specs.declared.ids.PointId.{PointId}
use Rattle.geo_points.specs.declared.ids.TermId.{TermId}
use Rattle.geo_terms.specs.Constructions.{Construction}
use Rattle.geo_terms.specs.Stores.{Store, tree_of}
use Rattle.geo_terms.specs.Trees.{Tree}
use Rattle.geo_program.specs.declared.commands.Command.{Command}
use Rattle.geo_program.specs.declared.commands.Command.TheVariants.{Point}
use Rattle.geo_program.specs.declared.names.NameKind.TheVariants as kind
use Rattle.geo_lowering.specs.Counting.{counted, named}
use Rattle.geo_lowering.specs.Inner.Renaming.{item_at}
use Rattle.geo_lowering.specs.Lowering.{Layout, renamed}
use Rattle.geo_lowering.proofs.ConditionValues.{each_append}
use Rattle.geo_conditions.specs.Inner.ItemTerms.{HasTerm, Keeps}
use Rattle.geo_conditions.proofs.CommandsListed.{command_at}
use Rattle.geo_conditions.proofs.TermsInterned.{keeps_all, keeps_both, still_stored}
use Rattle.geo_library.specs.CitedGoals.{along_goal, command_goals, turned_goal, weights_goal}
use Rattle.geo_library.specs.declared.asking.AskedGoal.{AskedGoal}
use Rattle.geo_library.specs.declared.goals.Goal.{Goal}
use Rattle.geo_library.specs.declared.goals.Goal.TheVariants.{OnLine, Upright, Along, Turned, Midpoint, Halfway, Bisector, Circle, Centroid, Inverse, Weights}
use Rattle.geo_library.specs.declared.goals.Number.{Number}
use Rattle.geo_library.specs.declared.goals.Number.TheVariants.{One, Stored}
use Rattle.geo_library.specs.declared.places.Places.{Places}
use Rattle.geo_library.specs.Inner.Asking.{AreAsked, ArePlaced, Asks, GoalForm, asked_form, goal_forms, goals_from, layout_at}
use Rattle.geo_library.specs.Inner.Goals.{IsGoalWithin, IsNumberWithin, goal_tree, goal_trees, number_tree, placed_goal, placed_number}

-- PLACED GOALS
module _ (terms nodes : Store) (places : Places) (h : ArePlaced terms nodes places) where
  term_stored : (e : TermId) → e.0 < length terms → (item_at places.terms.now e).0 < length nodes
  term_stored e b = let n = h.count in h.renamed.stored e.0 (omega (arith, n, b))

  term_tree : (e : TermId) → e.0 < length terms → tree_of nodes (item_at places.terms.now e) ≡ renamed (layout_at places) (tree_of terms e)
  term_tree e b = let n = h.count in h.renamed.trees e.0 (omega (arith, n, b))

  number_stored : (r : Number) → IsNumberWithin (length terms) r → IsNumberWithin (length nodes) (placed_number places.terms.now r)
  number_stored One k = tt
  number_stored (Stored e) k = term_stored e k

  number_renamed : (r : Number) → IsNumberWithin (length terms) r → number_tree nodes (placed_number places.terms.now r) ≡ renamed (layout_at places) (number_tree terms r)
  number_renamed One k = refl
  number_renamed (Stored e) k = term_tree e k

  pub goal_stored : (g : Goal) → IsGoalWithin (length terms) g → IsGoalWithin (length nodes) (placed_goal places.points.now places.terms.now g)
  goal_stored (OnLine a b x) k = tt
  goal_stored (Upright x y a b) k = tt
  goal_stored (Along x w u v r) k = number_stored r k
  goal_stored (Turned x u v r) k = term_stored r k
  goal_stored (Midpoint m a b) k = tt
  goal_stored (Halfway x a p q) k = tt
  goal_stored (Bisector x a b) k = tt
  goal_stored (Circle x o a) k = tt
  goal_stored (Centroid x a b c) k = tt
  goal_stored (Inverse x p o a) k = tt
  goal_stored (Weights x a b c r s) k = (term_stored r k.0, term_stored s k.1)

  abbrev at : PointId → PointId
  at a = record { 0 = (layout_at places).point a.0 }

  pub goal_renamed : (g : Goal) → IsGoalWithin (length terms) g → goal_tree nodes (placed_goal places.points.now places.terms.now g) ≡ renamed (layout_at places) (goal_tree terms g)
  goal_renamed (OnLine a b x) k = refl
  goal_renamed (Upright x y a b) k = refl
  goal_renamed (Along x w u v r) k = ap (along_goal (at x) (at w) (at u) (at v)) (number_renamed r k)
  goal_renamed (Turned x u v r) k = ap (turned_goal (at x) (at u) (at v)) (term_tree r k)
  goal_renamed (Midpoint m a b) k = refl
  goal_renamed (Halfway x a p q) k = refl
  goal_renamed (Bisector x a b) k = refl
  goal_renamed (Circle x o a) k = refl
  goal_renamed (Centroid x a b c) k = refl
  goal_renamed (Inverse x p o a) k = refl
  goal_renamed (Weights x a b c r s) k = ap₂ (weights_goal (at x) (at a) (at b) (at c)) (term_tree r k.0) (term_tree s k.1)

-- a goal within as many terms is within those that are placed
pub within_places : (terms nodes : Store) (places : Places) → ArePlaced terms nodes places → (g : Goal) → IsGoalWithin (length terms) g → IsGoalWithin (length places.terms.now) g
within_places terms nodes places h g k = subst (λ n. IsGoalWithin n g) (sym h.count) k

-- placed terms stay where they are
pub still_placed : (terms : Store) (places : Places) (one two : Construction) → Keeps one two → ArePlaced terms one.nodes places → ArePlaced terms two.nodes places
still_placed terms places one two keeps h = record {
  count = h.count;
  renamed = record {
    stored = λ k b. still_stored one two (item_at places.terms.now (record { 0 = k })) keeps (h.renamed.stored k b);
    trees = λ k b. keeps.trees (item_at places.terms.now (record { 0 = k })) (h.renamed.stored k b) ∙ h.renamed.trees k b;
  };
}

-- ASKED GOALS
same_forms : (one two : Construction) (asked : List AskedGoal) → Keeps one two → AllByRecursion (λ i. i.term.0 < length one.nodes) asked
    → map (asked_form two.nodes) asked ≡ map (asked_form one.nodes) asked
same_forms one two [] keeps h = refl
same_forms one two (x ∷ xs) keeps h = λ i. record { line = x.line; term = keeps.trees x.term h.0 i } ∷ same_forms one two xs keeps h.1 i

all_stored : (one two : Construction) (asked : List AskedGoal) → Keeps one two → AllByRecursion (λ i. i.term.0 < length one.nodes) asked → AllByRecursion (λ i. i.term.0 < length two.nodes) asked
all_stored one two [] keeps h = tt
all_stored one two (x ∷ xs) keeps h = (still_stored one two x.term keeps h.0, all_stored one two xs keeps h.1)

pub still_asked : (one two : Construction) (asked : List AskedGoal) (forms : List GoalForm) → Keeps one two → AreAsked one.nodes asked forms → AreAsked two.nodes asked forms
still_asked one two asked forms keeps h = record { stored = all_stored one two asked keeps h.stored; are = same_forms one two asked keeps h.stored ∙ h.are }

-- nothing is asked
pub asks_nothing : (s : Construction) (asked : List AskedGoal) → Asks s s asked asked []
asks_nothing s asked = record { keeps = keeps_all s; more = λ done h. subst (AreAsked s.nodes asked) (sym (append-nil done)) h }

-- one goal is
pub asks_one : (one two : Construction) (before after : List AskedGoal) (line : ℕ) (id : TermId) (made wanted : Tree) → HasTerm one two id made → made ≡ wanted
    → after ≡ before ++ (record { line = line; term = id }) ∷ [] → Asks one two before after (record { line = line; term = wanted } ∷ [])
asks_one one two before after line id made wanted h is pushed = record {
  keeps = h.keeps;
  more = λ done k.
      let still = still_asked one two before done h.keeps k in
      subst (λ xs. AreAsked two.nodes xs (done ++ (record { line = line; term = wanted }) ∷ [])) (sym pushed)
      (record {
        stored = each_append (λ (i : AskedGoal). i.term.0 < length two.nodes) before (record { line = line; term = id } ∷ []) still.stored (h.stored, tt);
        are = map_push (asked_form two.nodes) before (record { line = line; term = id }) ∙ (λ i. still.are i ++ record { line = line; term = (h.is ∙ is) i } ∷ []);
      });
}

-- and then others
pub asks_both : (one two three : Construction) (xs ys zs : List AskedGoal) (f g : List GoalForm) → Asks one two xs ys f → Asks two three ys zs g → Asks one three xs zs (f ++ g)
asks_both one two three xs ys zs f g a b = record {
  keeps = keeps_both one two three a.keeps b.keeps;
  more = λ done h. subst (AreAsked three.nodes zs) (append_assoc done f g) (b.more (done ++ f) (a.more done h));
}

-- the goals of a command come first, and then those behind it
forms_split : (l : Layout) (line : ℕ) (nodes : Store) (first second : Option Goal)
    → goal_forms l line (goal_trees nodes (first, second)) ≡ goal_forms l line (map (goal_tree nodes) (option_to_list first)) ++ goal_forms l line (map (goal_tree nodes) (option_to_list second))
forms_split l line nodes None second = refl
forms_split l line nodes (Some g) second = refl

-- what is asked so far: with what the commands from here on ask it is all
pub record AreAskedSoFar (nodes : Store) (l : Layout) (commands left : List Command) (x line : ℕ) (start now : Construction) (asked : List AskedGoal) : Type 0 where
  pub keeps : Keeps start now
  pub done : List GoalForm
  pub split : goals_from nodes l 0 1 commands ≡ done ++ goals_from nodes l x line left
  pub are : AreAsked now.nodes asked done

pub begins : (nodes : Store) (l : Layout) (commands : List Command) (s : Construction) (asked : List AskedGoal) → asked ≡ [] → AreAskedSoFar nodes l commands commands 0 1 s s asked
begins nodes l commands s asked e = record {
  keeps = keeps_all s;
  done = [];
  split = refl;
  are = subst (λ xs. AreAsked s.nodes xs []) (sym e) (record { stored = tt; are = refl });
}

pub goes_on : (nodes : Store) (l : Layout) (commands : List Command) (k x y : ℕ) (start one two three : Construction) (xs ys zs : List AskedGoal) (goals : Option Goal × Option Goal)
    → k < length commands → AreAskedSoFar nodes l commands (drop k commands) x (k + 1) start one xs
    → command_goals nodes (record { 0 = x }) (command_at commands k) ≡ goal_trees nodes goals
    → Asks one two xs ys (goal_forms l (k + 1) (map (goal_tree nodes) (option_to_list goals.0)))
    → Asks two three ys zs (goal_forms l (k + 1) (map (goal_tree nodes) (option_to_list goals.1)))
    → y ≡ counted kind.Point (named (command_at commands k)) x
    → AreAskedSoFar nodes l commands (drop (k + 1) commands) y ((k + 1) + 1) start three zs
goes_on nodes l commands k x y start one two three xs ys zs goals b h e a g is =
    let c = command_at commands k in
    let z = counted kind.Point (named c) x in
    let forms = goal_forms l (k + 1) (command_goals nodes (record { 0 = x }) c) in
    let left = goals_from nodes l z (suc (k + 1)) (drop (suc k) commands) in
    let both = asks_both one two three xs ys zs _ _ a g in
    let are : forms ≡ goal_forms l (k + 1) (map (goal_tree nodes) (option_to_list goals.0)) ++ goal_forms l (k + 1) (map (goal_tree nodes) (option_to_list goals.1)) =
    ap (goal_forms l (k + 1)) e ∙ forms_split l (k + 1) nodes goals.0 goals.1 in
    let split : goals_from nodes l 0 1 commands ≡ (h.done ++ forms) ++ left =
    h.split ∙ ap (λ cs. h.done ++ goals_from nodes l x (k + 1) cs) (drop-cons commands k Point b) ∙ sym (append_assoc h.done forms left) in
    let made : AreAskedSoFar nodes l commands (drop (suc k) commands) z (suc (k + 1)) start three zs = record {
      keeps = keeps_both start one three h.keeps both.keeps;
      done = h.done ++ forms;
      split = split;
      are = subst (λ fs. AreAsked three.nodes zs (h.done ++ fs)) (sym are) (both.more h.done h.are);
    } in
    subst (λ v. AreAskedSoFar nodes l commands (drop (k + 1) commands) v ((k + 1) + 1) start three zs) (sym is)
    (subst₂ (λ m n. AreAskedSoFar nodes l commands (drop n commands) z m start three zs) (sym (add-one (k + 1))) (sym (add-one k)) made)

pub all_asked : (nodes : Store) (l : Layout) (commands left : List Command) (x line : ℕ) (start now : Construction) (asked : List AskedGoal) → left ≡ []
    → AreAskedSoFar nodes l commands left x line start now asked → AreAsked now.nodes asked (goals_from nodes l 0 1 commands)
all_asked nodes l commands left x line start now asked e h =
    subst (AreAsked now.nodes asked) (sym (h.split ∙ ap (λ cs. h.done ++ goals_from nodes l x line cs) e ∙ append-nil h.done)) h.are
