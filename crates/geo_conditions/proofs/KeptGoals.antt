-- Goals that are kept, and what a listed goal does to the list.
use Rattle.std.proofs.Common.{◌≡◌, ℕ, Bool, true, false, Contains, List, [], ◌∷◌, ◌++◌, map, slice_index_or, refl, sym, ap, subst, subst₂, ◌∙◌, if◌then◌else◌, true≢false}
use Rattle.std.specs.List.{list_any}
use Rattle.std.proofs.lemmas.List.{append-nil}
use Rattle.std.proofs.lemmas.List.Folds.{list_any_at}
use Rattle.first_seen.specs.Keys.{with_key}
use Rattle.first_seen.proofs.Members.{Contains-list_any}
use Rattle.geo_points.specs.declared.ids.PointId.{PointId}
use Rattle.geo_points.specs.declared.ids.TermId.{TermId}
use Rattle.geo_program.specs.declared.statements.Statement.{Statement}
use Rattle.geo_terms.specs.declared.nodes.Node.{Node}
use Rattle.geo_terms.specs.declared.nodes.Node.TheVariants.{Int, Param, S, P, R, Neg, Add, Sub, Mul, Div}
use Rattle.geo_terms.specs.Stores.{Store, node_tree, tree_of}
use Rattle.geo_terms.specs.Trees.{Tree}
use Rattle.geo_conditions.specs.declared.goal_list.GoalList.{GoalList}
use Rattle.geo_conditions.specs.Inner.ConditionLists.{IsMarked}
use Rattle.geo_conditions.specs.Inner.GoalLists.{AreGoalsListed, IsGoalList, ListsGoals}
use Rattle.geo_conditions.specs.Lists.{IsListed}
use Rattle.geo_conditions.specs.Statements.{ratio_goals}
use Rattle.geo_conditions.proofs.Marks.{marked_more}
use Rattle.geo_conditions.proofs.Listings.{Leads, leads_both, leads_contain, leads_keep, leads_known, leads_new, leads_none}

abbrev pub itself : {A : Type 0} → A → A
itself a = a

map_itself : {A : Type 0} (xs : List A) → xs ≡ map itself xs
map_itself [] = refl
map_itself (x ∷ xs) = ap (λ l. x ∷ l) (map_itself xs)

-- a term without parts that is no ratio gives no goal
pub leaf_goals : (trees : List Tree) (node : Node) → ((a b c d : PointId) → node ≡ R a b c d → ⊥) → ((e : TermId) → node ≡ Neg e → ⊥) → ((e f : TermId) → node ≡ Add e f → ⊥)
    → ((e f : TermId) → node ≡ Sub e f → ⊥) → ((e f : TermId) → node ≡ Mul e f → ⊥) → ((e f : TermId) → node ≡ Div e f → ⊥) → ratio_goals (node_tree trees node) ≡ []
leaf_goals trees (Int n) r g a s m d = refl
leaf_goals trees (Param t) r g a s m d = refl
leaf_goals trees (S x y z) r g a s m d = refl
leaf_goals trees (P x y z) r g a s m d = refl
leaf_goals trees (R x y z w) r g a s m d = absurd (r x y z w refl)
leaf_goals trees (Neg e) r g a s m d = absurd (g e refl)
leaf_goals trees (Add e f) r g a s m d = absurd (a e f refl)
leaf_goals trees (Sub e f) r g a s m d = absurd (s e f refl)
leaf_goals trees (Mul e f) r g a s m d = absurd (m e f refl)
leaf_goals trees (Div e f) r g a s m d = absurd (d e f refl)

module _ (nodes : Store) where
  abbrev IsWalked : List Statement → TermId → Type 0
  IsWalked goals e = AreGoalsListed goals (ratio_goals (tree_of nodes e))

  still_listed : (old new : List Statement) → ((g : Statement) → Contains (map itself old) g → Contains (map itself new) g) → (gs : List Statement) → AreGoalsListed old gs → AreGoalsListed new gs
  still_listed old new f [] h = tt
  still_listed old new f (g ∷ gs) h = (f g h.0, still_listed old new f gs h.1)

  still_walked : (old new : List Statement) → ((g : Statement) → Contains (map itself old) g → Contains (map itself new) g)
      → (marks : List Bool) → ((e : TermId) → IsMarked marks e → IsWalked old e) → (e : TermId) → IsMarked marks e → IsWalked new e
  still_walked old new f marks h e marked = still_listed old new f (ratio_goals (tree_of nodes e)) (h e marked)

  lists_by : (old new : GoalList) (xs : List Statement) → IsGoalList nodes old → Leads itself old.goals xs new.goals → new.walked ≡ old.walked → ListsGoals nodes old new xs
  lists_by old new xs h leads walked = record {
    valid = record {
      store = h.store;
      walked = subst (λ marks. (e : TermId) → IsMarked marks e → IsWalked new.goals e) (sym walked)
          (still_walked old.goals new.goals (leads_keep itself old.goals xs new.goals leads) old.walked h.walked);
    };
    leads = leads;
  }

  pub lists_none : (list : GoalList) → IsGoalList nodes list → ListsGoals nodes list list []
  lists_none list h = record { valid = h; leads = leads_none itself list.goals }

  pub lists_both : (one two three : GoalList) (xs ys : List Statement) → ListsGoals nodes one two xs → ListsGoals nodes two three ys → ListsGoals nodes one three (xs ++ ys)
  lists_both one two three xs ys f g = record {
    valid = g.valid;
    leads = leads_both itself one.goals xs two.goals ys three.goals f.leads g.leads;
  }

  -- the goals of a term are those of its tree
  pub lists_tree : (old new : GoalList) (e : TermId) (t : Tree) → tree_of nodes e ≡ t → ListsGoals nodes old new (ratio_goals t) → ListsGoals nodes old new (ratio_goals (tree_of nodes e))
  lists_tree old new e t is h = subst (λ u. ListsGoals nodes old new (ratio_goals u)) (sym is) h

  -- by an `==` that is equality
  module _ (eq : Statement → Statement → Bool) (same : (x y : Statement) → eq x y ≡ true → x ≡ y) (self : (x : Statement) → eq x x ≡ true) where
    absent : (all : List Statement) (g : Statement) → list_any (eq g) all ≡ false → Contains all g → ⊥
    absent all g none there = true≢false (sym (list_any_at (eq g) all there.0 g there.1 (ap (eq g) there.2 ∙ self g)) ∙ none)

    pub adds : (old new : GoalList) (g : Statement) → IsGoalList nodes old → new.goals ≡ with_key eq old.goals g → new.walked ≡ old.walked → ListsGoals nodes old new (g ∷ [])
    adds old new g h keys walked =
        lists_by old new (g ∷ []) h (subst (Leads itself old.goals (g ∷ [])) (sym keys) (by (list_any (eq g) old.goals) refl)) walked
      where
        by : (b : Bool) → list_any (eq g) old.goals ≡ b → Leads itself old.goals (g ∷ []) (if b then old.goals else old.goals ++ g ∷ [])
        by true e = leads_known itself old.goals (g ∷ []) (subst (λ l. Contains l g) (map_itself old.goals) (Contains-list_any eq same old.goals g e), tt)
        by false e = leads_new itself old.goals g (λ u. absent old.goals g e (subst (λ l. Contains l g) (sym (map_itself old.goals)) u))

  -- WALKED TERMS
  -- a term that was walked gives no more
  pub walked_before : (list : GoalList) (e : TermId) → IsGoalList nodes list → IsMarked list.walked e → ListsGoals nodes list list (ratio_goals (tree_of nodes e))
  walked_before list e h marked = record { valid = h; leads = leads_known itself list.goals (ratio_goals (tree_of nodes e)) (h.walked e marked) }

  -- a term whose goals are listed is marked
  pub walked_now : (old mid new : GoalList) (e : TermId) → ListsGoals nodes old mid (ratio_goals (tree_of nodes e)) → new.goals ≡ mid.goals
      → ((i : ℕ) → (i ≡ e.0 → ⊥) → slice_index_or new.walked i false ≡ slice_index_or mid.walked i false) → ListsGoals nodes old new (ratio_goals (tree_of nodes e))
  walked_now old mid new e f goals others =
      let done : IsWalked mid.goals e = (leads_contain itself old.goals (ratio_goals (tree_of nodes e)) mid.goals f.leads).1 in
      record {
        valid = record {
          store = f.valid.store;
          walked = subst (λ all. (t : TermId) → IsMarked new.walked t → IsWalked all t) (sym goals)
              (marked_more (IsWalked mid.goals) mid.walked new.walked e others f.valid.walked done);
        };
        leads = subst (Leads itself old.goals (ratio_goals (tree_of nodes e))) (sym goals) f.leads;
      }

  -- the goals of the ratios, and then the statement, are all that are listed
  pub listed_goals : (start one two three : GoalList) (xs ys all : List Statement) (g : Statement) → start.goals ≡ [] → ListsGoals nodes start one xs → ListsGoals nodes one two ys
      → ListsGoals nodes two three (g ∷ []) → all ≡ xs ++ ys → IsListed itself [] (all ++ g ∷ []) three.goals
  listed_goals start one two three xs ys all g none f h k is =
      let ends : IsListed itself start.goals (((xs ++ ys) ++ g ∷ []) ++ []) three.goals =
      (lists_both start two three (xs ++ ys) (g ∷ []) (lists_both start one two xs ys f h) k).leads [] three.goals refl in
      let whole : IsListed itself start.goals ((xs ++ ys) ++ g ∷ []) three.goals = subst
      (λ l. IsListed itself start.goals l three.goals) (append-nil ((xs ++ ys) ++ g ∷ [])) ends in
      subst₂ (λ l m. IsListed itself l (m ++ g ∷ []) three.goals) none (sym is) whole
