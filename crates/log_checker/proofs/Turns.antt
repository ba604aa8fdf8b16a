-- The terms of goals have values in turn.
use Rattle.std.proofs.Common.{◌≡◌, ◌⊎◌, inl, inr, ⊎_elim, List, [], ◌∷◌, ◌++◌, sym, ◌∙◌, subst}
use Rattle.std.specs.List.{AllByRecursion}
use Rattle.std.proofs.lemmas.List.Elements.{recursion_from_All, All-from_recursion}
use Rattle.geo_points.specs.Placements.{Placement}
use Rattle.geo_program.specs.declared.statements.Statement.{Statement}
use Rattle.geo_program.specs.WellFormed.{Source}
use Rattle.geo_terms.specs.Stores.{Store}
use Rattle.geo_terms.specs.Values.{HasTreeValue}
use Rattle.geo_lowering.specs.Lowering.{Layout, LoweredForm, layout_of}
use Rattle.geo_lowering.proofs.ConditionValues.{each_back}
use Rattle.geo_lowering.specs.declared.version.Version.{Version}
use Rattle.geo_conditions.specs.Laws.{IsLoweredTo, IsZeroGoal}
use Rattle.geo_conditions.specs.Lists.{AreGoals}
use Rattle.geo_conditions.specs.Statements.{pair_goals}
use Rattle.geo_conditions.specs.Terms.{goal_term}
use Rattle.geo_conditions.specs.Truth.{Meets}
use Rattle.geo_conditions.proofs.Listings.{all_hold, listed_hold}
use Rattle.geo_conditions.proofs.TermValues.{goals_have_values}
use Rattle.log_checker.proofs.PairGoals.{pairs_hold}
use Rattle.log_checker.proofs.Prefixes.{fronted}

-- the goal's term has a value
abbrev pub HasTerm : Layout → Store → Placement → Statement → Type 0
HasTerm l nodes L s = HasTreeValue L (goal_term l nodes s)

-- an item of two joined lists is one of the first, or stands behind all of it
module _ {A : Type 0} (H Z : A → Type 0) where
  in_first : (front more before after : List A) (x : A) → front ++ more ≡ before ++ x ∷ after
      → (AllByRecursion H front → H x) ⊎ (AllByRecursion Z before → AllByRecursion Z front)
  in_first [] more before after x e = inr (λ h. tt)
  in_first (y ∷ front) more [] after x e =
      let q : ◌≡◌ {A = List A} (y ∷ (front ++ more)) (x ∷ after) = e in
      let same : y ≡ x = cc in inl (λ h. subst H same h.0)
  in_first (y ∷ front) more (z ∷ before) after x e =
      let q : ◌≡◌ {A = List A} (y ∷ (front ++ more)) (z ∷ (before ++ x ∷ after)) = e in
      let same : y ≡ z = cc in
      let rest : front ++ more ≡ before ++ x ∷ after = cc in
      ⊎_elim (λ (h : AllByRecursion H front → H x). inl (λ k. h k.1))
      (λ (h : AllByRecursion Z before → AllByRecursion Z front). inr (λ k. (subst Z (sym same) k.0, h k.1))) (in_first front more before after x rest)

-- a goal's term has a value where the goals listed before it have the value 0
pub goals_in_turn : (version : Version) (p : Source) (l : LoweredForm) (V L : Placement) (goals : List Statement) → IsLoweredTo version p l V L → AreGoals p goals → Meets p V
    → (before after : List Statement) (g : Statement) → goals ≡ before ++ g ∷ after → AllByRecursion (IsZeroGoal version p L) before
    → HasTreeValue L (goal_term (layout_of version p.commands) p.nodes g)
goals_in_turn version p l V L goals i listed m before after g e zeros =
    let pairs = pair_goals p.nodes p.statement in
    let H : Statement → Type 0 = HasTerm (layout_of version p.commands) p.nodes L in
    let Z : Statement → Type 0 = IsZeroGoal version p L in
    let front = fronted (λ (s : Statement). s) pairs (p.statement ∷ []) [] goals listed in
    let terms : AllByRecursion H front.front = listed_hold (λ (s : Statement). s) H pairs [] front.front front.listing tt (pairs_hold H (λ a b c d. (tt, tt)) p.nodes p.statement) in
    ⊎_elim (λ (h : AllByRecursion H front.front → H g). h terms)
    (λ (h : AllByRecursion Z before → AllByRecursion Z front.front).
    let zero = (all_hold (λ (s : Statement). s) Z pairs [] front.front front.listing (h zeros)).1 in
    let all = recursion_from_All H goals (goals_have_values version p l V L goals i listed m (All-from_recursion Z pairs zero)) in
    (each_back H before (g ∷ after) (subst (λ gs. AllByRecursion H gs) e all)).0)
    (in_first H Z front.front front.more before after g (sym front.whole ∙ e))
