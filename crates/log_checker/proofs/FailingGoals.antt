-- The goal that a verdict names is the first that fails.
use Rattle.std.proofs.Common.{◌≡◌, ⊎_elim, ℕ, suc, ◌<◌, ℤ, List, ◌∷◌, length, subst, sym, arith}
use Rattle.std.proofs.lemmas.List.Elements.{All-from_recursion}
use Rattle.geo_points.specs.Placements.{Placement}
use Rattle.geo_points.proofs.Same.{cross_product-same}
use Rattle.geo_poly.specs.declared.variables.Var.{Var}
use Rattle.geo_program.specs.declared.statements.Statement.{Statement}
use Rattle.geo_program.specs.WellFormed.{Source, IsWellFormed}
use Rattle.geo_lowering.specs.Building.{forgotten}
use Rattle.geo_lowering.proofs.LawProofs.{to_forms}
use Rattle.geo_conditions.specs.Laws.{IsLoweredTo, IsZeroGoal}
use Rattle.geo_conditions.specs.Lists.{AreGoals}
use Rattle.geo_conditions.specs.Statements.{StatementHolds}
use Rattle.geo_conditions.specs.Truth.{HasValues, Meets}
use Rattle.geo_conditions.proofs.Agreement.{Agrees, IsStatementOver, parallel_zero}
use Rattle.geo_conditions.proofs.Extensions.{extension_agrees}
use Rattle.geo_conditions.proofs.LawProofs.{placements_lower}
use Rattle.geo_conditions.proofs.ValueLaws.{values_fix_placements}
use Rattle.proof_log.specs.declared.log.Line.{Line}
use Rattle.proof_log.specs.declared.log.Verdict.TheVariants.{False}
use Rattle.geo_logs.specs.Laws.{GivesConditions, GivesFailure}
use Rattle.geo_logs.specs.Logs.{Subject}
use Rattle.log_checker.specs.Shown.{IsShown}
use Rattle.log_checker.specs.VerdictNumbers.{FailsAt}
use Rattle.log_checker.proofs.PairGoals.{followed_hold, holds_or_statement}
use Rattle.log_checker.proofs.Places.{At, below, each_at, each_of, in_front, parted}
use Rattle.log_checker.proofs.Printed.{has_sample_values, sample_values}
use Rattle.log_checker.proofs.Realised.{J, X, Y, broken, failing, failing_not_zero, listed_over, lowered_to, made}
use Rattle.log_checker.proofs.Verdicts.{Parts, zero_below}

module _ (p : Source) (subject : Subject) (w : IsWellFormed p) (s : Parts p subject) where
  agrees : (V L : Placement) → IsLoweredTo s.version p s.form V L → Agrees s.version p V L (X p subject w s) (Y p subject w s) (J p subject w s)
  agrees V L i = extension_agrees s.version p V L w i.extends (to_forms s.version p s.form L s.lowered i.steps)

  over_at : (k : ℕ) (g : Statement) → At s.goals k g → IsStatementOver p.nodes (X p subject w s) (Y p subject w s) g
  over_at k g at = each_at (IsStatementOver p.nodes (X p subject w s) (Y p subject w s)) s.goals k g (listed_over p subject w s) at

  module _ (lines : List Line) (g : ℕ) (shown : IsShown subject lines (False g)) where
    -- the goals before the one that is named hold wherever the program is met
    holds_before : (i : ℕ) (goal : Statement) → g ≡ suc i → At s.goals i goal → (V : Placement) → Meets p V
        → (k : ℕ) (h : Statement) → k < i → At s.goals k h → StatementHolds p V h
    holds_before i goal e at V m k h lt at_k =
        let d = placements_lower s.version p s.form V s.found w s.lowered s.listed m in
        let low : IsLoweredTo s.version p s.form V d.0 = record { well_formed = w; form = s.lowered; extends = d.1; steps = d.2 } in
        let a = agrees V d.0 low in
        let P : Statement → Type 0 = λ x. IsStatementOver p.nodes (X p subject w s) (Y p subject w s) x → IsZeroGoal s.version p d.0 x → StatementHolds p V x in
        followed_hold p P
        (λ A B C D o z. (parallel_zero s.version p V d.0 (X p subject w s) (Y p subject w s) (J p subject w s) a A.0 B.0 C.0 D.0 o.0 o.1 o.2 o.3).1 z) s.goals s.listed_goals
        k i h goal lt at_k at (over_at k h at_k)
        (zero_below p subject w s lines (False g) shown V d.0 low m i (λ j b. omega (arith, b, e)) k h lt at_k)

    module _ (values : List (Var × ℤ)) (gives : GivesConditions subject values) (h : GivesFailure subject values (False g)) where
      abbrev L : Placement
      L = (made p subject w s values gives).0

      -- it fails wherever the values are had and the program is met
      failing_fails : (V : Placement) → HasValues p V (sample_values s.version p values) → Meets p V → StatementHolds p V (failing p subject w s values gives g h).0 → ⊥
      failing_fails V has m holds =
          let V0 = forgotten s.version p L in
          let all = made p subject w s values gives in
          let goal = failing p subject w s values gives g h in
          let same = values_fix_placements p (sample_values s.version p values) V V0 w has m (has_sample_values s.version p values V0 all.3 all.4) all.2 in
          let a = agrees V0 L (lowered_to p subject w s values gives) in
          let P : Statement → Type 0 = λ x. IsStatementOver p.nodes (X p subject w s) (Y p subject w s) x → StatementHolds p V x → IsZeroGoal s.version p L x in
          ⊎_elim (λ (q : P goal.0). failing_not_zero p subject w s values gives g h (q (over_at h.0 goal.0 goal.1) holds))
          (λ (e : goal.0 ≡ p.statement). (broken p subject w s values gives g h).fails V has m (subst (StatementHolds p V) e holds))
          (holds_or_statement p P
          (λ A B C D o z. (parallel_zero s.version p V0 L (X p subject w s) (Y p subject w s) (J p subject w s) a A.0 B.0 C.0 D.0 o.0 o.1 o.2 o.3).0
          (cross_product-same _ _ _ _ _ _ _ _ (same.same_points A.0 o.0) (same.same_points B.0 o.1) (same.same_points C.0 o.2) (same.same_points D.0 o.3) z)) s.goals s.listed_goals h.0 goal.0 goal.1)

      pub fails_at : FailsAt p (sample_values s.version p values) g
      fails_at =
          let goal = failing p subject w s values gives g h in
          let parts = parted s.goals h.0 goal.0 goal.1 in
          record {
            before = parts.before;
            goal = goal.0;
            after = parts.after;
            listed = subst (λ gs. AreGoals p gs) parts.whole s.listed_goals;
            place = let e = h.2 in let q = parts.place in omega (arith, e, q);
            hold = λ V m. All-from_recursion (StatementHolds p V) parts.before
                (each_of (StatementHolds p V) parts.before
                (λ k x at. holds_before h.0 goal.0 h.2 goal.1 V m k x
                (let b : k < length parts.before = below parts.before k x at in let q = parts.place in omega (arith, b, q))
                (subst (λ gs. At gs k x) (sym parts.whole) (in_front parts.before (goal.0 ∷ parts.after) k x at))));
            fails = failing_fails;
          }
