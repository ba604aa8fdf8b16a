-- The sample of an accepted log has one placement that meets its program.
use Rattle.std.proofs.Common.{◌≡◌, ◌↔◌, ℕ, suc, ◌+◌, ◌<◌, ◌≤◌, ℤ, pos, List, [], ◌∷◌, map, length, append-nil, refl, sym, ◌∙◌, ap, subst, arith}
use Rattle.std.proofs.lemmas.List.Elements.{recursion_from_All}
use Rattle.std.specs.List.{AllByRecursion}
use Rattle.geo_points.specs.declared.ids.PointId.{PointId}
use Rattle.ring_laws.specs.Fraction.{Same, whole}
use Rattle.geo_points.specs.Placements.{Placement, SamePoint}
use Rattle.ring_laws.proofs.Fractions.{fractions}
use Rattle.geo_poly.specs.declared.variables.Var.{Var}
use Rattle.geo_program.specs.declared.statements.Statement.{Statement}
use Rattle.geo_program.specs.WellFormed.{Source, IsWellFormed}
use Rattle.geo_terms.specs.declared.steps.Step.TheVariants as step
use Rattle.geo_terms.specs.Constructions.{MeetsSteps}
use Rattle.geo_terms.specs.Values.{HasTreeValue, tree_value}
use Rattle.geo_lowering.specs.Building.{forgotten, AreFreesSame}
use Rattle.geo_lowering.specs.Conditions.{IsConditionMet}
use Rattle.geo_lowering.specs.Counting.{points_past, points_from, numbers_from}
use Rattle.geo_lowering.specs.Lowering.{LoweredForm, layout_of, steps_of}
use Rattle.geo_lowering.specs.StepForms.{StepForm, step_form}
use Rattle.geo_lowering.proofs.Bounds.{Bounds, no_bounds}
use Rattle.geo_lowering.proofs.Exists.{params_past, lines_past}
use Rattle.geo_lowering.proofs.Fixed.{bounds_all, frees, past_all}
use Rattle.geo_lowering.proofs.FormLaws.{FreesAgree, past}
use Rattle.geo_lowering.proofs.Laying.{named_program, laid_program}
use Rattle.geo_lowering.proofs.Up.{forgotten-extends}
use Rattle.geo_points.proofs.Zeros.{not_same}
use Rattle.geo_lowering.specs.declared.version.Version.{Version}
use Rattle.geo_conditions.specs.Laws.{IsLoweredTo, IsNonzeroCondition, IsZeroGoal}
use Rattle.geo_conditions.specs.Lists.{Found, all_found}
use Rattle.geo_conditions.specs.Statements.{statement_goals}
use Rattle.geo_conditions.specs.Truth.{Breaks, Holds, Meets}
use Rattle.geo_conditions.proofs.Agreement.{IsConditionOver, IsStatementOver}
use Rattle.geo_conditions.proofs.ConditionScopes.{program_over, program_statement_over}
use Rattle.geo_conditions.proofs.LawProofs.{conditions_are_terms, goals_are_terms, placements_are_realised}
use Rattle.geo_conditions.proofs.Listings.{listed_hold}
use Rattle.geo_conditions.proofs.ValueLaws.{one_failure_breaks, values_fix_placements}
use Rattle.proof_log.specs.declared.log.Verdict.TheVariants.{False}
use Rattle.geo_logs.specs.Laws.{AreNamed, GivesConditions, GivesFailure, HoldBefore}
use Rattle.geo_logs.specs.Logs.{Item, Subject}
use Rattle.geo_logs.specs.Placements.{HasValuesBelow, HoldsAsCondition}
use Rattle.geo_terms.specs.TermBounds.{IsTermBelow}
use Rattle.geo_logs.specs.Samples.{sample_variables}
use Rattle.geo_logs.proofs.TermVariables.{term_sound}
use Rattle.log_checker.specs.Laws.{AcceptedSamplesAreMet, IsRealised}
use Rattle.log_checker.proofs.Made.{front_free, given_by, sample_placement, sample_point}
use Rattle.log_checker.proofs.Names.{condition_below, goal_below, goals_over}
use Rattle.log_checker.proofs.Places.{At, each_at, map-length, of_map}
use Rattle.log_checker.proofs.Printed.{has_sample_values, sample_values, values_printed}
use Rattle.log_checker.proofs.Ready.{log_condition, terms_nonzero, terms_ready}
use Rattle.log_checker.proofs.Verdicts.{Parts, log_goal, parts_of, shown_by}

past-length : (n : ℕ) (fs : List StepForm) → past n fs ≡ n + length fs
past-length n [] = omega arith
past-length n (f ∷ fs) = past-length (suc n) fs ∙ (let e : suc n + length fs ≡ n + suc (length fs) = omega arith in e)

module _ (p : Source) (subject : Subject) (w : IsWellFormed p) (s : Parts p subject) where
  abbrev v : Version
  v = s.version

  abbrev l : LoweredForm
  l = s.form

  abbrev N : ℕ
  N = points_past v 0 p.commands

  abbrev M : ℕ
  M = numbers_from 0 p.commands

  abbrev pub X : ℕ
  X = points_from 0 p.commands

  abbrev pub Y : ℕ
  Y = params_past 0 p.commands

  abbrev pub J : ℕ
  J = lines_past 0 p.commands

  bounds : Bounds (layout_of v p.commands) X Y J N M
  bounds = bounds_all v p p.commands 0 0 0 0 0 (no_bounds (layout_of v p.commands)) (named_program p w) (laid_program v p.commands)

  steps_past : past 0 (map (step_form l.construction.nodes) l.construction.steps) ≡ N
  steps_past = ap (λ fs. past 0 fs) s.lowered.steps ∙ past_all v p p.commands 0 0

  -- the points of the program are those of its steps
  pub steps_are : length subject.construction.steps ≡ N
  steps_are =
      let fs = map (step_form l.construction.nodes) l.construction.steps in
      let a : length subject.construction.steps ≡ length l.construction.steps = ap (λ c. length c.steps) s.built in
      let b : length fs ≡ length l.construction.steps = map-length (step_form l.construction.nodes) l.construction.steps in
      let c : past 0 fs ≡ 0 + length fs = past-length 0 fs in
      let d : past 0 fs ≡ N = steps_past in omega (arith, a, b, c, d)

  few : M ≤ subject.construction.params
  few = let e : subject.construction.params ≡ M = ap (λ c. c.params) s.built ∙ s.lowered.numbers in omega (arith, e)

  -- NAMES
  pub conditions_named : AreNamed subject.construction subject.conditions
  conditions_named i item at =
      let f = of_map (log_condition v p) s.found i item (subst (λ items. At items i item) s.conditions at) in
      let over = listed_hold (λ (g : Found). g.condition) (IsConditionOver X Y J) (all_found p) [] s.found s.listed tt (program_over p w (named_program p w)) in
      let o = each_at (λ (g : Found). IsConditionOver X Y J g.condition) s.found i f.0 over f.1 in (
        subst (λ n. IsTermBelow n subject.construction.params item.term) (sym steps_are)
            (subst (λ (t : Item). IsTermBelow N subject.construction.params t.term) (sym f.2)
            (condition_below (layout_of v p.commands) X Y J N M subject.construction.params bounds few f.0.condition o)),
        term_sound subject.construction item.term,
      )

  pub listed_over : AllByRecursion (IsStatementOver p.nodes X Y) s.goals
  listed_over =
      listed_hold (λ (h : Statement). h) (IsStatementOver p.nodes X Y) (statement_goals p.nodes p.statement) [] s.goals s.listed_goals tt
      (goals_over (layout_of v p.commands) X Y J N M subject.construction.params bounds few p.nodes p.statement (program_statement_over p w))

  pub goals_named : AreNamed subject.construction subject.goals
  goals_named i item at =
      let g = of_map (log_goal v p) s.goals i item (subst (λ items. At items i item) s.same_goals at) in
      let o = each_at (IsStatementOver p.nodes X Y) s.goals i g.0 listed_over g.1 in (
        subst (λ n. IsTermBelow n subject.construction.params item.term) (sym steps_are)
            (subst (λ (t : Item). IsTermBelow N subject.construction.params t.term) (sym g.2) (goal_below (layout_of v p.commands) X Y J N M subject.construction.params bounds few p.nodes g.0 o)),
        term_sound subject.construction item.term,
      )

  -- THE PLACEMENT
  module _ (values : List (Var × ℤ)) where
    -- all points of a placement with the free points of the sample
    free_points_are : (L : Placement) → AreFreesSame (forgotten v p L) (given_by v p values) 0 p.commands
        → (a : PointId) → a.0 < length subject.construction.steps → At l.construction.steps a.0 step.Point → SamePoint (L.point a.0) (sample_point values a.0)
    free_points_are L f a lt at =
        let fs = steps_of v p in
        let agree : FreesAgree L (sample_placement values) 0 fs =
        frees v p L (sample_placement values) (forgotten v p L) (given_by v p values) p.commands 0 0 0 0 0 (laid_program v p.commands) f (λ k b. refl) (λ k b. refl) in
        let q : 0 + a.0 ≡ a.0 = omega arith in
        let b : 0 + a.0 < past 0 fs = let u : past 0 fs ≡ N = past_all v p p.commands 0 0 in let v = steps_are in omega (arith, lt, u, v) in
        subst (λ n. SamePoint (L.point n) (sample_point values n)) q
        (front_free l.construction.nodes L (sample_placement values) fs [] l.construction.steps 0 (s.lowered.steps ∙ sym (append-nil fs)) agree a.0 b at)

    has_all_values : (L : Placement) → AreFreesSame (forgotten v p L) (given_by v p values) 0 p.commands → L.number ≡ (given_by v p values).number
        → HasValuesBelow L subject.construction (length subject.construction.steps) values
    unfolding whole
    has_all_values L f e = record {
      by_x = λ a lt at. (free_points_are L f a lt (subst (λ c. At c.steps a.0 step.Point) s.built at)).by_x;
      by_y = λ a lt at. (free_points_are L f a lt (subst (λ c. At c.steps a.0 step.Point) s.built at)).by_y;
      by_number = λ t lt. subst (λ h. Same (L.number t.0) (h t.0)) e (fractions.same_refl (L.number t.0));
    }

    module _ (gives : GivesConditions subject values) where
      -- the placement that the sample has
      pub made : (L : Placement) × MeetsSteps L l.construction × Meets p (forgotten v p L)
          × AreFreesSame (forgotten v p L) (given_by v p values) 0 p.commands × (L.number ≡ (given_by v p values).number)
      made =
          placements_are_realised v p l (given_by v p values) w s.lowered
          (terms_ready v p subject s.found l w s.lowered s.listed s.conditions s.built values gives)
          (terms_nonzero v p subject s.found l w s.lowered s.listed s.conditions s.built values gives)

      pub realised : IsRealised p (sample_values v p values)
      realised = record {
        placed = forgotten v p made.0;
        has = has_sample_values v p values (forgotten v p made.0) made.3 made.4;
        meets = made.2;
        unique = λ one other a b c d. values_fix_placements p (sample_values v p values) one other w a b c d;
      }

      pub lowered_to : IsLoweredTo v p l (forgotten v p made.0) made.0
      lowered_to = record { well_formed = w; form = s.lowered; extends = forgotten-extends v p made.0; steps = made.1 }

      -- in it all conditions hold
      all_hold_there : HoldBefore made.0 subject (length subject.conditions)
      all_hold_there i item lt at =
          let f = of_map (log_condition v p) s.found i item (subst (λ items. At items i item) s.conditions at) in
          let L = made.0 in let V = forgotten v p L in
          let met = listed_hold (λ (g : Found). g.condition) (IsConditionMet p V) (all_found p) [] s.found s.listed tt
          (recursion_from_All (λ (g : Found). IsConditionMet p V g.condition) (all_found p) made.2.conditions) in
          let terms = recursion_from_All (λ (g : Found). IsConditionMet p V g.condition ↔ IsNonzeroCondition v p L g.condition) s.found (conditions_are_terms v p l V L s.found lowered_to s.listed) in
          let z = (each_at (λ (g : Found). IsConditionMet p V g.condition ↔ IsNonzeroCondition v p L g.condition) s.found i f.0 terms f.1).0
          (each_at (λ (g : Found). IsConditionMet p V g.condition) s.found i f.0 met f.1) in
          subst (λ (t : Item). HoldsAsCondition L t.term) (sym f.2) (record { has_value = z.0; nonzero = z.1 })

      -- the goal that fails
      pub failing : (g : ℕ) (h : GivesFailure subject values (False g)) → (goal : Statement) × At s.goals h.0 goal × (h.1 ≡ log_goal v p goal)
      failing g h = of_map (log_goal v p) s.goals h.0 h.1 (subst (λ items. At items h.0 h.1) s.same_goals h.3)

      -- its term is not 0 there
      pub failing_not_zero : (g : ℕ) (h : GivesFailure subject values (False g)) → IsZeroGoal v p made.0 (failing g h).0 → ⊥
      failing_not_zero g h zero =
          let L = made.0 in
          let goal = failing g h in
          let named = goals_named h.0 h.1 h.3 in
          let has : HasTreeValue L h.1.term = subst (λ (t : Item). HasTreeValue L t.term) (sym goal.2) zero.0 in
          let same : Same (tree_value L h.1.term) (whole (pos 0)) = subst (λ (t : Item). Same (tree_value L t.term) (whole (pos 0))) (sym goal.2) zero.1 in
          let apart = h.4 L (has_all_values L made.3 made.4) (subst (λ c. MeetsSteps L c) (sym s.built) made.1)
          (λ i item lt at. conditions_named i item at) all_hold_there named.0 named.1 has in
          not_same (tree_value L h.1.term) apart same

      -- so the statement does not hold there
      pub fails : (g : ℕ) → GivesFailure subject values (False g) → Holds p (forgotten v p made.0) → ⊥
      fails g h holds =
          let L = made.0 in
          let goal = failing g h in
          let zeros = recursion_from_All (IsZeroGoal v p L) s.goals ((goals_are_terms v p l (forgotten v p L) L s.goals lowered_to s.listed_goals).0 holds) in
          failing_not_zero g h (each_at (IsZeroGoal v p L) s.goals h.0 goal.0 zeros goal.1)

      pub broken : (g : ℕ) → GivesFailure subject values (False g) → Breaks p (sample_values v p values)
      broken g h = one_failure_breaks p (sample_values v p values) (forgotten v p made.0) w (has_sample_values v p values (forgotten v p made.0) made.3 made.4) made.2 (fails g h)

-- THE EXISTENCE HALF
pub accepted_samples_are_met : AcceptedSamplesAreMet
accepted_samples_are_met p steps lines verdict a some =
    let s = parts_of p a.subject a.about in
    let h = (shown_by p steps lines verdict a).sample some in (
      sample_values s.version p h.1,
      record { before = h.0; sample = h.1; split = h.2; printed = values_printed s.version p s.form h.1 s.lowered (h.3 ∙ ap (λ c. sample_variables c) s.built) },
      realised p a.subject a.well_formed s h.1 h.4,
    )
