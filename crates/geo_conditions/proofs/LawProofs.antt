-- The laws of conditions and goals.
use Rattle.std.proofs.Common.{◌≡◌, ◌↔◌, ℕ, List, [], ◌∷◌, ◌++◌, refl, subst, arith}
use Rattle.std.specs.List.{AllByRecursion}
use Rattle.std.proofs.lemmas.List.Elements.{recursion_from_All, All-from_recursion}
use Rattle.geo_points.specs.Placements.{Placement}
use Rattle.geo_points.specs.Points.{Point as Triple}
use Rattle.ring_laws.proofs.Fractions.{fractions}
use Rattle.geo_program.specs.declared.commands.Command.{Command}
use Rattle.geo_program.specs.WellFormed.{Source, IsWellFormed}
use Rattle.geo_lowering.specs.declared.version.Version.{Version}
use Rattle.geo_lowering.specs.Building.{forgotten, AreMade}
use Rattle.geo_lowering.specs.CommandsMet.{lines_of}
use Rattle.geo_lowering.specs.Conditions.{Condition, IsConditionMet, early_conditions}
use Rattle.geo_lowering.specs.Counting.{points_from}
use Rattle.geo_lowering.specs.Lowering.{Extends, layout_of, steps_of}
use Rattle.geo_lowering.specs.StepForms.{AreFormsMet}
use Rattle.geo_lowering.proofs.Bounds.{no_bounds}
use Rattle.geo_lowering.proofs.Down.{extension}
use Rattle.geo_lowering.proofs.Exists.{IsReady, params_past, lines_past, exists, made_met, behind, stands_behind}
use Rattle.geo_lowering.proofs.Laying.{AreNamed, AreLaid, AreDrawn, named_program, laid_program, drawn_program}
use Rattle.geo_lowering.proofs.LawProofs.{to_steps, to_forms, made_frees}
use Rattle.geo_points.proofs.Same.{self_point}
use Rattle.geo_lowering.proofs.Up.{up, forgotten-extends}
use Rattle.geo_conditions.specs.Laws.{IsNonzeroCondition, IsZeroGoal, ConditionsAreTerms, PlacementsLower, LoweredPlacementsMeet, GoalsAreTerms, PlacementsAreRealised, AreTermsReady}
use Rattle.geo_conditions.specs.Lists.{Found, all_found}
use Rattle.geo_conditions.specs.Statements.{statement_goals}
use Rattle.geo_conditions.specs.Truth.{Holds}
use Rattle.geo_conditions.proofs.Agreement.{Agrees, IsStatementOver, condition_is, statement_is}
use Rattle.geo_conditions.proofs.ConditionScopes.{FoundOver, AreOver, program_over, program_statement_over, early_over}
use Rattle.geo_conditions.proofs.Extensions.{extension_agrees, Met, met_program}
use Rattle.geo_conditions.proofs.Listings.{listed_hold, all_hold}

module _ (version : Version) (p : Source) (V L : Placement) (w : IsWellFormed p) (e : Extends version p V L) (h : AreFormsMet L 0 (steps_of version p)) where
  abbrev X : ℕ
  X = points_from 0 p.commands

  abbrev Y : ℕ
  Y = params_past 0 p.commands

  abbrev J : ℕ
  J = lines_past 0 p.commands

  agrees : Agrees version p V L X Y J
  agrees = extension_agrees version p V L w e h

  abbrev Nonzero : List Found → Type 0
  Nonzero fs = AllByRecursion (λ f. IsNonzeroCondition version p L f.condition) fs

  are_nonzero : (fs : List Found) → FoundOver X Y J fs → Met p V fs → Nonzero fs
  are_nonzero [] o m = tt
  are_nonzero (f ∷ fs) o m = ((condition_is version p V L X Y J agrees f.condition o.0).0 m.0, are_nonzero fs o.1 m.1)

  are_met : (fs : List Found) → FoundOver X Y J fs → Nonzero fs → Met p V fs
  are_met [] o m = tt
  are_met (f ∷ fs) o m = ((condition_is version p V L X Y J agrees f.condition o.0).1 m.0, are_met fs o.1 m.1)

  are_both : (fs : List Found) → FoundOver X Y J fs → AllByRecursion (λ f. IsConditionMet p V f.condition ↔ IsNonzeroCondition version p L f.condition) fs
  are_both [] o = tt
  are_both (f ∷ fs) o = (condition_is version p V L X Y J agrees f.condition o.0, are_both fs o.1)

  over : FoundOver X Y J (all_found p)
  over = program_over p w (named_program p w)

  statement : IsStatementOver p.nodes X Y p.statement
  statement = program_statement_over p w

  goals_are : Holds p V ↔ AllByRecursion (IsZeroGoal version p L) (statement_goals p.nodes p.statement)
  goals_are = statement_is version p V L X Y J agrees p.statement statement

pub conditions_are_terms : ConditionsAreTerms
conditions_are_terms version p l V L conditions i c =
    let h = to_forms version p l L i.form i.steps in
    All-from_recursion (λ f. IsConditionMet p V f.condition ↔ IsNonzeroCondition version p L f.condition) conditions
    (listed_hold (λ f. f.condition) (λ k. IsConditionMet p V k ↔ IsNonzeroCondition version p L k) (all_found p) [] conditions c tt
    (are_both version p V L i.well_formed i.extends h (all_found p) (over version p V L i.well_formed i.extends h)))

pub placements_lower : PlacementsLower
placements_lower version p l V conditions w i c m =
    let met = recursion_from_All (λ f. IsConditionMet p V f.condition) (all_found p) m.conditions in
    let d = extension version p V w m.commands (met_program p V met) in
    let L = d.0 in (
      L,
      d.1,
      to_steps version p l L i d.2,
      All-from_recursion (λ f. IsNonzeroCondition version p L f.condition) conditions
          (listed_hold (λ f. f.condition) (IsNonzeroCondition version p L) (all_found p) [] conditions c tt (are_nonzero version p V L w d.1 d.2 (all_found p) (over version p V L w d.1 d.2) met)),
    )

pub lowered_placements_meet : LoweredPlacementsMeet
lowered_placements_meet version p l L conditions w i c h z =
    let V = forgotten version p L in
    let f = to_forms version p l L i h in
    let e = forgotten-extends version p L in
    let all = (all_hold (λ f. f.condition) (IsNonzeroCondition version p L) (all_found p) [] conditions c (recursion_from_All (λ f. IsNonzeroCondition version p L f.condition) conditions z)).1 in (
      e,
      record {
        commands = up version p L w f;
        conditions = All-from_recursion (λ f. IsConditionMet p V f.condition) (all_found p) (are_met version p V L w e f (all_found p) (over version p V L w e f) all);
      },
    )

pub goals_are_terms : GoalsAreTerms
goals_are_terms version p l V L goals i c =
    let h = to_forms version p l L i.form i.steps in
    let g = goals_are version p V L i.well_formed i.extends h in
    let all = statement_goals p.nodes p.statement in (
      λ k. All-from_recursion (IsZeroGoal version p L) goals (listed_hold (λ s. s) (IsZeroGoal version p L) all [] goals c tt (g.0 k)),
      λ k. g.1 (all_hold (λ s. s) (IsZeroGoal version p L) all [] goals c (recursion_from_All (IsZeroGoal version p L) goals k)).1,
    )

-- ---- made command by command
module _ (version : Version) (p : Source) (given : Placement) (w : IsWellFormed p) where
  abbrev with_points : (ℕ → Triple) → Placement
  with_points at = record { point = at; number = given.number }

  -- what is made by the steps of some commands agrees with its own named points
  made_agrees : (before rest : List Command) (c : Command) → p.commands ≡ before ++ c ∷ rest → (at : ℕ → Triple) → AreMade version p given (with_points at) 0 0 0 before
      → Agrees version p (forgotten version p (with_points at)) (with_points at) (points_from 0 before) (params_past 0 before) (lines_past 0 before)
  made_agrees before rest c e at h =
      let L = with_points at in let V = forgotten version p L in
      let k = subst (λ bs. AreNamed p.nodes 0 0 0 bs) e (named_program p w) in
      let d = subst (λ bs. AreLaid version (layout_of version p.commands) 0 0 0 0 0 bs) e (laid_program version p.commands) in
      let r = subst (λ bs. AreDrawn V (lines_of V p.commands) 0 bs) e (drawn_program p V w) in
      record {
        points = λ a b. self_point _;
        numbers = λ t b. fractions.same_refl _;
        lines = stands_behind version p given L before (c ∷ rest) 0 0 0 0 0 k d r (λ i b. absurd (omega arith)) h;
      }

  early_met : (V L : Placement) (x y j : ℕ) → Agrees version p V L x y j → (cs : List Condition) → AreOver x y j cs
      → AllByRecursion (IsNonzeroCondition version p L) cs → AllByRecursion (IsConditionMet p V) cs
  early_met V L x y j g [] o h = tt
  early_met V L x y j g (c ∷ cs) o h = ((condition_is version p V L x y j g c o.0).1 h.0, early_met V L x y j g cs o.1 h.1)

  ready : AreTermsReady version p given → IsReady version p given
  ready t before rest c e at h =
      let L = with_points at in let V = forgotten version p L in
      let k = subst (λ bs. AreNamed p.nodes 0 0 0 bs) e (named_program p w) in
      let d = subst (λ bs. AreLaid version (layout_of version p.commands) 0 0 0 0 0 bs) e (laid_program version p.commands) in
      let f = behind version p given before rest c 0 0 0 0 0 (no_bounds (layout_of version p.commands)) k d in
      let early = early_conditions p.nodes c in
      All-from_recursion (IsConditionMet p V) early
      (early_met V L (points_from 0 before) (params_past 0 before) (lines_past 0 before) (made_agrees before rest c e at h) early
      (early_over p.nodes (points_from 0 before) (params_past 0 before) (lines_past 0 before) c f.names) (recursion_from_All (IsNonzeroCondition version p L) early (t before rest c e at h)))

pub placements_are_realised : PlacementsAreRealised
placements_are_realised version p l given w i t z =
    let d = exists version p given w (ready version p given w t) p.commands [] given.point refl tt in
    let L : Placement = record { point = d.0; number = given.number } in
    let f = made_met version p given L p.commands 0 0 0 d.1 in
    let V = forgotten version p L in
    let e = forgotten-extends version p L in (
      L,
      to_steps version p l L i f,
      record {
        commands = up version p L w f;
        conditions = All-from_recursion (λ k. IsConditionMet p V k.condition) (all_found p)
            (are_met version p V L w e f (all_found p) (over version p V L w e f) (recursion_from_All (λ k. IsNonzeroCondition version p L k.condition) (all_found p) (z d.0 d.1)));
      },
      made_frees version p given L p.commands 0 0 0 0 0 (laid_program version p.commands) d.1,
      refl,
    )
