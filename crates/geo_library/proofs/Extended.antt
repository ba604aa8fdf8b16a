-- The law for programs with any commands added.
use Rattle.std.proofs.Common.{◌≡◌, ℕ, suc, ◌+◌, ◌≤◌, ◌⊎◌, inl, inr, true, pos, All, map, length, append_assoc, List, [], ◌∷◌, ◌++◌, refl, sym, ◌∙◌, ap, subst, arith}
use Rattle.std.specs.List.{AllByRecursion}
use Rattle.std.proofs.lemmas.List.Elements.{All-from_recursion, recursion_from_All}
use Rattle.ring_laws.specs.Fraction.{IsNonzero, Same, whole}
use Rattle.ring_laws.proofs.Fractions.{fractions}
use Rattle.geo_points.specs.Placements.{Placement}
use Rattle.geo_points.proofs.Exchange.{HasRatio-same}
use Rattle.geo_points.proofs.Zeros.{apart}
use Rattle.geo_terms.specs.Constructions.{IsStepMet, MeetsSteps}
use Rattle.geo_terms.specs.Stores.{Store, tree_of}
use Rattle.geo_terms.specs.Values.{HasTreeValue, tree_value}
use Rattle.geo_program.specs.declared.commands.Command.{Command}
use Rattle.geo_program.specs.declared.names.Name.{Name}
use Rattle.geo_program.specs.declared.names.NameKind.TheVariants as kind
use Rattle.geo_program.specs.declared.statements.Statement.{Statement}
use Rattle.geo_program.specs.declared.statements.Statement.TheVariants.{Equal, Collinear, Parallel, Perpendicular, Identical, Midpoint, SameLength, Harmonic, Concyclic}
use Rattle.geo_program.specs.WellFormed.{IsWellFormed, Source}
use Rattle.geo_lowering.specs.CommandsMet.{AreCommandsMet, lines_of}
use Rattle.geo_lowering.specs.Conditions.{IsConditionMet, expression_conditions}
use Rattle.geo_lowering.specs.Counting.{counted, named, next_number, next_point, numbers_from, points_from, points_past}
use Rattle.geo_lowering.specs.Lowering.{Extends, IsLowered, Layout, LoweredForm, command_steps, layout_of, steps_from}
use Rattle.geo_lowering.specs.StepForms.{AreFormsMet, StepForm}
use Rattle.geo_lowering.specs.declared.version.Version.{Version}
use Rattle.geo_lowering.proofs.Bounds.{Bounds, no_bounds, numbers_from-up, past_steps}
use Rattle.geo_lowering.proofs.ConditionValues.{each_append, each_back, each_front, has_value}
use Rattle.geo_lowering.proofs.Down.{Extended, down}
use Rattle.geo_lowering.proofs.Exists.{lines_past, params_past}
use Rattle.geo_lowering.proofs.Fixed.{bounds_all, past_all}
use Rattle.geo_lowering.proofs.FormLaws.{met_back, met_front, past}
use Rattle.geo_lowering.proofs.Laying.{AreDrawn, AreLaid, AreNamed, drawn_program, laid_program, named_program}
use Rattle.geo_lowering.proofs.Puts.{of_path}
use Rattle.geo_lowering.proofs.Up.{AllSame, AllStand, stands_next}
use Rattle.geo_lowering.proofs.Values.{over_expression}
use Rattle.geo_conditions.specs.Laws.{IsNonzeroCondition, IsZeroGoal}
use Rattle.geo_conditions.specs.Lists.{Found, all_found, found_at, found_from}
use Rattle.geo_conditions.specs.Statements.{pair_goals, ratio_goals, statement_conditions, statement_goals}
use Rattle.geo_conditions.specs.Terms.{goal_term}
use Rattle.geo_conditions.specs.Truth.{Holds, IsTrueProgram, Meets}
use Rattle.geo_conditions.proofs.Agreement.{Agrees, IsStatementOver, parallel_zero, statement_is, value_down, zero_ratios}
use Rattle.geo_conditions.proofs.ConditionScopes.{FoundOver, points-up, program_over, program_statement_over}
use Rattle.geo_conditions.proofs.Decisions.{lists_exist}
use Rattle.geo_conditions.proofs.Extensions.{at_line, met_commands, of_line}
use Rattle.geo_conditions.proofs.LawProofs.{placements_lower}
use Rattle.geo_conditions.proofs.Listings.{all_hold, listed_hold}
use Rattle.geo_logs.specs.Laws.{HoldBefore}
use Rattle.geo_logs.specs.Logs.{Item, Subject}
use Rattle.geo_logs.specs.Placements.{HoldsAsCondition, MeetsStepsBelow}
use Rattle.log_checker.proofs.Made.{front_met}
use Rattle.log_checker.proofs.Names.{goal_below, goals_over}
use Rattle.log_checker.proofs.PairGoals.{pairs_hold}
use Rattle.log_checker.proofs.Places.{At, at_map, each_at, each_of, of_map}
use Rattle.log_checker.proofs.Prefixes.{found_split, line_past, numbers_split}
use Rattle.log_checker.proofs.Ready.{log_condition}
use Rattle.log_checker.proofs.Verdicts.{Parts, log_goal}
use Rattle.geo_library.specs.CitedAndMet.{CommandsMayGo, extended_by}
use Rattle.geo_library.proofs.Fronts.{commands_to, conditions_to, drawn_front, laid_front, lines_all, params_all, statement_to, ParamsAgree, LinesAgree}
use Rattle.geo_library.proofs.Generic.{some_failure, zero_or}

-- all lines of some commands stand on their pairs
stands_front : (version : Version) (s : Source) (V L : Placement) (cs : List Command) (x y j n m : ℕ)
    → AllSame version (layout_of version s.commands) s.nodes V L (lines_of V s.commands) (points_from x cs)
    → AreNamed s.nodes x y j cs → AreLaid version (layout_of version s.commands) x y j n m cs → AreDrawn V (lines_of V s.commands) j cs
    → AllStand version (layout_of version s.commands) s.nodes V L (lines_of V s.commands) j → AreFormsMet L n (steps_from version (layout_of version s.commands) s.nodes n m cs)
    → AllStand version (layout_of version s.commands) s.nodes V L (lines_of V s.commands) (lines_past j cs)
stands_front version s V L [] x y j n m g k d r w h = w
stands_front version s V L (c ∷ cs) x y j n m g k d r w h =
    let l = layout_of version s.commands in
    let steps = command_steps version l s.nodes n m c in
    let rest = steps_from version l s.nodes (next_point version n c) (next_number m c) cs in
    let u : x ≤ counted kind.Point (named c) x = points-up x (c ∷ []) in
    let v = points-up (counted kind.Point (named c) x) cs in
    stands_front version s V L cs _ _ _ (next_point version n c) (next_number m c) g k.1 d.1 r.1
    (stands_next version l s.nodes V L (lines_of V s.commands) x y j n m c (λ a b. g a (omega (arith, u, v, b))) w k.0 d.0 r.0 (met_front L n steps rest h))
    (subst (λ i. AreFormsMet L i rest) (past_steps version l s.nodes n m c) (met_back L n steps rest h))

steps_split : (version : Version) (l : Layout) (nodes : Store) (bs cs : List Command) (n m : ℕ)
    → (more : List StepForm) × (steps_from version l nodes n m (bs ++ cs) ≡ steps_from version l nodes n m bs ++ more)
steps_split version l nodes [] cs n m = (steps_from version l nodes n m cs, refl)
steps_split version l nodes (b ∷ bs) cs n m =
    let rest = steps_split version l nodes bs cs (next_point version n b) (next_number m b) in
    let here = command_steps version l nodes n m b in
    (rest.0, ap (λ (xs : List StepForm). here ++ xs) rest.1 ∙ sym (append_assoc here (steps_from version l nodes (next_point version n b) (next_number m b) bs) rest.0))

commands_front : (s : Source) (V : Placement) (bs cs : List Command) (x m : ℕ) → AreCommandsMet s V x m (bs ++ cs) → AreCommandsMet s V x m bs
commands_front s V [] cs x m h = tt
commands_front s V (b ∷ bs) cs x m h = (h.0, commands_front s V bs cs _ (next_number m b) h.1)

-- a goal of a statement has a value where its conditions hold and the goals of its ratios are 0
module _ (version : Version) (p : Source) (V L : Placement) (x y j : ℕ) (g : Agrees version p V L x y j) where
  abbrev HasTerm : Statement → Type 0
  HasTerm s = HasTreeValue L (goal_term (layout_of version p.commands) p.nodes s)

  statement_term : (s : Statement) → IsStatementOver p.nodes x y s → AllByRecursion (IsConditionMet p V) (statement_conditions p.nodes s)
      → AllByRecursion (IsZeroGoal version p L) (pair_goals p.nodes s) → HasTerm s
  statement_term (Equal e f) o m z =
      let E = tree_of p.nodes e in let G = tree_of p.nodes f in
      let C = IsConditionMet p V in let Z = IsZeroGoal version p L in (
        (value_down version p V L x y j g E (over_expression x y true E o.0)
            (has_value p V x y true E o.0 (each_front C (expression_conditions E) (expression_conditions G) m)
            (zero_ratios version p V L x y j g true E o.0 (each_front Z (ratio_goals E) (ratio_goals G) z)))).0,
        (value_down version p V L x y j g G (over_expression x y true G o.1)
            (has_value p V x y true G o.1 (each_back C (expression_conditions E) (expression_conditions G) m)
            (zero_ratios version p V L x y j g true G o.1 (each_back Z (ratio_goals E) (ratio_goals G) z)))).0,
      )
  statement_term (Collinear a b c) o m z = tt
  statement_term (Parallel a b c d) o m z = (tt, tt)
  statement_term (Perpendicular a b c d) o m z = (tt, tt)
  statement_term (Identical a b) o m z = tt
  statement_term (Midpoint n a b) o m z = (((tt, tt), (tt, tt)), tt)
  statement_term (SameLength a b c d) o m z = (tt, tt)
  statement_term (Harmonic a b c d) o m z =
      let A = g.points a.0 o.0 in let B = g.points b.0 o.1 in let C = g.points c.0 o.2 in let D = g.points d.0 o.3 in (
        HasRatio-same _ _ _ _ _ _ _ _ A C C B (record { parallel = (parallel_zero version p V L x y j g a.0 c.0 c.0 b.0 o.0 o.2 o.2 o.1).1 z.0; apart = apart (V.point c.0) (V.point b.0) m.0 }),
        HasRatio-same _ _ _ _ _ _ _ _ A D B D (record { parallel = (parallel_zero version p V L x y j g a.0 d.0 b.0 d.0 o.0 o.3 o.1 o.3).1 z.1.0; apart = apart (V.point b.0) (V.point d.0) m.1.0 }),
      )
  statement_term (Concyclic a b c d) o m z = ((tt, tt), (tt, tt))

-- what holds of a goal that has a value holds of each, where the goals of ratios come first
both_zero : (H Z : Statement → Type 0) (pairs : List Statement) (last : Statement) → AllByRecursion (λ s. H s → Z s) (pairs ++ last ∷ [])
    → AllByRecursion H pairs → (AllByRecursion Z pairs → H last) → AllByRecursion Z (pairs ++ last ∷ [])
both_zero H Z [] last h k f = (h.0 (f tt), tt)
both_zero H Z (s ∷ ss) last h k f = let z = h.0 k.0 in (z, both_zero H Z ss last h.1 k.1 (λ zs. f (z, zs)))

module _ (version : Version) (p : Source) (names : List Name) (added : List Command) (l : LoweredForm) (wp : IsWellFormed p) where
  abbrev q : Source
  q = extended_by p names added

  module _ (wq : IsWellFormed q) (low : IsLowered version q l) (A : Placement) (meets : Meets q A) (cited : (other : Placement) → Meets q other → Holds q other) where
    abbrev X : ℕ
    X = points_from 0 p.commands

    abbrev Y : ℕ
    Y = params_past 0 p.commands

    abbrev J : ℕ
    J = lines_past 0 p.commands

    abbrev lq : Layout
    lq = layout_of version q.commands

    kp : AreNamed p.nodes 0 0 0 p.commands
    kp = named_program p wp

    dq : AreLaid version lq 0 0 0 0 0 p.commands
    dq = laid_front version lq p.commands added 0 0 0 0 0 (laid_program version q.commands)

    dp : AreLaid version (layout_of version p.commands) 0 0 0 0 0 p.commands
    dp = laid_program version p.commands

    rq : (V : Placement) → AreDrawn V (lines_of V q.commands) 0 p.commands
    rq V = drawn_front V (lines_of V q.commands) p.commands added 0 (drawn_program q V wq)

    rp : (V : Placement) → AreDrawn V (lines_of V p.commands) 0 p.commands
    rp V = drawn_program p V wp

    -- WHAT MEETS q MEETS p
    over : FoundOver X Y J (all_found p)
    over = program_over p wp kp

    statement_over : IsStatementOver p.nodes X Y p.statement
    statement_over = program_statement_over p wp

    params_up : (V : Placement) → ParamsAgree p V q.names p.names q.commands p.commands Y
    params_up V = params_all p V q.names p.names q.commands p.commands version p.commands 0 0 0 0 0 dq dp (λ t b. absurd (omega (arith, b)))

    lines_up : (V : Placement) → LinesAgree p V q.names p.names q.commands p.commands J
    lines_up V = lines_all p V q.names p.names q.commands p.commands version p.commands 0 0 0 0 0 kp dq dp (rq V) (rp V) (λ t b. absurd (omega (arith, b))) (λ t b. absurd (omega (arith, b)))

    meets_p : Meets p A
    meets_p =
        let last = statement_conditions p.nodes p.statement in
        let line = suc (length q.commands) in
        let P : Found → Type 0 = λ f. IsConditionMet q A f.condition in
        let all = recursion_from_All P (all_found q) meets.conditions in
        let fronts = subst (λ fs. AllByRecursion P fs) (found_split p.nodes p.commands added 0 1) (each_front P (found_from p.nodes 0 1 q.commands) (found_at line last) all) in
        let here = each_front P (found_from p.nodes 0 1 p.commands) (found_from p.nodes X (line_past 1 p.commands) added) fronts in
        let stated = of_line q A line last (each_back P (found_from p.nodes 0 1 q.commands) (found_at line last) all) in
        record {
          commands = commands_to p A q.names p.names q.commands p.commands version p.commands 0 0 0 0 0 kp dq dp (rq A) (rp A)
              (λ t b. absurd (omega (arith, b))) (λ t b. absurd (omega (arith, b))) (commands_front q A p.commands added 0 0 meets.commands);
          conditions = All-from_recursion (λ (f : Found). IsConditionMet p A f.condition) (all_found p)
              (conditions_to p A q.names p.names q.commands p.commands X Y J (params_up A) (lines_up A) (all_found p) over
              (each_append P (found_from p.nodes 0 1 p.commands) (found_at (suc (length p.commands)) last) here
              (at_line q A (suc (length p.commands)) last stated)));
        }

    -- THE SUBJECT
    abbrev found : List Found
    found = (lists_exist.conditions q).0

    abbrev goals : List Statement
    goals = (lists_exist.goals q).0

    abbrev about : Subject
    about = record {
      version = 2;
      program = [];
      construction = l.construction;
      conditions = map (log_condition version q) found;
      goals = map (log_goal version q) goals;
    }

    parts : Parts q about
    parts = record {
      version = version;
      form = l;
      lowered = low;
      built = refl;
      found = found;
      listed = (lists_exist.conditions q).1;
      conditions = refl;
      goals = goals;
      listed_goals = (lists_exist.goals q).1;
      same_goals = refl;
    }

    lowest : (lowered : Placement) × Extends version q A lowered × MeetsSteps lowered l.construction × All (λ f. IsNonzeroCondition version q lowered f.condition) found
    lowest = placements_lower version q l A found wq low (lists_exist.conditions q).1 meets

    hold : HoldBefore lowest.0 about (length about.conditions)
    hold k item lt at =
        let f = of_map (log_condition version q) found k item at in
        let z = each_at (λ (g : Found). IsNonzeroCondition version q lowest.0 g.condition) found k f.0
        (recursion_from_All (λ (g : Found). IsNonzeroCondition version q lowest.0 g.condition) found lowest.3) f.1 in
        subst (λ (t : Item). HoldsAsCondition lowest.0 t.term) (sym f.2) (record { has_value = z.0; nonzero = z.1 })

    -- ANOTHER PLACEMENT OF p
    module _ (V : Placement) (here : Meets p V) where
      params_down : ParamsAgree p V p.names q.names p.commands q.commands Y
      params_down = params_all p V p.names q.names p.commands q.commands version p.commands 0 0 0 0 0 dp dq (λ t b. absurd (omega (arith, b)))

      lines_down : LinesAgree p V p.names q.names p.commands q.commands J
      lines_down = lines_all p V p.names q.names p.commands q.commands version p.commands 0 0 0 0 0 kp dp dq (rp V) (rq V) (λ t b. absurd (omega (arith, b))) (λ t b. absurd (omega (arith, b)))

      commands_q : AreCommandsMet q V 0 0 p.commands
      commands_q = commands_to p V p.names q.names p.commands q.commands version p.commands 0 0 0 0 0 kp dp dq (rp V) (rq V)
          (λ t b. absurd (omega (arith, b))) (λ t b. absurd (omega (arith, b))) here.commands

      conditions_q : AllByRecursion (λ (f : Found). IsConditionMet q V f.condition) (all_found p)
      conditions_q = conditions_to p V p.names q.names p.commands q.commands X Y J params_down lines_down (all_found p) over
          (recursion_from_All (λ (f : Found). IsConditionMet p V f.condition) (all_found p) here.conditions)

      pub made : Extended version q V 0 0 V.point p.commands 0
      made = down version q V p.commands 0 0 0 0 0 V.point kp dq (rq V) (no_bounds lq) (λ a b. absurd (omega (arith, b))) (λ i b. absurd (omega (arith, b))) commands_q
          (met_commands q V p.commands 0 1 (each_front (λ (f : Found). IsConditionMet q V f.condition) (found_from p.nodes 0 1 p.commands)
          (found_at (suc (length p.commands)) (statement_conditions p.nodes p.statement)) conditions_q))

      abbrev L : Placement
      L = record { point = made.made; number = V.number }

      same : AllSame version lq q.nodes V L (lines_of V q.commands) X
      same a b = of_path (sym (made.same a b))

      agrees : Agrees version q V L X Y J
      agrees = record {
        points = same;
        numbers = λ t b. fractions.same_refl (V.number (lq.param t));
        lines = stands_front version q V L p.commands 0 0 0 0 0 same kp dq (rq V) (λ i b. absurd (omega (arith, b))) made.met;
      }

      abbrev n0 : ℕ
      n0 = points_past version 0 p.commands

      abbrev M : ℕ
      M = numbers_from 0 p.commands

      bounds : Bounds lq X Y J n0 M
      bounds = bounds_all version q p.commands 0 0 0 0 0 (no_bounds lq) kp dq

      few : M ≤ l.construction.params
      few = subst (λ k. M ≤ k) (sym (low.numbers ∙ numbers_split p.commands added 0)) (numbers_from-up M added)

      first_steps : MeetsStepsBelow L l.construction n0
      first_steps k step lt at =
          let split = steps_split version lq q.nodes p.commands added 0 0 in
          let fs = steps_from version lq q.nodes 0 0 p.commands in
          let e : past 0 fs ≡ n0 = past_all version q p.commands 0 0 in
          let z : 0 + k ≡ k = omega arith in
          subst (λ j. IsStepMet L l.construction.nodes j step) z
          (front_met l.construction.nodes L fs split.0 l.construction.steps 0 (low.steps ∙ split.1) made.met k step (omega (arith, lt, e)) at)

      listed_over : AllByRecursion (IsStatementOver p.nodes X Y) goals
      listed_over =
          listed_hold (λ (h : Statement). h) (IsStatementOver p.nodes X Y) (statement_goals p.nodes p.statement) [] goals (lists_exist.goals q).1 tt
          (goals_over lq X Y J n0 M l.construction.params bounds few p.nodes p.statement statement_over)

      abbrev Has : Statement → Type 0
      Has g = HasTreeValue L (goal_term lq p.nodes g)

      abbrev Zero : Statement → Type 0
      Zero g = IsZeroGoal version q L g

      one_zero : (k : ℕ) (g : Statement) → At goals k g → Has g → Zero g
      one_zero k g at has = (has, go (zero_or (tree_value L (goal_term lq p.nodes g))))
        where
          go : Same (tree_value L (goal_term lq p.nodes g)) (whole (pos 0)) ⊎ IsNonzero (tree_value L (goal_term lq p.nodes g))
              → Same (tree_value L (goal_term lq p.nodes g)) (whole (pos 0))
          go (inl z) = z
          go (inr n) =
              let place : At about.goals k (log_goal version q g) = at_map (log_goal version q) goals k g at in
              absurd (some_failure q about wq parts lowest.0 lowest.2 hold k (log_goal version q g) place n0 L first_steps
              (goal_below lq X Y J n0 M l.construction.params bounds few p.nodes g (each_at (IsStatementOver p.nodes X Y) goals k g listed_over at)) has n cited)

      stated : AllByRecursion (IsConditionMet q V) (statement_conditions p.nodes p.statement)
      stated =
          of_line q V (suc (length p.commands)) (statement_conditions p.nodes p.statement)
          (each_back (λ (f : Found). IsConditionMet q V f.condition) (found_from p.nodes 0 1 p.commands)
          (found_at (suc (length p.commands)) (statement_conditions p.nodes p.statement)) conditions_q)

      all_zero : AllByRecursion Zero (statement_goals p.nodes p.statement)
      all_zero =
          both_zero Has Zero (pair_goals p.nodes p.statement) p.statement
          (all_hold (λ (s : Statement). s) (λ g. Has g → Zero g) (statement_goals p.nodes p.statement) [] goals (lists_exist.goals q).1
          (each_of (λ g. Has g → Zero g) goals one_zero)).1
          (pairs_hold Has (λ a b c d. (tt, tt)) p.nodes p.statement)
          (λ zs. statement_term version q V L X Y J agrees p.statement statement_over stated zs)

      holds : Holds p V
      holds =
          statement_to p V q.names p.names q.commands p.commands X Y J (params_up V) (lines_up V) p.statement statement_over
          ((statement_is version q V L X Y J agrees p.statement statement_over).1 all_zero)

    pub without_added : IsTrueProgram p
    without_added = record { placed = A; meets = meets_p; holds = holds }

pub commands_may_go : CommandsMayGo
commands_may_go version p names added l wp wq low A meets cited = without_added version p names added l wp wq low A meets cited
