-- The terms of conditions and goals have values.
use Rattle.std.proofs.Common.{false, ℕ, suc, true, List, [], ◌∷◌, ◌++◌, length}
use Rattle.std.specs.List.{AllByRecursion}
use Rattle.std.proofs.lemmas.List.Elements.{recursion_from_All, All-from_recursion}
use Rattle.geo_points.specs.Placements.{Placement}
use Rattle.geo_points.proofs.Exchange.{HasRatio-same}
use Rattle.geo_terms.specs.Stores.{tree_of}
use Rattle.geo_terms.specs.Trees.{Tree}
use Rattle.geo_terms.specs.Values.{HasTreeValue}
use Rattle.geo_program.specs.declared.statements.Statement.{Statement}
use Rattle.geo_program.specs.declared.statements.Statement.TheVariants.{Equal, Collinear, Parallel, Perpendicular, Identical, Midpoint, SameLength, Harmonic, Concyclic}
use Rattle.geo_program.specs.WellFormed.{Source}
use Rattle.geo_lowering.specs.declared.version.Version.{Version}
use Rattle.geo_lowering.specs.Conditions.{Condition, different, not_collinear, not_parallel, crossing, nonzero, IsConditionMet, expression_conditions}
use Rattle.geo_lowering.specs.CommandsMet.{reading}
use Rattle.geo_lowering.specs.Counting.{points_from}
use Rattle.geo_lowering.specs.Lowering.{layout_of}
use Rattle.geo_lowering.proofs.ConditionValues.{each_append, each_front, each_back, has_value, step_value}
use Rattle.geo_lowering.proofs.Exists.{params_past, lines_past}
use Rattle.geo_lowering.proofs.LawProofs.{to_forms}
use Rattle.geo_lowering.proofs.Laying.{named_program}
use Rattle.geo_lowering.proofs.Values.{over_expression}
use Rattle.geo_points.proofs.Zeros.{apart}
use Rattle.geo_conditions.specs.Laws.{IsZeroGoal, GoalsHaveValues, ConditionsHaveValues}
use Rattle.geo_conditions.specs.Lists.{Found, found_at, found_from, all_found}
use Rattle.geo_conditions.specs.Statements.{statement_conditions, pair_goals, statement_goals, ratio_goals}
use Rattle.geo_conditions.specs.Terms.{condition_term, goal_term}
use Rattle.geo_conditions.proofs.Agreement.{Agrees, IsStatementOver, IsConditionOver, value_down, zero_ratios, parallel_zero}
use Rattle.geo_conditions.proofs.ConditionScopes.{program_statement_over, program_over}
use Rattle.geo_conditions.proofs.Extensions.{extension_agrees, of_line}
use Rattle.geo_conditions.proofs.Listings.{listed_hold}
use Rattle.geo_conditions.proofs.Ordering.{CanAsk, ordered_at, listed_ordered, all_ordered}

-- what the condition speaks of has a value in the placement
abbrev CanBeAsked : Source → Placement → Condition → Type 0
CanBeAsked p V c = CanAsk p (IsConditionMet p V) (HasTreeValue (reading p V)) (step_value p V) c

module _ (version : Version) (p : Source) (V L : Placement) (x y j : ℕ) (g : Agrees version p V L x y j) where
  abbrev HasTerm : Statement → Type 0
  HasTerm s = HasTreeValue L (goal_term (layout_of version p.commands) p.nodes s)

  zero_terms : (gs : List Statement) → AllByRecursion (IsZeroGoal version p L) gs → AllByRecursion HasTerm gs
  zero_terms [] h = tt
  zero_terms (s ∷ gs) h = (h.0.0, zero_terms gs h.1)

  statement_term : (s : Statement) → IsStatementOver p.nodes x y s → AllByRecursion (IsConditionMet p V) (statement_conditions p.nodes s)
      → AllByRecursion (IsZeroGoal version p L) (pair_goals p.nodes s) → HasTerm s
  statement_term (Equal e f) o m z =
      let E = tree_of p.nodes e in let G = tree_of p.nodes f in
      let C = IsConditionMet p V in let Z = IsZeroGoal version p L in (
        (value_down version p V L x y j g E (over_expression x y true E o.0)
            (has_value p V x y true E o.0 (each_front C (expression_conditions E) (expression_conditions G) m)
            (zero_ratios version p V L x y j g true E o.0 (each_front Z (ratio_goals E) (ratio_goals G) z)))).0,
        (value_down version p V L x y j g G (over_expression x y true G o.1)
            (has_value p V x y true G o.1 (each_back C (expression_conditions E) (expression_conditions G) m)
            (zero_ratios version p V L x y j g true G o.1 (each_back Z (ratio_goals E) (ratio_goals G) z)))).0,
      )
  statement_term (Collinear a b c) o m z = tt
  statement_term (Parallel a b c d) o m z = (tt, tt)
  statement_term (Perpendicular a b c d) o m z = (tt, tt)
  statement_term (Identical a b) o m z = tt
  statement_term (Midpoint n a b) o m z = (((tt, tt), (tt, tt)), tt)
  statement_term (SameLength a b c d) o m z = (tt, tt)
  statement_term (Harmonic a b c d) o m z =
      let A = g.points a.0 o.0 in let B = g.points b.0 o.1 in let C = g.points c.0 o.2 in let D = g.points d.0 o.3 in (
        HasRatio-same _ _ _ _ _ _ _ _ A C C B (record { parallel = (parallel_zero version p V L x y j g a.0 c.0 c.0 b.0 o.0 o.2 o.2 o.1).1 z.0; apart = apart (V.point c.0) (V.point b.0) m.0 }),
        HasRatio-same _ _ _ _ _ _ _ _ A D B D (record { parallel = (parallel_zero version p V L x y j g a.0 d.0 b.0 d.0 o.0 o.3 o.1 o.3).1 z.1.0; apart = apart (V.point b.0) (V.point d.0) m.1.0 }),
      )
  statement_term (Concyclic a b c d) o m z = ((tt, tt), (tt, tt))

  asked_term : (c : Condition) → IsConditionOver x y j c → CanBeAsked p V c → HasTreeValue L (condition_term (layout_of version p.commands) c)
  asked_term (different a b) o h = tt
  asked_term (not_collinear a b c) o h = tt
  asked_term (not_parallel a b c d) o h = (tt, tt)
  asked_term (crossing a b) o h = (tt, tt)
  asked_term (nonzero e) o h = (value_down version p V L x y j g e (over_expression x y false e o) h).0

pub goals_have_values : GoalsHaveValues
goals_have_values version p l V L goals i c m z =
    let w = i.well_formed in
    let g = extension_agrees version p V L w i.extends (to_forms version p l L i.form i.steps) in
    let X = points_from 0 p.commands in let Y = params_past 0 p.commands in let J = lines_past 0 p.commands in
    let zeros = recursion_from_All (IsZeroGoal version p L) (pair_goals p.nodes p.statement) z in
    let line = suc (length p.commands) in
    let met = recursion_from_All (λ (f : Found). IsConditionMet p V f.condition) (all_found p) m.conditions in
    let conditions = of_line p V line (statement_conditions p.nodes p.statement)
    (each_back (λ (f : Found). IsConditionMet p V f.condition) (found_from p.nodes 0 1 p.commands) (found_at line (statement_conditions p.nodes p.statement)) met) in
    let P : Statement → Type 0 = λ s. HasTreeValue L (goal_term (layout_of version p.commands) p.nodes s) in
    All-from_recursion P goals
    (listed_hold (λ s. s) P (statement_goals p.nodes p.statement) [] goals c tt
    (each_append P (pair_goals p.nodes p.statement) (p.statement ∷ []) (zero_terms version p V L X Y J g (pair_goals p.nodes p.statement) zeros)
    (statement_term version p V L X Y J g p.statement (program_statement_over p w) conditions zeros, tt)))

pub conditions_have_values : ConditionsHaveValues
conditions_have_values version p l V L before after f i c m =
    let w = i.well_formed in
    let g = extension_agrees version p V L w i.extends (to_forms version p l L i.form i.steps) in
    let X = points_from 0 p.commands in let Y = params_past 0 p.commands in let J = lines_past 0 p.commands in
    let M : Condition → Type 0 = IsConditionMet p V in let H : Tree → Type 0 = HasTreeValue (reading p V) in
    let ordered = listed_ordered p M H (step_value p V) (all_found p) [] [] (before ++ f ∷ after) c (λ h. tt) (all_ordered p M H (step_value p V) w) tt in
    let over = listed_hold (λ k. k.condition) (IsConditionOver X Y J) (all_found p) [] (before ++ f ∷ after) c tt (program_over p w (named_program p w)) in
    asked_term version p V L X Y J g f.condition (each_back (λ (k : Found). IsConditionOver X Y J k.condition) before (f ∷ after) over).0
    (ordered_at p M H (step_value p V) [] before after f ordered tt (recursion_from_All (λ (k : Found). IsConditionMet p V k.condition) before m))
