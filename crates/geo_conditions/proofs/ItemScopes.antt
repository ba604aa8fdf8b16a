-- The conditions and the goals of a well-formed program can be printed, and their terms walked.
use Rattle.std.proofs.Common.{◌≡◌, ℕ, ◌+◌, ◌≤◌, true, List, [], ◌∷◌, map, sym, subst, arith}
use Rattle.std.specs.Prelude.{sum_by}
use Rattle.std.specs.List.{AllByRecursion}
use Rattle.std.proofs.lemmas.List.Elements.{recursion_from_All}
use Rattle.std.proofs.lemmas.List.Sums.{sum_by-cons}
use Rattle.geo_program.specs.declared.commands.Command.{Command}
use Rattle.geo_program.specs.declared.commands.Command.TheVariants.{Point, Param, Pratio, Tratio, Lratio, Weights}
use Rattle.geo_program.specs.declared.names.Name.{Name}
use Rattle.geo_program.specs.declared.names.NameKind.TheVariants as kind
use Rattle.geo_program.specs.declared.statements.Statement.{Statement}
use Rattle.geo_program.specs.declared.statements.Statement.TheVariants as statement
use Rattle.geo_program.specs.Expressions.{IsExpression}
use Rattle.geo_program.specs.Forms.{AreSidesStored, IsStored, command_form, statement_form}
use Rattle.geo_program.specs.Inner.Printing.{whole_scope}
use Rattle.geo_program.specs.WellFormed.{AreCommands, IsArgument, IsWellFormed, Scope, Source, later_names, own_names, scope_of}
use Rattle.geo_program.proofs.ScopeLemmas.{IsExpression-ratios}
use Rattle.geo_terms.specs.Stores.{Store, IsStore, tree_of}
use Rattle.geo_terms.specs.Trees.{Tree, integer_leaf, parameter_leaf, area_leaf, pythagoras_leaf, ratio_leaf, negation, addition, subtraction, multiplication, division}
use Rattle.geo_lowering.specs.Counting.{counted, named, points_from}
use Rattle.geo_lowering.proofs.ConditionValues.{each_append}
use Rattle.geo_lowering.proofs.Exists.{params_past, lines_past}
use Rattle.geo_lowering.proofs.Laying.{named_program, scope}
use Rattle.geo_conditions.specs.declared.conditions.Condition.{Condition}
use Rattle.geo_conditions.specs.declared.conditions.Condition.TheVariants.{Different, NotCollinear, NotParallel, Crossing, Nonzero}
use Rattle.geo_conditions.specs.declared.conditions.ListedCondition.{ListedCondition}
use Rattle.geo_conditions.specs.Inner.ConditionLists.{AreSidesBraced, IsKept, IsNumberBraced, condition_of, found_of}
use Rattle.geo_conditions.specs.Inner.ItemForms.{IsPrintableCondition, IsPrintableGoal}
use Rattle.geo_conditions.specs.Lists.{AreConditions, AreGoals, all_found}
use Rattle.geo_conditions.specs.Statements.{pair_goals, ratio_goals, statement_goals}
use Rattle.geo_conditions.proofs.Agreement.{IsConditionOver, IsStatementOver}
use Rattle.geo_conditions.proofs.ConditionScopes.{program_over, program_statement_over, scope_past}
use Rattle.geo_conditions.proofs.KeptConditions.{key}
use Rattle.geo_conditions.proofs.KeptGoals.{itself}
use Rattle.geo_conditions.proofs.Listings.{listed_hold}

-- NUMBERS AND SIDES
number_braced : (nodes : Store) (s : Scope) (c : Command) → AllByRecursion (IsArgument s) (command_form nodes c).arguments → IsStored nodes c → IsNumberBraced nodes c
number_braced nodes s (Pratio w u v r) k i = (i, k.1.1.1.0.1)
number_braced nodes s (Tratio u v r) k i = (i, k.1.1.0.1)
number_braced nodes s (Lratio a b r) k i = (i, k.1.1.0.1)
number_braced nodes s (Weights a b c r t) k i = ((i.0, k.1.1.1.0.1), (i.1, k.1.1.1.1.0.1))
number_braced nodes s c k i = tt

pub numbers_braced : (nodes : Store) (s : Scope) (names : List Name) (cs : List Command) → AreCommands nodes s names cs → AllByRecursion (IsNumberBraced nodes) cs
numbers_braced nodes s names [] h = tt
numbers_braced nodes s names (c ∷ cs) h = (
  number_braced nodes s c (recursion_from_All (IsArgument s) (command_form nodes c).arguments h.0.arguments) h.0.stored,
  numbers_braced nodes (scope_of s (own_names (command_form nodes c) names)) (later_names (command_form nodes c) names) cs h.1,
)

pub sides_braced : (p : Source) → IsWellFormed p → AreSidesBraced p.nodes p.statement
sides_braced p w =
    by p.statement (recursion_from_All (IsArgument (whole_scope p.names)) (statement_form p.nodes p.statement).arguments w.statement) w.sides
  where
    by : (s : Statement) → AllByRecursion (IsArgument (whole_scope p.names)) (statement_form p.nodes s).arguments → AreSidesStored p.nodes s → AreSidesBraced p.nodes s
    by (statement.Equal e f) k i = ((i.0, k.0.1), (i.1, k.1.0.1))
    by s k i = tt

-- NAMED POINTS ARE FEW
one_named : (nodes : Store) (x : ℕ) (c : Command) → counted kind.Point (named c) x ≤ x + (command_form nodes c).points
one_named nodes x Point = omega arith
one_named nodes x Param = omega arith
one_named nodes x c = omega arith

pub named_few : (nodes : Store) (x : ℕ) (cs : List Command) → points_from x cs ≤ x + sum_by (λ c. (command_form nodes c).points) cs
named_few nodes x [] = omega arith
named_few nodes x (c ∷ cs) =
    let one = one_named nodes x c in
    let rest = named_few nodes (counted kind.Point (named c) x) cs in
    omega (arith, one, rest, sum_by-cons (λ (d : Command). (command_form nodes d).points) c cs)

-- GOALS
module _ (p : Source) (w : IsWellFormed p) where
  -- what the names declare is what the commands make
  pub whole : whole_scope p.names ≡ scope (points_from 0 p.commands) (params_past 0 p.commands) (lines_past 0 p.commands)
  whole = scope_past p.nodes p.names p.commands 0 0 0 w.commands

  abbrev IsGoal : Statement → Type 0
  IsGoal g = IsPrintableGoal p.names p.nodes g

  abbrev N : ℕ
  N = (whole_scope p.names).points

  ratios : (y : ℕ) (e : Tree) → IsExpression N y true e → AllByRecursion IsGoal (ratio_goals e)
  ratios y (integer_leaf z) i = tt
  ratios y (parameter_leaf t) i = tt
  ratios y (area_leaf a b c) i = tt
  ratios y (pythagoras_leaf a b c) i = tt
  ratios y (ratio_leaf a b c d) i = (record { arguments = (i.1, (i.2, (i.3, (i.4, tt)))); sides = tt }, tt)
  ratios y (negation e) i = ratios y e i
  ratios y (addition e f) i = each_append IsGoal (ratio_goals e) (ratio_goals f) (ratios y e i.0) (ratios y f i.1)
  ratios y (subtraction e f) i = each_append IsGoal (ratio_goals e) (ratio_goals f) (ratios y e i.0) (ratios y f i.1)
  ratios y (multiplication e f) i = each_append IsGoal (ratio_goals e) (ratio_goals f) (ratios y e i.0) (ratios y f i.1)
  ratios y (division e f) i = each_append IsGoal (ratio_goals e) (ratio_goals f) (ratios y e i.0) (ratios y f (IsExpression-ratios N y true f i.1))

  pairs : (s : Statement) → IsStatementOver p.nodes N (whole_scope p.names).params s → AllByRecursion IsGoal (pair_goals p.nodes s)
  pairs (statement.Equal e f) o =
      each_append IsGoal (ratio_goals (tree_of p.nodes e)) (ratio_goals (tree_of p.nodes f))
      (ratios (whole_scope p.names).params (tree_of p.nodes e) o.0) (ratios (whole_scope p.names).params (tree_of p.nodes f) o.1)
  pairs (statement.Harmonic a b c d) o =
      (record { arguments = (o.0, (o.2, (o.2, (o.1, tt)))); sides = tt }, (record { arguments = (o.0, (o.3, (o.1, (o.3, tt)))); sides = tt }, tt))
  pairs (statement.Collinear a b c) o = tt
  pairs (statement.Parallel a b c d) o = tt
  pairs (statement.Perpendicular a b c d) o = tt
  pairs (statement.Identical a b) o = tt
  pairs (statement.Midpoint m a b) o = tt
  pairs (statement.SameLength a b c d) o = tt
  pairs (statement.Concyclic a b c d) o = tt

  all_printable : AllByRecursion IsGoal (statement_goals p.nodes p.statement)
  all_printable =
      let own : IsGoal p.statement = record { arguments = recursion_from_All (IsArgument (whole_scope p.names)) (statement_form p.nodes p.statement).arguments w.statement; sides = w.sides } in
      let over : IsStatementOver p.nodes N (whole_scope p.names).params p.statement = subst
      (λ (s : Scope). IsStatementOver p.nodes s.points s.params p.statement) (sym whole) (program_statement_over p w) in
      each_append IsGoal (pair_goals p.nodes p.statement) (p.statement ∷ []) (pairs p.statement over) (own, tt)

  pub goals_printable : (goals : List Statement) → AreGoals p goals → AllByRecursion IsGoal goals
  goals_printable goals are = listed_hold itself IsGoal (statement_goals p.nodes p.statement) [] goals are tt all_printable

  -- the arguments of a goal are over the names
  abbrev pub IsNamedGoal : Statement → Type 0
  IsNamedGoal g = AllByRecursion (IsArgument (whole_scope p.names)) (statement_form p.nodes g).arguments

  names_only : (goals : List Statement) → AllByRecursion IsGoal goals → AllByRecursion IsNamedGoal goals
  names_only [] h = tt
  names_only (g ∷ goals) h = (h.0.arguments, names_only goals h.1)

  pub goals_named : AllByRecursion IsNamedGoal (statement_goals p.nodes p.statement)
  goals_named = names_only (statement_goals p.nodes p.statement) all_printable

-- CONDITIONS
module _ (p : Source) (store : IsStore p.nodes) (w : IsWellFormed p) where
  abbrev X : ℕ
  X = points_from 0 p.commands

  abbrev Y : ℕ
  Y = params_past 0 p.commands

  abbrev J : ℕ
  J = lines_past 0 p.commands

  printable : (s : Scope) → whole_scope p.names ≡ s → (c : Condition) → IsConditionOver s.points s.params s.lines (condition_of p.nodes c) → IsKept p.nodes c → IsPrintableCondition p.names p.nodes c
  printable s e c o k = by c (subst (λ (t : Scope). IsConditionOver t.points t.params t.lines (condition_of p.nodes c)) (sym e) o) k
    where
      by : (c : Condition) → IsConditionOver (whole_scope p.names).points (whole_scope p.names).params (whole_scope p.names).lines
          (condition_of p.nodes c) → IsKept p.nodes c → IsPrintableCondition p.names p.nodes c
      by (Different a b) o k = (o.0, (o.1, tt))
      by (NotCollinear a b c) o k = (o.0, (o.1, (o.2, tt)))
      by (NotParallel a b c d) o k = (o.0, (o.1, (o.2, (o.3, tt))))
      by (Crossing a b) o k = o
      by (Nonzero e) o k = record {
        store = store;
        stored = k.0;
        expression = IsExpression-ratios (whole_scope p.names).points (whole_scope p.names).params true (tree_of p.nodes e) o;
        shallow = k.1;
      }

  each_printable : (items : List ListedCondition) → AllByRecursion (λ f. IsConditionOver X Y J f.condition) (map (found_of p.nodes) items) → AllByRecursion (λ i. IsKept p.nodes i.condition) items
      → AllByRecursion (λ i. IsPrintableCondition p.names p.nodes i.condition) items
  each_printable [] o k = tt
  each_printable (i ∷ items) o k = (printable (scope X Y J) (whole p w) i.condition o.0 k.0, each_printable items o.1 k.1)

  pub conditions_printable : (items : List ListedCondition) → AreConditions p (map (found_of p.nodes) items) → AllByRecursion (λ i. IsKept p.nodes i.condition) items
      → AllByRecursion (λ i. IsPrintableCondition p.names p.nodes i.condition) items
  conditions_printable items are k =
      each_printable items (listed_hold key (IsConditionOver X Y J) (all_found p) [] (map (found_of p.nodes) items) are tt (program_over p w (named_program p w))) k
