-- What an accepted log proves, whoever wrote it; and that the prover's log is one.
use Rattle.std.specs.Prelude.{◌≡◌, ℕ, suc, ◌^◌, ◌<◌, ◌≤◌, ℤ, pos, Some, List, [], ◌∷◌, ◌++◌, length, map, slice_get}
use Rattle.ring_laws.specs.Fraction.{Same, IsNonzero, whole}
use Rattle.geo_points.specs.Placements.{Placement}
use Rattle.geo_poly.specs.declared.variables.Var.{Var}
use Rattle.geo_poly.specs.Cuts.{IsCut}
use Rattle.geo_poly.specs.Monomials.{Powers}
use Rattle.geo_poly.specs.Polynomials.{Summands}
use Rattle.geo_terms.specs.Constructions.{Construction, MeetsSteps}
use Rattle.geo_terms.specs.Values.{HasTreeValue, tree_value}
use Rattle.proof_log.specs.declared.log.Line.{Line}
use Rattle.proof_log.specs.declared.log.Line.TheVariants.{Sample, Verdict as VerdictLine}
use Rattle.proof_log.specs.declared.log.Verdict.{Verdict}
use Rattle.proof_log.specs.declared.log.Verdict.TheVariants.{Proved, False, Impossible}
use Rattle.geo_logs.specs.Chains.{ChainStep, moves, cuts, LeadsTo}
use Rattle.geo_logs.specs.Defined.{IsCutDue, IsLogOfProver, NoCutDue}
use Rattle.geo_logs.specs.Ends.{Ending, IsDefinedLog}
use Rattle.geo_logs.specs.Logs.{IsAccepted, Item, Subject}
use Rattle.geo_logs.specs.Moves.{Table, place_of}
use Rattle.geo_logs.specs.Placements.{HasValuesBelow, HoldsAsCondition, MeetsStepsBelow}
use Rattle.geo_logs.specs.Naming.{IsNamed, IsPlaceBelow}
use Rattle.geo_terms.specs.TermBounds.{IsTermBelow}
use Rattle.geo_logs.specs.Samples.{sample_variables}
use Rattle.geo_logs.specs.Sound.{IsSoundTable, IsSoundTerm}
use Rattle.geo_poly.specs.PolynomialVariables.{AllVariables}

-- THE UNIVERSAL HALF
-- the verdict says that the goal at place i is 0: all goals where it is Proved, and those before the failing one
abbrev pub SaysZero : Verdict → ℕ → Type 0
SaysZero Proved i = Unit {0}
SaysZero (False g) i = suc i < g
SaysZero (Impossible k) i = ⊥

-- in every placement that meets the steps, such a goal's term is 0 wherever it has a value
abbrev pub AcceptedGoalsAreZero : Type 0
AcceptedGoalsAreZero =
    (table : Table) (subject : Subject) (steps left : ℕ) (lines : List Line) (verdict : Verdict)
    → IsSoundTable table subject.construction → IsAccepted table subject steps lines verdict left
    → (i : ℕ) (goal : Item) → slice_get subject.goals i ≡ Some goal → SaysZero verdict i → IsSoundTerm subject.construction goal.term
    → (placed : Placement) → MeetsSteps placed subject.construction → HasTreeValue placed goal.term
    → Same (tree_value placed goal.term) (whole (pos 0))

-- where the verdict is Impossible(k), condition k holds in no placement that meets the steps
abbrev pub ImpossibleIsNeverMet : Type 0
ImpossibleIsNeverMet =
    (table : Table) (subject : Subject) (steps left k : ℕ) (lines : List Line)
    → IsSoundTable table subject.construction → IsAccepted table subject steps lines (Impossible k) left
    → (i : ℕ) × (condition : Item) × (k ≡ suc i) × (slice_get subject.conditions i ≡ Some condition)
    × (IsSoundTerm subject.construction condition.term → (placed : Placement) → MeetsSteps placed subject.construction
    → HoldsAsCondition placed condition.term → ⊥)

-- CHAINS NAME NO LATER POINTS
-- each move looks at the step of a point below n alone, if at any
abbrev pub LookBelow : ℕ → List ChainStep → Type 0
LookBelow n [] = Unit {0}
LookBelow n (moves move r ∷ steps) = IsPlaceBelow n (place_of move) × LookBelow n steps
LookBelow n (cuts f r ∷ steps) = LookBelow n steps

-- a chain whose beginning names points below n alone eliminates such points alone, since a move replaces variables that stand there, and it
-- ends with such points alone
abbrev pub ChainsNameNoLater : Type 0
ChainsNameNoLater =
    (table : Table) (c : Construction) (known : List Var) (n left : ℕ) (q : Summands) (steps : List ChainStep) (left' : ℕ) (e : Summands)
    → IsSoundTable table c → AllVariables (IsNamed c n) q → LeadsTo table c known left q steps left' e
    → LookBelow n steps × AllVariables (IsNamed c n) e

-- CHARGES
-- no more steps are left than there were: the charges of all lines are the difference
abbrev pub ChargesAreSpent : Type 0
ChargesAreSpent =
    (table : Table) (subject : Subject) (steps left : ℕ) (lines : List Line) (verdict : Verdict)
    → IsAccepted table subject steps lines verdict left → left ≤ steps

-- THE EXISTENCE HALF
-- the verdict comes with a sample
abbrev pub HasSample : Verdict → Type 0
HasSample Proved = Unit {0}
HasSample (False g) = Unit {0}
HasSample (Impossible k) = ⊥

-- the conditions before place m hold
abbrev pub HoldBefore : Placement → Subject → ℕ → Type 0
HoldBefore placed subject m =
    (i : ℕ) (condition : Item) → i < m → slice_get subject.conditions i ≡ Some condition → HoldsAsCondition placed condition.term

-- the conditions before place m name points below n alone, and are sound terms
abbrev pub AreNamedBefore : Subject → ℕ → ℕ → Type 0
AreNamedBefore subject n m =
    (i : ℕ) (condition : Item) → i < m → slice_get subject.conditions i ≡ Some condition
    → IsTermBelow n subject.construction.params condition.term × IsSoundTerm subject.construction condition.term

-- each condition before place m has a value wherever those before it hold
abbrev pub HaveValuesInTurn : Placement → Subject → ℕ → Type 0
HaveValuesInTurn placed subject m =
    (i : ℕ) (condition : Item) → i < m → slice_get subject.conditions i ≡ Some condition → HoldBefore placed subject i
    → HasTreeValue placed condition.term

-- what a sample gives: a placement with its values that meets the steps below n makes all those conditions hold that name points below n
-- alone
abbrev pub GivesConditions : Subject → List (Var × ℤ) → Type 0
GivesConditions subject values =
    (placed : Placement) (n m : ℕ) → HasValuesBelow placed subject.construction n values → MeetsStepsBelow placed subject.construction n
    → AreNamedBefore subject n m → HaveValuesInTurn placed subject m → HoldBefore placed subject m

-- and the failing goal is not 0 in a placement with its values that meets all steps and conditions, where the goal has a value
abbrev pub GivesFailure : Subject → List (Var × ℤ) → Verdict → Type 0
GivesFailure subject values Proved = Unit {0}
GivesFailure subject values (Impossible k) = Unit {0}
GivesFailure subject values (False g) =
    (i : ℕ) × (goal : Item) × (g ≡ suc i) × (slice_get subject.goals i ≡ Some goal)
    × ((placed : Placement) → let n = length subject.construction.steps in HasValuesBelow placed subject.construction n values
    → MeetsSteps placed subject.construction
    → AreNamedBefore subject n (length subject.conditions) → HoldBefore placed subject (length subject.conditions)
    → IsTermBelow n subject.construction.params goal.term → IsSoundTerm subject.construction goal.term → HasTreeValue placed goal.term
    → IsNonzero (tree_value placed goal.term))

-- the sample of an accepted log gives all this
abbrev pub AcceptedSampleRealises : Type 0
AcceptedSampleRealises =
    (table : Table) (subject : Subject) (steps left : ℕ) (lines : List Line) (verdict : Verdict)
    → IsSoundTable table subject.construction → IsAccepted table subject steps lines verdict left → HasSample verdict
    → (before : List Line) × (values : List (Var × ℤ)) × (lines ≡ before ++ Sample values ∷ VerdictLine verdict ∷ [])
    × (map (λ v. v.0) values ≡ sample_variables subject.construction) × GivesConditions subject values × GivesFailure subject values verdict

-- THE PROVER'S LOG
-- the items name points and parameters of the construction alone, and are sound terms
abbrev pub AreNamed : Construction → List Item → Type 0
AreNamed c items =
    (i : ℕ) (item : Item) → slice_get items i ≡ Some item → IsTermBelow (length c.steps) c.params item.term × IsSoundTerm c item.term

-- the prover's log is an accepted one; since an accepted sample needs one try for each value, no fewer steps are left
abbrev pub ProversLogIsAccepted : Type 0
ProversLogIsAccepted =
    (table : Table) (subject : Subject) (steps left : ℕ) (lines : List Line) (verdict : Verdict)
    → IsSoundTable table subject.construction → AreNamed subject.construction subject.conditions
    → AreNamed subject.construction subject.goals
    → steps < 2 ^ 127 → IsLogOfProver table subject steps lines verdict left
    → (more : ℕ) × (left ≤ more) × IsAccepted table subject steps lines verdict more

-- a subject has one log of the prover at most, with one verdict
abbrev pub ProversLogIsUnique : Type 0
ProversLogIsUnique =
    (table : Table) (subject : Subject) (steps left left' : ℕ) (lines other : List Line) (verdict verdict' : Verdict)
    → IsLogOfProver table subject steps lines verdict left → IsLogOfProver table subject steps other verdict' left'
    → (lines ≡ other) × (verdict ≡ verdict') × (left ≡ left')

-- and one defined list at most, with one end
abbrev pub DefinedLogIsUnique : Type 0
DefinedLogIsUnique =
    (table : Table) (subject : Subject) (steps : ℕ) (lines other : List Line) (ending ending' : Ending)
    → IsDefinedLog table subject steps lines ending → IsDefinedLog table subject steps other ending' → (lines ≡ other) × (ending ≡ ending')

-- after a cut by the factor of a polynomial none is due
abbrev pub NoneIsDueAfterCut : Type 0
NoneIsDueAfterCut = (known : List Var) (f : Powers × ℤ) (q r : Summands) → IsCutDue known q f → IsCut known f q r → NoCutDue known r
