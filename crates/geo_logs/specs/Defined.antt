-- The prover's log: at each polynomial a cut where one is due, else the one next move, else the end; then the least sample.
use Rattle.std.specs.Prelude.{◌≡◌, ◌≢◌, ℕ, zero, suc, ◌-◌, ◌≤◌, ◌==◌, ◌||◌, ◌⊎◌, IsTrue, Bool, false, Any, Contains, ℤ, pos, Some, List, [], ◌∷◌, slice_get}
use Rattle.std.specs.declared.cmp.Ordering.TheVariants.{Less}
use Rattle.geo_points.specs.declared.ids.PointId.{PointId}
use Rattle.geo_poly.specs.declared.variables.Var.{Var}
use Rattle.geo_poly.specs.declared.variables.Var.TheVariants.{R, S, P}
use Rattle.geo_poly.specs.Factors.{IsFactorOf}
use Rattle.geo_poly.specs.Monomials.{Powers}
use Rattle.geo_poly.specs.Polynomials.{Summands}
use Rattle.geo_poly.specs.Variables.{var_cmp}
use Rattle.geo_terms.specs.declared.steps.Step.{Step}
use Rattle.geo_terms.specs.declared.steps.Step.TheVariants.{Point as FreeStep}
use Rattle.geo_terms.specs.Constructions.{Construction}
use Rattle.geo_terms.specs.Trees.{Tree}
use Rattle.proof_log.specs.declared.log.Line.{Line}
use Rattle.proof_log.specs.declared.log.Verdict.{Verdict}
use Rattle.geo_logs.specs.declared.moves.Move.{Move}
use Rattle.geo_logs.specs.declared.moves.Move.TheVariants.{Ratio, Point, Coords}
use Rattle.geo_logs.specs.Chains.{Chain, ChainStep, moves, cuts, IsEnd}
use Rattle.geo_poly.specs.Cuts.{IsCut}
use Rattle.geo_logs.specs.Starts.{IsStarted, start_charge, start_of}
use Rattle.geo_logs.specs.Logs.{Subject, IsLog}
use Rattle.geo_logs.specs.Moves.{Table, IsMoved, move_charge, replacement}
use Rattle.geo_logs.specs.Samples.{IsLeastSample}
use Rattle.geo_poly.specs.PolynomialVariables.{IsQuantity, IsRatio, variables_of}

-- THE NEXT MOVE
-- both are the same point
abbrev pub is_point : PointId → PointId → Bool
is_point a b = a.0 == b.0

-- the variable is a quantity of points, among them y
abbrev pub has_point : PointId → Var → Bool
has_point y (R a b c d) = is_point a y || is_point b y || is_point c y || is_point d y
has_point y (S a b c) = is_point a y || is_point b y || is_point c y
has_point y (P a b c) = is_point a y || is_point b y || is_point c y
has_point y _ = false

-- some quantity of q has the point y
abbrev pub Occurs : PointId → Summands → Type 0
Occurs y q = Any (λ v. IsTrue (has_point y v)) (variables_of q)

-- a step makes y, and not as a free point
pub record IsConstructed (c : Construction) (y : PointId) : Type 0 where
  pub step : Step
  pub made : slice_get c.steps y.0 ≡ Some step
  pub not_free : step ≢ FreeStep

-- y is the constructed point of the highest number in the quantities of q
pub record IsHighest (c : Construction) (y : PointId) (q : Summands) : Type 0 where
  pub constructed : IsConstructed c y
  pub occurs : Occurs y q
  pub highest : (z : PointId) → IsConstructed c z → Occurs z q → z.0 ≤ y.0

-- no constructed point is in the quantities of q
abbrev pub HasFreePointsAlone : Construction → Summands → Type 0
HasFreePointsAlone c q = (y : PointId) → IsConstructed c y → Occurs y q → ⊥

-- v is the first ratio of q with this property, in the order of variables
pub record IsFirstRatio (Fits : Var → Type 0) (q : Summands) (v : Var) : Type 0 where
  pub stands : Contains (variables_of q) v
  pub ratio : IsRatio v
  pub fits : Fits v
  pub first : (w : Var) → Contains (variables_of q) w → IsRatio w → Fits w → var_cmp w v ≢ Less

-- no ratio of q has the point y
abbrev pub HasNoRatioWith : PointId → Summands → Type 0
HasNoRatioWith y q = (v : Var) → Contains (variables_of q) v → IsRatio v → IsTrue (has_point y v) → ⊥

-- q has no ratio
abbrev pub HasNoRatio : Summands → Type 0
HasNoRatio q = (v : Var) → Contains (variables_of q) v → IsRatio v → ⊥

-- the point that a move names for a lemma: lemma 0 looks at none, and then it is point 0
abbrev pub named_point : ℕ → PointId → PointId
named_point zero y = record { 0 = 0 }
named_point (suc k) y = y

-- the one move that the prover makes on q: the highest constructed point goes, ratio by ratio, and then all its areas and Pythagoras
-- differences; without constructed points the ratios go, and then the rest
abbrev pub IsNextMove : Table → Construction → Summands → Move → Type 0
IsNextMove table c q (Ratio v lemma at) =
    ((y : PointId) × IsHighest c y q × IsFirstRatio (λ w. IsTrue (has_point y w)) q v × (lemma ≡ table.first_lemma c y v)
    × (at ≡ named_point lemma y))
    ⊎ (HasFreePointsAlone c q × IsFirstRatio (λ w. Unit {0}) q v × (lemma ≡ 0) × (at ≡ named_point 0 at))
IsNextMove table c q (Point y) = IsHighest c y q × HasNoRatioWith y q
IsNextMove table c q Coords = HasFreePointsAlone c q × HasNoRatio q × Any IsQuantity (variables_of q)

-- CHAINS
-- no cut is due: q is 0, or its factor is 1
abbrev pub NoCutDue : List Var → Summands → Type 0
NoCutDue known q = q ≢ [] → IsFactorOf known q ([], pos 1)

-- the cut by f is due
pub record IsCutDue (known : List Var) (q : Summands) (f : Powers × ℤ) : Type 0 where
  pub nonzero : q ≢ []
  pub factor : IsFactorOf known q f
  pub divides : f ≢ ([], pos 1)

-- the prover's steps lead from q to e: a cut where one is due, else the next move
abbrev pub LeadsBySteps : Table → Construction → List Var → ℕ → Summands → List ChainStep → ℕ → Summands → Type 0
LeadsBySteps table c known left q [] left' e = (left ≡ left') × (q ≡ e)
LeadsBySteps table c known left q (moves move r ∷ steps) left' e =
    NoCutDue known q × IsNextMove table c q move × IsMoved (replacement table c move q) left q r
    × LeadsBySteps table c known (left - move_charge (replacement table c move q) q) r steps left' e
LeadsBySteps table c known left q (cuts f r ∷ steps) left' e =
    IsCutDue known q f × IsCut known f q r × LeadsBySteps table c known left r steps left' e

-- the prover's chain of the term
pub record IsDefinedChain (table : Table) (c : Construction) (known : List Var) (left : ℕ) (e : Tree) (chain : Chain) (left' : ℕ)
    : Type 0 where
  pub started : IsStarted left e
  pub leads : LeadsBySteps table c known (left - start_charge e) (start_of e) chain.steps left' chain.end
  pub no_cut : NoCutDue known chain.end
  pub ended : IsEnd chain.end

-- WHOLE LOGS
-- the lines are the prover's log with this verdict, were its text to have no limit
abbrev pub IsLogOfProver : Table → Subject → ℕ → List Line → Verdict → ℕ → Type 0
IsLogOfProver table subject = IsLog (IsDefinedChain table subject.construction) (IsLeastSample subject.construction) subject
