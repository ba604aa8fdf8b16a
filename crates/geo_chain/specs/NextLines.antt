-- The line that the prover writes after a polynomial.
use Rattle.std.specs.Prelude.{◌≡◌, ℕ, ◌-◌, ◌⊎◌, ℤ, IfSome, List, [], ◌∷◌}
use Rattle.geo_logs.specs.declared.moves.Move.{Move}
use Rattle.elim_apply.specs.LemmaTable.{lemma_table}
use Rattle.geo_logs.specs.Moves.{move_charge, replacement}
use Rattle.fraction_poly.specs.TableRows.{HasPointsBelow}
use Rattle.geo_logs.specs.Chains.{ChainStep, IsEnd, line_of}
use Rattle.geo_logs.specs.Defined.{IsCutDue, IsNextMove, LeadsBySteps, NoCutDue}
use Rattle.geo_poly.specs.Cuts.{IsCut}
use Rattle.geo_poly.specs.declared.variables.Var.{Var}
use Rattle.geo_poly.specs.Monomials.{Powers}
use Rattle.geo_poly.specs.Polynomials.{Summands}
use Rattle.geo_poly.specs.PolynomialVariables.{AllVariables}
use Rattle.geo_terms.specs.Constructions.{Construction}
use Rattle.proof_log.specs.declared.log.Line.{Line}
use Rattle.proof_log.specs.Steps.{polynomial_on}
use Rattle.proof_log.specs.declared.log.Line.TheVariants.{Cut, End}

-- CUTS
-- the line is the cut that is due
pub record IsCutLine (known : List Var) (q : Summands) (line : Line) : Type 0 where
  pub factor : Powers × ℤ
  pub rest : Summands
  pub due : IsCutDue known q factor
  pub cut : IsCut known factor q rest
  pub is : line ≡ Cut factor rest

-- MOVES
-- no cut is due, and the move is the next one
pub record IsMoveDue (c : Construction) (known : List Var) (q : Summands) (move : Move) : Type 0 where
  pub no_cut : NoCutDue known q
  pub next : IsNextMove lemma_table c q move

-- what is left after the charge of a move
abbrev pub left_after : Construction → Move → Summands → ℕ → ℕ
left_after c move q left = left - move_charge (replacement lemma_table c move q) q

-- LINES
-- the line is that of the prover's one step from q, a cut or a move
pub record IsStepLine (c : Construction) (known : List Var) (left : ℕ) (q : Summands) (line : Line) (left' : ℕ) : Type 0 where
  pub step : ChainStep
  pub next : Summands
  pub leads : LeadsBySteps lemma_table c known left q (step ∷ []) left' next
  pub is : line ≡ line_of step

-- the line is the end of the prover's chain
pub record IsEndLine (known : List Var) (left : ℕ) (q : Summands) (line : Line) (left' : ℕ) : Type 0 where
  pub no_cut : NoCutDue known q
  pub ended : IsEnd q
  pub is : line ≡ End
  pub kept : left' ≡ left

-- the line is the one that the prover writes after q
abbrev pub IsNextLine : Construction → List Var → ℕ → Summands → Line → ℕ → Type 0
IsNextLine c known left q line left' = IsStepLine c known left q line left' ⊎ IsEndLine known left q line left'

-- the polynomial on the line, if any, has points below n alone
abbrev pub HasLinePointsBelow : ℕ → Line → Type 0
HasLinePointsBelow n line = IfSome (polynomial_on line) (AllVariables (HasPointsBelow n))
