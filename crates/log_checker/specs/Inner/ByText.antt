-- Lines of moves and cuts that are judged by their text.
use Rattle.std.specs.Prelude.{◌≡◌, ℕ, Bool, true, false, Option, Some, None, List}
use Rattle.geo_poly.specs.declared.variables.Var.{Var}
use Rattle.geo_poly.specs.Polynomials.{Summands}
use Rattle.geo_terms.specs.Constructions.{Construction}
use Rattle.proof_log.specs.declared.log.Line.{Line}
use Rattle.proof_log.specs.Lines.{line_text}
use Rattle.proof_log.specs.Steps.{polynomial_on}
use Rattle.proof_log.specs.Writable.{IsWritable}
use Rattle.log_checker.specs.Inner.Judged.{IsNextPiece, Leaves}
use Rattle.log_checker.specs.Inner.Lines.{GoesOn, IsStepLine}
use Rattle.log_checker.specs.declared.evidence.Evidence.{Evidence}
use Rattle.log_checker.specs.declared.state.State.{State}
use Rattle.log_checker.specs.declared.work.Work.{Work}

-- the line is that of a step of a chain, and may be written
pub record IsStepTo (c : Construction) (known : List Var) (left : ℕ) (q : Summands) (left' : ℕ) (line : Line) : Type 0 where
  pub poly : Summands
  pub has : polynomial_on line ≡ Some poly
  pub writable : IsWritable line
  pub is_step : IsStepLine c known left q line left' poly

-- the text is that of the line of a step of a chain
pub record IsStepText (c : Construction) (known : List Var) (left : ℕ) (q : Summands) (text : List ℕ) (left' : ℕ) (r : Summands)
    : Type 0 where
  pub line : Line
  pub writable : IsWritable line
  pub spelt : line_text line ≡ text
  pub is_step : IsStepLine c known left q line left' r

-- a chain goes on with the line that has this text, or stays as it was
abbrev pub StepGoesOn : Construction → List ℕ → Evidence → Summands → Evidence → Summands → Bool → Type 0
StepGoesOn c text e q e' r true =
    (e' ≡ record e { budget = e'.budget }) × IsStepText c e.known e.budget.left q text e'.budget.left r
StepGoesOn c text e q e' r false = (e' ≡ e) × (r ≡ q)

-- work goes on with the line that has this text, or stays as it was
abbrev pub WorkGoesOn : Work → List ℕ → Work → Bool → Type 0
WorkGoesOn w text w' true = (line : Line) × IsWritable line × (line_text line ≡ text) × GoesOn w line w'
WorkGoesOn w text w' false = w' ≡ w

-- the text is that of the next line, which leaves the state, or that stays as it was
abbrev pub StateGoesOn : State → List ℕ → State → Bool → Type 0
StateGoesOn s text s' true = (steps : ℕ) (lines : List Line) → Leaves steps lines s → IsNextPiece steps lines text s'
StateGoesOn s text s' false = s' ≡ s
