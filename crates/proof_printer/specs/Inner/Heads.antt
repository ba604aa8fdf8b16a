-- Lines without their polynomials.
use Rattle.std.specs.Prelude.{◌≡◌, ℕ, Bool, false, is_some, List, []}
use Rattle.geo_poly.specs.Polynomials.{Summands}
use Rattle.geo_terms.specs.Constructions.{Construction}
use Rattle.proof_log.specs.declared.log.Line.{Line}
use Rattle.proof_log.specs.declared.log.Line.TheVariants.{Start, Ratio, Point, Coords, Cut}
use Rattle.proof_log.specs.Steps.{polynomial_on}
use Rattle.proof_log.specs.Writable.{CanWritePolynomial}
use Rattle.proof_printer.specs.Inner.Printing.{CanPrint}
use Rattle.proof_printer.specs.Inner.Reading.{IsKept, IsTextOf}
use Rattle.proof_printer.specs.declared.heads.Read.{Read}
use Rattle.proof_printer.specs.declared.heads.Read.TheVariants.{Whole, Step}
use Rattle.proof_printer.specs.declared.reading.Before.{Before}

-- whether a line has a polynomial
abbrev pub has_polynomial : Line → Bool
has_polynomial line = is_some (polynomial_on line)

-- the line is this one, but for its polynomial, which has this text
abbrev pub IsStep : Line → List ℕ → Line → Type 0
IsStep (Start z) text l = (q : Summands) × (l ≡ Start q) × IsTextOf text q
IsStep (Ratio v lemma at z) text l = (q : Summands) × (l ≡ Ratio v lemma at q) × IsTextOf text q
IsStep (Point at z) text l = (q : Summands) × (l ≡ Point at q) × IsTextOf text q
IsStep (Coords z) text l = (q : Summands) × (l ≡ Coords q) × IsTextOf text q
IsStep (Cut by z) text l = (q : Summands) × (l ≡ Cut by q) × IsTextOf text q
IsStep _ text l = ⊥

-- what is read is the line
abbrev pub IsReadAs : Read → Line → Type 0
IsReadAs (Whole line) l = (l ≡ line) × (has_polynomial line ≡ false)
IsReadAs (Step head text) l = IsStep head text.now l

-- the line can be printed behind the polynomial of which this is kept
pub record IsDue (c : Construction) (before : Before) (q : Summands) (l : Line) : Type 0 where
  pub kept : IsKept before q
  pub writable : CanWritePolynomial q
  pub can : CanPrint c q l
