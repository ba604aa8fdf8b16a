-- The polynomial of a line.
use Rattle.std.specs.Prelude.{Option, Some, None}
use Rattle.geo_poly.specs.Polynomials.{Summands}
use Rattle.proof_log.specs.declared.log.Line.{Line}
use Rattle.proof_log.specs.declared.log.Line.TheVariants.{Start, Ratio, Point, Coords, Cut}

-- the polynomial of a line, if it has one
abbrev pub polynomial_on : Line → Option Summands
polynomial_on (Start q) = Some q
polynomial_on (Ratio v lemma at q) = Some q
polynomial_on (Point at q) = Some q
polynomial_on (Coords q) = Some q
polynomial_on (Cut by q) = Some q
polynomial_on _ = None
