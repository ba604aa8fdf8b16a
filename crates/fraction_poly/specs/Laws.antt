-- What numerators and denominators are worth.
use Rattle.std.specs.Prelude.{◌≤◌, length}
use Rattle.fraction_poly.specs.Forms.{Form, piece_of}
use Rattle.fraction_poly.specs.Measures.{numbers_of}
use Rattle.fraction_poly.specs.MultipliedOut.{multiplied_out}
use Rattle.ring_laws.proofs.Fractions.{fractions}
use Rattle.ring_laws.specs.Fraction.{Fraction, IsNonzero, Same, times}
use Rattle.geo_points.specs.Placements.{Placement}
use Rattle.geo_poly.specs.Polynomials.{Summands, norm_of, total_degree}
use Rattle.geo_poly.specs.PolynomialVariables.{AllVariables}
use Rattle.geo_poly.specs.SortedVariables.{IsSorted}
use Rattle.geo_poly.specs.Values.{value, variable_value}
use Rattle.geo_terms.specs.Trees.{Tree}
use Rattle.geo_terms.specs.Values.{HasTreeValue, tree_value}

-- the value of a polynomial where the points and the parameters are placed
abbrev pub polynomial_value : Placement → Summands → Fraction
polynomial_value placed q = value fractions (variable_value placed.point placed.number) q

-- wherever a term has a value, its denominator is not 0, and the value times the denominator is the numerator
abbrev pub MultipliedOutHasTheValue : Type 0
MultipliedOutHasTheValue =
    (placed : Placement) (e : Tree) → HasTreeValue placed e
    → IsNonzero (polynomial_value placed (multiplied_out e).1)
    × Same (times (tree_value placed e) (polynomial_value placed (multiplied_out e).1)) (polynomial_value placed (multiplied_out e).0)

-- weights bound norms, counts bound numbers of monomials, and degrees bound degrees
pub record AreBounds (e : Tree) : Type 0 where
  pub numerator_norm : norm_of (multiplied_out e).0 ≤ (numbers_of e).wn
  pub denominator_norm : norm_of (multiplied_out e).1 ≤ (numbers_of e).wd
  pub numerator_count : length (multiplied_out e).0 ≤ (numbers_of e).kn
  pub denominator_count : length (multiplied_out e).1 ≤ (numbers_of e).kd
  pub numerator_degree : total_degree (multiplied_out e).0 ≤ (numbers_of e).gn
  pub denominator_degree : total_degree (multiplied_out e).1 ≤ (numbers_of e).gd

-- the numbers of a term are bounds of its numerator and denominator
abbrev pub NumbersAreBounds : Type 0
NumbersAreBounds = (e : Tree) → AreBounds e

-- each variable of a term's numerator and denominator is sorted
abbrev pub MultipliedOutIsSorted : Type 0
MultipliedOutIsSorted = (e : Tree) → AllVariables IsSorted (multiplied_out e).0 × AllVariables IsSorted (multiplied_out e).1

-- and so is each variable of a form
abbrev pub FormsAreSorted : Type 0
FormsAreSorted = (f : Form) → AllVariables IsSorted (piece_of f).poly
