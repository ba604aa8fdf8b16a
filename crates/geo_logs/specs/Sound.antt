-- What the laws of logs ask of the lemma table and of terms multiplied out.
use Rattle.std.specs.Prelude.{◌≡◌, ℕ, Some}
use Rattle.ring_laws.specs.Powers.{power}
use Rattle.ring_laws.proofs.Fractions.{fractions}
use Rattle.ring_laws.specs.Fraction.{Same, IsNonzero, times}
use Rattle.geo_points.specs.Placements.{Placement}
use Rattle.geo_poly.specs.declared.rows.Row.{Row}
use Rattle.geo_poly.specs.declared.variables.Var.{Var}
use Rattle.geo_poly.specs.Replace.{IsBounded}
use Rattle.geo_poly.specs.Values.{variable_value}
use Rattle.geo_terms.specs.Constructions.{Construction}
use Rattle.geo_terms.specs.Trees.{Tree}
use Rattle.geo_terms.specs.Values.{HasTreeValue, tree_value}
use Rattle.fraction_poly.specs.Laws.{polynomial_value}
use Rattle.fraction_poly.specs.MultipliedOut.{multiplied_out}
use Rattle.geo_logs.specs.declared.moves.Move.{Move}
use Rattle.geo_logs.specs.Starts.{start_of}
use Rattle.geo_logs.specs.Moves.{Table, place_of}
use Rattle.fraction_poly.specs.TableRows.{HasVariable}
use Rattle.geo_logs.specs.Naming.{IsNamed, IsPlaceBelow, IsPlaceMet}
use Rattle.geo_terms.specs.TermBounds.{IsTermBelow}
use Rattle.geo_poly.specs.PolynomialVariables.{AllVariables}

-- the row tells the value of its variable: the denominator is not 0, the variable times its power is the numerator, and the ratios in both
-- are defined
pub record TellsValue (placed : Placement) (table : Table) (c : Construction) (move : Move) (v : Var) (r : Row) : Type 0 where
  pub nonzero : IsNonzero (polynomial_value placed (table.denominator c move).poly)
  pub tells : Same
      (times (variable_value placed.point placed.number v)
      (power fractions (polynomial_value placed (table.denominator c move).poly) r.power))
      (polynomial_value placed r.num.poly)
  pub numerator : AllVariables (HasVariable placed) r.num.poly
  pub denominator : AllVariables (HasVariable placed) (table.denominator c move).poly

-- the row names no point that is later than those of its variable, and the step that it looks at is none of a later point
pub record NamesNoLater (table : Table) (c : Construction) (n : ℕ) (move : Move) (r : Row) : Type 0 where
  pub place : IsPlaceBelow n (place_of move)
  pub numerator : AllVariables (IsNamed c n) r.num.poly
  pub denominator : AllVariables (IsNamed c n) (table.denominator c move).poly

-- the numbers that come with the row and its denominator bound them
pub record IsBoundedRow (table : Table) (c : Construction) (move : Move) (r : Row) : Type 0 where
  pub numerator : IsBounded r.num
  pub denominator : IsBounded (table.denominator c move)

-- each row of the table is sound: in every placement that meets the step at which it looks, and for a ratio wherever the ratio is defined
pub record IsSoundTable (table : Table) (c : Construction) : Type 0 where
  pub own : (move : Move) (v : Var) (r : Row) → table.row c move v ≡ Some r → r.var ≡ v
  pub sound : (placed : Placement) (move : Move) (v : Var) (r : Row) → table.row c move v ≡ Some r → IsPlaceMet placed c (place_of move)
      → HasVariable placed v → TellsValue placed table c move v r
  pub bounded : (move : Move) (v : Var) (r : Row) → table.row c move v ≡ Some r → IsBoundedRow table c move r
  pub named : (n : ℕ) (move : Move) (v : Var) (r : Row) → table.row c move v ≡ Some r → IsNamed c n v → NamesNoLater table c n move r

-- the term multiplied out is sound: where it has a value, this is numerator over denominator, and the ratios in the numerator are defined;
-- and the numerator names no other points
pub record IsSoundTerm (c : Construction) (e : Tree) : Type 0 where
  pub nonzero : (placed : Placement) → HasTreeValue placed e → IsNonzero (polynomial_value placed (multiplied_out e).1)
  pub tells : (placed : Placement) → HasTreeValue placed e
      → Same (times (tree_value placed e) (polynomial_value placed (multiplied_out e).1)) (polynomial_value placed (start_of e))
  pub defined : (placed : Placement) → HasTreeValue placed e → AllVariables (HasVariable placed) (start_of e)
  pub named : (n : ℕ) → IsTermBelow n c.params e → AllVariables (IsNamed c n) (start_of e)

-- a term, multiplied out, is sound
abbrev pub TermsAreSound : Type 0
TermsAreSound = (c : Construction) (e : Tree) → IsSoundTerm c e
