-- The denominators of the rows are not 0.
use Rattle.std.proofs.Common.{◌≡◌, zero, suc, ℤ, pos, negsuc, ◌+ℤ◌, ◌*ℤ◌, [], ◌∷◌, ap}
use Rattle.ring_laws.specs.Solver.{variable, numeral, ◌⊞◌, ◌⊟◌, ◌⊠◌, opposite, entry_at, given}
use Rattle.ring_laws.proofs.Combination.{by_combination}
use Rattle.ring_laws.proofs.Integers.{integers}
use Rattle.ring_laws.specs.Fraction.{whole, plus, minus, times, negated, IsNonzero}
use Rattle.geo_points.specs.Points.{Point, signed_area, pythagoras_difference, x_coordinate, y_coordinate, x_difference, y_difference, cross_product}
use Rattle.geo_points.specs.Steps.{IsCrossing}
use Rattle.geo_points.proofs.AreaRows.{cross', two_halves}
use Rattle.geo_points.proofs.Expressions.{abscissa, ordinate, area, whole_number, one_half, given_number, ◌-'◌, ◌*'◌, opposite', fact}
use Rattle.geo_points.proofs.Geometry.{geo_combination}
use Rattle.geo_points.proofs.Lines.{cross_null, x_difference_null, y_difference_null}
use Rattle.ring_laws.proofs.Quotients.{cancel_factor, cancel_fraction, same_of_zero, both_null}
use Rattle.geo_points.proofs.QuadraticRows.{crossing-moves}

pub crossing_nonzero : (U V P Q Y : Point) → IsCrossing U V P Q Y → IsNonzero (minus (signed_area U P Q) (signed_area V P Q))
unfolding whole plus negated times minus
crossing_nonzero U V P' Q Y' c z =
    c.crosses (cross_null U V P' Q
    (geo_combination (U ∷ V ∷ P' ∷ Q ∷ []) []
    (fact (whole_number 2) (area 0 2 3 -' area 1 2 3) (whole_number 0) ∷ fact (opposite' (cross' 0 1 2 3)) (whole_number 2 *' one_half) (whole_number 1) ∷ []) (cross' 0 1 2 3) (whole_number 0)
    (same_of_zero (minus (signed_area U P' Q) (signed_area V P' Q)) z, (two_halves, tt)) tt))

-- P_UVU is twice a sum of squares
pub square_nonzero : (U V : Point) → (x_difference U V ≡ pos 0 → y_difference U V ≡ pos 0 → ⊥) → IsNonzero (pythagoras_difference U V U)
unfolding whole plus negated times minus signed_area pythagoras_difference
square_nonzero U V apart z =
    let s : x_difference U V *ℤ x_difference U V +ℤ y_difference U V *ℤ y_difference U V ≡ pos 0 =
    cancel_factor (x_difference U V *ℤ x_difference U V +ℤ y_difference U V *ℤ y_difference U V) (pos 0) (pos 2)
    (λ e. let q : suc (suc zero) ≡ zero = ap (λ (t : ℤ). elim t [ pos n ↦ n | negsuc n ↦ n ]) e in cc)
    (by_combination integers (entry_at integers (U.x ∷ U.y ∷ pos U.w ∷ V.x ∷ V.y ∷ pos V.w ∷ []))
    (given (numeral 1)
    (numeral 2 ⊠ ((variable 0 ⊠ variable 5 ⊟ variable 3 ⊠ variable 2) ⊠ (variable 0 ⊠ variable 5 ⊟ variable 3 ⊠ variable 2)
    ⊞ (variable 1 ⊠ variable 5 ⊟ variable 4 ⊠ variable 2) ⊠ (variable 1 ⊠ variable 5 ⊟ variable 4 ⊠ variable 2))) (numeral 0) ∷ [])
    (((variable 3 ⊠ variable 2 ⊟ variable 0 ⊠ variable 5) ⊠ (variable 3 ⊠ variable 2 ⊟ variable 0 ⊠ variable 5)
    ⊞ (variable 4 ⊠ variable 2 ⊟ variable 1 ⊠ variable 5) ⊠ (variable 4 ⊠ variable 2 ⊟ variable 1 ⊠ variable 5)) ⊠ numeral 2)
    (numeral 0 ⊠ numeral 2) (z, tt) tt) in
    let both = both_null (x_difference U V) (y_difference U V) s in
    apart both.0 both.1

pub crossing_flip : (U V P Q Y : Point) → IsCrossing U V P Q Y → IsCrossing P Q U V Y
crossing_flip U V P Q Y' c = record {
  on_first = c.on_second;
  on_second = c.on_first;
  crosses = λ e. c.crosses (turned e);
}
  where
    turned : cross_product P Q U V ≡ pos 0 → cross_product U V P Q ≡ pos 0
    turned e =
        let a = variable 0 in let b = variable 1 in let p = variable 2 in let q = variable 3 in
        by_combination integers (entry_at integers (x_difference U V ∷ y_difference U V ∷ x_difference P Q ∷ y_difference P Q ∷ []))
        (given (opposite (numeral 1)) (p ⊠ b ⊟ q ⊠ a) (numeral 0) ∷ []) (a ⊠ q ⊟ b ⊠ p) (numeral 0) (e, tt) tt

-- Y is not U, so U is not on PQ; the points are U V P Q Y, and the numbers the two areas
pub side_nonzero_first : (U V P Q Y : Point) → IsCrossing U V P Q Y → (x_difference U Y ≡ pos 0 → y_difference U Y ≡ pos 0 → ⊥) → IsNonzero (signed_area U P Q)
side_nonzero_first U V P Q Y' c apart z =
    let m = crossing-moves U V P Q Y' c in
    let s = same_of_zero (signed_area U P Q) z in
    let n = crossing_nonzero U V P Q Y' c in
    apart
    (x_difference_null U Y' (cancel_fraction (minus (x_coordinate Y') (x_coordinate U)) (whole (pos 0)) (minus (signed_area U P Q) (signed_area V P Q)) n
    (geo_combination (U ∷ V ∷ Y' ∷ []) (signed_area U P Q ∷ signed_area V P Q ∷ [])
    (fact (whole_number 1) ((given_number 0 -' given_number 1) *' (abscissa 2 -' abscissa 0)) (given_number 0 *' (abscissa 1 -' abscissa 0))
    ∷ fact (abscissa 1 -' abscissa 0) (given_number 0) (whole_number 0) ∷ [])
    ((abscissa 2 -' abscissa 0) *' (given_number 0 -' given_number 1)) (whole_number 0 *' (given_number 0 -' given_number 1)) (m.by_x, (s, tt)) tt)))
    (y_difference_null U Y' (cancel_fraction (minus (y_coordinate Y') (y_coordinate U)) (whole (pos 0)) (minus (signed_area U P Q) (signed_area V P Q)) n
    (geo_combination (U ∷ V ∷ Y' ∷ []) (signed_area U P Q ∷ signed_area V P Q ∷ [])
    (fact (whole_number 1) ((given_number 0 -' given_number 1) *' (ordinate 2 -' ordinate 0)) (given_number 0 *' (ordinate 1 -' ordinate 0))
    ∷ fact (ordinate 1 -' ordinate 0) (given_number 0) (whole_number 0) ∷ [])
    ((ordinate 2 -' ordinate 0) *' (given_number 0 -' given_number 1)) (whole_number 0 *' (given_number 0 -' given_number 1)) (m.by_y, (s, tt)) tt)))

pub side_nonzero_second : (U V P Q Y : Point) → IsCrossing U V P Q Y → (x_difference V Y ≡ pos 0 → y_difference V Y ≡ pos 0 → ⊥) → IsNonzero (signed_area V P Q)
side_nonzero_second U V P Q Y' c apart z =
    let m = crossing-moves U V P Q Y' c in
    let s = same_of_zero (signed_area V P Q) z in
    let n = crossing_nonzero U V P Q Y' c in
    apart
    (x_difference_null V Y' (cancel_fraction (minus (x_coordinate Y') (x_coordinate V)) (whole (pos 0)) (minus (signed_area U P Q) (signed_area V P Q)) n
    (geo_combination (U ∷ V ∷ Y' ∷ []) (signed_area U P Q ∷ signed_area V P Q ∷ [])
    (fact (whole_number 1) ((given_number 0 -' given_number 1) *' (abscissa 2 -' abscissa 0)) (given_number 0 *' (abscissa 1 -' abscissa 0))
    ∷ fact (abscissa 1 -' abscissa 0) (given_number 1) (whole_number 0) ∷ [])
    ((abscissa 2 -' abscissa 1) *' (given_number 0 -' given_number 1)) (whole_number 0 *' (given_number 0 -' given_number 1)) (m.by_x, (s, tt)) tt)))
    (y_difference_null V Y' (cancel_fraction (minus (y_coordinate Y') (y_coordinate V)) (whole (pos 0)) (minus (signed_area U P Q) (signed_area V P Q)) n
    (geo_combination (U ∷ V ∷ Y' ∷ []) (signed_area U P Q ∷ signed_area V P Q ∷ [])
    (fact (whole_number 1) ((given_number 0 -' given_number 1) *' (ordinate 2 -' ordinate 0)) (given_number 0 *' (ordinate 1 -' ordinate 0))
    ∷ fact (ordinate 1 -' ordinate 0) (given_number 1) (whole_number 0) ∷ [])
    ((ordinate 2 -' ordinate 1) *' (given_number 0 -' given_number 1)) (whole_number 0 *' (given_number 0 -' given_number 1)) (m.by_y, (s, tt)) tt)))
