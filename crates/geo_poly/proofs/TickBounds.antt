-- How many products of monomials powers, terms and sums of terms take.
use Rattle.std.proofs.Common.{◌≡◌, ℕ, ◌+◌, ◌*◌, ◌^◌, ◌≤◌, ℤ, Option, Some, None, List, [], ◌∷◌, refl, sym, ap, subst, ◌∙◌, drop, length, take, arith}
use Rattle.std.specs.Prelude.{◌≢◌}
use Rattle.std.proofs.Math.Nat.{mul_assoc}
use Rattle.std.proofs.lemmas.List.{length-append, take-append-drop}
use Rattle.std.proofs.lemmas.List.Sums.{sum_by-cons}
use Rattle.geo_poly.specs.Counted.{count_row, count_rows, products_of_terms, replaced_exponents, term_products}
use Rattle.geo_poly.specs.declared.rows.Piece.{Piece}
use Rattle.geo_poly.specs.declared.rows.Row.{Row}
use Rattle.geo_poly.specs.declared.variables.Var.{Var}
use Rattle.geo_poly.specs.Inner.TermFactors.{AreNonzeroRows, IsNonzeroRow}
use Rattle.geo_poly.specs.Monomials.{Powers}
use Rattle.geo_poly.specs.Polynomials.{Summands}
use Rattle.geo_poly.specs.Replace.{AllBounded, IsBounded, row_of}
use Rattle.geo_poly.specs.Shared.{Indices}
use Rattle.geo_poly.proofs.ReplaceLoop.{bounded_row}

-- HALVES
pub halves_products : (n k : ℕ) (left front back : Indices) → front ≡ take n left → back ≡ drop n left → length front * k + length back * k ≡ length left * k
halves_products n k left front back front-is back-is =
    let whole : length front + length back ≡ length left =
    omega (arith, ap length front-is, ap length back-is, length-append (take n left) (drop n left), ap length (take-append-drop n left)) in
    let parts : (length front + length back) * k ≡ length front * k + length back * k = omega arith in
    sym parts ∙ ap (λ (size : ℕ). size * k) whole

-- COUNTS
count_row-scale : (o : Option Row) (e x y : ℕ) → count_row o e (x * y) ≡ x * count_row o e y
count_row-scale None e x y = refl
count_row-scale (Some r) e x y = mul_assoc x y (r.num.count ^ e)

pub count_rows-scale : (rows : List Row) (m : Powers) (x y : ℕ) → count_rows rows m (x * y) ≡ x * count_rows rows m y
count_rows-scale rows [] x y = refl
count_rows-scale rows (v ∷ m) x y = ap (count_rows rows m) (count_row-scale (row_of rows v.0) v.1 x y) ∙ count_rows-scale rows m x (count_row (row_of rows v.0) v.1 y)

some_monomial : (p : Summands) → p ≢ [] → 1 ≤ length p
some_monomial [] h = absurd (h refl)
some_monomial (t ∷ ts) h = omega arith

pub counted : (piece : Piece) → IsBounded piece → piece.poly ≢ [] → 1 ≤ piece.count
counted piece h some = omega (arith, h.count, some_monomial piece.poly some)

pub counted_row : (rows : List Row) (v : Var) (r : Row) → AllBounded rows → row_of rows v ≡ Some r → IsNonzeroRow (row_of rows v) → 1 ≤ r.num.count
counted_row rows v r bounded e some = counted r.num (bounded_row rows v r bounded e) (subst IsNonzeroRow e some)

-- A TERM
-- the variables before those of `left` have made so many monomials, and the count went from `start` to `now`
pub record Counting (rows : List Row) (m left : Powers) (size start now : ℕ) : Type 0 where
  pub nonzero : AreNonzeroRows rows left
  pub sizes : count_rows rows left size ≤ count_rows rows m 1
  pub ticks : now + replaced_exponents rows left * count_rows rows m 1 ≤ start + replaced_exponents rows m * count_rows rows m 1

-- SUMS OF TERMS

pub counted_one : (rows : List Row) (den : Piece) (top : ℕ) (t : Powers × ℤ) → products_of_terms rows den top (t ∷ []) ≡ term_products rows den top t.0
counted_one rows den top t = omega (arith, sum_by-cons (λ (u : Powers × ℤ). term_products rows den top u.0) t [])
