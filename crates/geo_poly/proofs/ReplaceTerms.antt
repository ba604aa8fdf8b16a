-- The parts of a replacement.
use Rattle.std.proofs.Common.{◌≡◌, ℕ, ◌+◌, ◌*◌, ◌-◌, ◌≤◌, ℤ, Option, Some, None, List, [], ◌∷◌, ◌++◌, refl, ap, ◌∙◌, unsigned_abs, arith}
use Rattle.std.proofs.Math.Nat.{mul-le-mul, mul-le-mul_left}
use Rattle.std.proofs.lemmas.List.Sums.{sum_by-cons, sum_by-append}
use Rattle.geo_poly.specs.declared.variables.Var.{Var}
use Rattle.geo_poly.specs.declared.rows.Piece.{Piece}
use Rattle.geo_poly.specs.declared.rows.Row.{Row}
use Rattle.geo_poly.specs.Variables.{var_cmp}
use Rattle.sparse_lists.specs.SparseLists.{AllKeys, IsBefore, IsCanonical}
use Rattle.geo_poly.specs.Monomials.{Powers, exponents, IsMonomial, degree_of}
use Rattle.sparse_lists.specs.Coefficients.{coefficients}
use Rattle.geo_poly.specs.Polynomials.{Summands, term_cmp, norm_of, total_degree, IsPolynomial, polynomial_of, product_of, products, sum_of}
use Rattle.geo_poly.specs.Replace.{IsBounded, AllBounded, row_of, denominators, kept, numerator_power, numerators, others, power_of, replaced_term}
use Rattle.geo_poly.specs.Replace.{replaced_terms, weight_row, weight_rows, term_weight, degree_row, degree_rows, term_degree, weight_of}
use Rattle.geo_poly.specs.Replace.{degree_bound, CanReplace}
use Rattle.geo_poly.proofs.Orders.{term_order}
use Rattle.sparse_lists.proofs.Canonical.{IsCanonical-canonical, canonical-canonical_left, canonical_comm}
use Rattle.sparse_lists.proofs.Coefficients.{coefficients_add}
use Rattle.geo_poly.proofs.PolynomialLaws.{norm_of-polynomial_of-le}
use Rattle.sparse_lists.proofs.Sums.{AllKeys-canonical, AllKeys-append}
use Rattle.geo_poly.proofs.ProductLaws.{monomials_of_products, norm_of-product_of-le}
use Rattle.geo_poly.proofs.ReplaceBounds.{norm_of-power_of-le, total_degree-power_of-le, total_degree-product_of-le}
use Rattle.geo_poly.proofs.ReplaceLoop.{bounded_row, weight_rows-mono, degree_rows-mono}

-- THE OTHER VARIABLES
IsBefore-others : (rows : List Row) (v : Var) (m : Powers) → IsBefore var_cmp v m → IsBefore var_cmp v (others rows m)
IsBefore-others rows v [] h = tt
IsBefore-others rows v (p ∷ m) h = go (row_of rows p.0) (IsBefore-others rows v m h.1)
  where
    go : (o : Option Row) → IsBefore var_cmp v (others rows m) → IsBefore var_cmp v (kept o p (others rows m))
    go None rest = (h.0, rest)
    go (Some r) rest = rest

pub IsCanonical-others : (rows : List Row) (m : Powers) → IsCanonical var_cmp exponents m → IsCanonical var_cmp exponents (others rows m)
IsCanonical-others rows [] h = tt
IsCanonical-others rows (p ∷ m) h = go (row_of rows p.0) (IsCanonical-others rows m h.2)
  where
    go : (o : Option Row) → IsCanonical var_cmp exponents (others rows m) → IsCanonical var_cmp exponents (kept o p (others rows m))
    go None rest = (h.0, IsBefore-others rows p.0 m h.1, rest)
    go (Some r) rest = rest

degree_of-others-le : (rows : List Row) (m : Powers) → degree_of (others rows m) ≤ degree_of m
degree_of-others-le rows [] = omega arith
degree_of-others-le rows (p ∷ m) = go (row_of rows p.0) (degree_of-others-le rows m)
  where
    go : (o : Option Row) → degree_of (others rows m) ≤ degree_of m → degree_of (kept o p (others rows m)) ≤ degree_of (p ∷ m)
    go None rest = omega (arith, rest, sum_by-cons (λ (p : Var × ℕ). p.1) p (others rows m), sum_by-cons (λ (p : Var × ℕ). p.1) p m)
    go (Some r) rest = omega (arith, rest, sum_by-cons (λ (p : Var × ℕ). p.1) p m)

pub IsMonomial-others : (rows : List Row) (m : Powers) → IsMonomial m → IsMonomial (others rows m)
IsMonomial-others rows m h = record {
  in_order = IsCanonical-others rows m h.in_order;
  degree_fits = omega (arith, degree_of-others-le rows m, h.degree_fits);
}

IsBefore_front : (v : Var) (m n : Powers) → IsBefore var_cmp v (m ++ n) → IsBefore var_cmp v m
IsBefore_front v [] n h = tt
IsBefore_front v (p ∷ m) n h = (h.0, IsBefore_front v m n h.1)

IsCanonical_front : (m n : Powers) → IsCanonical var_cmp exponents (m ++ n) → IsCanonical var_cmp exponents m
IsCanonical_front [] n h = tt
IsCanonical_front (p ∷ m) n h = (h.0, IsBefore_front p.0 m n h.1, IsCanonical_front m n h.2)

pub IsMonomial_front : (m n : Powers) → IsMonomial (m ++ n) → IsMonomial m
IsMonomial_front m n h = record {
  in_order = IsCanonical_front m n h.in_order;
  degree_fits = omega (arith, sum_by-append (λ (p : Var × ℕ). p.1) m n, h.degree_fits);
}

pub others-none : (rows : List Row) (v : Var × ℕ) (m : Powers) → row_of rows v.0 ≡ None → others rows (v ∷ m) ≡ v ∷ others rows m
others-none rows v m e = ap (λ (o : Option Row). kept o v (others rows m)) e

-- ONE TERM
norm_of-numerators-le : (rows : List Row) (m : Powers) (w : ℕ) → AllBounded rows → w * norm_of (numerators rows m) ≤ weight_rows rows m w
norm_of-numerators-le rows [] w h = omega arith
norm_of-numerators-le rows (v ∷ m) w h =
    let o = row_of rows v.0 in
    let first = numerator_power o v.1 in
    let product = mul-le-mul_left w (norm_of-product_of-le first (numerators rows m)) in
    omega (
      arith,
      product,
      norm_of-numerators-le rows m (w * norm_of first) h,
      weight_rows-mono rows m (w * norm_of first) (weight_row o v.1 w) (go o refl),
    )
  where
    go : (o : Option Row) → row_of rows v.0 ≡ o → w * norm_of (numerator_power o v.1) ≤ weight_row o v.1 w
    go None e = omega arith
    go (Some r) e = mul-le-mul_left w (norm_of-power_of-le r.num.poly r.num.weight v.1 (bounded_row rows v.0 r h e).norm)

norm_of-replaced_term-le : (rows : List Row) (den : Piece) (top : ℕ) (t : Powers × ℤ) → AllBounded rows → IsBounded den
    → norm_of (replaced_term rows den.poly top t) ≤ term_weight rows den top t
norm_of-replaced_term-le rows den top t h b =
    let start = (others rows t.0, t.1) ∷ [] in
    let nums = numerators rows t.0 in
    let lacking = top - denominators rows t.0 in
    let one : norm_of start ≡ unsigned_abs t.1 = omega arith in
    let front : norm_of (product_of start nums) ≤ weight_rows rows t.0 (unsigned_abs t.1) =
    omega (arith, norm_of-product_of-le start nums, ap (λ n. n * norm_of nums) one, norm_of-numerators-le rows t.0 (unsigned_abs t.1) h) in
    let whole = mul-le-mul front (norm_of-power_of-le den.poly den.weight lacking b.norm) in
    omega (arith, norm_of-product_of-le (product_of start nums) (power_of den.poly lacking), whole)

pub norm_of-replaced_terms-le : (rows : List Row) (den : Piece) (top : ℕ) (p : Summands) → AllBounded rows → IsBounded den → norm_of (replaced_terms rows den.poly top p) ≤ weight_of rows den top p
norm_of-replaced_terms-le rows den top [] h b = omega arith
norm_of-replaced_terms-le rows den top (t ∷ ts) h b =
    omega (
      arith,
      sum_by-append (λ (t : Powers × ℤ). unsigned_abs t.1) (replaced_term rows den.poly top t)
          (replaced_terms rows den.poly top ts),
      sum_by-cons (term_weight rows den top) t ts,
      norm_of-replaced_term-le rows den top t h b,
      norm_of-replaced_terms-le rows den top ts h b,
    )

-- SUMS
-- the sum of two canonical lists is the canonical list of both
pub sum_of-polynomial_of : (p q : Summands) → sum_of (polynomial_of p) (polynomial_of q) ≡ polynomial_of (p ++ q)
sum_of-polynomial_of p q =
    canonical-canonical_left term_cmp coefficients term_order coefficients_add p (polynomial_of q)
    ∙ canonical_comm term_cmp coefficients term_order coefficients_add p (polynomial_of q)
    ∙ canonical-canonical_left term_cmp coefficients term_order coefficients_add q p
    ∙ canonical_comm term_cmp coefficients term_order coefficients_add q p

pub IsCanonical-polynomial_of : (p : Summands) → IsCanonical term_cmp coefficients (polynomial_of p)
IsCanonical-polynomial_of p = IsCanonical-canonical term_cmp coefficients term_order coefficients_add p

-- EACH MONOMIAL IS ONE
total_degree-numerators-le : (rows : List Row) (m : Powers) (d : ℕ) → AllBounded rows
    → d + total_degree (numerators rows m) ≤ degree_rows rows m d
total_degree-numerators-le rows [] d h = omega arith
total_degree-numerators-le rows (v ∷ m) d h =
    let o = row_of rows v.0 in
    let first = numerator_power o v.1 in
    omega (
      arith,
      total_degree-product_of-le first (numerators rows m),
      total_degree-numerators-le rows m (d + total_degree first) h,
      degree_rows-mono rows m (d + total_degree first) (degree_row o v.1 d) (go o refl),
    )
  where
    go : (o : Option Row) → row_of rows v.0 ≡ o → d + total_degree (numerator_power o v.1) ≤ degree_row o v.1 d
    go None e = omega arith
    go (Some r) e = omega (arith, total_degree-power_of-le r.num.poly r.num.degree v.1 (bounded_row rows v.0 r h e).degree)

monomials_of_replaced_term : (rows : List Row) (den : Piece) (top : ℕ) (t : Powers × ℤ) → AllBounded rows → IsBounded den
    → term_degree rows den top t ≤ 65535 → AllKeys IsMonomial (replaced_term rows den.poly top t)
monomials_of_replaced_term rows den top t h b fits =
    let start = (others rows t.0, t.1) ∷ [] in
    let nums = numerators rows t.0 in
    let lacking = top - denominators rows t.0 in
    let one : total_degree start ≡ degree_of (others rows t.0) = omega arith in
    let front = total_degree-product_of-le start nums in
    let rows-fit = total_degree-numerators-le rows t.0 (degree_of (others rows t.0)) h in
    let power-fits = total_degree-power_of-le den.poly den.degree lacking b.degree in
    AllKeys-canonical term_cmp coefficients IsMonomial (products (product_of start nums) (power_of den.poly lacking))
    (monomials_of_products (product_of start nums) (power_of den.poly lacking) (omega (arith, one, front, rows-fit, power-fits, fits)))

monomials_of_replaced_terms : (rows : List Row) (den : Piece) (top : ℕ) (p : Summands) → AllBounded rows → IsBounded den
    → degree_bound rows den top p ≤ 65535 → AllKeys IsMonomial (replaced_terms rows den.poly top p)
monomials_of_replaced_terms rows den top [] h b fits = tt
monomials_of_replaced_terms rows den top (t ∷ ts) h b fits =
    AllKeys-append IsMonomial (replaced_term rows den.poly top t) (replaced_terms rows den.poly top ts)
    (monomials_of_replaced_term rows den top t h b (omega arith)) (monomials_of_replaced_terms rows den top ts h b (omega arith))

pub IsPolynomial-replaced : (rows : List Row) (den : Piece) (top : ℕ) (p : Summands) → CanReplace rows den top p → IsPolynomial (polynomial_of (replaced_terms rows den.poly top p))
IsPolynomial-replaced rows den top p h = record {
  in_order = IsCanonical-polynomial_of (replaced_terms rows den.poly top p);
  monomials = AllKeys-canonical term_cmp coefficients IsMonomial (replaced_terms rows den.poly top p)
      (monomials_of_replaced_terms rows den top p h.rows_bounded h.den_bounded h.degree_fits);
  norm_fits = omega (arith, h.weight_fits, norm_of-polynomial_of-le (replaced_terms rows den.poly top p), norm_of-replaced_terms-le rows den top p h.rows_bounded h.den_bounded);
}
