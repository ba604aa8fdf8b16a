-- Factor after factor multiplied in makes what the products of the factors make.
use Rattle.std.proofs.Common.{◌≡◌, ℕ, zero, suc, ◌-◌, ℤ, pos, Option, Some, None, List, [], ◌∷◌, ◌++◌, refl, sym, ap, ap₂, ◌∙◌, append_assoc}
use Rattle.sparse_lists.specs.SparseLists.{AllKeys, IsCanonical}
use Rattle.geo_poly.specs.declared.rows.Row.{Row}
use Rattle.geo_poly.specs.Monomials.{Powers, IsMonomial}
use Rattle.sparse_lists.specs.Coefficients.{coefficients}
use Rattle.geo_poly.specs.Polynomials.{Summands, constant_of, product_of, term_cmp}
use Rattle.geo_poly.specs.Inner.Accumulated.{accumulated_term, accumulated_terms, times_power, times_row, times_rows}
use Rattle.geo_poly.specs.Replace.{denominators, numerator_power, numerators, others, power_of, replaced_term, replaced_terms, row_of}
use Rattle.geo_poly.proofs.PolynomialRing.{IsNormal, IsNormal-product_of, power_of-comm, product_of-assoc, product_of-one, product_of-one_comm}
use Rattle.geo_poly.proofs.ReplaceTerms.{IsCanonical-others}

IsNormal-times_power : (p q : Summands) (n : ℕ) → IsNormal p → IsNormal (times_power p q n)
IsNormal-times_power p q zero h = h
IsNormal-times_power p q (suc n) h = IsNormal-product_of (times_power p q n) q

-- p times q, n times
times_power-is : (p q : Summands) (n : ℕ) → IsNormal p → times_power p q n ≡ product_of p (power_of q n)
times_power-is p q zero h = sym (product_of-one p h)
times_power-is p q (suc n) h =
    ap (λ x. product_of x q) (times_power-is p q n h) ∙ product_of-assoc p (power_of q n) q ∙ ap (product_of p) (power_of-comm q n)

IsNormal-times_rows : (rows : List Row) (m : Powers) (p : Summands) → IsNormal p → IsNormal (times_rows rows m p)
IsNormal-times_rows rows [] p h = h
IsNormal-times_rows rows (v ∷ m) p h = IsNormal-times_rows rows m (times_row (row_of rows v.0) v.1 p) (go (row_of rows v.0))
  where
    go : (o : Option Row) → IsNormal (times_row o v.1 p)
    go None = h
    go (Some r) = IsNormal-times_power p r.num.poly v.1 h

IsNormal-numerators : (rows : List Row) (m : Powers) → IsNormal (numerators rows m)
IsNormal-numerators rows [] = record { in_order = (refl, tt, tt); monomials = (tt, tt) }
IsNormal-numerators rows (v ∷ m) = IsNormal-product_of (numerator_power (row_of rows v.0) v.1) (numerators rows m)

-- times the numerators
times_rows-is : (rows : List Row) (m : Powers) (p : Summands) → IsNormal p → times_rows rows m p ≡ product_of p (numerators rows m)
times_rows-is rows [] p h = sym (product_of-one p h)
times_rows-is rows (v ∷ m) p h = go (row_of rows v.0) (λ q. times_rows-is rows m q)
  where
    unit : product_of (constant_of (pos 1)) (numerators rows m) ≡ numerators rows m
    unit = product_of-one_comm (numerators rows m) ∙ product_of-one (numerators rows m) (IsNormal-numerators rows m)

    go : (o : Option Row) → ((q : Summands) → IsNormal q → times_rows rows m q ≡ product_of q (numerators rows m))
        → times_rows rows m (times_row o v.1 p) ≡ product_of p (product_of (numerator_power o v.1) (numerators rows m))
    go None more = more p h ∙ ap (product_of p) (sym unit)
    go (Some r) more =
        more (times_power p r.num.poly v.1) (IsNormal-times_power p r.num.poly v.1 h)
        ∙ ap (λ x. product_of x (numerators rows m)) (times_power-is p r.num.poly v.1 h)
        ∙ product_of-assoc p (power_of r.num.poly v.1) (numerators rows m)

-- a term
accumulated_term-is : (rows : List Row) (den : Summands) (top : ℕ) (t : Powers × ℤ) → IsNormal ((others rows t.0, t.1) ∷ [])
    → accumulated_term rows den top t ≡ replaced_term rows den top t
accumulated_term-is rows den top t h =
    let start = (others rows t.0, t.1) ∷ [] in
    let lacking = top - denominators rows t.0 in
    times_power-is (times_rows rows t.0 start) den lacking (IsNormal-times_rows rows t.0 start h)
    ∙ ap (λ x. product_of x (power_of den lacking)) (times_rows-is rows t.0 start h)

-- THE LAW: of a polynomial both make the same
pub accumulated_is_replaced : (rows : List Row) (den : Summands) (top : ℕ) (p : Summands)
    → IsCanonical term_cmp coefficients p → AllKeys IsMonomial p → accumulated_terms rows den top p ≡ replaced_terms rows den top p
accumulated_is_replaced rows den top [] c h = refl
accumulated_is_replaced rows den top (t ∷ ts) c h =
    let start : IsNormal ((others rows t.0, t.1) ∷ []) =
    record { in_order = (c.0, tt, tt); monomials = (IsCanonical-others rows t.0 h.0.in_order, tt) } in
    ap₂ (λ (x y : Summands). x ++ y) (accumulated_term-is rows den top t start) (accumulated_is_replaced rows den top ts c.2 h.1)

-- PARTS OF A LIST
pub accumulated_terms-append : (rows : List Row) (den : Summands) (top : ℕ) (p q : Summands)
    → accumulated_terms rows den top (p ++ q) ≡ accumulated_terms rows den top p ++ accumulated_terms rows den top q
accumulated_terms-append rows den top [] q = refl
accumulated_terms-append rows den top (t ∷ ts) q =
    ap (λ x. accumulated_term rows den top t ++ x) (accumulated_terms-append rows den top ts q)
    ∙ sym (append_assoc (accumulated_term rows den top t) (accumulated_terms rows den top ts) (accumulated_terms rows den top q))
