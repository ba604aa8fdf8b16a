-- A loop that looks for a zero among the factors of a term, one variable after the other.
use Rattle.std.proofs.Common.{◌≡◌, ℕ, zero, suc, ◌+◌, ◌-◌, ◌<◌, ℤ, Option, Some, None, List, [], ◌∷◌, refl, ap, ◌∙◌, arith}
use Rattle.std.proofs.lemmas.Bool.Decides.{nat_tests}
use Rattle.sparse_lists.specs.SparseLists.{IsCanonical}
use Rattle.geo_poly.specs.declared.rows.Row.{Row}
use Rattle.geo_poly.specs.declared.variables.Var.{Var}
use Rattle.geo_poly.specs.Inner.Accumulated.{accumulated_term, times_power, times_row, times_rows}
use Rattle.geo_poly.specs.Inner.TermFactors.{AreNonzeroRows}
use Rattle.geo_poly.specs.Monomials.{Powers, exponents}
use Rattle.geo_poly.specs.Polynomials.{Summands, polynomial_of, product_of, products}
use Rattle.geo_poly.specs.Replace.{denominators, others, row_of}
use Rattle.geo_poly.specs.Variables.{var_cmp}

-- PRODUCTS WITH ZERO
times_power-of_none : (q : Summands) (n : ℕ) → times_power [] q n ≡ []
times_power-of_none q zero = refl
times_power-of_none q (suc n) = ap (λ (p : Summands). product_of p q) (times_power-of_none q n)

products-by_none : (p : Summands) → products p [] ≡ []
products-by_none [] = refl
products-by_none (t ∷ ts) = products-by_none ts

times_power-by_none : (p : Summands) (n : ℕ) → 0 < n → times_power p [] n ≡ []
times_power-by_none p zero h = absurd (omega (arith, h))
times_power-by_none p (suc n) h = ap polynomial_of (products-by_none (times_power p [] n))

times_row-of_none : (o : Option Row) (n : ℕ) → times_row o n [] ≡ []
times_row-of_none None n = refl
times_row-of_none (Some r) n = times_power-of_none r.num.poly n

times_rows-of_none : (rows : List Row) (m : Powers) → times_rows rows m [] ≡ []
times_rows-of_none rows [] = refl
times_rows-of_none rows (v ∷ m) = ap (times_rows rows m) (times_row-of_none (row_of rows v.0) v.1) ∙ times_rows-of_none rows m

-- THE LOOP
-- none of the variables before those of `left` has a zero numerator
pub record Seen (rows : List Row) (top : ℕ) (m left : Powers) (missing : ℕ) : Type 0 where
  pub in_order : IsCanonical var_cmp exponents left
  pub lost : ((q : Summands) → times_rows rows left q ≡ []) → (q : Summands) → times_rows rows m q ≡ []
  pub nonzero : AreNonzeroRows rows left → AreNonzeroRows rows m
  pub missing-is : missing ≡ denominators rows left + (top - denominators rows m)

-- WHAT IT FINDS
-- a zero numerator
pub zero_numerator : (rows : List Row) (den : Summands) (top : ℕ) (m : Powers) (v : Var × ℕ) (left : Powers) (missing : ℕ) (r : Row)
    → row_of rows v.0 ≡ Some r → r.num.poly ≡ [] → Seen rows top m (v ∷ left) missing
    → (k : ℤ) → accumulated_term rows den top (m, k) ≡ []
zero_numerator rows den top m v left missing r e none h k =
    let some : 0 < v.1 = grind (arith, nat_tests) in
    let gone : (q : Summands) → times_row (row_of rows v.0) v.1 q ≡ [] = λ q. ap (λ (o : Option Row). times_row o v.1 q) e
    ∙ ap (λ (p : Summands). times_power q p v.1) none ∙ times_power-by_none q v.1 some in
    let all = h.lost (λ q. ap (times_rows rows left) (gone q) ∙ times_rows-of_none rows left) in
    ap (λ (p : Summands). times_power p den (top - denominators rows m)) (all ((others rows m, k) ∷ [])) ∙ times_power-of_none den (top - denominators rows m)

-- a zero denominator
pub zero_denominator : (rows : List Row) (den : Summands) (top : ℕ) (m left : Powers) (missing : ℕ) → left ≡ [] → den ≡ [] → 0 < missing → Seen rows top m left missing
    → (k : ℤ) → accumulated_term rows den top (m, k) ≡ []
zero_denominator rows den top m left missing none zero_den some h k =
    let lacking : 0 < top - denominators rows m = omega (arith, some, h.missing-is, ap (denominators rows) none) in
    let p = times_rows rows m ((others rows m, k) ∷ []) in
    ap (λ (q : Summands). times_power p q (top - denominators rows m)) zero_den ∙ times_power-by_none p (top - denominators rows m) lacking
