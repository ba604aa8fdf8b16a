-- Sums of polynomials.
use Rattle.std.proofs.Common.{◌≡◌, ℕ, ◌+◌, ◌^◌, ◌<◌, ◌≤◌, eqb, Bool, true, false, ℤ, pos, ◌+ℤ◌, ◌++◌, refl, sym, ap, subst, ◌∙◌}
use Rattle.std.proofs.Common.{unsigned_abs, length, get_or, FitsSigned, to_z, of_z, ap₂, arith}
use Rattle.std.proofs.lemmas.Int.{ints, to_z-of_z, fits_signed_from_abs}
use Rattle.std.specs.Int.{w128}
use Rattle.std.proofs.lemmas.List.Sums.{sum_by-append, get_or-le-sum_by}
use Rattle.geo_poly.specs.Monomials.{Powers, IsMonomial}
use Rattle.sparse_lists.specs.Coefficients.{coefficients}
use Rattle.geo_poly.specs.Polynomials.{Summands, term_cmp, polynomial_of, norm_of, IsPolynomial, sum_of}
use Rattle.geo_poly.proofs.Orders.{term_order}
use Rattle.sparse_lists.proofs.Canonical.{IsCanonical-canonical}
use Rattle.sparse_lists.proofs.Coefficients.{coefficients_add, zero_is}
use Rattle.sparse_lists.proofs.Sums.{sum_by-canonical-le, AllKeys-canonical, AllKeys-append}

pub unsigned_abs-add-le : (a b : ℤ) → unsigned_abs (a +ℤ b) ≤ unsigned_abs a + unsigned_abs b
unsigned_abs-add-le a b = omega (arith, ints)

pub norm_of-polynomial_of-le : (p : Summands) → norm_of (polynomial_of p) ≤ norm_of p
norm_of-polynomial_of-le p = sum_by-canonical-le term_cmp coefficients term_order coefficients_add (λ t. unsigned_abs t.1) (λ k a b. unsigned_abs-add-le a b) p

pub norm_of-sum_of-le : (p q : Summands) → norm_of (sum_of p q) ≤ norm_of p + norm_of q
norm_of-sum_of-le p q = omega (arith, norm_of-polynomial_of-le (p ++ q), sum_by-append (λ (t : Powers × ℤ). unsigned_abs t.1) p q)

pub IsPolynomial-sum_of : (p q : Summands) → IsPolynomial p → IsPolynomial q → norm_of p + norm_of q < 2 ^ 127 → IsPolynomial (sum_of p q)
IsPolynomial-sum_of p q h g fits = record {
  in_order = IsCanonical-canonical term_cmp coefficients term_order coefficients_add (p ++ q);
  monomials = AllKeys-canonical term_cmp coefficients IsMonomial (p ++ q) (AllKeys-append IsMonomial p q h.monomials g.monomials);
  norm_fits = omega (arith, norm_of-sum_of-le p q);
}

-- two numbers that fit, as their sum does
pub record FitsSum (a b : ℤ) : Type 0 where
  pub left : FitsSigned w128 a
  pub right : FitsSigned w128 b
  pub sum : FitsSigned w128 (a +ℤ b)

pub fits_at : (p q : Summands) (i j : ℕ) (t u : Powers × ℤ) → i < length p → j < length q → t ≡ get_or p i t → u ≡ get_or q j u → norm_of p + norm_of q < 2 ^ 127 → FitsSum t.1 u.1
fits_at p q i j t u left_in right_in t-is u-is fits =
    let size : Powers × ℤ → ℕ = λ t. unsigned_abs t.1 in
    let left : unsigned_abs t.1 ≤ norm_of p = subst (λ x. size x ≤ norm_of p) (sym t-is) (get_or-le-sum_by size p i t left_in) in
    let right : unsigned_abs u.1 ≤ norm_of q = subst (λ x. size x ≤ norm_of q) (sym u-is) (get_or-le-sum_by size q j u right_in) in
    record {
      left = fits_signed_from_abs w128 t.1 (omega arith);
      right = fits_signed_from_abs w128 u.1 (omega arith);
      sum = fits_signed_from_abs w128 (t.1 +ℤ u.1) (omega (arith, unsigned_abs-add-le t.1 u.1));
    }

-- the code's sum
abbrev pub coded_sum : ℤ → ℤ → ℤ
coded_sum a b = to_z w128 (of_z w128 a) +ℤ to_z w128 (of_z w128 b)

pub coded_sum_is : (a b : ℤ) → FitsSum a b → coded_sum a b ≡ a +ℤ b
coded_sum_is a b h = ap₂ ◌+ℤ◌ (to_z-of_z w128 a h.left) (to_z-of_z w128 b h.right)

pub sum_is : (a b : ℤ) → FitsSum a b → to_z w128 (of_z w128 (coded_sum a b)) ≡ a +ℤ b
sum_is a b h = ap (λ z. to_z w128 (of_z w128 z)) (coded_sum_is a b h) ∙ to_z-of_z w128 (a +ℤ b) h.sum

pub sum_zero : (a b : ℤ) → FitsSum a b → of_z w128 (coded_sum a b) ≡ 0 → eqb (unsigned_abs (a +ℤ b)) 0 ≡ true
sum_zero a b h e =
    let nothing : a +ℤ b ≡ pos 0 = sym (sum_is a b h) ∙ ap (to_z w128) e in
    ap (λ z. eqb (unsigned_abs z) 0) nothing

pub sum_nonzero : (a b : ℤ) → FitsSum a b → (of_z w128 (coded_sum a b) ≡ 0 → ⊥) → eqb (unsigned_abs (a +ℤ b)) 0 ≡ false
sum_nonzero a b h n = go (eqb (unsigned_abs (a +ℤ b)) 0) refl
  where
    go : (z : Bool) → eqb (unsigned_abs (a +ℤ b)) 0 ≡ z → z ≡ false
    go true e = absurd (n (ap (of_z w128) (coded_sum_is a b h ∙ zero_is (a +ℤ b) e)))
    go false e = refl
