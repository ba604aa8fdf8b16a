-- A polynomial with the other sign.
use Rattle.std.proofs.Common.{◌≡◌, eqb, false, ℤ, neg_ℤ, [], ◌∷◌, refl, sym, subst, unsigned_abs, arith}
use Rattle.std.proofs.lemmas.Int.{ints}
use Rattle.std.proofs.lemmas.List.Sums.{sum_by-cons}
use Rattle.sparse_lists.specs.SparseLists.{AllKeys, IsBefore, IsCanonical}
use Rattle.geo_poly.specs.Monomials.{Powers, IsMonomial}
use Rattle.sparse_lists.specs.Coefficients.{coefficients}
use Rattle.geo_poly.specs.Polynomials.{Summands, term_cmp, norm_of, negated, IsPolynomial}

unsigned_abs-neg : (a : ℤ) → unsigned_abs (neg_ℤ a) ≡ unsigned_abs a
unsigned_abs-neg a = omega (arith, ints)

pub norm_of-negated : (p : Summands) → norm_of (negated p) ≡ norm_of p
norm_of-negated [] = refl
norm_of-negated (t ∷ ts) =
    omega (arith, sum_by-cons (λ (t : Powers × ℤ). unsigned_abs t.1) (t.0, neg_ℤ t.1) (negated ts), sum_by-cons (λ (t : Powers × ℤ). unsigned_abs t.1) t ts, unsigned_abs-neg t.1, norm_of-negated ts)

IsBefore-negated : (m : Powers) (p : Summands) → IsBefore term_cmp m p → IsBefore term_cmp m (negated p)
IsBefore-negated m [] h = tt
IsBefore-negated m (t ∷ ts) h = (h.0, IsBefore-negated m ts h.1)

pub IsCanonical-negated : (p : Summands) → IsCanonical term_cmp coefficients p → IsCanonical term_cmp coefficients (negated p)
IsCanonical-negated [] h = tt
IsCanonical-negated (t ∷ ts) h =
    (subst (λ n. eqb n 0 ≡ false) (sym (unsigned_abs-neg t.1)) h.0, IsBefore-negated t.0 ts h.1, IsCanonical-negated ts h.2)

monomials_of_negated : (p : Summands) → AllKeys IsMonomial p → AllKeys IsMonomial (negated p)
monomials_of_negated [] h = tt
monomials_of_negated (t ∷ ts) h = (h.0, monomials_of_negated ts h.1)

pub IsPolynomial-negated : (p : Summands) → IsPolynomial p → IsPolynomial (negated p)
IsPolynomial-negated p h = record {
  in_order = IsCanonical-negated p h.in_order;
  monomials = monomials_of_negated p h.monomials;
  norm_fits = omega (arith, norm_of-negated p, h.norm_fits);
}
