-- What a list of multiples says of the list.
use Rattle.std.proofs.Common.{◌≡◌, ◌*◌, ◌≤◌, eqb, Bool, true, false, ℤ, ◌*ℤ◌, [], ◌∷◌, refl, sym, ap, subst, ◌∙◌, unsigned_abs, arith}
use Rattle.std.specs.declared.cmp.Ordering.{Ordering}
use Rattle.std.specs.declared.cmp.Ordering.TheVariants.{Less, Equal, Greater}
use Rattle.std.proofs.Math.Nat.{mul-le-mul_right}
use Rattle.std.proofs.lemmas.Bool.Decides.{nat_tests}
use Rattle.std.proofs.lemmas.Int.{unsigned_abs-mul}
use Rattle.sparse_lists.specs.SparseLists.{AllKeys, IsBefore, IsCanonical}
use Rattle.geo_poly.specs.Monomials.{Powers, IsMonomial, product}
use Rattle.sparse_lists.specs.Coefficients.{coefficients}
use Rattle.geo_poly.specs.Polynomials.{Summands, term_cmp, norm_of, multiples, IsPolynomial}
use Rattle.geo_poly.proofs.Orders.{term_order}
use Rattle.geo_poly.proofs.ProductLaws.{later, norm_of-multiples}

reflected : (k m n : Powers) → IsMonomial m → IsMonomial n → term_cmp (product k m) (product k n) ≡ Less → term_cmp m n ≡ Less
reflected k m n h g e = go (term_cmp m n) refl
  where
    go : (o : Ordering) → term_cmp m n ≡ o → o ≡ Less
    go Less f = refl
    go Equal f =
        let same : term_cmp (product k m) (product k n) ≡ Equal = ap (λ (x : Powers). term_cmp (product k m) (product k x)) (sym (term_order.exact m n f)) ∙ term_order.self (product k m) in
        absurd (let q : Less ≡ Equal = sym e ∙ same in cc)
    go Greater f =
        let turned : term_cmp (product k m) (product k n) ≡ Greater = term_order.flip (product k n) (product k m) (later k n m g h (term_order.flip_back m n f)) in
        absurd (let q : Less ≡ Greater = sym e ∙ turned in cc)

IsBefore-reflected : (t : Powers × ℤ) (m : Powers) (us : Summands) → IsMonomial m → AllKeys IsMonomial us → IsBefore term_cmp (product t.0 m) (multiples t us) → IsBefore term_cmp m us
IsBefore-reflected t m [] h g b = tt
IsBefore-reflected t m (u ∷ us) h g b = (reflected t.0 m u.0 h g.0 b.0, IsBefore-reflected t m us h g.1 b.1)

nonzero_factor : (a b : ℤ) → eqb (unsigned_abs (a *ℤ b)) 0 ≡ false → eqb (unsigned_abs b) 0 ≡ false
nonzero_factor a b h = go (eqb (unsigned_abs b) 0) refl
  where
    go : (z : Bool) → eqb (unsigned_abs b) 0 ≡ z → z ≡ false
    go false e = refl
    go true e =
        let none : unsigned_abs b ≡ 0 = grind (arith, nat_tests) in
        let whole : unsigned_abs (a *ℤ b) ≡ 0 = unsigned_abs-mul a b ∙ ap (λ n. unsigned_abs a * n) none ∙ omega arith in
        absurd (grind (arith, nat_tests))

IsCanonical-reflected : (t : Powers × ℤ) (q : Summands) → AllKeys IsMonomial q → IsCanonical term_cmp coefficients (multiples t q) → IsCanonical term_cmp coefficients q
IsCanonical-reflected t [] g c = tt
IsCanonical-reflected t (u ∷ us) g c =
    (nonzero_factor t.1 u.1 c.0, IsBefore-reflected t u.0 us g.0 g.1 c.1, IsCanonical-reflected t us g.1 c.2)

pub IsPolynomial-reflected : (t : Powers × ℤ) (q p : Summands) → (unsigned_abs t.1 ≡ 0 → ⊥) → AllKeys IsMonomial q → multiples t q ≡ p → IsPolynomial p → IsPolynomial q
IsPolynomial-reflected t q p n g e h =
    let norm : unsigned_abs t.1 * norm_of q ≡ norm_of p = sym (norm_of-multiples t q) ∙ ap norm_of e in
    let some : 1 ≤ unsigned_abs t.1 = omega (arith, n) in
    let larger : 1 * norm_of q ≤ unsigned_abs t.1 * norm_of q = mul-le-mul_right (norm_of q) some in
    record {
      in_order = IsCanonical-reflected t q g (subst (IsCanonical term_cmp coefficients) (sym e) h.in_order);
      monomials = g;
      norm_fits = omega (arith, norm, larger, h.norm_fits);
    }
