-- The variables before the first one of the first monomial: no monomial has them.
use Rattle.std.proofs.Common.{◌≡◌, ℕ, ◌<◌, ◌≤◌, ◌^◌, ℤ, Bool, true, false, Option, None, [], ◌∷◌, Some, drop, length, slice_get, refl, sym, subst, ◌∙◌, arith}
use Rattle.std.specs.Prelude.{◌↔◌, IfNone, IsTrue}
use Rattle.std.specs.declared.cmp.Ordering.{Ordering}
use Rattle.std.specs.declared.cmp.Ordering.TheVariants.{Less, Equal, Greater}
use Rattle.std.proofs.lemmas.Bool.{false≢true}
use Rattle.std.proofs.lemmas.Option.{get_or_from_slice_get, slice_get_within}
use Rattle.sparse_lists.specs.SparseLists.{AllKeys, IsBefore, IsCanonical}
use Rattle.sparse_lists.proofs.Canonical.{IsBefore_trans, amount-before}
use Rattle.geo_poly.specs.declared.shared.Shared.{Shared}
use Rattle.geo_poly.specs.declared.variables.Var.{Var}
use Rattle.geo_poly.specs.declared.variables.Var.TheVariants.{R}
use Rattle.geo_poly.specs.Inner.Moved.{IsPlaceOf}
use Rattle.geo_poly.specs.Monomials.{IsEarlier, IsMonomial, Powers, exponent, exponents}
use Rattle.geo_poly.specs.Polynomials.{IsPolynomial, Summands, term_cmp}
use Rattle.geo_poly.specs.Shared.{AreParts, told, told_powers, var_at}
use Rattle.geo_poly.specs.Specialise.{degree_in, specialised, specialised_weight}
use Rattle.geo_poly.specs.Variables.{var_cmp}
use Rattle.geo_poly.proofs.MonomialOrder.{IsEarlier-from_cmp}
use Rattle.geo_poly.proofs.Orders.{exponents_add, monomial_back, var_order}
use Rattle.geo_poly.proofs.SpecialisedLaws.{IsCollected-polynomial, specialised-lacking, weight-lacking}
use Rattle.geo_poly.proofs.Told.{item, monomial_at, told-drop}
use Rattle.geo_poly.proofs.ZeroWalks.{absent}

-- a variable that stands before all of a monomial is in no monomial behind it
no_later : (v : Var) (m n : Powers) → IsBefore var_cmp v m → IsEarlier m n → exponent v n ≡ 0
no_later v m n b h = go (var_cmp v h.at) refl
  where
    none : exponent v m ≡ 0
    none = amount-before var_cmp exponents var_order exponents_add v m b

    go : (o : Ordering) → var_cmp v h.at ≡ o → exponent v n ≡ 0
    go Less e = sym (h.same_before v e) ∙ none
    go Equal e =
        let greater : exponent v n < exponent v m = subst (λ (w : Var). exponent w n < exponent w m) (sym (var_order.exact v h.at e)) h.greater in
        absurd (omega (arith, greater, none))
    go Greater e =
        let before : IsBefore var_cmp h.at m = IsBefore_trans var_cmp exponents var_order exponents_add h.at v m (var_order.flip_back v h.at e) b in
        let nothing : exponent h.at m ≡ 0 = amount-before var_cmp exponents var_order exponents_add h.at m before in
        absurd (omega (arith, h.greater, nothing))

in_none : (v : Var) (m : Powers) (ts : Summands) → IsCanonical var_cmp exponents m → IsBefore var_cmp v m → AllKeys IsMonomial ts → IsBefore term_cmp m ts → degree_in v ts ≡ 0
in_none v m [] h b ms g = refl
in_none v m (t ∷ ts) h b ms g =
    let head : exponent v t.0 ≡ 0 = no_later v m t.0 b (IsEarlier-from_cmp m t.0 h ms.0.in_order (monomial_back t.0 m g.0)) in
    omega (arith, head, in_none v m ts h b ms.1 g.1)

-- so it is in none of the polynomial
pub not_leading : (v : Var) (m : Powers) (c : ℤ) (ts p : Summands) → p ≡ (m, c) ∷ ts → IsPolynomial p → IsBefore var_cmp v m → degree_in v p ≡ 0
not_leading v m c ts p e h b =
    let whole : IsPolynomial ((m, c) ∷ ts) = subst IsPolynomial e h in
    let head : exponent v m ≡ 0 = amount-before var_cmp exponents var_order exponents_add v m b in
    let tail : degree_in v ts ≡ 0 = in_none v m ts whole.monomials.0.in_order b whole.monomials.1 whole.in_order.1 in
    let both : degree_in v ((m, c) ∷ ts) ≡ 0 = omega (arith, head, tail) in
    subst (λ (q : Summands). degree_in v q ≡ 0) (sym e) both

-- no term has a variable
pub no_terms : (v : Var) (p : Summands) → length p ≡ 0 → degree_in v p ≡ 0
no_terms v [] h = refl
no_terms v (t ∷ ts) h = absurd (omega (arith, h))

-- the variable that is looked for stands before the first monomial of the parts
pub before_first : (p : Shared) (v : Var) (m : Powers) → 0 < length p.list.now → AreParts p → told_powers p (item p.list.now 0).0 ≡ m → IsBefore var_cmp v m → degree_in v (told p) ≡ 0
before_first p v m within h e b =
    let t = item p.list.now 0 in
    let first : told p ≡ (told_powers p (item p.list.now 0).0, t.1) ∷ drop 1 (told p) = told-drop p 0 within in
    not_leading v (told_powers p t.0) t.1 (drop 1 (told p)) (told p) first h.polynomial (subst (IsBefore var_cmp v) (sym e) b)

-- and where its first power stands behind it
pub before_power : (p : Shared) (v w : Var) (e : ℕ) (m : Powers) → 0 < length p.list.now → AreParts p → told_powers p (item p.list.now 0).0 ≡ (w, e) ∷ m → var_cmp v w ≡ Less → degree_in v (told p) ≡ 0
before_power p v w e m within h is less =
    let ordered : IsCanonical var_cmp exponents ((w, e) ∷ m) = subst (IsCanonical var_cmp exponents) is (monomial_at p 0 within h).in_order in
    before_first p v ((w, e) ∷ m) within h is (less, IsBefore_trans var_cmp exponents var_order exponents_add v w m less ordered.1)

-- the number of a first power
pub number_within : (p : Shared) (k : ℕ) (w : Var) → slice_get p.vars.now k ≡ Some w → (k < length p.vars.now) × (var_at p.vars.now k ≡ w)
number_within p k w e = (slice_get_within p.vars.now k w e, get_or_from_slice_get p.vars.now k w (R (record { 0 = 0 }) (record { 0 = 0 }) (record { 0 = 0 }) (record { 0 = 0 })) e)

-- a variable without a place
pub no_place : (p : Shared) (v : Var) (r : Option ℕ) → IsPlaceOf p.vars.now v r → AreParts p → IfNone r (degree_in v (told p) ≡ 0)
no_place p v (Some k) h parts = tt
no_place p v None h parts = absent p.vars.now p.monos.now p.list.now v h parts.indices

-- any number for a variable that no monomial has changes nothing
pub lacking_stays : (v : Var) (z : ℤ) (p q : Summands) → p ≡ q → IsPolynomial p → degree_in v p ≡ 0 → specialised v z q ≡ q
lacking_stays v z p q e h none =
    subst (λ (r : Summands). specialised v z r ≡ r) e (specialised-lacking v z p (IsCollected-polynomial p h) none)

pub lacking_light : (v : Var) (z : ℤ) (p q : Summands) → p ≡ q → IsPolynomial p → degree_in v p ≡ 0 → specialised_weight v z q < 2 ^ 127
lacking_light v z p q e h none =
    let light : specialised_weight v z p < 2 ^ 127 = omega (arith, weight-lacking v z p none, h.norm_fits) in
    subst (λ (r : Summands). specialised_weight v z r < 2 ^ 127) e light

-- a test that is told both ways
pub told_heavy : (w : ℕ) (r : Bool) → (r ≡ true → 2 ^ 127 ≤ w) → (r ≡ false → w < 2 ^ 127) → IsTrue r ↔ (2 ^ 127 ≤ w)
told_heavy w true h l = (λ _. h refl, λ _. refl)
told_heavy w false h l = (λ f. absurd (false≢true f), λ le. absurd (omega (arith, l refl, le)))
