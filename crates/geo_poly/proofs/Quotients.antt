-- Quotients of monomials.
use Rattle.std.proofs.Common.{◌≡◌, ℕ, ◌+◌, ◌-◌, ◌≤◌, eqb, Bool, true, false, cond, [], ◌∷◌, ◌++◌, refl, sym, ap, subst, ◌∙◌, append_assoc, arith}
use Rattle.std.specs.Ordering.{is_eq}
use Rattle.std.specs.declared.cmp.Ordering.{Ordering}
use Rattle.std.specs.declared.cmp.Ordering.TheVariants.{Less, Equal, Greater}
use Rattle.std.proofs.lemmas.List.Sums.{sum_by-cons}
use Rattle.geo_poly.specs.declared.variables.Var.{Var}
use Rattle.geo_poly.specs.Variables.{var_cmp}
use Rattle.sparse_lists.specs.SparseLists.{IsBefore, IsCanonical, put}
use Rattle.geo_poly.specs.Monomials.{Powers, exponents, exponent, degree_of, product, IsMonomial}
use Rattle.geo_poly.specs.Division.{quotient, IsNoMultiple}
use Rattle.geo_poly.proofs.Orders.{var_order, exponents_add}
use Rattle.sparse_lists.proofs.Canonical.{amount-put, amount-before, IsBefore-put, IsCanonical-put, IsCanonical-canonical, same_list}
use Rattle.geo_poly.proofs.MonomialLaws.{degree_of-product}
use Rattle.geo_poly.proofs.MonomialOrder.{exponent-product}
use Rattle.geo_poly.proofs.ReplaceTerms.{IsMonomial_front}

pub exponent-le : (v : Var) (m : Powers) → exponent v m ≤ degree_of m
exponent-le v [] = omega arith
exponent-le v (p ∷ m) = omega (arith, one (is_eq (var_cmp v p.0)), exponent-le v m, sum_by-cons (λ (p : Var × ℕ). p.1) p m)
  where
    one : (b : Bool) → cond b p.1 0 ≤ p.1
    one true = omega arith
    one false = omega arith

IsBefore-quotient : (v : Var) (m k : Powers) → IsBefore var_cmp v m → IsBefore var_cmp v (quotient m k)
IsBefore-quotient v [] k h = tt
IsBefore-quotient v (p ∷ m) k h =
    IsBefore-put var_cmp exponents var_order exponents_add v p.0 (p.1 - exponent p.0 k) (quotient m k) h.0 (IsBefore-quotient v m k h.1)

IsCanonical-quotient : (m k : Powers) → IsCanonical var_cmp exponents m → IsCanonical var_cmp exponents (quotient m k)
IsCanonical-quotient [] k h = tt
IsCanonical-quotient (p ∷ m) k h =
    IsCanonical-put var_cmp exponents var_order exponents_add p.0 (p.1 - exponent p.0 k) (quotient m k) (IsBefore-quotient p.0 m k h.1) (IsCanonical-quotient m k h.2)

pub exponent-quotient : (v : Var) (m k : Powers) → IsCanonical var_cmp exponents m → exponent v (quotient m k) ≡ exponent v m - exponent v k
exponent-quotient v [] k h = omega arith
exponent-quotient v (p ∷ m) k h =
    amount-put var_cmp exponents var_order exponents_add v p.0 (p.1 - exponent p.0 k) (quotient m k) ∙ go (var_cmp v p.0) refl (exponent-quotient v m k h.2)
  where
    go : (o : Ordering) → var_cmp v p.0 ≡ o → exponent v (quotient m k) ≡ exponent v m - exponent v k
        → cond (is_eq o) (p.1 - exponent p.0 k) 0 + exponent v (quotient m k) ≡ cond (is_eq o) p.1 0 + exponent v m - exponent v k
    go Less e rest = omega (arith, rest)
    go Greater e rest = omega (arith, rest)
    go Equal e rest =
        let same : v ≡ p.0 = var_order.exact v p.0 e in
        let none : exponent v m ≡ 0 = amount-before var_cmp exponents var_order exponents_add v m (subst (λ (w : Var). IsBefore var_cmp w m) (sym same) h.1) in
        let at : exponent p.0 k ≡ exponent v k = ap (λ (w : Var). exponent w k) (sym same) in
        omega (arith, rest, none, at)

degree_of-put-le : (v : Var) (e : ℕ) (m : Powers) → degree_of (put exponents v e m) ≤ e + degree_of m
degree_of-put-le v e m = elim (eqb e 0) as (λ z. degree_of (cond z m ((v, e) ∷ m)) ≤ e + degree_of m) [ true ↦ omega arith | false ↦ omega (arith, sum_by-cons (λ (p : Var × ℕ). p.1) (v, e) m) ]

degree_of-quotient-le : (m k : Powers) → degree_of (quotient m k) ≤ degree_of m
degree_of-quotient-le [] k = omega arith
degree_of-quotient-le (p ∷ m) k =
    omega (arith, degree_of-put-le p.0 (p.1 - exponent p.0 k) (quotient m k), degree_of-quotient-le m k, sum_by-cons (λ (p : Var × ℕ). p.1) p m)

pub IsMonomial-quotient : (m k : Powers) → IsMonomial m → IsMonomial (quotient m k)
IsMonomial-quotient m k h = record {
  in_order = IsCanonical-quotient m k h.in_order;
  degree_fits = omega (arith, degree_of-quotient-le m k, h.degree_fits);
}

-- where some monomial times k is m, the quotient is one
pub quotient_is : (m k q : Powers) → IsMonomial m → product k q ≡ m → product k (quotient m k) ≡ m
quotient_is m k q h e =
    same_list var_cmp exponents var_order exponents_add (product k (quotient m k)) m (IsCanonical-canonical var_cmp exponents var_order exponents_add (k ++ quotient m k)) h.in_order
    (λ v.
    let whole : exponent v m ≡ exponent v k + exponent v q = sym (ap (exponent v) e) ∙ exponent-product v k q in
    omega (arith, exponent-product v k (quotient m k), exponent-quotient v m k h.in_order, whole))

pub no_multiple : (m k : Powers) → IsMonomial m → (product k (quotient m k) ≡ m → ⊥) → IsNoMultiple k m
no_multiple m k h n q e = n (quotient_is m k q h e)

pub no_multiple_by_degree : (m k : Powers) → IsMonomial m → (degree_of k + degree_of (quotient m k) ≡ degree_of m → ⊥) → IsNoMultiple k m
no_multiple_by_degree m k h n = no_multiple m k h (λ e. n (sym (degree_of-product k (quotient m k)) ∙ ap degree_of e))

pub next_power : (m k done : Powers) (p : Var × ℕ) (left : Powers) → IsMonomial m → eqb (p.1 - exponent p.0 k) 0 ≡ false
    → done ++ quotient (p ∷ left) k ≡ quotient m k → IsMonomial (done ++ (p.0, p.1 - exponent p.0 k) ∷ [])
next_power m k done p left h e same =
    IsMonomial_front (done ++ (p.0, p.1 - exponent p.0 k) ∷ []) (quotient left k)
    (subst IsMonomial (sym same ∙ ap (λ x. done ++ x)
    (ap (λ (b : Bool). cond b (quotient left k) ((p.0, p.1 - exponent p.0 k) ∷ quotient left k)) e)
    ∙ sym (append_assoc done ((p.0, p.1 - exponent p.0 k) ∷ []) (quotient left k)))
    (IsMonomial-quotient m k h))
