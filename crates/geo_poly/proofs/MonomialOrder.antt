-- What the order of monomials says of exponents, and that products keep it.
use Rattle.std.proofs.Common.{◌≡◌, ℕ, ◌+◌, ◌<◌, eqb, false, cond, [], ◌∷◌, ◌++◌, refl, sym, ap, ap₂, subst, ◌∙◌, arith}
use Rattle.std.specs.Ordering.{nat_cmp, ordering_then, is_eq}
use Rattle.std.specs.declared.cmp.Ordering.{Ordering}
use Rattle.std.specs.declared.cmp.Ordering.TheVariants.{Less, Equal, Greater}
use Rattle.std.proofs.lemmas.Cmp.{ranked}
use Rattle.std.proofs.lemmas.Bool.Decides.{nat_tests}
use Rattle.geo_poly.specs.declared.variables.Var.{Var}
use Rattle.geo_poly.specs.Variables.{var_cmp}
use Rattle.sparse_lists.specs.SparseLists.{IsBefore, IsCanonical}
use Rattle.geo_poly.specs.Monomials.{Powers, exponents, exponent, product, monomial_cmp, IsEarlier}
use Rattle.geo_poly.proofs.Orders.{var_order, exponents_add, monomial_exact, monomial_back}
use Rattle.sparse_lists.proofs.Canonical.{amount-before, amount-head, amount-canonical, amount-append, IsBefore_trans}

-- a variable that stands before all of a monomial has the exponent 0
exponent-before : (v : Var) (m : Powers) → IsBefore var_cmp v m → exponent v m ≡ 0
exponent-before v m h = amount-before var_cmp exponents var_order exponents_add v m h

exponent-head : (p : Var × ℕ) (m : Powers) → IsBefore var_cmp p.0 m → exponent p.0 (p ∷ m) ≡ p.1
exponent-head p m h = amount-head var_cmp exponents var_order exponents_add p m h

before_all : (v : Var) (p : Var × ℕ) (m : Powers) → var_cmp v p.0 ≡ Less → IsBefore var_cmp p.0 m → exponent v (p ∷ m) ≡ 0
before_all v p m e h = exponent-before v (p ∷ m) (e, IsBefore_trans var_cmp exponents var_order exponents_add v p.0 m e h)

positive : (p : Var × ℕ) (m : Powers) → IsCanonical var_cmp exponents (p ∷ m) → 0 < p.1
positive p m h = let nonzero : eqb p.1 0 ≡ false = h.0 in grind (arith, nat_tests)

-- the first powers differ
first_before : (p q : Var × ℕ) (m n : Powers) → IsCanonical var_cmp exponents (p ∷ m) → IsCanonical var_cmp exponents (q ∷ n) → var_cmp p.0 q.0 ≡ Less → IsEarlier (p ∷ m) (q ∷ n)
first_before p q m n h g e = record {
  at = p.0;
  greater =
      let none : exponent p.0 (q ∷ n) ≡ 0 = before_all p.0 q n e g.1 in
      let some : exponent p.0 (p ∷ m) ≡ p.1 = exponent-head p m h.1 in
      omega (arith, none, some, positive p m h);
  same_before = λ v b. before_all v p m b h.1 ∙ sym (before_all v q n (var_order.trans v p.0 q.0 b e) g.1);
}

first_greater : (p q : Var × ℕ) (m n : Powers) → IsCanonical var_cmp exponents (p ∷ m) → IsCanonical var_cmp exponents (q ∷ n) → q.0 ≡ p.0 → q.1 < p.1 → IsEarlier (p ∷ m) (q ∷ n)
first_greater p q m n h g e lt = record {
  at = p.0;
  greater =
      let at_q : exponent p.0 (q ∷ n) ≡ q.1 = subst (λ (x : Var). exponent x (q ∷ n) ≡ q.1) e (exponent-head q n g.1) in
      let at_p : exponent p.0 (p ∷ m) ≡ p.1 = exponent-head p m h.1 in
      omega (arith, at_q, at_p);
  same_before = λ v b. before_all v p m b h.1 ∙ sym (before_all v q n (subst (λ (x : Var). var_cmp v x ≡ Less) (sym e) b) g.1);
}

-- the first powers are the same
rest_earlier : (p q : Var × ℕ) (m n : Powers) → q.0 ≡ p.0 → p.1 ≡ q.1 → IsEarlier m n → IsEarlier (p ∷ m) (q ∷ n)
rest_earlier p q m n e f h = record {
  at = h.at;
  greater =
      let same : cond (is_eq (var_cmp h.at p.0)) p.1 0 ≡ cond (is_eq (var_cmp h.at q.0)) q.1 0 = ap₂ (λ (x : Var) (k : ℕ). cond (is_eq (var_cmp h.at x)) k 0) (sym e) f in
      more _ _ _ _ same h.greater;
  same_before = λ v b. ap₂ ◌+◌ (ap₂ (λ (x : Var) (k : ℕ). cond (is_eq (var_cmp v x)) k 0) (sym e) f) (h.same_before v b);
}
  where
    more : (a b c d : ℕ) → a ≡ b → c < d → b + c < a + d
    more a b c d e h = omega arith

earlier_nothing : (p : Var × ℕ) (m : Powers) → IsCanonical var_cmp exponents (p ∷ m) → IsEarlier (p ∷ m) []
earlier_nothing p m h = record {
  at = p.0;
  greater =
      let some : exponent p.0 (p ∷ m) ≡ p.1 = exponent-head p m h.1 in
      omega (arith, some, positive p m h);
  same_before = λ v b. before_all v p m b h.1;
}

pub IsEarlier-from_cmp : (m n : Powers) → IsCanonical var_cmp exponents m → IsCanonical var_cmp exponents n → monomial_cmp m n ≡ Greater → IsEarlier m n
IsEarlier-from_cmp [] [] h g e = absurd (let q : Equal ≡ Greater = e in cc)
IsEarlier-from_cmp [] (q ∷ n) h g e = absurd (let q : Less ≡ Greater = e in cc)
IsEarlier-from_cmp (p ∷ m) [] h g e = earlier_nothing p m h
IsEarlier-from_cmp (p ∷ m) (q ∷ n) h g e = go (var_cmp q.0 p.0) refl (nat_cmp p.1 q.1) refl e (IsEarlier-from_cmp m n h.2 g.2)
  where
    go : (o : Ordering) → var_cmp q.0 p.0 ≡ o → (r : Ordering) → nat_cmp p.1 q.1 ≡ r
        → ordering_then (ordering_then o r) (monomial_cmp m n) ≡ Greater → (monomial_cmp m n ≡ Greater → IsEarlier m n)
        → IsEarlier (p ∷ m) (q ∷ n)
    go Less a r b e rec = absurd (let q : Less ≡ Greater = e in cc)
    go Greater a r b e rec = first_before p q m n h g (var_order.flip_back q.0 p.0 a)
    go Equal a Less b e rec = absurd (let q : Less ≡ Greater = e in cc)
    go Equal a Greater b e rec = first_greater p q m n h g (var_order.exact q.0 p.0 a) (ranked p.1 q.1 Greater (sym b))
    go Equal a Equal b e rec = rest_earlier p q m n (var_order.exact q.0 p.0 a) (ranked p.1 q.1 Equal (sym b)) (rec e)

-- no two monomials stand before each other
not_earlier_both : {P : Type 0} (m n : Powers) → IsEarlier m n → IsEarlier n m → P
not_earlier_both m n h g = go (var_cmp h.at g.at) refl
  where
    go : {P : Type 0} (o : Ordering) → var_cmp h.at g.at ≡ o → P
    go Less e = absurd (let same = g.same_before h.at e in omega (arith, same, h.greater))
    go Greater e = absurd (let same = h.same_before g.at (var_order.flip_back h.at g.at e) in omega (arith, same, g.greater))
    go Equal e =
        let at-is : h.at ≡ g.at = var_order.exact h.at g.at e in
        let other : exponent h.at m < exponent h.at n = subst (λ (x : Var). exponent x m < exponent x n) (sym at-is) g.greater in
        absurd (omega (arith, other, h.greater))

pub cmp_from_IsEarlier : (m n : Powers) → IsCanonical var_cmp exponents m → IsCanonical var_cmp exponents n → IsEarlier m n → monomial_cmp m n ≡ Greater
cmp_from_IsEarlier m n h g earlier = go (monomial_cmp m n) refl
  where
    go : (o : Ordering) → monomial_cmp m n ≡ o → o ≡ Greater
    go Greater e = refl
    go Less e = not_earlier_both m n earlier (IsEarlier-from_cmp n m g h (monomial_back m n e))
    go Equal e = not_earlier_both m n earlier (subst (λ (x : Powers). IsEarlier x m) (monomial_exact m n e) (subst (λ (x : Powers). IsEarlier m x) (sym (monomial_exact m n e)) earlier))

pub exponent-product : (v : Var) (m n : Powers) → exponent v (product m n) ≡ exponent v m + exponent v n
exponent-product v m n =
    amount-canonical var_cmp exponents var_order exponents_add v (m ++ n) ∙ amount-append var_cmp exponents var_order exponents_add v m n

pub IsEarlier-product : (k m n : Powers) → IsEarlier m n → IsEarlier (product k m) (product k n)
IsEarlier-product k m n h = record {
  at = h.at;
  greater = omega (arith, exponent-product h.at k m, exponent-product h.at k n, h.greater);
  same_before = λ v b. exponent-product v k m ∙ ap (λ x. exponent v k + x) (h.same_before v b) ∙ sym (exponent-product v k n);
}
