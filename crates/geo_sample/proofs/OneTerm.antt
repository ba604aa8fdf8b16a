-- A single term, or the zero polynomial where its coefficient is 0.
use Rattle.std.proofs.Common.{◌≡◌, ℕ, zero, suc, ◌+◌, ◌*◌, ◌^◌, ◌<◌, eqb, Bool, true, false, cond, ℤ, pos, negsuc, ◌*ℤ◌, [], ◌∷◌, length}
use Rattle.std.proofs.Common.{drop, unsigned_abs, refl, sym, ap, ap₂, subst, ◌∙◌, arith}
use Rattle.std.specs.Prelude.{◌↔◌, not, slice_index_or, IsTrue}
use Rattle.std.proofs.lemmas.Bool.{false≢true}
use Rattle.std.specs.Int.{int_pow}
use Rattle.std.specs.Ordering.{is_eq}
use Rattle.std.specs.declared.cmp.Ordering.{Ordering}
use Rattle.std.specs.declared.cmp.Ordering.TheVariants.{Less, Equal, Greater}
use Rattle.std.proofs.lemmas.Bool.Decides.{nat_tests}
use Rattle.std.proofs.lemmas.Int.{unsigned_abs-mul}
use Rattle.std.proofs.Math.Nat.{pow-suc, pow-zero}
use Rattle.sparse_lists.specs.SparseLists.{IsBefore, IsCanonical}
use Rattle.sparse_lists.proofs.Canonical.{IsBefore_trans, amount-before}
use Rattle.geo_poly.specs.declared.variables.Var.{Var}
use Rattle.geo_poly.specs.Variables.{var_cmp}
use Rattle.geo_poly.specs.Monomials.{Powers, IsMonomial, exponent, exponents}
use Rattle.geo_poly.specs.Polynomials.{Summands}
use Rattle.geo_poly.specs.Specialise.{specialised, specialised_term, without}
use Rattle.geo_sample.specs.Inner.Forms.{of_term}
use Rattle.geo_poly.proofs.Orders.{var_order, exponents_add}
use Rattle.geo_poly.proofs.SpecialisedLaws.{without-lacking, times_power_zero}
use Rattle.geo_poly.proofs.WholePowers.{unsigned_abs-int_pow}

-- THE TWO CASES
pub when_zero : (t : Powers × ℤ) → unsigned_abs t.1 ≡ 0 → of_term t ≡ []
when_zero t h = go (eqb (unsigned_abs t.1) 0) refl
  where
    go : (b : Bool) → eqb (unsigned_abs t.1) 0 ≡ b → cond b [] (t ∷ []) ≡ []
    go true e = refl
    go false e = absurd (grind (arith, nat_tests))

pub when_not : (t : Powers × ℤ) → (unsigned_abs t.1 ≡ 0 → ⊥) → of_term t ≡ t ∷ []
when_not t h = go (eqb (unsigned_abs t.1) 0) refl
  where
    go : (b : Bool) → eqb (unsigned_abs t.1) 0 ≡ b → cond b [] (t ∷ []) ≡ t ∷ []
    go true e = let none : unsigned_abs t.1 ≡ 0 = grind (arith, nat_tests) in absurd (h none)
    go false e = refl

-- a property of both
pub by_cases : (P : Summands → Type 0) (t : Powers × ℤ) → (unsigned_abs t.1 ≡ 0 → P []) → ((unsigned_abs t.1 ≡ 0 → ⊥) → P (t ∷ [])) → P (of_term t)
by_cases P t none some = go (eqb (unsigned_abs t.1) 0) refl
  where
    go : (b : Bool) → eqb (unsigned_abs t.1) 0 ≡ b → P (cond b [] (t ∷ []))
    go true e = none (grind (arith, nat_tests))
    go false e = some (λ z. absurd (grind (arith, nat_tests)))

-- A NUMBER PUT IN
pub lacking_term : (v : Var) (z : ℤ) (t : Powers × ℤ) → IsMonomial t.0 → exponent v t.0 ≡ 0 → specialised_term v z t ≡ t
lacking_term v z t m none =
    ap₂ (λ (n : Powers) (c : ℤ). (n, c)) (without-lacking v t.0 m.in_order none) (ap (λ e. t.1 *ℤ int_pow z e) none ∙ times_power_zero t.1 z)

size_is : (v : Var) (z : ℤ) (t : Powers × ℤ) → unsigned_abs (t.1 *ℤ int_pow z (exponent v t.0)) ≡ unsigned_abs t.1 * unsigned_abs z ^ exponent v t.0
size_is v z t =
    unsigned_abs-mul t.1 (int_pow z (exponent v t.0)) ∙ ap (λ k. unsigned_abs t.1 * k) (unsigned_abs-int_pow z (exponent v t.0))

zero_power : (e : ℕ) → (e ≡ 0 → ⊥) → 0 ^ e ≡ 0
zero_power zero n = absurd (n refl)
zero_power (suc e) n = pow-suc 0 e ∙ omega arith

-- 0 for a variable that it has
pub vanishes : (v : Var) (t : Powers × ℤ) → (exponent v t.0 ≡ 0 → ⊥) → specialised v (pos 0) (of_term t) ≡ []
vanishes v t has =
    by_cases (λ p. specialised v (pos 0) p ≡ []) t (λ none. refl)
    (λ some. when_zero (specialised_term v (pos 0) t)
    (size_is v (pos 0) t ∙ ap (λ k. unsigned_abs t.1 * k) (zero_power (exponent v t.0) has) ∙ omega arith))

-- and for one that it lacks
pub stays : (v : Var) (t : Powers × ℤ) → IsMonomial t.0 → exponent v t.0 ≡ 0 → of_term t ≡ specialised v (pos 0) (of_term t)
stays v t m none =
    by_cases (λ p. p ≡ specialised v (pos 0) p) t (λ z. refl)
    (λ some. sym (ap of_term (lacking_term v (pos 0) t m none) ∙ when_not t some))

pub zero_or_has : (v : Var) (t : Powers × ℤ) → IsMonomial t.0 → (unsigned_abs t.1 ≡ 0 → ⊥) → exponent v t.0 ≡ 0 → specialised v (pos 0) (of_term t) ≡ [] → ⊥
zero_or_has v t m some none gone =
    let e : t ∷ [] ≡ [] = sym (when_not t some) ∙ stays v t m none ∙ gone in cc

-- a number other than 0
no_zero_product : (x y : ℕ) → (x ≡ 0 → ⊥) → (y ≡ 0 → ⊥) → x * y ≡ 0 → ⊥
no_zero_product zero y n m h = n refl
no_zero_product (suc x) y n m h = m (omega (arith, h))

positive_power : (a e : ℕ) → (a ≡ 0 → ⊥) → a ^ e ≡ 0 → ⊥
positive_power a zero n h = absurd (omega (arith, h, pow-zero a))
positive_power a (suc e) n h = no_zero_product (a ^ e) a (positive_power a e n) n (sym (pow-suc a e) ∙ h)

pub still_nonzero : (v : Var) (z : ℤ) (t : Powers × ℤ) → (unsigned_abs t.1 ≡ 0 → ⊥) → (unsigned_abs z ≡ 0 → ⊥) → unsigned_abs (specialised_term v z t).1 ≡ 0 → ⊥
still_nonzero v z t some number h =
    no_zero_product (unsigned_abs t.1) (unsigned_abs z ^ exponent v t.0) some (positive_power (unsigned_abs z) (exponent v t.0) number) (sym (size_is v z t) ∙ h)

pub zero_alike : (v : Var) (z : ℤ) (t : Powers × ℤ) → (unsigned_abs z ≡ 0 → ⊥) → (specialised v z (of_term t) ≡ []) ↔ (of_term t ≡ [])
zero_alike v z t number =
    by_cases (λ p. (specialised v z p ≡ []) ↔ (p ≡ [])) t (λ none. (λ h. refl, λ h. refl))
    (λ some. (
      λ h. (let e : specialised_term v z t ∷ [] ≡ [] = sym (when_not (specialised_term v z t) (still_nonzero v z t some number)) ∙ h in absurd cc),
      λ h. absurd (let e : t ∷ [] ≡ [] = h in cc),
    ))

-- THE FIRST POWER
-- where the variable is that of the first power, the others are behind it
pub behind_first : (v : Var) (p : Var × ℕ) (m : Powers) → IsCanonical var_cmp exponents (p ∷ m) → v ≡ p.0 → m ≡ without v (p ∷ m)
behind_first v p m h is =
    let self : var_cmp v p.0 ≡ Equal = ap (var_cmp v) (sym is) ∙ var_order.self v in
    let none : exponent v m ≡ 0 = amount-before var_cmp exponents var_order exponents_add v m (subst (λ (w : Var). IsBefore var_cmp w m) (sym is) h.1) in
    sym (ap (λ (o : Ordering). cond (not (is_eq o)) (p ∷ without v m) (without v m)) self ∙ without-lacking v m h.2 none)

-- the exponent of the first variable, and of one before it
pub first_exponent : (v : Var) (p : Var × ℕ) (m : Powers) → IsCanonical var_cmp exponents (p ∷ m) → var_cmp v p.0 ≡ Equal → p.1 ≡ exponent v (p ∷ m)
first_exponent v p m h e =
    let same : v ≡ p.0 = var_order.exact v p.0 e in
    let none : exponent v m ≡ 0 = amount-before var_cmp exponents var_order exponents_add v m (subst (λ (w : Var). IsBefore var_cmp w m) (sym same) h.1) in
    sym (ap (λ (o : Ordering). cond (is_eq o) p.1 0 + exponent v m) e ∙ omega (arith, none))

pub no_exponent : (v : Var) (p : Var × ℕ) (m : Powers) → IsCanonical var_cmp exponents (p ∷ m) → var_cmp v p.0 ≡ Less → 0 ≡ exponent v (p ∷ m)
no_exponent v p m h e =
    sym (amount-before var_cmp exponents var_order exponents_add v (p ∷ m) (e, IsBefore_trans var_cmp exponents var_order exponents_add v p.0 m e h.1))

-- the same, told of the item at the place 0
pub others_behind : (v : Var) (m : Powers) (d : Var × ℕ) → IsMonomial m → 0 < length m → is_eq (var_cmp (slice_index_or m 0 d).0 v) ≡ true → drop 1 m ≡ without v m
others_behind v [] d h some e = absurd (omega (arith, some))
others_behind v (p ∷ m) d h some e = behind_first v p m h.in_order (sym (var_order.exact p.0 v (equal (var_cmp p.0 v) e)))
  where
    equal : (o : Ordering) → is_eq o ≡ true → o ≡ Equal
    equal Less e = absurd cc
    equal Equal e = refl
    equal Greater e = absurd cc

pub exponent_at_first : (v : Var) (m : Powers) (d : Var × ℕ) → IsMonomial m → 0 < length m → var_cmp v (slice_index_or m 0 d).0 ≡ Equal → (slice_index_or m 0 d).1 ≡ exponent v m
exponent_at_first v [] d h some e = absurd (omega (arith, some))
exponent_at_first v (p ∷ m) d h some e = first_exponent v p m h.in_order e

pub absent_before : (v : Var) (m : Powers) (d : Var × ℕ) → IsMonomial m → 0 < length m → var_cmp v (slice_index_or m 0 d).0 ≡ Less → 0 ≡ exponent v m
absent_before v [] d h some e = absurd (omega (arith, some))
absent_before v (p ∷ m) d h some e = no_exponent v p m h.in_order e

drop_suc : (g : ℕ) (m : Powers) → drop (suc g) m ≡ drop 1 (drop g m)
drop_suc zero [] = refl
drop_suc (suc g) [] = refl
drop_suc zero (p ∷ m) = refl
drop_suc (suc g) (p ∷ m) = drop_suc g m

pub drop_next : (g : ℕ) (m : Powers) → drop (g + 1) m ≡ drop 1 (drop g m)
drop_next g m = let next : g + 1 ≡ suc g = omega arith in ap (λ k. drop k m) next ∙ drop_suc g m

-- AS THE CODE TELLS IT
pub abs_zero : (z : ℤ) → unsigned_abs z ≡ 0 → z ≡ pos 0
abs_zero (pos n) h = ap pos h
abs_zero (negsuc n) h = absurd (omega (arith, h))

pub vanishes_alike : (v : Var) (t : Powers × ℤ) (e : ℕ) → IsMonomial t.0 → (unsigned_abs t.1 ≡ 0 → ⊥) → e ≡ exponent v t.0
    → IsTrue (not (eqb e 0)) ↔ (specialised v (pos 0) (of_term t) ≡ [])
vanishes_alike v t e m some is = go (eqb e 0) refl
  where
    go : (b : Bool) → eqb e 0 ≡ b → IsTrue (not b) ↔ (specialised v (pos 0) (of_term t) ≡ [])
    go true h = let none : e ≡ 0 = grind (arith, nat_tests) in (λ f. absurd (false≢true f), λ gone. absurd (zero_or_has v t m some (sym is ∙ none) gone))
    go false h = let has : e ≡ 0 → ⊥ = grind (arith, nat_tests) in (λ _. vanishes v t (λ none. has (is ∙ none)), λ _. refl)

pub zeroed : (v : Var) (t u : Powers × ℤ) → IsMonomial t.0 → ((exponent v t.0 ≡ 0 → ⊥) → u ≡ (t.0, pos 0)) → (exponent v t.0 ≡ 0 → u ≡ t)
    → of_term u ≡ specialised v (pos 0) (of_term t)
zeroed v t u m has lacks = go (eqb (exponent v t.0) 0) refl
  where
    go : (b : Bool) → eqb (exponent v t.0) 0 ≡ b → of_term u ≡ specialised v (pos 0) (of_term t)
    go true h = let none : exponent v t.0 ≡ 0 = grind (arith, nat_tests) in ap of_term (lacks none) ∙ stays v t m none
    go false h =
        let some : exponent v t.0 ≡ 0 → ⊥ = grind (arith, nat_tests) in
        ap of_term (has some) ∙ when_zero (t.0, pos 0) refl ∙ sym (vanishes v t some)
