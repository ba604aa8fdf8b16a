-- With 0 for a variable, what is left of a polynomial is its terms that lack the variable.
use Rattle.std.proofs.Common.{◌≡◌, ℕ, zero, suc, ◌+◌, ◌*◌ as ◌*ₙ◌, ◌^◌, ◌<◌, eqb, Bool, true, false, cond, ℤ, pos, ◌+ℤ◌, ◌*ℤ◌, [], ◌∷◌}
use Rattle.std.proofs.Common.{◌++◌, filter, take, length, get_or, refl, ap, ap₂, ◌∙◌, unsigned_abs, arith}
use Rattle.std.specs.Int.{int_pow}
use Rattle.std.specs.Ordering.{is_eq}
use Rattle.std.proofs.lemmas.Bool.Decides.{nat_tests}
use Rattle.std.proofs.lemmas.Int.{unsigned_abs-mul}
use Rattle.std.proofs.Math.Nat.{pow-suc}
use Rattle.std.proofs.lemmas.List.Elements.{filter-append}
use Rattle.sparse_lists.specs.SparseLists.{AllKeys, IsBefore, IsCanonical, insert}
use Rattle.sparse_lists.proofs.Canonical.{IsCanonical-insert, amount-insert, insert_before, same_list}
use Rattle.geo_poly.specs.declared.variables.Var.{Var}
use Rattle.geo_poly.specs.Monomials.{Powers, IsMonomial, exponent}
use Rattle.sparse_lists.specs.Coefficients.{coefficients}
use Rattle.geo_poly.specs.Polynomials.{Summands, coefficient, term_cmp}
use Rattle.geo_poly.specs.Inner.Parts.{lacks}
use Rattle.geo_poly.specs.Specialise.{specialised, without}
use Rattle.geo_poly.proofs.Orders.{term_order}
use Rattle.sparse_lists.proofs.Coefficients.{coefficients_add}
use Rattle.geo_poly.proofs.SpecialisedLaws.{times_power_zero, without-lacking}
use Rattle.geo_poly.proofs.Told.{take_more}
use Rattle.geo_poly.proofs.WholePowers.{unsigned_abs-int_pow}

IsBefore-filter : (f : Powers × ℤ → Bool) (m : Powers) (p : Summands) → IsBefore term_cmp m p → IsBefore term_cmp m (filter f p)
IsBefore-filter f m [] h = tt
IsBefore-filter f m (t ∷ ts) h = by (f t) (IsBefore-filter f m ts h.1)
  where
    by : (b : Bool) → IsBefore term_cmp m (filter f ts) → IsBefore term_cmp m (cond b (t ∷ filter f ts) (filter f ts))
    by true rest = (h.0, rest)
    by false rest = rest

-- a power of 0 that is not the first is 0
zero_power : (e : ℕ) → (e ≡ 0 → ⊥) → 0 ^ e ≡ 0
zero_power zero n = absurd (n refl)
zero_power (suc e) n = pow-suc 0 e ∙ omega arith

no_term : (c : ℤ) (e : ℕ) → eqb e 0 ≡ false → eqb (unsigned_abs (c *ℤ int_pow (pos 0) e)) 0 ≡ true
no_term c e h =
    let some : e ≡ 0 → ⊥ = grind (arith, nat_tests) in
    let none : unsigned_abs (c *ℤ int_pow (pos 0) e) ≡ 0 =
    unsigned_abs-mul c (int_pow (pos 0) e) ∙ ap (λ k. unsigned_abs c *ₙ k) (unsigned_abs-int_pow (pos 0) e ∙ zero_power e some) ∙ omega arith in
    grind (arith, nat_tests)

pub IsCanonical-filter : (f : Powers × ℤ → Bool) (p : Summands) → IsCanonical term_cmp coefficients p → IsCanonical term_cmp coefficients (filter f p)
IsCanonical-filter f [] h = tt
IsCanonical-filter f (t ∷ ts) h = by (f t) (IsCanonical-filter f ts h.2)
  where
    by : (b : Bool) → IsCanonical term_cmp coefficients (filter f ts) → IsCanonical term_cmp coefficients (cond b (t ∷ filter f ts) (filter f ts))
    by true rest = (h.0, IsBefore-filter f t.0 ts h.1, rest)
    by false rest = rest

-- where nothing is inserted, a list stays
insert_nothing : (m : Powers) (a : ℤ) (p : Summands) → eqb (unsigned_abs a) 0 ≡ true → IsCanonical term_cmp coefficients p → insert term_cmp coefficients m a p ≡ p
insert_nothing m a p e h =
    same_list term_cmp coefficients term_order coefficients_add (insert term_cmp coefficients m a p) p
    (IsCanonical-insert term_cmp coefficients term_order coefficients_add m a p h) h
    (λ k. amount-insert term_cmp coefficients term_order coefficients_add k m a p
    ∙ ap (λ (z : ℤ). z +ℤ coefficient k p) (none (is_eq (term_cmp k m))) ∙ coefficients_add.zero-add (coefficient k p))
  where
    none : (b : Bool) → cond b a (pos 0) ≡ pos 0
    none true = coefficients_add.zero_is a e
    none false = refl

pub specialised-zero : (v : Var) (p : Summands) → IsCanonical term_cmp coefficients p → AllKeys IsMonomial p → specialised v (pos 0) p ≡ filter (lacks v) p
specialised-zero v [] c h = refl
specialised-zero v (t ∷ ts) c h =
    ap (insert term_cmp coefficients (without v t.0) (t.1 *ℤ int_pow (pos 0) (exponent v t.0))) (specialised-zero v ts c.2 h.1) ∙ by (lacks v t) refl
  where
    by : (b : Bool) → lacks v t ≡ b
        → insert term_cmp coefficients (without v t.0) (t.1 *ℤ int_pow (pos 0) (exponent v t.0)) (filter (lacks v) ts) ≡ cond b (t ∷ filter (lacks v) ts) (filter (lacks v) ts)
    by true e =
        let none : exponent v t.0 ≡ 0 = grind (arith, nat_tests) in
        ap₂ (λ (m : Powers) (k : ℕ). insert term_cmp coefficients m (t.1 *ℤ int_pow (pos 0) k) (filter (lacks v) ts)) (without-lacking v t.0 h.0.in_order none) none
        ∙ ap (λ (z : ℤ). insert term_cmp coefficients t.0 z (filter (lacks v) ts)) (times_power_zero t.1 (pos 0))
        ∙ insert_before term_cmp coefficients term_order coefficients_add t.0 t.1 (filter (lacks v) ts) (IsBefore-filter (lacks v) t.0 ts c.1)
        ∙ ap (λ (b : Bool). cond b (filter (lacks v) ts) (t ∷ filter (lacks v) ts)) c.0
    by false e =
        insert_nothing (without v t.0) (t.1 *ℤ int_pow (pos 0) (exponent v t.0)) (filter (lacks v) ts) (no_term t.1 (exponent v t.0) e) (IsCanonical-filter (lacks v) ts c.2)

-- one more term
pub lacking-more : (v : Var) (p : Summands) (i : ℕ) (t : Powers × ℤ) → i < length p → t ≡ get_or p i t
    → filter (lacks v) (take (i + 1) p) ≡ filter (lacks v) (take i p) ++ cond (lacks v t) (t ∷ []) []
lacking-more v p i t within e = ap (filter (lacks v)) (take_more p i t within e) ∙ filter-append (lacks v) (take i p) (t ∷ [])

pub filter-more : (f : Powers × ℤ → Bool) (p : Summands) (i : ℕ) (t : Powers × ℤ) → i < length p → t ≡ get_or p i t → filter f (take (i + 1) p) ≡ filter f (take i p) ++ cond (f t) (t ∷ []) []
filter-more f p i t within e = ap (filter f) (take_more p i t within e) ∙ filter-append f (take i p) (t ∷ [])
