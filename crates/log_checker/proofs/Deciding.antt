-- What can be decided: whether two polynomials are the same, whether a factor divides one, and the like.
use lib.IntN as IntN
use Rattle.std.proofs.Common.{◌≡◌, ◌≢◌, ℕ, ◌≤◌, ◌<◌, ◌⊎◌, inl, inr, ⊎_elim, Bool, true, false, Contains, ℤ, pos, negsuc, ◌+ℤ◌, ◌*ℤ◌, List, [], ◌∷◌, unsigned_abs, refl, sym, ◌∙◌, ap, ap₂, arith}
use Rattle.std.specs.Int.RustNames.{int_div, int_rem}
use Rattle.std.specs.declared.cmp.Ordering.{Ordering}
use Rattle.std.specs.declared.cmp.Ordering.TheVariants.{Less, Equal, Greater}
use Rattle.std.proofs.lemmas.Int.{ints, quot-rem}
use Rattle.std.proofs.lemmas.List.Elements.{All-cons, All-head, All-nil, All-tail}
use Rattle.sparse_lists.specs.SparseLists.{AllKeys}
use Rattle.geo_poly.specs.declared.variables.Var.{Var}
use Rattle.geo_poly.specs.declared.variables.Var.TheVariants.{R, S, P, X as Abscissa, Y as Ordinate, T as Number}
use Rattle.geo_poly.specs.Division.{quotient}
use Rattle.geo_poly.specs.Factors.{IsFactor}
use Rattle.geo_poly.specs.Monomials.{IsMonomial, Powers, product}
use Rattle.geo_poly.specs.PolynomialVariables.{IsPlain}
use Rattle.geo_poly.specs.Polynomials.{IsPolynomial, Summands, multiples, product_of}
use Rattle.geo_poly.specs.Specialise.{NoneZero}
use Rattle.geo_poly.specs.Variables.{var_cmp}
use Rattle.geo_poly.proofs.Cuts.{Contains-from_is_in, is_in, is_in_from_Contains}
use Rattle.geo_poly.proofs.ExactQuotient.{no_remainder}
use Rattle.geo_poly.proofs.FactorLaws.{multiples-product}
use Rattle.geo_poly.proofs.Orders.{var_order}
use Rattle.geo_poly.proofs.Quotients.{IsMonomial-quotient, quotient_is}
use Rattle.geo_poly.proofs.Reflected.{IsPolynomial-reflected}
use Rattle.geo_logs.specs.Chains.{IsEnd}
use Rattle.geo_logs.specs.Judging.{IsByKnown}
use Rattle.log_checker.proofs.GoingOn.{at_most}

-- it holds, or it does not
abbrev pub Decided : Type 0 → Type 0
Decided A = A ⊎ (A → ⊥)

-- both hold, or not both
pub both_decided : {A B : Type 0} → Decided A → Decided B → Decided (A × B)
both_decided (inl a) (inl b) = inl (a, b)
both_decided (inl a) (inr n) = inr (λ h. n h.1)
both_decided (inr n) b = inr (λ h. n h.0)

-- a statement that says the same is decided too
pub decided_by : {A B : Type 0} → (A → B) → (B → A) → Decided A → Decided B
decided_by f g (inl a) = inl (f a)
decided_by f g (inr n) = inr (λ b. n (g b))

-- EQUALITY
pub numbers_decided : (a b : ℕ) → Decided (a ≡ b)
numbers_decided a b =
    ⊎_elim
    (λ (h : a ≤ b). ⊎_elim (λ (g : b ≤ a). let same : Decided (a ≡ b) = inl (omega (arith, h, g)) in same)
    (λ (g : a < b). let other : Decided (a ≡ b) = inr (λ e. omega (arith, e, g)) in other) (at_most b a))
    (λ (h : b < a). let other : Decided (a ≡ b) = inr (λ e. omega (arith, e, h)) in other) (at_most a b)

pub variables_decided : (v w : Var) → Decided (v ≡ w)
variables_decided v w = go (var_cmp v w) refl
  where
    other : (o : Ordering) → var_cmp v w ≡ o → o ≢ Equal → Decided (v ≡ w)
    other o e n = inr (λ (same : v ≡ w). n (sym e ∙ ap (λ x. var_cmp x w) same ∙ var_order.self w))

    go : (o : Ordering) → var_cmp v w ≡ o → Decided (v ≡ w)
    go Equal e = inl (var_order.exact v w e)
    go Less e = other Less e (λ q. cc)
    go Greater e = other Greater e (λ q. cc)

integers_decided : (a b : ℤ) → Decided (a ≡ b)
integers_decided (pos m) (pos n) = decided_by (λ e. ap pos e) (λ (e : pos m ≡ pos n). omega (arith, ints, e)) (numbers_decided m n)
integers_decided (negsuc m) (negsuc n) = decided_by (λ e. ap negsuc e) (λ (e : negsuc m ≡ negsuc n). omega (arith, ints, e)) (numbers_decided m n)
integers_decided (pos m) (negsuc n) = inr (λ (e : pos m ≡ negsuc n). omega (arith, ints, e))
integers_decided (negsuc m) (pos n) = inr (λ (e : negsuc m ≡ pos n). omega (arith, ints, e))

head_same : {A : Type 0} (x y : A) (xs ys : List A) → x ∷ xs ≡ y ∷ ys → x ≡ y
head_same x y xs ys e = cc

pub tail_same : {A : Type 0} (x y : A) (xs ys : List A) → x ∷ xs ≡ y ∷ ys → xs ≡ ys
tail_same x y xs ys e = cc

module _ {A : Type 0} (same : (x y : A) → Decided (x ≡ y)) where
  pub lists_decided : (xs ys : List A) → Decided (xs ≡ ys)
  lists_decided [] [] = inl refl
  lists_decided [] (y ∷ ys) = inr (λ e. let q : ◌≡◌ {A = List A} [] (y ∷ ys) = e in cc)
  lists_decided (x ∷ xs) [] = inr (λ e. let q : ◌≡◌ {A = List A} (x ∷ xs) [] = e in cc)
  lists_decided (x ∷ xs) (y ∷ ys) =
      decided_by (λ (h : (x ≡ y) × (xs ≡ ys)). λ i. h.0 i ∷ h.1 i) (λ e. (head_same x y xs ys e, tail_same x y xs ys e)) (both_decided (same x y) (lists_decided xs ys))

module _ {A B : Type 0} (same : (x y : A) → Decided (x ≡ y)) (other : (x y : B) → Decided (x ≡ y)) where
  pub pairs_decided : (p q : A × B) → Decided (p ≡ q)
  pairs_decided p q =
      decided_by (λ (h : (p.0 ≡ q.0) × (p.1 ≡ q.1)). λ i. (h.0 i, h.1 i)) (λ e. ((λ i. (e i).0), (λ i. (e i).1))) (both_decided (same p.0 q.0) (other p.1 q.1))

pub monomials_decided : (m n : Powers) → Decided (m ≡ n)
monomials_decided m n = lists_decided (pairs_decided variables_decided numbers_decided) m n

pub polynomials_decided : (p q : Summands) → Decided (p ≡ q)
polynomials_decided p q = lists_decided (pairs_decided monomials_decided integers_decided) p q

pub texts_decided : (s t : List ℕ) → Decided (s ≡ t)
texts_decided s t = lists_decided numbers_decided s t

pub none_decided : {A : Type 0} (xs : List A) → Decided (xs ≡ [])
none_decided [] = inl refl
none_decided {A} (x ∷ xs) = inr (λ e. let q : ◌≡◌ {A = List A} (x ∷ xs) [] = e in cc)

-- KEYS
pub keys_decided : {K V : Type 0} (Holds : K → Type 0) → ((k : K) → Decided (Holds k)) → (ts : List (K × V)) → Decided (AllKeys Holds ts)
keys_decided Holds each [] = inl tt
keys_decided Holds each (t ∷ ts) = both_decided (each t.0) (keys_decided Holds each ts)

plain_decided : (v : Var) → Decided (IsPlain v)
plain_decided (R a b c d) = inr (λ h. h)
plain_decided (S a b c) = inr (λ h. h)
plain_decided (P a b c) = inr (λ h. h)
plain_decided (Abscissa a) = inl tt
plain_decided (Ordinate a) = inl tt
plain_decided (Number t) = inl tt

-- no quantity of points is left, or one is
pub end_decided : (q : Summands) → Decided (IsEnd q)
end_decided q = keys_decided (λ (m : Powers). AllKeys IsPlain m) (λ m. keys_decided IsPlain plain_decided m) q

contained_decided : (known : List Var) (v : Var) → Decided (Contains known v)
contained_decided known v = go (is_in known v) refl
  where
    go : (b : Bool) → is_in known v ≡ b → Decided (Contains known v)
    go true e = inl (Contains-from_is_in known v e)
    go false e = inr (λ h. let q : false ≡ true = sym e ∙ is_in_from_Contains known v h in cc)

pub known_decided : (known : List Var) (m : Powers) → Decided (IsByKnown known m)
known_decided known m = keys_decided (λ v. Contains known v) (contained_decided known) m

-- none of the polynomials is 0, or one is
pub nonzero_decided : (ps : List Summands) → Decided (NoneZero ps)
nonzero_decided [] = inl (All-nil (λ (q : Summands). q ≢ []))
nonzero_decided (p ∷ ps) = go (none_decided p) (nonzero_decided ps)
  where
    go : Decided (p ≡ []) → Decided (NoneZero ps) → Decided (NoneZero (p ∷ ps))
    go (inl e) rest = inr (λ h. All-head (λ (q : Summands). q ≢ []) p ps h e)
    go (inr n) (inl h) = inl (All-cons (λ (q : Summands). q ≢ []) p ps n h)
    go (inr n) (inr none) = inr (λ h. none (All-tail (λ (q : Summands). q ≢ []) p ps h))

-- DIVISION
-- a number is a multiple, or it is none
multiple_decided : (d c : ℤ) → (unsigned_abs d ≡ 0 → ⊥) → Decided ((z : ℤ) × (d *ℤ z ≡ c))
multiple_decided d c n = go (integers_decided (int_rem c d) (pos 0))
  where
    whole : (a b r x : ℤ) → b +ℤ r ≡ a → r ≡ pos 0 → x ≡ b → x ≡ a
    whole a b r x e none same = omega (arith, ints, e, none, same)

    go : Decided (int_rem c d ≡ pos 0) → Decided ((z : ℤ) × (d *ℤ z ≡ c))
    go (inl e) = inl (int_div c d, whole c (int_div c d *ℤ d) (int_rem c d) (d *ℤ int_div c d) (quot-rem c d) e (IntN.*ℤ_comm d (int_div c d)))
    go (inr some) = inr (λ h. some (no_remainder c d h.0 n h.1))

-- a list whose multiples are p
record Quotient (f : Powers × ℤ) (p : Summands) : Type 0 where
  terms : Summands
  whole : multiples f terms ≡ p
  monomials : AllKeys IsMonomial terms

quotient_decided : (f : Powers × ℤ) (p : Summands) → (unsigned_abs f.1 ≡ 0 → ⊥) → AllKeys IsMonomial p → Quotient f p ⊎ ((q : Summands) → multiples f q ≡ p → ⊥)
quotient_decided f [] n g = inl (record { terms = []; whole = refl; monomials = tt })
quotient_decided f (t ∷ ts) n g =
    go (multiple_decided f.1 t.1 n) (monomials_decided (product f.0 (quotient t.0 f.0)) t.0) (quotient_decided f ts n g.1)
  where
    -- a list whose multiples these are has a first term and a rest
    parts : (q : Summands) → multiples f q ≡ t ∷ ts → (u : Powers × ℤ) × (us : Summands) × (product f.0 u.0 ≡ t.0) × (f.1 *ℤ u.1 ≡ t.1) × (multiples f us ≡ ts)
    parts [] e = absurd (let q : ◌≡◌ {A = Summands} [] (t ∷ ts) = e in cc)
    parts (u ∷ us) e =
        let both : ◌≡◌ {A = Summands} ((product f.0 u.0, f.1 *ℤ u.1) ∷ multiples f us) (t ∷ ts) = e in
        let first : ◌≡◌ {A = Powers × ℤ} (product f.0 u.0, f.1 *ℤ u.1) t = head_same (product f.0 u.0, f.1 *ℤ u.1) t (multiples f us) ts both in
        (u, us, (λ i. (first i).0), (λ i. (first i).1), tail_same (product f.0 u.0, f.1 *ℤ u.1) t (multiples f us) ts both)

    go : Decided ((z : ℤ) × (f.1 *ℤ z ≡ t.1)) → Decided (product f.0 (quotient t.0 f.0) ≡ t.0) → Quotient f ts ⊎ ((q : Summands) → multiples f q ≡ ts → ⊥)
        → Quotient f (t ∷ ts) ⊎ ((q : Summands) → multiples f q ≡ t ∷ ts → ⊥)
    go (inl z) (inl m) (inl rest) =
        inl (record {
          terms = (quotient t.0 f.0, z.0) ∷ rest.terms;
          whole = ap₂ (λ (u : Powers × ℤ) (us : Summands). u ∷ us) (λ i. (m i, z.1 i)) rest.whole;
          monomials = (IsMonomial-quotient t.0 f.0 g.0, rest.monomials);
        })
    go (inr none) m rest = inr (λ q e. let h = parts q e in none (h.0.1, h.3))
    go (inl z) (inr none) rest = inr (λ q e. let h = parts q e in none (quotient_is t.0 f.0 h.0.0 g.0 h.2))
    go (inl z) (inl m) (inr none) = inr (λ q e. let h = parts q e in none h.1 h.4)

-- the factor divides the polynomial, or it does not
pub division_decided : (f : Powers × ℤ) (q : Summands) → IsFactor f → IsPolynomial q
    → ((s : Summands) × IsPolynomial s × (product_of (f ∷ []) s ≡ q)) ⊎ ((s : Summands) → IsPolynomial s → product_of (f ∷ []) s ≢ q)
division_decided f q h g = go (quotient_decided f q h.nonzero g.monomials)
  where
    go : Quotient f q ⊎ ((s : Summands) → multiples f s ≡ q → ⊥)
        → ((s : Summands) × IsPolynomial s × (product_of (f ∷ []) s ≡ q)) ⊎ ((s : Summands) → IsPolynomial s → product_of (f ∷ []) s ≢ q)
    go (inl r) =
        let valid = IsPolynomial-reflected f r.terms q h.nonzero r.monomials r.whole g in
        inl (r.terms, valid, sym (multiples-product f r.terms h.nonzero valid.monomials valid.in_order) ∙ r.whole)
    go (inr none) = inr (λ s valid e. none s (multiples-product f s h.nonzero valid.monomials valid.in_order ∙ e))
