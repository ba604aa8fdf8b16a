-- Sums of coefficients at the places of their words: those that are not 0 are the canonical list of all that was added.
use Rattle.std.proofs.Common.{◌≡◌, ℕ, zero, suc, ◌<◌, ◌≤◌, Bool, true, false, cond, ℤ, pos, ◌+ℤ◌, List, [], ◌∷◌, ◌++◌, get_or}
use Rattle.std.proofs.Common.{inl, inr, length, refl, sym, ap, ap₂, ◌∙◌, unsigned_abs, arith}
use Rattle.std.specs.Ordering.{flip_args, is_eq, nat_cmp}
use Rattle.std.specs.declared.cmp.Ordering.{Ordering}
use Rattle.std.specs.declared.cmp.Ordering.TheVariants.{Less, Equal, Greater}
use Rattle.std.proofs.lemmas.Bool.{cases_lt}
use Rattle.std.proofs.lemmas.List.Sums.{sum_by-cons}
use Rattle.sparse_lists.specs.SparseLists.{AllKeys, IsBefore, IsCanonical, IsKeyOrder, canonical}
use Rattle.sparse_lists.proofs.Canonical.{IsBefore-put, IsCanonical-canonical, IsCanonical-put, amount-append, amount-before, amount-canonical, amount-head, amount-put, same_list}
use Rattle.sparse_lists.proofs.NaturalAmounts.{natural_order}
use Rattle.mono_store.proofs.Numbers.{below}
use Rattle.sparse_lists.specs.Coefficients.{coefficients, Pairs}
use Rattle.geo_poly.specs.Inner.WordSums.{AreSums, nonzero_below, size_of, sum_at}
use Rattle.sparse_lists.proofs.Coefficients.{coefficients_add}
use Rattle.geo_poly.proofs.PolynomialLaws.{unsigned_abs-add-le}

abbrev falling : ℕ → ℕ → Ordering
falling = flip_args nat_cmp

falling_order : IsKeyOrder falling
falling_order = record {
  self = λ x. natural_order.self x;
  exact = λ x y e. sym (natural_order.exact y x e);
  flip = λ x y e. natural_order.flip y x e;
  flip_back = λ x y e. natural_order.flip_back y x e;
  trans = λ x y z e f. natural_order.trans z y x f e;
}

-- SUMS

pub sum_at-append : (w : ℕ) (ps qs : Pairs) → sum_at w (ps ++ qs) ≡ sum_at w ps +ℤ sum_at w qs
sum_at-append w ps qs = amount-append falling coefficients falling_order coefficients_add w ps qs

pub sum_at-here : (w : ℕ) (z : ℤ) → sum_at w ((w, z) ∷ []) ≡ z
sum_at-here w z = amount-head falling coefficients falling_order coefficients_add (w, z) [] tt

pub sum_at-other : (w k : ℕ) (z : ℤ) → (w ≡ k → ⊥) → sum_at w ((k, z) ∷ []) ≡ pos 0
sum_at-other w k z differ = go (nat_cmp k w) refl
  where
    go : (o : Ordering) → nat_cmp k w ≡ o → cond (is_eq o) z (pos 0) +ℤ pos 0 ≡ pos 0
    go Less e = refl
    go Equal e = absurd (differ (sym (natural_order.exact k w e)))
    go Greater e = refl

cond-le : (b : Bool) (z : ℤ) → unsigned_abs (cond b z (pos 0)) ≤ unsigned_abs z
cond-le true z = omega arith
cond-le false z = omega arith

pub sum_at-le : (w : ℕ) (ps : Pairs) → unsigned_abs (sum_at w ps) ≤ size_of ps
sum_at-le w [] = omega arith
sum_at-le w (p ∷ ps) =
    let here : ℤ = cond (is_eq (nat_cmp p.0 w)) p.1 (pos 0) in
    omega (
      arith,
      unsigned_abs-add-le here (sum_at w ps),
      cond-le (is_eq (nat_cmp p.0 w)) p.1,
      sum_at-le w ps,
      sum_by-cons (λ (t : ℕ × ℤ). unsigned_abs t.1) p ps,
    )

-- no word from n on
sum_at-past : (n w : ℕ) (ps : Pairs) → AllKeys (λ k. k < n) ps → n ≤ w → sum_at w ps ≡ pos 0
sum_at-past n w [] h le = refl
sum_at-past n w (p ∷ ps) h le =
    ap₂ (λ (o : Ordering) (rest : ℤ). cond (is_eq o) p.1 (pos 0) +ℤ rest) (below p.0 w (omega (arith, h.0, le))) (sum_at-past n w ps h.1 le)

-- THE SUMS THAT ARE NOT 0

module _ (sums : List ℤ) where
  nonzero-before : (n m : ℕ) → n ≤ m → IsBefore falling m (nonzero_below sums n)
  nonzero-before zero m le = tt
  nonzero-before (suc n) m le =
      IsBefore-put falling coefficients falling_order coefficients_add m n (get_or sums n (pos 0)) (nonzero_below sums n) (below n m (omega arith))
      (nonzero-before n m (omega arith))

  nonzero-canonical : (n : ℕ) → IsCanonical falling coefficients (nonzero_below sums n)
  nonzero-canonical zero = tt
  nonzero-canonical (suc n) =
      IsCanonical-put falling coefficients falling_order coefficients_add n (get_or sums n (pos 0)) (nonzero_below sums n) (nonzero-before n n (omega arith))
      (nonzero-canonical n)

  nonzero-past : (n w : ℕ) → n ≤ w → sum_at w (nonzero_below sums n) ≡ pos 0
  nonzero-past n w le = amount-before falling coefficients falling_order coefficients_add w (nonzero_below sums n) (nonzero-before n w le)

  nonzero-at : (n w : ℕ) → w < n → sum_at w (nonzero_below sums n) ≡ get_or sums w (pos 0)
  nonzero-at zero w lt = absurd (omega arith)
  nonzero-at (suc n) w lt =
      amount-put falling coefficients falling_order coefficients_add w n (get_or sums n (pos 0)) (nonzero_below sums n)
      ∙ go (λ inside. nonzero-at n w inside) (nat_cmp n w) refl
    where
      rest : (w < n → sum_at w (nonzero_below sums n) ≡ get_or sums w (pos 0)) → (n ≡ w → ⊥) → pos 0 +ℤ sum_at w (nonzero_below sums n) ≡ get_or sums w (pos 0)
      rest earlier other =
          coefficients_add.zero-add (sum_at w (nonzero_below sums n))
          ∙ earlier (elim (cases_lt w n) [ inl is ↦ is | inr le ↦ absurd (other (omega (arith, le, lt))) ])

      go : (w < n → sum_at w (nonzero_below sums n) ≡ get_or sums w (pos 0)) → (o : Ordering) → nat_cmp n w ≡ o
          → cond (is_eq o) (get_or sums n (pos 0)) (pos 0) +ℤ sum_at w (nonzero_below sums n) ≡ get_or sums w (pos 0)
      go earlier Less e = rest earlier (λ same. (let self : Equal ≡ Less = sym (natural_order.self n) ∙ ap (nat_cmp n) same ∙ e in absurd (cc)))
      go earlier Equal e =
          let same : n ≡ w = natural_order.exact n w e in
          ap₂ ◌+ℤ◌ (ap (λ (k : ℕ). get_or sums k (pos 0)) same) (nonzero-past n w (omega (arith, same)))
          ∙ coefficients_add.comm (get_or sums w (pos 0)) (pos 0) ∙ coefficients_add.zero-add (get_or sums w (pos 0))
      go earlier Greater e = rest earlier (λ same. (let self : Equal ≡ Greater = sym (natural_order.self n) ∙ ap (nat_cmp n) same ∙ e in absurd (cc)))

  pub nonzero_sums : (ps : Pairs) → AreSums ps sums → AllKeys (λ k. k < length sums) ps → nonzero_below sums (length sums) ≡ canonical falling coefficients ps
  nonzero_sums ps are keys =
      same_list falling coefficients falling_order coefficients_add (nonzero_below sums (length sums)) (canonical falling coefficients ps)
      (nonzero-canonical (length sums)) (IsCanonical-canonical falling coefficients falling_order coefficients_add ps)
      (λ w. each w ∙ sym (amount-canonical falling coefficients falling_order coefficients_add w ps))
    where
      each : (w : ℕ) → sum_at w (nonzero_below sums (length sums)) ≡ sum_at w ps
      each w =
          elim (cases_lt w (length sums)) [
            | inl within ↦ nonzero-at (length sums) w within ∙ are.each w within
            | inr past ↦ nonzero-past (length sums) w past ∙ sym (sum_at-past (length sums) w ps keys past)
          ]
