-- A listed item stands where it is given first, behind the items whose list is what stands before it.
use Rattle.std.proofs.Common.{◌≡◌, ◌⊎◌, inl, inr, ⊎_elim, suc, ◌<◌, Contains, List, [], ◌∷◌, ◌++◌, length, map, refl, sym, ap, subst, arith}
use Rattle.std.specs.List.{AllByRecursion}
use Rattle.std.proofs.Math.Nat.{eq-or-lt_of_le}
use Rattle.std.proofs.lemmas.List.{length-append}
use Rattle.geo_lowering.proofs.ConditionValues.{each_back}
use Rattle.geo_conditions.specs.Lists.{IsListed}
use Rattle.log_checker.proofs.Prefixes.{grown}

-- JOINED LISTS
module _ {A : Type 0} where
  -- an item of two joined lists is one of the first, or one of the second
  pub parted_by : (xs more ys zs : List A) (f : A) → xs ++ more ≡ ys ++ f ∷ zs
      → ((us : List A) × (xs ≡ ys ++ f ∷ us)) ⊎ ((vs : List A) × (ys ≡ xs ++ vs) × (more ≡ vs ++ f ∷ zs))
  parted_by [] more ys zs f e = inr (ys, refl, e)
  parted_by (x ∷ xs) more [] zs f e =
      let q : ◌≡◌ {A = List A} (x ∷ (xs ++ more)) (f ∷ zs) = e in
      let same : x ≡ f = cc in inl (xs, ap (λ z. z ∷ xs) same)
  parted_by (x ∷ xs) more (y ∷ ys) zs f e =
      let q : ◌≡◌ {A = List A} (x ∷ (xs ++ more)) (y ∷ (ys ++ f ∷ zs)) = e in
      let same : x ≡ y = cc in
      let rest : xs ++ more ≡ ys ++ f ∷ zs = cc in
      ⊎_elim (λ (h : (us : List A) × (xs ≡ ys ++ f ∷ us)). inl (h.0, λ i. same i ∷ h.1 i))
      (λ (h : (vs : List A) × (ys ≡ xs ++ vs) × (more ≡ vs ++ f ∷ zs)). inr (h.0, (λ i. sym same i ∷ h.1 i), h.2)) (parted_by xs more ys zs f rest)

  -- what holds of all holds of one of them
  pub among : (P : A → Type 0) (xs ys zs : List A) (f : A) → xs ≡ ys ++ f ∷ zs → AllByRecursion P xs → P f
  among P xs ys zs f e h = (each_back P ys (f ∷ zs) (subst (AllByRecursion P) e h)).0

  pub single : (x f : A) (ys zs : List A) → x ∷ [] ≡ ys ++ f ∷ zs → x ≡ f
  single x f [] zs e = let q : ◌≡◌ {A = List A} (x ∷ []) (f ∷ zs) = e in cc
  single x f (y ∷ ys) zs e =
      let n : 1 ≡ suc (length (ys ++ f ∷ zs)) = ap length e in let m = length-append ys (f ∷ zs) in
      let k : length (f ∷ zs) ≡ suc (length zs) = refl in absurd (omega (arith, n, m, k))

  pub none_there : {P : Type 0} (f : A) (ys zs : List A) → [] ≡ ys ++ f ∷ zs → P
  none_there f ys zs e =
      let n : 0 ≡ length (ys ++ f ∷ zs) = ap length e in let m = length-append ys (f ∷ zs) in
      let k : length (f ∷ zs) ≡ suc (length zs) = refl in absurd (omega (arith, n, m, k))

-- ONCE EACH
module _ {A B : Type 0} (key : A → B) where
  -- a listed item stands where it is given first: those listed before it are the list of the items before that place
  pub record IsOrigin (listed xs before : List A) (f : A) : Type 0 where
    pub front : List A
    pub rest : List A
    pub whole : xs ≡ front ++ f ∷ rest
    pub listing : IsListed key listed front before

  none_past : (listed before after : List A) (f : A) → before ++ f ∷ after ≡ listed → length before < length listed
  none_past listed before after f e =
      let n : length (before ++ f ∷ after) ≡ length listed = ap length e in let m = length-append before (f ∷ after) in
      let k : length (f ∷ after) ≡ suc (length after) = refl in omega (arith, n, m, k)

  same_place : (listed more before after : List A) (x f : A) → before ++ f ∷ after ≡ (listed ++ x ∷ []) ++ more → length listed ≡ length before → (before ≡ listed) × (x ≡ f)
  same_place [] more [] after x f e n = (refl, let q : ◌≡◌ {A = List A} (f ∷ after) (x ∷ more) = e in let same : x ≡ f = cc in same)
  same_place [] more (b ∷ before) after x f e n = absurd (let k : 0 ≡ suc (length before) = n in omega (arith, k))
  same_place (y ∷ listed) more [] after x f e n = absurd (let k : suc (length listed) ≡ 0 = n in omega (arith, k))
  same_place (y ∷ listed) more (b ∷ before) after x f e n =
      let q : ◌≡◌ {A = List A} (b ∷ (before ++ f ∷ after)) (y ∷ ((listed ++ x ∷ []) ++ more)) = e in
      let same : b ≡ y = cc in
      let tail : before ++ f ∷ after ≡ (listed ++ x ∷ []) ++ more = cc in
      let k : suc (length listed) ≡ suc (length before) = n in
      let h = same_place listed more before after x f tail (omega (arith, k)) in
      ((λ i. same i ∷ h.0 i), h.1)

  pub origin : (xs listed before after : List A) (f : A) → IsListed key listed xs (before ++ f ∷ after) → length listed < suc (length before) → IsOrigin listed xs before f
  origin [] listed before after f e lt = let n = none_past listed before after f e in absurd (omega (arith, lt, n))
  origin (x ∷ xs) listed before after f e lt =
      ⊎_elim
      (λ (c : Contains (map key listed) (key x) × IsListed key listed xs (before ++ f ∷ after)).
      let h = origin xs listed before after f c.1 lt in
      let here : IsListed key listed (x ∷ h.front) before = inl (c.0, h.listing) in
      let made : IsOrigin listed (x ∷ xs) before f = record { front = x ∷ h.front; rest = h.rest; whole = ap (λ zs. x ∷ zs) h.whole; listing = here } in made)
      (λ (c : (Contains (map key listed) (key x) → ⊥) × IsListed key (listed ++ x ∷ []) xs (before ++ f ∷ after)).
      ⊎_elim
      (λ (n : length listed ≡ length before).
      let g = grown key xs (listed ++ x ∷ []) (before ++ f ∷ after) c.1 in
      let s = same_place listed g.0 before after x f g.1 n in
      let made : IsOrigin listed (x ∷ xs) before f = record { front = []; rest = xs; whole = ap (λ z. z ∷ xs) s.1; listing = s.0 } in made)
      (λ (n : length listed < length before).
      let m = length-append listed (x ∷ []) in
      let one : length (x ∷ []) ≡ 1 = refl in
      let h = origin xs (listed ++ x ∷ []) before after f c.1 (omega (arith, n, m, one)) in
      let here : IsListed key listed (x ∷ h.front) before = inr (c.0, h.listing) in
      let made : IsOrigin listed (x ∷ xs) before f = record { front = x ∷ h.front; rest = h.rest; whole = ap (λ zs. x ∷ zs) h.whole; listing = here } in made)
      (eq-or-lt_of_le (omega (arith, lt)))) e
