-- Lists without repeats, part by part.
use Rattle.std.proofs.Common.{◌≡◌, ℕ, zero, suc, ◌+◌, ◌<◌, ◌≤◌, inl, inr, Contains, List, [], ◌∷◌, ◌++◌, length, get_or, map, refl, sym, ◌∙◌, ap, subst, append_assoc, append-nil, arith}
use Rattle.std.specs.Prelude.{Option, Some, None, slice_get, slice_index_or, take, drop}
use Rattle.std.specs.List.{AllByRecursion}
use Rattle.std.specs.Prelude.{◌-◌, All}
use Rattle.std.proofs.lemmas.List.{append_cancel_left, length-append, length-drop, take_all}
use Rattle.std.proofs.lemmas.List.Elements.{All-from_recursion, recursion_from_All}
pub use Rattle.geo_lowering.proofs.ConditionValues.{each_append, each_back, each_front}
use Rattle.geo_conditions.specs.Lists.{IsListed}
use Rattle.geo_conditions.proofs.Listings.{held}

pub head_of : {A : Type 0} {x y : A} {xs ys : List A} → x ∷ xs ≡ y ∷ ys → x ≡ y
head_of {A} {x} {y} {xs} {ys} e = ap (λ (zs : List A). elim zs [ [] ↦ x | z ∷ zs' ↦ z ]) e

pub tail_of : {A : Type 0} {x y : A} {xs ys : List A} → x ∷ xs ≡ y ∷ ys → xs ≡ ys
tail_of {A} {x} {y} {xs} {ys} e = ap (λ (zs : List A). elim zs [ [] ↦ xs | z ∷ zs' ↦ zs' ]) e

pub none_before : {A : Type 0} (b : List A) (x : A) (a : List A) → b ++ x ∷ a ≡ [] → ⊥
none_before {A} b x a e =
    let h : length (b ++ x ∷ a) ≡ length b + suc (length a) = length-append b (x ∷ a) in
    let k : length (b ++ x ∷ a) ≡ 0 = ap (λ (zs : List A). length zs) e in omega arith

module _ {A B : Type 0} (key : A → B) where
  -- what is listed begins with what was listed before
  pub listed_front : (xs old result : List A) → IsListed key old xs result → (more : List A) × (result ≡ old ++ more)
  listed_front [] old result e = ([], e ∙ sym (append-nil old))
  listed_front (x ∷ xs) old result (inl h) = listed_front xs old result h.1
  listed_front (x ∷ xs) old result (inr h) = let r = listed_front xs (old ++ x ∷ []) result h.1 in (x ∷ r.0, r.1 ∙ append_assoc old (x ∷ []) r.0)

  pub listed_split : (xs ys old result : List A) → IsListed key old (xs ++ ys) result
      → (more : List A) × IsListed key old xs (old ++ more) × IsListed key (old ++ more) ys result
  listed_split [] ys old result h = ([], append-nil old, subst (λ zs. IsListed key zs ys result) (sym (append-nil old)) h)
  listed_split (x ∷ xs) ys old result (inl h) = let r = listed_split xs ys old result h.1 in (r.0, inl (h.0, r.1), r.2)
  listed_split (x ∷ xs) ys old result (inr h) =
      let r = listed_split xs ys (old ++ x ∷ []) result h.1 in
      let e : (old ++ x ∷ []) ++ r.0 ≡ old ++ (x ∷ r.0) = append_assoc old (x ∷ []) r.0 in
      (x ∷ r.0, inr (h.0, subst (λ zs. IsListed key (old ++ x ∷ []) xs zs) e r.1), subst (λ zs. IsListed key zs ys result) e r.2)

  pub listed_join : (xs ys old middle result : List A) → IsListed key old xs middle → IsListed key middle ys result → IsListed key old (xs ++ ys) result
  listed_join [] ys old middle result e k = subst (λ zs. IsListed key zs ys result) e k
  listed_join (x ∷ xs) ys old middle result (inl h) k = inl (h.0, listed_join xs ys old middle result h.1 k)
  listed_join (x ∷ xs) ys old middle result (inr h) k = inr (h.0, listed_join xs ys (old ++ x ∷ []) middle result h.1 k)

  -- the next that is listed, where the first item is new
  next_listed : (x : A) (xs old more : List A) → IsListed key (old ++ x ∷ []) xs (old ++ more)
      → (rest : List A) × (more ≡ x ∷ rest) × IsListed key (old ++ x ∷ []) xs ((old ++ x ∷ []) ++ rest)
  next_listed x xs old more h =
      let r = listed_front xs (old ++ x ∷ []) (old ++ more) h in
      (r.0, append_cancel_left old more (x ∷ r.0) (r.1 ∙ append_assoc old (x ∷ []) r.0), subst (λ zs. IsListed key (old ++ x ∷ []) xs zs) r.1 h)

  nothing_more : (old more : List A) → old ++ more ≡ old → more ≡ []
  nothing_more old more e = append_cancel_left old more [] (e ∙ sym (append-nil old))

  -- what holds of all holds of those that are newly listed
  pub fresh_hold : (P : A → Type 0) (xs old more : List A) → IsListed key old xs (old ++ more) → AllByRecursion P xs → AllByRecursion P more
  fresh_hold P [] old more e h = subst (λ zs. AllByRecursion P zs) (sym (nothing_more old more e)) tt
  fresh_hold P (x ∷ xs) old more (inl k) h = fresh_hold P xs old more k.1 h.1
  fresh_hold P (x ∷ xs) old more (inr k) h =
      let r = next_listed x xs old more k.1 in
      subst (λ zs. AllByRecursion P zs) (sym r.1) (h.0, fresh_hold P xs (old ++ x ∷ []) r.0 r.2 h.1)

  -- the first that is newly listed and does not hold is the first of all that does not
  pub record FirstOf (P : A → Type 0) (xs : List A) (f : A) : Type 0 where
    pub before : List A
    pub after : List A
    pub parts : xs ≡ before ++ f ∷ after
    pub good : AllByRecursion P before

  pub first_fresh : (P : B → Type 0) (xs old b : List A) (f : A) (a : List A) → IsListed key old xs (old ++ (b ++ f ∷ a))
      → AllByRecursion (λ x. P (key x)) old → AllByRecursion (λ x. P (key x)) b → FirstOf (λ x. P (key x)) xs f
  first_fresh P [] old b f a e h k = absurd (none_before b f a (nothing_more old (b ++ f ∷ a) e))
  first_fresh P (x ∷ xs) old b f a (inl c) h k =
      let r = first_fresh P xs old b f a c.1 h k in
      record { before = x ∷ r.before; after = r.after; parts = ap (λ (zs : List A). x ∷ zs) r.parts; good = (held key P old (key x) h c.0, r.good) }
  first_fresh P (x ∷ xs) old [] f a (inr c) h k =
      let r = next_listed x xs old (f ∷ a) c.1 in
      record { before = []; after = xs; parts = ap (λ (z : A). z ∷ xs) (sym (head_of r.1)); good = tt }
  first_fresh P (x ∷ xs) old (y ∷ b) f a (inr c) h k =
      let r = next_listed x xs old (y ∷ (b ++ f ∷ a)) c.1 in
      let same : y ≡ x = head_of r.1 in
      let rest : b ++ f ∷ a ≡ r.0 = tail_of r.1 in
      let px = subst (λ z. P (key z)) same k.0 in
      let s = first_fresh P xs (old ++ x ∷ []) b f a (subst (λ zs. IsListed key (old ++ x ∷ []) xs ((old ++ x ∷ []) ++ zs)) (sym rest) r.2)
      (each_append (λ z. P (key z)) old (x ∷ []) h (px, tt)) k.1 in
      record { before = x ∷ s.before; after = s.after; parts = ap (λ (zs : List A). x ∷ zs) s.parts; good = (px, s.good) }

  -- one item that is not listed yet
  pub one_fresh : (x : A) (old more : List A) → (Contains (map key old) (key x) → ⊥) → IsListed key old (x ∷ []) (old ++ more) → more ≡ x ∷ []
  one_fresh x old more n (inl h) = absurd (n h.0)
  one_fresh x old more n (inr h) = append_cancel_left old more (x ∷ []) h.1

  pub none_fresh : (old more : List A) → IsListed key old [] (old ++ more) → more ≡ []
  none_fresh old more e = nothing_more old more e

-- MAPS
-- where images are the same, the items stand at the same places
pub record Beside {A B C : Type 0} (g : A → C) (h : B → C) (b : List A) (i : A) (fs : List B) : Type 0 where
  pub before : List B
  pub item : B
  pub after : List B
  pub parts : fs ≡ before ++ item ∷ after
  pub same_before : map g b ≡ map h before
  pub same : g i ≡ h item

pub beside : {A B C : Type 0} (g : A → C) (h : B → C) (b : List A) (i : A) (a : List A) (fs : List B) → map g (b ++ i ∷ a) ≡ map h fs → Beside g h b i fs
beside g h [] i a [] e = absurd (none_before [] (g i) (map g a) e)
beside g h [] i a (f ∷ fs) e = record { before = []; item = f; after = fs; parts = refl; same_before = refl; same = head_of e }
beside g h (x ∷ b) i a [] e = absurd (none_before [] (g x) (map g (b ++ i ∷ a)) e)
beside {A} {B} {C} g h (x ∷ b) i a (f ∷ fs) e =
    let r = beside g h b i a fs (tail_of e) in
    record {
      before = f ∷ r.before;
      item = r.item;
      after = r.after;
      parts = ap (λ (zs : List B). f ∷ zs) r.parts;
      same_before = (λ j. head_of e j ∷ r.same_before j);
      same = r.same;
    }

pub same_length : {A B C : Type 0} (g : A → C) (h : B → C) (xs : List A) (ys : List B) → map g xs ≡ map h ys → length xs ≡ length ys
same_length g h [] [] e = refl
same_length g h [] (y ∷ ys) e = absurd (none_before [] (h y) (map h ys) (sym e))
same_length g h (x ∷ xs) [] e = absurd (none_before [] (g x) (map g xs) e)
same_length g h (x ∷ xs) (y ∷ ys) e = ap suc (same_length g h xs ys (tail_of e))

-- PLACES
pub got : {A : Type 0} (xs : List A) (k : ℕ) (x y : A) → x ≡ get_or xs k x → slice_get xs k ≡ Some y → x ≡ y
got [] k x y e q = cc
got (z ∷ zs) zero x y e q = e ∙ ap (λ (o : Option _). elim o [ None ↦ z | Some w ↦ w ]) q
got (z ∷ zs) (suc k) x y e q = got zs k x y e q

pub some_at : {A : Type 0} (xs : List A) (k : ℕ) (d : A) → k < length xs → slice_get xs k ≡ Some (slice_index_or xs k d)
some_at [] k d l = absurd (omega arith)
some_at (x ∷ xs) zero d l = refl
some_at (x ∷ xs) (suc k) d l = some_at xs k d (omega arith)

pub index_at : {A : Type 0} (xs : List A) (k : ℕ) (d x : A) → slice_get xs k ≡ Some x → slice_index_or xs k d ≡ x
index_at [] k d x e = cc
index_at (y ∷ ys) zero d x e = ap (λ (o : Option _). elim o [ None ↦ y | Some w ↦ w ]) e
index_at (y ∷ ys) (suc k) d x e = index_at ys k d x e

pub get_before : {A : Type 0} (xs ys : List A) (i : ℕ) → i < length xs → slice_get (xs ++ ys) i ≡ slice_get xs i
get_before [] ys i l = absurd (omega arith)
get_before (x ∷ xs) ys zero l = refl
get_before (x ∷ xs) ys (suc i) l = get_before xs ys i (omega arith)

pub get_behind : {A : Type 0} (xs : List A) (y : A) (i : ℕ) (a : A) → length xs ≤ i → slice_get (xs ++ y ∷ []) i ≡ Some a → (i ≡ length xs) × (y ≡ a)
get_behind [] y zero a l e = (refl, ap (λ (o : Option _). elim o [ None ↦ y | Some z ↦ z ]) e)
get_behind [] y (suc i) a l e = cc
get_behind (x ∷ xs) y zero a l e = absurd (omega arith)
get_behind (x ∷ xs) y (suc i) a l e = let r = get_behind xs y i a (omega arith) e in (ap suc r.0, r.1)

pub taken_at : {A : Type 0} (xs : List A) (n m i : ℕ) → i < m → slice_get (take m (drop n xs)) i ≡ slice_get xs (n + i)
taken_at xs n zero i l = absurd (omega arith)
taken_at [] zero (suc m) i l = refl
taken_at [] (suc n) (suc m) i l = refl
taken_at (x ∷ xs) zero (suc m) zero l = refl
taken_at (x ∷ xs) zero (suc m) (suc i) l =
    let q : suc (0 + i) ≡ 0 + suc i = omega arith in
    taken_at xs zero m i (omega arith) ∙ ap (λ (k : ℕ). slice_get (x ∷ xs) k) q
taken_at (x ∷ xs) (suc n) (suc m) i l =
    let q : suc (n + i) ≡ suc n + i = omega arith in
    taken_at xs n (suc m) i l ∙ ap (λ (k : ℕ). slice_get (x ∷ xs) k) q

pub take_zero : {A : Type 0} (xs : List A) → take 0 xs ≡ []
take_zero [] = refl
take_zero (x ∷ xs) = refl

-- WHAT IS LEFT
pub left_all : {A : Type 0} (xs : List A) (k : ℕ) → take (length xs - k) (drop k xs) ≡ drop k xs
left_all xs k = take_all (length xs - k) (drop k xs) (let q = length-drop k xs in omega (arith, q))

pub all_left : {A : Type 0} (P : A → Type 0) (xs : List A) (k : ℕ) → All P xs → All P (drop k xs)
all_left {A} P xs k h = All-from_recursion P (drop k xs) (go xs k (recursion_from_All P xs h))
  where
    go : (ys : List A) (i : ℕ) → AllByRecursion P ys → AllByRecursion P (drop i ys)
    go [] zero h = tt
    go [] (suc i) h = tt
    go (y ∷ ys) zero h = h
    go (y ∷ ys) (suc i) h = go ys i h.1
