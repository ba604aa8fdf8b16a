-- The first line feed of bytes.
use Rattle.std.proofs.Common.{◌≡◌, ◌≢◌, ℕ, suc, ◌+◌, ◌<◌, ◌≤◌, ◌==◌, nat_lt, Bool, true, false, not, cond, Option, Some, None, List, []}
use Rattle.std.proofs.Common.{◌∷◌, ◌++◌, length, take, drop, refl, sym, ◌∙◌, ap, subst, arith}
use Rattle.std.specs.Prelude.{position}
use Rattle.std.specs.List.{position_or_len}
use Rattle.std.proofs.lemmas.Bool.Decides.{nat_tests}
use Rattle.proof_log.specs.Writable.{HasNoLineFeed}
use Rattle.log_checker.proofs.CheckerSteps.{IsFirstPiece}

same_byte : (x : ℕ) → (x == 10) ≡ true → x ≡ 10
same_byte x e = grind (arith, nat_tests)

other_byte : (x : ℕ) → (x == 10) ≡ false → x ≢ 10
other_byte x e same = grind (arith, nat_tests)

is_below : (m n : ℕ) → nat_lt m n ≡ true → m < n
is_below m n e = grind (arith, nat_tests)

not_below : (m n : ℕ) → nat_lt m n ≡ false → n ≤ m
not_below m n e = grind (arith, nat_tests)

-- how many bytes stand before the first line feed
abbrev front : List ℕ → ℕ
front xs = position_or_len (λ b. b == 10) xs

one_plus : (n : ℕ) → 1 + n ≡ suc n
one_plus n = omega arith

front_at : (x : ℕ) (xs : List ℕ) → (x == 10) ≡ true → front (x ∷ xs) ≡ 0
front_at x xs e = ap (λ b. cond (not b) (1 + front xs) 0) e

front_behind : (x : ℕ) (xs : List ℕ) → (x == 10) ≡ false → front (x ∷ xs) ≡ suc (front xs)
front_behind x xs e = ap (λ b. cond (not b) (1 + front xs) 0) e ∙ one_plus (front xs)

front_free : (xs : List ℕ) → HasNoLineFeed (take (front xs) xs)
front_free [] = tt
front_free (x ∷ xs) = go (front_free xs) (x == 10) refl
  where
    go : HasNoLineFeed (take (front xs) xs) → (t : Bool) → (x == 10) ≡ t → HasNoLineFeed (take (front (x ∷ xs)) (x ∷ xs))
    go free true e = subst (λ n. HasNoLineFeed (take n (x ∷ xs))) (sym (front_at x xs e)) tt
    go free false e = subst (λ n. HasNoLineFeed (take n (x ∷ xs))) (sym (front_behind x xs e)) (other_byte x e, free)

front_splits : (xs : List ℕ) → front xs < length xs → xs ≡ take (front xs) xs ++ 10 ∷ drop (suc (front xs)) xs
front_splits [] l = absurd (omega (arith, l))
front_splits (x ∷ xs) l = go (λ below. front_splits xs below) (x == 10) refl
  where
    go : (front xs < length xs → xs ≡ take (front xs) xs ++ 10 ∷ drop (suc (front xs)) xs) → (t : Bool) → (x == 10) ≡ t
        → x ∷ xs ≡ take (front (x ∷ xs)) (x ∷ xs) ++ 10 ∷ drop (suc (front (x ∷ xs))) (x ∷ xs)
    go behind true e = subst (λ n. x ∷ xs ≡ take n (x ∷ xs) ++ 10 ∷ drop (suc n) (x ∷ xs)) (sym (front_at x xs e)) (ap (λ b. b ∷ xs) (same_byte x e))
    go behind false e =
        let below : front xs < length xs = omega (arith, l, front_behind x xs e) in
        subst (λ n. x ∷ xs ≡ take n (x ∷ xs) ++ 10 ∷ drop (suc n) (x ∷ xs)) (sym (front_behind x xs e)) (ap (λ ys. x ∷ ys) (behind below))

all_free : (xs : List ℕ) → length xs ≤ front xs → HasNoLineFeed xs
all_free [] l = tt
all_free (x ∷ xs) l = go (λ below. all_free xs below) (x == 10) refl
  where
    go : (length xs ≤ front xs → HasNoLineFeed xs) → (t : Bool) → (x == 10) ≡ t → HasNoLineFeed (x ∷ xs)
    go free true e = absurd (omega (arith, l, front_at x xs e))
    go free false e = (other_byte x e, free (omega (arith, l, front_behind x xs e)))

-- where it stands
pub feed_found : (xs : List ℕ) (at : ℕ) → position (λ b. b == 10) xs ≡ Some at → IsFirstPiece xs (take at xs) (drop (suc at) xs) × (at < length xs)
feed_found xs at e = go (nat_lt (front xs) (length xs)) refl e
  where
    go : (t : Bool) → nat_lt (front xs) (length xs) ≡ t → cond (nat_lt (front xs) (length xs)) (Some (front xs)) None ≡ Some at → IsFirstPiece xs (take at xs) (drop (suc at) xs) × (at < length xs)
    go true f g =
        let h : ◌≡◌ {A = Option ℕ} (Some (front xs)) (Some at) = ap (λ b. cond b (Some (front xs)) None) (sym f) ∙ g in
        let same : front xs ≡ at = cc in
        let below = is_below (front xs) (length xs) f in
        subst (λ n. IsFirstPiece xs (take n xs) (drop (suc n) xs) × (n < length xs)) same (record { one_line = front_free xs; split = front_splits xs below }, below)
    go false f g = absurd (let h : ◌≡◌ {A = Option ℕ} None (Some at) = ap (λ b. cond b (Some (front xs)) None) (sym f) ∙ g in cc)

-- where there is none
pub feed_absent : (xs : List ℕ) → position (λ b. b == 10) xs ≡ None → HasNoLineFeed xs
feed_absent xs e = go (nat_lt (front xs) (length xs)) refl e
  where
    go : (t : Bool) → nat_lt (front xs) (length xs) ≡ t → cond (nat_lt (front xs) (length xs)) (Some (front xs)) None ≡ None → HasNoLineFeed xs
    go true f g = absurd (let h : ◌≡◌ {A = Option ℕ} (Some (front xs)) None = ap (λ b. cond b (Some (front xs)) None) (sym f) ∙ g in cc)
    go false f g = all_free xs (not_below (front xs) (length xs) f)
