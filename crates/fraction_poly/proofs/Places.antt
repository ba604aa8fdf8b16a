-- A list with one more element at the end, place by place.
use Rattle.std.proofs.Common.{◌≡◌, ℕ, zero, suc, ◌<◌, ◌⊎◌, inl, inr, List, [], ◌∷◌, ◌++◌, length, slice_get, Some, refl, arith}

pub slice_get-front : {X : Type 0} (xs ys : List X) (k : ℕ) → k < length xs → slice_get (xs ++ ys) k ≡ slice_get xs k
slice_get-front [] ys k h = absurd (omega arith)
slice_get-front (x ∷ xs) ys zero h = refl
slice_get-front (x ∷ xs) ys (suc k) h = slice_get-front xs ys k (omega arith)

pub slice_get-end : {X : Type 0} (xs : List X) (x : X) (k : ℕ) → k ≡ length xs → slice_get (xs ++ x ∷ []) k ≡ Some x
slice_get-end [] x zero e = refl
slice_get-end [] x (suc k) e = absurd (omega arith)
slice_get-end (y ∷ xs) x zero e = absurd (omega arith)
slice_get-end (y ∷ xs) x (suc k) e = slice_get-end xs x k (omega arith)

-- a place of the longer list is one of the shorter list, or the last
pub place_cases : (k n : ℕ) → k < suc n → (k < n) ⊎ (k ≡ n)
place_cases zero zero h = inr refl
place_cases zero (suc n) h = inl (omega arith)
place_cases (suc k) zero h = absurd (omega arith)
place_cases (suc k) (suc n) h = elim (place_cases k n (omega arith)) [ inl below ↦ inl (omega arith) | inr same ↦ inr (omega arith) ]
