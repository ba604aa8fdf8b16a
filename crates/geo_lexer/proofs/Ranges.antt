-- The bytes of a text from one place to another.
use Rattle.std.proofs.Common.{◌≡◌, ℕ, suc, ◌+◌, ◌-◌, ◌<◌, ◌≤◌, List, ◌∷◌, ◌++◌, length, drop, take, get_or, slice_range, refl, ap, sym, ◌∙◌, arith, length-drop, length-take, get_or-drop, get_or-take}
use Rattle.std.proofs.Math.Seq.{take-add}
use Rattle.std.proofs.lemmas.List.{drop-append-le, drop-drop, drop_at, drop_more, take-append-le}

pub length-slice_range : (bytes : List ℕ) (start end : ℕ) → start ≤ end → end ≤ length bytes → length (slice_range bytes start end) ≡ end - start
length-slice_range bytes start end onward within = simp (length-take, length-drop) (omega arith)

pub get_or-slice_range : (bytes : List ℕ) (start end i : ℕ) → i < end - start → get_or (slice_range bytes start end) i 0 ≡ get_or bytes (start + i) 0
get_or-slice_range bytes start end i inside = get_or-take (end - start) (drop start bytes) i 0 inside ∙ get_or-drop start bytes i 0

-- the first byte, and then the others
pub slice_range_first : (bytes : List ℕ) (start end : ℕ) → start < length bytes → start < end → slice_range bytes start end ≡ get_or bytes start 0 ∷ slice_range bytes (start + 1) end
slice_range_first bytes start end inside some =
    let size : end - start ≡ suc (end - (start + 1)) = omega arith in
    ap (take (end - start)) (drop_more bytes start 0 inside)
    ∙ ap (λ n. take n (get_or bytes start 0 ∷ drop (start + 1) bytes)) size

-- the bytes up to a place in between, and then the others
pub slice_range_split : (bytes : List ℕ) (start place end : ℕ) → start ≤ place → place ≤ end → slice_range bytes start end ≡ slice_range bytes start place ++ slice_range bytes place end
slice_range_split bytes start place end first second =
    let size : end - start ≡ (place - start) + (end - place) = omega arith in
    let there : start + (place - start) ≡ place = omega arith in
    ap (λ n. take n (drop start bytes)) size
    ∙ take-add (place - start) (end - place) (drop start bytes)
    ∙ ap (λ r. slice_range bytes start place ++ take (end - place) r) (drop-drop (place - start) start bytes ∙ ap (λ n. drop n bytes) there)

-- what follows a text changes nothing in it
pub slice_range-before : (bytes more : List ℕ) (start end : ℕ) → start ≤ end → end ≤ length bytes → slice_range (bytes ++ more) start end ≡ slice_range bytes start end
slice_range-before bytes more start end onward within =
    ap (take (end - start)) (drop-append-le start bytes more (omega arith))
    ∙ take-append-le (end - start) (drop start bytes) more (omega (arith, length-drop start bytes))

-- what stands before a text moves its places
pub drop-after : (front bytes : List ℕ) (start : ℕ) → drop (length front + start) (front ++ bytes) ≡ drop start bytes
drop-after front bytes start = sym (drop-drop start (length front) (front ++ bytes)) ∙ ap (drop start) (drop_at front bytes (length front) refl)

pub slice_range-after : (front bytes : List ℕ) (start end : ℕ) → slice_range (front ++ bytes) (length front + start) (length front + end) ≡ slice_range bytes start end
slice_range-after front bytes start end =
    let size : length front + end - (length front + start) ≡ end - start = omega arith in
    ap (λ n. take n (drop (length front + start) (front ++ bytes))) size ∙ ap (take (end - start)) (drop-after front bytes start)
