-- What several calls in a row lose, gain and count.
use Rattle.std.proofs.Common.{◌≡◌, ℕ, ◌+◌, ◌-◌, ◌≤◌, List, [], ◌++◌, Option, None, Some, refl, ap, sym, ◌∙◌, ⊎_elim, take, drop, length, append_assoc, append-nil}
use Rattle.std.proofs.Math.Seq.{take-add}
use Rattle.std.proofs.lemmas.List.{take_rest, take_at, take-append-drop, drop-drop, length-take-le}
use Rattle.geo_base.specs.Devices.{Loses, Grows}

-- two losses in a row are one
pub Loses-append : (before middle after : Option (List ℕ)) (xs ys : List ℕ) → Loses before xs middle → Loses middle ys after → Loses before (xs ++ ys) after
Loses-append before middle None xs ys p q = rw q at p
Loses-append before middle (Some rest) xs ys p q = (rw q at p) ∙ ap Some (sym (append_assoc xs ys rest))

-- a call that takes nothing adds nothing
pub Grows-nothing : (held : Option (List ℕ)) → Grows held [] held
Grows-nothing None = refl
Grows-nothing (Some bytes) = ap Some (sym (append-nil bytes))

-- two gains in a row are one
pub Grows-append : (before middle after : Option (List ℕ)) (xs ys : List ℕ) → Grows before xs middle → Grows middle ys after → Grows before (xs ++ ys) after
Grows-append None middle after xs ys p q = rw p at q
Grows-append (Some held) middle after xs ys p q = (rw p at q) ∙ ap Some (append_assoc held xs ys)

-- the first n bytes, and then the first m of the rest, are the first n + m
pub Grows-take : (before middle after : Option (List ℕ)) (bytes : List ℕ) (n m : ℕ) → Grows before (take n bytes) middle
    → Grows middle (take m (take (length bytes - n) (drop n bytes))) after → Grows before (take (n + m) bytes) after
Grows-take before middle after bytes n m p q =
    rw (take-add n m bytes) (Grows-append before middle after (take n bytes) (take m (drop n bytes)) p (rw (take_rest bytes n) at q))

-- what a read from memory takes: the bytes that it copied into the front of the buffer
pub piece_taken : (left bytes written tail : List ℕ) (at n : ℕ) → left ≡ drop at bytes → n ≤ length (drop at bytes)
    → written ≡ take n (drop at bytes) → left ≡ take n (written ++ tail) ++ drop (at + n) bytes
piece_taken left bytes written tail at n is fits copied =
    let front : take n (written ++ tail) ≡ take n (drop at bytes) =
    rw copied (take_at (take n (drop at bytes)) tail n (length-take-le n (drop at bytes) fits)) in
    let rest : drop n (drop at bytes) ≡ drop (at + n) bytes = drop-drop n at bytes in
    is ∙ (sym (take-append-drop n (drop at bytes)) ∙ (rw (front, rest)))
