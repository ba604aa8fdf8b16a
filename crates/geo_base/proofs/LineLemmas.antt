-- Pieces and lines as lists.
use Rattle.std.proofs.Common.{◌≡◌, ℕ, ◌+◌, ◌-◌, ◌≤◌, List, [], ◌∷◌, ◌++◌, Option, None, Some, ap, sym, ◌∙◌, subst, take, drop, length, Contains, append_assoc, length-append, arith}
use Rattle.std.proofs.lemmas.List.{drop-drop, drop-take, take-take, take-append-le}
use Rattle.geo_base.specs.Devices.{Loses}
use Rattle.geo_base.specs.Lines.{open_bytes}

-- a range without its first elements
pub skip-range : (xs : List ℕ) (i j n : ℕ) → i + n ≤ j → take (j - (i + n)) (drop (i + n) xs) ≡ drop n (take (j - i) (drop i xs))
skip-range xs i j n fits =
    let parts : j - i ≡ n + (j - (i + n)) = omega arith in
    rw (parts, drop-take n (j - (i + n)) (drop i xs), drop-drop n i xs)

-- the first bytes read, in a list over which the buffer was written
pub Loses-written : (before after : Option (List ℕ)) (buffer old : List ℕ) (len n : ℕ) → n ≤ length buffer → n ≤ len
    → Loses before (take n buffer) after → Loses before (take (n - 0) (drop 0 (take len (buffer ++ old)))) after
Loses-written before after buffer old len n fits within lost =
    let start : n - 0 ≡ n = omega arith in
    rw (start, take-take n len (buffer ++ old) within, take-append-le n buffer old fits) lost

-- the open bytes stay the same when a piece goes from the source to the bytes taken
pub open_bytes-taken : (waiting piece : List ℕ) (before after : Option (List ℕ)) → Loses before piece after → open_bytes waiting before ≡ open_bytes (waiting ++ piece) after
open_bytes-taken waiting piece before None lost = rw lost
open_bytes-taken waiting piece before (Some rest) lost =
    rw lost (ap Some (sym (append_assoc waiting piece rest)))

-- bytes without x, moved, are not bytes with x
pub Contains-moved : (line waiting first : List ℕ) (x : ℕ) → line ≡ waiting → waiting ≡ first → ¬ Contains line x → Contains first x → ⊥
Contains-moved line waiting first x moved same none has =
    none (subst (λ (xs : List ℕ). Contains xs x) (sym same ∙ sym moved) has)

-- the bytes add up when a piece is taken
pub length-taken : (first waiting piece : List ℕ) (before taken after : ℕ) → length first + taken ≡ before + length waiting
    → after ≡ taken + length piece → length first + after ≡ before + length (waiting ++ piece)
length-taken first waiting piece before taken after counted more =
    omega (arith, length-append waiting piece)

-- the bytes add up when a line is handed out
pub length-line : (first waiting line rest : List ℕ) (feed before taken after : ℕ) → waiting ≡ line ++ feed ∷ rest
    → length first + taken ≡ before + length waiting → after ≡ taken → length first + after ≡ before + length (line ++ feed ∷ [])
    + length rest
length-line first waiting line rest feed before taken after found counted same =
    omega (arith, ap length found, length-append line (feed ∷ rest), length-append line (feed ∷ []))
