-- Digits without those that have no room.
use Rattle.std.proofs.Common.{◌≡◌, ℕ, ◌+◌, ◌*◌, Bool, true, false, cond, ltb, List, [], ◌∷◌, map, refl, sym, ap, ap₂, ◌∙◌, arith}
use Rattle.std.specs.Prelude.{filter, sum}
use Rattle.std.proofs.lemmas.Bool.Decides.{nat_tests}
use Rattle.std.proofs.lemmas.List.Sums.{sum_by-cons}
use Rattle.mono_store.specs.declared.words.Digit.{Digit}
use Rattle.mono_store.specs.Words.{Limits, digit_limits, digits_of, word_count}

-- the limits that are not 0
abbrev pub above_zero : Limits → Limits
above_zero ns = filter (ltb 0) ns

-- there are as many words within them
pub word_count-above_zero : (ns : Limits) → word_count (above_zero ns) ≡ word_count ns
word_count-above_zero [] = refl
word_count-above_zero (n ∷ ns) = go (ltb 0 n) refl (word_count-above_zero ns)
  where
    go : (b : Bool) → ltb 0 n ≡ b → word_count (above_zero ns) ≡ word_count ns
        → word_count (cond b (n ∷ above_zero ns) (above_zero ns)) ≡ (n + 1) * word_count ns
    go true is rest = ap (λ (x : ℕ). (n + 1) * x) rest
    go false is rest =
        let none : n ≡ 0 = grind (arith, nat_tests, is) in
        let alone : (0 + 1) * word_count ns ≡ word_count ns = omega arith in
        rest ∙ sym (ap (λ (k : ℕ). (k + 1) * word_count ns) none ∙ alone)

pub sum-above_zero : (ns : Limits) → sum (above_zero ns) ≡ sum ns
sum-above_zero [] = refl
sum-above_zero (n ∷ ns) = go (ltb 0 n) refl (sum-above_zero ns)
  where
    go : (b : Bool) → ltb 0 n ≡ b → sum (above_zero ns) ≡ sum ns → sum (cond b (n ∷ above_zero ns) (above_zero ns)) ≡ sum (n ∷ ns)
    go true is rest =
        sum_by-cons (λ (x : ℕ). x) n (above_zero ns) ∙ ap (λ (x : ℕ). n + x) rest ∙ sym (sum_by-cons (λ (x : ℕ). x) n ns)
    go false is rest =
        let none : n ≡ 0 = grind (arith, nat_tests, is) in
        let cons : sum (n ∷ ns) ≡ n + sum ns = sum_by-cons (λ (x : ℕ). x) n ns in
        omega (arith, none, cons, rest)

-- their digits are those digits that have room
pub digits_of-above_zero : (ns : Limits) → filter (λ (d : Digit). ltb 0 d.limit) (digits_of ns) ≡ digits_of (above_zero ns)
digits_of-above_zero [] = refl
digits_of-above_zero (n ∷ ns) = go (ltb 0 n) (digits_of-above_zero ns)
  where
    room : List Digit
    room = filter (λ (d : Digit). ltb 0 d.limit) (digits_of ns)

    go : (b : Bool) → room ≡ digits_of (above_zero ns)
        → cond b (record { limit = n; unit = word_count ns } ∷ room) room ≡ digits_of (cond b (n ∷ above_zero ns) (above_zero ns))
    go true rest = ap₂ (λ (c : ℕ) (ds : List Digit). record { limit = n; unit = c } ∷ ds) (sym (word_count-above_zero ns)) rest
    go false rest = rest

-- which digits have room is told by their limits
pub room-by_limits : (digits : List Digit) → map (λ (d : Digit). ltb 0 d.limit) digits ≡ map (ltb 0) (digit_limits digits)
room-by_limits [] = refl
room-by_limits (d ∷ ds) = ap (λ (bs : List Bool). ltb 0 d.limit ∷ bs) (room-by_limits ds)
