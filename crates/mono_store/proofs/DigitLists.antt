-- Digits of words: what the lists of them say, and the walk over them.
use Rattle.std.proofs.Common.{◌≡◌, ℕ, zero, suc, ◌+◌, ◌*◌, ◌/◌, ◌%◌, ◌^◌, ◌<◌, ◌≤◌, List, [], ◌∷◌, ◌++◌, drop, take, length, refl, sym, ap, ap₂, subst}
use Rattle.std.proofs.Common.{◌∙◌, arith}
use Rattle.std.specs.Prelude.{slice_index_or, sum}
use Rattle.std.specs.Ordering.{nat_cmp}
use Rattle.std.proofs.lemmas.List.{append_assoc, drop_more, take_more}
use Rattle.std.proofs.lemmas.Nat.{div-mul-add, mul-le}
use Rattle.sparse_lists.specs.SparseLists.{IsBefore, put}
use Rattle.mono_store.specs.Monomials.{ComesFirst, Powers, exponents}
use Rattle.mono_store.proofs.Numbers.{is_below}
use Rattle.mono_store.specs.declared.words.Digit.{Digit}
use Rattle.mono_store.specs.Words.{AreDigits, Limits, count_from, digit_limits, digits_of, limit, powers_from, word_count}
use Rattle.mono_store.proofs.WordDigits.{IsBefore-powers_from}
use Rattle.mono_store.proofs.WordOrder.{word_count-some}

-- LISTS OF DIGITS

pub digit_limits-digits_of : (ns : Limits) → digit_limits (digits_of ns) ≡ ns
digit_limits-digits_of [] = refl
digit_limits-digits_of (n ∷ ns) = ap (λ (xs : Limits). n ∷ xs) (digit_limits-digits_of ns)

digits_of-at : (ns : Limits) (v : ℕ) (d : Digit) → v < length ns
    → slice_index_or (digits_of ns) v d ≡ record { limit = limit ns v; unit = count_from ns (v + 1) }
digits_of-at [] v d h = absurd (omega arith)
digits_of-at (n ∷ ns) zero d h = refl
digits_of-at (n ∷ ns) (suc v) d h =
    digits_of-at ns v d (omega arith)
    ∙ ap (λ (k : ℕ). record { limit = limit ns v; unit = word_count (drop k (n ∷ ns)) }) (let e : suc (v + 1) ≡ suc v + 1 = omega arith in e)

-- what is known of the digit of a variable
pub record IsDigit (limits : Limits) (v : ℕ) (d : Digit) : Type 0 where
  pub limit : d.limit ≡ limit limits v
  pub unit : d.unit ≡ count_from limits (v + 1)

pub IsDigit-at : (digits : List Digit) (words v : ℕ) (d : Digit) → AreDigits digits words → v < length (digit_limits digits)
    → d ≡ slice_index_or digits v d → IsDigit (digit_limits digits) v d
IsDigit-at digits words v d h within is =
    let ns = digit_limits digits in
    let at : d ≡ record { limit = limit ns v; unit = count_from ns (v + 1) } =
    is ∙ ap (λ (xs : List Digit). slice_index_or xs v d) h.ordered ∙ digits_of-at ns v d within in
    record { limit = ap (λ (x : Digit). x.limit) at; unit = ap (λ (x : Digit). x.unit) at }

pub digit_limits-are : (limits : Limits) (digits : List Digit) → digits ≡ digits_of limits → digit_limits digits ≡ limits
digit_limits-are limits digits e = ap digit_limits e ∙ digit_limits-digits_of limits

pub AreDigits-of : (limits : Limits) (digits : List Digit) (words : ℕ) → digits ≡ digits_of limits → words ≡ word_count limits
    → word_count limits ≤ 2 ^ 63 → sum limits ≤ 65535 → AreDigits digits words
AreDigits-of limits digits words e counted few degree =
    let same = digit_limits-are limits digits e in
    record {
      ordered = e ∙ ap digits_of (sym same);
      counted = counted ∙ ap word_count (sym same);
      few = subst (λ (ns : Limits). word_count ns ≤ 2 ^ 63) (sym same) few;
      degree = subst (λ (ns : Limits). sum ns ≤ 65535) (sym same) degree;
    }

-- THE WALK OVER THE DIGITS OF A WORD

-- the powers from a digit on are that of the digit before those of the later ones
pub powers_from-step : (limits : Limits) (v w : ℕ) → v < length limits
    → powers_from v (drop v limits) w ≡ put exponents v (w / count_from limits (v + 1) % (limit limits v + 1))
    (powers_from (v + 1) (drop (v + 1) limits) w)
powers_from-step limits v w h = ap (λ (ns : Limits). powers_from v ns w) (drop_more limits v 0 h)

ComesFirst-before : (v : ℕ) (m : Powers) → IsBefore nat_cmp v m → ComesFirst v m
ComesFirst-before v [] h = tt
ComesFirst-before v (p ∷ m) h = is_below v p.0 h.0

pub ComesFirst-powers_from : (v : ℕ) (ns : Limits) (w : ℕ) → ComesFirst v (powers_from (v + 1) ns w)
ComesFirst-powers_from v ns w = ComesFirst-before v (powers_from (v + 1) ns w) (IsBefore-powers_from v (v + 1) ns w (omega arith))

-- THE WORDS OF A LIST OF LIMITS

-- one more limit at the end
pub word_count-more : (ns : Limits) (n : ℕ) → word_count (ns ++ n ∷ []) ≡ word_count ns * (n + 1)
word_count-more [] n = omega arith
word_count-more (m ∷ ns) n = omega (arith, ap (λ (k : ℕ). (m + 1) * k) (word_count-more ns n))

-- the words of the first limits and those of the rest
pub word_count-split : (ns : Limits) (i : ℕ) → word_count (take i ns) * word_count (drop i ns) ≡ word_count ns
word_count-split [] zero = refl
word_count-split [] (suc i) = refl
word_count-split (n ∷ ns) zero = omega arith
word_count-split (n ∷ ns) (suc i) = omega (arith, ap (λ (k : ℕ). (n + 1) * k) (word_count-split ns i))

pub word_count-take-le : (ns : Limits) (i : ℕ) → word_count (take i ns) ≤ word_count ns
word_count-take-le ns i =
    omega (
      arith,
      word_count-split ns i,
      mul-le (word_count (take i ns)) 1 (word_count (take i ns)) (word_count (drop i ns)) (omega arith) (word_count-some (drop i ns)),
    )

pub word_count-next : (ns : Limits) (i : ℕ) → i < length ns → word_count (take (i + 1) ns) ≡ word_count (take i ns) * (slice_index_or ns i 0 + 1)
word_count-next ns i h = ap word_count (take_more ns i 0 h) ∙ word_count-more (take i ns) (slice_index_or ns i 0)

-- the words of the later limits are found by a division
pub word_count-divided : (ns : Limits) (i : ℕ) → i < length ns → word_count (drop i ns) / (slice_index_or ns i 0 + 1) ≡ word_count (drop (i + 1) ns)
word_count-divided ns i h =
    let n = slice_index_or ns i 0 in
    let whole : word_count (drop i ns) ≡ word_count (drop (i + 1) ns) * (n + 1) + 0 =
    omega (arith, ap word_count (drop_more ns i 0 h)) in
    ap (λ (k : ℕ). k / (n + 1)) whole ∙ div-mul-add (word_count (drop (i + 1) ns)) (n + 1) 0 (omega arith)

-- one more digit at the end of the list
pub digits_of-next : (limits : Limits) (i : ℕ) → i < length limits → (old new : List Digit) (d : Digit)
    → d.limit ≡ slice_index_or limits i 0 → d.unit ≡ word_count (drop (i + 1) limits) → new ≡ old ++ d ∷ []
    → old ++ digits_of (drop i limits) ≡ digits_of limits → new ++ digits_of (drop (i + 1) limits) ≡ digits_of limits
digits_of-next limits i h old new d is counts grown whole =
    let here : d ≡ record { limit = slice_index_or limits i 0; unit = word_count (drop (i + 1) limits) } =
    ap₂ (λ (n u : ℕ). record { limit = n; unit = u }) is counts in
    ap (λ (ds : List Digit). ds ++ digits_of (drop (i + 1) limits)) grown
    ∙ append_assoc old (d ∷ []) (digits_of (drop (i + 1) limits))
    ∙ ap (λ (x : Digit). old ++ x ∷ digits_of (drop (i + 1) limits)) here
    ∙ ap (λ (ns : Limits). old ++ digits_of ns) (sym (drop_more limits i 0 h))
    ∙ whole
