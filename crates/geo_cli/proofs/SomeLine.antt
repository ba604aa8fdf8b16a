-- Bytes begin with a line of values, or they do not: the line is read number by number.
use Rattle.std.proofs.Common.{◌≡◌, ℕ, zero, suc, ◌+◌, ◌<◌, ◌≤◌, ◌^◌, ◌⊎◌, inl, inr, Bool, true, false, ℤ, pos, neg_ℤ, unsigned_abs, List, [], ◌∷◌, ◌++◌, length, take, drop}
use Rattle.std.proofs.Common.{refl, sym, ◌∙◌, ap, subst, arith}
use Rattle.std.specs.Prelude.{if◌then◌else◌}
use Rattle.std.specs.Fmt.{signed_decimal}
use Rattle.std.specs.List.{prefix_len}
use Rattle.std.specs.Str.Parse.{starts_with_minus}
use Rattle.std.proofs.lemmas.Bool.{cases_lt}
use Rattle.std.proofs.lemmas.List.{length-append, take-append-drop}
use Rattle.std.proofs.lemmas.List.Elements.{All-from_recursion}
use Rattle.geo_base.specs.Decimals.{decimal_size, decimal_value}
use Rattle.geo_cli.specs.Values.{HasNoValuesLine, HasValuesLine}
use Rattle.geo_cli.proofs.ValueLines.{IsRead, IsShort, at_text, first_read, line_parts, next_read, no_line, no_number}
use Rattle.geo_library.proofs.SomeInput.{same_byte, same_bytes}
use Rattle.geo_place.proofs.ListParts.{head_of, tail_of}
use Rattle.proof_log.specs.Inner.Reading.{Begins, NoneBegins, Passes, StopsAt, integers, is_number_byte}
use Rattle.proof_log.proofs.Found.{integer_misspelt, integer_read, integer_unread}
use Rattle.proof_log.proofs.Runs.{prefix_passes}

-- NUMBERS
value_size : (text : List ℕ) → unsigned_abs (decimal_value text) ≡ decimal_size text
value_size text = by (starts_with_minus text)
  where
    negative : (k : ℕ) → unsigned_abs (neg_ℤ (pos k)) ≡ k
    negative zero = refl
    negative (suc k) = refl

    by : (b : Bool) → unsigned_abs (if b then neg_ℤ (pos (decimal_size text)) else pos (decimal_size text)) ≡ decimal_size text
    by true = negative (decimal_size text)
    by false = refl

abbrev IsNumber : List ℕ → Type 0
IsNumber text = (z : ℤ) × (behind : List ℕ) × Begins integers text z behind

-- a number stands next, or none
number_or_none : (text : List ℕ) → IsNumber text ⊎ NoneBegins integers text
number_or_none text = by (same_bytes (signed_decimal z) run) (cases_lt (unsigned_abs z) (2 ^ 127))
  where
    run : List ℕ
    run = take (prefix_len is_number_byte text) text

    behind : List ℕ
    behind = drop (prefix_len is_number_byte text) text

    split : text ≡ run ++ behind
    split = sym (take-append-drop (prefix_len is_number_byte text) text)

    passes : Passes is_number_byte run
    passes = (prefix_passes is_number_byte text).0

    stops : StopsAt is_number_byte behind
    stops = (prefix_passes is_number_byte text).1

    z : ℤ
    z = decimal_value run

    by : (signed_decimal z ≡ run) ⊎ (signed_decimal z ≡ run → ⊥) → (unsigned_abs z < 2 ^ 127) ⊎ (2 ^ 127 ≤ unsigned_abs z)
        → IsNumber text ⊎ NoneBegins integers text
    by (inl e) (inl fits) = inl (z, behind, integer_read text run behind split passes stops z e fits)
    by (inl e) (inr long) = inr (integer_unread text run behind split passes stops (λ decimal fits. let size = value_size run in omega (arith, fits, long, size)))
    by (inr n) d = inr (integer_misspelt text run behind split passes stops z refl n)

-- THE LINE
abbrev pub LineOrNone : List ℕ → Type 0
LineOrNone bytes = ((values : List ℤ) × (rest : List ℕ) × HasValuesLine bytes values rest) ⊎ HasNoValuesLine bytes

module _ (bytes : List ℕ) where
  -- a line feed stands next
  whole : (items : List ℤ) (left text : List ℕ) → left ≡ 10 ∷ text → IsRead bytes items left → LineOrNone bytes
  whole items left text e h =
      let k = subst (λ (t : List ℕ). IsRead bytes items t) e h in
      inl (items, text, record { parts = k.parts ∙ sym (line_parts items text); short = All-from_recursion IsShort items k.short })

  shorter : (text : List ℕ) (z : ℤ) (behind : List ℕ) → Begins integers text z behind → length behind ≤ length text
  shorter text z behind b =
      let e : length text ≡ length (signed_decimal z) + length behind =
      ap (λ (t : List ℕ). length t) b.spelt ∙ length-append (signed_decimal z) behind in
      omega (arith, e)

  read_on : (fuel : ℕ) (items : List ℤ) (left : List ℕ) → length left ≤ fuel → IsRead bytes items left → LineOrNone bytes
  read_on fuel items [] few h = inr (no_line bytes items [] h (λ text e. cc) (λ rest e. cc))
  read_on zero items (b ∷ text) few h = absurd (omega (arith, few))
  read_on (suc fuel) items (b ∷ text) few h =
      at (same_byte b 32) (same_byte b 10) (number_or_none text) (λ z behind l k. read_on fuel (items ++ z ∷ []) behind (omega (arith, few, l)) k)
    where
      at : (b ≡ 32) ⊎ (b ≡ 32 → ⊥) → (b ≡ 10) ⊎ (b ≡ 10 → ⊥) → IsNumber text ⊎ NoneBegins integers text
          → ((z : ℤ) (behind : List ℕ) → length behind ≤ length text → IsRead bytes (items ++ z ∷ []) behind → LineOrNone bytes) → LineOrNone bytes
      at (inl e) d (inl (z, behind, n)) on =
          on z behind (shorter text z behind n) (next_read bytes items (b ∷ text) text (ap (λ (c : ℕ). c ∷ text) e) h z behind n (items ++ z ∷ []) refl)
      at (inl e) d (inr none) on = inr (no_number bytes items (b ∷ text) text (ap (λ (c : ℕ). c ∷ text) e) h none)
      at (inr n) (inl e) d on = whole items (b ∷ text) text (ap (λ (c : ℕ). c ∷ text) e) h
      at (inr n) (inr m) d on = inr (no_line bytes items (b ∷ text) h (λ t e. n (head_of e)) (λ t e. m (head_of e)))

-- what does not begin with `at` has no such line
no_at : (bytes : List ℕ) → ((left : List ℕ) → bytes ≡ at_text ++ left → ⊥) → HasNoValuesLine bytes
no_at bytes n values rest h = n _ (h.parts ∙ line_parts values rest)

pub line_or_none : (bytes : List ℕ) → LineOrNone bytes
line_or_none [] = inr (no_at [] (λ left e. cc))
line_or_none (a ∷ []) = inr (no_at (a ∷ []) (λ left e. let f = tail_of e in cc))
line_or_none (a ∷ t ∷ left) = by (same_byte a 97) (same_byte t 116)
  where
    by : (a ≡ 97) ⊎ (a ≡ 97 → ⊥) → (t ≡ 116) ⊎ (t ≡ 116 → ⊥) → LineOrNone (a ∷ t ∷ left)
    by (inl e) (inl f) =
        read_on (a ∷ t ∷ left) (length left) [] left (omega arith) (first_read (a ∷ t ∷ left) left [] refl (λ i. e i ∷ f i ∷ left))
    by (inl e) (inr n) = inr (no_at (a ∷ t ∷ left) (λ more e. n (head_of (tail_of e))))
    by (inr n) d = inr (no_at (a ∷ t ∷ left) (λ more e. n (head_of e)))
