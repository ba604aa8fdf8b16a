-- The one spelling of a number: no zero in front of other digits, and no `-` before 0.
use Rattle.std.proofs.Common.{◌≡◌, ℕ, zero, suc, ◌+◌, ◌*◌, ◌/◌, ◌%◌, ◌^◌, ◌<◌, ◌≤◌, Bool, true, false, not, eqb, if◌then◌else◌, List, []}
use Rattle.std.proofs.Common.{◌∷◌, ◌++◌, length, drop, get_or, refl, sym, ap, subst, ◌∙◌, append-nil, append_assoc, length-append, arith}
use Rattle.std.proofs.Common.{lit≤, inl, inr}
use Rattle.std.specs.Prelude.{◌↔◌, IsTrue, pos, neg_ℤ}
use Rattle.std.specs.Char.{digit_value}
use Rattle.std.specs.Fmt.{decimal, signed_decimal}
use Rattle.std.specs.Str.Parse.{AllDigits, IsNumeral, digits_value, digits_value_after, starts_with_minus}
use Rattle.std.proofs.lemmas.Bool.{cases_lt}
use Rattle.std.proofs.lemmas.Bool.Decides.{nat_tests}
use Rattle.std.proofs.lemmas.Fmt.{decimal_digit, decimal_step_wide, decimal_by_steps_wide}
use Rattle.std.proofs.Math.ListN.{get_or-append}
use Rattle.std.proofs.lemmas.Str.{digit_value_digit}
use Rattle.std.proofs.lemmas.Str.Parse.{digit_from_value}
use Rattle.geo_base.specs.Decimals.{IsDecimal, decimal_size, decimal_value}

-- DIGITS

le_value : (n : ℕ) (ds : List ℕ) → n ≤ digits_value_after 10 n ds
le_value n [] = omega arith
le_value n (c ∷ cs) = omega (arith, le_value (n * 10 + digit_value c) cs)

-- digits behind those of a number that is not 0
more_digits : (n : ℕ) (ds : List ℕ) → 0 < n → AllDigits 10 ds → digits_value_after 10 n ds < 10 ^ 64 → decimal (digits_value_after 10 n ds) ≡ decimal n ++ ds
more_digits n [] some d small = sym (append-nil (decimal n))
more_digits n (c ∷ cs) some d small =
    let m : ℕ = n * 10 + digit_value c in
    let k = digit_value_digit c (digit_from_value c d.0) in
    let front : m / 10 ≡ n = omega (arith, d.0) in
    let end : 48 + m % 10 ≡ c = omega (arith, d.0) in
    more_digits m cs (omega arith) d.1 small
    ∙ ap (λ x. x ++ cs) (decimal_step_wide m (omega arith) (omega (arith, le_value m cs)) ∙ (λ i. decimal (front i) ++ (end i ∷ [])))
    ∙ append_assoc (decimal n) (c ∷ []) cs

-- one digit, or digits that begin with another than 0, are those of their number
digits_spelt : (ds : List ℕ) → IsNumeral 10 ds → (get_or ds 0 0 ≡ 48 → length ds ≡ 1) → digits_value 10 ds < 10 ^ 64 → decimal (digits_value 10 ds) ≡ ds
digits_spelt [] d lead small = absurd (omega (arith, d.0))
digits_spelt (c ∷ []) d lead small =
    let k = digit_value_digit c (digit_from_value c d.1.0) in
    decimal_digit (0 * 10 + digit_value c) (omega (arith, d.1.0)) ∙ ap (λ x. x ∷ []) (omega arith)
digits_spelt (c ∷ e ∷ cs) d lead small =
    let k = digit_value_digit c (digit_from_value c d.1.0) in
    let no : c ≡ 48 → ⊥ = λ z. omega (arith, lead z) in
    let is : 48 + (0 * 10 + digit_value c) ≡ c = omega arith in
    more_digits (0 * 10 + digit_value c) (e ∷ cs) (omega arith) d.1.1 small
    ∙ ap (λ x. x ++ (e ∷ cs)) (decimal_digit (0 * 10 + digit_value c) (omega (arith, d.1.0)) ∙ ap (λ x. x ∷ []) is)

-- the digits of a number that is not 0 do not begin with 0
first_digit : (n : ℕ) → 0 < n → n < 10 ^ 64 → 48 < get_or (decimal n) 0 0
first_digit n some small = (decimal_by_steps_wide (λ m ds. (0 < length ds) × (0 < m → 48 < get_or ds 0 0)) (λ m l. (omega arith, λ a. omega arith))
    (λ m ds l h. (omega (arith, length-append ds ((48 + m % 10) ∷ [])), λ a. omega (arith, get_or-append ds ((48 + m % 10) ∷ []) 0 0 h.0, h.1 (omega arith)))) n small).1 some

-- TEXT

plain_value : (text : List ℕ) → starts_with_minus text ≡ false → decimal_value text ≡ pos (digits_value 10 text)
plain_value text e = rw e

plain_numeral : (text : List ℕ) → starts_with_minus text ≡ false → IsDecimal text → IsNumeral 10 text
plain_numeral text e d = subst (λ (b : Bool). IsNumeral 10 (if b then drop 1 text else text)) e d

plain_size : (text : List ℕ) → starts_with_minus text ≡ false → decimal_size text ≡ digits_value 10 text
plain_size text e = rw e

minus_value : (c : ℕ) (ds : List ℕ) → eqb c 45 ≡ true → decimal_value (c ∷ ds) ≡ neg_ℤ (pos (digits_value 10 ds))
minus_value c ds e = rw e

minus_numeral : (c : ℕ) (ds : List ℕ) → eqb c 45 ≡ true → IsDecimal (c ∷ ds) → IsNumeral 10 ds
minus_numeral c ds e d = subst (λ (b : Bool). IsNumeral 10 (if b then ds else c ∷ ds)) e d

minus_size : (c : ℕ) (ds : List ℕ) → eqb c 45 ≡ true → decimal_size (c ∷ ds) ≡ digits_value 10 ds
minus_size c ds e = rw e

negative : (ds : List ℕ) (n : ℕ) → n ≡ digits_value 10 ds → 0 < n → decimal n ≡ ds → signed_decimal (neg_ℤ (pos n)) ≡ 45 ∷ ds
negative ds zero e some is = absurd (omega arith)
negative ds (suc n) e some is = ap (λ l. 45 ∷ l) is

-- digits with a value of 0, and no zero in front of others, are one zero
positive : (ds : List ℕ) → IsNumeral 10 ds → (get_or ds 0 0 ≡ 48 → ⊥) → decimal (digits_value 10 ds) ≡ ds → 0 < digits_value 10 ds
positive ds d lead is =
    elim (digits_value 10 ds) as (λ n. decimal n ≡ ds → 0 < n) [
      | zero ↦ λ e. absurd (lead (ap (λ l. get_or l 0 0) (sym e ∙ decimal_digit 0 (omega arith))))
      | suc n ↦ λ e. omega arith
    ] is

-- text of digits, with no `-` before them
digits_canonical : (text : List ℕ) → starts_with_minus text ≡ false → IsDecimal text → decimal_size text < 2 ^ 127
    → (2 ≤ length text → get_or text 0 0 ≡ 48 → ⊥) → signed_decimal (decimal_value text) ≡ text
digits_canonical text e d small lone =
    let room : 2 ^ 127 ≤ 10 ^ 64 = lit≤ tt in
    let numeral = plain_numeral text e d in
    let lead : get_or text 0 0 ≡ 48 → length text ≡ 1 = λ z. elim (cases_lt 1 (length text)) [
      | inl more ↦ absurd (lone more z)
      | inr one ↦ let some : 0 < length text = numeral.0 in omega arith
    ] in
    ap signed_decimal (plain_value text e) ∙ digits_spelt text numeral lead (omega (arith, plain_size text e))

-- text of a `-` and digits
minus_canonical : (c : ℕ) (ds : List ℕ) → eqb c 45 ≡ true → IsDecimal (c ∷ ds) → decimal_size (c ∷ ds) < 2 ^ 127
    → (2 ≤ length (c ∷ ds) → get_or (c ∷ ds) 0 0 ≡ 45 → get_or (c ∷ ds) 1 0 ≡ 48 → ⊥) → signed_decimal (decimal_value (c ∷ ds)) ≡ c ∷ ds
minus_canonical c ds e d small minus =
    let is : c ≡ 45 = grind (arith, nat_tests, e) in
    let room : 2 ^ 127 ≤ 10 ^ 64 = lit≤ tt in
    let numeral = minus_numeral c ds e d in
    let some : 0 < length ds = numeral.0 in
    let lead : get_or ds 0 0 ≡ 48 → ⊥ = λ z. minus (omega arith) is z in
    let spelt = digits_spelt ds numeral (λ z. absurd (lead z)) (omega (arith, minus_size c ds e)) in
    ap signed_decimal (minus_value c ds e) ∙ negative ds (digits_value 10 ds) refl (positive ds numeral lead spelt) spelt ∙ ap (λ b. b ∷ ds) (sym is)

-- text that has no zero in front of other digits, and no `-` before 0, is the spelling of its number
pub canonical : (text : List ℕ) → IsDecimal text → decimal_size text < 2 ^ 127 → (2 ≤ length text → get_or text 0 0 ≡ 45 → get_or text 1 0 ≡ 48 → ⊥) → (2 ≤ length text → get_or text 0 0 ≡ 48 → ⊥)
    → signed_decimal (decimal_value text) ≡ text
canonical [] d small minus lone = absurd (omega (arith, d.0))
canonical (c ∷ cs) d small minus lone =
    elim (eqb c 45) as (λ b. eqb c 45 ≡ b → signed_decimal (decimal_value (c ∷ cs)) ≡ c ∷ cs) [
      | true ↦ λ e. minus_canonical c cs e d small minus
      | false ↦ λ e. digits_canonical (c ∷ cs) e d small lone
    ] refl

no_minus_zero : (n c : ℕ) (ds : List ℕ) → n < 10 ^ 64 → c ≡ 45 → get_or ds 0 0 ≡ 48 → signed_decimal (neg_ℤ (pos n)) ≡ c ∷ ds → ⊥
no_minus_zero zero c ds small is z e = let first : 48 ≡ c = ap (λ l. get_or l 0 0) (sym (decimal_digit 0 (omega arith)) ∙ e) in omega arith
no_minus_zero (suc n) c ds small is z e =
    let digits : decimal (suc n) ≡ ds = ap (drop 1) e in
    omega (arith, first_digit (suc n) (omega arith) small, ap (λ l. get_or l 0 0) digits)

-- a `-` before a zero is no spelling
pub minus_zero : (text : List ℕ) → decimal_size text < 2 ^ 127 → 2 ≤ length text → get_or text 0 0 ≡ 45 → get_or text 1 0 ≡ 48 → signed_decimal (decimal_value text) ≡ text → ⊥
minus_zero [] small len is z e = omega arith
minus_zero (c ∷ cs) small len is z e =
    let room : 2 ^ 127 ≤ 10 ^ 64 = lit≤ tt in
    let minus : eqb c 45 ≡ true = grind (arith, nat_tests, is) in
    no_minus_zero (digits_value 10 cs) c cs (omega (arith, minus_size c cs minus)) is z (ap signed_decimal (sym (minus_value c cs minus)) ∙ e)

no_zero_first : (n : ℕ) (text : List ℕ) → n < 10 ^ 64 → 2 ≤ length text → get_or text 0 0 ≡ 48 → decimal n ≡ text → ⊥
no_zero_first zero text small len z e = omega (arith, ap length (sym (decimal_digit 0 (omega arith)) ∙ e))
no_zero_first (suc n) text small len z e = omega (arith, first_digit (suc n) (omega arith) small, ap (λ l. get_or l 0 0) e)

-- a zero in front of other digits is no spelling
pub zero_first : (text : List ℕ) → decimal_size text < 2 ^ 127 → 2 ≤ length text → get_or text 0 0 ≡ 48 → signed_decimal (decimal_value text) ≡ text → ⊥
zero_first [] small len z e = omega arith
zero_first (c ∷ cs) small len z e =
    let room : 2 ^ 127 ≤ 10 ^ 64 = lit≤ tt in
    let plain : eqb c 45 ≡ false = grind (arith, nat_tests, z) in
    no_zero_first (digits_value 10 (c ∷ cs)) (c ∷ cs) (omega (arith, plain_size (c ∷ cs) plain)) len z (ap signed_decimal (sym (plain_value (c ∷ cs) plain)) ∙ e)

-- THE TEST
tested : (b : ℕ) (P : Type 0) → (b ≡ 48 → P → ⊥) → ((b ≡ 48 → ⊥) → P) → IsTrue (not (eqb b 48)) ↔ P
tested b P out into =
    elim (eqb b 48) as (λ t. eqb b 48 ≡ t → IsTrue (not t) ↔ P) [
      | true ↦ λ e. let is : b ≡ 48 = grind (arith, nat_tests, e) in (λ f. absurd (let t : false ≡ true = f in cc), λ p. absurd (out is p))
      | false ↦ λ e. let other : b ≡ 48 → ⊥ = grind (arith, nat_tests, e) in (λ f. into other, λ p. refl)
    ] refl

-- text of one byte
pub is_short : (text : List ℕ) → IsDecimal text → decimal_size text < 2 ^ 127 → length text < 2 → IsTrue true ↔ (signed_decimal (decimal_value text) ≡ text)
is_short text d small len = (λ t. canonical text d small (λ more is z. omega (arith, more, len)) (λ more z. omega (arith, more, len)), λ e. refl)

-- text that begins with `-`
pub is_negative : (text : List ℕ) → IsDecimal text → decimal_size text < 2 ^ 127 → 2 ≤ length text → get_or text 0 0 ≡ 45
    → IsTrue (not (eqb (get_or text 1 0) 48)) ↔ (signed_decimal (decimal_value text) ≡ text)
is_negative text d small len minus =
    tested (get_or text 1 0) (signed_decimal (decimal_value text) ≡ text) (λ z e. minus_zero text small len minus z e)
    (λ other. canonical text d small (λ more is z. other z) (λ more z. omega (arith, minus, z)))

-- text that does not
pub is_plain : (text : List ℕ) → IsDecimal text → decimal_size text < 2 ^ 127 → 2 ≤ length text → (get_or text 0 0 ≡ 45 → ⊥)
    → IsTrue (not (eqb (get_or text 0 0) 48)) ↔ (signed_decimal (decimal_value text) ≡ text)
is_plain text d small len plain =
    tested (get_or text 0 0) (signed_decimal (decimal_value text) ≡ text) (λ z e. zero_first text small len z e)
    (λ other. canonical text d small (λ more is z. absurd (plain is)) (λ more z. other z))
