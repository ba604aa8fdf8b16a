-- The digits of a numeral, one after another.
use Rattle.std.proofs.Common.{◌≡◌, ℕ, ◌+◌, ◌*◌, ◌^◌, ◌-◌, ◌≤◌, ◌<◌, Bool, true, false, ◌&&◌, List, [], ◌∷◌, length, take, get_or, refl, sym, arith, lit≤}
use Rattle.std.proofs.Math.Nat.{pow-le-pow_right}
use Rattle.std.specs.Bool.{MatchBool}
use Rattle.std.specs.Char.{digit_value, is_ascii_digit}
use Rattle.std.specs.Int.{IsInRange}
use Rattle.std.specs.List.{list_all}
use Rattle.std.specs.Str.Parse.{AllDigits, IsNumeral, digits_value}
use Rattle.std.proofs.lemmas.Int.Digits.{digits_value-lt, digits_value_more}
use Rattle.std.proofs.lemmas.Str.{digit_value_digit}
use Rattle.std.proofs.lemmas.Str.Parse.{digit_at, digit_from_value, digits_value-take-le}
use Rattle.std.proofs.lemmas.Bool.{and_from}
use Rattle.std.proofs.lemmas.Bool.Decides.{nat_tests}

-- one more digit of a numeral
pub record NextDigit (digits : List ℕ) (i : ℕ) : Type 0 where
  pub low : 48 ≤ get_or digits i 0
  pub high : get_or digits i 0 ≤ 57
  pub value : digits_value 10 (take (i + 1) digits) ≡ digits_value 10 (take i digits) * 10 + (get_or digits i 0 - 48)
  pub part : digits_value 10 (take (i + 1) digits) ≤ digits_value 10 digits

-- each digit of a numeral is the next one of those before it
pub next_digit : (digits : List ℕ) (i : ℕ) → AllDigits 10 digits → i < length digits → NextDigit digits i
next_digit digits i all lt =
    let at = digit_at digits i all lt in record {
      low = at.0;
      high = at.1;
      value = omega (arith, digits_value_more 10 digits i lt, digit_value_digit (get_or digits i 0) at);
      part = digits_value-take-le 10 digits (i + 1) (omega arith);
    }

-- the test of one digit, both ways
digit-from_test : (b : ℕ) → is_ascii_digit b ≡ true → digit_value b < 10
digit-from_test b e =
    let range : IsInRange 48 57 b = grind (arith, nat_tests) in omega (arith, digit_value_digit b range)

test-from_digit : (b : ℕ) → digit_value b < 10 → is_ascii_digit b ≡ true
test-from_digit b h = let range = digit_from_value b h in grind (arith, nat_tests)

-- both of two tests passed
both : (x y : Bool) → (x && y) ≡ true → (x ≡ true) × (y ≡ true)
both true y e = (refl, e)
both false y e = absurd (let f : false ≡ true = e in cc)

-- the test of all digits, both ways
pub AllDigits-from_list_all : (bytes : List ℕ) → list_all is_ascii_digit bytes ≡ true → AllDigits 10 bytes
AllDigits-from_list_all [] e = tt
AllDigits-from_list_all (b ∷ bs) e =
    let parts = both (is_ascii_digit b) (list_all is_ascii_digit bs) e in
    (digit-from_test b parts.0, AllDigits-from_list_all bs parts.1)

pub list_all-from_AllDigits : (bytes : List ℕ) → AllDigits 10 bytes → list_all is_ascii_digit bytes ≡ true
list_all-from_AllDigits [] all = refl
list_all-from_AllDigits (b ∷ bs) all =
    and_from (is_ascii_digit b) (list_all is_ascii_digit bs) (test-from_digit b all.0) (list_all-from_AllDigits bs all.1)

-- one or more bytes are a numeral exactly where all pass the test
pub numeral_test : (bytes : List ℕ) (passed : Bool) → 0 < length bytes → passed ≡ list_all is_ascii_digit bytes → MatchBool passed (IsNumeral 10 bytes) (¬ (IsNumeral 10 bytes))
numeral_test bytes true some e = (some, AllDigits-from_list_all bytes (sym e))
numeral_test bytes false some e = λ numeral. let passed : list_all is_ascii_digit bytes ≡ true = list_all-from_AllDigits bytes numeral.1 in cc

-- few digits write a number of 64 bits
pub few_fit : (digits : List ℕ) → AllDigits 10 digits → length digits ≤ 19 → digits_value 10 digits < 2 ^ 64
few_fit digits all few =
    let ten : 0 < 10 = lit≤ tt in
    let powers : 10 ^ length digits ≤ 10 ^ 19 = pow-le-pow_right ten few in
    let room : 10 ^ 19 ≤ 2 ^ 64 = lit≤ tt in
    omega (arith, digits_value-lt 10 digits all)
