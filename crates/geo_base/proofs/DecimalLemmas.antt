-- Printed numbers are read back.
use Rattle.std.proofs.Common.{◌≡◌, ℕ, ◌<◌, ◌^◌, false, ℤ, pos, negsuc, List, ap, arith, suc}
use Rattle.std.specs.Prelude.{unsigned_abs}
use Rattle.std.specs.Fmt.{signed_decimal, decimal}
use Rattle.std.specs.Str.Parse.{IsNumeral, digits_value, starts_with_minus}
use Rattle.std.proofs.lemmas.Bool.Decides.{nat_tests}
use Rattle.std.proofs.lemmas.Fmt.{decimal_is_IsNumeral_wide}
use Rattle.std.proofs.lemmas.Str.Parse.{digit_at}
use Rattle.geo_base.specs.Decimals.{IsDecimal, decimal_size, decimal_value}

-- the bytes are decimal text that writes z
pub record WritesNumber (bytes : List ℕ) (z : ℤ) : Type 0 where
  pub decimal : IsDecimal bytes
  pub size : decimal_size bytes ≡ unsigned_abs z
  pub value : decimal_value bytes ≡ z

-- digits have no '-' before them
no_minus : (bytes : List ℕ) → IsNumeral 10 bytes → starts_with_minus bytes ≡ false
no_minus bytes numeral = let first = digit_at bytes 0 numeral.1 numeral.0 in grind (arith, nat_tests)

-- digits write the number that they are the digits of
plain : (bytes : List ℕ) (n : ℕ) → IsNumeral 10 bytes → digits_value 10 bytes ≡ n → WritesNumber bytes (pos n)
plain bytes n numeral value = let plus = no_minus bytes numeral in record {
  decimal = rw plus numeral;
  size = rw plus value;
  value = rw plus (ap pos value);
}

-- what is printed for a number of 128 bits is decimal text that writes it
pub signed_decimal_writes : (z : ℤ) → unsigned_abs z < 10 ^ 64 → WritesNumber (signed_decimal z) z
signed_decimal_writes (pos n) small =
    let digits = decimal_is_IsNumeral_wide n small in plain (decimal n) n digits.0 digits.1
signed_decimal_writes (negsuc n) small =
    let digits = decimal_is_IsNumeral_wide (suc n) small in record {
      decimal = digits.0;
      size = digits.1;
      value = rw digits.1;
    }
