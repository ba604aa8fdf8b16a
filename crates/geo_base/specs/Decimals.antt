-- Numbers as decimal text: digits, and a minus sign before them where they are negative.
use Rattle.std.specs.Prelude.{ℕ, List, drop, ℤ, pos, neg_ℤ, if◌then◌else◌}
use Rattle.std.specs.Str.Parse.{IsNumeral, digits_value, starts_with_minus}

-- the text without its first byte, if that is a '-'
abbrev pub without_minus : List ℕ → List ℕ
without_minus bytes = if starts_with_minus bytes then drop 1 bytes else bytes

-- one or more digits, which may have a '-' before them
abbrev pub IsDecimal : List ℕ → Type 0
IsDecimal bytes = IsNumeral 10 (without_minus bytes)

-- the absolute value that such a text writes
abbrev pub decimal_size : List ℕ → ℕ
decimal_size bytes = digits_value 10 (without_minus bytes)

-- the number that such a text writes
abbrev pub decimal_value : List ℕ → ℤ
decimal_value bytes =
    if starts_with_minus bytes then neg_ℤ (pos (decimal_size bytes)) else pos (decimal_size bytes)
