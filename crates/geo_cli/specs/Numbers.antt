-- Numbers among the words of the command line.
use Rattle.std.specs.Prelude.{◌≡◌, ℕ, ◌≢◌, List, slice_index}
use Rattle.std.specs.Str.Parse.{IsNumeral, digits_value}

-- the text writes the number by decimal digits, of which the first is no '0'
pub record WritesDecimal (text : List ℕ) (number : ℕ) : Type 0 where
  pub digits : IsNumeral 10 text
  pub no_zero_first : slice_index text 0 ≢ 48
  pub value : digits_value 10 text ≡ number
