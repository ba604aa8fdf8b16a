-- Monomials in numbered variables as words: numbers in a mixed radix, whose digits are the exponents, that of the first variable the
-- highest.
use Rattle.std.specs.Prelude.{◌≡◌, ℕ, ◌+◌, ◌*◌, ◌/◌, ◌%◌, ◌^◌, ◌≤◌, List, [], ◌∷◌, drop, map, sum, sum_by, slice_index_or}
use Rattle.sparse_lists.specs.SparseLists.{put}
use Rattle.mono_store.specs.Monomials.{Powers, exponent, exponents}
use Rattle.mono_store.specs.declared.words.Digit.{Digit}

-- the greatest exponent of each variable, by the number of the variable
abbrev pub Limits : Type 0
Limits = List ℕ

-- that of one variable, 0 past the end
abbrev pub limit : Limits → ℕ → ℕ
limit limits v = slice_index_or limits v 0

-- how many monomials are within the limits, and so how many words there are
abbrev pub word_count : Limits → ℕ
word_count [] = 1
word_count (n ∷ ns) = (n + 1) * word_count ns

-- how many words the variables from v on have, which is what 1 counts in the digit before them
abbrev pub count_from : Limits → ℕ → ℕ
count_from limits v = word_count (drop v limits)

-- each exponent times what 1 counts in the digit of its variable
abbrev pub word : Limits → Powers → ℕ
word limits m = sum_by (λ p. p.1 * count_from limits (p.0 + 1)) m

-- no exponent is above its limit
pub record FitsLimits (limits : Limits) (m : Powers) : Type 0 where
  pub exponents : (v : ℕ) → exponent v m ≤ limit limits v

-- the powers in the lowest digits of a word, whose limits these are, and whose variables are numbered from v on
abbrev pub powers_from : ℕ → Limits → ℕ → Powers
powers_from v [] w = []
powers_from v (n ∷ ns) w = put exponents v (w / word_count ns % (n + 1)) (powers_from (v + 1) ns w)

-- the monomial of a word
abbrev pub powers_of_word : Limits → ℕ → Powers
powers_of_word limits w = powers_from 0 limits w

-- DIGITS

-- the limits of digits
abbrev pub digit_limits : List Digit → Limits
digit_limits digits = map (λ d. d.limit) digits

-- the digits of these limits: 1 in each counts as many as there are words in the later variables
abbrev pub digits_of : Limits → List Digit
digits_of [] = []
digits_of (n ∷ ns) = record { limit = n; unit = word_count ns } ∷ digits_of ns

-- the digits are those of their limits, so many words are within these, and they are few enough that words and links
-- together have 64 bits, and each of a degree that a monomial may have
pub record AreDigits (digits : List Digit) (words : ℕ) : Type 0 where
  pub ordered : digits ≡ digits_of (digit_limits digits)
  pub counted : words ≡ word_count (digit_limits digits)
  pub few : word_count (digit_limits digits) ≤ 2 ^ 63
  pub degree : sum (digit_limits digits) ≤ 65535
