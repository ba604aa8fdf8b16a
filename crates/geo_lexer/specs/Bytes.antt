-- The bytes that make tokens and what stands between tokens.
use Rattle.std.specs.Prelude.{ℕ, Bool, true, false, not, ◌&&◌, ◌||◌, ◌==◌, nat_le, List, [], ◌∷◌}

-- `A` to `Z`, or `a` to `z`
abbrev pub is_letter : ℕ → Bool
is_letter b = (nat_le 65 b && nat_le b 90) || (nat_le 97 b && nat_le b 122)

-- `0` to `9`
abbrev pub is_digit : ℕ → Bool
is_digit b = nat_le 48 b && nat_le b 57

-- a letter, a digit or `_`
abbrev pub is_word_byte : ℕ → Bool
is_word_byte b = is_letter b || is_digit b || b == 95

-- `{` or `}`
abbrev pub is_brace : ℕ → Bool
is_brace b = b == 123 || b == 125

-- tab, line feed, carriage return or space
abbrev pub is_blank : ℕ → Bool
is_blank b = b == 9 || b == 10 || b == 13 || b == 32

-- `%`, which begins a comment
abbrev pub is_comment_start : ℕ → Bool
is_comment_start b = b == 37

-- blanks and whole comments, a comment being `%` and all up to its line feed; `inside` tells whether the text begins inside a comment,
-- `open_end` whether it may end inside one
abbrev pub is_gap : Bool → Bool → List ℕ → Bool
is_gap open_end inside [] = open_end || not inside
is_gap open_end true (b ∷ bs) = is_gap open_end (not (b == 10)) bs
is_gap open_end false (b ∷ bs) = (is_blank b && is_gap open_end false bs) || (is_comment_start b && is_gap open_end true bs)
