-- The line of values that stands before a program.
use Rattle.std.specs.Prelude.{◌≡◌, ◌<◌, ◌^◌, ℕ, ℤ, unsigned_abs, All, List, [], ◌∷◌, ◌++◌, codes}
use Rattle.std.specs.Fmt.{signed_decimal}
use Rattle.std.specs.List.{flat_map}

-- `at` and whole numbers, a blank before each, and a line feed
abbrev pub values_line : List ℤ → List ℕ
values_line values = codes "at" ++ flat_map (λ z. 32 ∷ signed_decimal z) values ++ 10 ∷ []

-- the bytes are this line, with numbers below `2^127` in absolute value, and then the rest
pub record HasValuesLine (bytes : List ℕ) (values : List ℤ) (rest : List ℕ) : Type 0 where
  pub parts : bytes ≡ values_line values ++ rest
  pub short : All (λ z. unsigned_abs z < 2 ^ 127) values

-- the bytes begin with no such line
abbrev pub HasNoValuesLine : List ℕ → Type 0
HasNoValuesLine bytes = (values : List ℤ) (rest : List ℕ) → HasValuesLine bytes values rest → ⊥
