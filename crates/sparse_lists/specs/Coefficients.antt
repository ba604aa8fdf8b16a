-- Whole coefficients, and lists of numbers with them.
use Rattle.std.specs.Prelude.{ℕ, ◌+◌, ◌==◌, ℤ, pos, ◌+ℤ◌, ◌*ℤ◌, unsigned_abs, List, ◌++◌, map}
use Rattle.std.specs.Ordering.{flip_args}
use Rattle.std.specs.declared.cmp.Ordering.{Ordering}
use Rattle.sparse_lists.specs.SparseLists.{Amounts, canonical}

-- coefficients add up, and 0 is that of an absent key
abbrev pub coefficients : Amounts ℤ
coefficients = record { zero = pos 0; add = ◌+ℤ◌; is_zero = λ c. unsigned_abs c == 0 }

-- keys with coefficients
abbrev pub Pairs : Type 0
Pairs = List (ℕ × ℤ)

-- the key is added to each, and the coefficient multiplies each
abbrev pub scaled : ℕ → ℤ → Pairs → Pairs
scaled key coef pairs = map (λ p. (key + p.0, coef *ℤ p.1)) pairs

-- the keys of both, falling, with the sums of their coefficients, and without those whose sum is 0
abbrev pub sum_of : (ℕ → ℕ → Ordering) → Pairs → Pairs → Pairs
sum_of cmp left right = canonical (flip_args cmp) coefficients (left ++ right)
