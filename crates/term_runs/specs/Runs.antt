-- Runs: keys with coefficients, the greatest key first, and no coefficient is 0.
use Rattle.std.specs.Prelude.{ℕ, ◌+◌, ◌<◌, [], ◌∷◌, ◌++◌, sum_by, unsigned_abs}
use Rattle.std.specs.Ordering.{flip_args, nat_cmp}
use Rattle.sparse_lists.specs.SparseLists.{AllKeys, IsCanonical, canonical}
use Rattle.sparse_lists.specs.Coefficients.{coefficients, Pairs, scaled}

-- the keys fall, and no coefficient is 0
abbrev pub IsRun : Pairs → Type 0
IsRun = IsCanonical (flip_args nat_cmp) coefficients

-- the run with the same coefficient at each key
abbrev pub run_of : Pairs → Pairs
run_of = canonical (flip_args nat_cmp) coefficients

-- each term of the left list times each of the right one
abbrev pub products : Pairs → Pairs → Pairs
products [] right = []
products (t ∷ left) right = scaled t.0 t.1 right ++ products left right

-- the sum of the absolute coefficients
abbrev pub norm_of : Pairs → ℕ
norm_of pairs = sum_by (λ t. unsigned_abs t.1) pairs

-- each sum of a key of the left list and one of the right is below the number
abbrev pub KeysFit : ℕ → Pairs → Pairs → Type 0
KeysFit keys left right = AllKeys (λ k. AllKeys (λ j. k + j < keys) right) left
