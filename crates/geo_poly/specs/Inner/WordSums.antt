-- Products by words, and the sums of the coefficients of each word.
use Rattle.std.specs.Prelude.{◌≡◌, ℕ, zero, suc, ◌+◌, ◌<◌, ℤ, pos, ◌*ℤ◌, List, [], ◌∷◌, ◌++◌, length, map, slice_index_or, sum_by, unsigned_abs}
use Rattle.std.specs.Ordering.{flip_args, nat_cmp}
use Rattle.sparse_lists.specs.SparseLists.{amount, put}
use Rattle.mono_store.specs.declared.links.MonoId.{MonoId}
use Rattle.sparse_lists.specs.Coefficients.{coefficients, Pairs}
use Rattle.geo_poly.specs.Shared.{Indices}

-- each term of the list times the term t: the words add up
abbrev pub word_multiples : MonoId × ℤ → Indices → Pairs
word_multiples t list = map (λ u. (t.0.0 + u.0.0, t.1 *ℤ u.1)) list

-- each term of the left list times each of the right one
abbrev pub word_products : Indices → Indices → Pairs
word_products [] right = []
word_products (t ∷ left) right = word_multiples t right ++ word_products left right

-- the sum of the coefficients at a word
abbrev pub sum_at : ℕ → Pairs → ℤ
sum_at w pairs = amount (flip_args nat_cmp) coefficients w pairs

-- the sum of the absolute coefficients
abbrev pub size_of : Pairs → ℕ
size_of pairs = sum_by (λ t. unsigned_abs t.1) pairs

-- at the place of each word stands its sum
pub record AreSums (pairs : Pairs) (sums : List ℤ) : Type 0 where
  pub each : (w : ℕ) → w < length sums → slice_index_or sums w (pos 0) ≡ sum_at w pairs

-- the words below n whose sums are not 0, with their sums, the greatest first
abbrev pub nonzero_below : List ℤ → ℕ → Pairs
nonzero_below sums zero = []
nonzero_below sums (suc n) = put coefficients n (slice_index_or sums n (pos 0)) (nonzero_below sums n)
