-- The shares of words that were reckoned before.
use Rattle.std.specs.Prelude.{◌≡◌, ℕ, ◌+◌, ◌*◌, ◌≤◌, Option, None, List, [], ◌∷◌, ◌++◌, slice_index_or}
use Rattle.std.specs.List.{All}
use Rattle.std.specs.Option.{option_map}
use Rattle.geo_poly.specs.declared.rows.Row.{Row}
use Rattle.mono_store.specs.Monomials.{Powers}
use Rattle.mono_store.specs.Words.{Limits, powers_of_word}
use Rattle.elim_apply.specs.declared.kept_shares.Head.{Head}
use Rattle.elim_apply.specs.declared.kept_shares.KeptShares.{KeptShares}
use Rattle.elim_apply.specs.declared.kept_shares.Tail.{Tail}
use Rattle.elim_apply.specs.declared.numbered.NumberedRow.{NumberedRow}
use Rattle.elim_apply.specs.declared.small_shares.SmallShare.{SmallShare}
use Rattle.elim_apply.specs.Inner.Shares.{no_power, with_power}
use Rattle.elim_apply.specs.Inner.Sketches.{sketched}

-- the row of the variable of this number, where it has one
abbrev pub known_row : List (Option NumberedRow) → ℕ → Option Row
known_row known k = option_map sketched (slice_index_or known k None)

-- the share with these powers, whose variables have numbers
abbrev pub with_numbered : List (Option NumberedRow) → Powers → SmallShare → SmallShare
with_numbered known [] s = s
with_numbered known (p ∷ m) s = with_numbered known m (with_power (known_row known p.0) p.1 s)

-- the share of the powers of a word
abbrev pub word_share : List (Option NumberedRow) → Limits → ℕ → SmallShare
word_share known limits word = with_numbered known (powers_of_word limits word) no_power

-- the share of the powers of two
abbrev pub joined : SmallShare → SmallShare → SmallShare
joined s t = record {
  exponents = s.exponents + t.exponents;
  denominators = s.denominators + t.denominators;
  count = s.count * t.count;
  weight = s.weight * t.weight;
  degree = s.degree + t.degree;
}

-- the words from one on, so many more, begin with some powers, and go on as what they are past the first of them
pub record BeginWith (known : List (Option NumberedRow)) (limits : Limits) (share : SmallShare) (word room : ℕ) : Type 0 where
  pub powers : Powers
  pub share-is : share ≡ with_numbered known powers no_power
  pub begin : (r : ℕ) → r ≤ room → powers_of_word limits (word + r) ≡ powers ++ powers_of_word limits r

-- the share is that of powers that words begin with
abbrev pub IsHead : List (Option NumberedRow) → Limits → Head → Type 0
IsHead known limits head = BeginWith known limits head.share head.word head.room

-- the share is that of the word
abbrev pub IsTail : List (Option NumberedRow) → Limits → Tail → Type 0
IsTail known limits tail = tail.share ≡ word_share known limits tail.word

-- the shares are such
pub record AreKept (known : List (Option NumberedRow)) (limits : Limits) (kept : KeptShares) : Type 0 where
  pub head : IsHead known limits kept.head
  pub tails : All (IsTail known limits) kept.tails.items
