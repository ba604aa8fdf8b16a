-- Texts of words that were written before.
use Rattle.std.specs.Prelude.{codes, cond, ◌≡◌, ◌==◌, ◌+◌, ◌-◌, ◌≤◌, ℕ, List, [], ◌++◌, drop, length, slice_index_or, take}
use Rattle.std.specs.Fmt.{decimal}
use Rattle.std.specs.List.{All, flat_map}
use Rattle.mono_store.specs.Words.{Limits, powers_of_word}
use Rattle.proof_log.specs.declared.kept_texts.Head.{Head}
use Rattle.proof_log.specs.declared.kept_texts.KeptTexts.{KeptTexts}
use Rattle.proof_log.specs.declared.kept_texts.Span.{Span}
use Rattle.proof_log.specs.declared.kept_texts.Tail.{Tail}

-- a power, with the names of the variables at their numbers
abbrev pub numbered_text : List (List ℕ) → ℕ × ℕ → List ℕ
numbered_text names q = slice_index_or names q.0 [] ++ cond (q.1 == 1) [] (codes "^" ++ decimal q.1)

-- the powers of a word
abbrev pub word_text : List (List ℕ) → Limits → ℕ → List ℕ
word_text names limits word = flat_map (numbered_text names) (powers_of_word limits word)

-- the words from one on, so many more, begin with a text, and go on as what they are past the first of them
pub record BeginWith (names : List (List ℕ)) (limits : Limits) (text : List ℕ) (word room : ℕ) : Type 0 where
  pub texts : (r : ℕ) → r ≤ room → word_text names limits (word + r) ≡ text ++ word_text names limits r

-- the span is one of the bytes, and has a text
pub record IsSpan (bytes : List ℕ) (span : Span) (text : List ℕ) : Type 0 where
  pub ordered : span.start ≤ span.end
  pub within : span.end ≤ length bytes
  pub is : take (span.end - span.start) (drop span.start bytes) ≡ text

-- the text is one that words begin with
pub record IsHead (names : List (List ℕ)) (limits : Limits) (bytes : List ℕ) (head : Head) : Type 0 where
  pub text : List ℕ
  pub span : IsSpan bytes head.text text
  pub begin : BeginWith names limits text head.word head.room

-- the text is that of the word
abbrev pub IsTail : List (List ℕ) → Limits → List ℕ → Tail → Type 0
IsTail names limits bytes tail = IsSpan bytes tail.text (word_text names limits tail.word)

-- the texts are such
pub record AreKept (names : List (List ℕ)) (limits : Limits) (kept : KeptTexts) : Type 0 where
  pub heads : All (IsHead names limits kept.bytes.items) kept.heads.items
  pub tails : All (IsTail names limits kept.bytes.items) kept.tails.items

-- of the powers of a word those before the rest are written, and stand before every rest that is not after it
pub record IsBegun (names : List (List ℕ)) (limits : Limits) (old now : List ℕ) (word rest : ℕ) : Type 0 where
  pub text : List ℕ
  pub grown : now ≡ old ++ text
  pub up : rest ≤ word
  pub begin : BeginWith names limits text (word - rest) rest
