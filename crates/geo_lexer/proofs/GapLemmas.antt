-- Gaps, byte by byte and joined.
use Rattle.std.proofs.Common.{◌≡◌, ℕ, ◌+◌, ◌-◌, ◌≤◌, ◌==◌, Bool, true, false, ◌&&◌, ◌||◌, not, Option, Some, None, List, [], ◌∷◌, ◌++◌}
use Rattle.std.proofs.Common.{length, take, drop, slice_range, refl, sym, ap, ◌∙◌, arith, append-nil}
use Rattle.std.proofs.lemmas.Bool.{and_parts, false≢true, not-true}
use Rattle.std.proofs.lemmas.Bool.Decides.{nat_tests}
use Rattle.std.proofs.Math.Nat.{le_trans}
use Rattle.std.proofs.lemmas.List.{take_all}
use Rattle.std.proofs.lemmas.List.Elements.{All-head, All-tail}
use Rattle.std.proofs.lemmas.List.Folds.{drop_split}
use Rattle.std.specs.List.{AllPass}
use Rattle.geo_lexer.specs.declared.token_types.Fault.{Fault}
use Rattle.geo_lexer.specs.Bytes.{is_blank, is_comment_start, is_gap}
use Rattle.geo_lexer.specs.Tokens.{IsGap, IsLastGap, IsLexedEnd}
use Rattle.geo_lexer.proofs.Ranges.{slice_range_split}

-- these bytes, read from outside a comment, end inside one or not
pub record Leaves (front : List ℕ) (inside : Bool) : Type 0 where
  pub reads : (open_end : Bool) (more : List ℕ) → is_gap open_end false (front ++ more) ≡ is_gap open_end inside more

-- bytes that end outside a comment are a gap
pub Leaves-gap : (bytes : List ℕ) (start i : ℕ) → start + i ≤ length bytes → Leaves (take i (drop start bytes)) false → IsGap bytes start (start + i)
Leaves-gap bytes start i inside leaves =
    let size : start + i - start ≡ i = omega arith in
    let front = take i (drop start bytes) in (
      omega arith,
      inside,
      ap (λ n. is_gap false false (take n (drop start bytes))) size
          ∙ ap (is_gap false false) (sym (append-nil front))
          ∙ leaves.reads false [],
    )

-- all bytes that are left are a last gap
pub Leaves-last : (bytes : List ℕ) (start i : ℕ) (inside : Bool) → start ≤ length bytes → length (drop start bytes) ≤ i → Leaves (take i (drop start bytes)) inside → IsLastGap bytes start
Leaves-last bytes start i inside within all leaves =
    let front = take i (drop start bytes) in (
      within,
      ap (is_gap true false) (sym (append-nil front ∙ take_all i (drop start bytes) all))
          ∙ leaves.reads true [],
    )

-- ---- gaps joined

or-false : (x : Bool) → (x || false) ≡ x
or-false true = refl
or-false false = refl

-- one of two tests passes, and what hangs on it is the same either way
one_of : (blank comment : Bool) (p q x y r : Bool) → (blank && comment) ≡ false → ((blank && p) || (comment && q)) ≡ true
    → (p ≡ true → x ≡ r) → (q ≡ true → y ≡ r) → ((blank && x) || (comment && y)) ≡ r
one_of true true p q x y r apart passes left right = absurd (false≢true (sym apart))
one_of true false p q x y r apart passes left right = or-false x ∙ left (sym (or-false p) ∙ passes)
one_of false true p q x y r apart passes left right = right passes
one_of false false p q x y r apart passes left right = absurd (false≢true passes)

-- no byte is a blank and a `%`
never_both : (b : ℕ) → (is_blank b && is_comment_start b) ≡ false
never_both b = grind (arith, nat_tests)

-- what follows a gap is read as if it stood alone
pub is_gap-append : (open_end inside : Bool) (front more : List ℕ) → is_gap false inside front ≡ true → is_gap open_end inside (front ++ more) ≡ is_gap open_end false more
is_gap-append open_end true [] more gap = absurd (false≢true gap)
is_gap-append open_end false [] more gap = refl
is_gap-append open_end true (b ∷ bs) more gap = is_gap-append open_end (not (b == 10)) bs more gap
is_gap-append open_end false (b ∷ bs) more gap =
    one_of (is_blank b) (is_comment_start b) (is_gap false false bs) (is_gap false true bs) (is_gap open_end false (bs ++ more))
    (is_gap open_end true (bs ++ more)) (is_gap open_end false more) (never_both b) gap
    (λ blank. is_gap-append open_end false bs more blank)
    (λ comment. is_gap-append open_end true bs more comment)

-- and so is what follows a line feed after a last gap
pub is_gap-line : (open_end inside : Bool) (front more : List ℕ) → is_gap true inside front ≡ true → is_gap open_end inside (front ++ 10 ∷ more) ≡ is_gap open_end false more
is_gap-line open_end true [] more gap = refl
is_gap-line open_end false [] more gap = or-false (is_gap open_end false more)
is_gap-line open_end true (b ∷ bs) more gap = is_gap-line open_end (not (b == 10)) bs more gap
is_gap-line open_end false (b ∷ bs) more gap =
    one_of (is_blank b) (is_comment_start b) (is_gap true false bs) (is_gap true true bs) (is_gap open_end false (bs ++ 10 ∷ more))
    (is_gap open_end true (bs ++ 10 ∷ more)) (is_gap open_end false more) (never_both b) gap
    (λ blank. is_gap-line open_end false bs more blank)
    (λ comment. is_gap-line open_end true bs more comment)

-- a text is read from where a gap in it ends
pub from_gap : (open_end : Bool) (bytes : List ℕ) (start place : ℕ) → IsGap bytes start place → is_gap open_end false (drop start bytes) ≡ is_gap open_end false (drop place bytes)
from_gap open_end bytes start place gap =
    ap (is_gap open_end false) (drop_split bytes start place gap.0)
    ∙ is_gap-append open_end false (slice_range bytes start place) (drop place bytes) gap.2

-- two gaps in a row are one
pub IsGap-append : (bytes : List ℕ) (start place end : ℕ) → IsGap bytes start place → IsGap bytes place end → IsGap bytes start end
IsGap-append bytes start place end first second = (
  le_trans first.0 second.0,
  second.1,
  ap (is_gap false false) (slice_range_split bytes start place end first.0 second.0)
      ∙ is_gap-append false false (slice_range bytes start place) (slice_range bytes place end) first.2
      ∙ second.2,
)

-- a gap before the end of a text belongs to it
pub IsLexedEnd-gap : (bytes : List ℕ) (start place : ℕ) (fault : Option Fault) → IsGap bytes start place → IsLexedEnd bytes place fault → IsLexedEnd bytes start fault
IsLexedEnd-gap bytes start place None gap last =
    (le_trans gap.0 gap.1, from_gap true bytes start place gap ∙ last.1)
IsLexedEnd-gap bytes start place (Some fault) gap ends =
    (IsGap-append bytes start place fault.place gap ends.0, ends.1)

-- a text without `%` ends outside a comment
pub closed_without_comment : (bytes : List ℕ) → AllPass (λ b. not (is_comment_start b)) bytes → is_gap true false bytes ≡ true → is_gap false false bytes ≡ true
closed_without_comment [] plain gap = refl
closed_without_comment (b ∷ bs) plain gap =
    let no_comment : is_comment_start b ≡ false = not-true (is_comment_start b) (All-head (λ c. not (is_comment_start c) ≡ true) b bs plain) in
    let parts = and_parts (is_blank b) (is_gap true false bs) (sym (or-false (is_blank b && is_gap true false bs)) ∙ (rw no_comment at gap)) in
    let rest = closed_without_comment bs (All-tail (λ c. not (is_comment_start c) ≡ true) b bs plain) parts.1 in
    rw (parts.0, no_comment, rest) refl
