-- Words and numbers, by the runs that they are made of.
use Rattle.std.proofs.Common.{◌≡◌, ◌==◌, ℕ, ◌+◌, ◌-◌, ◌<◌, ◌⊎◌, IsTrue, Bool, true, false, List, ◌∷◌, length, drop, get_or, slice_index}
use Rattle.std.proofs.Common.{slice_range, refl, ap, sym, ◌∙◌, subst, inl, inr, ⊎_elim, arith, length-drop, length-take}
use Rattle.std.specs.List.{list_all}
use Rattle.std.proofs.Math.Nat.{eq-or-lt_of_le}
use Rattle.std.proofs.lemmas.Bool.{and_from}
use Rattle.std.proofs.lemmas.Bool.Decides.{nat_tests}
use Rattle.std.proofs.lemmas.List.Sums.{list_all-from_AllPass}
use Rattle.geo_base.specs.Decimals.{IsDecimal}
use Rattle.geo_base.proofs.DigitLemmas.{AllDigits-from_list_all}
use Rattle.geo_lexer.specs.declared.token_types.Fault.{Fault}
use Rattle.geo_lexer.specs.declared.token_types.Kind.{Kind}
use Rattle.geo_lexer.specs.declared.token_types.Token.{Token}
use Rattle.geo_lexer.specs.Bytes.{is_digit, is_letter, is_word_byte}
use Rattle.geo_lexer.specs.Tokens.{BeginsNothing, IsFaultAt, IsNumberAt, IsTokenAt, IsWordAt, StopsAt}
use Rattle.geo_lexer.proofs.Ranges.{slice_range_first}
use Rattle.geo_lexer.proofs.Runs.{IsRun}

-- a run whose first byte passes has some bytes
some_of_first : (test : ℕ → Bool) (bytes : List ℕ) (start end : ℕ) → start < length bytes → test (get_or bytes start 0) ≡ true → IsRun test bytes start end → start < end
some_of_first test bytes start end inside passes run =
    ⊎_elim
    (λ same. ⊎_elim
    (λ ends. absurd (omega arith))
    (λ stops. let fails : test (get_or bytes start 0) ≡ false = ap (λ (k : ℕ). test (get_or bytes k 0)) same ∙ stops.1 in cc)
    run.whole)
    (λ more. more)
    (eq-or-lt_of_le run.onward)

-- a letter is a byte of a word
letter_in_word : (b : ℕ) → is_letter b ≡ true → is_word_byte b ≡ true
letter_in_word b letter = grind (arith, nat_tests)

-- a run of bytes of words that begins with a letter is a word
pub IsWordAt-run : (bytes : List ℕ) (start end : ℕ) → start < length bytes → IsTrue (is_letter (slice_index bytes start)) → IsRun is_word_byte bytes start end → IsWordAt bytes start end
IsWordAt-run bytes start end inside letter run = record {
  some = some_of_first is_word_byte bytes start end inside (letter_in_word (get_or bytes start 0) letter) run;
  within = run.within;
  first = letter;
  all = run.all;
  whole = run.whole;
}

-- a token of a kind from one place to another is what was asked of it
pub token_is : (bytes : List ℕ) (t : Token) (kind : Kind) (start end : ℕ) → t.kind ≡ kind → t.start ≡ start → t.end ≡ end
    → IsTokenAt bytes kind start end → (t.start ≡ start) × IsTokenAt bytes t.kind t.start t.end
token_is bytes t kind start end kind_is start_is end_is at = (start_is, rw (kind_is, start_is, end_is) at)

-- a fault at a place is what was asked of it
pub fault_is : (bytes : List ℕ) (f : Fault) (refusal place : ℕ) → f.refusal ≡ refusal → f.place ≡ place → IsFaultAt bytes refusal place → (f.place ≡ place) × IsFaultAt bytes f.refusal f.place
fault_is bytes f refusal place refusal_is place_is at = (place_is, rw (refusal_is, place_is) at)

-- digits are a decimal text
decimal_digits : (b : ℕ) (ds : List ℕ) → is_digit b ≡ true → list_all is_digit ds ≡ true → IsDecimal (b ∷ ds)
decimal_digits b ds digit all =
    let plus : (b == 45) ≡ false = grind (arith, nat_tests) in
    rw plus (omega arith, AllDigits-from_list_all (b ∷ ds) (and_from (is_digit b) (list_all is_digit ds) digit all))

-- and so are digits with a `-` before them
decimal_minus : (b : ℕ) (ds : List ℕ) → b ≡ 45 → 0 < length ds → list_all is_digit ds ≡ true → IsDecimal (b ∷ ds)
decimal_minus b ds minus some all = rw minus (some, AllDigits-from_list_all ds all)

-- a decimal text with all its digits is a number
pub IsNumberAt-run : (bytes : List ℕ) (start end : ℕ) → IsRun is_digit bytes (start + 1) end → IsDecimal (slice_range bytes start end) → IsNumberAt bytes start end
IsNumberAt-run bytes start end run decimal =
    let onward = run.onward in record {
      some = omega arith;
      within = run.within;
      decimal = decimal;
      whole = run.whole;
    }

-- a digit with the digits after it is a number
pub number_of_digit : (bytes : List ℕ) (start end : ℕ) → start < length bytes → is_digit (get_or bytes start 0) ≡ true → IsRun is_digit bytes (start + 1) end → IsDecimal (slice_range bytes start end)
number_of_digit bytes start end inside digit run =
    let onward = run.onward in
    let rest = slice_range bytes (start + 1) end in
    subst IsDecimal (sym (slice_range_first bytes start end inside (omega arith)))
    (decimal_digits (get_or bytes start 0) rest digit (list_all-from_AllPass is_digit rest run.all))

-- and so is a `-` with one or more digits after it
pub number_of_minus : (bytes : List ℕ) (start end : ℕ) → start < length bytes → get_or bytes start 0 ≡ 45 → start + 1 < end
    → IsRun is_digit bytes (start + 1) end → IsDecimal (slice_range bytes start end)
number_of_minus bytes start end inside minus more run =
    let within = run.within in
    let rest = slice_range bytes (start + 1) end in
    let some : 0 < length rest = omega (arith, length-take (end - (start + 1)) (drop (start + 1) bytes), length-drop (start + 1) bytes) in
    subst IsDecimal (sym (slice_range_first bytes start end inside (omega arith)))
    (decimal_minus (get_or bytes start 0) rest minus some (list_all-from_AllPass is_digit rest run.all))

-- a `-` whose run of digits is empty begins nothing
pub bare_minus : (bytes : List ℕ) (start : ℕ) → start < length bytes → get_or bytes start 0 ≡ 45 → StopsAt is_digit bytes (start + 1) → BeginsNothing bytes start
bare_minus bytes start inside minus stops = record {
  within = inside;
  no_word = rw minus refl;
  no_digit = rw minus refl;
  no_brace = rw minus refl;
  no_blank = rw minus refl;
  no_comment = rw minus refl;
  no_minus = λ _ more. ⊎_elim (λ ends. absurd (omega arith)) (λ fails. fails.1) stops;
}

-- a digit or a `-` that begins no decimal text begins nothing
pub BeginsNothing-run : (bytes : List ℕ) (start end : ℕ) → start < length bytes → IsTrue (is_digit (slice_index bytes start))
    ⊎ (slice_index bytes start ≡ 45) → IsRun is_digit bytes (start + 1) end → ¬ (IsDecimal (slice_range bytes start end))
    → BeginsNothing bytes start
BeginsNothing-run bytes start end inside (inl digit) run none =
    absurd (none (number_of_digit bytes start end inside digit run))
BeginsNothing-run bytes start end inside (inr minus) run none =
    ⊎_elim
    (λ same. bare_minus bytes start inside minus (subst (StopsAt is_digit bytes) (sym same) run.whole))
    (λ more. absurd (none (number_of_minus bytes start end inside minus more run)))
    (eq-or-lt_of_le run.onward)
