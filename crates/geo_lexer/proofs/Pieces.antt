-- What stands at a place is of one kind, and ends at one place.
use Rattle.std.proofs.Common.{◌≡◌, ◌==◌, ℕ, ◌+◌, ◌-◌, ◌<◌, ◌≤◌, ◌^◌, ◌⊎◌, Bool, true, false, cond, List, length, drop, get_or, slice_range}
use Rattle.std.proofs.Common.{refl, ap, sym, ◌∙◌, subst, inl, inr, ⊎_elim, arith, length-drop, get_or-drop}
use Rattle.std.specs.Str.Parse.{IsNumeral}
use Rattle.std.proofs.lemmas.Bool.{cases_Bool, cases_order, eq-eqb, eqb-true, false≢true}
use Rattle.std.proofs.lemmas.Bool.Decides.{nat_tests}
use Rattle.std.proofs.lemmas.List.Elements.{All-get_or}
use Rattle.std.proofs.lemmas.Str.Parse.{digit_at}
use Rattle.geo_base.specs.Decimals.{IsDecimal, decimal_size}
use Rattle.geo_lexer.specs.declared.token_types.Kind.{Kind}
use Rattle.geo_lexer.specs.declared.token_types.Kind.TheVariants.{Word, Number, Open, Close}
use Rattle.geo_lexer.specs.Bytes.{is_blank, is_comment_start, is_digit, is_letter, is_word_byte}
use Rattle.geo_lexer.specs.Tokens.{BeginsNothing, IsByteAt, IsNumberAt, IsTokenAt, IsWordAt, StopsAt}
use Rattle.geo_lexer.proofs.Ranges.{get_or-slice_range, length-slice_range}

-- a word, a number or a brace, of any length and size
abbrev pub IsPieceAt : List ℕ → Kind → ℕ → ℕ → Type 0
IsPieceAt bytes Word start end = IsWordAt bytes start end
IsPieceAt bytes Number start end = IsNumberAt bytes start end
IsPieceAt bytes Open start end = IsByteAt 123 bytes start end
IsPieceAt bytes Close start end = IsByteAt 125 bytes start end

-- its length and size are those of a token
abbrev pub IsSmall : List ℕ → Kind → ℕ → ℕ → Type 0
IsSmall bytes Word start end = end ≤ start + 64
IsSmall bytes Number start end = decimal_size (slice_range bytes start end) < 2 ^ 127
IsSmall bytes Open start end = Unit {0}
IsSmall bytes Close start end = Unit {0}

pub IsPieceAt-token : (bytes : List ℕ) (kind : Kind) (start end : ℕ) → IsTokenAt bytes kind start end → IsPieceAt bytes kind start end × IsSmall bytes kind start end
IsPieceAt-token bytes Word start end at = at
IsPieceAt-token bytes Number start end at = at
IsPieceAt-token bytes Open start end at = (at, tt)
IsPieceAt-token bytes Close start end at = (at, tt)

-- the kind of what a byte begins
abbrev kind_of : ℕ → Kind
kind_of b = cond (is_letter b) Word (cond (b == 123) Open (cond (b == 125) Close Number))

-- what the first byte of a piece is
abbrev pub MayBegin : Kind → ℕ → Type 0
MayBegin Word b = is_letter b ≡ true
MayBegin Number b = (is_digit b ≡ true) ⊎ (b ≡ 45)
MayBegin Open b = b ≡ 123
MayBegin Close b = b ≡ 125

kind_is : (kind : Kind) (b : ℕ) → MayBegin kind b → kind_of b ≡ kind
kind_is Word b may = rw may refl
kind_is Number b (inl digit) =
    let word : is_letter b ≡ false = grind (arith, nat_tests) in
    let open_ : (b == 123) ≡ false = grind (arith, nat_tests) in
    let close_ : (b == 125) ≡ false = grind (arith, nat_tests) in
    rw (word, open_, close_) refl
kind_is Number b (inr minus) = rw minus refl
kind_is Open b may = rw may refl
kind_is Close b may = rw may refl

-- what begins a piece is no blank and no `%`
pub piece_is_no_gap : (kind : Kind) (b : ℕ) → MayBegin kind b → (is_blank b ≡ false) × (is_comment_start b ≡ false)
piece_is_no_gap Word b may = (grind (arith, nat_tests), grind (arith, nat_tests))
piece_is_no_gap Number b (inl digit) = (grind (arith, nat_tests), grind (arith, nat_tests))
piece_is_no_gap Number b (inr minus) = rw minus (refl, refl)
piece_is_no_gap Open b may = rw may (refl, refl)
piece_is_no_gap Close b may = rw may (refl, refl)

-- ---- decimal texts byte by byte

-- a decimal text begins with a digit or with `-`
decimal_first : (xs : List ℕ) → IsDecimal xs → (is_digit (get_or xs 0 0) ≡ true) ⊎ (get_or xs 0 0 ≡ 45)
decimal_first xs decimal =
    ⊎_elim
    (λ minus. inr (eqb-true (get_or xs 0 0) 45 minus))
    (λ plus.
    let numeral : IsNumeral 10 xs = subst (λ (t : Bool). IsNumeral 10 (cond t (drop 1 xs) xs)) plus decimal in
    let digit = digit_at xs 0 numeral.1 numeral.0 in
    inl (grind (arith, nat_tests)))
    (cases_Bool (get_or xs 0 0 == 45))

-- all its other bytes are digits
decimal_next : (xs : List ℕ) (i : ℕ) → IsDecimal xs → 0 < i → i < length xs → is_digit (get_or xs i 0) ≡ true
decimal_next xs i decimal later inside =
    ⊎_elim
    (λ minus.
    let numeral : IsNumeral 10 (drop 1 xs) = subst (λ (t : Bool). IsNumeral 10 (cond t (drop 1 xs) xs)) minus decimal in
    let digit = digit_at (drop 1 xs) (i - 1) numeral.1 (omega (arith, length-drop 1 xs)) in
    let place : 1 + (i - 1) ≡ i = omega arith in
    let same : get_or (drop 1 xs) (i - 1) 0 ≡ get_or xs i 0 = get_or-drop 1 xs (i - 1) 0 ∙ ap (λ (k : ℕ). get_or xs k 0) place in
    grind (arith, nat_tests))
    (λ plus.
    let numeral : IsNumeral 10 xs = subst (λ (t : Bool). IsNumeral 10 (cond t (drop 1 xs) xs)) plus decimal in
    let digit = digit_at xs i numeral.1 inside in
    grind (arith, nat_tests))
    (cases_Bool (get_or xs 0 0 == 45))

-- after its `-` there is a digit
decimal_more : (xs : List ℕ) → IsDecimal xs → get_or xs 0 0 ≡ 45 → 1 < length xs
decimal_more xs decimal minus =
    let numeral : IsNumeral 10 (drop 1 xs) = subst (λ (t : Bool). IsNumeral 10 (cond t (drop 1 xs) xs)) (eq-eqb (get_or xs 0 0) 45 minus) decimal in
    omega (arith, numeral.0, length-drop 1 xs)

-- ---- pieces

-- the first byte of a piece
pub first_of_piece : (bytes : List ℕ) (kind : Kind) (start end : ℕ) → IsPieceAt bytes kind start end → MayBegin kind (get_or bytes start 0)
first_of_piece bytes Word start end at = at.first
first_of_piece bytes Number start end at =
    let some = at.some in
    let place : start + 0 ≡ start = omega arith in
    let same : get_or (slice_range bytes start end) 0 0 ≡ get_or bytes start 0 = get_or-slice_range bytes start end 0 (omega arith) ∙ ap (λ (k : ℕ). get_or bytes k 0) place in
    subst (MayBegin Number) same (decimal_first (slice_range bytes start end) at.decimal)
first_of_piece bytes Open start end at = at.same
first_of_piece bytes Close start end at = at.same

-- a run does not go on where it stops
stops_there : (test : ℕ → Bool) (bytes : List ℕ) (end : ℕ) → StopsAt test bytes end → end < length bytes → test (get_or bytes end 0) ≡ true → ⊥
stops_there test bytes end (inl ends) more passes = omega arith
stops_there test bytes end (inr stops) more passes = let fails = stops.1 in cc

-- so one piece is no longer than another of its kind
no_longer : (bytes : List ℕ) (kind : Kind) (start end far : ℕ) → IsPieceAt bytes kind start end → IsPieceAt bytes kind start far → end < far → ⊥
no_longer bytes Word start end far short long more =
    let some = short.some in
    let within = long.within in
    let place : start + (end - start) ≡ end = omega arith in
    let passes = All-get_or (λ b. is_word_byte b ≡ true) (slice_range bytes start far) (end - start) 0 (omega (arith, length-slice_range bytes start far (omega arith) within)) long.all in
    stops_there is_word_byte bytes end short.whole (omega arith)
    (ap is_word_byte (sym (get_or-slice_range bytes start far (end - start) (omega arith) ∙ ap (λ (k : ℕ). get_or bytes k 0) place)) ∙ passes)
no_longer bytes Number start end far short long more =
    let some = short.some in
    let within = long.within in
    let place : start + (end - start) ≡ end = omega arith in
    let passes = decimal_next (slice_range bytes start far) (end - start) long.decimal (omega arith) (omega (arith, length-slice_range bytes start far (omega arith) within)) in
    stops_there is_digit bytes end short.whole (omega arith)
    (ap is_digit (sym (get_or-slice_range bytes start far (end - start) (omega arith) ∙ ap (λ (k : ℕ). get_or bytes k 0) place)) ∙ passes)
no_longer bytes Open start end far short long more =
    let one = short.one in let other = long.one in omega arith
no_longer bytes Close start end far short long more =
    let one = short.one in let other = long.one in omega arith

same_end : (bytes : List ℕ) (kind : Kind) (start end far : ℕ) → IsPieceAt bytes kind start end → IsPieceAt bytes kind start far → end ≡ far
same_end bytes kind start end far one other =
    ⊎_elim (λ same. same) (λ apart. absurd (⊎_elim (no_longer bytes kind start end far one other) (no_longer bytes kind start far end other one) apart)) (cases_order end far)

-- what stands at a place is one piece
pub record IsSamePiece (kind other : Kind) (end far : ℕ) : Type 0 where
  pub kinds : kind ≡ other
  pub ends : end ≡ far

pub same_piece : (bytes : List ℕ) (kind other : Kind) (start end far : ℕ) → IsPieceAt bytes kind start end → IsPieceAt bytes other start far → IsSamePiece kind other end far
same_piece bytes kind other start end far at too =
    let kinds : kind ≡ other = sym (kind_is kind (get_or bytes start 0) (first_of_piece bytes kind start end at))
    ∙ kind_is other (get_or bytes start 0) (first_of_piece bytes other start far too) in record {
      kinds = kinds;
      ends = same_end bytes other start end far (subst (λ (k : Kind). IsPieceAt bytes k start end) kinds at) too;
    }

-- a `-` that begins a number has a digit after it
digit_after_minus : (bytes : List ℕ) (start end : ℕ) → IsNumberAt bytes start end → get_or bytes start 0 ≡ 45 → (start + 1 < length bytes) × (is_digit (get_or bytes (start + 1) 0) ≡ true)
digit_after_minus bytes start end at minus =
    let text = slice_range bytes start end in
    let some = at.some in
    let within = at.within in
    let size = length-slice_range bytes start end (omega arith) within in
    let place : start + 0 ≡ start = omega arith in
    let first : get_or text 0 0 ≡ 45 = get_or-slice_range bytes start end 0 (omega arith) ∙ ap (λ (k : ℕ). get_or bytes k 0) place ∙ minus in
    let more = decimal_more text at.decimal first in
    (omega arith, ap is_digit (sym (get_or-slice_range bytes start end 1 (omega arith))) ∙ decimal_next text 1 at.decimal (omega arith) more)

-- a byte that begins nothing begins no piece
pub nothing_is_no_piece : (bytes : List ℕ) (kind : Kind) (start end : ℕ) → BeginsNothing bytes start → IsPieceAt bytes kind start end → ⊥
nothing_is_no_piece bytes Word start end nothing at = let letter = at.first in let none = nothing.no_word in cc
nothing_is_no_piece bytes Number start end nothing at =
    ⊎_elim
    (λ digit. let none = nothing.no_digit in cc)
    (λ minus. let after = digit_after_minus bytes start end at minus in let passes = after.1 in let none = nothing.no_minus minus after.0 in cc)
    (first_of_piece bytes Number start end at)
nothing_is_no_piece bytes Open start end nothing at = false≢true (sym (rw at.same at nothing.no_brace))
nothing_is_no_piece bytes Close start end nothing at = false≢true (sym (rw at.same at nothing.no_brace))
