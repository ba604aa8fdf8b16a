-- Where the words of an order are cut.
use Rattle.std.proofs.Common.{◌≡◌, ℕ, zero, suc, ◌<◌, ◌≤◌, Bool, true, false, List, [], ◌∷◌, ◌++◌, refl, sym, ◌∙◌, ap, subst, get_or}
use Rattle.std.proofs.Common.{length, take, drop, codes, Option, Some, append-nil, length-append, arith}
use Rattle.std.proofs.Common.{String}
use Rattle.std.specs.List.{position_or_len}
use Rattle.std.specs.Str.Parse.{IsNumeral, starts_with_minus}
use Rattle.std.specs.Char.{digit_value}
use Rattle.std.specs.String.{string_bytes}
use Rattle.std.proofs.lemmas.Bool.{ne_eqb}
use Rattle.std.proofs.lemmas.List.{get_or_append_left, get_or_at, get_or-map, take-append-drop, take_at, drop_at, take_all, drop_all, take-map, drop-map, length-map}
use Rattle.std.proofs.lemmas.List.Sums.{position_or_len_is}
use Rattle.geo_cli.specs.declared.order.Command.{Command}
use Rattle.geo_cli.specs.declared.order.Command.TheVariants.{Bench}
use Rattle.geo_cli.specs.declared.order.Order.{Order}
use Rattle.geo_cli.specs.Inner.OrderParts.{SplitsOff, front_of, tail_of}
use Rattle.geo_cli.specs.Orders.{IsOrder, IsRow, TellsSteps}
use Rattle.geo_cli.specs.Words.{bytes_of_words}

-- no word of the list begins with `-`
abbrev pub HasNoOption : List (List ℕ) → Type 0
HasNoOption words = (k : ℕ) → starts_with_minus (get_or words k []) ≡ false

-- a number does not begin with `-`
numeral_no_minus : (text : List ℕ) → IsNumeral 10 text → starts_with_minus text ≡ false
numeral_no_minus [] digits = refl
numeral_no_minus (x ∷ xs) digits =
    ne_eqb x 45 (λ minus. let low : 36 < 10 = subst (λ (n : ℕ). digit_value n < 10) minus digits.1.0 in absurd (omega arith))

one_word : (words : List (List ℕ)) (word : List ℕ) → words ≡ word ∷ [] → starts_with_minus word ≡ false → HasNoOption words
one_word words word is plain zero = rw is plain
one_word words word is plain (suc k) = rw is refl

two_words : (words : List (List ℕ)) (word text : List ℕ) → starts_with_minus word ≡ false → starts_with_minus text ≡ false → words ≡ word ∷ text ∷ [] → HasNoOption words
two_words words word text plain too is zero = rw is plain
two_words words word text plain too is (suc zero) = rw is too
two_words words word text plain too is (suc (suc k)) = rw is refl

-- no word of a row begins with `-`
row_no_option : (words : List (List ℕ)) (command : Command) → IsRow words command → HasNoOption words
row_no_option words (Bench number) (text, is, writes, low, high) =
    two_words words (codes "bench") text refl (numeral_no_minus text writes.digits) is
row_no_option words command row = one_word words _ row refl

-- a row has at most two words
pub length-row : (words : List (List ℕ)) (command : Command) → IsRow words command → length words ≤ 2
length-row words (Bench number) (text, is, writes, low, high) = rw is (omega arith)
length-row words command row = rw row (omega arith)

-- words that are cut at the first that begins with `-`
pub cut_here : {Z : Type 0} (words : List (String Z)) (i : ℕ) → i ≤ length words
    → ((k : ℕ) → k < i → starts_with_minus (get_or (bytes_of_words words) k []) ≡ false)
    → (i < length words → starts_with_minus (get_or (bytes_of_words words) i []) ≡ true)
    → (bytes_of_words (take i words) ≡ front_of (bytes_of_words words)) × (bytes_of_words (drop i words) ≡ tail_of (bytes_of_words words))
cut_here words i within before here =
    let size : length (bytes_of_words words) ≡ length words = length-map words string_bytes in
    let place = position_or_len_is starts_with_minus (bytes_of_words words) i [] (rw size within) before (rw size here) in
    (rw (place, take-map) refl, rw (place, drop-map) refl)

-- where the words before have no option, the first option stands behind them
place_behind : (front rest : List (List ℕ)) (word : List ℕ) → ((k : ℕ) → k < length front → starts_with_minus (get_or front k []) ≡ false)
    → starts_with_minus word ≡ true → position_or_len starts_with_minus (front ++ word ∷ rest) ≡ length front
place_behind front rest word none option =
    position_or_len_is starts_with_minus (front ++ word ∷ rest) (length front) [] (omega (arith, length-append front (word ∷ rest)))
    (λ k low. rw get_or_append_left (none k low)) (λ _. rw (get_or_at front word rest [] (length front) refl) option)

-- words with no option are all cut off in front
place_none : (words : List (List ℕ)) → HasNoOption words → position_or_len starts_with_minus words ≡ length words
place_none words none =
    position_or_len_is starts_with_minus words (length words) [] (omega arith) (λ k _. none k) (λ low. absurd (omega arith))

-- the words in front are the front of a row, and those behind are an option and the back of the row
pub record IsCut (front tail : List (List ℕ)) (order : Order) : Type 0 where
  pub back : List (List ℕ)
  pub splits : SplitsOff tail order.steps back
  pub row : IsRow (front ++ back) order.command

-- the first word of an option begins with `-`
option_word : (word : List ℕ) (words : List (List ℕ)) (steps : ℕ) → TellsSteps (word ∷ words) steps → starts_with_minus word ≡ true
option_word word [] steps (text, is, writes) = rw is refl
option_word word (text ∷ []) steps told = rw told.0 refl
option_word word (text ∷ more ∷ words) steps told = absurd told

cut_at : (words front option back : List (List ℕ)) (order : Order) → words ≡ front ++ (option ++ back) → TellsSteps option order.steps
    → IsRow (front ++ back) order.command → IsCut (front_of words) (tail_of words) order
cut_at words front [] back order placed told row =
    let none : position_or_len starts_with_minus words ≡ length words =
    place_none words (rw placed (row_no_option _ _ row)) in
    let whole : front_of words ≡ words =
    ap (λ (n : ℕ). take n words) none ∙ take_all (length words) words (omega arith) in
    let over : tail_of words ≡ [] =
    ap (λ (n : ℕ). drop n words) none ∙ drop_all (length words) words (omega arith) in
    record {
      back = [];
      splits = record { option = []; joined = over; told = told; all = λ _. refl };
      row = subst (λ (ws : List (List ℕ)). IsRow ws order.command) (sym (append-nil (front_of words) ∙ whole ∙ placed)) row;
    }
cut_at words front (word ∷ option) back order placed told row =
    let none : (k : ℕ) → k < length front → starts_with_minus (get_or front k []) ≡ false =
    λ k low. ap starts_with_minus (sym (get_or_append_left front back [] k low)) ∙ row_no_option _ _ row k in
    let place : position_or_len starts_with_minus words ≡ length front =
    ap (position_or_len starts_with_minus) placed ∙ place_behind front (option ++ back) word none (option_word word option order.steps told) in
    let before : front_of words ≡ front =
    ap (λ (n : ℕ). take n words) place ∙ (ap (take (length front)) placed ∙ take_at front (word ∷ (option ++ back)) (length front) refl) in
    let behind : tail_of words ≡ word ∷ (option ++ back) =
    ap (λ (n : ℕ). drop n words) place ∙ (ap (drop (length front)) placed ∙ drop_at front (word ∷ (option ++ back)) (length front) refl) in
    record {
      back = back;
      splits = record { option = word ∷ option; joined = behind; told = told; all = λ no. cc };
      row = subst (λ (ws : List (List ℕ)). IsRow (ws ++ back) order.command) (sym before) row;
    }

-- the words of an order are cut so, and those that are read are the same
pub order_cut : {Z : Type 0} (read words : List (String Z)) (front tail : List (List ℕ)) (order : Order) → read ≡ words
    → front ≡ front_of (bytes_of_words read) → tail ≡ tail_of (bytes_of_words read) → IsOrder (bytes_of_words words) order
    → IsCut front tail order
order_cut read words front tail order same before behind is =
    rw (before, behind, same) (cut_at (bytes_of_words words) is.front is.option is.back order is.placed is.steps is.row)

-- a row of three words or more is none
pub too_many : {Z : Type 0} (name : String Z) (front rest back : List (String Z)) (command : Command) → front ≡ name ∷ rest
    → 0 < length rest → 0 < length back → IsRow (bytes_of_words front ++ bytes_of_words back) command → ⊥
too_many name front rest back command is some more row =
    omega (arith, length-row _ _ row, length-append (bytes_of_words front) (bytes_of_words back), length-map front string_bytes, length-map back string_bytes, ap length is)

-- the words of a numbered row
pub numbered_words : {Z : Type 0} (name text : List ℕ) (number : String Z) (words rest : List (String Z)) → name ≡ codes "bench"
    → words ≡ number ∷ rest → length rest ≡ 0 → text ≡ string_bytes number → name ∷ bytes_of_words words ≡ codes "bench" ∷ text ∷ []
numbered_words name text number words [] named is none read = rw (named, is, read) refl
numbered_words name text number words (more ∷ rest) named is none read = absurd (omega arith)

-- the words of an option in two words, and those behind it
pub option_words : {Z : Type 0} (word number : String Z) (text : List ℕ) (words rest back : List (String Z)) → words ≡ word ∷ rest
    → rest ≡ number ∷ back → text ≡ string_bytes number → bytes_of_words words ≡ string_bytes word ∷ text ∷ bytes_of_words back
option_words word number text words rest back is more read = rw (is, more, read) refl

-- a word's bytes tell whether it begins with `-`
pub word_at : {Z : Type 0} (words : List (String Z)) (i : ℕ) (word : String Z) (bytes : List ℕ) (b : Bool) → i < length words
    → word ≡ get_or words i word → bytes ≡ string_bytes word → starts_with_minus bytes ≡ b
    → starts_with_minus (get_or (bytes_of_words words) i []) ≡ b
word_at words i word bytes b low is read test =
    let there : get_or (bytes_of_words words) i [] ≡ string_bytes (get_or words i word) =
    get_or-map string_bytes words i word [] low in
    ap starts_with_minus (there ∙ (ap string_bytes (sym is) ∙ sym read)) ∙ test

-- words with no option are all in front
pub cut_none : {Z : Type 0} (words : List (String Z))
    → ((k : ℕ) → k < length words → starts_with_minus (get_or (bytes_of_words words) k []) ≡ false)
    → (bytes_of_words words ≡ front_of (bytes_of_words words)) × ([] ≡ tail_of (bytes_of_words words))
cut_none words none =
    let here = cut_here words (length words) (omega arith) none (λ low. absurd (omega arith)) in (
      ap bytes_of_words (sym (take_all (length words) words (omega arith))) ∙ here.0,
      ap bytes_of_words (sym (drop_all (length words) words (omega arith))) ∙ here.1,
    )

-- the words are those in front, the option, and those behind it
pub placed_of : (words front tail option back : List (List ℕ)) → front ≡ front_of words → tail ≡ tail_of words → tail ≡ option ++ back → words ≡ front ++ (option ++ back)
placed_of words front tail option back before behind joined =
    sym (take-append-drop (position_or_len starts_with_minus words) words)
    ∙ (ap (λ (xs : List (List ℕ)). xs ++ tail_of words) (sym before) ∙ ap (λ (xs : List (List ℕ)). front ++ xs) (sym behind ∙ joined))

-- two orders with the same command and steps are one
pub same_order : (command : Command) (steps : ℕ) (order : Order) → Some command ≡ Some order.command → steps ≡ order.steps → Some (record { command = command; steps = steps }) ≡ Some order
same_order command steps order named told =
    let same : command ≡ order.command = cc in
    λ i. Some (record { command = same i; steps = told i })

-- an answer that is two orders has them equal
pub one_order : (answer : Option Order) → (P : Order → Type 0) → ((order : Order) → P order → answer ≡ Some order) → (a b : Order) → P a → P b → a ≡ b
one_order answer P complete a b p q =
    let first = complete a p in
    let second = complete b q in cc
