-- The names of a workload are names, and differ.
use Rattle.std.proofs.Common.{◌≡◌, ◌≢◌, ℕ, zero, suc, ◌<◌, ◌≤◌, ◌⊎◌, true, false, leb, List, [], ◌∷◌, ◌++◌, drop, map, length, get_or, refl, sym, ap, subst, ◌∙◌, arith, inl, inr}
use Rattle.std.specs.Prelude.{All, Contains, codes}
use Rattle.std.specs.Fmt.{decimal}
use Rattle.std.specs.List.{AllPass}
use Rattle.std.specs.Str.Parse.{AllDigits}
use Rattle.std.proofs.lemmas.Bool.{leb-true}
use Rattle.std.proofs.lemmas.Bool.Decides.{nat_tests}
use Rattle.std.proofs.lemmas.Fmt.{decimal_injective, decimal_is_IsNumeral, decimal_nonempty, length-decimal-le}
use Rattle.std.proofs.lemmas.List.{map-append}
use Rattle.std.proofs.lemmas.List.Elements.{All-append, All-cons, All-from_recursion, All-nil, Contains-append_cases}
use Rattle.std.proofs.lemmas.List.Sums.{AllPass-from_list_all}
use Rattle.std.proofs.lemmas.Str.Parse.{digit_from_value}
use Rattle.geo_lexer.specs.Bytes.{is_letter, is_word_byte}
use Rattle.geo_program.specs.declared.names.Name.{Name}
use Rattle.geo_program.specs.WellFormed.{AllDiffer}
use Rattle.geo_program.specs.Words.{IsNameText, reserved_words}
use Rattle.geo_prover.specs.Bench.{bench_names, corner_names, numbered_name, quadrangle_names}
use Rattle.geo_prover.proofs.BenchPrograms.{x_name, y_name}

-- NAMES
-- a digit may stand in a word
word_digit : (b : ℕ) → 48 ≤ b → b ≤ 57 → is_word_byte b ≡ true
word_digit b low high =
    let first : leb 48 b ≡ true = grind (arith, nat_tests) in
    let last : leb b 57 ≡ true = grind (arith, nat_tests) in
    let upper : leb 65 b ≡ false = grind (arith, nat_tests) in
    let lower : leb 97 b ≡ false = grind (arith, nat_tests) in
    rw (upper, lower, first, last) refl

word_digits : (ds : List ℕ) → AllDigits 10 ds → AllPass is_word_byte ds
word_digits [] h = All-nil (λ b. is_word_byte b ≡ true)
word_digits (d ∷ ds) h =
    let range = digit_from_value d h.0 in
    All-cons (λ b. is_word_byte b ≡ true) d ds (word_digit d range.0 range.1) (word_digits ds h.1)

-- each reserved word begins with a small letter
reserved_small : AllPass (λ w. leb 97 (get_or w 0 0)) reserved_words
reserved_small = AllPass-from_list_all (λ w. leb 97 (get_or w 0 0)) reserved_words refl

not_reserved : (text : List ℕ) → get_or text 0 0 < 97 → Contains reserved_words text → ⊥
not_reserved text small (k, within, is) =
    let first : leb 97 (get_or text 0 0) ≡ true = subst (λ (w : List ℕ). leb 97 (get_or w 0 0) ≡ true) is (reserved_small k text within) in
    omega (arith, small, leb-true 97 (get_or text 0 0) first)

-- a capital letter and a number
numbered_text : (letter k : ℕ) → is_letter letter ≡ true → is_word_byte letter ≡ true → letter < 97 → k ≤ 60 → IsNameText (letter ∷ decimal k)
numbered_text letter k first word small few = record {
  first = first;
  rest = All-cons (λ b. is_word_byte b ≡ true) letter (decimal k) word (word_digits (decimal k) (decimal_is_IsNumeral k (omega arith)).0.1);
  short = omega (arith, length-decimal-le 2 k (omega arith) (omega (arith, few)) (omega arith));
  free = not_reserved (letter ∷ decimal k) small;
}

corner_texts : (k : ℕ) → k ≤ 60 → All (λ n. IsNameText n.text) (corner_names k)
corner_texts k few =
    All-from_recursion (λ n. IsNameText n.text) (corner_names k) (
      numbered_text 65 k refl refl (omega arith) few,
      (numbered_text 66 k refl refl (omega arith) few, (numbered_text 67 k refl refl (omega arith) few, (numbered_text 68 k refl refl (omega arith) few, tt))),
    )

quadrangle_texts : (n : ℕ) → n ≤ 60 → All (λ n. IsNameText n.text) (quadrangle_names n)
quadrangle_texts zero few = corner_texts 0 few
quadrangle_texts (suc n) few =
    All-append (λ n. IsNameText n.text) (quadrangle_names n) (corner_names (suc n)) (quadrangle_texts n (omega (arith, few))) (corner_texts (suc n) few)

-- one capital letter
letter_text : (letter : ℕ) → is_letter letter ≡ true → is_word_byte letter ≡ true → letter < 97 → IsNameText (letter ∷ [])
letter_text letter first word small = record {
  first = first;
  rest = All-cons (λ b. is_word_byte b ≡ true) letter [] word (All-nil (λ b. is_word_byte b ≡ true));
  short = omega arith;
  free = not_reserved (letter ∷ []) small;
}

pub bench_texts : (n : ℕ) → n ≤ 60 → All (λ n. IsNameText n.text) (bench_names n)
bench_texts n few =
    All-append (λ n. IsNameText n.text) (quadrangle_names n) (x_name ∷ y_name ∷ []) (quadrangle_texts n few)
    (All-from_recursion (λ n. IsNameText n.text) (x_name ∷ y_name ∷ []) (letter_text 88 refl refl (omega arith), (letter_text 89 refl refl (omega arith), tt)))

-- NO TWO ARE THE SAME
abbrev texts : List Name → List (List ℕ)
texts names = map (λ n. n.text) names

-- these names begin with other letters
abbrev BeginOther : ℕ → List Name → Type 0
BeginOther letter [] = Unit {0}
BeginOther letter (n ∷ names) = (get_or n.text 0 0 ≢ letter) × BeginOther letter names

other_letters : (names : List Name) (text : List ℕ) → BeginOther (get_or text 0 0) names → Contains (texts names) text → ⊥
other_letters [] text h (k, within, is) = omega (arith, within)
other_letters (n ∷ names) text h (zero, within, is) = h.0 (ap (λ (t : List ℕ). get_or t 0 0) is)
other_letters (n ∷ names) text h (suc k, within, is) = other_letters names text h.1 (k, omega (arith, within), is)

corners_differ : (k : ℕ) → AllDiffer (corner_names k)
corners_differ k =
    let ab : ◌≢◌ {A = ℕ} 66 65 = λ e. omega (arith, e) in
    let ac : ◌≢◌ {A = ℕ} 67 65 = λ e. omega (arith, e) in
    let ad : ◌≢◌ {A = ℕ} 68 65 = λ e. omega (arith, e) in
    let bc : ◌≢◌ {A = ℕ} 67 66 = λ e. omega (arith, e) in
    let bd : ◌≢◌ {A = ℕ} 68 66 = λ e. omega (arith, e) in
    let cd : ◌≢◌ {A = ℕ} 68 67 = λ e. omega (arith, e) in (
      other_letters (numbered_name 66 k ∷ numbered_name 67 k ∷ numbered_name 68 k ∷ []) (65 ∷ decimal k) (ab, (ac, (ad, tt))),
      (
        other_letters (numbered_name 67 k ∷ numbered_name 68 k ∷ []) (66 ∷ decimal k) (bc, (bd, tt)),
        (other_letters (numbered_name 68 k ∷ []) (67 ∷ decimal k) (cd, tt), (other_letters [] (68 ∷ decimal k) tt, tt)),
      ),
    )

-- names, and then others
AllDiffer-append : (names more : List Name) → AllDiffer names → AllDiffer more → ((text : List ℕ) → Contains (texts names) text → Contains (texts more) text → ⊥) → AllDiffer (names ++ more)
AllDiffer-append [] more h k apart = k
AllDiffer-append (n ∷ names) more h k apart = (
  λ found. cases (Contains-append_cases (texts names) (texts more) n.text (subst (λ (ts : List (List ℕ)). Contains ts n.text) (map-append (λ (x : Name). x.text) names more) found)),
  AllDiffer-append names more h.1 k (λ text (i, within, is) other. apart text (suc i, omega (arith, within), is) other),
)
  where
    cases : Contains (texts names) n.text ⊎ Contains (texts more) n.text → ⊥
    cases (inl first) = h.0 first
    cases (inr last) = apart n.text (0, omega arith, refl) last

-- the text is a letter with a number up to n
pub record IsCorner (n : ℕ) (text : List ℕ) : Type 0 where
  pub letter : ℕ
  pub number : ℕ
  pub low : number ≤ n
  pub is : text ≡ letter ∷ decimal number

-- the text is a letter with this number
pub record IsCornerOf (k : ℕ) (text : List ℕ) : Type 0 where
  pub letter : ℕ
  pub is : text ≡ letter ∷ decimal k

corner_of : (k : ℕ) (text : List ℕ) → Contains (texts (corner_names k)) text → IsCornerOf k text
corner_of k text (zero, within, is) = record { letter = 65; is = sym is }
corner_of k text (suc zero, within, is) = record { letter = 66; is = sym is }
corner_of k text (suc (suc zero), within, is) = record { letter = 67; is = sym is }
corner_of k text (suc (suc (suc zero)), within, is) = record { letter = 68; is = sym is }
corner_of k text (suc (suc (suc (suc i))), within, is) = absurd (omega (arith, within))

quadrangle_of : (n : ℕ) (text : List ℕ) → Contains (texts (quadrangle_names n)) text → IsCorner n text
quadrangle_of zero text found = let one = corner_of 0 text found in record { letter = one.letter; number = 0; low = omega arith; is = one.is }
quadrangle_of (suc n) text found =
    cases (quadrangle_of n text)
    (Contains-append_cases (texts (quadrangle_names n)) (texts (corner_names (suc n))) text
    (subst (λ (ts : List (List ℕ)). Contains ts text)
    (map-append (λ (x : Name). x.text) (quadrangle_names n) (corner_names (suc n))) found))
  where
    cases : (Contains (texts (quadrangle_names n)) text → IsCorner n text) → Contains (texts (quadrangle_names n)) text ⊎ Contains (texts (corner_names (suc n))) text → IsCorner (suc n) text
    cases before (inl first) = let one = before first in record { letter = one.letter; number = one.number; low = omega (arith, one.low); is = one.is }
    cases before (inr last) = let one = corner_of (suc n) text last in record { letter = one.letter; number = suc n; low = omega arith; is = one.is }

-- numbers behind letters
same_number : (a b k m : ℕ) → k ≤ 60 → m ≤ 60 → a ∷ decimal k ≡ b ∷ decimal m → k ≡ m
same_number a b k m hk hm e = decimal_injective k m (omega (arith, hk)) (omega (arith, hm)) (ap (drop 1) e)

quadrangles_differ : (n : ℕ) → n ≤ 60 → AllDiffer (quadrangle_names n)
quadrangles_differ zero few = corners_differ 0
quadrangles_differ (suc n) few =
    AllDiffer-append (quadrangle_names n) (corner_names (suc n)) (quadrangles_differ n (omega (arith, few))) (corners_differ (suc n)) apart
  where
    apart : (text : List ℕ) → Contains (texts (quadrangle_names n)) text → Contains (texts (corner_names (suc n))) text → ⊥
    apart text first last =
        let one = quadrangle_of n text first in
        let other = corner_of (suc n) text last in
        let same = same_number one.letter other.letter one.number (suc n) (omega (arith, one.low, few)) few (sym one.is ∙ other.is) in
        omega (arith, same, one.low)

-- a letter alone is no letter with a number
no_number : (a b k : ℕ) → k ≤ 60 → a ∷ [] ≡ b ∷ decimal k → ⊥
no_number a b k few e = omega (arith, ap (λ (t : List ℕ). length (drop 1 t)) e, decimal_nonempty k (omega (arith, few)))

last_of : (text : List ℕ) → Contains (texts (x_name ∷ y_name ∷ [])) text → (a : ℕ) × (text ≡ a ∷ [])
last_of text (zero, within, is) = (88, sym is)
last_of text (suc zero, within, is) = (89, sym is)
last_of text (suc (suc i), within, is) = absurd (omega (arith, within))

pub bench_differ : (n : ℕ) → n ≤ 60 → AllDiffer (bench_names n)
bench_differ n few =
    let xy : ◌≢◌ {A = ℕ} 89 88 = λ e. omega (arith, e) in
    AllDiffer-append (quadrangle_names n) (x_name ∷ y_name ∷ []) (quadrangles_differ n few)
    (other_letters (y_name ∷ []) (codes "X") (xy, tt), (other_letters [] (codes "Y") tt, tt)) apart
  where
    apart : (text : List ℕ) → Contains (texts (quadrangle_names n)) text → Contains (texts (x_name ∷ y_name ∷ [])) text → ⊥
    apart text first last =
        let one = quadrangle_of n text first in
        let other = last_of text last in
        no_number other.0 one.letter one.number (omega (arith, one.low, few)) (sym other.1 ∙ one.is)
