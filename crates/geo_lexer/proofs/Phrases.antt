-- Texts without comments, put together from words, numbers and braces.
use Rattle.std.proofs.Common.{◌≡◌, ℕ, suc, ◌<◌, ◌≤◌, ◌^◌, true, not, ℤ, pos, negsuc, List, [], ◌∷◌, ◌++◌, get_or, All, refl, sym, subst, arith, append_assoc}
use Rattle.std.specs.Prelude.{unsigned_abs}
use Rattle.std.specs.Fmt.{signed_decimal, decimal}
use Rattle.std.specs.List.{flat_map}
use Rattle.std.proofs.lemmas.Bool.Decides.{nat_tests}
use Rattle.std.proofs.lemmas.Fmt.{decimal_is_IsNumeral_wide}
use Rattle.std.proofs.lemmas.List.Elements.{All-append, All-cons, All-from_get_or, All-head, All-nil, All-tail, All-weaker}
use Rattle.std.proofs.lemmas.Str.Parse.{digit_at}
use Rattle.geo_lexer.specs.Bytes.{is_comment_start, is_word_byte}
use Rattle.geo_lexer.specs.Lexemes.{Lexeme, word_lexeme, number_lexeme, open_brace, close_brace, HasLexemes, IsWord}
use Rattle.geo_lexer.proofs.Joining.{HasLexemes-close, HasLexemes-line, HasLexemes-nil, HasLexemes-number, HasLexemes-open, HasLexemes-space, HasLexemes-word, HasNoComment}

-- the text has these lexemes, and no comment
pub record Spells (text : List ℕ) (lexemes : List Lexeme) : Type 0 where
  pub has : HasLexemes text lexemes
  pub plain : HasNoComment text

-- a byte is no `%`
abbrev IsPlain : ℕ → Type 0
IsPlain b = not (is_comment_start b) ≡ true

-- the empty text
pub Spells-nil : Spells [] []
Spells-nil = record { has = HasLexemes-nil; plain = All-nil IsPlain }

-- the braces
pub Spells-open : Spells (123 ∷ []) (open_brace ∷ [])
Spells-open = record { has = HasLexemes-open; plain = All-cons IsPlain 123 [] refl (All-nil IsPlain) }

pub Spells-close : Spells (125 ∷ []) (close_brace ∷ [])
Spells-close = record { has = HasLexemes-close; plain = All-cons IsPlain 125 [] refl (All-nil IsPlain) }

word_byte_is_plain : (b : ℕ) → is_word_byte b ≡ true → IsPlain b
word_byte_is_plain b word = grind (arith, nat_tests)

-- a word
pub Spells-word : (text : List ℕ) → IsWord text → Spells text (word_lexeme text ∷ [])
Spells-word text word = record {
  has = HasLexemes-word text word;
  plain = All-weaker (λ b. is_word_byte b ≡ true) IsPlain word_byte_is_plain text word.all;
}

digit_is_plain : (b : ℕ) → 48 ≤ b → IsPlain b
digit_is_plain b digit = grind (arith, nat_tests)

decimal_is_plain : (n : ℕ) → n < 10 ^ 64 → HasNoComment (decimal n)
decimal_is_plain n small =
    let digits = decimal_is_IsNumeral_wide n small in
    All-from_get_or IsPlain (decimal n) 0 (λ i inside. digit_is_plain (get_or (decimal n) i 0) (digit_at (decimal n) i digits.0.1 inside).0)

number_is_plain : (z : ℤ) → unsigned_abs z < 10 ^ 64 → HasNoComment (signed_decimal z)
number_is_plain (pos n) small = decimal_is_plain n small
number_is_plain (negsuc n) small = All-cons IsPlain 45 (decimal (suc n)) refl (decimal_is_plain (suc n) small)

-- what is printed for a number within 127 bits
pub Spells-number : (z : ℤ) → unsigned_abs z < 2 ^ 127 → Spells (signed_decimal z) (number_lexeme z ∷ [])
Spells-number z small = record { has = HasLexemes-number z small; plain = number_is_plain z (omega arith) }

joined_is_plain : (text more : List ℕ) (b : ℕ) → IsPlain b → HasNoComment text → HasNoComment more → HasNoComment (text ++ b ∷ more)
joined_is_plain text more b plain first second = All-append IsPlain text (b ∷ more) first (All-cons IsPlain b more plain second)

-- parts with a space between them
pub Spells-space : (text more : List ℕ) (xs ys : List Lexeme) → Spells text xs → Spells more ys → Spells (text ++ 32 ∷ more) (xs ++ ys)
Spells-space text more xs ys first second = record {
  has = HasLexemes-space text more xs ys first.plain first.has second.has;
  plain = joined_is_plain text more 32 refl first.plain second.plain;
}

-- parts with a line feed between them
pub Spells-line : (text more : List ℕ) (xs ys : List Lexeme) → Spells text xs → Spells more ys → Spells (text ++ 10 ∷ more) (xs ++ ys)
Spells-line text more xs ys first second = record {
  has = HasLexemes-line text more xs ys first.has second.has;
  plain = joined_is_plain text more 10 refl first.plain second.plain;
}

-- a line, and then the text that follows it
pub Spells-next : (line text : List ℕ) (xs ys : List Lexeme) → Spells line xs → Spells text ys → Spells ((line ++ 10 ∷ []) ++ text) (xs ++ ys)
Spells-next line text xs ys first second =
    subst (λ (t : List ℕ). Spells t (xs ++ ys)) (sym (append_assoc line (10 ∷ []) text)) (Spells-line line text xs ys first second)

-- any number of lines, each with a line feed after it
pub Spells-lines : {A : Type 0} (line : A → List ℕ) (lexemes : A → List Lexeme) (items : List A)
    → All (λ a. Spells (line a) (lexemes a)) items → Spells (flat_map (λ a. line a ++ 10 ∷ []) items) (flat_map lexemes items)
Spells-lines line lexemes [] all = Spells-nil
Spells-lines line lexemes (a ∷ items) all =
    Spells-next (line a) (flat_map (λ b. line b ++ 10 ∷ []) items) (lexemes a) (flat_map lexemes items)
    (All-head (λ b. Spells (line b) (lexemes b)) a items all)
    (Spells-lines line lexemes items (All-tail (λ b. Spells (line b) (lexemes b)) a items all))
