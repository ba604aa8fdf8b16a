-- What the lexemes of a text are.
use Rattle.std.proofs.Common.{◌≡◌, ◌==◌, ℕ, zero, suc, ◌+◌, ◌<◌, ◌^◌, pos, neg_ℤ, None, List, [], ◌∷◌, map, drop, get_or, slice_range, All, refl, ap, sym, ◌∙◌, subst, ⊎_elim, arith}
use Rattle.std.specs.Prelude.{unsigned_abs}
use Rattle.std.specs.Str.Parse.{digits_value}
use Rattle.std.proofs.lemmas.Bool.{cases_Bool}
use Rattle.std.proofs.lemmas.List.Elements.{All-cons, All-map, All-nil}
use Rattle.geo_base.specs.Decimals.{decimal_size, decimal_value}
use Rattle.geo_lexer.specs.declared.token_types.Kind.{Kind}
use Rattle.geo_lexer.specs.declared.token_types.Kind.TheVariants.{Word, Number, Open, Close}
use Rattle.geo_lexer.specs.declared.token_types.Token.{Token}
use Rattle.geo_lexer.specs.Bytes.{is_letter}
use Rattle.geo_lexer.specs.Lexemes.{Lexeme, HasLexemes, IsWord, MayStand, lexeme_at, lexeme_of}
use Rattle.geo_lexer.specs.Tokens.{AreTokens, IsTokenAt}
use Rattle.geo_lexer.proofs.Ranges.{get_or-slice_range, length-slice_range}
use Rattle.geo_lexer.proofs.Uniqueness.{one_lexing}

-- a text has one list of lexemes
pub one_meaning : (bytes : List ℕ) (xs ys : List Lexeme) → HasLexemes bytes xs → HasLexemes bytes ys → xs ≡ ys
one_meaning bytes xs ys a b =
    sym a.meant ∙ ap (map (lexeme_of bytes)) (one_lexing bytes a.tokens b.tokens None None a.lexed b.lexed).0 ∙ b.meant

unsigned_abs-neg : (n : ℕ) → unsigned_abs (neg_ℤ (pos n)) ≡ n
unsigned_abs-neg zero = refl
unsigned_abs-neg (suc n) = refl

-- the number that a decimal text writes has its size
pub unsigned_abs-decimal_value : (text : List ℕ) → unsigned_abs (decimal_value text) ≡ decimal_size text
unsigned_abs-decimal_value text =
    ⊎_elim
    (λ minus. rw minus (unsigned_abs-neg (digits_value 10 (drop 1 text))))
    (λ plus. rw plus refl)
    (cases_Bool (get_or text 0 0 == 45))

-- the text of a token that is a word
pub IsWord-token : (bytes : List ℕ) (start end : ℕ) → IsTokenAt bytes Word start end → IsWord (slice_range bytes start end)
IsWord-token bytes start end at =
    let some = at.0.some in
    let short = at.1 in
    let place : start + 0 ≡ start = omega arith in record {
      first = ap is_letter (get_or-slice_range bytes start end 0 (omega arith) ∙ ap (λ (k : ℕ). get_or bytes k 0) place) ∙ at.0.first;
      all = at.0.all;
      short = omega (arith, length-slice_range bytes start end (omega arith) at.0.within);
    }

may_stand : (bytes : List ℕ) (kind : Kind) (start end : ℕ) → IsTokenAt bytes kind start end → MayStand (lexeme_at bytes kind start end)
may_stand bytes Word start end at = IsWord-token bytes start end at
may_stand bytes Number start end at = subst (λ (n : ℕ). n < 2 ^ 127) (sym (unsigned_abs-decimal_value (slice_range bytes start end))) at.1
may_stand bytes Open start end at = tt
may_stand bytes Close start end at = tt

tokens_may_stand : (bytes : List ℕ) (start end : ℕ) (ts : List Token) → AreTokens bytes start ts end → All (λ t. MayStand (lexeme_of bytes t)) ts
tokens_may_stand bytes start end [] are = All-nil (λ (t : Token). MayStand (lexeme_of bytes t))
tokens_may_stand bytes start end (t ∷ ts) are =
    All-cons (λ (u : Token). MayStand (lexeme_of bytes u)) t ts (may_stand bytes t.kind t.start t.end are.1) (tokens_may_stand bytes t.end end ts are.2)

-- the lexemes of a text are those that may stand
pub lexemes_may_stand : (bytes : List ℕ) (xs : List Lexeme) → HasLexemes bytes xs → All MayStand xs
lexemes_may_stand bytes xs has =
    subst (All MayStand) has.meant (All-map MayStand (lexeme_of bytes) has.tokens (tokens_may_stand bytes 0 has.lexed.end has.tokens has.lexed.tokens_are))
