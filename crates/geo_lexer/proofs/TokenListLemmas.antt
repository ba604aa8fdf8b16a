-- Tokens in a row.
use Rattle.std.proofs.Common.{◌≡◌, ℕ, ◌<◌, ◌≤◌, Option, Some, List, [], ◌∷◌, ◌++◌, length, All, refl, sym, subst, inl, inr, arith}
use Rattle.std.specs.Prelude.{AllPairs}
use Rattle.std.proofs.lemmas.List.Elements.{All-cons, All-nil, All-weaker}
use Rattle.std.proofs.lemmas.List.Kept.{AllPairs-cons}
use Rattle.geo_lexer.specs.declared.token_types.Fault.{Fault}
use Rattle.geo_lexer.specs.declared.token_types.Kind.{Kind}
use Rattle.geo_lexer.specs.declared.token_types.Kind.TheVariants.{Word, Number, Open, Close}
use Rattle.geo_lexer.specs.declared.token_types.Token.{Token}
use Rattle.geo_lexer.specs.Tokens.{AreTokens, IsBefore, IsFaultAt, IsGap, IsLexed, IsTokenAt, IsWithin}

-- tokens, and then tokens from where they end
pub AreTokens-append : (bytes : List ℕ) (start middle end : ℕ) (ts us : List Token) → AreTokens bytes start ts middle → AreTokens bytes middle us end → AreTokens bytes start (ts ++ us) end
AreTokens-append bytes start middle end [] us before after = subst (λ (n : ℕ). AreTokens bytes n us end) (sym before) after
AreTokens-append bytes start middle end (t ∷ ts) us before after =
    (before.0, before.1, AreTokens-append bytes t.end middle end ts us before.2 after)

-- one more token, after a gap
pub AreTokens-push : (bytes : List ℕ) (start end place : ℕ) (ts : List Token) (t : Token) → AreTokens bytes start ts end
    → IsGap bytes end place → t.start ≡ place → IsTokenAt bytes t.kind t.start t.end → AreTokens bytes start (ts ++ t ∷ []) t.end
AreTokens-push bytes start end place ts t before gap is at =
    AreTokens-append bytes start end t.end ts (t ∷ []) before (subst (IsGap bytes end) (sym is) gap, at, refl)

-- what stands at a place has one or more bytes, all of the text
pub IsTokenAt-within : (bytes : List ℕ) (kind : Kind) (start end : ℕ) → IsTokenAt bytes kind start end → (start < end) × (end ≤ length bytes)
IsTokenAt-within bytes Word start end at = (at.0.some, at.0.within)
IsTokenAt-within bytes Number start end at = (at.0.some, at.0.within)
IsTokenAt-within bytes Open start end at = let one = at.one in (omega arith, at.within)
IsTokenAt-within bytes Close start end at = let one = at.one in (omega arith, at.within)

-- what tokens in a row are, from a place on
pub record StandInRow (bytes : List ℕ) (start : ℕ) (tokens : List Token) (end : ℕ) : Type 0 where
  pub onward : start ≤ end
  pub end_within : end ≤ length bytes
  pub at_places : All (λ t. IsTokenAt bytes t.kind t.start t.end) tokens
  pub within : All (IsWithin bytes) tokens
  pub after : All (λ t. start ≤ t.start) tokens
  pub in_order : AllPairs IsBefore tokens
  pub before : All (λ t. t.end ≤ end) tokens

pub StandInRow-tokens : (bytes : List ℕ) (start end : ℕ) (tokens : List Token) → start ≤ length bytes → AreTokens bytes start tokens end → StandInRow bytes start tokens end
StandInRow-tokens bytes start end [] inside are = record {
  onward = omega arith;
  end_within = omega arith;
  at_places = All-nil (λ (t : Token). IsTokenAt bytes t.kind t.start t.end);
  within = All-nil (IsWithin bytes);
  after = All-nil (λ (t : Token). start ≤ t.start);
  in_order = λ i j d below last. absurd (omega arith);
  before = All-nil (λ (t : Token). t.end ≤ end);
}
StandInRow-tokens bytes start end (t ∷ ts) inside are =
    let place = are.0.0 in
    let within = IsTokenAt-within bytes t.kind t.start t.end are.1 in
    let rest = StandInRow-tokens bytes t.end end ts within.1 are.2 in
    let onward = rest.onward in record {
      onward = omega arith;
      end_within = rest.end_within;
      at_places = All-cons (λ (u : Token). IsTokenAt bytes u.kind u.start u.end) t ts are.1 rest.at_places;
      within = All-cons (IsWithin bytes) t ts within rest.within;
      after = All-cons (λ (u : Token). start ≤ u.start) t ts place (All-weaker (λ (u : Token). t.end ≤ u.start) (λ (u : Token). start ≤ u.start) (λ u later. omega arith) ts rest.after);
      in_order = AllPairs-cons IsBefore t ts rest.after rest.in_order;
      before = All-cons (λ (u : Token). u.end ≤ end) t ts rest.onward rest.before;
    }

-- a fault begins within the text
pub IsFaultAt-within : (bytes : List ℕ) (refusal place : ℕ) → IsFaultAt bytes refusal place → place < length bytes
IsFaultAt-within bytes refusal place (inl nothing) = nothing.1.within
IsFaultAt-within bytes refusal place (inr (inl wide)) =
    let some = wide.1.number.some in
    let within = wide.1.number.within in
    omega arith
IsFaultAt-within bytes refusal place (inr (inr long)) =
    let some = long.1.word.some in
    let within = long.1.word.within in
    omega arith

-- what the tokens of a lexing are
pub StandInRow-lexed : (bytes : List ℕ) (tokens : List Token) (fault : Option Fault) → (lexed : IsLexed bytes tokens fault) → StandInRow bytes 0 tokens lexed.end
StandInRow-lexed bytes tokens fault lexed = StandInRow-tokens bytes 0 lexed.end tokens (omega arith) lexed.tokens_are

-- the fault of a lexing begins within the text
pub fault_is_within : (bytes : List ℕ) (tokens : List Token) (fault : Fault) → IsLexed bytes tokens (Some fault) → fault.place < length bytes
fault_is_within bytes tokens fault lexed = IsFaultAt-within bytes fault.refusal fault.place lexed.end_is.1

-- and after the tokens
pub fault_is_after : (bytes : List ℕ) (tokens : List Token) (fault : Fault) → IsLexed bytes tokens (Some fault) → All (λ t. t.end ≤ fault.place) tokens
fault_is_after bytes tokens fault lexed =
    let gap = lexed.end_is.0.0 in
    let row = StandInRow-lexed bytes tokens (Some fault) lexed in
    All-weaker (λ (t : Token). t.end ≤ lexed.end) (λ (t : Token). t.end ≤ fault.place) (λ t early. omega arith) tokens row.before
