-- A refusal stands within its text, or at its end.
use Rattle.std.proofs.Common.{◌≡◌, ℕ, zero, ◌≤◌, List, [], ◌∷◌, length, Option, None, Some, refl, ap, subst, arith}
use Rattle.std.specs.Prelude.{option_map}
use Rattle.std.specs.List.{AllByRecursion}
use Rattle.std.proofs.lemmas.List.Elements.{recursion_from_All}
use Rattle.geo_lexer.specs.declared.token_types.Fault.{Fault}
use Rattle.geo_lexer.specs.declared.token_types.Token.{Token}
use Rattle.geo_lexer.specs.Lexemes.{lexeme_of}
use Rattle.geo_lexer.specs.Tokens.{IsLexed, IsWithin}
use Rattle.geo_lexer.proofs.TokenListLemmas.{StandInRow-lexed, fault_is_within}
use Rattle.geo_parser.specs.Forms.{Slot, command_slot}
use Rattle.geo_parser.specs.Refusals.{IsRefused, end_fault, fault_at, first_fault, placed_lexemes}
use Rattle.geo_parser.specs.Slots.{Outcome, Reading, beginning, next, refusal_at_end, refused, taken}

-- the place of a refusal, and 0 where there is none
abbrev place_of : Option Fault → ℕ
place_of None = zero
place_of (Some fault) = fault.place

told_within : (bytes : List ℕ) (told fault : Fault) → Some told ≡ Some fault → told.place ≤ length bytes → fault.place ≤ length bytes
told_within bytes told fault e h = let same : told.place ≡ fault.place = ap place_of e in omega (arith, same, h)

module _ (bytes : List ℕ) (fault : Fault) where
  at_end : (refusal : Option ℕ) → option_map (fault_at (length bytes)) refusal ≡ Some fault → fault.place ≤ length bytes
  at_end None e = absurd (let no : ◌≡◌ {A = Option Fault} None (Some fault) = e in cc)
  at_end (Some n) e = told_within bytes (fault_at (length bytes) n) fault e (omega arith)

  behind_tokens : (slots : List Slot) (stop : Option Fault) → ((f : Fault) → stop ≡ Some f → f.place ≤ length bytes)
      → end_fault slots (length bytes) stop ≡ Some fault → fault.place ≤ length bytes
  behind_tokens slots (Some f) within e = told_within bytes f fault e (within f refl)
  behind_tokens slots None within e = at_end (refusal_at_end slots) e

  first_within : (r : Reading) (slots : List Slot) (tokens : List Token) (stop : Option Fault) → AllByRecursion (IsWithin bytes) tokens
      → ((f : Fault) → stop ≡ Some f → f.place ≤ length bytes)
      → first_fault r slots (placed_lexemes bytes tokens) (length bytes) stop ≡ Some fault
      → fault.place ≤ length bytes
  first_within r slots [] stop inside within e = behind_tokens slots stop within e
  first_within r slots (t ∷ ts) stop inside within e =
      go (next r slots (lexeme_of bytes t)) (λ s rest. first_within s rest ts stop inside.1 within) e
    where
      go : (o : Outcome)
          → ((s : Reading) (rest : List Slot) → first_fault s rest (placed_lexemes bytes ts) (length bytes) stop ≡ Some fault → fault.place ≤ length bytes)
          → ◌≡◌ {A = Option Fault}
          (elim o [
            | refused n ↦ Some (fault_at t.start n)
            | taken s rest ↦ first_fault s rest (placed_lexemes bytes ts) (length bytes) stop
          ]) (Some fault) → fault.place ≤ length bytes
      go (refused n) more e = told_within bytes (fault_at t.start n) fault e (omega (arith, inside.0.0, inside.0.1))
      go (taken s rest) more e = more s rest e

pub refusal_within : (bytes : List ℕ) (fault : Fault) → IsRefused bytes fault → fault.place ≤ length bytes
refusal_within bytes fault h =
    first_within bytes fault beginning (command_slot ∷ []) h.tokens h.stop
    (recursion_from_All (IsWithin bytes) h.tokens (StandInRow-lexed bytes h.tokens h.stop h.lexed).within) (stop_within h.stop h.lexed) h.first
  where
    stop_within : (stop : Option Fault) → IsLexed bytes h.tokens stop → (f : Fault) → stop ≡ Some f → f.place ≤ length bytes
    stop_within stop lexed f e =
        let here : IsLexed bytes h.tokens (Some f) = subst (IsLexed bytes h.tokens) e lexed in
        let below = fault_is_within bytes h.tokens f here in omega (arith, below)
