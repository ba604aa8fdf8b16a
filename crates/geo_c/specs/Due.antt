-- What each call is to hand back, and the cause of it. A refusal is told by its numbers alone, without a text.
use Rattle.std.specs.Prelude.{◌≡◌, ◌⊎◌, ℕ, ◌<◌, ◌≤◌, List, [], length}
use Rattle.proof_printer.specs.declared.status.Status.TheVariants.{Syntax, TooLong}
use Rattle.proof_printer.specs.Due.{Due, IsAcceptedDue, IsLogDue, IsReadableDue, SpellsNone}
use Rattle.proof_printer.specs.Status.{refusal_status}
use Rattle.geo_lexer.specs.declared.token_types.Fault.{Fault}
use Rattle.geo_logs.specs.Judging.{Refusal}
use Rattle.log_checker.specs.Judged.{Refuses}

-- what a call with this limit is to hand back: bytes past the limit are too long, whatever they are
abbrev pub IsDueWithin : ℕ → (List ℕ → ℕ → Due → Type 0) → List ℕ → ℕ → Due → Type 0
IsDueWithin limit For bytes steps due =
    ((limit < length bytes) × (due ≡ record { text = []; status = TooLong })) ⊎ ((length bytes ≤ limit) × For bytes steps due)

-- WHAT A PROGRAM CALLS FOR
-- the bytes spell no program
pub record IsBareRefusalDue (bytes : List ℕ) (due : Due) : Type 0 where
  pub fault : Fault
  pub no_program : SpellsNone bytes fault
  pub is : due ≡ record { text = []; status = Syntax fault.refusal fault.place }

-- what `geo_prove` is to hand back
abbrev pub IsProofDue : List ℕ → ℕ → Due → Type 0
IsProofDue = IsDueWithin 1048576 (λ bytes steps due. IsLogDue steps bytes due ⊎ IsBareRefusalDue bytes due)

-- WHAT A LOG CALLS FOR
-- the bytes are refused, at the line of this number
pub record IsBareRejectionDue (steps : ℕ) (bytes : List ℕ) (due : Due) : Type 0 where
  pub number : ℕ
  pub refusal : Refusal
  pub refused : Refuses bytes steps number refusal
  pub is : due ≡ record { text = []; status = refusal_status number refusal }

-- what `geo_check` is to hand back
abbrev pub IsCheckDue : List ℕ → ℕ → Due → Type 0
IsCheckDue = IsDueWithin 67108864 (λ bytes steps due. IsAcceptedDue steps bytes due ⊎ IsBareRejectionDue steps bytes due)

-- what `geo_text` is to hand back
abbrev pub IsTextDue : List ℕ → ℕ → Due → Type 0
IsTextDue = IsDueWithin 67108864 (λ bytes steps due. IsReadableDue steps bytes due ⊎ IsBareRejectionDue steps bytes due)
