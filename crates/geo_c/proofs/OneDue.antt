-- One thing is due at most for bytes, so it is what is told.
use Rattle.std.proofs.Common.{◌≡◌, ◌⊎◌, ℕ, inl, inr, List, [], sym, subst, ◌∙◌, arith}
use Rattle.proof_printer.specs.declared.status.Status.TheVariants.{Syntax}
use Rattle.proof_printer.specs.Due.{Due, IsAcceptedDue, IsLogDue, IsReadableDue}
use Rattle.proof_printer.specs.Status.{refusal_status}
use Rattle.proof_printer.proofs.OneDue.{one_accepted_due, one_log_due, one_readable_due}
use Rattle.geo_c.specs.Answers.{AnswersCall, TellsDue}
use Rattle.geo_c.specs.declared.answers.Answer.{Answer}
use Rattle.geo_c.specs.Due.{IsBareRefusalDue, IsBareRejectionDue, IsCheckDue, IsDueWithin, IsProofDue, IsTextDue}
use Rattle.geo_parser.proofs.SpeltTexts.{one_refusal}
use Rattle.log_checker.proofs.Judged.{accepted_bytes_are_not_refused}
use Rattle.log_checker.proofs.OneStop.{bytes_are_refused_once}

-- WHAT THE BYTES OF A PROGRAM CALL FOR

-- bytes call for one refusal at most
one_refusal_due : (bytes : List ℕ) (due other : Due) → IsBareRefusalDue bytes due → IsBareRefusalDue bytes other → due ≡ other
one_refusal_due bytes due other h g =
    let same : h.fault ≡ g.fault = one_refusal bytes h.fault g.fault h.no_program.refused g.no_program.refused in
    h.is ∙ (λ i. record { text = []; status = Syntax (same i).refusal (same i).place }) ∙ sym g.is

-- one thing is due at most for a program
one_proof : (bytes : List ℕ) (steps : ℕ) (due other : Due) → IsLogDue steps bytes due ⊎ IsBareRefusalDue bytes due
    → IsLogDue steps bytes other ⊎ IsBareRefusalDue bytes other → due ≡ other
one_proof bytes steps due other (inl h) (inl g) = one_log_due steps bytes due other h g
one_proof bytes steps due other (inl h) (inr g) = absurd (g.no_program.spells_none h.program h.spelt)
one_proof bytes steps due other (inr h) (inl g) = absurd (h.no_program.spells_none g.program g.spelt)
one_proof bytes steps due other (inr h) (inr g) = one_refusal_due bytes due other h g

-- WHAT THE BYTES OF A LOG CALL FOR

-- a log is refused once
one_rejection_due : (steps : ℕ) (bytes : List ℕ) (due other : Due) → IsBareRejectionDue steps bytes due
    → IsBareRejectionDue steps bytes other → due ≡ other
one_rejection_due steps bytes due other h g =
    let same = bytes_are_refused_once bytes steps h.number g.number h.refusal g.refusal h.refused g.refused in
    h.is ∙ (λ i. record { text = []; status = refusal_status (same.0 i) (same.1 i) }) ∙ sym g.is

-- one thing is due at most for a log
one_check : (bytes : List ℕ) (steps : ℕ) (due other : Due) → IsAcceptedDue steps bytes due ⊎ IsBareRejectionDue steps bytes due
    → IsAcceptedDue steps bytes other ⊎ IsBareRejectionDue steps bytes other → due ≡ other
one_check bytes steps due other (inl h) (inl g) = one_accepted_due steps bytes due other h g
one_check bytes steps due other (inl h) (inr g) =
    absurd (accepted_bytes_are_not_refused bytes steps g.number h.program h.verdict g.refusal h.accepted g.refused)
one_check bytes steps due other (inr h) (inl g) =
    absurd (accepted_bytes_are_not_refused bytes steps h.number g.program g.verdict h.refusal g.accepted h.refused)
one_check bytes steps due other (inr h) (inr g) = one_rejection_due steps bytes due other h g

-- one thing is due at most for a log that is to be printed
one_print : (bytes : List ℕ) (steps : ℕ) (due other : Due) → IsReadableDue steps bytes due ⊎ IsBareRejectionDue steps bytes due
    → IsReadableDue steps bytes other ⊎ IsBareRejectionDue steps bytes other → due ≡ other
one_print bytes steps due other (inl h) (inl g) = one_readable_due steps bytes due other h g
one_print bytes steps due other (inl h) (inr g) =
    let r = h.readable in absurd (accepted_bytes_are_not_refused bytes steps g.number r.program r.verdict g.refusal r.accepted g.refused)
one_print bytes steps due other (inr h) (inl g) =
    let r = g.readable in absurd (accepted_bytes_are_not_refused bytes steps h.number r.program r.verdict h.refusal r.accepted h.refused)
one_print bytes steps due other (inr h) (inr g) = one_rejection_due steps bytes due other h g

-- WHAT IS TOLD
module _ (limit : ℕ) (For : List ℕ → ℕ → Due → Type 0)
    (one : (bytes : List ℕ) (steps : ℕ) (due other : Due) → For bytes steps due → For bytes steps other → due ≡ other) where
  -- so it is with a limit
  one_within : (bytes : List ℕ) (steps : ℕ) (due other : Due) → IsDueWithin limit For bytes steps due → IsDueWithin limit For bytes steps other
      → due ≡ other
  one_within bytes steps due other (inl h) (inl g) = h.1 ∙ sym g.1
  one_within bytes steps due other (inl h) (inr g) = let no : ⊥ = omega (arith, h.0, g.0) in absurd no
  one_within bytes steps due other (inr h) (inl g) = let no : ⊥ = omega (arith, h.0, g.0) in absurd no
  one_within bytes steps due other (inr h) (inr g) = one bytes steps due other h.1 g.1

  -- what is due was told, or memory ran out
  told_within : (bytes : List ℕ) (steps : ℕ) (before after : List ℕ) (answer : Answer) (number : ℕ)
      → AnswersCall (IsDueWithin limit For bytes steps) before after answer number → (due : Due) → IsDueWithin limit For bytes steps due
      → (number ≡ 10) ⊎ TellsDue due before after answer number
  told_within bytes steps before after answer number (inl (other, is, told)) due h =
      inr (subst (λ (d : Due). TellsDue d before after answer number) (one_within bytes steps other due is h) told)
  told_within bytes steps before after answer number (inr told) due h = inl told.status

module _ (bytes : List ℕ) (steps : ℕ) (before after : List ℕ) (answer : Answer) (number : ℕ) where
  pub proof_told : AnswersCall (IsProofDue bytes steps) before after answer number → (due : Due) → IsProofDue bytes steps due
      → (number ≡ 10) ⊎ TellsDue due before after answer number
  proof_told =
      told_within 1048576 (λ bytes steps due. IsLogDue steps bytes due ⊎ IsBareRefusalDue bytes due) one_proof bytes steps before after answer number

  pub check_told : AnswersCall (IsCheckDue bytes steps) before after answer number → (due : Due) → IsCheckDue bytes steps due
      → (number ≡ 10) ⊎ TellsDue due before after answer number
  check_told =
      told_within 67108864 (λ bytes steps due. IsAcceptedDue steps bytes due ⊎ IsBareRejectionDue steps bytes due)
      one_check bytes steps before after answer number

  pub text_told : AnswersCall (IsTextDue bytes steps) before after answer number → (due : Due) → IsTextDue bytes steps due
      → (number ≡ 10) ⊎ TellsDue due before after answer number
  text_told =
      told_within 67108864 (λ bytes steps due. IsReadableDue steps bytes due ⊎ IsBareRejectionDue steps bytes due)
      one_print bytes steps before after answer number
