-- What follows from a verdict that is told, and from a proof that is written.
use Rattle.std.proofs.Common.{◌≡◌, inl, inr, ℕ, ◌<◌, ◌≤◌, ◌^◌, List, sym, ◌∙◌, ap, subst, arith}
use Rattle.proof_printer.specs.Due.{Due, IsAcceptedDue, IsLogDue, IsReadableDue, accepted_text}
use Rattle.proof_printer.specs.Status.{refusal_status, status_at, status_number}
use Rattle.proof_printer.proofs.StatusNumbers.{accepted_log, ending_of_numbers, not_a_verdict, refusal_number, verdict_of_numbers}
use Rattle.geo_c.specs.Answers.{AnswersCall, HandsBack, TellsDue, TellsVerdict}
use Rattle.geo_c.specs.Calls.{ChecksBytes, PrintsBytes, ProvesBytes}
use Rattle.geo_c.specs.declared.answers.Answer.{Answer}
use Rattle.geo_c.specs.Due.{IsCheckDue, IsProofDue, IsTextDue}
use Rattle.geo_logs.specs.Ends.{ends_with}
use Rattle.geo_program.specs.Programs.{source_of}
use Rattle.log_checker.specs.ProgramLogs.{IsLogOf}
use Rattle.log_checker.specs.Accepted.{Accepts}
use Rattle.log_checker.proofs.AcceptedBytes.{accepted_bytes_mean}
use Rattle.proof_log.specs.declared.log.Verdict.{Verdict}
use Rattle.proof_log.specs.Lines.{log_text}

module _ (bytes : List ℕ) (steps : ℕ) (before after : List ℕ) (answer : Answer) (number : ℕ) where
  -- what is told of something that is due
  told_number : (due other : Due) → due ≡ other → TellsDue due before after answer number → status_number other.status ≡ number
  told_number due other is told = sym (told.status ∙ ap (λ (d : Due). status_number d.status) is)

  told_at : (due other : Due) → due ≡ other → TellsDue due before after answer number → status_at other.status ≡ answer.at
  told_at due other is told = sym (told.at_told ∙ ap (λ (d : Due). status_at d.status) is)

  told_text : (due other : Due) → due ≡ other → TellsDue due before after answer number → HandsBack other.text before after answer
  told_text due other is told = subst (λ (d : Due). HandsBack d.text before after answer) is told.text

  module _ (verdict : Verdict) (says : TellsVerdict verdict answer number) where
    -- a log that was written
    log_proves : (due : Due) → IsLogDue steps bytes due → steps < 2 ^ 127 → TellsDue due before after answer number
        → ProvesBytes bytes steps before after answer verdict
    log_proves due log small told =
        let number_told = told_number due _ log.is told ∙ says.0 in
        let ends = ending_of_numbers verdict log.lines log.ending number_told (told_at due _ log.is told ∙ says.1) in
        let p = source_of log.program in
        let h : IsLogOf p steps log.lines (ends_with verdict ends.0) = subst (IsLogOf p steps log.lines) ends.1 log.log in
        let accepted = accepted_log p steps ends.0 log.lines verdict log.spelt.well_formed small h in
        record {
          program = log.program;
          spelt = log.spelt;
          log = log_text log.lines;
          held = told_text due _ log.is told;
          accepted = accepted;
          means = accepted_bytes_mean (log_text log.lines) steps p verdict accepted;
        }

    -- the verdict of a program
    pub proves : steps < 2 ^ 127 → AnswersCall (IsProofDue bytes steps) before after answer number
        → ProvesBytes bytes steps before after answer verdict
    proves small (inl (due, inl long, told)) = not_a_verdict verdict 12 _ (told_number due _ long.1 told ∙ says.0) (omega arith)
    proves small (inl (due, inr (short, inl log), told)) = log_proves due log small told
    proves small (inl (due, inr (short, inr refusal), told)) =
        not_a_verdict verdict 4 _ (told_number due _ refusal.is told ∙ says.0) (omega arith)
    proves small (inr told) = not_a_verdict verdict 10 _ (sym told.status ∙ says.0) (omega arith)

    -- a log that is accepted
    accepted_checks : (due : Due) → IsAcceptedDue steps bytes due → TellsDue due before after answer number
        → ChecksBytes bytes steps before after answer verdict
    accepted_checks due h told =
        let same = verdict_of_numbers h.verdict verdict (told_number due _ h.is told ∙ says.0) (told_at due _ h.is told ∙ says.1) in
        let accepted : Accepts bytes steps h.program verdict = subst (Accepts bytes steps h.program) same h.accepted in
        record {
          program = h.program;
          accepted = accepted;
          means = accepted_bytes_mean bytes steps h.program verdict accepted;
          conditions = h.conditions;
          listed = h.listed;
          held = subst (λ (v : Verdict). HandsBack (accepted_text h.program h.conditions v) before after answer) same
              (told_text due _ h.is told);
        }

    -- the verdict of a log
    pub checks : AnswersCall (IsCheckDue bytes steps) before after answer number → ChecksBytes bytes steps before after answer verdict
    checks (inl (due, inl long, told)) = not_a_verdict verdict 12 _ (told_number due _ long.1 told ∙ says.0) (omega arith)
    checks (inl (due, inr (short, inl h), told)) = accepted_checks due h told
    checks (inl (due, inr (short, inr h), told)) =
        not_a_verdict verdict (status_number (refusal_status h.number h.refusal)) _ (told_number due _ h.is told ∙ says.0)
        (refusal_number h.number h.refusal).0
    checks (inr told) = not_a_verdict verdict 10 _ (sym told.status ∙ says.0) (omega arith)

  -- a readable proof that was written
  readable_prints : (due : Due) → IsReadableDue steps bytes due → TellsDue due before after answer number
      → PrintsBytes bytes steps before after answer
  readable_prints due h told = record { text = h.text; readable = h.readable; held = told_text due _ h.is told }

  other_number : (n : ℕ) (P : Type 0) → n ≡ number → number ≡ 13 → n ≤ 12 → P
  other_number n P is says few = absurd (omega (arith, is, says, few))

  -- the readable proof of a log
  pub prints : AnswersCall (IsTextDue bytes steps) before after answer number → number ≡ 13 → PrintsBytes bytes steps before after answer
  prints (inl (due, inl long, told)) says = other_number 12 _ (told_number due _ long.1 told) says (omega arith)
  prints (inl (due, inr (short, inl h), told)) says = readable_prints due h told
  prints (inl (due, inr (short, inr h), told)) says =
      other_number (status_number (refusal_status h.number h.refusal)) _ (told_number due _ h.is told) says (refusal_number h.number h.refusal).1
  prints (inr told) says = other_number 10 _ (sym told.status) says (omega arith)
