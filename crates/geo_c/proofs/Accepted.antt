-- The text of an accepted log is told.
use Rattle.std.proofs.Common.{◌≡◌, ℕ, ◌≤◌, inl, inr, List, length}
use Rattle.proof_printer.specs.declared.status.Status.{Status}
use Rattle.proof_printer.specs.Due.{IsAcceptedText}
use Rattle.proof_printer.specs.Status.{verdict_status}
use Rattle.geo_c.specs.Answers.{AnswersCall, TellsDue}
use Rattle.geo_c.specs.declared.answers.Answer.{Answer}
use Rattle.geo_c.specs.Due.{IsCheckDue}
use Rattle.geo_program.specs.WellFormed.{Source}
use Rattle.log_checker.specs.Accepted.{Accepts}
use Rattle.proof_log.specs.declared.log.Verdict.{Verdict}

module _ (bytes : List ℕ) (steps : ℕ) (before after : List ℕ) (answer : Answer) (number : ℕ) where
  -- an accepted log was told
  pub acceptance_told : (p : Source) (verdict : Verdict) (text : List ℕ) (status : Status) → length bytes ≤ 67108864
      → Accepts bytes steps p verdict → IsAcceptedText p verdict text
      → status ≡ verdict_status verdict → TellsDue (record { text = text; status = status }) before after answer number
      → AnswersCall (IsCheckDue bytes steps) before after answer number
  acceptance_told p verdict text status short accepted told same answered =
      inl (
        record { text = text; status = status },
        inr (
          short,
          inl (record {
            program = p;
            verdict = verdict;
            accepted = accepted;
            conditions = told.conditions;
            listed = told.listed;
            is = λ i. record { text = told.is i; status = same i };
          }),
        ),
        answered,
      )
