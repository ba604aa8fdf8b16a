-- What `check` and `text` tell of a log is what is due for it.
use Rattle.std.proofs.Common.{◌≡◌, ℕ, inl, List, Option, Result, Ok}
use Rattle.std.proofs.Common.{Err, refl, subst}
use Rattle.std.specs.Prelude.{IfErr, IfOk}
use Rattle.proof_printer.specs.declared.status.Status.{Status}
use Rattle.proof_printer.specs.declared.status.Status.TheVariants.{Done}
use Rattle.proof_printer.specs.Due.{Due, IsAcceptedText}
use Rattle.proof_printer.specs.Status.{error_status, verdict_status}
use Rattle.geo_cli.specs.declared.order.Command.TheVariants.{Check, Text}
use Rattle.geo_cli.specs.Due.{IsRejectionDue, due_for}
use Rattle.geo_cli.specs.Inner.Answering.{AnswersDue}
use Rattle.geo_cli.specs.Inner.Judgements.{IsJudgement, IsRefusal, error_line}
use Rattle.geo_cli.specs.Run.{IsAnswered}
use Rattle.geo_logs.specs.Judging.{rejected, stopped}
use Rattle.geo_logs.specs.Moves.{spent, too_large}
use Rattle.geo_program.specs.WellFormed.{Source}
use Rattle.log_checker.specs.Accepted.{Accepts}
use Rattle.log_checker.specs.Checked.{IsAnswer, TellsStop}
use Rattle.log_checker.specs.Judged.{Refuses}
use Rattle.log_checker.specs.declared.accepted.Accepted.{Accepted}
use Rattle.log_checker.specs.declared.errors.CheckError.{CheckError}
use Rattle.log_checker.specs.declared.errors.CheckError.TheVariants as error
use Rattle.proof_log.specs.declared.log.Verdict.{Verdict}
use Rattle.proof_printer.specs.Proofs.{IsReadableProof}

-- JUDGEMENTS
pub judged_ok : (bytes : List ℕ) (steps : ℕ) (answer : Result Accepted CheckError) (accepted : Accepted) → answer ≡ Ok accepted
    → IsJudgement bytes steps answer → IsAnswer bytes steps accepted
judged_ok bytes steps answer accepted is h = subst (λ (a : Result Accepted CheckError). IfOk a (IsAnswer bytes steps)) is h.0

pub judged_err : (bytes : List ℕ) (steps : ℕ) (answer : Result Accepted CheckError) (e : CheckError) → answer ≡ Err e
    → IsJudgement bytes steps answer → TellsStop (Refuses bytes steps) e
judged_err bytes steps answer e is h = subst (λ (a : Result Accepted CheckError). IfErr a (TellsStop (Refuses bytes steps))) is h.1

-- REFUSALS
-- the line of a refusal is due
pub error_due : (bytes : List ℕ) (steps : ℕ) (e : CheckError) → IsRefusal e → TellsStop (Refuses bytes steps) e
    → IsRejectionDue steps bytes (record { text = error_line e; status = error_status e })
error_due bytes steps (error.Rejected line reason) is (r, number, h) =
    record {
      number = line;
      refusal = rejected r;
      refused = h;
      is = λ i. record { text = error_line (error.Rejected line (number i)); status = error_status (error.Rejected line (number i)) };
    }
error_due bytes steps (error.TooLarge line which) is h =
    record { number = line; refusal = stopped (too_large which); refused = h; is = refl }
error_due bytes steps (error.Spent line) is h =
    record { number = line; refusal = stopped spent; refused = h; is = refl }
error_due bytes steps error.NoMemory is h = absurd is

module _ (steps : ℕ) (bytes : List ℕ) (f f' : ℕ) (held held' : Option (List ℕ)) (s : Status) where
  pub refusal_told : (e : CheckError) (text : List ℕ) (status : Status) → IsRefusal e → TellsStop (Refuses bytes steps) e → text ≡ error_line e
      → status ≡ error_status e → IsAnswered (record { text = text; status = status }) s f f' held held' → AnswersDue (IsRejectionDue steps bytes) f f' held held' s
  refusal_told e text status is h same same' answered =
      inl (
        record { text = error_line e; status = error_status e },
        error_due bytes steps e is h,
        subst (λ (d : Due). IsAnswered d s f f' held held') (λ i. record { text = same i; status = same' i }) answered,
      )

  pub acceptance_told : (p : Source) (verdict : Verdict) (text : List ℕ) (status : Status) → Accepts bytes steps p verdict → IsAcceptedText p verdict text
      → status ≡ verdict_status verdict → IsAnswered (record { text = text; status = status }) s f f' held held' → AnswersDue (due_for Check steps bytes) f f' held held' s
  acceptance_told p verdict text status accepted told same answered =
      inl (
        record { text = text; status = status },
        inl (record {
          program = p;
          verdict = verdict;
          accepted = accepted;
          conditions = told.conditions;
          listed = told.listed;
          is = λ i. record { text = told.is i; status = same i };
        }),
        answered,
      )

  pub proof_told : (text : List ℕ) → IsReadableProof bytes steps text → IsAnswered (record { text = text; status = Done }) s f f' held held'
      → AnswersDue (due_for Text steps bytes) f f' held held' s
  proof_told text readable answered =
      inl (record { text = text; status = Done }, inl (record { text = text; readable = readable; is = refl }), answered)
