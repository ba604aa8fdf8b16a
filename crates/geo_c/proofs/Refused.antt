-- Logs and programs that are refused.
use Rattle.std.proofs.Common.{◌≡◌, ℕ, ◌≤◌, length, inl, inr, List, [], refl, subst}
use Rattle.proof_printer.specs.Due.{Due, SpellsNone}
use Rattle.proof_printer.specs.Status.{error_status}
use Rattle.geo_c.specs.Answers.{AnswersCall, TellsDue}
use Rattle.geo_c.specs.declared.answers.Answer.{Answer}
use Rattle.proof_printer.specs.declared.status.Status.{Status}
use Rattle.proof_printer.specs.declared.status.Status.TheVariants.{Rejected, Spent, Syntax, TooLarge}
use Rattle.geo_c.specs.Due.{IsBareRejectionDue, IsProofDue}
use Rattle.geo_lexer.specs.declared.token_types.Fault.{Fault}
use Rattle.geo_logs.specs.Judging.{rejected, stopped}
use Rattle.geo_logs.specs.Moves.{spent, too_large}
use Rattle.log_checker.specs.Checked.{TellsStop}
use Rattle.log_checker.specs.Judged.{Refuses}
use Rattle.log_checker.specs.declared.errors.CheckError.{CheckError}
use Rattle.log_checker.specs.declared.errors.CheckError.TheVariants as error

module _ (Of : Due → Type 0) (bytes : List ℕ) (before after : List ℕ) (answer : Answer) (number : ℕ) where
  -- the refusal of a log is told
  told_error : (steps : ℕ) → ((due : Due) → IsBareRejectionDue steps bytes due → Of due) → (e : CheckError)
      → TellsStop (Refuses bytes steps) e → TellsDue (record { text = []; status = error_status e }) before after answer number
      → AnswersCall Of before after answer number
  told_error steps due (error.Rejected line reason) (r, same, h) told =
      inl (
        record { text = []; status = Rejected line reason },
        due _ (record { number = line; refusal = rejected r; refused = h; is = λ i. record { text = []; status = Rejected line (same i) } }),
        told,
      )
  told_error steps due (error.TooLarge line which) h told =
      inl (
        record { text = []; status = TooLarge line which },
        due _ (record { number = line; refusal = stopped (too_large which); refused = h; is = refl }),
        told,
      )
  told_error steps due (error.Spent line) h told =
      inl (
        record { text = []; status = Spent line },
        due _ (record { number = line; refusal = stopped spent; refused = h; is = refl }),
        told,
      )
  told_error steps due error.NoMemory h told = inr told

  -- and so it is where the status is the error's
  pub error_told : (steps : ℕ) → ((due : Due) → IsBareRejectionDue steps bytes due → Of due) → (e : CheckError) (status : Status)
      → TellsStop (Refuses bytes steps) e → status ≡ error_status e → TellsDue (record { text = []; status = status }) before after answer number
      → AnswersCall Of before after answer number
  error_told steps due e status h same told =
      told_error steps due e h (subst (λ (s : Status). TellsDue (record { text = []; status = s }) before after answer number) same told)

-- the bytes spell no program, and nothing was written
pub refusal_due : (bytes : List ℕ) (steps : ℕ) (fault : Fault) (text : List ℕ) (status : Status) → text ≡ []
    → status ≡ Syntax fault.refusal fault.place → SpellsNone bytes fault → length bytes ≤ 1048576
    → IsProofDue bytes steps (record { text = text; status = status })
refusal_due bytes steps fault text status none same no_program short =
    inr (
      short,
      inr (record {
        fault = fault;
        no_program = no_program;
        is = λ i. record { text = none i; status = same i };
      }),
    )
