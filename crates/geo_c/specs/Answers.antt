-- What a call hands back.
use Rattle.std.specs.Prelude.{◌≡◌, ◌⊎◌, ℕ, List, [], ◌++◌, length, take, drop}
use Rattle.proof_printer.specs.declared.status.Status.TheVariants.{NoMemory}
use Rattle.proof_printer.specs.Due.{Due}
use Rattle.proof_printer.specs.Status.{status_at, status_number, status_reason, verdict_status}
use Rattle.geo_c.specs.declared.answers.Answer.{Answer}
use Rattle.proof_log.specs.declared.log.Verdict.{Verdict}

-- the buffer with the text at its front, or with as much of it as there is room for; behind the text it is as before
abbrev pub filled : List ℕ → List ℕ → List ℕ
filled before text = take (length before) text ++ drop (length text) before

-- the buffer, which was `before`, holds this text, and the answer tells how long it is
pub record HandsBack (text before after : List ℕ) (answer : Answer) : Type 0 where
  pub length_told : answer.length ≡ length text
  pub written : after ≡ filled before text

-- the status is told by three numbers, and the text by its length and in the buffer
pub record TellsDue (due : Due) (before after : List ℕ) (answer : Answer) (number : ℕ) : Type 0 where
  pub status : number ≡ status_number due.status
  pub at_told : answer.at ≡ status_at due.status
  pub reason_told : answer.reason ≡ status_reason due.status
  pub text : HandsBack due.text before after answer

-- something that is due was told; or memory ran out, and no text is due
abbrev pub AnswersCall : (Due → Type 0) → List ℕ → List ℕ → Answer → ℕ → Type 0
AnswersCall Of before after answer number =
    ((due : Due) × Of due × TellsDue due before after answer number)
    ⊎ TellsDue (record { text = []; status = NoMemory }) before after answer number

-- the status is that of this verdict: 0 for Proved, 1 and the goal for False, 2 and the condition for Impossible
abbrev pub TellsVerdict : Verdict → Answer → ℕ → Type 0
TellsVerdict verdict answer number =
    (number ≡ status_number (verdict_status verdict)) × (answer.at ≡ status_at (verdict_status verdict))
