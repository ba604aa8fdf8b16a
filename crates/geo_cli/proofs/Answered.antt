-- What a command did with its input is what is due for it.
use Rattle.std.proofs.Common.{◌≡◌, ◌≤◌, List, Option, ℕ, inl, inr, refl, subst, sym}
use Rattle.geo_cli.specs.declared.order.Command.{Command}
use Rattle.geo_cli.specs.declared.order.Command.TheVariants.{Bench, Check, Cite, Figure, Place, Text}
use Rattle.proof_printer.specs.declared.status.Status.{Status}
use Rattle.proof_printer.specs.declared.status.Status.TheVariants.{TooLong}
use Rattle.proof_printer.specs.Due.{Due}
use Rattle.geo_cli.specs.Due.{IsBenchDue, IsCommandDue, IsReadDue, IsRefusalDue, due_for, too_long_line}
use Rattle.geo_cli.specs.Inner.Answering.{AnswersCommand, AnswersDue, AnswersInput, ReadsProgram, ReadsWhole}
use Rattle.geo_cli.specs.Input.{IsInput, IsLong, Takes, limit_of, log_limit, program_limit}
use Rattle.geo_cli.specs.Run.{IsAnswered}

-- WHAT A COMMAND ANSWERS
-- what answers one thing that may be due answers another
pub answers_more : (Of Also : Due → Type 0) → ((due : Due) → Of due → Also due) → (f f' : ℕ) (held held' : Option (List ℕ)) (s : Status)
    → AnswersDue Of f f' held held' s → AnswersDue Also f f' held held' s
answers_more Of Also more f f' held held' s (inl (due, h, answered)) = inl (due, more due h, answered)
answers_more Of Also more f f' held held' s (inr out) = inr out

module _ (limit : ℕ) (For : List ℕ → Due → Type 0) (left left' held held' : Option (List ℕ)) (g g' f f' : ℕ) (s : Status) where
  abbrev Answered : Type 0
  Answered = AnswersInput limit For left left' g g' f f' held held' s

  -- an input was read to its end
  pub of_input : (bytes : List ℕ) → IsInput limit left bytes left' → AnswersDue (For bytes) f f' held held' s → Answered
  of_input bytes input h =
      inl (answers_more (For bytes) (IsReadDue limit For left left') (λ due is. inr (bytes, input, is)) f f' held held' s h)

  -- an input was too long
  pub of_long : IsLong limit left left' → IsAnswered (record { text = too_long_line; status = TooLong }) s f f' held held' → Answered
  of_long long h = inl (inl (record { text = too_long_line; status = TooLong }, inl (long, refl), h))

  -- a limit that is another's
  pub at_limit : (own : ℕ) → limit ≡ own → Answered → AnswersInput own For left left' g g' f f' held held' s
  at_limit own is h = subst (λ (n : ℕ). AnswersInput n For left left' g g' f f' held held' s) is h

pub takes_limit : (limit own : ℕ) (left left' : Option (List ℕ)) → limit ≡ own → Takes limit left left' → Takes own left left'
takes_limit limit own left left' is h = subst (λ (n : ℕ). Takes n left left') is h

-- WHAT AN ORDER IS ANSWERED
module _ (steps : ℕ) (left left' held held' : Option (List ℕ)) (g g' f f' : ℕ) (s : Status) where
  abbrev Carried : Command → Type 0
  Carried command = AnswersCommand command steps left left' g g' f f' held held' s

  -- a command that reads answers what it makes of its input
  pub by_reading : (command : Command) → ((number : ℕ) → command ≡ Bench number → ⊥)
      → AnswersInput (limit_of command) (due_for command steps) left left' g g' f f' held held' s → Carried command
  by_reading (Bench number) reads h = absurd (reads number refl)
  by_reading command reads (inl h) =
      inl (answers_more (IsReadDue (limit_of command) (due_for command steps) left left') (IsCommandDue command steps left left')
      (λ due d. d) f f' held held' s h)
  by_reading command reads (inr h) = inr (reads, h.0, h.1, h.2)

  pub by_check : (command : Command) → command ≡ Check → AnswersInput log_limit (due_for Check steps) left left' g g' f f' held held' s
      → Carried command
  by_check command is h = subst Carried (sym is) (by_reading Check (λ number no. absurd (cc)) h)

  pub by_bench : (command : Command) (number : ℕ) → command ≡ Bench number → left' ≡ left
      → AnswersDue (IsBenchDue number steps) f f' held held' s → Carried command
  by_bench command number is unread h =
      subst Carried (sym is)
      (inl (answers_more (IsBenchDue number steps) (IsCommandDue (Bench number) steps left left') (λ due d. (unread, d)) f f' held held' s h))

-- WHAT A COMMAND READS
-- a command that is none of two others reads its input whole
pub reads_whole : (command : Command) → (command ≡ Check → ⊥) → ((number : ℕ) → command ≡ Bench number → ⊥) → ReadsWhole command
reads_whole Check check bench = absurd (check refl)
reads_whole (Bench number) check bench = absurd (bench number refl)
reads_whole command check bench = tt

-- one that reads its input whole, and neither a log nor values, reads a program
pub reads_program : (command : Command) → ReadsWhole command → (command ≡ Text → ⊥) → (command ≡ Cite → ⊥) → (command ≡ Place → ⊥)
    → (command ≡ Figure → ⊥) → ReadsProgram command
reads_program Check whole text cite place figure = absurd whole
reads_program (Bench number) whole text cite place figure = absurd whole
reads_program Text whole text cite place figure = absurd (text refl)
reads_program Cite whole text cite place figure = absurd (cite refl)
reads_program Place whole text cite place figure = absurd (place refl)
reads_program Figure whole text cite place figure = absurd (figure refl)
reads_program command whole text cite place figure = tt

-- the most bytes of what is no log
pub program_limited : (command : Command) → ReadsWhole command → (command ≡ Text → ⊥) → (command ≡ Cite → ⊥) → limit_of command ≡ program_limit
program_limited Check whole text cite = absurd whole
program_limited (Bench number) whole text cite = absurd whole
program_limited Text whole text cite = absurd (text refl)
program_limited Cite whole text cite = absurd (cite refl)
program_limited command whole text cite = refl

pub limited : (command : Command) → ReadsProgram command → limit_of command ≡ program_limit
limited Place reads = refl
limited Figure reads = refl
limited Check reads = absurd reads
limited Text reads = absurd reads
limited Cite reads = absurd reads
limited (Bench number) reads = absurd reads
limited command reads = refl

-- bytes within the limit of a command are within that of the same command
pub within : (command word : Command) (count : ℕ) → command ≡ word → count ≤ limit_of command → count ≤ limit_of word
within command word count is few = subst (λ (c : Command). count ≤ limit_of c) is few

-- WHAT A COMMAND MAKES OF BYTES
module _ (steps : ℕ) (bytes : List ℕ) (f f' : ℕ) (held held' : Option (List ℕ)) (s : Status) where
  abbrev Made : Command → Type 0
  Made command = AnswersDue (due_for command steps bytes) f f' held held' s

  pub made : (command word : Command) → command ≡ word → Made word → Made command
  made command word is h = subst Made (sym is) h

  -- bytes that spell no program are refused
  pub refused : (command : Command) → ReadsProgram command → AnswersDue (IsRefusalDue bytes) f f' held held' s → Made command
  refused command reads h = answers_more (IsRefusalDue bytes) (due_for command steps bytes) (more command reads) f f' held held' s h
    where
      more : (word : Command) → ReadsProgram word → (due : Due) → IsRefusalDue bytes due → due_for word steps bytes due
      more Place none due h = absurd none
      more Figure none due h = absurd none
      more Check none due h = absurd none
      more Text none due h = absurd none
      more Cite none due h = absurd none
      more (Bench number) none due h = absurd none
      more word some due h = inr h
