-- What becomes of the bytes of an input.
use Rattle.std.specs.Prelude.{◌≡◌, ◌⊎◌, ◌≤◌, ℕ, List, Option}
use Rattle.geo_base.specs.Devices.{HasRisen}
use Rattle.geo_cli.specs.declared.order.Command.{Command}
use Rattle.geo_cli.specs.declared.order.Command.TheVariants.{Bench, Check, Cite, Figure, Place, Text}
use Rattle.proof_printer.specs.declared.status.Status.{Status}
use Rattle.proof_printer.specs.declared.status.Status.TheVariants.{ReadFault}
use Rattle.proof_printer.specs.Due.{Due}
use Rattle.geo_cli.specs.Due.{IsCommandDue, IsReadDue}
use Rattle.geo_cli.specs.Run.{IsAnswered, RunsOut}

-- something that is due was answered, or memory ran out before
abbrev pub AnswersDue : (Due → Type 0) → ℕ → ℕ → Option (List ℕ) → Option (List ℕ) → Status → Type 0
AnswersDue Of faults faults' held held' status =
    ((due : Due) × Of due × IsAnswered due status faults faults' held held') ⊎ RunsOut held held' status

-- what a command with this limit is to write of its input was answered; or a read failed and nothing was written; or memory ran out before
abbrev pub AnswersInput :
    ℕ → (List ℕ → Due → Type 0) → Option (List ℕ) → Option (List ℕ) → ℕ → ℕ → ℕ → ℕ → Option (List ℕ) → Option (List ℕ) → Status → Type 0
AnswersInput limit For left left' source_faults source_faults' faults faults' held held' status =
    AnswersDue (IsReadDue limit For left left') faults faults' held held' status
    ⊎ ((status ≡ ReadFault) × HasRisen source_faults source_faults' × (held' ≡ held))

-- what a command is to write was answered; or it reads and a read failed, and nothing was written; or memory ran out before
abbrev pub AnswersCommand :
    Command → ℕ → Option (List ℕ) → Option (List ℕ) → ℕ → ℕ → ℕ → ℕ → Option (List ℕ) → Option (List ℕ) → Status → Type 0
AnswersCommand command steps left left' source_faults source_faults' faults faults' held held' status =
    AnswersDue (IsCommandDue command steps left left') faults faults' held held' status
    ⊎ (((number : ℕ) → command ≡ Bench number → ⊥) × (status ≡ ReadFault) × HasRisen source_faults source_faults' × (held' ≡ held))

-- the command works on its input as a whole: `check` does so line by line, and `bench` reads none
abbrev pub ReadsWhole : Command → Type 0
ReadsWhole Check = ⊥
ReadsWhole (Bench number) = ⊥
ReadsWhole _ = Unit {0}

-- the input is a program alone
abbrev pub ReadsProgram : Command → Type 0
ReadsProgram Place = ⊥
ReadsProgram Figure = ⊥
ReadsProgram Check = ⊥
ReadsProgram Text = ⊥
ReadsProgram Cite = ⊥
ReadsProgram (Bench number) = ⊥
ReadsProgram _ = Unit {0}

-- a generated program has a number from 1 to 60
abbrev pub HasNumber : Command → Type 0
HasNumber (Bench number) = (1 ≤ number) × (number ≤ 60)
HasNumber _ = Unit {0}
