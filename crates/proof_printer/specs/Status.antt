-- How a call ended, and the three numbers that tell it.
use Rattle.std.specs.Prelude.{ℕ, List, length}
use Rattle.proof_printer.specs.declared.status.Status.{Status}
use Rattle.proof_printer.specs.declared.status.Status.TheVariants.{Proved, False, Impossible, Usage, Syntax, TooLarge, Spent, Unmet, NotInstance}
use Rattle.proof_printer.specs.declared.status.Status.TheVariants.{ReadFault, WriteFault, NoMemory, Rejected, TooLong, Done}
use Rattle.geo_logs.specs.Ends.{Ending, ends_by, ends_with, too_long}
use Rattle.geo_logs.specs.Judging.{Refusal, number_of, rejected, stopped}
use Rattle.geo_logs.specs.Moves.{Stop, spent, too_large}
use Rattle.geo_poly.specs.declared.limits.Which.{Which}
use Rattle.geo_poly.specs.declared.limits.Which.TheVariants.{Norm, Degree}
use Rattle.log_checker.specs.declared.errors.CheckError.{CheckError}
use Rattle.log_checker.specs.declared.errors.CheckError.TheVariants as error
use Rattle.proof_log.specs.declared.log.Line.{Line}
use Rattle.proof_log.specs.declared.log.Verdict.{Verdict}
use Rattle.proof_log.specs.declared.log.Verdict.TheVariants as verdict

-- THE NUMBERS OF A STATUS
-- the number that the program ends with, and that a call answers
abbrev pub status_number : Status → ℕ
status_number Proved = 0
status_number (False g) = 1
status_number (Impossible k) = 2
status_number Usage = 3
status_number (Syntax refusal place) = 4
status_number (TooLarge line which) = 6
status_number (Spent line) = 7
status_number ReadFault = 8
status_number WriteFault = 9
status_number NoMemory = 10
status_number (Rejected line reason) = 11
status_number TooLong = 12
status_number Done = 13
status_number (Unmet k) = 15
status_number (NotInstance line) = 16

-- where: a goal, a condition or a line, counted from 1, or the place of a token, in bytes from 0
abbrev pub status_at : Status → ℕ
status_at (False g) = g
status_at (Impossible k) = k
status_at (Syntax refusal place) = place
status_at (TooLarge line which) = line
status_at (Spent line) = line
status_at (Rejected line reason) = line
status_at (Unmet k) = k
status_at (NotInstance line) = line
status_at _ = 0

-- the number of a limit
abbrev pub limit_number : Which → ℕ
limit_number Norm = 1
limit_number Degree = 2

-- why: the refusal of a token, a limit, or the reason of a refused line
abbrev pub status_reason : Status → ℕ
status_reason (Syntax refusal place) = refusal
status_reason (TooLarge line which) = limit_number which
status_reason (Rejected line reason) = reason
status_reason _ = 0

-- WHAT A STATUS TELLS
-- a verdict
abbrev pub verdict_status : Verdict → Status
verdict_status verdict.Proved = Proved
verdict_status (verdict.False g) = False g
verdict_status (verdict.Impossible k) = Impossible k

-- a stop at the line of this number
abbrev pub stop_status : ℕ → Stop → Status
stop_status number spent = Spent number
stop_status number (too_large which) = TooLarge number which

-- how a log ends; a stop is told with the number of its line
abbrev pub ended_status : ℕ → Ending → Status
ended_status number (ends_with v left) = verdict_status v
ended_status number (ends_by stop) = stop_status number stop
ended_status number too_long = TooLong

-- how a log of these lines ends; the line of a stop is the last
abbrev pub ending_status : List Line → Ending → Status
ending_status lines ending = ended_status (length lines) ending

-- why a log is refused at the line of this number
abbrev pub refusal_status : ℕ → Refusal → Status
refusal_status number (rejected reason) = Rejected number (number_of reason)
refusal_status number (stopped stop) = stop_status number stop

-- the checker's error: why a log is refused, or that memory ran out
abbrev pub error_status : CheckError → Status
error_status (error.Rejected line reason) = Rejected line reason
error_status (error.TooLarge line which) = TooLarge line which
error_status (error.Spent line) = Spent line
error_status error.NoMemory = NoMemory
