-- Why a line does not go on a log, as the code tells it.
use Rattle.std.specs.Prelude.{ℕ}
use Rattle.elim_apply.specs.declared.errors.ApplyError.{ApplyError}
use Rattle.elim_apply.specs.declared.errors.ApplyError.TheVariants as apply
use Rattle.geo_sample.specs.declared.errors.SampleError.{SampleError}
use Rattle.geo_sample.specs.declared.errors.SampleError.TheVariants as sample
use Rattle.geo_logs.specs.Judging as judging
use Rattle.geo_logs.specs.Judging.{number_of}
use Rattle.log_checker.specs.declared.errors.CheckError.{CheckError}
use Rattle.log_checker.specs.declared.errors.CheckError.TheVariants as error
use Rattle.log_checker.specs.declared.reasons.Reason.{Reason}
use Rattle.log_checker.specs.declared.reasons.Reason.TheVariants.{BadLine, WrongLine, WrongProgram, WrongChain, WrongStart, NoRow, WrongPoly, WrongCut, NotEnded, WrongSample, WrongVerdict, Unfinished}
use Rattle.log_checker.specs.declared.stops.Stop.{Stop}
use Rattle.log_checker.specs.declared.stops.Stop.TheVariants.{Rejected, TooLarge, Spent, NoMemory}

-- the reason that the code's reason stands for
abbrev pub reason_of : Reason → judging.Reason
reason_of BadLine = judging.bad_line
reason_of WrongLine = judging.wrong_line
reason_of WrongProgram = judging.wrong_program
reason_of WrongChain = judging.wrong_chain
reason_of WrongStart = judging.wrong_start
reason_of NoRow = judging.no_row
reason_of WrongPoly = judging.wrong_polynomial
reason_of WrongCut = judging.wrong_cut
reason_of NotEnded = judging.not_ended
reason_of WrongSample = judging.wrong_sample
reason_of WrongVerdict = judging.wrong_verdict
reason_of Unfinished = judging.unfinished

-- the error of the line of this number
abbrev pub numbered : ℕ → Stop → CheckError
numbered line (Rejected reason) = error.Rejected line (number_of (reason_of reason))
numbered line (TooLarge which) = error.TooLarge line which
numbered line Spent = error.Spent line
numbered line NoMemory = error.NoMemory

-- why a move or a start has no result
abbrev pub after_apply : ApplyError → Stop
after_apply apply.NoRow = Rejected NoRow
after_apply apply.Spent = Spent
after_apply (apply.TooLarge which) = TooLarge which
after_apply apply.NoMemory = NoMemory

-- why the tries of a sample stop
abbrev pub after_sample : SampleError → Stop
after_sample sample.Spent = Spent
after_sample (sample.TooLarge which) = TooLarge which
after_sample sample.NoMemory = NoMemory
