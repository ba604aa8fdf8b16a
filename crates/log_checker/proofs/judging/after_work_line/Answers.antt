use Rattle.std.proofs.Common.{Some, sym, subst}
use Rattle.log_checker.specs.Checked.{TellsStop}
use Rattle.log_checker.specs.Inner.Judged.{IsRefusedWork}
use Rattle.log_checker.proofs.JudgedAnswers.{work_tells}
use Rattle.log_checker.proofs.judging.after_work_line.Goals as goal

pub returns-in-Err-clause-refused : goal.returns-in-Err-clause-refused
returns-in-Err-clause-refused c = λ steps good at.
    subst (TellsStop (IsRefusedWork c.args.work steps good (Some c.args.line) c.args.number)) (sym c.at.ensures)
    (work_tells c.args.work steps good (Some c.args.line) c.args.number c.in-Err.stop (c.in-Err.ensures.refused steps good at))
