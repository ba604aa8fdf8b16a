use Rattle.std.proofs.Common.{Option, None, refl, sym, subst}
use Rattle.std.specs.Result.{IfErr}
use Rattle.proof_log.specs.declared.log.Line.{Line}
use Rattle.geo_logs.specs.Judging.{bad_line}
use Rattle.log_checker.specs.Checked.{TellsStop}
use Rattle.log_checker.specs.Inner.Judged.{IsRefusedWork}
use Rattle.log_checker.proofs.JudgedAnswers.{bad_refused}
use Rattle.log_checker.proofs.judging.after_work.Goals as goal

pub returns-in-Some-clause-refused : goal.returns-in-Some-clause-refused
returns-in-Some-clause-refused c = λ steps good at.
    let Tells : Option Line → Type 0 = λ read. IfErr c.after_work_line.result (TellsStop (IsRefusedWork c.args.work steps good read c.args.number)) in
    subst Tells (sym c.in-Some.is) (c.after_work_line.ensures.refused steps good at)

pub returns-in-None-clause-refused : goal.returns-in-None-clause-refused
returns-in-None-clause-refused c = λ steps good at.
    let Tells : Option Line → Type 0 = λ read. TellsStop (IsRefusedWork c.args.work steps good read c.args.number) c.at.result in
    subst Tells (sym c.in-None.is)
    (subst (TellsStop (IsRefusedWork c.args.work steps good None c.args.number)) (sym c.at.ensures) (bad_line, refl, bad_refused c.args.work steps good c.args.number at))
