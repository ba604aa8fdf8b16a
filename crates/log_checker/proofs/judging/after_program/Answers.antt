use Rattle.std.proofs.Common.{Option, None, length, ap, sym, subst, arith}
use Rattle.std.specs.Result.{IfErr}
use Rattle.proof_log.specs.declared.log.Line.{Line}
use Rattle.log_checker.specs.Checked.{TellsStop}
use Rattle.log_checker.specs.Inner.Judged.{IsFirstRefused, StopsNext}
use Rattle.log_checker.proofs.JudgedAnswers.{first_tells, program_short}
use Rattle.log_checker.proofs.PassedOn.{passed_on}
use Rattle.log_checker.proofs.judging.after_program.Goals as goal

pub behind_program-requires-clause-fits : goal.behind_program-requires-clause-fits
behind_program-requires-clause-fits c =
    let short = program_short c.args.steps c.requires.reached.0 c.args.version c.args.text c.requires.reached.1 in omega (arith, short, ap length c.deref.ensures.value)

pub returns-in_err-work-in-None-clause-refused : goal.returns-in_err-work-in-None-clause-refused
returns-in_err-work-in-None-clause-refused c = λ lines leaves count.
    let Tells : Option Line → Type 0 = λ read. IfErr c.from_residual.result (TellsStop (StopsNext c.args.steps lines read)) in
    subst Tells (sym c.in-None.is)
    (passed_on c.from_residual.result c.in_err-work-in-None.field-0.0 (TellsStop (StopsNext c.args.steps lines None)) c.from_residual.ensures.1
    (first_tells c.args.steps lines c.args.version c.args.text None c.args.number c.in_err-work-in-None.field-0.0 leaves count (λ more. tt)
    (subst (λ bs. TellsStop (IsFirstRefused c.args.version bs c.args.steps None c.args.number) c.in_err-work-in-None.field-0.0) c.deref.ensures.value c.in_err-work-in-None.ensures.refused)))
