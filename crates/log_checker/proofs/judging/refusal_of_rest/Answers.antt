use Rattle.std.proofs.Common.{None, length, sym, subst, ap, arith}
use Rattle.log_checker.specs.Checked.{TellsStop}
use Rattle.log_checker.specs.Inner.Judged.{IsFirstRefused, IsReachedState, Leaves, StopsNext}
use Rattle.log_checker.proofs.JudgedAnswers.{bad_tells, bad_empty_tells, first_tells, program_short}
use Rattle.log_checker.proofs.judging.refusal_of_rest.Goals as goal

pub returns-in-Empty-clause-refused : goal.returns-in-Empty-clause-refused
returns-in-Empty-clause-refused c = λ lines leaves count.
    let at = subst (Leaves c.args.steps lines) c.in-Empty.is leaves in
    subst (TellsStop (StopsNext c.args.steps lines None)) (sym c.bad_line.ensures) (bad_empty_tells c.args.steps lines c.args.number at.left count)

pub refusal_behind_program-requires : goal.refusal_behind_program-requires
refusal_behind_program-requires c =
    let reached = subst (IsReachedState c.args.steps) c.in-Program.is c.requires in
    let short = program_short c.args.steps reached.0 c.in-Program.version c.in-Program.text reached.1 in omega (arith, short, ap length c.deref.ensures.value)

pub returns-in-Program-clause-refused : goal.returns-in-Program-clause-refused
returns-in-Program-clause-refused c = λ lines leaves count.
    first_tells c.args.steps lines c.in-Program.version c.in-Program.text None c.args.number c.refusal_behind_program.result
    (subst (Leaves c.args.steps lines) c.in-Program.is leaves) count (λ more. tt)
    (subst (λ bs. TellsStop (IsFirstRefused c.in-Program.version bs c.args.steps None c.args.number) c.refusal_behind_program.result) c.deref.ensures.value c.refusal_behind_program.ensures)

pub returns-clause-refused : goal.returns-clause-refused
returns-clause-refused c = λ lines leaves count.
    let at = subst (Leaves c.args.steps lines) c.in-Work.is leaves in
    subst (TellsStop (StopsNext c.args.steps lines None)) (sym c.bad_line-in-Work.ensures) (bad_tells c.args.steps lines c.in-Work.field-0 c.args.number at.left count)
