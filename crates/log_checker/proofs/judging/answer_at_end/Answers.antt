use Rattle.std.proofs.Common.{sym, subst}
use Rattle.log_checker.specs.Checked.{TellsStop}
use Rattle.log_checker.specs.Inner.Judged.{Leaves, StopsThere}
use Rattle.log_checker.proofs.JudgedAnswers.{unfinished_empty_tells, unfinished_program_leaves}
use Rattle.log_checker.proofs.judging.answer_at_end.Goals as goal

pub returns-in-Empty-clause-refused : goal.returns-in-Empty-clause-refused
returns-in-Empty-clause-refused c = λ lines leaves count.
    let at = subst (Leaves c.args.steps lines) c.in-Empty.is leaves in
    subst (TellsStop (StopsThere c.args.steps lines)) (sym c.unfinished.ensures) (unfinished_empty_tells c.args.steps lines c.args.count at.left count)

pub returns-clause-refused : goal.returns-clause-refused
returns-clause-refused c = λ lines leaves count.
    let at = subst (Leaves c.args.steps lines) c.in-Program.is leaves in
    subst (TellsStop (StopsThere c.args.steps lines)) (sym c.unfinished-in-Program.ensures) (unfinished_program_leaves c.args.steps lines c.in-Program.version c.in-Program.text c.args.count at count)
