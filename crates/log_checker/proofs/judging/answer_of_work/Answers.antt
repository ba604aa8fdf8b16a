use Rattle.std.proofs.Common.{sym, ◌∙◌, subst, arith}
use Rattle.log_checker.specs.Checked.{TellsStop}
use Rattle.log_checker.specs.Inner.Judged.{StopsThere}
use Rattle.log_checker.proofs.JudgedAnswers.{accepted_there, unfinished_tells}
use Rattle.log_checker.proofs.judging.answer_of_work.Goals as goal

pub overflow_sub-result : goal.overflow_sub-result
overflow_sub-result c = (accepted_there c.args.steps c.requires.reached.0 c.args.work c.in-Nothing.verdict c.in-Nothing.is c.requires.reached.1.left).2

pub returns-in-Nothing-clause-accepted : goal.returns-in-Nothing-clause-accepted
returns-in-Nothing-clause-accepted c = λ lines h count.
    let there = accepted_there c.args.steps lines c.args.work c.in-Nothing.verdict c.in-Nothing.is h.left in
    record { accepted = there.0; version = c.number_of.ensures ∙ sym there.3; counted = count; charged = omega (arith, there.1, there.2) }

pub returns : goal.returns
returns c = record {
  accepted = λ lines h count. tt;
  refused = λ lines h count. subst (TellsStop (StopsThere c.args.steps lines)) (sym c.unfinished.ensures)
      (unfinished_tells c.args.steps lines c.args.work c.args.count c.in_default.not-Nothing h.left count);
}
