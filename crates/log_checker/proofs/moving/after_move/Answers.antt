use Rattle.elim_apply.specs.LemmaTable.{lemma_table}
use Rattle.geo_logs.specs.Judging.{IsMoveRefused}
use Rattle.log_checker.specs.Inner.Lines.{Tells}
use Rattle.log_checker.proofs.PassedOn.{passed_on}
use Rattle.log_checker.proofs.moving.after_move.Goals as goal

pub returns-in_err-moved-clause-refused : goal.returns-in_err-moved-clause-refused
returns-in_err-moved-clause-refused c =
    passed_on c.from_residual.result c.in_err-moved.field-0.0
    (Tells (IsMoveRefused lemma_table c.args.steps.now c.args.budget.now.left c.args.before.now c.args.mv.now c.args.poly.now))
    c.from_residual.ensures.1 (c.in_err-moved.ensures.refused c.args.poly.now)
