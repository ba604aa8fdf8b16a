use Rattle.std.proofs.Common.{length, map, Some, refl, sym, ap, ◌∙◌, arith}
use Rattle.log_checker.proofs.KeysInTurn.{answers_no, answers_yes, no_by}
use Rattle.log_checker.proofs.SampleNames.{lists_same, names_length, one_more_place, same_item}
use Rattle.log_checker.proofs.sampling.are_variables_of.Goals as goal

pub returns-then-variables-values : goal.returns-then-variables-values
returns-then-variables-values c =
    answers_no (λ e. c.if-variables-values.true (sym (ap length e) ∙ names_length c.args.values.now))

pub returns-then-not-is_same : goal.returns-then-not-is_same
returns-then-not-is_same c =
    no_by c.if-not-is_same.ensures
    (λ e. same_item (map (λ v. v.0) c.args.values.now) c.args.variables.now c.loop-i.i c.name_at-v.result c.variable_at-w.result c.name_at-v.ensures c.variable_at-w.ensures e)

pub loop-i-preserved : goal.loop-i-preserved
loop-i-preserved c =
    one_more_place (map (λ v. v.0) c.args.values.now) c.args.variables.now c.loop-i.i
    (c.name_at-v.ensures ∙ ap (λ u. Some u) (c.if-not-is_same.ensures.0 refl) ∙ sym c.variable_at-w.ensures) c.loop-i.invariant

pub returns : goal.returns
returns c =
    let count = names_length c.args.values.now in
    answers_yes (lists_same (map (λ v. v.0) c.args.values.now) c.args.variables.now (count ∙ sym c.if-variables-values.false)
    (λ k l. c.loop-i.invariant k (omega (arith, l, count, c.loop-i-test.false))))
