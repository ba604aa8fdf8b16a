use Rattle.std.proofs.Common.{◌≡◌, List, true, false, sym, subst, ◌∙◌}
use Rattle.std.specs.Prelude.{ℤ}
use Rattle.proof_log.specs.declared.errors.LineError.TheVariants.{BadLine}
use Rattle.geo_poly.specs.declared.variables.Var.{Var}
use Rattle.proof_log.specs.Inner.Reading.{Begins, single_values}
use Rattle.proof_log.proofs.Growth.{AreValuesRead, from_err, from_ok_or, values_refused, values_step}
use Rattle.proof_log.proofs.reader.Reader.values.Goals as goal

pub returns-in_err-value-clause-bad : goal.returns-in_err-value-clause-bad
returns-in_err-value-clause-bad c = λ _.
    values_refused c.args.self.now c.loop-self.self c.loop-self.items.items c.loop-self.invariant
    (λ e. let f : true ≡ false = sym (c.is_at_end.ensures.1 e) ∙ c.loop-self-test.true in cc)
    (c.value.ensures.none (from_err c.value.result BadLine c.ok_or.result c.in_err-value.field-0.0 c.ok_or.ensures.value c.in_err-value.was))

pub loop-self-preserved : goal.loop-self-preserved
loop-self-preserved c =
    subst (λ (l : List (Var × ℤ)). AreValuesRead c.args.self.now c.value.new.self l) (sym c.in_ok-push.ensures.items)
    (values_step c.args.self.now c.loop-self.self c.loop-self.items.items c.loop-self.invariant c.in_ok-value.value c.value.new.self
    (from_ok_or (λ z. Begins single_values c.loop-self.self z c.value.new.self) c.value.result BadLine c.ok_or.result
    c.in_ok-value.value c.ok_or.ensures.value c.in_ok-value.was c.value.ensures.some))
