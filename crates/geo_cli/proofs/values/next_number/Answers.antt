use Rattle.std.proofs.Common.{◌≡◌, rules, true, false, sym, ◌∙◌}
use Rattle.geo_base.specs.Decimals.{decimal_value}
use Rattle.proof_log.proofs.Found.{integer_misspelt, integer_unread, no_result}
use Rattle.geo_cli.proofs.values.next_number.Goals as goal

pub returns-in_err-number-clause-none : goal.returns-in_err-number-clause-none
returns-in_err-number-clause-none c = λ _.
    integer_unread c.args.bytes.now c.split_run.result.0.now c.split_run.result.1.now c.split_run.ensures.split c.split_run.ensures.all c.split_run.ensures.stops
    (λ decimal fits.
    no_result c.read_decimal.result c.ok.result (decimal_value c.split_run.result.0.now) (c.read_decimal.ensures.read decimal fits) c.ok.ensures.value c.in_err-number.was)

pub returns-else-is_canonical-clause-none : goal.returns-else-is_canonical-clause-none
returns-else-is_canonical-clause-none c = λ _.
    integer_misspelt c.args.bytes.now c.split_run.result.0.now c.split_run.result.1.now c.split_run.ensures.split c.split_run.ensures.all c.split_run.ensures.stops
    _ (search rules) (λ is. let t = c.is_canonical.ensures.1 is in let f = c.if-is_canonical.false in let e : true ≡ false = sym t ∙ f in cc)
