use Rattle.std.proofs.Common.{rules}
use Rattle.geo_cli.proofs.ValueLines.{first_read, next_read, no_line, no_number}
use Rattle.geo_cli.proofs.values.split_values.Goals as goal

pub loop-text-init : goal.loop-text-init
loop-text-init c = first_read c.args.bytes.now c.in-Some.rest.now _ (search rules) (search rules)

pub returns-in_default-next_number-clause-none : goal.returns-in_default-next_number-clause-none
returns-in_default-next_number-clause-none c = λ _.
    no_number c.args.bytes.now c.loop-text.items.items c.loop-text.rest.now c.in-Some-strip_prefix.text.now (search rules) c.loop-text.invariant
    (c.next_number.ensures.none (search rules))

pub loop-text-preserved : goal.loop-text-preserved
loop-text-preserved c =
    next_read c.args.bytes.now c.loop-text.items.items c.loop-text.rest.now c.in-Some-strip_prefix.text.now (search rules) c.loop-text.invariant
    c.in-Some-next_number.number c.in-Some-next_number.behind.now (search rules) c.push.new.self.items (search rules)

pub returns-clause-none : goal.returns-clause-none
returns-clause-none c = λ _. no_line c.args.bytes.now c.loop-text.items.items c.loop-text.rest.now c.loop-text.invariant (search rules) (search rules)
