use Rattle.std.proofs.Common.{◌≡◌, ◌++◌, length, ap, arith}
use Rattle.std.proofs.lemmas.List.{length-append}
use Rattle.proof_printer.proofs.Tokens.{past}
use Rattle.proof_printer.proofs.reading.push_plain.Goals as goal

pub returns-clause-past : goal.returns-clause-past
returns-clause-past c = λ n tokens read spelt.
    past n tokens c.args.bytes.now c.before_name.result.0.now c.before_name.result.1.now c.args.out.now.items _ read spelt
    c.before_name.ensures.split c.before_name.ensures.plain c.before_name.ensures.stops c.in_ok-extend_from_slice.ensures.items
