use Rattle.proof_printer.specs.Inner.Names.{naming_in}
use Rattle.proof_printer.proofs.MadeNames.{name_there}
use Rattle.proof_printer.proofs.namer.Namer.push_term.Goals as goal

pub push_named_power-requires : goal.push_named_power-requires
push_named_power-requires c =
    let first = c.in-Some.first in
    name_there (naming_in c.args.self.now) c.args.p.now.vars.now c.args.names.now first.number first.var c.requires.names c.in-Some.ensures.number
