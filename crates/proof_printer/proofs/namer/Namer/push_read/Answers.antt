use Rattle.proof_printer.specs.Inner.Names.{naming_in}
use Rattle.proof_printer.proofs.namer.Namer.push_read.Goals as goal

pub push_terms-requires-clause-met : goal.push_terms-requires-clause-met
push_terms-requires-clause-met c = c.in_ok-met.ensures.met (naming_in c.args.self.now)
