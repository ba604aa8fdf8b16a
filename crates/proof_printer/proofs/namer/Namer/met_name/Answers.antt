use Rattle.proof_printer.specs.Inner.Names.{naming_in}
use Rattle.proof_printer.proofs.MetNames.{met_found}
use Rattle.proof_printer.proofs.namer.Namer.met_name.Goals as goal

pub returns-clause-name : goal.returns-clause-name
returns-clause-name c = (met_found (naming_in c.args.self.now) c.args.met.now c.name.result c.args.variable c.requires c.name.ensures.is c.name.ensures.found).0

pub returns-clause-keys : goal.returns-clause-keys
returns-clause-keys c = (met_found (naming_in c.args.self.now) c.args.met.now c.name.result c.args.variable c.requires c.name.ensures.is c.name.ensures.found).1
