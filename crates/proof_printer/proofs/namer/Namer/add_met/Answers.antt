use Rattle.proof_printer.specs.Inner.Names.{naming_in}
use Rattle.proof_printer.proofs.MetNames.{added}
use Rattle.proof_printer.proofs.namer.Namer.add_met.Goals as goal

pub returns-clause-met : goal.returns-clause-met
returns-clause-met c =
    added (naming_in c.args.self.now) c.args.met.now c.add.new.self c.args.variable c.args.name c.add.result c.requires.met c.requires.name c.add.ensures.keys c.add.ensures.names
