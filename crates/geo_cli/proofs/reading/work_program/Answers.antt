use Rattle.geo_cli.specs.declared.order.Command.TheVariants.{Discover, Prove}
use Rattle.geo_cli.proofs.Answered.{made}
use Rattle.geo_cli.proofs.ProgramsDue.{fixed_program, no_other_program}
use Rattle.geo_cli.proofs.reading.work_program.Goals as goal

pub returns-in-Prove-clause-answers : goal.returns-in-Prove-clause-answers
returns-in-Prove-clause-answers g c = λ bytes spelt.
    made _ _ _ _ _ _ _ _ Prove c.in-Prove.is (c.prove_program.ensures.answers bytes spelt)

pub returns-in-Fixed-clause-answers : goal.returns-in-Fixed-clause-answers
returns-in-Fixed-clause-answers g c = λ bytes spelt.
    fixed_program c.args.program.now c.args.steps bytes spelt _ _ _ _ _ c.args.command c.in-Fixed.is c.fix_program.ensures.answers

pub returns-in-Discover-clause-answers : goal.returns-in-Discover-clause-answers
returns-in-Discover-clause-answers g c = λ bytes spelt.
    made _ _ _ _ _ _ _ _ Discover c.in-Discover.is (c.discover_program.ensures.answers bytes spelt)

pub unreachable-requires : goal.unreachable-requires
unreachable-requires g c = no_other_program _ c.requires.program c.in_default.not-Prove c.in_default.not-Fixed c.in_default.not-Discover
