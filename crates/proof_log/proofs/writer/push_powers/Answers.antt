use Rattle.proof_log.proofs.MadeNames.{name_there}
use Rattle.proof_log.proofs.writer.push_powers.Goals as goal

pub push_named_power-requires : goal.push_named_power-requires
push_named_power-requires c =
    name_there c.args.p.now.vars.now c.args.names.now c.in-Some.first.number c.in-Some.first.var c.requires.names c.in-Some.ensures.number
