use Rattle.geo_program.specs.Programs.{source_of}
use Rattle.geo_discover.proofs.Fronts.{front_within}
use Rattle.geo_discover.proofs.examining.judge_by_lengths.Goals as goal

pub judge_behind_front-requires-clause-front : goal.judge_behind_front-requires-clause-front
judge_behind_front-requires-clause-front c =
    front_within (source_of c.args.program.now) c.args.statement c.args.figure.now.front c.args.goal.now.bytes c.in-Some.front
    c.requires.figure.front c.in-Some.ensures c.requires.goal.bytes
