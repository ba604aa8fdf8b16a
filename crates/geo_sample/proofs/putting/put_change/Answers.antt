use Rattle.std.specs.Int.{w128}
use Rattle.std.proofs.lemmas.Int.{to_z-of_z}
use Rattle.geo_sample.proofs.putting.put_change.Goals as goal

pub put_number-requires : goal.put_number-requires
put_number-requires g c = rw (to_z-of_z w128 c.args.number c.ranges.number) c.requires
