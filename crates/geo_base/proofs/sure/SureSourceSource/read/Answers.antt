use Rattle.std.proofs.Common.{arith}
use Rattle.std.proofs.lemmas.Grind.{common_steps}
use Rattle.geo_base.proofs.DeviceLemmas.{piece_taken}
use Rattle.geo_base.proofs.sure.SureSourceSource.read.Goals as goal

pub returns-clause-taken : goal.returns-clause-taken
returns-clause-taken c =
    piece_taken _ c.self.inside.bytes.items c.copy_from_slice.new.self _ c.self.inside.at c.min-count.result (grind (arith, common_steps)) (grind (arith, common_steps)) (grind (arith, common_steps))
