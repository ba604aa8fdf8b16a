use Rattle.std.proofs.Common.{arith}
use Rattle.std.proofs.lemmas.Grind.{common_steps}
use Rattle.geo_base.proofs.LineLemmas.{Loses-written}
use Rattle.geo_base.proofs.piece.Piece.refill.Goals as goal

pub returns-clause-taken : goal.returns-clause-taken
returns-clause-taken g c =
    Loses-written _ _ c.read_front.new.bytes _ _ c.in_ok-self-inside.field-0 (grind (arith, common_steps)) (grind (arith, common_steps)) c.in_ok-self-inside.ensures.taken
