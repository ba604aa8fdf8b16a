use Rattle.std.proofs.Common.{length}
use Rattle.geo_poly.proofs.chained.+chain_by_halves.Given as goal

abbrev pub decreases-chain_by_halves : goal.decreases-chain_by_halves
decreases-chain_by_halves g l = length l.left.now
