use Rattle.std.proofs.Common.{◌<◌}
use Rattle.mono_store.specs.Stores.{count}
use Rattle.geo_poly.proofs.moving.reach.Given as goal

abbrev pub invariant-loop-link : goal.invariant-loop-link
invariant-loop-link l = l.rest.0 < count l.p.monos.now

abbrev pub decreases-loop-link : goal.decreases-loop-link
decreases-loop-link l = l.rest.0
