use Rattle.std.proofs.Common.{◌<◌}
use Rattle.mono_store.specs.Stores.{count}
use Rattle.poly_tests.proofs.stores.powers_of.Given as goal

abbrev pub invariant-loop-link : goal.invariant-loop-link
invariant-loop-link l = l.at.0 < count l.store

abbrev pub decreases-loop-link : goal.decreases-loop-link
decreases-loop-link l = l.at.0
