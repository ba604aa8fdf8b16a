use Rattle.std.proofs.Common.{◌≡◌}
use Rattle.geo_prover.specs.Bench.{quadrangle_names}
use Rattle.geo_prover.proofs.bench.names_of_bench.Given as goal

abbrev pub invariant-loop-j : goal.invariant-loop-j
invariant-loop-j l = l.names.items ≡ quadrangle_names l.j
