use Rattle.std.proofs.Common.{◌≡◌}
use Rattle.geo_prover.specs.Bench.{quadrangle_commands}
use Rattle.geo_prover.proofs.bench.commands_of_bench.Given as goal

abbrev pub invariant-loop-j : goal.invariant-loop-j
invariant-loop-j l = l.commands.items ≡ quadrangle_commands l.j
