use Rattle.geo_prover.proofs.SomeBench.{some_bench}
use Rattle.geo_prover.proofs.laws.numbers_have_a_program.Goals as goal

pub returns : goal.returns
returns c = some_bench
