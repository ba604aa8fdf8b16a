-- Each number of the workload has a program: that whose store has the two areas of its statement alone.
use Rattle.std.proofs.Common.{◌≡◌, ℕ, suc, [], ◌∷◌, refl, arith}
use Rattle.geo_program.specs.declared.statements.Statement.{Statement}
use Rattle.geo_program.specs.declared.statements.Statement.TheVariants.{Equal}
use Rattle.geo_program.specs.Forms.{AreSidesStored, statement_form}
use Rattle.geo_program.proofs.LinesSpelt.{well_formed_is_spelt}
use Rattle.geo_terms.specs.Stores.{Store}
use Rattle.geo_terms.specs.declared.nodes.Node.TheVariants.{S}
use Rattle.geo_prover.specs.Bench.{NumbersHaveAProgram, bench_commands, bench_names, bench_statement, corner}
use Rattle.geo_prover.proofs.BenchSpelt.{stored, stored_short, stored_well_formed}

module _ (n : ℕ) where
  abbrev nodes : Store
  nodes = S (corner 0 0) (corner 0 (suc n)) (corner 1 0) ∷ S (corner 0 0) (corner 1 (suc n)) (corner 1 0) ∷ []

  abbrev statement : Statement
  statement = Equal (record { 0 = 0 }) (record { 0 = 1 })

  form : statement_form nodes statement ≡ bench_statement n
  form = refl

  sides : AreSidesStored nodes statement
  sides = (omega arith, omega arith)

pub some_bench : NumbersHaveAProgram
some_bench n some few =
    let well = stored_well_formed n some few (nodes n) (statement n) (form n) (sides n) in (
      record {
        names = bench_names n;
        terms = nodes n;
        commands = bench_commands n;
        statement = statement n;
        spelt = ∣ well_formed_is_spelt (stored n some few (nodes n) (statement n) (form n) (sides n)) well ∣₁;
        short = stored_short n some few (nodes n) (statement n) (form n) (sides n);
      },
      record { names = refl; commands = refl; statement = form n },
    )
