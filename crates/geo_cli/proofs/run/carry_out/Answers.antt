use Rattle.std.proofs.Common.{refl}
use Rattle.geo_cli.proofs.Answered.{by_bench, by_check, by_reading, reads_whole}
use Rattle.geo_cli.proofs.run.carry_out.Goals as goal

pub returns-in-Check-clause-answers : goal.returns-in-Check-clause-answers
returns-in-Check-clause-answers g c = by_check _ _ _ _ _ _ _ _ _ _ _ c.in-Check.is c.run_check.ensures.answers

pub returns-in-Check-clause-taken : goal.returns-in-Check-clause-taken
returns-in-Check-clause-taken g c = rw c.in-Check.is c.run_check.ensures.taken

pub returns-in-Bench-clause-answers : goal.returns-in-Bench-clause-answers
returns-in-Bench-clause-answers g c = by_bench _ _ _ _ _ _ _ _ _ _ _ _ c.in-Bench.is refl c.run_bench.ensures.answers

pub run_reading-requires : goal.run_reading-requires
run_reading-requires g c = reads_whole _ c.in_default.not-Check c.in_default.not-Bench

pub returns-in_default-clause-answers : goal.returns-in_default-clause-answers
returns-in_default-clause-answers g c = by_reading _ _ _ _ _ _ _ _ _ _ _ c.in_default.not-Bench c.run_reading.ensures.answers
