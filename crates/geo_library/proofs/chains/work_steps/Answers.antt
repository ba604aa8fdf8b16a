use Rattle.std.proofs.Common.{sym, arith}
use Rattle.log_checker.proofs.PassedOn.{passed_on}
use Rattle.geo_library.specs.Inner.Counting.{AreStepsStopped, TellsStop}
use Rattle.geo_chain.proofs.KeptPoints.{line_points}
use Rattle.geo_library.proofs.CountedChains.{begins, ends, goes_on, stops_there}
use Rattle.geo_library.proofs.chains.work_steps.Goals as goal

pub loop-last-init : goal.loop-last-init
loop-last-init c = record {
  way = begins c.args.steps.now c.args.known.now c.args.now.now.lines c.args.now.now.budget.left c.args.first;
  points = c.requires.points;
  numbers = c.requires.numbers;
}

pub loop-last-preserved : goal.loop-last-preserved
loop-last-preserved c = record {
  way = goes_on c.args.steps.now c.args.known.now c.args.now.now.lines c.args.now.now.budget.left c.args.first c.loop-last.now.lines c.loop-last.now.budget.left c.loop-last.last
      c.in_ok-line.line c.line_after.new.now.lines c.line_after.new.now.budget.left c.in-Some.poly c.loop-last.invariant.way
      c.in_ok-line.ensures.line (sym c.in-Some.ensures) c.in_ok-line.ensures.counted;
  points = line_points _ c.in_ok-line.line c.in-Some.poly (sym c.in-Some.ensures) c.in_ok-line.ensures.points;
  numbers = c.line_after.ensures.numbers;
}

pub returns-in-None-clause-ok : goal.returns-in-None-clause-ok
returns-in-None-clause-ok c =
    ends c.args.steps.now c.args.known.now c.args.now.now.lines c.args.now.now.budget.left c.args.first c.loop-last.now.lines c.loop-last.now.budget.left c.loop-last.last
    c.in_ok-line.line c.line_after.new.now.lines c.line_after.new.now.budget.left c.loop-last.invariant.way c.in_ok-line.ensures.line (sym c.in-None.ensures) c.in_ok-line.ensures.counted

pub loop-last-smaller : goal.loop-last-smaller
loop-last-smaller c = let a = c.in_ok-line.ensures.counted in let b = c.in_ok-line.ensures.few in omega (arith, a, b)
