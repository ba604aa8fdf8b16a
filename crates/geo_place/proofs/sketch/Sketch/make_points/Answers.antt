use Rattle.std.proofs.Common.{◌≤◌, length, arith}
use Rattle.geo_place.specs.Evaluation.{at_line, makes}
use Rattle.geo_place.specs.Inner.{Stops}
use Rattle.geo_place.proofs.ItemTests.{passed_on}
use Rattle.geo_place.proofs.PointTurns.{below, between, made_last, made_next, made_stops}
use Rattle.geo_place.proofs.sketch.Sketch.make_points.Goals as goal

pub make_point-requires : goal.make_point-requires
make_point-requires g c =
    let n = length c.args.self.now.points.items in
    let low : n ≤ c.loop.counter = let a = c.loop.auto.counter in let b = c.len-counter.ensures in let d = c.args.self.now.points.ok.0 in omega (arith, a, b, d) in (
      c.requires.0,
      (
        c.loop.invariant.sketch_of,
        below g.run n c.args.to c.args.line c.args.problem.now c.args.values.now c.requires.0 c.requires.1.1.1
            c.loop.counter c.loop.self c.loop.invariant low c.loop-test.true,
      ),
    )

pub returns-in_err-make_point-clause-stops : goal.returns-in_err-make_point-clause-stops
returns-in_err-make_point-clause-stops g c =
    let n = length c.args.self.now.points.items in
    let low : n ≤ c.loop.counter = let a = c.loop.auto.counter in let b = c.len-counter.ensures in let d = c.args.self.now.points.ok.0 in omega (arith, a, b, d) in
    passed_on c.from_residual.result c.in_err-make_point.field-0.0 (Stops g.run (at_line c.args.line (makes n (between g.run n c.args.to c.args.line)))) c.from_residual.ensures.1
    (made_stops g.run n c.args.to c.args.line c.args.problem.now c.args.values.now c.requires.0 c.requires.1.1.1 c.loop.counter c.loop.self c.loop.invariant low c.loop-test.true
    c.in_err-make_point.field-0.0 c.in_err-make_point.ensures.stops)

pub returns-clause-sketch : goal.returns-clause-sketch
returns-clause-sketch g c = c.loop.invariant.sketch_of

pub returns-clause-passed : goal.returns-clause-passed
returns-clause-passed g c = made_last g.run (length c.args.self.now.points.items) c.args.to c.args.line c.loop.counter c.loop.self c.loop.invariant c.loop-test.false

pub loop-preserved : goal.loop-preserved
loop-preserved g c =
    let n = length c.args.self.now.points.items in
    let low : n ≤ c.loop.counter = let a = c.loop.auto.counter in let b = c.len-counter.ensures in let d = c.args.self.now.points.ok.0 in omega (arith, a, b, d) in
    let made = c.in_ok-make_point.ensures in
    made_next g.run n c.args.to c.args.line c.args.problem.now c.args.values.now c.requires.0 c.requires.1.1.1 c.loop.counter c.loop.self c.loop.invariant low c.loop-test.true
    c.make_point.new.self made.sketch made.points made.passed
