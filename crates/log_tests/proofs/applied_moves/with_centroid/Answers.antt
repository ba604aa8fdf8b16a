use Rattle.std.proofs.Common.{◌<◌, length, rules}
use Rattle.geo_terms.specs.Constructions.{IsStepTerm}
use Rattle.log_tests.proofs.applied_moves.with_centroid.Goals as goal

pub push-requires-4-clause-step : goal.push-requires-4-clause-step
push-requires-4-clause-step c =
    let steps = c.intern-3.new.self in
    let first : c.in_ok-a.a.0 < length steps.steps = search rules in
    let second : c.in_ok-b.b.0 < length steps.steps = search rules in
    let third : c.in_ok-c.c.0 < length steps.steps = search rules in
    let number : IsStepTerm steps.nodes (length steps.steps) steps.params c.in_ok-r.r = search rules in
    (first, second, third, number, number)
