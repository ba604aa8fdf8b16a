use Rattle.std.proofs.Common.{◌<◌, ◌^◌, arith, rules}
use Rattle.geo_conditions.specs.Lists.{IsProblem}
use Rattle.geo_conditions.specs.Problems.{form_of_problem}
use Rattle.geo_lowering.specs.declared.version.Version.TheVariants.{Two}
use Rattle.geo_program.specs.Programs.{source_of}
use Rattle.geo_discover.specs.declared.figure.Figure.{Figure}
use Rattle.geo_discover.proofs.ConditionsShared.{figure_is}
use Rattle.geo_discover.proofs.figure.figure_of.Goals as goal

pub returns-clause-figure : goal.returns-clause-figure
returns-clause-figure c =
    let q = source_of c.in_ok-candidate.candidate in
    let problem = c.in_ok-problem.problem in
    let figure : Figure = record {
      steps = c.args.steps;
      problem = problem;
      numbers = c.conditions_of-conditions.new.numbers;
      findings = c.conditions_of-conditions.new.findings;
      conditions = c.conditions_of-conditions.result;
      front = c.front_bytes-front.result;
    } in
    let small : c.args.steps < 2 ^ 127 = omega (arith, c.ranges.steps) in
    let own : IsProblem Two q (form_of_problem problem) problem.conditions problem.goals = search rules in
    figure_is (source_of c.args.program.now) c.args.statement q figure c.in_ok-candidate.ensures small c.requires.candidate own
    c.conditions_of-conditions.ensures.numbers c.conditions_of-conditions.ensures.worked c.front_bytes-front.ensures
