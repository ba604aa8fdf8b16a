use Rattle.std.proofs.Common.{◌<◌, ◌≤◌, List, length, sym, ap, subst, ◌∙◌, rules}
use Rattle.geo_program.specs.declared.commands.Command.{Command}
use Rattle.geo_lowering.specs.Counting.{param_places, points_past}
use Rattle.geo_lowering.specs.Lowering.{line_places, point_place, point_places, points_after}
use Rattle.geo_lowering.proofs.Small.{program_commands, program_points}
use Rattle.geo_lowering.proofs.lowering.lower_by.Goals as goal

pub new-requires-clause-points : goal.new-requires-clause-points
new-requires-clause-points c =
    subst (λ (cs : List Command). points_past c.args.version 0 cs ≤ 512) (sym c.as_slice-commands.ensures) (program_points c.args.version c.args.program.now)

pub new-requires-clause-commands : goal.new-requires-clause-commands
new-requires-clause-commands c =
    subst (λ (cs : List Command). length cs < 4294967295) (sym c.as_slice-commands.ensures) (program_commands c.args.program.now)

pub count_points-requires : goal.count_points-requires
count_points-requires c =
    subst (λ (cs : List Command). points_past c.args.version 0 cs ≤ 512) (sym c.as_slice-commands.ensures) (program_points c.args.version c.args.program.now)

pub returns : goal.returns
returns c =
    let same = c.as_slice-commands.ensures in
    record {
      valid = search rules;
      steps = c.in_ok-push_commands.ensures.steps;
      numbers = c.in_ok-push_commands.ensures.params;
      points = c.in_ok-places.ensures.points ∙ ap (point_places c.args.version 0) same;
      lines = c.in_ok-places.ensures.lines ∙ ap (λ (cs : List Command). line_places c.args.version (point_place c.args.version cs) 0 cs) same;
      params = c.in_ok-places.ensures.params ∙ ap (param_places 0) same;
      after = c.in_ok-after.ensures ∙ ap (points_after c.args.version 0) same;
    }
