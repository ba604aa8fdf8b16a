use Rattle.geo_program.specs.Programs.{source_of}
use Rattle.geo_lowering.specs.Parts.{form_of}
use Rattle.geo_conditions.proofs.StillLowered.{still_lowered}
use Rattle.geo_conditions.proofs.problem.list.Goals as goal

pub returns : goal.returns
returns c = λ version is. record {
  lowered = still_lowered version (source_of c.args.program.now) (form_of c.args.lowered) c.list_items.new.steps is c.in_ok-conditions.ensures.keeps c.count.ensures.valid;
  conditions = c.in_ok-conditions.ensures.conditions version (record { points = is.points; lines = is.lines; params = is.params });
  goals = c.in_ok-conditions.ensures.goals version (record { points = is.points; lines = is.lines; params = is.params });
}
