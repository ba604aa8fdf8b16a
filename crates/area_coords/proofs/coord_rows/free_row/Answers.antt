use Rattle.std.proofs.Common.{length}
use Rattle.fraction_poly.specs.Inner.Drafts.{no_terms}
use Rattle.fraction_poly.proofs.StepDrafts.{has_numbers, none_roomy, none_stored, some_numbers}
use Rattle.area_coords.proofs.coord_rows.free_row.Goals as goal

pub returns-clause-numbers : goal.returns-clause-numbers
returns-clause-numbers c =
    let nodes = c.args.steps.now.nodes in
    some_numbers nodes _ (has_numbers nodes no_terms _ c.none.ensures (none_stored (length nodes)) (λ fits. none_roomy nodes))
