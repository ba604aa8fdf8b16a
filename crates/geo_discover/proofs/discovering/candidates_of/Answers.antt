use Rattle.std.proofs.Common.{List, ap, ◌∙◌}
use Rattle.geo_program.specs.declared.names.Name.{Name}
use Rattle.geo_program.specs.Programs.{source_of}
use Rattle.geo_program.specs.WellFormed.{empty_scope, scope_of}
use Rattle.geo_discover.specs.Candidates.{candidates_over}
use Rattle.geo_discover.proofs.Walks.{points_first}
use Rattle.geo_discover.proofs.discovering.candidates_of.Goals as goal

pub returns : goal.returns
returns c =
    c.over.ensures
    ∙ ap candidates_over (points_first (source_of c.args.program.now) c.in_ok-points.points
    (c.in_ok-points.ensures ∙ ap (λ (names : List Name). (scope_of empty_scope names).points) c.as_slice.ensures))
