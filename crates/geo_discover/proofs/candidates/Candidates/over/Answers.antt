use Rattle.std.proofs.Common.{List, ap, ◌∙◌}
use Rattle.std.specs.List.{flat_map}
use Rattle.geo_points.specs.declared.ids.PointId.{PointId}
use Rattle.geo_discover.specs.Candidates.{quadruples, segments_over, triples}
use Rattle.geo_discover.specs.Inner.Walks.{points_behind, segment_candidates}
use Rattle.geo_discover.specs.declared.segment_candidates.Kind.TheVariants.{Parallel, Perpendicular, SameLength}
use Rattle.geo_discover.proofs.Walks.{kind_by_kind}
use Rattle.geo_discover.proofs.candidates.Candidates.over.Goals as goal

pub returns : goal.returns
returns c =
    let all = c.first-points.ensures in
    kind_by_kind (points_behind 0 c.args.points) _ _ _ _ _
    (c.of.ensures ∙ ap (λ (xs : List PointId). triples xs) all)
    (c.of-2.ensures ∙ ap (λ (xs : List PointId). flat_map (segment_candidates Parallel) (segments_over xs)) all)
    (c.of-3.ensures ∙ ap (λ (xs : List PointId). flat_map (segment_candidates Perpendicular) (segments_over xs)) all)
    (c.of-4.ensures ∙ ap (λ (xs : List PointId). flat_map (segment_candidates SameLength) (segments_over xs)) all)
    (c.of-5.ensures ∙ ap (λ (xs : List PointId). quadruples xs) all)
