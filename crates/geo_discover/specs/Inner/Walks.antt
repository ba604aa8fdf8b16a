-- The points of a program, and what is left of them, of their pairs, triples and quadruples, and of the candidates.
use Rattle.std.specs.Prelude.{ℕ, ◌+◌, ◌-◌, cond, List, [], ◌∷◌, ◌++◌, map}
use Rattle.std.specs.List.{flat_map, range_with_len}
use Rattle.geo_points.specs.declared.ids.PointId.{PointId}
use Rattle.geo_program.specs.declared.names.NameKind.{NameKind}
use Rattle.geo_program.specs.declared.names.NameKind.TheVariants.{Line, Param, Point}
use Rattle.geo_program.specs.declared.statements.Statement.{Statement}
use Rattle.geo_program.specs.declared.statements.Statement.TheVariants as statement
use Rattle.geo_discover.specs.Candidates.{Segments as TwoSegments, pairs, quadruples, share_point, triples}
use Rattle.geo_discover.specs.declared.candidates.Candidates.{Candidates}
use Rattle.geo_discover.specs.declared.pairs.Pairs.{Pairs}
use Rattle.geo_discover.specs.declared.point_range.PointRange.{PointRange}
use Rattle.geo_discover.specs.declared.quadruples.Quadruples.{Quadruples}
use Rattle.geo_discover.specs.declared.segment_candidates.Kind.{Kind}
use Rattle.geo_discover.specs.declared.segment_candidates.Kind.TheVariants.{Parallel, Perpendicular, SameLength}
use Rattle.geo_discover.specs.declared.segment_candidates.SegmentCandidates.{SegmentCandidates}
use Rattle.geo_discover.specs.declared.segments.Segments.{Segments}
use Rattle.geo_discover.specs.declared.triples.Triples.{Triples}

-- the point of this number
abbrev pub pt : ℕ → PointId
pt k = record { 0 = k }

-- the points from number k on, of n points
abbrev pub points_behind : ℕ → ℕ → List PointId
points_behind k n = map (λ i. pt i) (range_with_len k (n - k))

-- the candidates of this kind that two segments make: one at most
abbrev pub segment_candidates : Kind → TwoSegments → List Statement
segment_candidates Parallel s = cond (share_point s) [] (statement.Parallel s.0.0 s.0.1 s.1.0 s.1.1 ∷ [])
segment_candidates Perpendicular s = statement.Perpendicular s.0.0 s.0.1 s.1.0 s.1.1 ∷ []
segment_candidates SameLength s = statement.SameLength s.0.0 s.0.1 s.1.0 s.1.1 ∷ []

-- WHAT IS LEFT
abbrev pub points_left : PointRange → List PointId
points_left w = points_behind w.from w.end

-- of pairs, with this first item and these behind it, and then of these
abbrev pub pairs_from : {A : Type 0} → A → List A → List A → List (A × A)
pairs_from first seconds later = map (λ y. (first, y)) seconds ++ pairs later

abbrev pub pairs_left : Pairs → List (PointId × PointId)
pairs_left w = pairs_from w.first (points_left w.seconds) (points_left w.later)

-- of triples
abbrev pub triples_from : {A : Type 0} → A → List (A × A) → List A → List (A × A × A)
triples_from first others later = map (λ p. (first, p.0, p.1)) others ++ triples later

abbrev pub triples_left : Triples → List (PointId × PointId × PointId)
triples_left w = triples_from w.first (pairs_left w.others) (points_left w.later)

-- of quadruples
abbrev pub quadruples_from : {A : Type 0} → A → List (A × A × A) → List A → List (A × A × A × A)
quadruples_from first others later = map (λ t. (first, t.0, t.1, t.2)) others ++ quadruples later

abbrev pub quadruples_left : Quadruples → List (PointId × PointId × PointId × PointId)
quadruples_left w = quadruples_from w.first (triples_left w.others) (points_left w.later)

-- of pairs of segments
abbrev pub segments_left : Segments → List TwoSegments
segments_left w = pairs_from w.first (pairs_left w.seconds) (pairs_left w.later)

-- of the candidates that they make
abbrev pub related_left : SegmentCandidates → List Statement
related_left w = flat_map (segment_candidates w.kind) (segments_left w.segments)

-- of all candidates
abbrev pub candidates_left : Candidates → List Statement
candidates_left w =
    map (λ t. statement.Collinear t.0 t.1 t.2) (triples_left w.collinear)
    ++ related_left w.parallel
    ++ related_left w.perpendicular
    ++ related_left w.same_length
    ++ map (λ q. statement.Concyclic q.0 q.1 q.2 q.3) (quadruples_left w.concyclic)

-- how many points there are with a name of this kind more
abbrev pub points_with : NameKind → ℕ → ℕ
points_with Point n = n + 1
points_with Param n = n
points_with Line n = n
