-- What is left of a walk over triples and quadruples where nothing comes, and all candidates, kind by kind.
use Rattle.std.proofs.Common.{◌≡◌, ℕ, suc, ◌-◌, Bool, true, false, not, cond, Option, None, List, [], ◌∷◌, ◌++◌}
use Rattle.std.proofs.Common.{filter, length, map, refl, sym, ◌∙◌, ap, ap₂, subst, arith}
use Rattle.std.specs.Iterator.{YieldsFirst}
use Rattle.std.specs.List.{flat_map, range_with_len}
use Rattle.geo_points.specs.declared.ids.PointId.{PointId}
use Rattle.geo_discover.specs.Candidates.{Segments, candidates_over, pairs, points_of, quadruples, segments_over, share_point, triples}
use Rattle.geo_program.specs.WellFormed.{Source, empty_scope, scope_of}
use Rattle.geo_program.specs.declared.statements.Statement.{Statement}
use Rattle.geo_program.specs.declared.statements.Statement.TheVariants as statement
use Rattle.geo_discover.specs.Inner.Walks.{points_behind, pt, quadruples_from, segment_candidates, triples_from}
use Rattle.geo_discover.specs.declared.segment_candidates.Kind.TheVariants.{Parallel, Perpendicular, SameLength}

-- POINTS
-- the points of a program are all points from the first on
pub points_first : (p : Source) (n : ℕ) → n ≡ (scope_of empty_scope p.names).points → points_behind 0 n ≡ points_of p
points_first p n e = ap (λ (m : ℕ). map (λ i. pt i) (range_with_len 0 m)) (let k : n - 0 ≡ (scope_of empty_scope p.names).points = omega (arith, e) in k)

module _ {A : Type 0} where
  -- TRIPLES
  no_triples : (xs : List A) → pairs xs ≡ [] → triples xs ≡ []
  no_triples [] e = refl
  no_triples (x ∷ []) e = refl
  no_triples (x ∷ y ∷ ys) e =
      absurd (let q : suc (length (map (λ z. (x, z)) ys ++ pairs (y ∷ ys))) ≡ 0 = ap length e in omega (arith, q))

  pub triples_over : (first : A) (others : List (A × A)) (later : List A) → others ≡ [] → pairs later ≡ []
      → triples_from first others later ≡ []
  triples_over first others later e h =
      ap (λ ps. triples_from first ps later) e ∙ no_triples later h

  triples_turn : (first x : A) (others : List (A × A)) (later later' : List A) → others ≡ [] → later ≡ x ∷ later'
      → triples_from first others later ≡ triples_from x (pairs later') later'
  triples_turn first x others later later' e h = ap₂ (λ ps xs. triples_from first ps xs) e h

  pub triples_last : (first x : A) (others : List (A × A)) (later later' : List A) → others ≡ [] → later ≡ x ∷ later' → pairs later' ≡ []
      → triples_from first others later ≡ []
  triples_last first x others later later' e h i = triples_turn first x others later later' e h ∙ triples_over x (pairs later') later' i i

  -- QUADRUPLES
  no_quadruples : (xs : List A) → triples xs ≡ [] → quadruples xs ≡ []
  no_quadruples [] e = refl
  no_quadruples (x ∷ []) e = refl
  no_quadruples (x ∷ y ∷ []) e = refl
  no_quadruples (x ∷ y ∷ z ∷ zs) e =
      absurd
      (let q : suc (length (map (λ p. (x, p.0, p.1)) (map (λ w. (y, w)) zs ++ pairs (z ∷ zs)) ++ triples (y ∷ z ∷ zs))) ≡ 0 = ap length e in
      omega (arith, q))

  pub quadruples_over : (first : A) (others : List (A × A × A)) (later : List A) → others ≡ [] → triples later ≡ []
      → quadruples_from first others later ≡ []
  quadruples_over first others later e h =
      ap (λ ts. quadruples_from first ts later) e ∙ no_quadruples later h

  quadruples_turn : (first x : A) (others : List (A × A × A)) (later later' : List A) → others ≡ [] → later ≡ x ∷ later'
      → quadruples_from first others later ≡ quadruples_from x (triples later') later'
  quadruples_turn first x others later later' e h = ap₂ (λ ts xs. quadruples_from first ts xs) e h

  pub quadruples_last : (first x : A) (others : List (A × A × A)) (later later' : List A) → others ≡ [] → later ≡ x ∷ later'
      → triples later' ≡ [] → quadruples_from first others later ≡ []
  quadruples_last first x others later later' e h i =
      quadruples_turn first x others later later' e h ∙ quadruples_over x (triples later') later' i i

-- CANDIDATES OF SEGMENTS
flat_map-one : {A B : Type 0} (f : A → B) (xs : List A) → flat_map (λ x. f x ∷ []) xs ≡ map f xs
flat_map-one f [] = refl
flat_map-one f (x ∷ xs) = ap (λ ys. f x ∷ ys) (flat_map-one f xs)

parallel_ones : (xs : List Segments) → flat_map (segment_candidates Parallel) xs
    ≡ map (λ s. statement.Parallel s.0.0 s.0.1 s.1.0 s.1.1) (filter (λ s. not (share_point s)) xs)
parallel_ones [] = refl
parallel_ones (x ∷ xs) = go (share_point x) (parallel_ones xs)
  where
    go : (b : Bool) → flat_map (segment_candidates Parallel) xs
        ≡ map (λ s. statement.Parallel s.0.0 s.0.1 s.1.0 s.1.1) (filter (λ s. not (share_point s)) xs)
        → cond b [] (statement.Parallel x.0.0 x.0.1 x.1.0 x.1.1 ∷ []) ++ flat_map (segment_candidates Parallel) xs
        ≡ map (λ s. statement.Parallel s.0.0 s.0.1 s.1.0 s.1.1)
        (cond (not b) (x ∷ filter (λ s. not (share_point s)) xs) (filter (λ s. not (share_point s)) xs))
    go true h = h
    go false h = ap (λ ys. statement.Parallel x.0.0 x.0.1 x.1.0 x.1.1 ∷ ys) h

perpendicular_ones : (xs : List Segments) → flat_map (segment_candidates Perpendicular) xs
    ≡ map (λ s. statement.Perpendicular s.0.0 s.0.1 s.1.0 s.1.1) xs
perpendicular_ones xs = flat_map-one (λ s. statement.Perpendicular s.0.0 s.0.1 s.1.0 s.1.1) xs

same_length_ones : (xs : List Segments) → flat_map (segment_candidates SameLength) xs
    ≡ map (λ s. statement.SameLength s.0.0 s.0.1 s.1.0 s.1.1) xs
same_length_ones xs = flat_map-one (λ s. statement.SameLength s.0.0 s.0.1 s.1.0 s.1.1) xs

-- ALL CANDIDATES
-- the five kinds, one behind another
pub kind_by_kind : (points : List PointId) (a : List (PointId × PointId × PointId)) (b d e : List Statement)
    (f : List (PointId × PointId × PointId × PointId)) → a ≡ triples points
    → b ≡ flat_map (segment_candidates Parallel) (segments_over points)
    → d ≡ flat_map (segment_candidates Perpendicular) (segments_over points)
    → e ≡ flat_map (segment_candidates SameLength) (segments_over points) → f ≡ quadruples points
    → map (λ t. statement.Collinear t.0 t.1 t.2) a ++ b ++ d ++ e ++ map (λ q. statement.Concyclic q.0 q.1 q.2 q.3) f
    ≡ candidates_over points
kind_by_kind points a b d e f a_is b_is d_is e_is f_is =
    let Join : List Statement → List Statement → List Statement = λ xs ys. xs ++ ys in
    let segments = segments_over points in
    ap₂ Join
    (ap₂ Join
    (ap₂ Join
    (ap₂ Join (ap (λ ts. map (λ t. statement.Collinear t.0 t.1 t.2) ts) a_is) (b_is ∙ parallel_ones segments))
    (d_is ∙ perpendicular_ones segments))
    (e_is ∙ same_length_ones segments))
    (ap (λ qs. map (λ q. statement.Concyclic q.0 q.1 q.2 q.3) qs) f_is)

-- nothing is given, where nothing was left and nothing is
pub yields_none : {S A : Type 0} (rest : S → List A) (s t : S) (r : Option A) → r ≡ None → rest s ≡ [] → rest t ≡ [] → YieldsFirst rest s r t
yields_none rest s t r e a b = subst (λ (o : Option _). YieldsFirst rest s o t) (sym e) (a, b)
