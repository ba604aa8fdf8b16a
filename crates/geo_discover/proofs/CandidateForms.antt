-- Each candidate of a program is a relation of its points.
use Rattle.std.proofs.Common.{◌≡◌, All, List, [], ◌∷◌, ◌++◌, not, filter, map, refl, sym, subst}
use Rattle.std.specs.List.{AllByRecursion}
use Rattle.std.proofs.lemmas.List.Elements.{All-append, All-cons, All-head, All-map, All-nil, All-tail, recursion_from_All}
use Rattle.geo_conditions.specs.Statements.{statement_conditions, statement_goals}
use Rattle.geo_points.specs.declared.ids.PointId.{PointId}
use Rattle.geo_program.specs.declared.statements.Statement.{Statement}
use Rattle.geo_program.specs.declared.statements.Statement.TheVariants.{Collinear, Concyclic, Parallel, Perpendicular, SameLength}
use Rattle.geo_program.specs.declared.statements.Statement.TheVariants as statement
use Rattle.geo_program.specs.declared.names.Name.{Name}
use Rattle.geo_program.specs.Forms.{AreSidesStored, statement_form}
use Rattle.geo_program.specs.Inner.Printing.{whole_scope}
use Rattle.geo_terms.specs.Stores.{Store}
use Rattle.geo_program.specs.Relations.{IsRelation, with_statement}
use Rattle.geo_program.specs.WellFormed.{IsArgument, IsWellFormed, Source, empty_scope, scope_of}
use Rattle.geo_discover.specs.Candidates.{candidates, candidates_over, points_of, quadruples, segments_over, share_point, triples}
use Rattle.geo_discover.specs.Inner.Searching.{IsCandidate}
use Rattle.geo_discover.proofs.CandidateLaws.{candidates_are_well_formed}

all_of : {A : Type 0} (P : A → Type 0) → ((x : A) → P x) → (xs : List A) → All P xs
all_of P h [] = All-nil P
all_of P h (x ∷ xs) = All-cons P x xs (h x) (all_of P h xs)

-- what holds of each statement of the five kinds holds of all candidates
module _ (P : Statement → Type 0) (on_line : (a b d : PointId) → P (Collinear a b d)) (parallel : (a b d e : PointId) → P (Parallel a b d e))
    (square : (a b d e : PointId) → P (Perpendicular a b d e)) (long : (a b d e : PointId) → P (SameLength a b d e))
    (round : (a b d e : PointId) → P (Concyclic a b d e)) where
  all_over : (points : List PointId) → All P (candidates_over points)
  all_over points =
      let segments = segments_over points in
      let distinct = filter (λ s. not (share_point s)) segments in
      let A : List Statement = map (λ t. Collinear t.0 t.1 t.2) (triples points) in
      let B : List Statement = map (λ s. Parallel s.0.0 s.0.1 s.1.0 s.1.1) distinct in
      let C : List Statement = map (λ s. Perpendicular s.0.0 s.0.1 s.1.0 s.1.1) segments in
      let D : List Statement = map (λ s. SameLength s.0.0 s.0.1 s.1.0 s.1.1) segments in
      let E : List Statement = map (λ q. Concyclic q.0 q.1 q.2 q.3) (quadruples points) in
      let a : All P A = All-map P (λ t. Collinear t.0 t.1 t.2) (triples points)
      (all_of (λ t. P (Collinear t.0 t.1 t.2)) (λ t. on_line t.0 t.1 t.2) (triples points)) in
      let b : All P B = All-map P (λ s. Parallel s.0.0 s.0.1 s.1.0 s.1.1) distinct
      (all_of (λ s. P (Parallel s.0.0 s.0.1 s.1.0 s.1.1)) (λ s. parallel s.0.0 s.0.1 s.1.0 s.1.1) distinct) in
      let d : All P C = All-map P (λ s. Perpendicular s.0.0 s.0.1 s.1.0 s.1.1) segments
      (all_of (λ s. P (Perpendicular s.0.0 s.0.1 s.1.0 s.1.1)) (λ s. square s.0.0 s.0.1 s.1.0 s.1.1) segments) in
      let e : All P D = All-map P (λ s. SameLength s.0.0 s.0.1 s.1.0 s.1.1) segments
      (all_of (λ s. P (SameLength s.0.0 s.0.1 s.1.0 s.1.1)) (λ s. long s.0.0 s.0.1 s.1.0 s.1.1) segments) in
      let f : All P E = All-map P (λ q. Concyclic q.0 q.1 q.2 q.3) (quadruples points)
      (all_of (λ q. P (Concyclic q.0 q.1 q.2 q.3)) (λ q. round q.0 q.1 q.2 q.3) (quadruples points)) in
      All-append P (A ++ B ++ C ++ D) E (All-append P (A ++ B ++ C) D (All-append P (A ++ B) C (All-append P A B a b) d) e) f

pub candidates_are_relations : (p : Source) → All (λ s. IsRelation s) (candidates p)
candidates_are_relations p =
    all_over (λ s. IsRelation s) (λ a b d. tt) (λ a b d e. tt) (λ a b d e. tt) (λ a b d e. tt) (λ a b d e. tt) (points_of p)

-- it is a relation without conditions of its own, and its only goal
abbrev IsPlain : Store → Statement → Type 0
IsPlain nodes s = IsRelation s × (statement_conditions nodes s ≡ []) × (statement_goals nodes s ≡ s ∷ [])

candidates_are_plain : (p : Source) → All (IsPlain p.nodes) (candidates p)
candidates_are_plain p =
    all_over (IsPlain p.nodes) (λ a b d. (tt, refl, refl)) (λ a b d e. (tt, refl, refl)) (λ a b d e. (tt, refl, refl))
    (λ a b d e. (tt, refl, refl)) (λ a b d e. (tt, refl, refl)) (points_of p)

both : {A : Type 0} (P Q R : A → Type 0) → ((x : A) → P x → Q x → R x) → (xs : List A) → All P xs → All Q xs → All R xs
both P Q R f [] a b = All-nil R
both P Q R f (x ∷ xs) a b = All-cons R x xs (f x (All-head P x xs a) (All-head Q x xs b)) (both P Q R f xs (All-tail P x xs a) (All-tail Q x xs b))

pub candidates_are_stated : (p : Source) → IsWellFormed p → All (IsCandidate p) (candidates p)
candidates_are_stated p w =
    both (IsPlain p.nodes) (λ s. IsWellFormed (with_statement p s)) (IsCandidate p)
    (λ s r v. record { relation = r.0; unconditional = r.1; one_goal = r.2; points = v.statement })
    (candidates p) (candidates_are_plain p) (candidates_are_well_formed p w)

-- a relation has no sides
pub no_sides : (nodes : Store) (x : Statement) → IsRelation x → AreSidesStored nodes x
no_sides nodes (statement.Equal e f) r = absurd r
no_sides nodes (statement.Collinear a b c) r = tt
no_sides nodes (statement.Parallel a b c d) r = tt
no_sides nodes (statement.Perpendicular a b c d) r = tt
no_sides nodes (statement.Identical a b) r = tt
no_sides nodes (statement.Midpoint m a b) r = tt
no_sides nodes (statement.SameLength a b c d) r = tt
no_sides nodes (statement.Harmonic a b c d) r = tt
no_sides nodes (statement.Concyclic a b c d) r = tt

-- with it the program is well-formed
pub candidate_formed : (p : Source) (s : Statement) → IsWellFormed p → IsCandidate p s → IsWellFormed (with_statement p s)
candidate_formed p s w h = record {
  names = w.names;
  differ = w.differ;
  commands = w.commands;
  few = w.few;
  statement = h.points;
  sides = no_sides p.nodes s h.relation;
}

-- its points can be printed, with the program's names and store
pub printable_points : (p : Source) (s : Statement) → IsCandidate p s → (names : List Name) (nodes : Store) → names ≡ p.names → nodes ≡ p.nodes
    → AllByRecursion (IsArgument (whole_scope names)) (statement_form nodes s).arguments
printable_points p s h names nodes n e =
    recursion_from_All (IsArgument (whole_scope names)) (statement_form nodes s).arguments
    (subst (λ (ns : List Name). All (IsArgument (scope_of empty_scope ns)) (statement_form nodes s).arguments) (sym n)
    (subst (λ (ts : Store). All (IsArgument (scope_of empty_scope p.names)) (statement_form ts s).arguments) (sym e) h.points))
