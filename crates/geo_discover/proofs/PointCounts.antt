-- How many of the names of a program are points.
use Rattle.std.proofs.Common.{◌≡◌, ℕ, suc, ◌+◌, ◌<◌, ◌≤◌, List, [], ◌∷◌, drop, length, refl, sym, ◌∙◌, ap, arith}
use Rattle.std.specs.Prelude.{slice_index_or}
use Rattle.std.proofs.lemmas.List.{drop_all, drop_more}
use Rattle.geo_program.specs.declared.names.Name.{Name}
use Rattle.geo_program.specs.declared.names.NameKind.{NameKind}
use Rattle.geo_program.specs.declared.names.NameKind.TheVariants.{Line, Param, Point}
use Rattle.geo_program.specs.WellFormed.{Scope, declare, empty_scope, scope_of}
use Rattle.geo_discover.specs.Inner.Walks.{points_with}

-- the points of a scope tell those of the scope with the names
pub points_only : (names : List Name) (s t : Scope) → s.points ≡ t.points → (scope_of s names).points ≡ (scope_of t names).points
points_only [] s t e = e
points_only (name ∷ names) s t e = points_only names (declare name.kind s) (declare name.kind t) (go name.kind)
  where
    go : (kind : NameKind) → (declare kind s).points ≡ (declare kind t).points
    go Point = ap suc e
    go Param = e
    go Line = e

declared : (kind : NameKind) (s : Scope) → (declare kind s).points ≡ points_with kind s.points
declared Point s = omega arith
declared Param s = refl
declared Line s = refl

-- with so many points so far, the names from place k on give all
abbrev pub CountsFrom : List Name → ℕ → ℕ → Type 0
CountsFrom names k n = (s : Scope) → s.points ≡ n → (scope_of s (drop k names)).points ≡ (scope_of empty_scope names).points

pub counts_first : (names : List Name) → CountsFrom names 0 0
counts_first names s e = points_only names s empty_scope e

pub counts_on : (names : List Name) (k n m : ℕ) (name : Name) → k < length names → name ≡ slice_index_or names k name
    → m ≡ points_with name.kind n → CountsFrom names k n → CountsFrom names (k + 1) m
counts_on names k n m name lt at e h s is =
    let before : Scope = record { points = n; params = 0; lines = 0 } in
    let left : scope_of before (drop k names) ≡ scope_of (declare name.kind before) (drop (k + 1) names) =
    ap (λ (xs : List Name). scope_of before xs)
    (drop_more names k name lt ∙ ap (λ (x : Name). x ∷ drop (k + 1) names) (sym at)) in
    points_only (drop (k + 1) names) s (declare name.kind before) (is ∙ e ∙ sym (declared name.kind before))
    ∙ sym (ap (λ (t : Scope). t.points) left) ∙ h before refl

pub counts_all : (names : List Name) (k n : ℕ) → length names ≤ k → CountsFrom names k n → n ≡ (scope_of empty_scope names).points
counts_all names k n le h =
    let before : Scope = record { points = n; params = 0; lines = 0 } in
    sym (ap (λ (xs : List Name). (scope_of before xs).points) (drop_all k names le)) ∙ h before refl
