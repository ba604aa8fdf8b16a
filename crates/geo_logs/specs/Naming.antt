-- The points that moves and variables name.
use Rattle.std.specs.Prelude.{◌≡◌, ℕ, ◌<◌, Option, Some, None, slice_get}
use Rattle.fraction_poly.specs.TableRows.{IsPointMet}
use Rattle.geo_points.specs.declared.ids.PointId.{PointId}
use Rattle.geo_points.specs.Placements.{Placement}
use Rattle.geo_poly.specs.declared.variables.Var.{Var}
use Rattle.geo_poly.specs.declared.variables.Var.TheVariants.{R, S, P, X, Y, T}
use Rattle.geo_terms.specs.declared.steps.Step.TheVariants.{Point}
use Rattle.geo_terms.specs.Constructions.{Construction}

-- the step that is looked at is met, where one is
abbrev pub IsPlaceMet : Placement → Construction → Option PointId → Type 0
IsPlaceMet placed c None = Unit {0}
IsPlaceMet placed c (Some y) = IsPointMet placed c y

-- the point that is looked at is below n, where one is
abbrev pub IsPlaceBelow : ℕ → Option PointId → Type 0
IsPlaceBelow n None = Unit {0}
IsPlaceBelow n (Some y) = y.0 < n

-- a step makes the point, as a free one
abbrev pub IsFree : Construction → PointId → Type 0
IsFree c a = slice_get c.steps a.0 ≡ Some Point

-- the variable names points below n alone; its coordinates are those of free points, and its parameter is one of the construction
abbrev pub IsNamed : Construction → ℕ → Var → Type 0
IsNamed c n (R a b d e) = (a.0 < n) × (b.0 < n) × (d.0 < n) × (e.0 < n)
IsNamed c n (S a b d) = (a.0 < n) × (b.0 < n) × (d.0 < n)
IsNamed c n (P a b d) = (a.0 < n) × (b.0 < n) × (d.0 < n)
IsNamed c n (X a) = (a.0 < n) × IsFree c a
IsNamed c n (Y a) = (a.0 < n) × IsFree c a
IsNamed c n (T t) = t.0 < c.params
