-- The variables that are names of quantities: those whose points are sorted.
use Rattle.std.specs.Prelude.{◌≡◌, ◌≢◌, ◌<◌, ◌≤◌, pos, unsigned_abs, Some, IfSome}
use Rattle.geo_poly.specs.declared.canonical.Canon.{Canon}
use Rattle.geo_poly.specs.declared.variables.Var.{Var}
use Rattle.geo_poly.specs.declared.variables.Var.TheVariants.{R, S, P, X, Y, T}
use Rattle.geo_poly.specs.Canonical.{canonical_area, canonical_difference, canonical_ratio}

-- the points stand in their sorted order: in a ratio each pair rises, and the pairs are not the same; in an area the points rise;
-- in a Pythagoras difference the ends rise, or are the same and the middle is greater, and the middle is no end
abbrev pub IsSorted : Var → Type 0
IsSorted (R a b c d) = (a.0 < b.0) × (c.0 < d.0) × ((a.0 ≡ c.0) × (b.0 ≡ d.0) → ⊥)
IsSorted (S a b c) = (a.0 < b.0) × (b.0 < c.0)
IsSorted (P a b c) = (a.0 ≤ c.0) × (b.0 ≢ a.0) × (b.0 ≢ c.0) × (a.0 ≡ c.0 → a.0 < b.0)
IsSorted (X a) = Unit {0}
IsSorted (Y a) = Unit {0}
IsSorted (T t) = Unit {0}

-- the canonical form of the quantity that a variable names, sorted or not; coordinates and parameters are their own
abbrev pub canonical_form : Var → Canon
canonical_form (R a b c d) = canonical_ratio a b c d
canonical_form (S a b c) = canonical_area a b c
canonical_form (P a b c) = canonical_difference a b c
canonical_form (X a) = record { sign = pos 1; var = Some (X a) }
canonical_form (Y a) = record { sign = pos 1; var = Some (Y a) }
canonical_form (T t) = record { sign = pos 1; var = Some (T t) }

-- a sign 1 or -1 times a sorted variable, or one of the numbers -1, 0 and 1
pub record IsSortedForm (c : Canon) : Type 0 where
  pub sign : unsigned_abs c.sign ≤ 1
  pub variable : IfSome c.var IsSorted
  pub nonzero : IfSome c.var (λ v. c.sign ≢ pos 0)

-- LAWS
-- so is the canonical form of each quantity
abbrev pub CanonicalFormsAreSorted : Type 0
CanonicalFormsAreSorted = (v : Var) → IsSortedForm (canonical_form v)

-- and a sorted variable is its own canonical form, with the sign 1
abbrev pub SortedVariablesAreCanonical : Type 0
SortedVariablesAreCanonical = (v : Var) → IsSorted v → canonical_form v ≡ record { sign = pos 1; var = Some v }
