-- What becomes of the variables of a polynomial in a replacement.
use Rattle.std.specs.Prelude.{◌≡◌, ℕ, ◌<◌, List, Some, None, length, slice_get, slice_index_or}
use Rattle.geo_poly.specs.declared.rows.Row.{Row}
use Rattle.geo_poly.specs.declared.roles.Role.{Role}
use Rattle.geo_poly.specs.declared.roles.Role.TheVariants.{Absent, Kept, Replaced}
use Rattle.geo_poly.specs.declared.variables.Var.{Var}
use Rattle.geo_poly.specs.Inner.Moved.{IsPlaceOf}
use Rattle.geo_poly.specs.Replace.{row_of}
use Rattle.geo_poly.specs.Shared.{var_at}

-- the place of the variable's first row, or else that of the variable in the list, where it stands there
abbrev pub IsRole : List Row → List Var → Var → Role → Type 0
IsRole rows vars v (Replaced i) = (i < length rows) × (slice_get rows i ≡ row_of rows v)
IsRole rows vars v (Kept k) = (row_of rows v ≡ None) × IsPlaceOf vars v (Some k)
IsRole rows vars v Absent = (row_of rows v ≡ None) × IsPlaceOf vars v None

-- the role of each of the former variables
pub record AreRoles (rows : List Row) (vars former : List Var) (roles : List Role) : Type 0 where
  pub whole : length roles ≡ length former
  pub each : (k : ℕ) → k < length roles → IsRole rows vars (var_at former k) (slice_index_or roles k Absent)
