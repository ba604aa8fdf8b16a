-- The places of rows by their variables.
use Rattle.std.specs.Prelude.{◌≡◌, ℕ, List, slice_get}
use Rattle.std.specs.BTreeMap.{BTreeMap, get}
use Rattle.std.specs.Option.{option_and_then}
use Rattle.geo_poly.specs.declared.variables.Var.{Var}
use Rattle.geo_poly.specs.declared.rows.Row.{Row}
use Rattle.geo_poly.specs.declared.row_table.KnownPlace.{KnownPlace}
use Rattle.geo_poly.specs.Replace.{row_of}
use Rattle.geo_poly.specs.Variables.{var_cmp}

-- at each variable of a row stands the place of its first row
abbrev pub AreFirstPlaces : List Row → BTreeMap Var ℕ → Type 0
AreFirstPlaces rows places = (v : Var) → option_and_then (slice_get rows) (get var_cmp places v) ≡ row_of rows v

-- the place is that of the first row of the variable, where it has one
abbrev pub IsKnown : List Row → KnownPlace → Type 0
IsKnown rows known = option_and_then (slice_get rows) known.place ≡ row_of rows known.var
