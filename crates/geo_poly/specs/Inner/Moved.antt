-- Monomials of a store under other keys, without the variables that have rows: where each of them stands then.
use Rattle.std.specs.Prelude.{◌≡◌, ◌≢◌, ℕ, ◌+◌, ◌<◌, ◌≤◌, List, Option, None, Some, Contains, length, slice_index_or}
use Rattle.mono_store.specs.declared.links.MonoId.{MonoId}
use Rattle.mono_store.specs.Stores.{words}
use Rattle.geo_poly.specs.declared.moving.Move.{Move}
use Rattle.geo_poly.specs.declared.moving.Move.TheVariants.{Kept, Replaced, Unknown}
use Rattle.geo_poly.specs.declared.moving.MovedMonomials.{MovedMonomials}
use Rattle.geo_poly.specs.declared.rows.Row.{Row}
use Rattle.geo_poly.specs.declared.shared.Shared.{Shared}
use Rattle.geo_poly.specs.declared.variables.Var.{Var}
use Rattle.geo_poly.specs.Replace.{others, row_of}
use Rattle.geo_poly.specs.Shared.{AreParts, IsIndexOf, named, told_powers, var_at}
use Rattle.geo_poly.specs.Keys.{Keys}
use Rattle.geo_poly.specs.Inner.Keyed.{IsIndexUnder}

-- the place of the variable in the list, and none where it does not stand there
abbrev pub IsPlaceOf : List Var → Var → Option ℕ → Type 0
IsPlaceOf vars v (Some k) = (k < length vars) × (var_at vars k ≡ v)
IsPlaceOf vars v None = Contains vars v → ⊥

-- the place of each of the old variables
pub record ArePlaces (old vars : List Var) (places : List (Option ℕ)) : Type 0 where
  pub whole : length places ≡ length old
  pub each : (k : ℕ) → k < length places → IsPlaceOf vars (var_at old k) (slice_index_or places k None)

-- what becomes of the variable: it has a row, or it has none and this place; where it is unknown, nothing is said
abbrev pub IsMoveOf : List Row → List Var → Var → Move → Type 0
IsMoveOf rows vars v Replaced = row_of rows v ≢ None
IsMoveOf rows vars v (Kept k) = (row_of rows v ≡ None) × IsPlaceOf vars v (Some k)
IsMoveOf rows vars v Unknown = Unit {0}

-- what becomes of the first of the old variables
pub record AreMoves (old : List Var) (rows : List Row) (vars : List Var) (moves : List Move) : Type 0 where
  pub within : length moves ≤ length old
  pub each : (k : ℕ) → k < length moves → IsMoveOf rows vars (var_at old k) (slice_index_or moves k Unknown)

-- what is left of the monomial has a key
pub record IsSame (p : Shared) (rows : List Row) (vars : List Var) (keys : Keys) (id new : MonoId) : Type 0 where
  pub old_index : IsIndexOf p id
  pub new_index : IsIndexUnder vars keys new
  pub powers : named vars (keys.powers new.0) ≡ others rows (told_powers p id)

-- the number is the key of what is left of the monomial
abbrev pub IsMovedKey : Shared → List Row → List Var → Keys → MonoId → ℕ → Type 0
IsMovedKey p rows vars keys id key = IsSame p rows vars keys id (record { 0 = key })

-- the key of what is left of the monomial; where it is none, nothing is said
abbrev pub IsMovedTo : Shared → List Row → List Var → Keys → MonoId → Option MonoId → Type 0
IsMovedTo p rows vars keys id (Some new) = IsSame p rows vars keys id new
IsMovedTo p rows vars keys id None = Unit {0}

-- the key of what is left of the monomial of each of the first links, where there is one
abbrev pub AreMovedLinks : Shared → List Row → List Var → Keys → List (Option MonoId) → Type 0
AreMovedLinks p rows vars keys links =
    (k : ℕ) → k < length links → IsMovedTo p rows vars keys (record { 0 = words p.monos.now + k }) (slice_index_or links k None)

-- what becomes of the variables of a polynomial, and the keys of its links
pub record AreMoved (p : Shared) (rows : List Row) (vars : List Var) (keys : Keys) (moved : MovedMonomials) : Type 0 where
  pub parts : AreParts p
  pub moves : AreMoves p.vars.now rows vars moved.moves.items
  pub links : AreMovedLinks p rows vars keys moved.links.items
