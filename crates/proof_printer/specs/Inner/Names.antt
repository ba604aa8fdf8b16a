-- The names that the printer holds.
use Rattle.std.specs.Prelude.{codes, ◌≡◌, ◌<◌, ◌≤◌, ◌⊎◌, ℕ, ◌++◌, List, [], length, map, slice_get, slice_index_or, unwrap_or}
use Rattle.std.specs.Fmt.{decimal}
use Rattle.geo_poly.specs.declared.variables.Var.{Var}
use Rattle.proof_printer.specs.declared.name_list.NameList.{NameList}
use Rattle.proof_printer.specs.declared.namer.Namer.{Namer}
use Rattle.proof_printer.specs.Naming.{Naming, name_at, variable_text}

-- the name of a number
abbrev pub name_in : NameList → ℕ → List ℕ
name_in l n = unwrap_or (slice_get l.names.items n) (l.mark ++ decimal n)

-- of each number the place where its name stands, which is `none` where it has no name
pub record AreFirstPlaces (places : List ℕ) (none : ℕ) (firsts : List ℕ) : Type 0 where
  pub names : (texts : List (List ℕ)) → length texts ≤ none → (n : ℕ) → n < length firsts → slice_get texts (slice_index_or firsts n 0) ≡ name_at places texts n

-- the names of points and of parameters
abbrev pub naming_in : Namer → Naming
naming_in namer = record { point = name_in namer.points; param = name_in namer.params }

-- a variable to the power 1 in a term
abbrev pub starred : Naming → Var → List ℕ
starred n v = codes "*" ++ variable_text n v

-- all the variables of a polynomial so, in their order, or none
abbrev pub AreNames : Naming → List Var → List (List ℕ) → Type 0
AreNames n vars names = (names ≡ []) ⊎ (names ≡ map (starred n) vars)
