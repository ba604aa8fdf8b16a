-- Names of the variables of a polynomial, made once for its terms.
use Rattle.std.specs.Prelude.{codes, ◌≡◌, ◌⊎◌, ◌+◌, ◌++◌, ℕ, List, [], length, map}
use Rattle.geo_poly.specs.declared.variables.Var.{Var}
use Rattle.proof_log.specs.Lines.{variable_name}

-- a variable to the power 1 in a term
abbrev pub starred : Var → List ℕ
starred v = codes "*" ++ variable_name v

-- all the variables so, in their order, or none
abbrev pub AreNames : List Var → List (List ℕ) → Type 0
AreNames vars names = (names ≡ []) ⊎ (names ≡ map starred vars)

-- the most bytes of a power of the variable in a term: `*`, the name, `^` and five digits
abbrev pub most_of_power : Var → ℕ
most_of_power v = 7 + length (variable_name v)
