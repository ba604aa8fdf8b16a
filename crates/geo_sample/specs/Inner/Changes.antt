-- What the code knows, while it puts a number into polynomials.
use Rattle.std.specs.Prelude.{ℕ, ◌+◌, ℤ, List, [], ◌∷◌, Option, Some, None, length, unwrap_or}
use Rattle.geo_poly.specs.declared.variables.Var.{Var}
use Rattle.geo_poly.specs.Polynomials.{Summands}
use Rattle.geo_poly.specs.Specialise.{specialised}

-- polynomials of which some become others, and the number is put into the rest
abbrev pub changed_by : Var → ℤ → List (Option Summands) → List Summands → List Summands
changed_by v z (o ∷ os) (p ∷ ps) = unwrap_or o (specialised v z p) ∷ changed_by v z os ps
changed_by v z (o ∷ os) [] = []
changed_by v z [] ps = []

-- how many monomials of a polynomial wait for the number: none where what it becomes is made
abbrev pub waits : Option Summands → Summands → ℕ
waits (Some q) p = 0
waits None p = length p

-- of all polynomials
abbrev pub waiting : List (Option Summands) → List Summands → ℕ
waiting (o ∷ os) (p ∷ ps) = waits o p + waiting os ps
waiting (o ∷ os) [] = 0
waiting [] ps = 0
