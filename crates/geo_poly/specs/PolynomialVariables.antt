-- The variables of a polynomial.
use Rattle.std.specs.Prelude.{◌≢◌, map, List, [], Any}
use Rattle.std.specs.List.{flat_map, fold}
use Rattle.std.specs.BTreeSet.{insert_key}
use Rattle.sparse_lists.specs.SparseLists.{AllKeys}
use Rattle.geo_poly.specs.declared.variables.Var.{Var}
use Rattle.geo_poly.specs.declared.variables.Var.TheVariants.{R, S, P, X, Y, T}
use Rattle.geo_poly.specs.Monomials.{exponent}
use Rattle.geo_poly.specs.Polynomials.{Summands}
use Rattle.geo_poly.specs.Variables.{var_cmp}

-- the variables of a polynomial in their order, each once
abbrev pub variables_of : Summands → List Var
variables_of q = fold (insert_key var_cmp) [] (flat_map (λ t. map (λ p. p.0) t.0) q)

-- a monomial of the polynomial has the variable
abbrev pub HasVariable : Var → Summands → Type 0
HasVariable v q = Any (λ t. exponent v t.0 ≢ 0) q

-- each variable of the polynomial has the property
abbrev pub AllVariables : (Var → Type 0) → Summands → Type 0
AllVariables Holds q = AllKeys (λ m. AllKeys Holds m) q

-- the variable is a ratio
abbrev pub IsRatio : Var → Type 0
IsRatio (R a b c d) = Unit {0}
IsRatio _ = ⊥

-- the variable is a quantity of points: a ratio, an area or a Pythagoras difference
abbrev pub IsQuantity : Var → Type 0
IsQuantity (R a b c d) = Unit {0}
IsQuantity (S a b c) = Unit {0}
IsQuantity (P a b c) = Unit {0}
IsQuantity _ = ⊥

-- the variable is a coordinate or a parameter
abbrev pub IsPlain : Var → Type 0
IsPlain (X a) = Unit {0}
IsPlain (Y a) = Unit {0}
IsPlain (T t) = Unit {0}
IsPlain _ = ⊥
