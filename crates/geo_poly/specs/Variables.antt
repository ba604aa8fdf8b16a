-- The order of variables: R, then S, then P, each by its points; then the coordinates, point by point; then the parameters.
use Rattle.std.specs.Prelude.{ℕ, List, [], ◌∷◌}
use Rattle.std.specs.Ordering.{on, nat_cmp}
use Rattle.std.specs.Cmp.Lexicographic.{slice_cmp}
use Rattle.std.specs.declared.cmp.Ordering.{Ordering}
use Rattle.geo_poly.specs.declared.variables.Var.{Var}
use Rattle.geo_poly.specs.declared.variables.Var.TheVariants.{R, S, P, X, Y, T}

-- the kind and the numbers
abbrev pub rank : Var → List ℕ
rank (R a b c d) = 0 ∷ a.0 ∷ b.0 ∷ c.0 ∷ d.0 ∷ []
rank (S a b c) = 1 ∷ a.0 ∷ b.0 ∷ c.0 ∷ 0 ∷ []
rank (P a b c) = 2 ∷ a.0 ∷ b.0 ∷ c.0 ∷ 0 ∷ []
rank (X a) = 3 ∷ a.0 ∷ 0 ∷ 0 ∷ 0 ∷ []
rank (Y a) = 3 ∷ a.0 ∷ 1 ∷ 0 ∷ 0 ∷ []
rank (T t) = 4 ∷ t.0 ∷ 0 ∷ 0 ∷ 0 ∷ []

-- by the kind, and then by the numbers
abbrev pub var_cmp : Var → Var → Ordering
var_cmp = on rank (slice_cmp nat_cmp)
