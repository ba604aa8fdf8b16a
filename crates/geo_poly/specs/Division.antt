-- Division by one term.
use Rattle.std.specs.Prelude.{◌≡◌, ◌-◌, [], ◌∷◌}
use Rattle.sparse_lists.specs.SparseLists.{put}
use Rattle.geo_poly.specs.Monomials.{Powers, exponents, exponent, product}

-- no monomial times k is m
abbrev pub IsNoMultiple : Powers → Powers → Type 0
IsNoMultiple k m = (q : Powers) → product k q ≡ m → ⊥

-- the exponents of m less those of k
abbrev pub quotient : Powers → Powers → Powers
quotient [] k = []
quotient (p ∷ m) k = put exponents p.0 (p.1 - exponent p.0 k) (quotient m k)
