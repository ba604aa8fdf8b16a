-- A chain stands for its own terms; orders of monomials, and numbers that are not 0.
use Rattle.std.proofs.Common.{◌≡◌, ℕ, Bool, true, false, eqb, List, [], ◌∷◌, refl, arith}
use Rattle.std.proofs.lemmas.Bool.Decides.{nat_tests}
use Rattle.std.specs.Prelude.{◌≢◌}
use Rattle.sparse_lists.specs.SparseLists.{AllKeys, IsCanonical}
use Rattle.poly_arena.specs.Chains.{Chains, IsLive, pairs_of}
use Rattle.geo_poly.specs.declared.variables.Var.{Var}
use Rattle.geo_poly.specs.Chained.{StandsUnder, keyed_terms_under}
use Rattle.geo_poly.specs.Keys.{IsKeyUnder, Keys}
use Rattle.geo_poly.specs.Monomials.{IsMonomial, Powers, exponents}
use Rattle.geo_poly.specs.Polynomials.{Summands}
use Rattle.geo_poly.specs.Variables.{var_cmp}

-- a chain stands for its own terms
pub StandsUnder-self : (vars : List Var) (keys : Keys) (arena : Chains) (n : ℕ) → IsLive arena n → AllKeys (IsKeyUnder vars keys) (pairs_of arena n)
    → StandsUnder vars keys arena n (keyed_terms_under vars keys (pairs_of arena n))
StandsUnder-self vars keys arena n live within = record { live = live; keys = within; terms = refl }

pub orders : (p : Summands) → AllKeys IsMonomial p → AllKeys (λ (m : Powers). IsCanonical var_cmp exponents m) p
orders [] h = tt
orders (t ∷ ts) h = (h.0.in_order, orders ts h.1)

pub some : (n : ℕ) → n ≢ 0 → eqb n 0 ≡ false
some n h = go (eqb n 0) refl
  where
    go : (b : Bool) → eqb n 0 ≡ b → b ≡ false
    go false e = refl
    go true e = absurd (h (grind (arith, nat_tests)))
