-- The bounds of the row of a variable, and weights and degrees that only grow.
use Rattle.std.proofs.Common.{◌≡◌, ℕ, ◌^◌, ◌≤◌, Bool, true, false, cond, Option, Some, None, List, [], ◌∷◌, subst, arith}
use Rattle.std.proofs.Math.Nat.{mul-le-mul_right}
use Rattle.std.specs.Ordering.{is_eq}
use Rattle.geo_poly.specs.declared.variables.Var.{Var}
use Rattle.geo_poly.specs.declared.rows.Row.{Row}
use Rattle.geo_poly.specs.Variables.{var_cmp}
use Rattle.geo_poly.specs.Monomials.{Powers}
use Rattle.geo_poly.specs.Replace.{IsBounded, AllBounded, row_of, weight_row, weight_rows, degree_row, degree_rows}

pub bounded_row : (rows : List Row) (v : Var) (r : Row) → AllBounded rows → row_of rows v ≡ Some r → IsBounded r.num
bounded_row [] v r h e = absurd (let q : ◌≡◌ {A = Option Row} None (Some r) = e in cc)
bounded_row (s ∷ rows) v r h e = go (is_eq (var_cmp s.var v)) e (bounded_row rows v r h.1)
  where
    go : (b : Bool) → cond b (Some s) (row_of rows v) ≡ Some r → (row_of rows v ≡ Some r → IsBounded r.num) → IsBounded r.num
    go true e rest = let which : s ≡ r = cc in subst (λ (r : Row). IsBounded r.num) which h.0
    go false e rest = rest e

-- WEIGHTS AND DEGREES
weight_row-mono : (o : Option Row) (n w w' : ℕ) → w ≤ w' → weight_row o n w ≤ weight_row o n w'
weight_row-mono None n w w' h = h
weight_row-mono (Some r) n w w' h = mul-le-mul_right (r.num.weight ^ n) h

pub weight_rows-mono : (rows : List Row) (m : Powers) (w w' : ℕ) → w ≤ w' → weight_rows rows m w ≤ weight_rows rows m w'
weight_rows-mono rows [] w w' h = h
weight_rows-mono rows (v ∷ m) w w' h = weight_rows-mono rows m _ _ (weight_row-mono (row_of rows v.0) v.1 w w' h)

degree_row-mono : (o : Option Row) (n d d' : ℕ) → d ≤ d' → degree_row o n d ≤ degree_row o n d'
degree_row-mono None n d d' h = h
degree_row-mono (Some r) n d d' h = omega (arith, h)

pub degree_rows-mono : (rows : List Row) (m : Powers) (d d' : ℕ) → d ≤ d' → degree_rows rows m d ≤ degree_rows rows m d'
degree_rows-mono rows [] d d' h = h
degree_rows-mono rows (v ∷ m) d d' h = degree_rows-mono rows m _ _ (degree_row-mono (row_of rows v.0) v.1 d d' h)
