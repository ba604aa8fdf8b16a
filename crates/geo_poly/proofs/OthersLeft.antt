-- What is left of a monomial without the variables that have rows: the exponents of each variable.
use Rattle.std.proofs.Common.{◌≡◌, ℕ, zero, suc, ◌+◌, ◌≤◌, Option, None, Some, List, [], ◌∷◌, cond, drop, sym, ap, subst, ◌∙◌, arith}
use Rattle.std.specs.Ordering.{is_eq}
use Rattle.std.specs.declared.cmp.Ordering.{Ordering}
use Rattle.geo_poly.specs.declared.rows.Row.{Row}
use Rattle.geo_poly.specs.declared.variables.Var.{Var}
use Rattle.geo_poly.specs.Monomials.{Powers, exponent}
use Rattle.geo_poly.specs.Replace.{kept, others, row_of}
use Rattle.geo_poly.proofs.Orders.{var_order}
use Rattle.geo_poly.proofs.ReplaceTerms.{others-none}

-- the first power has its exponent
first_least : (v : Var) (e : ℕ) (m : Powers) → e ≤ exponent v ((v, e) ∷ m)
first_least v e m = subst (λ (o : Ordering). e ≤ cond (is_eq o) e 0 + exponent v m) (sym (var_order.self v)) (omega arith)

kept_least : (v : Var) (o : Option Row) (p : Var × ℕ) (m : Powers) → exponent v m ≤ exponent v (kept o p m)
kept_least v None p m = omega arith
kept_least v (Some r) p m = omega arith

-- the later powers have no more
later_least : (v : Var) (rows : List Row) (m : Powers) (i : ℕ) → exponent v (others rows (drop i m)) ≤ exponent v (others rows m)
later_least v rows m zero = omega arith
later_least v rows [] (suc i) = omega arith
later_least v rows (p ∷ m) (suc i) = omega (arith, later_least v rows m i, kept_least v (row_of rows p.0) p (others rows m))

-- a power that stays has its exponent
pub stays_least : (rows : List Row) (m : Powers) (i : ℕ) (x : Var × ℕ) (rest : Powers) → drop i m ≡ x ∷ rest → row_of rows x.0 ≡ None → x.1 ≤ exponent x.0 (others rows m)
stays_least rows m i x rest is none =
    let here : x.1 ≤ exponent x.0 (others rows (drop i m)) =
    subst (λ (n : Powers). x.1 ≤ exponent x.0 n) (sym (ap (others rows) is ∙ others-none rows x rest none)) (first_least x.0 x.1 (others rows rest)) in
    omega (arith, here, later_least x.0 rows m i)
