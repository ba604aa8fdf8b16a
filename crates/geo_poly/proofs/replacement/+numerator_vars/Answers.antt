use Rattle.std.proofs.Common.{ℕ, zero, suc, List, [], ◌∷◌, ◌/◌, length, take, drop, subst}
use Rattle.std.specs.Prelude.{Contains}
use Rattle.geo_poly.specs.declared.rows.Row.{Row}
use Rattle.geo_poly.specs.declared.variables.Var.{Var}
use Rattle.geo_poly.specs.KeptVariables.{AllNumerators}
use Rattle.geo_poly.proofs.ChainSwaps.{both_ok}
use Rattle.geo_poly.proofs.Unions.{AllNumerators-longer}
use Rattle.geo_poly.proofs.VariablesInOrder.{none_rise}
use Rattle.geo_poly.proofs.replacement.+numerator_vars.Goals as goal

-- what holds of both halves of the rows holds of all
joined : (Holds : Var → Type 0) (rows : List Row) (k : ℕ) → AllNumerators Holds (take k rows) → AllNumerators Holds (drop k rows) → AllNumerators Holds rows
joined Holds [] k front back = tt
joined Holds (row ∷ rows) zero front back = back
joined Holds (row ∷ rows) (suc k) front back = (front.0, joined Holds rows k front.1 back)

pub returns-in-empty-clause-rising : goal.returns-in-empty-clause-rising
returns-in-empty-clause-rising t c = rw c.new.ensures.items none_rise

pub returns-in_ok-right-in_default-clause-rows : goal.returns-in_ok-right-in_default-clause-rows
returns-in_ok-right-in_default-clause-rows t c =
    let rows = c.args.rows.now in
    let k = length c.args.rows.now / 2 in
    let left = c.in_ok-left-in_default.left in
    let right = c.in_ok-right-in_default.right in
    let front = subst (λ (rs : List Row). AllNumerators (Contains left) rs) c.split_at.ensures.front c.in_ok-left-in_default.ensures.rows in
    let back = subst (λ (rs : List Row). AllNumerators (Contains right) rs) c.split_at.ensures.back c.in_ok-right-in_default.ensures.rows in
    both_ok c.union.result _ _ _
    (λ vs more_left more_right.
    joined (Contains vs) rows k
    (AllNumerators-longer left vs (take k rows) (λ v stands. more_left v (rw c.as_slice-in_default.ensures stands)) front)
    (AllNumerators-longer right vs (drop k rows) (λ v stands. more_right v (rw c.as_slice-in_default-2.ensures stands)) back))
    c.union.ensures.left c.union.ensures.right
