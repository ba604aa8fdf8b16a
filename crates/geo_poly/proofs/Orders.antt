-- The orders of variables, monomials and terms, and the sums of exponents and of coefficients.
use Rattle.std.proofs.Common.{◌≡◌, ℕ, eqb, cond, List, get_or, refl, sym, ap, ◌∙◌, arith}
use Rattle.std.specs.Ordering.{ordering_reverse, ordering_then, nat_cmp, flip_args}
use Rattle.std.specs.declared.cmp.Ordering.{Ordering}
use Rattle.std.specs.declared.cmp.Ordering.TheVariants.{Less, Equal, Greater}
use Rattle.std.specs.Cmp.{IsTotalOrder}
use Rattle.std.specs.FinMap.{IsAntisymmetric, nat_cmp-IsAntisymmetric, slice_cmp-IsAntisymmetric}
use Rattle.std.proofs.lemmas.Cmp.{tied_itself, nat_cmp_total, nat_list_cmp_total, on_total, then_total, back_total, lists_total}
use Rattle.std.proofs.lemmas.Bool.Decides.{nat_tests}
use Rattle.geo_poly.specs.declared.variables.Var.{Var}
use Rattle.geo_poly.specs.declared.variables.Var.TheVariants.{R, S, P, X, Y, T}
use Rattle.sparse_lists.specs.SparseLists.{IsKeyOrder, IsAdditive}
use Rattle.geo_poly.specs.Variables.{rank, var_cmp}
use Rattle.geo_poly.specs.Monomials.{Powers, exponents, power_cmp, monomial_cmp}

key_order : {K : Type 0} (cmp : K → K → Ordering) → IsTotalOrder cmp → IsAntisymmetric cmp → IsKeyOrder cmp
key_order cmp total exact = record {
  self = tied_itself total;
  exact = exact;
  flip = λ x y e. total.antisymm y x ∙ ap ordering_reverse e;
  flip_back = λ x y e. total.antisymm y x ∙ ap ordering_reverse e;
  trans = total.trans;
}

var_at : ℕ → ℕ → ℕ → ℕ → ℕ → Var
var_at k a b c d =
    cond (eqb k 0) (R (record { 0 = a }) (record { 0 = b }) (record { 0 = c }) (record { 0 = d }))
    (cond (eqb k 1) (S (record { 0 = a }) (record { 0 = b }) (record { 0 = c }))
    (cond (eqb k 2) (P (record { 0 = a }) (record { 0 = b }) (record { 0 = c }))
    (cond (eqb k 3) (cond (eqb b 0) (X (record { 0 = a })) (Y (record { 0 = a }))) (T (record { 0 = a })))))

var_of : List ℕ → Var
var_of l = var_at (get_or l 0 0) (get_or l 1 0) (get_or l 2 0) (get_or l 3 0) (get_or l 4 0)

var_of-rank : (v : Var) → var_of (rank v) ≡ v
unfolding var_of var_at
var_of-rank (R a b c d) = refl
var_of-rank (S a b c) = refl
var_of-rank (P a b c) = refl
var_of-rank (X a) = refl
var_of-rank (Y a) = refl
var_of-rank (T t) = refl

var_total : IsTotalOrder var_cmp
var_total = on_total rank nat_list_cmp_total

var_exact : IsAntisymmetric var_cmp
var_exact v w e = sym (var_of-rank v) ∙ ap var_of (slice_cmp-IsAntisymmetric nat_cmp-IsAntisymmetric (rank v) (rank w) e) ∙ var_of-rank w

pub var_order : IsKeyOrder var_cmp
var_order = key_order var_cmp var_total var_exact

both_equal : (o p : Ordering) → ordering_then o p ≡ Equal → (o ≡ Equal) × (p ≡ Equal)
both_equal Less p e = absurd (let q : Less ≡ Equal = e in cc)
both_equal Equal p e = (refl, e)
both_equal Greater p e = absurd (let q : Greater ≡ Equal = e in cc)

power_total : IsTotalOrder power_cmp
power_total = then_total (back_total (on_total (λ p. p.0) var_total)) (on_total (λ p. p.1) nat_cmp_total)

power_exact : IsAntisymmetric power_cmp
power_exact p q e =
    let parts = both_equal (var_cmp q.0 p.0) (nat_cmp p.1 q.1) e in
    λ i. (sym (var_exact q.0 p.0 parts.0) i, nat_cmp-IsAntisymmetric p.1 q.1 parts.1 i)

monomial_total : IsTotalOrder monomial_cmp
monomial_total = lists_total power_total

pub monomial_exact : IsAntisymmetric monomial_cmp
monomial_exact = slice_cmp-IsAntisymmetric power_exact

pub monomial_back : (m n : Powers) → monomial_cmp m n ≡ Less → monomial_cmp n m ≡ Greater
monomial_back m n e = monomial_total.antisymm n m ∙ ap ordering_reverse e

pub term_order : IsKeyOrder (flip_args monomial_cmp)
term_order = key_order (flip_args monomial_cmp) (back_total monomial_total) (λ m n e. sym (monomial_exact n m e))

pub exponents_add : IsAdditive exponents
exponents_add = record {
  comm = λ a b. omega arith;
  assoc = λ a b c. omega arith;
  zero-add = λ a. omega arith;
  cancel = λ a b c e. omega arith;
  zero_is = λ a e. grind (arith, nat_tests);
  is_zero-zero = refl;
}
