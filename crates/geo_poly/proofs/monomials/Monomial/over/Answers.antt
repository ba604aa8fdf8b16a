use Rattle.std.proofs.Common.{◌≡◌, ℕ, ◌+◌, ◌-◌, ◌<◌, ◌≤◌, ◌++◌, [], ◌∷◌, eqb, true, false, drop, length, get_or, sym, ap, ap₂, subst, ◌∙◌, arith}
use Rattle.std.proofs.lemmas.Bool.Decides.{nat_tests}
use Rattle.std.proofs.lemmas.List.{drop_all, append-nil, nil_from_length}
use Rattle.geo_poly.specs.declared.variables.Var.{Var}
use Rattle.geo_poly.specs.declared.variables.Var.TheVariants.{R}
use Rattle.geo_poly.specs.Monomials.{Powers, IsMonomial, degree_of, exponent, exponents, product, monomial_cmp}
use Rattle.geo_poly.specs.Variables.{var_cmp}
use Rattle.geo_poly.specs.Division.{quotient, IsNoMultiple}
use Rattle.geo_poly.proofs.Orders.{exponents_add, monomial_exact, term_order, var_order}
use Rattle.sparse_lists.proofs.Canonical.{canonical_self}
use Rattle.sparse_lists.proofs.Merging.{drop_at, get_or_any}
use Rattle.geo_poly.proofs.Quotients.{next_power, no_multiple, no_multiple_by_degree}
use Rattle.geo_poly.proofs.monomials.Monomial.over.Goals as goal

abbrev none : Var × ℕ
none = (R (record { 0 = 0 }) (record { 0 = 0 }) (record { 0 = 0 }) (record { 0 = 0 }), 0)

shown : (m : Powers) (i : ℕ) → i < length m → drop i m ≡ get_or m i none ∷ drop (i + 1) m
shown m i h = drop_at m i (get_or m i none) h (get_or_any m i none (get_or m i none) h)

-- after the loop the quotient is whole
whole : (m k rest : Powers) (i : ℕ) → length m ≤ i → rest ++ quotient (drop i m) k ≡ quotient m k → rest ≡ quotient m k
whole m k rest i h e = sym (append-nil rest) ∙ ap (λ (x : Powers). rest ++ quotient x k) (sym (drop_all i m h)) ∙ e

nonzero : (n : ℕ) → 0 < n → eqb n 0 ≡ false
nonzero n h = grind (arith, nat_tests)

zero : (n : ℕ) → eqb n 0 ≡ true → n ≡ 0
zero n h = grind (arith, nat_tests)

pub push-requires : goal.push-requires
push-requires c =
    let m = c.deref-v-items.result.now in
    let k = c.args.by.now in
    let i = c.loop-v.v-index in
    let h : IsMonomial c.deref-v-items.result.now = rw c.deref-v-items.ensures.value c.self.invariant in
    let left : c.saturating_sub-left.result ≡ (get_or m i none).1 - exponent (get_or m i none).0 k = rw (← c.exponent.ensures) c.saturating_sub-left.ensures in
    let some : eqb ((get_or m i none).1 - exponent (get_or m i none).0 k) 0 ≡ false = nonzero _ (rw (← left) c.if-left-gt0.true) in
    rw left
    (next_power m k c.loop-v.rest (get_or m i none) (drop (i + 1) m) h some
    (ap (λ (x : Powers). c.loop-v.rest ++ quotient x k) (sym (shown m i c.loop-v-test.true)) ∙ c.loop-v.invariant))

pub returns-then-degree-clause-none : goal.returns-then-degree-clause-none
returns-then-degree-clause-none c =
    let m = c.deref-v-items.result.now in
    let k = c.args.by.now in
    let h : IsMonomial c.deref-v-items.result.now = rw c.deref-v-items.ensures.value c.self.invariant in
    let self-is : c.deref-v-items.result.now ≡ c.args.self.now = c.deref-v-items.ensures.value ∙ c.self.view_is in
    let rest : c.loop-v.rest ≡ quotient m k = whole m k c.loop-v.rest c.loop-v.v-index c.loop-v-test.false c.loop-v.invariant in
    let degrees : degree_of c.loop-v.rest ≡ degree_of (quotient m k) = ap degree_of rest in
    let own : degree_of c.args.self.now ≡ degree_of m = ap degree_of (sym self-is) in
    subst (IsNoMultiple k) self-is (no_multiple_by_degree m k h (λ e. c.if-degree.true (omega (arith, e, degrees, own))))

pub returns-in-Equal-clause-some : goal.returns-in-Equal-clause-some
returns-in-Equal-clause-some c = sym c.in_ok-whole.ensures ∙ monomial_exact c.in_ok-whole.whole c.args.self.now (sym c.in-Equal.ensures)

pub returns-in_default-clause-none : goal.returns-in_default-clause-none
returns-in_default-clause-none c =
    let m = c.deref-v-items.result.now in
    let k = c.args.by.now in
    let h : IsMonomial c.deref-v-items.result.now = rw c.deref-v-items.ensures.value c.self.invariant in
    let self-is : c.deref-v-items.result.now ≡ c.args.self.now = c.deref-v-items.ensures.value ∙ c.self.view_is in
    let rest : c.loop-v.rest ≡ quotient m k = whole m k c.loop-v.rest c.loop-v.v-index c.loop-v-test.false c.loop-v.invariant in
    subst (IsNoMultiple k) self-is
    (no_multiple m k h
    (λ e. c.in_default.not-Equal (c.compare.ensures
    ∙ ap (λ (x : Powers). monomial_cmp x c.args.self.now) (c.in_ok-whole.ensures ∙ ap (product k) rest ∙ e ∙ self-is) ∙ term_order.self c.args.self.now)))

pub returns-then-is_empty-clause-some : goal.returns-then-is_empty-clause-some
returns-then-is_empty-clause-some c =
    let m = c.self.inside.powers.items in
    let none : c.args.by.now ≡ [] = sym c.powers.ensures ∙ nil_from_length c.powers.result.now (zero (length c.powers.result.now) (sym c.is_empty.ensures ∙ c.if-is_empty.true)) in
    ap₂ (λ (k n : Powers). product k n) none (c.in_ok-powers.ensures.items ∙ c.deref.ensures.value)
    ∙ canonical_self var_cmp exponents var_order exponents_add m c.self.invariant.in_order ∙ c.self.view_is
