use Rattle.std.proofs.Common.{◌≡◌, ℕ, ℤ, List, ◌+◌, ◌<◌, ◌≤◌, ◌++◌, ◌∷◌, [], eqb, true, false, drop, length, get_or, Contains, refl, sym, ap, subst, ◌∙◌, arith}
use Rattle.std.proofs.lemmas.Bool.Decides.{nat_tests}
use Rattle.std.proofs.lemmas.List.{drop_all, append-nil}
use Rattle.sparse_lists.proofs.Merging.{drop_at, get_or_any}
use Rattle.geo_poly.specs.declared.variables.Var.{Var}
use Rattle.geo_poly.specs.declared.variables.Var.TheVariants.{R}
use Rattle.geo_poly.specs.Monomials.{Powers, IsMonomial, exponent}
use Rattle.sparse_lists.specs.SparseLists.{AllKeys}
use Rattle.geo_poly.specs.Polynomials.{Summands}
use Rattle.geo_poly.specs.Factors.{IsLeastExponent}
use Rattle.geo_poly.specs.declared.shared.Shared.{Shared}
use Rattle.geo_poly.specs.Shared.{told, told_powers, told_term}
use Rattle.geo_poly.proofs.Told.{index_at, item, monomial_at, told-is, told-within}
use Rattle.geo_poly.proofs.Cuts.{reduced, IsAbove, IsMonomial-reduced, next_reduced, next_put, next_left_out, common_exponent}
use Rattle.geo_poly.proofs.Cuts.{common_exponent-other, IsMonomial-first, IsAbove-first, found_exponent, known_in_reduced, other_in_reduced}
use Rattle.geo_poly.proofs.division.common_monomial.Goals as goal
use Rattle.geo_poly.proofs.division.common_monomial.Goals.{then-is_known+then-least-gt0+in_ok-push, then-is_known+else-least-gt0, else-is_known}

abbrev none : Var × ℕ
none = (R (record { 0 = 0 }) (record { 0 = 0 }) (record { 0 = 0 }) (record { 0 = 0 }), 0)

shown : (m : Powers) (i : ℕ) → i < length m → drop i m ≡ get_or m i none ∷ drop (i + 1) m
shown m i h = drop_at m i (get_or m i none) h (get_or_any m i none (get_or m i none) h)

at_hand : (f : Var → ℕ) (m done : Powers) (i : ℕ) → i < length m → done ++ reduced f (drop i m) ≡ reduced f m → done ++ reduced f (get_or m i none ∷ drop (i + 1) m) ≡ reduced f m
at_hand f m done i h e = ap (λ (x : Powers). done ++ reduced f x) (sym (shown m i h)) ∙ e

-- after the loop the monomial is whole
whole : (f : Var → ℕ) (m done : Powers) (i : ℕ) → length m ≤ i → done ++ reduced f (drop i m) ≡ reduced f m → done ≡ reduced f m
whole f m done i h e = sym (append-nil done) ∙ ap (λ (x : Powers). done ++ reduced f x) (sym (drop_all i m h)) ∙ e

nonzero : (n : ℕ) → 0 < n → eqb n 0 ≡ false
nonzero n h = grind (arith, nat_tests)

-- what the loop knows of the first monomial
IsMonomial-items : (m : Powers) (terms : Summands) (t : Powers × ℤ) → m ≡ (get_or terms 0 t).0 → 0 < length terms → t ≡ get_or terms 0 t → AllKeys IsMonomial terms → IsMonomial m
IsMonomial-items m terms t is some at all = subst IsMonomial (ap (λ (x : Powers × ℤ). x.0) at ∙ sym is) (IsMonomial-first terms t some at all)

IsAbove-items : (known : List Var) (m : Powers) (terms : Summands) (t : Powers × ℤ) → m ≡ (get_or terms 0 t).0 → 0 < length terms
    → t ≡ get_or terms 0 t → AllKeys IsMonomial terms → IsAbove (common_exponent known terms) m
IsAbove-items known m terms t is some at all =
    subst (IsAbove (common_exponent known terms)) (ap (λ (x : Powers × ℤ). x.0) at ∙ sym is) (IsAbove-first known terms t some at (IsMonomial-first terms t some at all))

-- the first term of a polynomial
abbrev first : Shared → Powers × ℤ
first p = told_term p (item p.list.now 0)

first_items : (p : Shared) (m n : Powers) → 0 < length p.list.now → m ≡ n → n ≡ told_powers p (item p.list.now 0).0 → m ≡ (get_or (told p) 0 (first p)).0
first_items p m n some e f = e ∙ f ∙ ap (λ (x : Powers × ℤ). x.0) (told-is p 0 some)

pub monomial_at-requires-clause-index : goal.monomial_at-requires-clause-index
monomial_at-requires-clause-index c = index_at c.args.p.now 0 c.requires.some c.requires.parts

pub monomial_at-requires-clause-monomial : goal.monomial_at-requires-clause-monomial
monomial_at-requires-clause-monomial c = monomial_at c.args.p.now 0 c.requires.some c.requires.parts

pub push-requires : goal.push-requires
push-requires c =
    let f = common_exponent c.args.known.now (told c.args.p.now) in
    let m = c.powers-v-items.result.now in
    let i = c.loop-v.v-index in
    let p = get_or m i none in
    let h = IsMonomial-items m (told c.args.p.now) (first c.args.p.now)
    (first_items c.args.p.now _ _ c.requires.some c.powers-v-items.ensures c.in_ok-first.ensures)
    (told-within c.args.p.now 0 c.requires.some) (told-is c.args.p.now 0 c.requires.some) c.requires.parts.polynomial.monomials in
    let above = IsAbove-items c.args.known.now m (told c.args.p.now) (first c.args.p.now)
    (first_items c.args.p.now _ _ c.requires.some c.powers-v-items.ensures c.in_ok-first.ensures)
    (told-within c.args.p.now 0 c.requires.some) (told-is c.args.p.now 0 c.requires.some) c.requires.parts.polynomial.monomials in
    let e = found_exponent c.args.known.now (told c.args.p.now) p.0 c.least_exponent-least.result
    (told-within c.args.p.now 0 c.requires.some) (c.if-is_known.ensures.0 refl) c.least_exponent-least.ensures in
    let some : eqb (f p.0) 0 ≡ false = nonzero (f p.0) (subst (λ n. 0 < n) e c.if-least-gt0.true) in
    subst (λ (n : ℕ). IsMonomial (c.loop-v.common ++ (p.0, n) ∷ [])) (sym e)
    (next_reduced f m c.loop-v.common p (drop (i + 1) m) h above some (at_hand f m c.loop-v.common i c.loop-v-test.true c.loop-v.invariant))

pub loop-v-preserved : goal.loop-v-preserved
loop-v-preserved c =
    let f = common_exponent c.args.known.now (told c.args.p.now) in
    let m = c.powers-v-items.result.now in
    let i = c.loop-v.v-index in
    let p = get_or m i none in
    let at = at_hand f m c.loop-v.common i c.loop-v-test.true c.loop-v.invariant in
    elim c.if-is_known.branch [
      | then-is_known+then-least-gt0+in_ok-push w ↦
          let e = found_exponent c.args.known.now (told c.args.p.now) p.0 w.least_exponent-least.result
          (told-within c.args.p.now 0 c.requires.some) (w.if-is_known.ensures.0 refl) w.least_exponent-least.ensures in
          let some : eqb (f p.0) 0 ≡ false = nonzero (f p.0) (subst (λ n. 0 < n) e w.if-least-gt0.true) in
          subst (λ (x : Powers). x ++ reduced f (drop (i + 1) m) ≡ reduced f m)
          (sym (w.common-is ∙ w.in_ok-push.ensures.ok ∙ ap (λ (n : ℕ). c.loop-v.common ++ (p.0, n) ∷ []) e))
          (next_put f m c.loop-v.common p (drop (i + 1) m) some at)
      | then-is_known+else-least-gt0 w ↦
          let e = found_exponent c.args.known.now (told c.args.p.now) p.0 w.least_exponent-least.result
          (told-within c.args.p.now 0 c.requires.some) (w.if-is_known.ensures.0 refl) w.least_exponent-least.ensures in
          let none-left : f p.0 ≡ 0 = omega (arith, e, w.if-least-gt0.false) in
          subst (λ (x : Powers). x ++ reduced f (drop (i + 1) m) ≡ reduced f m) (sym (w.common-is)) (next_left_out f m c.loop-v.common p (drop (i + 1) m) none-left at)
      | else-is_known w ↦
          let unknown : Contains c.args.known.now p.0 → ⊥ = λ h. absurd (let q : false ≡ true = w.if-is_known.ensures.1 h in cc) in
          subst (λ (x : Powers). x ++ reduced f (drop (i + 1) m) ≡ reduced f m) (sym (w.common-is))
          (next_left_out f m c.loop-v.common p (drop (i + 1) m) (common_exponent-other c.args.known.now (told c.args.p.now) p.0 unknown) at)
    ]

pub returns-clause-monomial : goal.returns-clause-monomial
returns-clause-monomial c =
    let f = common_exponent c.args.known.now (told c.args.p.now) in
    let t = (first c.args.p.now) in
    let h : IsMonomial (first c.args.p.now).0 = IsMonomial-first (told c.args.p.now) t (told-within c.args.p.now 0 c.requires.some)
    (told-is c.args.p.now 0 c.requires.some) c.requires.parts.polynomial.monomials in
    let done : c.loop-v.common ≡ reduced f
    (first c.args.p.now).0 = whole f _ c.loop-v.common c.loop-v.v-index c.loop-v-test.false c.loop-v.invariant
    ∙ ap (reduced f) (c.powers-v-items.ensures ∙ c.in_ok-first.ensures) in
    subst IsMonomial (sym done) (IsMonomial-reduced f t.0 h
    (IsAbove-first c.args.known.now (told c.args.p.now) t (told-within c.args.p.now 0 c.requires.some)
    (told-is c.args.p.now 0 c.requires.some) h))

pub returns-clause-known : goal.returns-clause-known
returns-clause-known c = λ v known.
    let f = common_exponent c.args.known.now (told c.args.p.now) in
    let t = (first c.args.p.now) in
    let h : IsMonomial (first c.args.p.now).0 = IsMonomial-first (told c.args.p.now) t (told-within c.args.p.now 0 c.requires.some)
    (told-is c.args.p.now 0 c.requires.some) c.requires.parts.polynomial.monomials in
    let done : c.loop-v.common ≡ reduced f
    (first c.args.p.now).0 = whole f _ c.loop-v.common c.loop-v.v-index c.loop-v-test.false c.loop-v.invariant
    ∙ ap (reduced f) (c.powers-v-items.ensures ∙ c.in_ok-first.ensures) in
    subst (λ (m : Powers). IsLeastExponent v (told c.args.p.now) (exponent v m)) (sym done)
    (known_in_reduced c.args.known.now (told c.args.p.now) t v (told-within c.args.p.now 0 c.requires.some)
    (told-is c.args.p.now 0 c.requires.some) h known)

pub returns-clause-others : goal.returns-clause-others
returns-clause-others c = λ v other.
    let f = common_exponent c.args.known.now (told c.args.p.now) in
    let t = (first c.args.p.now) in
    let h : IsMonomial (first c.args.p.now).0 = IsMonomial-first (told c.args.p.now) t (told-within c.args.p.now 0 c.requires.some)
    (told-is c.args.p.now 0 c.requires.some) c.requires.parts.polynomial.monomials in
    let done : c.loop-v.common ≡ reduced f
    (first c.args.p.now).0 = whole f _ c.loop-v.common c.loop-v.v-index c.loop-v-test.false c.loop-v.invariant
    ∙ ap (reduced f) (c.powers-v-items.ensures ∙ c.in_ok-first.ensures) in
    ap (exponent v) done ∙ other_in_reduced c.args.known.now (told c.args.p.now) t v (told-within c.args.p.now 0 c.requires.some) (told-is c.args.p.now 0 c.requires.some) h other
