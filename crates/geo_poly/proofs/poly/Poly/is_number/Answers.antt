use Rattle.std.proofs.Common.{◌≡◌, ℕ, ◌<◌, [], length, true, eqb, ap, subst, arith}
use Rattle.std.proofs.lemmas.Bool.Decides.{nat_tests}
use Rattle.mono_store.proofs.Unfolding.{monomial_of-one}
use Rattle.geo_poly.specs.Polynomials.{Summands}
use Rattle.geo_poly.specs.Shared.{named, told}
use Rattle.geo_poly.specs.Specialise.{degree_in}
use Rattle.geo_poly.proofs.LeadingVariables.{before_first, no_terms}
use Rattle.geo_poly.proofs.Told.{item, length-terms_of}
use Rattle.geo_poly.proofs.poly.Poly.is_number.Goals as goal

zero_at : (n one : ℕ) → eqb n one ≡ true → one ≡ 0 → n ≡ 0
zero_at n one e f = grind (arith, nat_tests)

pub returns-then-p-eq0-clause-lacks : goal.returns-then-p-eq0-clause-lacks
returns-then-p-eq0-clause-lacks c = λ e v.
    let p = c.shared-p.result in
    let none : length (told p) ≡ 0 = omega (arith, length-terms_of p.vars.now p.monos.now p.list.now, c.if-p-eq0.true) in
    subst (λ (q : Summands). degree_in v q ≡ 0) c.shared-p.ensures.terms (no_terms v (told p) none)

pub returns-clause-lacks : goal.returns-clause-lacks
returns-clause-lacks c = λ e v.
    let p = c.shared-p.result in
    let within : 0 < length p.list.now = omega (arith, c.if-p-eq0.false) in
    let is : (item p.list.now 0).0.0 ≡ 0 = zero_at (item p.list.now 0).0.0 c.one.result.0 e c.one.ensures.index in
    let none = ap (named p.vars.now) (monomial_of-one p.monos.now (item p.list.now 0).0 is) in
    subst (λ (q : Summands). degree_in v q ≡ 0) c.shared-p.ensures.terms (before_first p v [] within c.shared-p.ensures.valid none tt)
