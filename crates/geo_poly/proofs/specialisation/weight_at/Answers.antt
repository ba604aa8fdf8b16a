use Rattle.std.proofs.Common.{◌≡◌, ℕ, ◌+◌, ◌-◌, ◌*◌, ◌^◌, min, ℤ, unsigned_abs, FitsSigned, to_z, of_z, sym, ap, ap₂, ◌∙◌, arith, rules}
use Rattle.std.specs.Int.{w128}
use Rattle.std.proofs.lemmas.Int.{to_z-of_z}
use Rattle.std.proofs.lemmas.List.{take_all}
use Rattle.geo_poly.specs.Monomials.{exponent}
use Rattle.geo_poly.specs.Polynomials.{Summands}
use Rattle.geo_poly.specs.Shared.{told, told_powers, told_term}
use Rattle.geo_poly.specs.Specialise.{specialised_weight}
use Rattle.geo_poly.proofs.Capped.{cap_right}
use Rattle.geo_poly.proofs.SpecialisedLaws.{weight-more}
use Rattle.geo_poly.proofs.Told.{index_at, item, length-terms_of, monomial_at, told-is, told-within}
use Rattle.geo_poly.proofs.specialisation.weight_at.Goals as goal

capped_step : (m w k q : ℕ) → min (min w m + min (k * min q m) m) m ≡ min (w + k * q) m
capped_step m w k q = let capped : min (k * min q m) m ≡ min (k * q) m = cap_right k q m in omega (arith, capped)

pub exponent_at-requires-clause-index : goal.exponent_at-requires-clause-index
exponent_at-requires-clause-index c = index_at c.args.p.now c.loop-id.id-index c.loop-id-test.true c.requires

pub exponent_at-requires-clause-monomial : goal.exponent_at-requires-clause-monomial
exponent_at-requires-clause-monomial c = monomial_at c.args.p.now c.loop-id.id-index c.loop-id-test.true c.requires

pub loop-id-preserved : goal.loop-id-preserved
loop-id-preserved c =
    let m = 2 ^ 128 - 1 in
    let p = c.args.p.now in
    let i = c.loop-id.id-index in
    let t = item p.list.now i in
    let z = to_z w128 (of_z w128 c.args.value) in
    let fits : FitsSigned w128 (item c.args.p.now.list.now c.loop-id.id-index).1 = search rules in
    let coefficient : c.unsigned_abs.result ≡ unsigned_abs (item c.args.p.now.list.now c.loop-id.id-index).1 = c.unsigned_abs.ensures.value ∙ ap unsigned_abs (to_z-of_z w128 t.1 fits) in
    let power = c.saturating_pow-power.ensures ∙ ap₂ (λ b e. min (b ^ e) m) c.unsigned_abs-base.ensures.value c.exponent_at.ensures in
    c.saturating_add-weight.ensures
    ∙ ap₂ (λ a b. min (a + b) m) c.loop-id.invariant (c.saturating_mul.ensures ∙ ap₂ (λ a b. min (a * b) m) coefficient power)
    ∙ capped_step m _ (unsigned_abs t.1) (unsigned_abs z ^ exponent c.args.v (told_powers p t.0))
    ∙ ap (λ n. min n m) (sym (weight-more c.args.v z (told p) i (told_term p t) (told-within p i c.loop-id-test.true) (told-is p i c.loop-id-test.true)))

pub returns : goal.returns
returns c =
    let m = 2 ^ 128 - 1 in
    let p = c.args.p.now in
    c.loop-id.invariant
    ∙ ap (λ (ts : Summands). min (specialised_weight c.args.v (to_z w128 (of_z w128 c.args.value)) ts) m)
    (take_all c.loop-id.id-index (told p) (omega (arith, length-terms_of p.vars.now p.monos.now p.list.now, c.loop-id-test.false)))
    ∙ ap (λ (z : ℤ). min (specialised_weight c.args.v z (told p)) m) (to_z-of_z w128 c.args.value c.ranges.value)
