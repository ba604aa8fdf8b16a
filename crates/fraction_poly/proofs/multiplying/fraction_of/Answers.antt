use Rattle.std.proofs.Common.{◌≡◌, ℕ, ◌+◌, ◌≤◌, List, refl, sym, subst, arith}
use Rattle.geo_poly.specs.Polynomials.{Summands}
use Rattle.fraction_poly.specs.Inner.Charges.{charge_below, own_charge_at}
use Rattle.fraction_poly.specs.Inner.Parts.{HasParts}
use Rattle.fraction_poly.proofs.Multiplied.{AreMultiplied, AreMultiplied-push, HasParts-at}
use Rattle.fraction_poly.proofs.OwnCharges.{charge_below-more}
use Rattle.fraction_poly.proofs.Ranges.{range_sum-upto}
use Rattle.fraction_poly.proofs.multiplying.fraction_of.Goals as goal

pub fraction-requires-clause-fits : goal.fraction-requires-clause-fits
fraction-requires-clause-fits g c = c.requires.fit.each (record { 0 = c.loop-i.i }) (omega arith)

pub fraction-requires-clause-parts : goal.fraction-requires-clause-parts
fraction-requires-clause-parts g c =
    let nodes = c.args.terms.now in
    let i = c.loop-i.i in
    subst (λ (parts : List (Summands × Summands)). HasParts nodes parts (record { 0 = i })) (sym c.deref.ensures.value)
    (HasParts-at nodes i c.loop-i.parts.items c.loop-i.invariant.parts (record { 0 = i }) c.len.ensures.valid refl)

pub loop-i-preserved : goal.loop-i-preserved
loop-i-preserved g c =
    let nodes = c.args.terms.now in
    let i = c.loop-i.i in
    record {
      parts =
          subst (AreMultiplied nodes (i + 1)) (sym c.in_ok-push.ensures.items)
          (AreMultiplied-push nodes i c.loop-i.parts.items c.loop-i.invariant.parts _ c.in_ok-fraction.ensures.fraction);
      ticks = omega (arith, c.loop-i.invariant.ticks, c.in_ok-fraction.ensures.ticks, charge_below-more nodes i);
    }

pub returns-in_err-fraction-clause-ticks : goal.returns-in_err-fraction-clause-ticks
returns-in_err-fraction-clause-ticks g c =
    let nodes = c.args.terms.now in
    let i = c.loop-i.i in
    let upto = range_sum-upto (own_charge_at nodes) (i + 1) (c.args.id.0 + 1) (omega (arith, c.loop-i-test.true)) in
    omega (arith, upto, c.loop-i.invariant.ticks, c.in_err-fraction.ensures.ticks, charge_below-more nodes i)

pub returns-in_err-push-clause-ticks : goal.returns-in_err-push-clause-ticks
returns-in_err-push-clause-ticks g c =
    let nodes = c.args.terms.now in
    let i = c.loop-i.i in
    let upto = range_sum-upto (own_charge_at nodes) (i + 1) (c.args.id.0 + 1) (omega (arith, c.loop-i-test.true)) in
    omega (arith, upto, c.loop-i.invariant.ticks, c.in_ok-fraction.ensures.ticks, charge_below-more nodes i)

pub returns-clause-ticks : goal.returns-clause-ticks
returns-clause-ticks g c =
    let nodes = c.args.terms.now in
    let last : c.loop-i.i ≡ c.args.id.0 = omega (arith, c.loop-i.auto.i-end) in
    let before = subst (λ (k : ℕ). c.loop-i.ticks ≤ c.args.ticks.now + charge_below nodes k) last c.loop-i.invariant.ticks in
    omega (arith, before, c.fraction-2.ensures.ticks, charge_below-more nodes c.args.id.0)

pub fraction-requires-2-clause-parts : goal.fraction-requires-2-clause-parts
fraction-requires-2-clause-parts g c =
    let nodes = c.args.terms.now in
    subst (λ (parts : List (Summands × Summands)). HasParts nodes parts c.args.id) (sym c.deref-2.ensures.value)
    (HasParts-at nodes c.loop-i.i c.loop-i.parts.items c.loop-i.invariant.parts c.args.id c.len.ensures.valid (omega (arith, c.loop-i.auto.i-end)))
