use Rattle.std.proofs.Common.{◌≡◌, ℕ, ◌∙◌, ap, length, length-drop, subst, arith}
use Rattle.std.specs.Prelude.{slice_get, Some}
use Rattle.geo_poly.specs.Shared.{told_powers}
use Rattle.geo_poly.proofs.Told.{drop_next, dropped_get}
use Rattle.geo_poly.proofs.reading.power_at.Goals as goal

pub unreachable-requires : goal.unreachable-requires
unreachable-requires c =
    omega (arith, length-drop c.loop-k._k (told_powers c.args.p.now c.args.id), ap length (c.loop-k.invariant.whole ∙ c.in-None.ensures.none))

pub loop-k-preserved : goal.loop-k-preserved
loop-k-preserved c = record {
  index = c.in-Some.ensures.index;
  whole = drop_next (told_powers c.args.p.now c.args.id) c.loop-k._k _ (told_powers c.args.p.now c.in-Some.first.rest) (c.loop-k.invariant.whole ∙ c.in-Some.ensures.power);
}

pub unreachable-requires-in-None-first_power : goal.unreachable-requires-in-None-first_power
unreachable-requires-in-None-first_power c =
    omega (arith, length-drop c.loop-k._k (told_powers c.args.p.now c.args.id), ap length (c.loop-k.invariant.whole ∙ c.in-None-first_power.ensures.none))

pub returns : goal.returns
returns c =
    let last : c.loop-k._k ≡ c.args.j = omega arith in
    subst (λ (k : ℕ). slice_get (told_powers c.args.p.now c.args.id) k ≡ Some (c.in-Some-first_power.first.var, c.in-Some-first_power.first.exponent)) last
    (dropped_get (told_powers c.args.p.now c.args.id) c.loop-k._k _ _ (c.loop-k.invariant.whole ∙ c.in-Some-first_power.ensures.power))
