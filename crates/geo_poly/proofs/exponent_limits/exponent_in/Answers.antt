use Rattle.std.proofs.Common.{[], true, false, ap, arith}
use Rattle.std.proofs.lemmas.List.{drop_all}
use Rattle.sparse_lists.proofs.Merging.{get_or_any}
use Rattle.geo_poly.specs.Monomials.{exponent}
use Rattle.geo_poly.specs.Shared.{var_at}
use Rattle.geo_poly.proofs.ExponentLimits.{exponent-step, power_at}
use Rattle.geo_poly.proofs.exponent_limits.exponent_in.Goals as goal
use Rattle.geo_poly.proofs.exponent_limits.exponent_in.Goals.{then-eq, else-eq}

pub loop-w-preserved : goal.loop-w-preserved
loop-w-preserved c =
    let v = c.args.v in
    let ps = c.args.exponents.now in
    let i = c.loop-w.w-index in
    let total = c.loop-w.total in
    let p = power_at ps i in
    let within = c.loop-w-test.true in
    let at = get_or_any ps i (var_at [] 0, 0) p within in
    elim c.if-eq.branch [
      | then-eq w ↦ record {
        small = omega (arith, w.total-is, w.saturating_add-total.type_inv);
        sum = omega (arith, w.total-is, w.saturating_add-total.ensures, c.loop-w.invariant.sum, exponent-step v ps i total p true within at w.if-eq.ensures);
      }
      | else-eq w ↦ record {
        small = omega (arith, w.total-is, c.loop-w.invariant.small);
        sum = omega (arith, w.total-is, c.loop-w.invariant.sum, exponent-step v ps i total p false within at w.if-eq.ensures);
      }
    ]

pub returns : goal.returns
returns c =
    let none = ap (exponent c.args.v) (drop_all c.loop-w.w-index c.args.exponents.now (omega arith)) in
    omega (arith, none, c.loop-w.invariant.sum, c.loop-w.invariant.small)
