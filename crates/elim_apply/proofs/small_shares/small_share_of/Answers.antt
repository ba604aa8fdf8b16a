use Rattle.std.proofs.Common.{Option, sym, ap, ◌∙◌}
use Rattle.geo_poly.specs.declared.rows.Row.{Row}
use Rattle.geo_poly.specs.Monomials.{Powers}
use Rattle.geo_poly.specs.Shared.{told_powers}
use Rattle.elim_apply.specs.Inner.Shares.{with_power, with_powers}
use Rattle.elim_apply.proofs.KeptShares.{row_at_number}
use Rattle.elim_apply.proofs.small_shares.small_share_of.Goals as goal

pub loop-first-init : goal.loop-first-init
loop-first-init c = record {
  index = c.requires;
  so_far = λ rows are. ap (with_powers rows (told_powers c.args.p.now c.args.id)) c.of_one-share.ensures;
}

pub loop-first-preserved : goal.loop-first-preserved
loop-first-preserved c =
    let p = c.args.p.now in
    let f = c.in-Some.first in
    record {
      index = c.in-Some.ensures.index;
      so_far = λ rows are.
          ap (with_powers rows (told_powers p f.rest))
          (c.in_ok-share.ensures
          ∙ ap (λ (o : Option Row). with_power o f.exponent c.loop-first.share)
          (row_at_number rows p.vars.now c.args.known.now f.number f.var are c.in-Some.ensures.number))
          ∙ ap (λ (m : Powers). with_powers rows m c.loop-first.share) (sym c.in-Some.ensures.power)
          ∙ c.loop-first.invariant.so_far rows are;
    }

pub returns : goal.returns
returns c = λ rows are.
    c.widened.ensures rows (told_powers c.args.p.now c.args.id)
    (ap (λ (m : Powers). with_powers rows m c.loop-first.share) (sym c.in_default.ensures.none) ∙ c.loop-first.invariant.so_far rows are)
