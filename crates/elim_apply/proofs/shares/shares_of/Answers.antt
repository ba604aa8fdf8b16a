use Rattle.std.proofs.Common.{◌≡◌, Option, List, [], length, subst, ap, sym, arith, rules}
use Rattle.elim_apply.specs.declared.numbered.NumberedRow.{NumberedRow}
use Rattle.elim_apply.specs.Inner.KeptShares.{AreKept}
use Rattle.elim_apply.specs.Inner.Shares.{HaveShares}
use Rattle.elim_apply.specs.Inner.Sketches.{AreKnown, sketches}
use Rattle.geo_poly.proofs.Told.{index_at, monomial_at}
use Rattle.elim_apply.proofs.LineShares.{no_shares, one_more_share}
use Rattle.elim_apply.proofs.shares.shares_of.Goals as goal

pub share_of-requires-clause-index : goal.share_of-requires-clause-index
share_of-requires-clause-index c = index_at c.args.p.now c.loop-id.id-index c.loop-id-test.true c.requires.parts

pub share_of-requires-clause-monomial : goal.share_of-requires-clause-monomial
share_of-requires-clause-monomial c = monomial_at c.args.p.now c.loop-id.id-index c.loop-id-test.true c.requires.parts

pub share_of-requires-clause-kept : goal.share_of-requires-clause-kept
share_of-requires-clause-kept c =
    let known : c.deref.result.now ≡ c.in_ok-known.known.items = search rules in
    subst (λ (k : List (Option NumberedRow)). AreKept k c.args.p.now.monos.now.limits c.loop-id.kept) (sym known) c.loop-id.invariant.kept

pub loop-id-init : goal.loop-id-init
loop-id-init c =
    let none : c.in_ok-shares.shares.items ≡ [] = search rules in
    record {
      within = omega arith;
      whole = ap length none;
      each = no_shares (sketches c.args.rows.now) c.args.p.now c.in_ok-shares.shares.items none;
      kept = c.in_ok-kept.ensures c.in_ok-known.known.items c.args.p.now.monos.now.limits;
    }

pub loop-id-preserved : goal.loop-id-preserved
loop-id-preserved c =
    let rows = sketches c.args.rows.now in
    let p = c.args.p.now in
    let shares = c.loop-id.shares.items in
    let known : c.deref.result.now ≡ c.in_ok-known.known.items = search rules in
    let are = subst (AreKnown rows p.vars.now) (sym known) c.in_ok-known.ensures in
    record {
      within = omega (arith, c.loop-id-test.true);
      whole = search rules;
      each = subst (HaveShares rows p) (sym c.in_ok-push.ensures.items)
          (one_more_share rows p shares c.share_of.result c.loop-id.id-index c.loop-id.invariant.whole c.loop-id-test.true c.loop-id.invariant.each
          (c.share_of.ensures.share rows c.requires.powers are));
      kept = subst (λ (k : List (Option NumberedRow)). AreKept k p.monos.now.limits c.share_of.new.kept) known c.share_of.ensures.kept;
    }

pub returns : goal.returns
returns c = record {
  whole = omega (arith, c.loop-id.invariant.whole, c.loop-id.invariant.within, c.loop-id-test.false);
  each = c.loop-id.invariant.each;
}
