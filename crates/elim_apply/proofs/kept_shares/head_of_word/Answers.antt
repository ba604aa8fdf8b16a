use Rattle.std.proofs.Common.{◌≡◌, ◌-◌, arith}
use Rattle.elim_apply.proofs.KeptShares.{begin_none, begun_step}
use Rattle.elim_apply.proofs.kept_shares.head_of_word.Goals as goal

pub loop-rest-init : goal.loop-rest-init
loop-rest-init c =
    let none : c.args.word - c.args.word ≡ 0 = omega arith in
    record {
      up = omega arith;
      begun = begin_none c.args.known.now c.args.digits.now c.of_one-share.result (c.args.word - c.args.word) c.args.word c.of_one-share.ensures none;
    }

pub loop-rest-preserved : goal.loop-rest-preserved
loop-rest-preserved c =
    let first = c.first_power-first.result in
    record {
      up = omega (arith, c.loop-rest.invariant.up, c.first_power-first.ensures.rest);
      begun = begun_step c.args.known.now c.args.digits.now c.loop-rest.share c.in_ok-share.share c.args.word c.loop-rest.rest first.var first.exp first.rest
          c.requires c.loop-rest.invariant.up c.first_power-first.ensures.powers c.first_power-first.ensures.rest c.in_ok-share.ensures
          c.loop-rest.invariant.begun;
    }
