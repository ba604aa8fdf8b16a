use Rattle.std.proofs.Common.{Contains, arith, refl}
use Rattle.log_checker.proofs.KeysInTurn.{answers_yes, key_at, keys_all, keys_more, no_by}
use Rattle.log_checker.proofs.cutting.is_by_known.Goals as goal

pub returns-then-not-is_known : goal.returns-then-not-is_known
returns-then-not-is_known c =
    no_by c.if-not-is_known.ensures
    (λ h. key_at (λ v. Contains c.args.known.now v) c.args.by.now.0 c.loop-j.j c.power-v.result c.power-v.ensures h)

pub loop-j-preserved : goal.loop-j-preserved
loop-j-preserved c =
    keys_more (λ v. Contains c.args.known.now v) c.args.by.now.0 c.loop-j.j c.power-v.result c.power-v.ensures
    (c.if-not-is_known.ensures.0 refl) c.loop-j.invariant

pub returns : goal.returns
returns c =
    answers_yes (keys_all (λ v. Contains c.args.known.now v) c.args.by.now.0 c.loop-j.j (omega (arith, c.loop-j-test.false, c.powers-j-end.ensures)) c.loop-j.invariant)
