use Rattle.std.proofs.Common.{arith, refl}
use Rattle.geo_poly.specs.PolynomialVariables.{IsPlain}
use Rattle.geo_poly.specs.Polynomials.{term_at}
use Rattle.log_checker.proofs.KeysInTurn.{answers_yes, key_at, keys_all, keys_more, no_by}
use Rattle.log_checker.proofs.ending.is_term_end.Goals as goal

pub returns-then-not-is_plain : goal.returns-then-not-is_plain
returns-then-not-is_plain c =
    no_by c.if-not-is_plain.ensures
    (λ h. key_at IsPlain (term_at c.args.p.now c.args.i).0 c.loop-j.j c.power-v.result c.power-v.ensures h)

pub loop-j-preserved : goal.loop-j-preserved
loop-j-preserved c =
    keys_more IsPlain (term_at c.args.p.now c.args.i).0 c.loop-j.j c.power-v.result c.power-v.ensures
    (c.if-not-is_plain.ensures.0 refl) c.loop-j.invariant

pub returns : goal.returns
returns c =
    answers_yes (keys_all IsPlain (term_at c.args.p.now c.args.i).0 c.loop-j.j (omega (arith, c.loop-j-test.false, c.powers-j-end.ensures)) c.loop-j.invariant)
