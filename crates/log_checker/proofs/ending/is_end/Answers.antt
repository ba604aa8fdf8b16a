use Rattle.std.proofs.Common.{arith, refl}
use Rattle.sparse_lists.specs.SparseLists.{AllKeys}
use Rattle.geo_poly.specs.PolynomialVariables.{IsPlain}
use Rattle.log_checker.proofs.KeysInTurn.{answers_yes, no_by, term_of, terms_all, terms_more}
use Rattle.log_checker.proofs.ending.is_end.Goals as goal

pub returns-then-not-is_term_end : goal.returns-then-not-is_term_end
returns-then-not-is_term_end c =
    no_by c.if-not-is_term_end.ensures
    (λ h. term_of (λ m. AllKeys IsPlain m) c.args.p.now c.loop-i.i (omega (arith, c.loop-i-test.true, c.terms-i-end.ensures)) h)

pub loop-i-preserved : goal.loop-i-preserved
loop-i-preserved c =
    terms_more (λ m. AllKeys IsPlain m) c.args.p.now c.loop-i.i (c.if-not-is_term_end.ensures.0 refl) c.loop-i.invariant

pub returns : goal.returns
returns c =
    answers_yes (terms_all (λ m. AllKeys IsPlain m) c.args.p.now c.loop-i.i (omega (arith, c.loop-i-test.false, c.terms-i-end.ensures)) c.loop-i.invariant)
