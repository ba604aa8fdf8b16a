use Rattle.std.proofs.Common.{◌≤◌, length, take, subst, sym, arith, rules}
use Rattle.std.proofs.lemmas.List.{take_all}
use Rattle.geo_poly.specs.Inner.Limits.{AreGreatest}
use Rattle.geo_poly.specs.Shared.{told, told_term}
use Rattle.geo_poly.proofs.ExponentLimits.{AreGreatest-more, AreGreatest-none}
use Rattle.geo_poly.proofs.Told.{index_at, item, length-terms_of, monomial_at, told-take}
use Rattle.geo_poly.proofs.exponent_limits.set_exponents.Goals as goal

pub loop-id-init : goal.loop-id-init
loop-id-init c = record {
  whole = search rules;
  greatest = AreGreatest-none c.args.p.now.vars.now _;
}

pub raise_by-requires-clause-index : goal.raise_by-requires-clause-index
raise_by-requires-clause-index c = index_at c.args.p.now c.loop-id.id-index c.loop-id-test.true c.requires

pub raise_by-requires-clause-monomial : goal.raise_by-requires-clause-monomial
raise_by-requires-clause-monomial c = monomial_at c.args.p.now c.loop-id.id-index c.loop-id-test.true c.requires

pub loop-id-preserved : goal.loop-id-preserved
loop-id-preserved c =
    let p = c.args.p.now in
    let i = c.loop-id.id-index in
    let old = c.loop-id.numbers.items in
    let new = c.raise_by.new.numbers.items in
    record {
      whole = c.raise_by.ensures.whole;
      greatest = subst (AreGreatest p.vars.now new) (sym (told-take p i c.loop-id-test.true))
          (AreGreatest-more p.vars.now old new (take i (told p)) (told_term p (item p.list.now i)) c.raise_by.ensures.kept c.raise_by.ensures.seen
          c.loop-id.invariant.greatest);
    }

pub returns-clause-greatest : goal.returns-clause-greatest
returns-clause-greatest c =
    let p = c.args.p.now in
    let past : length (told c.args.p.now) ≤ c.loop-id.id-index =
    omega (arith, c.loop-id-test.false, length-terms_of p.vars.now p.monos.now p.list.now) in
    subst (AreGreatest p.vars.now c.loop-id.numbers.items) (take_all c.loop-id.id-index (told p) past) c.loop-id.invariant.greatest
