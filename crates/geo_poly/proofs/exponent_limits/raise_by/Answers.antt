use Rattle.std.proofs.Common.{◌∙◌, subst, arith}
use Rattle.sparse_lists.specs.SparseLists.{IsCanonical}
use Rattle.geo_poly.specs.Monomials.{Powers, exponents}
use Rattle.geo_poly.specs.Shared.{told_powers}
use Rattle.geo_poly.specs.Variables.{var_cmp}
use Rattle.geo_poly.proofs.ExponentLimits.{IsRaised, IsRaised-all, IsRaised-next, IsRaised-none}
use Rattle.geo_poly.proofs.exponent_limits.raise_by.Goals as goal

pub loop-first-init : goal.loop-first-init
loop-first-init c = record {
  index = c.requires.index;
  in_order = c.requires.monomial.in_order;
  whole = c.requires.whole;
  kept = λ i. omega arith;
  raised = IsRaised-none c.args.p.now.vars.now c.args.numbers.now.items (told_powers c.args.p.now c.args.id);
}

pub loop-first-preserved : goal.loop-first-preserved
loop-first-preserved c =
    let p = c.args.p.now in
    let vars = c.args.p.now.vars.now in
    let f = c.in-Some.first in
    let m = told_powers c.args.p.now c.args.id in
    let old = c.loop-first.numbers.items in
    let new = c.raise.new.numbers.items in
    let power = c.in-Some.ensures.power in
    let order = subst (IsCanonical var_cmp exponents) power c.loop-first.invariant.in_order in
    let whole = c.loop-first.invariant.whole in
    let raised = subst (λ (n : Powers). IsRaised vars old n m) power c.loop-first.invariant.raised in
    record {
      index = c.in-Some.ensures.index;
      in_order = order.2;
      whole = c.raise.ensures.whole ∙ whole;
      kept = λ i. (let before = c.loop-first.invariant.kept i in let after = c.raise.ensures.kept i in omega (arith, before, after));
      raised = IsRaised-next vars old new f.number f.exponent f.var (told_powers p f.rest) m c.requires.rising c.in-Some.ensures.number order
          (λ known. c.raise.ensures.place (omega (arith, known, whole))) c.raise.ensures.kept raised;
    }

pub returns-clause-seen : goal.returns-clause-seen
returns-clause-seen c =
    IsRaised-all c.args.p.now.vars.now c.loop-first.numbers.items (told_powers c.args.p.now c.loop-first.rest) (told_powers c.args.p.now c.args.id)
    c.in_default.ensures.none c.loop-first.invariant.raised
