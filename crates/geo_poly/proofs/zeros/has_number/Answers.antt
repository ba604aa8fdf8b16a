use Rattle.std.proofs.Common.{sym, ap, subst, ◌∙◌, arith}
use Rattle.sparse_lists.specs.SparseLists.{IsCanonical}
use Rattle.geo_poly.specs.Monomials.{exponent, exponents}
use Rattle.geo_poly.specs.Shared.{told_powers, var_at}
use Rattle.geo_poly.specs.Variables.{var_cmp}
use Rattle.geo_poly.proofs.ZeroWalks.{before, tells}
use Rattle.geo_poly.proofs.zeros.has_number.Goals as goal

pub returns-then-first-number : goal.returns-then-first-number
returns-then-first-number c =
    let p = c.args.p.now in
    let f = c.in-Some.first in
    let v = var_at p.vars.now c.args.number in
    let power = c.in-Some.ensures.power in
    tells p.vars.now c.requires.rising f.number c.args.number f.exponent f.var (told_powers p f.rest) c.requires.place c.in-Some.ensures.number
    (omega (arith, c.if-first-number.true)) (subst (IsCanonical var_cmp exponents) power c.loop-first.invariant.in_order)
    (exponent v (told_powers p c.args.id)) (ap (exponent v) (sym power) ∙ c.loop-first.invariant.same)

pub loop-first-preserved : goal.loop-first-preserved
loop-first-preserved c =
    let p = c.args.p.now in
    let f = c.in-Some.first in
    let v = var_at p.vars.now c.args.number in
    let power = c.in-Some.ensures.power in
    let order = subst (IsCanonical var_cmp exponents) power c.loop-first.invariant.in_order in
    record {
      index = c.in-Some.ensures.index;
      in_order = order.2;
      same =
          before p.vars.now c.requires.rising f.number c.args.number f.exponent f.var (told_powers p f.rest) c.requires.place c.in-Some.ensures.number (omega (arith, c.if-first-number.false))
          ∙ ap (exponent v) (sym power) ∙ c.loop-first.invariant.same;
    }
