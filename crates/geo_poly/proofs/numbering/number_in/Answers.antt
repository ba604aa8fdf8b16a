use Rattle.std.proofs.Common.{◌<◌, [], length, sym, ◌∙◌, arith}
use Rattle.geo_poly.proofs.LeadingVariables.{before_first, before_power, no_place, number_within}
use Rattle.geo_poly.proofs.Orders.{var_order}
use Rattle.geo_poly.proofs.numbering.number_in.Goals as goal

pub returns-in-None-clause-none : goal.returns-in-None-clause-none
returns-in-None-clause-none c =
    let within : 0 < length c.args.p.now.list.now = omega (arith, c.if-p-eq0.false) in
    before_first c.args.p.now c.args.v [] within c.requires c.in-None.ensures.none tt

pub returns-in-Less-clause-none : goal.returns-in-Less-clause-none
returns-in-Less-clause-none c =
    let f = c.in-Some.first in
    let within : 0 < length c.args.p.now.list.now = omega (arith, c.if-p-eq0.false) in
    before_power c.args.p.now c.args.v f.var f.exponent _ within c.requires c.in-Some.ensures.power (sym c.cmp.ensures ∙ c.in-Less.is)

pub returns-in-Equal-clause-within : goal.returns-in-Equal-clause-within
returns-in-Equal-clause-within c = (number_within c.args.p.now c.in-Some.first.number c.in-Some.first.var c.in-Some.ensures.number).0

pub returns-in-Equal-clause-variable : goal.returns-in-Equal-clause-variable
returns-in-Equal-clause-variable c =
    (number_within c.args.p.now c.in-Some.first.number c.in-Some.first.var c.in-Some.ensures.number).1
    ∙ sym (var_order.exact c.args.v c.in-Some.first.var (sym c.cmp.ensures ∙ c.in-Equal.is))

pub returns-in-Greater-clause-none : goal.returns-in-Greater-clause-none
returns-in-Greater-clause-none c = no_place c.args.p.now c.args.v c.find_place.result c.find_place.ensures c.requires
