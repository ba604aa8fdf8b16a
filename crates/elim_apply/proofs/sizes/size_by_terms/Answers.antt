use Rattle.std.proofs.Common.{◌+◌, ◌*◌, ◌<◌, ◌≤◌, drop, length, subst, ap, ◌∙◌, unsigned_abs, FitsSigned, arith, rules}
use Rattle.std.specs.Int.{w128}
use Rattle.std.specs.Prelude.{sum_by}
use Rattle.std.proofs.lemmas.Int.{to_z-of_z}
use Rattle.std.proofs.lemmas.List.{drop_all}
use Rattle.elim_apply.specs.Inner.Shares.{IsShareOf}
use Rattle.elim_apply.specs.Inner.Sketches.{sketch, sketches}
use Rattle.geo_poly.specs.Monomials.{Powers}
use Rattle.geo_poly.specs.Polynomials.{Summands}
use Rattle.geo_poly.specs.Shared.{told, told_powers, told_term}
use Rattle.geo_poly.proofs.Told.{item, length-terms_of, told-drop}
use Rattle.elim_apply.proofs.LineShares.{monomial_of_term}
use Rattle.elim_apply.proofs.LineSizes.{IsSizeSoFar, line_size, no_size, size_more, whole_size, within_top}
use Rattle.elim_apply.proofs.sizes.size_by_terms.Goals as goal

pub charge-requires : goal.charge-requires
charge-requires c =
    let rows = sketches c.args.rows.now in
    let p = c.args.p.now in
    let i = c.loop-i.i in
    let within : c.loop-i.i < length c.args.p.now.list.now = omega (arith, c.loop-i-test.true) in
    let share = subst (λ (m : Powers). IsShareOf rows m 1 c.share_at.result) (monomial_of_term p i within)
    (c.share_at.ensures rows c.requires.shares.each) in
    within_top rows p i c.unsigned_abs.result c.times-share.result c.most_denominators-top.result within
    (c.times-share.ensures rows (told_powers p (item p.list.now i).0) share)
    (c.most_denominators-top.ensures rows c.requires.shares)

pub weight_over-requires : goal.weight_over-requires
weight_over-requires c =
    let rows = sketches c.args.rows.now in
    let p = c.args.p.now in
    let i = c.loop-i.i in
    let within : c.loop-i.i < length c.args.p.now.list.now = omega (arith, c.loop-i-test.true) in
    let share = subst (λ (m : Powers). IsShareOf rows m 1 c.share_at.result) (monomial_of_term p i within)
    (c.share_at.ensures rows c.requires.shares.each) in
    within_top rows p i c.unsigned_abs.result c.times-share.result c.most_denominators-top.result within
    (c.times-share.ensures rows (told_powers p (item p.list.now i).0) share)
    (c.most_denominators-top.ensures rows c.requires.shares)

pub degree_over-requires : goal.degree_over-requires
degree_over-requires c =
    let rows = sketches c.args.rows.now in
    let p = c.args.p.now in
    let i = c.loop-i.i in
    let within : c.loop-i.i < length c.args.p.now.list.now = omega (arith, c.loop-i-test.true) in
    let share = subst (λ (m : Powers). IsShareOf rows m 1 c.share_at.result) (monomial_of_term p i within)
    (c.share_at.ensures rows c.requires.shares.each) in
    within_top rows p i c.unsigned_abs.result c.times-share.result c.most_denominators-top.result within
    (c.times-share.ensures rows (told_powers p (item p.list.now i).0) share)
    (c.most_denominators-top.ensures rows c.requires.shares)

pub loop-i-preserved : goal.loop-i-preserved
loop-i-preserved c =
    let made = sketch c.args.rows.now c.args.den in
    let top = c.most_denominators-top.result in
    let p = c.args.p.now in
    let q = told p in
    let i = c.loop-i.i in
    let m = told_powers p (item p.list.now i).0 in
    let start = made.charge + 4 * (sum_by (λ r. r.num.count) made.rows + made.den.count) in
    let fits : FitsSigned w128 (item c.args.p.now.list.now c.loop-i.i).1 = search rules in
    let absolute = c.unsigned_abs.ensures.value ∙ ap unsigned_abs (to_z-of_z w128 (item p.list.now i).1 fits) in
    let within : c.loop-i.i < length c.args.p.now.list.now = omega (arith, c.loop-i-test.true) in
    let share = subst (λ (m : Powers). IsShareOf made.rows m 1 c.share_at.result) (monomial_of_term p i within)
    (c.share_at.ensures made.rows c.requires.shares.each) in
    let here = subst (λ (left : Summands). IsSizeSoFar made top start q left c.loop-i.charge c.loop-i.weight c.loop-i.degree) (told-drop p i within) c.loop-i.invariant in
    size_more made top start q (told_term p (item p.list.now i)) (drop (i + 1) q) c.times-share.result c.loop-i.charge c.loop-i.weight c.loop-i.degree
    c.charge.result c.weight_over.result c.degree_over.result c.saturating_add-charge.result c.saturating_add-weight.result c.max-degree.result
    (subst (λ k. IsShareOf made.rows m k c.times-share.result) absolute (c.times-share.ensures made.rows m share))
    (record { charge-is = c.charge.ensures; weight-is = c.weight_over.ensures; degree-is = c.degree_over.ensures })
    c.saturating_add-charge.ensures c.saturating_add-weight.ensures c.max-degree.ensures here

pub loop-i-init : goal.loop-i-init
loop-i-init c =
    let made = sketch c.args.rows.now c.args.den in
    no_size made c.most_denominators-top.result
    (made.charge + 4 * (sum_by (λ r. r.num.count) made.rows + made.den.count)) c.charge_of_rows-charge.result (told c.args.p.now)
    c.charge_of_rows-charge.ensures

pub returns-clause-top : goal.returns-clause-top
returns-clause-top c = c.most_denominators-top.ensures (sketches c.args.rows.now) c.requires.shares

pub returns-clause-size : goal.returns-clause-size
returns-clause-size c =
    let made = sketch c.args.rows.now c.args.den in
    let rows = sketches c.args.rows.now in
    let top = c.most_denominators-top.result in
    let p = c.args.p.now in
    let q = told p in
    let i = c.loop-i.i in
    let start = made.charge + 4 * (sum_by (λ r. r.num.count) made.rows + made.den.count) in
    let past : length (told c.args.p.now) ≤ c.loop-i.i =
    omega (arith, c.loop-i-test.false, length-terms_of p.vars.now p.monos.now p.list.now) in
    line_size made top q c.loop-i.charge c.loop-i.weight c.loop-i.degree (c.most_denominators-top.ensures rows c.requires.shares)
    (whole_size made top start q (drop i q) c.loop-i.charge c.loop-i.weight c.loop-i.degree (drop_all i q past) c.loop-i.invariant)
