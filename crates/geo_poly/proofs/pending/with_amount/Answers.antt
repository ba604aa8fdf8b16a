use Rattle.std.proofs.Common.{ℕ, Option, subst, arith}
use Rattle.std.specs.Prelude.{IfSome}
use Rattle.geo_poly.specs.declared.roles.Role.{Role}
use Rattle.geo_poly.specs.Inner.Roles.{IsRole}
use Rattle.geo_poly.specs.Inner.TermKeys.{AddsUp}
use Rattle.geo_poly.proofs.AddedKeys.{AddsUp-kept}
use Rattle.geo_poly.proofs.pending.with_amount.Goals as goal

pub returns-in_ok-more-in-Kept : goal.returns-in_ok-more-in-Kept
returns-in_ok-more-in-Kept g c =
    let p = c.args.p.now in
    let rows = c.args.setting.now.rows.now in
    let vars = c.args.setting.now.vars.now in
    let keys = g.K.MonomialKeys.keys c.args.keys.now in
    let left = c.args.left in
    let first = c.args.first in
    let adds = subst (λ (o : Option ℕ). IfSome o (AddsUp p rows vars keys c.args.id left)) c.in_ok-sum.was c.requires.sum in
    let role = subst (λ (r : Role). IsRole rows vars first.var r) c.in-Kept.is c.requires.role in
    AddsUp-kept p rows vars keys c.args.id left first.rest first.var first.exponent c.requires.power c.requires.index c.in_ok-sum.sum adds
    c.in-Kept.place role c.requires.rising c.requires.monomial c.in_ok-amount-in-Kept.amount c.in_ok-amount-in-Kept.ensures
    c.in_ok-more-in-Kept.more (omega (arith, c.in_ok-more-in-Kept.ensures))
