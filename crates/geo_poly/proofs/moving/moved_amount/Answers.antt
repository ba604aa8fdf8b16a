use Rattle.std.proofs.Common.{◌≡◌, ◌+◌, sym, ◌∙◌, arith}
use Rattle.geo_poly.specs.declared.moving.Move.TheVariants.{Kept, Replaced, Unknown}
use Rattle.geo_poly.proofs.Moved.{is_left, move_is}
use Rattle.geo_poly.proofs.MovedAmounts.{amount_moves, same_key}
use Rattle.geo_poly.proofs.moving.moved_amount.Goals as goal

pub returns-in-Replaced : goal.returns-in-Replaced
returns-in-Replaced g c =
    let p = c.args.p.now in
    let rows = c.args.rows.now in
    let vars = c.args.vars.now in
    let keys = g.K.MonomialKeys.keys c.args.keys.now in
    let first = c.args.first in
    let is = move_is p.vars.now rows vars c.args.moves.now first.var Replaced c.requires.moves (sym c.move_at.ensures ∙ c.in-Replaced.is)
    (λ e. let false : Replaced ≡ Unknown = e in cc) in
    λ next same. same_key p rows vars keys c.args.id next (next + 0) (omega arith)
    (is_left p rows vars c.args.id first.next first.var first.exp c.requires.monomial c.requires.index keys (record { 0 = next }) same is.0 is.1)

pub returns-in-Kept : goal.returns-in-Kept
returns-in-Kept g c =
    let p = c.args.p.now in
    let rows = c.args.rows.now in
    let vars = c.args.vars.now in
    let keys = g.K.MonomialKeys.keys c.args.keys.now in
    let first = c.args.first in
    let is = move_is p.vars.now rows vars c.args.moves.now first.var (Kept c.in-Kept.place) c.requires.moves (sym c.move_at.ensures ∙ c.in-Kept.is)
    (λ e. let false : Kept c.in-Kept.place ≡ Unknown = e in cc) in
    amount_moves p rows vars keys c.args.id first.next first.var first.exp c.requires.monomial c.requires.index is.0 c.in-Kept.place is.1
    c.requires.rising c.requires.parts.rising c.one-one.ensures.valid c.amount.result c.amount.ensures
