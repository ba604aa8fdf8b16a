use Rattle.std.proofs.Common.{◌≡◌, sym, ◌∙◌}
use Rattle.geo_poly.specs.declared.moving.Move.TheVariants.{Kept, Replaced, Unknown}
use Rattle.geo_poly.proofs.Moved.{is_left, is_moved, move_is, power_before}
use Rattle.geo_poly.proofs.moving.moved_power.Goals as goal

pub returns-in-Replaced-clause-moved : goal.returns-in-Replaced-clause-moved
returns-in-Replaced-clause-moved g c =
    let p = c.args.p.now in
    let first = c.args.first in
    let is = move_is p.vars.now c.args.rows.now c.args.vars.now c.args.moves.now first.var Replaced c.requires.moves (sym c.move_at.ensures ∙ c.in-Replaced.is)
    (λ e. let false : Replaced ≡ Unknown = e in cc) in
    is_left p c.args.rows.now c.args.vars.now c.args.id first.next first.var first.exp c.requires.monomial c.requires.index
    (g.K.MonomialKeys.keys c.args.keys.now) c.args.next c.requires.next is.0 is.1

pub power_before-requires-clause-exponent : goal.power_before-requires-clause-exponent
power_before-requires-clause-exponent g c =
    let p = c.args.p.now in
    let rows = c.args.rows.now in
    let vars = c.args.vars.now in
    let keys = g.K.MonomialKeys.keys c.args.keys.now in
    let first = c.args.first in
    let is = move_is p.vars.now rows vars c.args.moves.now first.var (Kept c.in-Kept.place) c.requires.moves (sym c.move_at.ensures ∙ c.in-Kept.is)
    (λ e. let false : Kept c.in-Kept.place ≡ Unknown = e in cc) in
    (power_before p rows vars c.args.id first.next first.var first.exp c.requires.monomial c.requires.index
    keys c.args.next c.requires.next is.0 c.in-Kept.place is.1
    c.requires.rising c.requires.parts.rising c.one-one.ensures.valid).exponent

pub power_before-requires-clause-first : goal.power_before-requires-clause-first
power_before-requires-clause-first g c =
    let p = c.args.p.now in
    let rows = c.args.rows.now in
    let vars = c.args.vars.now in
    let keys = g.K.MonomialKeys.keys c.args.keys.now in
    let first = c.args.first in
    let is = move_is p.vars.now rows vars c.args.moves.now first.var (Kept c.in-Kept.place) c.requires.moves (sym c.move_at.ensures ∙ c.in-Kept.is)
    (λ e. let false : Kept c.in-Kept.place ≡ Unknown = e in cc) in
    (power_before p rows vars c.args.id first.next first.var first.exp c.requires.monomial c.requires.index
    keys c.args.next c.requires.next is.0 c.in-Kept.place is.1
    c.requires.rising c.requires.parts.rising c.one-one.ensures.valid).first

pub power_before-requires-clause-degree : goal.power_before-requires-clause-degree
power_before-requires-clause-degree g c =
    let p = c.args.p.now in
    let rows = c.args.rows.now in
    let vars = c.args.vars.now in
    let keys = g.K.MonomialKeys.keys c.args.keys.now in
    let first = c.args.first in
    let is = move_is p.vars.now rows vars c.args.moves.now first.var (Kept c.in-Kept.place) c.requires.moves (sym c.move_at.ensures ∙ c.in-Kept.is)
    (λ e. let false : Kept c.in-Kept.place ≡ Unknown = e in cc) in
    (power_before p rows vars c.args.id first.next first.var first.exp c.requires.monomial c.requires.index
    keys c.args.next c.requires.next is.0 c.in-Kept.place is.1
    c.requires.rising c.requires.parts.rising c.one-one.ensures.valid).degree

pub returns-in_ok-new-in-Kept-clause-moved : goal.returns-in_ok-new-in-Kept-clause-moved
returns-in_ok-new-in-Kept-clause-moved g c =
    let p = c.args.p.now in
    let rows = c.args.rows.now in
    let vars = c.args.vars.now in
    let keys = g.K.MonomialKeys.keys c.args.keys.now in
    let first = c.args.first in
    let is = move_is p.vars.now rows vars c.args.moves.now first.var (Kept c.in-Kept.place) c.requires.moves (sym c.move_at.ensures ∙ c.in-Kept.is)
    (λ e. let false : Kept c.in-Kept.place ≡ Unknown = e in cc) in
    is_moved p rows vars c.args.id first.next first.var first.exp c.requires.monomial c.requires.index
    keys c.args.next c.requires.next is.0 c.in-Kept.place is.1
    (g.K.MonomialKeys.keys c.power_before.new.self) c.in_ok-new-in-Kept.new c.in_ok-new-in-Kept.ensures.within c.in_ok-new-in-Kept.ensures.powers
