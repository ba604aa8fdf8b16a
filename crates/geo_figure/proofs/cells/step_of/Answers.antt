use Rattle.std.proofs.Common.{rules, ◌≡◌, pos, ◌*ℤ◌}
use Rattle.ring_laws.specs.Fraction.{whole}
use Rattle.geo_place.specs.Reckonings.{known, number, ◌⊖◌, ◌⊗◌}
use Rattle.geo_place.proofs.ResultLaws.{known_result}
use Rattle.geo_figure.specs.Bounds.{greatest, least}
use Rattle.geo_figure.specs.Drawing.{share}
use Rattle.geo_figure.proofs.ShareLaws.{last_number, level, level_step, share_refused, share_step, tilted}
use Rattle.geo_figure.proofs.ShareLaws.{differs}
use Rattle.geo_figure.proofs.cells.step_of.Goals as goal

pub returns-then-same : goal.returns-then-same
returns-then-same c = λ n xs a q hb hx. level_step n xs a (level c.args.bounds xs hb (c.same.ensures.0 c.if-same.true))

pub returns-in-Ok : goal.returns-in-Ok
returns-in-Ok c = λ n xs a q hb hx.
    let b = c.args.bounds in
    let last : c.new.result.num *ℤ pos 1 ≡ c.args.last *ℤ c.new.result.den = search rules in
    let offset = c.difference_of-offset.ensures (known a) (known (least xs)) (known_result c.args.x a hx) (known_result b.least (least xs) hb.least) in
    let span = c.difference_of-span.ensures (known (greatest xs)) (known (least xs)) (known_result b.greatest (greatest xs) hb.greatest) (known_result b.least (least xs) hb.least) in
    let scaled = c.product_of-scaled.ensures (known a ⊖ known (least xs)) (known (whole (pos n))) offset (known_result c.new.result (whole (pos n)) (last_number c.new.result c.args.last n last q)) in
    let r = c.in-Ok.ensures ((known a ⊖ known (least xs)) ⊗ known (whole (pos n))) (known (greatest xs) ⊖ known (least xs)) scaled span in
    share_step n xs a (tilted b xs hb (λ s. differs c.same.result (c.same.ensures.1 s) c.if-same.false)) c.in-Ok.share r c.floor.result (c.floor.ensures (number (share n xs a)) r.is)

pub returns-in-Err : goal.returns-in-Err
returns-in-Err c = λ n xs a q hb hx.
    let b = c.args.bounds in
    let last : c.new.result.num *ℤ pos 1 ≡ c.args.last *ℤ c.new.result.den = search rules in
    let offset = c.difference_of-offset.ensures (known a) (known (least xs)) (known_result c.args.x a hx) (known_result b.least (least xs) hb.least) in
    let span = c.difference_of-span.ensures (known (greatest xs)) (known (least xs)) (known_result b.greatest (greatest xs) hb.greatest) (known_result b.least (least xs) hb.least) in
    let scaled = c.product_of-scaled.ensures (known a ⊖ known (least xs)) (known (whole (pos n))) offset (known_result c.new.result (whole (pos n)) (last_number c.new.result c.args.last n last q)) in
    let r = c.in-Err.ensures ((known a ⊖ known (least xs)) ⊗ known (whole (pos n))) (known (greatest xs) ⊖ known (least xs)) scaled span in
    share_refused n xs a (tilted b xs hb (λ s. differs c.same.result (c.same.ensures.1 s) c.if-same.false)) c.in-Err.refusal r
