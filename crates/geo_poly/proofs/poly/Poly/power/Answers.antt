use Rattle.std.proofs.Common.{ℤ, ◌<◌, length, subst}
use Rattle.geo_poly.specs.Monomials.{Powers}
use Rattle.geo_poly.proofs.Told.{index_at, list_within, told_at}
use Rattle.geo_poly.proofs.poly.Poly.power.Goals as goal

pub power_at-requires-clause-index : goal.power_at-requires-clause-index
power_at-requires-clause-index c =
    let p = c.shared-p.result in
    index_at p c.args.i (list_within p c.args.self.now c.args.i c.shared-p.ensures.terms c.requires.term) c.shared-p.ensures.valid

pub power_at-requires-clause-place : goal.power_at-requires-clause-place
power_at-requires-clause-place c =
    subst (λ (t : Powers × ℤ). c.args.j < length t.0) (told_at c.shared-p.result c.args.self.now c.args.i c.shared-p.ensures.terms c.requires.term) c.requires.variable
