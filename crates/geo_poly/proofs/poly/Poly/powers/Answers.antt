use Rattle.std.proofs.Common.{◌∙◌, ℤ, length, sym, ap}
use Rattle.geo_poly.specs.Monomials.{Powers}
use Rattle.geo_poly.proofs.Told.{index_at, list_within, told_at}
use Rattle.geo_poly.proofs.poly.Poly.powers.Goals as goal

pub count_powers-requires : goal.count_powers-requires
count_powers-requires c =
    let p = c.shared-p.result in
    index_at p c.args.i (list_within p c.args.self.now c.args.i c.shared-p.ensures.terms c.requires) c.shared-p.ensures.valid

pub returns : goal.returns
returns c = c.count_powers.ensures ∙ ap (λ (t : Powers × ℤ). length t.0) (sym (told_at c.shared-p.result c.args.self.now c.args.i c.shared-p.ensures.terms c.requires))
