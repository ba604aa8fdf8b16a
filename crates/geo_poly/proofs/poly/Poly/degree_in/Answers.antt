use Rattle.std.proofs.Common.{sym, ap, ◌∙◌}
use Rattle.geo_poly.specs.Specialise.{degree_in}
use Rattle.geo_poly.proofs.poly.Poly.degree_in.Goals as goal

pub returns-in-None : goal.returns-in-None
returns-in-None c = sym (ap (degree_in c.args.v) (sym c.shared.ensures.terms) ∙ c.in-None.ensures.none)
