use Rattle.std.proofs.Common.{refl, sym, arith}
use Rattle.geo_poly.proofs.OneFactor.{degree_fits, one_left, one_right}
use Rattle.geo_poly.proofs.poly.Poly.factor_beside_one.Goals as goal

pub returns-in_default-true-clause-product : goal.returns-in_default-true-clause-product
returns-in_default-true-clause-product c =
    sym (one_right c.args.self.now c.args.other.now c.is_one.ensures.valid (c.in_default-true.ensures.one refl))

pub returns-in_default-true-clause-degree : goal.returns-in_default-true-clause-degree
returns-in_default-true-clause-degree c =
    degree_fits c.args.self.now c.args.other.now c.is_one.ensures.valid (c.in_default-true.ensures.one refl)

pub returns-in-true-default-clause-product : goal.returns-in-true-default-clause-product
returns-in-true-default-clause-product c =
    sym (one_left c.args.other.now c.args.self.now c.is_one-2.ensures.valid (c.in-true-default.ensures'.one refl))

pub returns-in-true-default-clause-degree : goal.returns-in-true-default-clause-degree
returns-in-true-default-clause-degree c =
    let fits = degree_fits c.args.other.now c.args.self.now c.is_one-2.ensures.valid (c.in-true-default.ensures'.one refl) in
    omega (arith, fits)
