use Rattle.std.proofs.Common.{arith}
use Rattle.geo_poly.proofs.ProductLaws.{total_degree-le}
use Rattle.geo_poly.proofs.poly.Poly.test_product.Goals as goal

pub overflow_add-degree : goal.overflow_add-degree
overflow_add-degree c =
    omega (
      arith,
      c.degree.ensures,
      c.degree-2.ensures,
      total_degree-le c.args.self.now c.unsigned_norm.ensures.valid.monomials,
      total_degree-le c.args.other.now c.unsigned_norm-2.ensures.valid.monomials,
    )
