use Rattle.std.proofs.Common.{arith, rules}
use Rattle.geo_poly.proofs.poly.Poly.replace_within.Goals as goal

pub replacement-requires-clause-can : goal.replacement-requires-clause-can
replacement-requires-clause-can g c =
    rw (c.requires.top, c.new-table.ensures)
    (record {
      rows_bounded = c.requires.rows;
      den_bounded = c.requires.den;
      in_order = search rules;
      monomials = search rules;
      top_fits = omega arith;
      weight_fits = c.requires.norm;
      degree_fits = c.requires.degree;
    })

pub returns-clause-replaced : goal.returns-clause-replaced
returns-clause-replaced g c = rw (c.new-table.ensures) at c.replacement.ensures.replaced

pub returns-clause-ticks : goal.returns-clause-ticks
returns-clause-ticks g c = rw (c.new-table.ensures) at c.replacement.ensures.ticks
