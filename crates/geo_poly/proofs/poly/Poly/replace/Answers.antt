use Rattle.std.proofs.Common.{◌+◌, ◌≤◌, List, subst}
use Rattle.geo_poly.specs.Counted.{replacement_products}
use Rattle.geo_poly.specs.declared.rows.Row.{Row}
use Rattle.geo_poly.proofs.poly.Poly.replace.Goals as goal

pub returns-in_err-replacement-clause-ticks : goal.returns-in_err-replacement-clause-ticks
returns-in_err-replacement-clause-ticks g c =
    subst (λ (rows : List Row). c.replacement.new.ticks ≤ c.args.ticks.now + replacement_products rows c.args.den.now c.args.self.now) c.in_ok-table.ensures.rows
    c.in_err-replacement.ensures.ticks
