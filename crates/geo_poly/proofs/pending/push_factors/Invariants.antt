use Rattle.std.proofs.Common.{◌≡◌, ◌++◌, replicate, take}
use Rattle.geo_poly.specs.Inner.Factored.{factors_listed}
use Rattle.geo_poly.proofs.pending.push_factors.Given as goal

abbrev pub invariant-loop-power : goal.invariant-loop-power
invariant-loop-power l = l.factors.items ≡ l.fn.factors.items ++ (replicate l.lacking 0 ++ factors_listed (take l.power-index l.numerators))
