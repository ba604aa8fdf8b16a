use Rattle.std.proofs.Common.{◌≡◌, Bool, List}
use Rattle.mono_store.specs.Words.{count_from}
use Rattle.geo_poly.proofs.DigitVariables.{AreFound}
use Rattle.geo_poly.proofs.polynomial_variables.variables_of_words.Given as goal

abbrev pub invariant-loop-number : goal.invariant-loop-number
invariant-loop-number l = record {
  above : l.above ≡ count_from l.p.monos.now.limits l.number;
  found : (known : List Bool) × AreFound l.p known l.number l.items.items;
}
