use Rattle.std.proofs.Common.{length}
use Rattle.std.specs.BTreeMap.{keys}
use Rattle.geo_poly.specs.Polynomials.{Summands}
use Rattle.proof_printer.specs.Inner.Names.{naming_in}
use Rattle.proof_printer.specs.Inner.Reading.{AreMet, IsReading, IsTextOf}
use Rattle.proof_printer.proofs.namer.Namer.push_terms.Given as goal

abbrev pub invariant-loop-variable : goal.invariant-loop-variable
invariant-loop-variable l = record {
  met : AreMet (naming_in l.self) l.met;
  reading : (q : Summands) → IsTextOf l.text q → IsReading (naming_in l.self) l.fn.out.items l.rest l.out.items (keys l.met.places) q;
}

abbrev pub decreases-loop-variable : goal.decreases-loop-variable
decreases-loop-variable l = length l.rest
