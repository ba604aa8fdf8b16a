use Rattle.std.proofs.Common.{length}
use Rattle.geo_poly.specs.Polynomials.{Summands}
use Rattle.proof_printer.specs.Inner.Names.{naming_in}
use Rattle.proof_printer.specs.Inner.Printing.{IsPrinting}
use Rattle.proof_printer.specs.Inner.Reading.{IsKept}
use Rattle.proof_printer.proofs.printer.Printer.print.Given as goal

abbrev pub invariant-loop-piece : goal.invariant-loop-piece
invariant-loop-piece l =
    (q : Summands) × IsKept l.before q × IsPrinting (naming_in l.self.namer) l.self.steps l.bytes l.rest l.out.items q

abbrev pub decreases-loop-piece : goal.decreases-loop-piece
decreases-loop-piece l = length l.rest
