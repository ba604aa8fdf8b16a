use Rattle.std.proofs.Common.{◌≡◌, ◌++◌, take}
use Rattle.proof_printer.specs.Inner.Names.{naming_in}
use Rattle.proof_printer.specs.Polynomials.{factor_text}
use Rattle.proof_printer.proofs.namer.Namer.push_factor.Given as goal

abbrev pub invariant-loop-j : goal.invariant-loop-j
invariant-loop-j l = l.out.items ≡ l.fn.out.items ++ factor_text (naming_in l.self) (take l.j l.factor.0, l.factor.1)
