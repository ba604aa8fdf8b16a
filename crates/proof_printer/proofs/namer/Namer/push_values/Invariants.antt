use Rattle.std.proofs.Common.{◌≡◌, ◌++◌, take}
use Rattle.std.specs.List.{flat_map}
use Rattle.proof_printer.specs.Inner.Names.{naming_in}
use Rattle.proof_printer.specs.Polynomials.{value_text}
use Rattle.proof_printer.proofs.namer.Namer.push_values.Given as goal

abbrev pub invariant-loop-value : goal.invariant-loop-value
invariant-loop-value l = l.out.items ≡ l.fn.out.items ++ flat_map (value_text (naming_in l.self)) (take l.value-index l.values)
