use Rattle.std.proofs.Common.{map}
use Rattle.proof_printer.specs.Naming.{name_or_number}
use Rattle.proof_printer.proofs.Lookups.{NamedBelow}
use Rattle.proof_printer.proofs.name_list.NameList.new.Given as goal

abbrev pub invariant-loop-n : goal.invariant-loop-n
invariant-loop-n l = NamedBelow (name_or_number l.mark l.places (map (λ name. name.now) l.names)) l.list.items l.n
