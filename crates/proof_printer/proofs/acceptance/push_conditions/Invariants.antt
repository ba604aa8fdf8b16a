use Rattle.std.proofs.Common.{◌≡◌, suc, ◌++◌, drop}
use Rattle.proof_printer.specs.Inner.ConditionLines.{condition_lines}
use Rattle.proof_printer.proofs.acceptance.push_conditions.Given as goal

-- what is written, and then the lines of the conditions that are left
abbrev pub invariant-loop-i : goal.invariant-loop-i
invariant-loop-i l = l.out.items ++ condition_lines (suc l.i) (drop l.i l.items) ≡ l.fn.out.items ++ condition_lines 1 l.items
