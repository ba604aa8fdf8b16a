use Rattle.std.proofs.Common.{◌≡◌, All, false, take}
use Rattle.geo_library.specs.CitedGoals.{has_lines}
use Rattle.geo_library.proofs.theorems.first_with_lines.Given as goal

abbrev pub invariant-loop-k : goal.invariant-loop-k
invariant-loop-k l = All (λ c. has_lines c ≡ false) (take l.k l.commands)
