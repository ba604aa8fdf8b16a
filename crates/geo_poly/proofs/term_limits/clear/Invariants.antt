use Rattle.std.proofs.Common.{◌≡◌, length}
use Rattle.geo_poly.proofs.term_limits.clear.Given as goal

abbrev pub invariant-loop-i : goal.invariant-loop-i
invariant-loop-i l = length l.numbers ≡ length l.initial.numbers
