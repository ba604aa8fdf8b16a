use Rattle.std.proofs.Common.{ℕ, ◌-◌, ◌<◌, length}
use Rattle.geo_poly.specs.Inner.Visits.{IsMarked}
use Rattle.geo_poly.proofs.polynomial_variables.first_unmarked.Given as goal

abbrev pub invariant-loop-place : goal.invariant-loop-place
invariant-loop-place l = (k : ℕ) → k < l.place → IsMarked l.marks k

abbrev pub decreases-loop-place : goal.decreases-loop-place
decreases-loop-place l = length l.marks - l.place
