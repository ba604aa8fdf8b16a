use Rattle.std.proofs.Common.{◌≡◌, ℕ, ◌<◌, map}
use Rattle.std.specs.Prelude.{slice_get}
use Rattle.log_checker.proofs.sampling.are_variables_of.Given as goal

abbrev pub invariant-loop-i : goal.invariant-loop-i
invariant-loop-i l = (k : ℕ) → k < l.i → slice_get (map (λ v. v.0) l.values) k ≡ slice_get l.variables k
