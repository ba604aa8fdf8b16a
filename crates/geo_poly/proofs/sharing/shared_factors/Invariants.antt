use Rattle.std.proofs.Common.{◌≡◌, ◌+◌, ◌^◌, ◌<◌, ◌≤◌, drop, length, take}
use Rattle.std.specs.Prelude.{All}
use Rattle.geo_poly.proofs.sharing.shared_factors.Given as goal

abbrev pub invariant-loop-term : goal.invariant-loop-term
invariant-loop-term l = record {
  within : l.shared ≤ length l.first;
  bound : l.depth + l.shared < 2 ^ 64;
  shared : All (λ e. take l.shared (drop l.depth e.factors.now) ≡ take l.shared l.first) (take l.term-index l.pending);
}
