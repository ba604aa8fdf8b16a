use Rattle.std.proofs.Common.{◌-◌, length, ◌≡◌, ℕ, pos, take, unsigned_abs}
use Rattle.std.specs.Int.{◌∣◌}
use Rattle.geo_poly.specs.Factors.{DividesAll}
use Rattle.geo_poly.specs.Shared.{told}
use Rattle.geo_poly.proofs.division.content.Given as goal

abbrev pub invariant-loop-i : goal.invariant-loop-i
invariant-loop-i l = record {
  positive : l.divisor ≡ pos (unsigned_abs l.divisor);
  divides : DividesAll (unsigned_abs l.divisor) (take l.i (told l.p));
  greatest : (d : ℕ) → DividesAll d (take l.i (told l.p)) → d ∣ unsigned_abs l.divisor;
}

abbrev pub decreases-loop-i : goal.decreases-loop-i
decreases-loop-i l = length l.p.list.now - l.i
