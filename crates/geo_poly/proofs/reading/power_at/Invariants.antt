use Rattle.std.proofs.Common.{◌≡◌, drop}
use Rattle.geo_poly.specs.Shared.{IsIndexOf, told_powers}
use Rattle.geo_poly.proofs.reading.power_at.Given as goal

abbrev pub invariant-loop-k : goal.invariant-loop-k
invariant-loop-k l = record {
  index : IsIndexOf l.p l.rest;
  whole : drop l._k (told_powers l.p l.fn.id) ≡ told_powers l.p l.rest;
}
