use Rattle.std.proofs.Common.{◌≡◌, ◌++◌}
use Rattle.std.specs.List.{flat_map}
use Rattle.geo_poly.specs.Shared.{IsIndexOf, told_powers}
use Rattle.proof_log.specs.Lines.{power_text}
use Rattle.proof_log.proofs.writer.push_powers.Given as goal

abbrev pub invariant-loop-first : goal.invariant-loop-first
invariant-loop-first l = record {
  index : IsIndexOf l.p l.rest;
  whole : l.out.items ++ flat_map power_text (told_powers l.p l.rest)
      ≡ l.fn.out.items ++ flat_map power_text (told_powers l.p l.fn.id);
}

abbrev pub decreases-loop-first : goal.decreases-loop-first
decreases-loop-first l = l.rest.0
