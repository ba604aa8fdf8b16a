use Rattle.std.specs.Prelude.{All}
use Rattle.geo_terms.specs.Constructions.{Construction}
use Rattle.elim_apply.specs.Kept.{AreKnownRows, IsRowOf}
use Rattle.elim_apply.proofs.made.put_back.Given as goal

abbrev pub invariant-loop-row : goal.invariant-loop-row
invariant-loop-row l = (c : Construction) → AreKnownRows c l.initial.known → All (IsRowOf c l.mv) l.fn.rows → AreKnownRows c l.known × All (IsRowOf c l.mv) l.row-iterator.rest.items
