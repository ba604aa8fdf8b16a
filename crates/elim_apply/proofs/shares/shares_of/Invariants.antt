use Rattle.std.proofs.Common.{◌≡◌, ◌≤◌, length}
use Rattle.elim_apply.specs.Inner.KeptShares.{AreKept}
use Rattle.elim_apply.specs.Inner.Shares.{HaveShares}
use Rattle.elim_apply.specs.Inner.Sketches.{sketches}
use Rattle.elim_apply.proofs.shares.shares_of.Given as goal

abbrev pub invariant-loop-id : goal.invariant-loop-id
invariant-loop-id l = record {
  within : l.id-index ≤ length l.p.list.now;
  whole : length l.shares.items ≡ l.id-index;
  each : HaveShares (sketches l.rows) l.p l.shares.items;
  kept : AreKept l.known.items l.p.monos.now.limits l.kept;
}
