use Rattle.std.proofs.Common.{sym, subst}
use Rattle.std.specs.Prelude.{All}
use Rattle.std.proofs.lemmas.List.Elements.{All-head, All-tail}
use Rattle.elim_apply.specs.Kept.{AreKnownRows, IsRowOf}
use Rattle.elim_apply.proofs.made.put_back.Goals as goal
use Rattle.elim_apply.proofs.made.put_back.Goals.{in-Some, in_default}

pub loop-row-preserved : goal.loop-row-preserved
loop-row-preserved c = λ k known own.
    let held = c.loop-row.invariant k known own in
    let row = c.in-Some-row.row in
    let rest = c.next.new.self.rest.items in
    let left = subst (All (IsRowOf k c.args.mv.now)) c.in-Some-row.ensures.steps.0 held.1 in
    (c.put_row.ensures k held.0 (All-head (IsRowOf k c.args.mv.now) row rest left), All-tail (IsRowOf k c.args.mv.now) row rest left)

pub returns : goal.returns
returns c = λ k known own den. elim c.match-first.branch [
  | in-Some w ↦ (c.loop-row.invariant k (subst (AreKnownRows k) (sym w.known-is) (w.put_denominator.ensures k known den)) own).0
  | in_default w ↦ (c.loop-row.invariant k (subst (AreKnownRows k) (sym w.known-is) known) own).0
]
