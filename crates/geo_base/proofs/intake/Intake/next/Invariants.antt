use Rattle.std.proofs.Common.{◌≡◌, ◌+◌, ◌-◌, ◌≤◌, ◌++◌, length, Contains}
use Rattle.geo_base.specs.Lines.{line_feed, open_bytes}
use Rattle.geo_base.proofs.intake.Intake.next.Given as goal

abbrev pub invariant-loop-self : goal.invariant-loop-self
invariant-loop-self g l = record {
  limit : l.self.limit ≡ l.initial.self.limit;
  bounded : l.self.limit ≤ 67108864;
  short : l.self.taken ≤ l.self.limit;
  more : l.initial.self.taken ≤ l.self.taken;
  one : ¬ Contains l.self.line.items line_feed;
  opened : open_bytes (l.initial.self.line.items ++ l.initial.self.piece) (g.S.Source.left l.initial.source)
      ≡ open_bytes (l.self.line.items ++ l.self.piece) (g.S.Source.left l.source);
  counted : length (l.initial.self.line.items ++ l.initial.self.piece) + l.self.taken
      ≡ l.initial.self.taken + length (l.self.line.items ++ l.self.piece);
  unread : Contains l.initial.self.piece line_feed → (l.source ≡ l.initial.source)
      × (l.self.taken ≡ l.initial.self.taken)
      × (l.self.line.items ++ l.self.piece ≡ l.initial.self.piece);
  still : g.S.Source.faults l.source ≡ g.S.Source.faults l.initial.source;
}

abbrev pub decreases-loop-self : goal.decreases-loop-self
decreases-loop-self g l = l.self.limit - l.self.taken
