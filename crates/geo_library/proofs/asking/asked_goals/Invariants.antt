use Rattle.std.proofs.Common.{◌≡◌, ◌+◌, drop}
use Rattle.geo_lowering.specs.Counting.{points_from, points_named}
use Rattle.geo_library.specs.Inner.Asking.{layout_at}
use Rattle.geo_library.proofs.AskedGoals.{AreAskedSoFar}
use Rattle.geo_library.proofs.asking.asked_goals.Given as goal

abbrev pub invariant-loop-k : goal.invariant-loop-k
invariant-loop-k l = record {
  asked : AreAskedSoFar l.terms (layout_at l.places) l.commands (drop l.k l.commands) l.x (l.k + 1) l.initial.steps l.steps l.asked.items;
  count : points_from l.x (drop l.k l.commands) ≡ points_named l.commands;
}
