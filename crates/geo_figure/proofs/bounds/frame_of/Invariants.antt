use Rattle.std.proofs.Common.{[], take}
use Rattle.std.specs.List.{AllByRecursion}
use Rattle.geo_figure.specs.Drawing.{FitsNumbers, bound_turns}
use Rattle.geo_figure.specs.Inner.{IsFrameOf}
use Rattle.geo_figure.proofs.bounds.frame_of.Given as goal

abbrev pub invariant-loop-at : goal.invariant-loop-at
invariant-loop-at l = record {
  frame : IsFrameOf l.frame (take l.at-index l.points);
  passed : AllByRecursion FitsNumbers (bound_turns [] (take l.at-index l.points));
}
