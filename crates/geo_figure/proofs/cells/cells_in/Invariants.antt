use Rattle.std.proofs.Common.{◌≡◌, List, map, take}
use Rattle.std.specs.List.{AllByRecursion}
use Rattle.geo_place.specs.declared.placed.At.{At}
use Rattle.geo_figure.specs.Drawing.{FitsNumbers, share_turn}
use Rattle.geo_figure.specs.Inner.{IsFrame, cell_at}
use Rattle.geo_figure.proofs.cells.cells_in.Given as goal

abbrev pub invariant-loop-at : goal.invariant-loop-at
invariant-loop-at l = record {
  cells : (all : List At) → IsFrame l.frame all → l.cells.items ≡ map (cell_at all) (take l.at-index l.points);
  passed : (all : List At) → IsFrame l.frame all → AllByRecursion FitsNumbers (map (share_turn all) (take l.at-index l.points));
}
