use Rattle.std.proofs.Common.{take}
use Rattle.std.specs.List.{filter}
use Rattle.geo_figure.specs.Inner.{IsMark, is_cell}
use Rattle.geo_figure.proofs.picture.mark_in.Given as goal

abbrev pub invariant-loop-cell : goal.invariant-loop-cell
invariant-loop-cell l = IsMark l.found (filter (is_cell l.column l.line) (take l.cell-index l.cells))
