use Rattle.std.proofs.Common.{◌≡◌, ◌++◌, ◌-◌}
use Rattle.std.specs.List.{flat_map}
use Rattle.geo_figure.specs.Drawing.{first_numbers}
use Rattle.geo_figure.specs.Inner.{cell_line}
use Rattle.geo_figure.proofs.picture.push_picture.Given as goal

abbrev pub invariant-loop-line : goal.invariant-loop-line
invariant-loop-line l = l.out.items ≡ l.fn.out.items ++ flat_map (cell_line l.cells) (first_numbers l.line)

abbrev pub decreases-loop-line : goal.decreases-loop-line
decreases-loop-line l = 21 - l.line
