use Rattle.std.proofs.Common.{◌≡◌, ◌++◌, ◌-◌, map}
use Rattle.std.specs.List.{filter}
use Rattle.geo_figure.specs.Drawing.{first_numbers}
use Rattle.geo_figure.specs.Inner.{cell_mark, is_cell}
use Rattle.geo_figure.proofs.picture.push_line.Given as goal

abbrev pub invariant-loop-column : goal.invariant-loop-column
invariant-loop-column l = l.out.items ≡ l.fn.out.items ++ map (λ column. cell_mark (filter (is_cell column l.line) l.cells)) (first_numbers l.column)

abbrev pub decreases-loop-column : goal.decreases-loop-column
decreases-loop-column l = 41 - l.column
