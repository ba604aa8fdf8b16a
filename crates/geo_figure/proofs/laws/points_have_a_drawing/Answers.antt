use Rattle.geo_figure.proofs.SomeDrawing.{some_drawing}
use Rattle.geo_figure.proofs.laws.points_have_a_drawing.Goals as goal

pub returns : goal.returns
returns c = some_drawing
