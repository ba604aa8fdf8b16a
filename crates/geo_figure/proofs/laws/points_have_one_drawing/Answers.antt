use Rattle.geo_figure.proofs.OneDrawing.{one_drawing}
use Rattle.geo_figure.proofs.laws.points_have_one_drawing.Goals as goal

pub returns : goal.returns
returns c = one_drawing
