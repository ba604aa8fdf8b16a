use Rattle.geo_points.proofs.Ratios.{ratio-is}
use Rattle.geo_points.proofs.laws.ratio_scales.Goals as goal

pub returns : goal.returns
returns c = λ A B C D h. ((ratio-is A B C D h).by_x, (ratio-is A B C D h).by_y)
