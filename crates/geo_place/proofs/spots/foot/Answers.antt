use Rattle.geo_place.specs.Formulas.{dot_reckoned, spot_of}
use Rattle.geo_place.specs.Reckonings.{◌⊘◌}
use Rattle.geo_place.proofs.spots.foot.Goals as goal

pub returns : goal.returns
returns c = λ P U V hp hu hv.
    c.onwards.ensures (spot_of U) (dot_reckoned U P U V ⊘ dot_reckoned U V U V) U V (c.there.ensures U hu)
    (c.quotient_of-t.ensures (dot_reckoned U P U V) (dot_reckoned U V U V) (c.dot.ensures U P U V hu hp hu hv) (c.dot-2.ensures U V U V hu hv hu hv)) hu hv
