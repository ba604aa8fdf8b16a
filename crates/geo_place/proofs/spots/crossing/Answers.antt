use Rattle.geo_place.specs.Formulas.{cross_reckoned, spot_of}
use Rattle.geo_place.specs.Reckonings.{◌⊘◌}
use Rattle.geo_place.proofs.spots.crossing.Goals as goal

pub returns : goal.returns
returns c = λ U V P Q hu hv hp hq.
    c.onwards.ensures (spot_of U) (cross_reckoned U P P Q ⊘ cross_reckoned U V P Q) U V (c.there.ensures U hu)
    (c.quotient_of-t.ensures (cross_reckoned U P P Q) (cross_reckoned U V P Q) (c.cross.ensures U P P Q hu hp hp hq) (c.cross-2.ensures U V P Q hu hv hp hq)) hu hv
