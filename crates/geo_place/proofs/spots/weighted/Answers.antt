use Rattle.geo_place.specs.Formulas.{onwards, spot_of}
use Rattle.geo_place.proofs.spots.weighted.Goals as goal

pub returns : goal.returns
returns c = λ O U V e f ho hu hv he hf.
    c.onwards-2.ensures (onwards (spot_of O) e O U) f O V (c.onwards.ensures (spot_of O) e O U (c.there.ensures O ho) he ho hu) hf ho hv
