use Rattle.geo_poly.proofs.interning.place_near.Goals as goal

pub unreachable-requires : goal.unreachable-requires
unreachable-requires c = c.in-None.ensures c.requires.known
