use Rattle.geo_poly.proofs.Told.{index_at}
use Rattle.geo_poly.proofs.moving.reached_links.Goals as goal

pub reach-requires : goal.reach-requires
reach-requires c = (index_at c.args.p.now c.loop-id.id-index c.loop-id-test.true c.requires).within
