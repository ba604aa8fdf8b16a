use Rattle.geo_discover.proofs.FixedAlike.{fixed_ends_agree}
use Rattle.geo_discover.proofs.laws.fixed_ends_agree.Goals as goal

pub returns : goal.returns
returns c = fixed_ends_agree
