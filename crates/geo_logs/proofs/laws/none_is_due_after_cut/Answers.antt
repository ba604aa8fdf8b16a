use Rattle.geo_logs.proofs.CutOnce.{cut_once}
use Rattle.geo_logs.proofs.laws.none_is_due_after_cut.Goals as goal

pub returns : goal.returns
returns c = cut_once
