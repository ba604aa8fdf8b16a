use Rattle.geo_logs.proofs.LogsWalked.{walks_are_beginnings}
use Rattle.geo_logs.proofs.laws.walks_are_beginnings.Goals as goal

pub returns : goal.returns
returns c = walks_are_beginnings
