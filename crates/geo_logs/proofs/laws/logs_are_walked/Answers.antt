use Rattle.geo_logs.proofs.LogsWalked.{logs_are_walked}
use Rattle.geo_logs.proofs.laws.logs_are_walked.Goals as goal

pub returns : goal.returns
returns c = logs_are_walked
