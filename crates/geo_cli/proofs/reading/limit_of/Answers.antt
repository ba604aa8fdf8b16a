use Rattle.geo_cli.proofs.Answered.{program_limited}
use Rattle.geo_cli.proofs.reading.limit_of.Goals as goal
use Rattle.std.proofs.Common.{sym}

pub returns-in_default-clause-limit : goal.returns-in_default-clause-limit
returns-in_default-clause-limit c = sym (program_limited _ c.requires c.in_default.not-Text c.in_default.not-Cite)
