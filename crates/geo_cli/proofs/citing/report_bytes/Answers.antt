use Rattle.std.proofs.Common.{rules}
use Rattle.geo_cli.proofs.CitationsDue.{cited_told, uncited_told}
use Rattle.geo_cli.proofs.citing.report_bytes.Goals as goal

pub returns-in-Ok : goal.returns-in-Ok
returns-in-Ok c = cited_told c.args.steps c.args.bytes.now _ (search rules) _ c.report_cited.ensures

pub returns-in-Err : goal.returns-in-Err
returns-in-Err c = uncited_told c.args.steps c.args.bytes.now _ (search rules) _ c.report_uncited.ensures
