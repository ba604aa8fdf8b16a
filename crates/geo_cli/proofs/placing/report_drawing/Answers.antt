use Rattle.std.proofs.Common.{refl, Ok}
use Rattle.geo_cli.proofs.placing.report_drawing.Goals as goal

pub returns-in-Ok : goal.returns-in-Ok
returns-in-Ok c = (Ok c.in-Ok.text, c.in-Ok.ensures, refl)
