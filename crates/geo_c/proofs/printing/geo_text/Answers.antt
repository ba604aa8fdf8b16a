use Rattle.geo_c.proofs.Decided.{prints}
use Rattle.geo_c.proofs.OneDue.{text_told}
use Rattle.geo_c.proofs.printing.geo_text.Goals as goal

pub returns-clause-prints : goal.returns-clause-prints
returns-clause-prints c = λ says. prints c.args.log.now c.args.steps _ _ _ _ c.print_log.ensures says

pub returns-clause-complete : goal.returns-clause-complete
returns-clause-complete c = text_told c.args.log.now c.args.steps _ _ _ _ c.print_log.ensures
