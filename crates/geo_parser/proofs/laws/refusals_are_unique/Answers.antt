use Rattle.geo_parser.proofs.SpeltTexts.{one_refusal}
use Rattle.geo_parser.proofs.laws.refusals_are_unique.Goals as goal

pub returns : goal.returns
returns c = one_refusal
