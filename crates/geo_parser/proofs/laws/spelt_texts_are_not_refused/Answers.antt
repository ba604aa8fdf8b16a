use Rattle.geo_parser.proofs.SpeltTexts.{spelt_not_refused}
use Rattle.geo_parser.proofs.laws.spelt_texts_are_not_refused.Goals as goal

pub returns : goal.returns
returns c = spelt_not_refused
