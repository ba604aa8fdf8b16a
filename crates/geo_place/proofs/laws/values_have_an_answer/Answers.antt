use Rattle.geo_place.proofs.Answered.{values_have_an_answer}
use Rattle.geo_place.proofs.laws.values_have_an_answer.Goals as goal

pub returns : goal.returns
returns c = values_have_an_answer
