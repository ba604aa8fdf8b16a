use Rattle.geo_place.proofs.SameEvaluation.{same_answer}
use Rattle.geo_place.proofs.laws.values_have_one_answer.Goals as goal

pub returns : goal.returns
returns c = λ p q v one other s w h k m n. same_answer p q s w v one other h k m n
