use Rattle.std.proofs.Common.{sym, ◌∙◌}
use Rattle.ring_laws.proofs.Integers.{integers}
use Rattle.ring_laws.proofs.Combination.{by_combination}
use Rattle.ring_laws.proofs.WholeValues.{value-is, given-hold, decided}
use Rattle.ring_laws.proofs.theorems.combination_is_sound.Goals as goal

pub returns : goal.returns
returns c = λ v hs e f h z. sym (value-is v e) ∙ by_combination integers v hs e f (given-hold v hs h) (decided _ z) ∙ value-is v f
