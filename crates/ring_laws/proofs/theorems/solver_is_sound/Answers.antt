use Rattle.std.proofs.Common.{sym, ◌∙◌}
use Rattle.ring_laws.proofs.Integers.{integers}
use Rattle.ring_laws.proofs.Sound.{agree}
use Rattle.ring_laws.proofs.WholeValues.{value-is, decided}
use Rattle.ring_laws.proofs.theorems.solver_is_sound.Goals as goal

pub returns : goal.returns
returns c = λ v e f h. sym (value-is v e) ∙ agree integers v e f (decided _ h) ∙ value-is v f
