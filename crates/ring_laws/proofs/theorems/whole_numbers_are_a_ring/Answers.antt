use Rattle.ring_laws.proofs.Integers.{integers}
use Rattle.ring_laws.proofs.theorems.whole_numbers_are_a_ring.Goals as goal

pub returns : goal.returns
returns g = λ a b c. (
  integers.add_comm a b,
  integers.add_assoc a b c,
  integers.add-zero a,
  integers.add-neg a,
  integers.mul_comm a b,
  integers.mul_assoc a b c,
  integers.mul-one a,
  integers.mul-add a b c,
)
