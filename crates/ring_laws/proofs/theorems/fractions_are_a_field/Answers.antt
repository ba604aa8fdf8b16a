use Rattle.ring_laws.proofs.Fractions.{fractions}
use Rattle.ring_laws.proofs.Quotients.{quotient-times}
use Rattle.ring_laws.proofs.theorems.fractions_are_a_field.Goals as goal

pub returns : goal.returns
returns c = record {
  sum_commutes = fractions.add_comm;
  sum_associates = fractions.add_assoc;
  zero = fractions.add-zero;
  opposite = fractions.add-neg;
  product_commutes = fractions.mul_comm;
  product_associates = fractions.mul_assoc;
  one = fractions.mul-one;
  distributes = fractions.mul-add;
  quotient_times_divisor = quotient-times;
}
