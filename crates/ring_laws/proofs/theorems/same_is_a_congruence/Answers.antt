use Rattle.ring_laws.proofs.Fractions.{fractions}
use Rattle.ring_laws.proofs.theorems.same_is_a_congruence.Goals as goal

pub returns : goal.returns
returns c = record {
  reflexive = fractions.same_refl;
  symmetric = fractions.same_sym;
  transitive = fractions.same_trans;
  sums = fractions.add-same;
  products = fractions.mul-same;
  opposites = fractions.neg-same;
}
