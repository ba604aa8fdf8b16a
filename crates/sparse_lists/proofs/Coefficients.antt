-- Whole coefficients add up.
use Rattle.std.proofs.Common.{◌≡◌, eqb, true, ℤ, pos, negsuc, refl, ap, unsigned_abs, arith}
use Rattle.std.proofs.lemmas.Int.{ints}
use Rattle.std.proofs.lemmas.Bool.Decides.{nat_tests}
use Rattle.sparse_lists.specs.Coefficients.{coefficients}
use Rattle.sparse_lists.specs.SparseLists.{IsAdditive}

pub zero_is : (a : ℤ) → eqb (unsigned_abs a) 0 ≡ true → a ≡ pos 0
zero_is (pos n) e = let n-is : n ≡ 0 = grind (arith, nat_tests) in ap pos n-is
zero_is (negsuc n) e = absurd (grind (arith, nat_tests))

pub coefficients_add : IsAdditive coefficients
coefficients_add = record {
  comm = λ a b. omega (arith, ints);
  assoc = λ a b c. omega (arith, ints);
  zero-add = λ a. omega (arith, ints);
  cancel = λ a b c e. omega (arith, ints);
  zero_is = zero_is;
  is_zero-zero = refl;
}
