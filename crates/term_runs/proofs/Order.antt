-- Keys in falling order, and how large coefficients and sums are.
use Rattle.std.proofs.Common.{◌≡◌, ℕ, ◌+◌, ◌<◌, ◌≤◌, ℤ, ◌+ℤ◌, length, get_or, sym, subst, unsigned_abs, arith}
use Rattle.std.specs.Ordering.{flip_args, nat_cmp}
use Rattle.std.proofs.lemmas.Int.{ints}
use Rattle.std.proofs.lemmas.List.Sums.{get_or-le-sum_by}
use Rattle.sparse_lists.specs.SparseLists.{IsKeyOrder}
use Rattle.sparse_lists.proofs.NaturalAmounts.{natural_order}
use Rattle.sparse_lists.specs.Coefficients.{Pairs}
use Rattle.term_runs.specs.Runs.{norm_of}

pub falling : IsKeyOrder (flip_args nat_cmp)
falling = record {
  self = λ x. natural_order.self x;
  exact = λ x y e. sym (natural_order.exact y x e);
  flip = λ x y e. natural_order.flip y x e;
  flip_back = λ x y e. natural_order.flip_back y x e;
  trans = λ x y z e f. natural_order.trans z y x f e;
}

pub unsigned_abs-add-le : (a b : ℤ) → unsigned_abs (a +ℤ b) ≤ unsigned_abs a + unsigned_abs b
unsigned_abs-add-le a b = omega (arith, ints)

-- no coefficient is greater than the sum of all
pub coefficient-le : (ts : Pairs) (i : ℕ) (t : ℕ × ℤ) → i < length ts → t ≡ get_or ts i t → unsigned_abs t.1 ≤ norm_of ts
coefficient-le ts i t h e = subst (λ (x : ℕ × ℤ). unsigned_abs x.1 ≤ norm_of ts) (sym e) (get_or-le-sum_by (λ (x : ℕ × ℤ). unsigned_abs x.1) ts i t h)
