-- The sum of two multiples of a run.
use Rattle.std.proofs.Common.{◌≡◌, ◌≢◌, ℕ, ◌+◌, ◌*◌, ◌<◌, ◌≤◌, ℤ, pos, ◌*ℤ◌, List, ◌++◌, append_assoc, length, get_or, map, take, drop, set}
use Rattle.std.proofs.Common.{◌⊎◌, inl, inr, sym, ap, ◌∙◌, unsigned_abs, arith}
use Rattle.std.specs.Ordering.{flip_args, nat_cmp}
use Rattle.std.proofs.lemmas.List.{length-map}
use Rattle.sparse_lists.proofs.Merging.{rest_left, rest_right}
use Rattle.sparse_lists.specs.Coefficients.{coefficients, Pairs, scaled}
use Rattle.sparse_lists.proofs.Coefficients.{coefficients_add}
use Rattle.term_runs.specs.Inner.{CountsAs, IsTurn}
use Rattle.term_runs.specs.Runs.{IsRun, norm_of, run_of}
use Rattle.term_runs.proofs.Order.{falling}
use Rattle.term_runs.proofs.Scaled.{multiple_at, norm_of-scaled, scaled_run}
use Rattle.term_runs.proofs.Turns.{Steps, nonzero, steps_of, sum_fits, turned, written}

module _ {X : Type 0} (f : X → ℕ × ℤ) (first second : ℕ × ℤ) (list : List X) (run : IsRun (map f list)) (first_some : first.1 ≢ pos 0) (second_some : second.1 ≢ pos 0) where
  abbrev ls : Pairs
  ls = scaled first.0 first.1 (map f list)

  abbrev rs : Pairs
  rs = scaled second.0 second.1 (map f list)

  left_run : IsRun ls
  left_run = scaled_run first.0 first.1 (map f list) (nonzero first.1 first_some) run

  right_run : IsRun rs
  right_run = scaled_run second.0 second.1 (map f list) (nonzero second.1 second_some) run

  pub left_length : length ls ≡ length list
  left_length = length-map (map f list) (λ (p : ℕ × ℤ). (first.0 + p.0, first.1 *ℤ p.1)) ∙ length-map list f

  pub right_length : length rs ≡ length list
  right_length = length-map (map f list) (λ (p : ℕ × ℤ). (second.0 + p.0, second.1 *ℤ p.1)) ∙ length-map list f

  -- A TURN: the terms of both multiples that are next
  module _ (i j : ℕ) (t u x y : X) (left_in : i < length list) (right_in : j < length list) (t-is : t ≡ get_or list i t) (u-is : u ≡ get_or list j u)
      (x-is : f x ≡ (first.0 + (f t).0, first.1 *ℤ (f t).1)) (y-is : f y ≡ (second.0 + (f u).0, second.1 *ℤ (f u).1)) where
    left_at : f x ≡ get_or ls i (f x)
    left_at = multiple_at f first.0 first.1 list i t x left_in t-is x-is

    right_at : f y ≡ get_or rs j (f y)
    right_at = multiple_at f second.0 second.1 list j u y right_in u-is y-is

    ls_in : i < length ls
    ls_in = omega (arith, left_length)

    rs_in : j < length rs
    rs_in = omega (arith, right_length)

    pub two_fit : (size : ℕ) → (unsigned_abs first.1 + unsigned_abs second.1) * norm_of (map f list) < size → unsigned_abs (f x).1 + unsigned_abs (f y).1 < size
    two_fit size fits =
        sum_fits ls rs left_run right_run i j (f x) (f y) ls_in rs_in left_at right_at size
        (omega (arith, norm_of-scaled first.0 first.1 (map f list), norm_of-scaled second.0 second.1 (map f list)))

    module _ (room : List X) (k : ℕ) (z : X) (dl dr n : ℕ) (turn : IsTurn (f x) (f y) (f z) dl dr) (counts : CountsAs (f z).1 n) (few : k ≤ i + j)
        (enough : 2 * length list ≤ length room) where
      pub two_steps : Steps dl dr n
      two_steps = steps_of (f x) (f y) (f z) dl dr n turn counts

      pub two_turned : (goal : Pairs) → map f (take k room) ++ run_of (drop i ls ++ drop j rs) ≡ goal
          → map f (take (k + n) (set room k z)) ++ run_of (drop (i + dl) ls ++ drop (j + dr) rs) ≡ goal
      two_turned goal kept =
          ap (λ (ps : Pairs). ps ++ run_of (drop (i + dl) ls ++ drop (j + dr) rs)) (written f room k n z (omega arith) counts)
          ∙ turned ls rs left_run right_run i j (f x) (f y) ls_in rs_in left_at right_at (map f (take k room)) goal (f z) dl dr n turn counts kept

  -- THE REST: one of both, as the other has run out
  pub two_rest : (i j : ℕ) (out goal : Pairs) → (length list ≤ i) ⊎ (length list ≤ j) → out ++ run_of (drop i ls ++ drop j rs) ≡ goal → (out ++ drop i ls) ++ drop j rs ≡ goal
  two_rest i j out goal (inl past) kept =
      append_assoc out (drop i ls) (drop j rs)
      ∙ ap (λ (ps : Pairs). out ++ ps) (sym (rest_right (flip_args nat_cmp) coefficients falling coefficients_add ls rs i j right_run (omega (arith, left_length)))) ∙ kept
  two_rest i j out goal (inr past) kept =
      append_assoc out (drop i ls) (drop j rs)
      ∙ ap (λ (ps : Pairs). out ++ ps) (sym (rest_left (flip_args nat_cmp) coefficients falling coefficients_add ls rs i j left_run (omega (arith, right_length)))) ∙ kept

-- each multiple alone is within the sum of both
pub first_within : (a b n size : ℕ) → (a + b) * n < size → a * n < size
first_within a b n size h = omega arith

pub second_within : (a b n size : ℕ) → (a + b) * n < size → b * n < size
second_within a b n size h = omega arith
