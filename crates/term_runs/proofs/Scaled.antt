-- Multiples of a run by a term.
use Rattle.std.proofs.Common.{◌≡◌, ℕ, ◌+◌, ◌*◌, ◌<◌, ◌≤◌, eqb, false, ℤ, ◌*ℤ◌, List, [], ◌∷◌, ◌++◌}
use Rattle.std.proofs.Common.{append_assoc, length, get_or, map, take, drop, set, sym, ap, ◌∙◌, unsigned_abs, arith}
use Rattle.std.specs.Ordering.{flip_args, nat_cmp}
use Rattle.std.specs.declared.cmp.Ordering.TheVariants.{Less}
use Rattle.std.proofs.Math.Nat.{mul-le-mul}
use Rattle.std.proofs.lemmas.Bool.Decides.{nat_tests}
use Rattle.std.proofs.lemmas.Cmp.{ranked}
use Rattle.std.proofs.lemmas.Int.{unsigned_abs-mul}
use Rattle.std.proofs.lemmas.List.{drop_more, get_or-map, length-map, map_push, take_more_set}
use Rattle.std.proofs.lemmas.List.Sums.{sum_by-cons}
use Rattle.sparse_lists.specs.SparseLists.{AllKeys, IsBefore}
use Rattle.sparse_lists.proofs.Sums.{AllKeys-at}
use Rattle.sparse_lists.specs.Coefficients.{coefficients, Pairs, scaled}
use Rattle.term_runs.specs.Runs.{IsRun, norm_of}
use Rattle.term_runs.proofs.Order.{coefficient-le}
use Rattle.term_runs.proofs.Turns.{read_left}

-- A MULTIPLE OF A RUN IS A RUN
below : (a b : ℕ) → a < b → nat_cmp a b ≡ Less
below a b h = grind (arith, nat_tests)

before_scaled : (k : ℕ) (c : ℤ) (a : ℕ) (ps : Pairs) → IsBefore (flip_args nat_cmp) a ps → IsBefore (flip_args nat_cmp) (k + a) (scaled k c ps)
before_scaled k c a [] h = tt
before_scaled k c a (p ∷ ps) h =
    let lower : p.0 < a = ranked p.0 a Less (sym h.0) in
    (below (k + p.0) (k + a) (omega (arith, lower)), before_scaled k c a ps h.1)

size_some : (c : ℤ) → coefficients.is_zero c ≡ false → 1 ≤ unsigned_abs c
size_some c e = grind (arith, nat_tests)

none_size : (n : ℕ) → 1 ≤ n → eqb n 0 ≡ false
none_size n h = grind (arith, nat_tests)

product_some : (c d : ℤ) → coefficients.is_zero c ≡ false → coefficients.is_zero d ≡ false → coefficients.is_zero (c *ℤ d) ≡ false
product_some c d h g =
    let both : 1 * 1 ≤ unsigned_abs c * unsigned_abs d = mul-le-mul (size_some c h) (size_some d g) in
    none_size (unsigned_abs (c *ℤ d)) (omega (arith, unsigned_abs-mul c d, both))

pub scaled_run : (k : ℕ) (c : ℤ) (ps : Pairs) → coefficients.is_zero c ≡ false → IsRun ps → IsRun (scaled k c ps)
scaled_run k c [] some h = tt
scaled_run k c (p ∷ ps) some h = (product_some c p.1 some h.0, before_scaled k c p.0 ps h.1, scaled_run k c ps some h.2)

-- HOW LARGE IT IS
pub multiple_fits : (c : ℤ) (ps : Pairs) (i size : ℕ) (p : ℕ × ℤ) → i < length ps → p ≡ get_or ps i p → unsigned_abs c * norm_of ps < size
    → unsigned_abs (c *ℤ p.1) < size
multiple_fits c ps i size p h e fits =
    let one : unsigned_abs p.1 ≤ norm_of ps = coefficient-le ps i p h e in
    let same : unsigned_abs c ≤ unsigned_abs c = omega arith in
    let both : unsigned_abs c * unsigned_abs p.1 ≤ unsigned_abs c * norm_of ps = mul-le-mul same one in
    omega (arith, unsigned_abs-mul c p.1, both)

pub norm_of-scaled : (k : ℕ) (c : ℤ) (ps : Pairs) → norm_of (scaled k c ps) ≡ unsigned_abs c * norm_of ps
norm_of-scaled k c [] = omega arith
norm_of-scaled k c (p ∷ ps) =
    let size : ℕ × ℤ → ℕ = λ t. unsigned_abs t.1 in
    omega (
      arith,
      sum_by-cons size (k + p.0, c *ℤ p.1) (scaled k c ps),
      sum_by-cons size p ps,
      unsigned_abs-mul c p.1,
      norm_of-scaled k c ps,
      ap (λ n. unsigned_abs c * n) (sum_by-cons size p ps),
    )

-- A TERM MORE
module _ {X : Type 0} (f : X → ℕ × ℤ) (key : ℕ) (c : ℤ) (list : List X) (i : ℕ) (t x : X) (within : i < length list) (t-is : t ≡ get_or list i t)
    (x-is : f x ≡ (key + (f t).0, c *ℤ (f t).1)) where
  -- it is the next of the multiple
  pub multiple_at : f x ≡ get_or (scaled key c (map f list)) i (f x)
  multiple_at =
      let inside : i < length (map f list) = omega (arith, length-map list f) in
      x-is ∙ ap (λ (p : ℕ × ℤ). (key + p.0, c *ℤ p.1)) (read_left f list i t within t-is)
      ∙ sym (get_or-map (λ (p : ℕ × ℤ). (key + p.0, c *ℤ p.1)) (map f list) i (f t) (f x) inside)

  pub multiple_more : (room : List X) (k : ℕ) (goal : Pairs) → k < length room → map f (take k room) ++ drop i (scaled key c (map f list)) ≡ goal
      → map f (take (k + 1) (set room k x)) ++ drop (i + 1) (scaled key c (map f list)) ≡ goal
  multiple_more room k goal room_in kept =
      let ms = scaled key c (map f list) in
      let times : ℕ × ℤ → ℕ × ℤ = λ p. (key + p.0, c *ℤ p.1) in
      let inside : i < length ms = omega (arith, length-map (map f list) times, length-map list f) in
      ap (λ (ps : Pairs). ps ++ drop (i + 1) ms) (ap (map f) (take_more_set room k x room_in) ∙ map_push f (take k room) x)
      ∙ append_assoc (map f (take k room)) (f x ∷ []) (drop (i + 1) ms)
      ∙ ap (λ (ps : Pairs). map f (take k room) ++ ps)
      (ap (λ (p : ℕ × ℤ). p ∷ drop (i + 1) ms) multiple_at ∙ sym (drop_more ms i (f x) inside)) ∙ kept

pub key_fits : {X : Type 0} (f : X → ℕ × ℤ) (P : ℕ → Type 0) (list : List X) (i : ℕ) (t : X) → i < length list → t ≡ get_or list i t → AllKeys P (map f list) → P (f t).0
key_fits f P list i t within is h = AllKeys-at P (map f list) i (f t) (omega (arith, length-map list f)) (read_left f list i t within is) h
