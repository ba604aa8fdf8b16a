-- Products of runs, part by part.
use Rattle.std.proofs.Common.{◌≡◌, ℕ, ◌+◌, ◌*◌, ◌<◌, ◌≤◌, ℤ, pos, ◌+ℤ◌, ◌*ℤ◌, List, [], ◌∷◌, ◌++◌, append_assoc, length, map, take, drop, refl, sym, ap, ap₂, subst, ◌∙◌, unsigned_abs, arith}
use Rattle.std.specs.Ordering.{flip_args, nat_cmp}
use Rattle.std.specs.Prelude.{slice_range}
use Rattle.std.proofs.lemmas.Int.{ints}
use Rattle.std.proofs.lemmas.List.{append-nil, map-append, take-append-drop}
use Rattle.std.proofs.lemmas.List.Sums.{sum_by-append, sum_by-cons}
use Rattle.sparse_lists.specs.SparseLists.{AllKeys, IsBefore, amount}
use Rattle.sparse_lists.proofs.Canonical.{IsCanonical-canonical, amount-append, canonical-canonical_left, canonical_comm, canonical_same, canonical_self}
use Rattle.sparse_lists.proofs.Sums.{sum_by-canonical-le}
use Rattle.sparse_lists.specs.Coefficients.{coefficients, Pairs, scaled, sum_of}
use Rattle.sparse_lists.proofs.Coefficients.{coefficients_add}
use Rattle.term_runs.specs.Runs.{IsRun, KeysFit, norm_of, products, run_of}
use Rattle.term_runs.proofs.Order.{falling, unsigned_abs-add-le}
use Rattle.term_runs.proofs.Parts.{parted_drop, parted_range, parted_take}
use Rattle.term_runs.proofs.Scaled.{norm_of-scaled, scaled_run}

-- RUNS
pub run_of-is : (ps : Pairs) → IsRun (run_of ps)
run_of-is ps = IsCanonical-canonical (flip_args nat_cmp) coefficients falling coefficients_add ps

before_front : (k : ℕ) (ps qs : Pairs) → IsBefore (flip_args nat_cmp) k (ps ++ qs) → IsBefore (flip_args nat_cmp) k ps
before_front k [] qs h = tt
before_front k (p ∷ ps) qs h = (h.0, before_front k ps qs h.1)

run_front : (ps qs : Pairs) → IsRun (ps ++ qs) → IsRun ps
run_front [] qs h = tt
run_front (p ∷ ps) qs h = (h.0, before_front p.0 ps qs h.1, run_front ps qs h.2)

run_back : (ps qs : Pairs) → IsRun (ps ++ qs) → IsRun qs
run_back [] qs h = h
run_back (p ∷ ps) qs h = run_back ps qs h.2

keys_front : (P : ℕ → Type 0) (ps qs : Pairs) → AllKeys P (ps ++ qs) → AllKeys P ps
keys_front P [] qs h = tt
keys_front P (p ∷ ps) qs h = (h.0, keys_front P ps qs h.1)

keys_back : (P : ℕ → Type 0) (ps qs : Pairs) → AllKeys P (ps ++ qs) → AllKeys P qs
keys_back P [] qs h = h
keys_back P (p ∷ ps) qs h = keys_back P ps qs h.1

-- PRODUCTS
pub products-append : (ps qs rs : Pairs) → products (ps ++ qs) rs ≡ products ps rs ++ products qs rs
products-append [] qs rs = refl
products-append (p ∷ ps) qs rs =
    ap (λ (xs : Pairs). scaled p.0 p.1 rs ++ xs) (products-append ps qs rs) ∙ sym (append_assoc (scaled p.0 p.1 rs) (products ps rs) (products qs rs))

-- the product of a list in two parts is the sum of the products
pub product-parts : (ps qs rs : Pairs) → sum_of nat_cmp (run_of (products ps rs)) (run_of (products qs rs)) ≡ run_of (products (ps ++ qs) rs)
product-parts ps qs rs =
    canonical-canonical_left (flip_args nat_cmp) coefficients falling coefficients_add (products ps rs) (run_of (products qs rs))
    ∙ canonical_comm (flip_args nat_cmp) coefficients falling coefficients_add (products ps rs) (run_of (products qs rs))
    ∙ canonical-canonical_left (flip_args nat_cmp) coefficients falling coefficients_add (products qs rs) (products ps rs)
    ∙ canonical_comm (flip_args nat_cmp) coefficients falling coefficients_add (products qs rs) (products ps rs)
    ∙ ap run_of (sym (products-append ps qs rs))

norm_of-products : (ps rs : Pairs) → norm_of (products ps rs) ≡ norm_of ps * norm_of rs
norm_of-products [] rs = omega arith
norm_of-products (p ∷ ps) rs =
    let size : ℕ × ℤ → ℕ = λ t. unsigned_abs t.1 in
    omega (
      arith,
      sum_by-append size (scaled p.0 p.1 rs) (products ps rs),
      norm_of-scaled p.0 p.1 rs,
      norm_of-products ps rs,
      ap (λ n. n * norm_of rs) (sum_by-cons size p ps),
    )

pub norm_of-product-le : (ps rs : Pairs) → norm_of (run_of (products ps rs)) ≤ norm_of ps * norm_of rs
norm_of-product-le ps rs =
    omega (
      arith,
      norm_of-products ps rs,
      sum_by-canonical-le (flip_args nat_cmp) coefficients falling coefficients_add (λ t. unsigned_abs t.1) (λ k a b. unsigned_abs-add-le a b) (products ps rs),
    )

-- the product of one term
pub one_product : (p : ℕ × ℤ) (rs : Pairs) → IsRun (p ∷ []) → IsRun rs → scaled p.0 p.1 rs ≡ run_of (products (p ∷ []) rs)
one_product p rs one run =
    sym (canonical_self (flip_args nat_cmp) coefficients falling coefficients_add (scaled p.0 p.1 rs) (scaled_run p.0 p.1 rs one.0 run))
    ∙ ap run_of (sym (append-nil (scaled p.0 p.1 rs)))

-- THE OTHER WAY ROUND
-- the coefficient at a key
at : ℕ → Pairs → ℤ
at k ps = amount (flip_args nat_cmp) coefficients k ps

at-append : (k : ℕ) (ps qs : Pairs) → at k (ps ++ qs) ≡ at k ps +ℤ at k qs
unfolding at
at-append k ps qs = amount-append (flip_args nat_cmp) coefficients falling coefficients_add k ps qs

times : ℕ × ℤ → ℕ × ℤ → ℕ × ℤ
times p q = (p.0 + q.0, p.1 *ℤ q.1)

turned_pair : (p q : ℕ × ℤ) → times p q ≡ times q p
unfolding times
turned_pair p q =
    let keys : p.0 + q.0 ≡ q.0 + p.0 = omega arith in
    let coefs : p.1 *ℤ q.1 ≡ q.1 *ℤ p.1 = omega (arith, ints) in
    ap₂ (λ (k : ℕ) (c : ℤ). (k, c)) keys coefs

-- a list times one more term
at-products : (k : ℕ) (ps : Pairs) (q : ℕ × ℤ) (qs : Pairs) → at k (products ps (q ∷ qs)) ≡ at k (scaled q.0 q.1 ps) +ℤ at k (products ps qs)
unfolding at times
at-products k [] q qs = omega (arith, ints)
at-products k (p ∷ ps) q qs =
    let head : at k ((p.0 + q.0, p.1 *ℤ q.1) ∷ []) ≡ at k ((q.0 + p.0, q.1 *ℤ p.1) ∷ []) = ap (λ (t : ℕ × ℤ). at k (t ∷ [])) (turned_pair p q) in
    omega (
      arith,
      ints,
      head,
      at-products k ps q qs,
      at-append k (scaled p.0 p.1 (q ∷ qs)) (products ps (q ∷ qs)),
      at-append k ((p.0 + q.0, p.1 *ℤ q.1) ∷ []) (scaled p.0 p.1 qs),
      at-append k ((q.0 + p.0, q.1 *ℤ p.1) ∷ []) (scaled q.0 q.1 ps),
      at-append k (scaled p.0 p.1 qs) (products ps qs),
    )

at-turned : (k : ℕ) (ps qs : Pairs) → at k (products ps qs) ≡ at k (products qs ps)
unfolding at
at-turned k ps [] = at-none ps
  where
    at-none : (rs : Pairs) → at k (products rs []) ≡ pos 0
    at-none [] = refl
    at-none (r ∷ rs) = at-none rs
at-turned k ps (q ∷ qs) = omega (arith, ints, at-products k ps q qs, at-turned k ps qs, at-append k (scaled q.0 q.1 ps) (products qs ps))

pub products_comm : (ps qs : Pairs) → run_of (products ps qs) ≡ run_of (products qs ps)
unfolding at
products_comm ps qs = canonical_same (flip_args nat_cmp) coefficients falling coefficients_add (products ps qs) (products qs ps) (λ k. at-turned k ps qs)

keys_none : (keys : ℕ) (ps : Pairs) → KeysFit keys ps []
keys_none keys [] = tt
keys_none keys (p ∷ ps) = (tt, keys_none keys ps)

keys_more : (keys : ℕ) (q : ℕ × ℤ) (ps qs : Pairs) → AllKeys (λ j. q.0 + j < keys) ps → KeysFit keys ps qs → KeysFit keys ps (q ∷ qs)
keys_more keys q [] qs h g = tt
keys_more keys q (p ∷ ps) qs h g =
    let first : p.0 + q.0 < keys = omega (arith, h.0) in
    ((first, g.0), keys_more keys q ps qs h.1 g.1)

pub keys_comm : (keys : ℕ) (ps qs : Pairs) → KeysFit keys qs ps → KeysFit keys ps qs
keys_comm keys ps [] h = keys_none keys ps
keys_comm keys ps (q ∷ qs) h = keys_more keys q ps qs h.0 (keys_comm keys ps qs h.1)

-- A LIST IN TWO PARTS
pub halves : {X : Type 0} (left front back : List X) (n : ℕ) → front ≡ take n left → back ≡ drop n left → left ≡ front ++ back
halves left front back n front-is back-is =
    sym (take-append-drop n left) ∙ ap₂ (λ (xs ys : List _). xs ++ ys) (sym front-is) (sym back-is)

module _ {X : Type 0} (f : X → ℕ × ℤ) (left front back : List X) (parts : left ≡ front ++ back) where
  seen : map f left ≡ map f front ++ map f back
  seen = ap (map f) parts ∙ map-append f front back

  pub left_part : IsRun (map f left) → IsRun (map f front)
  left_part h = run_front (map f front) (map f back) (subst IsRun seen h)

  pub right_part : IsRun (map f left) → IsRun (map f back)
  right_part h = run_back (map f front) (map f back) (subst IsRun seen h)

  module _ (right : Pairs) where
    pub left_keys : (keys : ℕ) → KeysFit keys (map f left) right → KeysFit keys (map f front) right
    left_keys keys h =
        keys_front (λ k. AllKeys (λ j. k + j < keys) right) (map f front) (map f back)
        (subst (λ (ps : Pairs). KeysFit keys ps right) seen h)

    pub right_keys : (keys : ℕ) → KeysFit keys (map f left) right → KeysFit keys (map f back) right
    right_keys keys h =
        keys_back (λ k. AllKeys (λ j. k + j < keys) right) (map f front) (map f back)
        (subst (λ (ps : Pairs). KeysFit keys ps right) seen h)

    norms : norm_of (map f left) * norm_of right ≡ norm_of (map f front) * norm_of right + norm_of (map f back) * norm_of right
    norms =
        let size : ℕ × ℤ → ℕ = λ t. unsigned_abs t.1 in
        omega (arith, ap (λ n. n * norm_of right) (ap norm_of seen ∙ sum_by-append size (map f front) (map f back)))

    pub left_norm : (size : ℕ) → norm_of (map f left) * norm_of right < size → norm_of (map f front) * norm_of right < size
    left_norm size h = omega (arith, norms, h)

    pub right_norm : (size : ℕ) → norm_of (map f left) * norm_of right < size → norm_of (map f back) * norm_of right < size
    right_norm size h = omega (arith, norms, h)

    pub both_norms : (size : ℕ) → norm_of (map f left) * norm_of right < size
        → norm_of (run_of (products (map f front) right)) + norm_of (run_of (products (map f back) right)) < size
    both_norms size h = omega (arith, norms, h, norm_of-product-le (map f front) right, norm_of-product-le (map f back) right)

    pub whole_product : sum_of nat_cmp (run_of (products (map f front) right)) (run_of (products (map f back) right)) ≡ run_of (products (map f left) right)
    whole_product = product-parts (map f front) (map f back) right ∙ ap (λ (ps : Pairs). run_of (products ps right)) (sym seen)

-- THE SUM OF TWO RUNS behind other terms
module _ (old middle last left right : Pairs) (base mid : ℕ) (base-is : base ≡ length old) (mid-is : mid ≡ length middle) (first : middle ≡ old ++ left)
    (second : last ≡ middle ++ right) where
  whole : last ≡ (old ++ left) ++ right
  whole = second ∙ ap (λ (ps : Pairs). ps ++ right) first

  mid-place : mid ≡ length (old ++ left)
  mid-place = mid-is ∙ ap length first

  pub joined_left : slice_range last base mid ≡ left
  joined_left =
      ap (λ (ps : Pairs). slice_range ps base mid) whole ∙ ap₂ (λ (b m : ℕ). slice_range ((old ++ left) ++ right) b m) base-is mid-place
      ∙ parted_range old left right

  pub joined_right : drop mid last ≡ right
  joined_right = ap₂ (λ (n : ℕ) (ps : Pairs). drop n ps) mid-place whole ∙ parted_drop old left right

  joined_old : take base last ≡ old
  joined_old = ap₂ (λ (n : ℕ) (ps : Pairs). take n ps) base-is whole ∙ parted_take old left right

  pub joined : take base last ++ sum_of nat_cmp (slice_range last base mid) (drop mid last) ≡ old ++ sum_of nat_cmp left right
  joined = ap₂ (λ (ps qs : Pairs). ps ++ qs) joined_old (ap₂ (sum_of nat_cmp) joined_left joined_right)
