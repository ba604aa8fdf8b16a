-- Rows with capped numbers have the charge, the weight and the degree of the rows themselves, up to the greatest number.
use Rattle.std.proofs.Common.{◌≡◌, ℕ, zero, suc, ◌+◌, ◌*◌, ◌-◌, ◌^◌, min, max, map, Bool, true, false, cond, ℤ, Option, Some, None, List, [], ◌∷◌, refl, sym, ap, ap₂, ◌∙◌, unsigned_abs, arith}
use Rattle.std.specs.Prelude.{sum_by}
use Rattle.std.specs.Option.{option_map}
use Rattle.std.specs.Ordering.{is_eq}
use Rattle.std.proofs.Math.Nat.{pow-suc, pow-zero}
use Rattle.std.proofs.lemmas.List.Sums.{sum_by-cons}
use Rattle.fraction_poly.specs.Measures.{capped_number}
use Rattle.geo_poly.specs.declared.rows.Piece.{Piece}
use Rattle.geo_poly.specs.declared.rows.Row.{Row}
use Rattle.geo_poly.specs.declared.variables.Var.{Var}
use Rattle.geo_poly.specs.Monomials.{Powers, degree_of}
use Rattle.geo_poly.specs.Polynomials.{Summands}
use Rattle.geo_poly.specs.Replace.{degree_bound, degree_row, degree_rows, denominators, kept, most_denominators, others, power_in}
use Rattle.geo_poly.specs.Replace.{replaced_degree, replaced_weight, row_of, term_degree, term_weight, weight_of, weight_row, weight_rows}
use Rattle.geo_poly.specs.Variables.{var_cmp}
use Rattle.geo_poly.proofs.Capped.{cap_left, cap_right, cap_weights, same_degrees}
use Rattle.geo_logs.specs.declared.moves.Replacement.{Replacement}
use Rattle.geo_logs.specs.Moves.{move_charge, term_charge}
use Rattle.geo_poly.specs.Counted.{count_row, count_rows, exponent_row, replaced_exponents}

-- a polynomial by its capped numbers
abbrev pub capped_piece : Piece → Piece
capped_piece f = record { poly = []; weight = capped_number f.weight; count = capped_number f.count; degree = capped_number f.degree }

-- and a row
abbrev pub capped_row : Row → Row
capped_row r = record { var = r.var; power = r.power; num = capped_piece r.num }

abbrev pub capped_rows : List Row → List Row
capped_rows rows = map capped_row rows

-- PRODUCTS
pub capped_product : (a b p m : ℕ) → min (a * min (b * min p m) m) m ≡ min (a * (b * p)) m
capped_product a b p m = ap (λ k. min (a * k) m) (cap_right b p m) ∙ cap_right a (b * p) m

cap_power : (b e m : ℕ) → min (min b m ^ e) m ≡ min (b ^ e) m
cap_power b zero m = ap (λ k. min k m) (pow-zero (min b m) ∙ sym (pow-zero b))
cap_power b (suc e) m =
    ap (λ k. min k m) (pow-suc (min b m) e) ∙ cap_right (min b m ^ e) b m ∙ sym (cap_left (min b m ^ e) b m)
    ∙ ap (λ k. min (k * b) m) (cap_power b e m) ∙ cap_left (b ^ e) b m ∙ ap (λ k. min k m) (sym (pow-suc b e))

-- times a power of a capped number
cap_times_power : (k b e m : ℕ) → min (k * min b m ^ e) m ≡ min (k * b ^ e) m
cap_times_power k b e m = sym (cap_right k (min b m ^ e) m) ∙ ap (λ x. min (k * x) m) (cap_power b e m) ∙ cap_right k (b ^ e) m

pub cap_counts : (rows : List Row) (left : Powers) (k m : ℕ) → min (count_rows rows left (min k m)) m ≡ min (count_rows rows left k) m
cap_counts rows [] k m = omega arith
cap_counts rows (v ∷ left) k m = go (row_of rows v.0) (λ k. cap_counts rows left k m)
  where
    go : (o : Option Row) → ((k : ℕ) → min (count_rows rows left (min k m)) m ≡ min (count_rows rows left k) m)
        → min (count_rows rows left (count_row o v.1 (min k m))) m ≡ min (count_rows rows left (count_row o v.1 k)) m
    go None rest = rest k
    go (Some r) rest =
        sym (rest (min k m * r.num.count ^ v.1)) ∙ ap (λ k. min (count_rows rows left k) m) (cap_left k (r.num.count ^ v.1) m) ∙ rest (k * r.num.count ^ v.1)

-- what is the same up to the greatest number stays so
same_counts : (rows : List Row) (left : Powers) (k l m : ℕ) → min k m ≡ min l m → min (count_rows rows left k) m ≡ min (count_rows rows left l) m
same_counts rows left k l m h = sym (cap_counts rows left k m) ∙ ap (λ x. min (count_rows rows left x) m) h ∙ cap_counts rows left l m

same_weights : (rows : List Row) (left : Powers) (k l m : ℕ) → min k m ≡ min l m → min (weight_rows rows left k) m ≡ min (weight_rows rows left l) m
same_weights rows left k l m h = sym (cap_weights rows left k m) ∙ ap (λ x. min (weight_rows rows left x) m) h ∙ cap_weights rows left l m

-- ROWS
row_of-capped : (rows : List Row) (v : Var) → row_of (capped_rows rows) v ≡ option_map capped_row (row_of rows v)
row_of-capped [] v = refl
row_of-capped (r ∷ rows) v = go (is_eq (var_cmp r.var v)) (row_of-capped rows v)
  where
    go : (b : Bool) → row_of (capped_rows rows) v ≡ option_map capped_row (row_of rows v)
        → cond b (Some (capped_row r)) (row_of (capped_rows rows) v) ≡ option_map capped_row (cond b (Some r) (row_of rows v))
    go true h = refl
    go false h = h

same_power : (o : Option Row) → power_in (option_map capped_row o) ≡ power_in o
same_power None = refl
same_power (Some r) = refl

same_exponent : (o : Option Row) (e : ℕ) → exponent_row (option_map capped_row o) e ≡ exponent_row o e
same_exponent None e = refl
same_exponent (Some r) e = refl

same_kept : (o : Option Row) (p : Var × ℕ) (m : Powers) → kept (option_map capped_row o) p m ≡ kept o p m
same_kept None p m = refl
same_kept (Some r) p m = refl

pub denominators-capped : (rows : List Row) (m : Powers) → denominators (capped_rows rows) m ≡ denominators rows m
denominators-capped rows [] = refl
denominators-capped rows (p ∷ m) =
    let here : power_in (row_of (capped_rows rows) p.0) ≡ power_in (row_of rows p.0) = ap power_in (row_of-capped rows p.0) ∙ same_power (row_of rows p.0) in
    ap₂ (λ x y. x * p.1 + y) here (denominators-capped rows m)

exponents-capped : (rows : List Row) (m : Powers) → replaced_exponents (capped_rows rows) m ≡ replaced_exponents rows m
exponents-capped rows [] = refl
exponents-capped rows (p ∷ m) =
    let here : exponent_row (row_of (capped_rows rows) p.0) p.1 ≡ exponent_row (row_of rows p.0) p.1 =
    ap (λ (o : Option Row). exponent_row o p.1) (row_of-capped rows p.0) ∙ same_exponent (row_of rows p.0) p.1 in
    ap₂ (λ x y. x + y) here (exponents-capped rows m)

others-capped : (rows : List Row) (m : Powers) → others (capped_rows rows) m ≡ others rows m
others-capped rows [] = refl
others-capped rows (p ∷ m) =
    ap (λ (o : Option Row). kept o p (others (capped_rows rows) m)) (row_of-capped rows p.0) ∙ same_kept (row_of rows p.0) p (others (capped_rows rows) m)
    ∙ ap (λ (n : Powers). kept (row_of rows p.0) p n) (others-capped rows m)

pub most-capped : (rows : List Row) (q : Summands) → most_denominators (capped_rows rows) q ≡ most_denominators rows q
most-capped rows [] = refl
most-capped rows (t ∷ ts) = ap₂ (λ x y. max x y) (denominators-capped rows t.0) (most-capped rows ts)

counts-capped : (rows : List Row) (m : Powers) (k : ℕ) → min (count_rows (capped_rows rows) m k) (2 ^ 128 - 1) ≡ min (count_rows rows m k) (2 ^ 128 - 1)
counts-capped rows [] k = refl
counts-capped rows (v ∷ m) k =
    ap (λ (o : Option Row). min (count_rows (capped_rows rows) m (count_row o v.1 k)) (2 ^ 128 - 1)) (row_of-capped rows v.0)
    ∙ go (row_of rows v.0) (λ k. counts-capped rows m k)
  where
    go : (o : Option Row) → ((k : ℕ) → min (count_rows (capped_rows rows) m k) (2 ^ 128 - 1) ≡ min (count_rows rows m k) (2 ^ 128 - 1))
        → min (count_rows (capped_rows rows) m (count_row (option_map capped_row o) v.1 k)) (2 ^ 128 - 1) ≡ min (count_rows rows m (count_row o v.1 k)) (2 ^ 128 - 1)
    go None rest = rest k
    go (Some r) rest =
        rest (k * capped_number r.num.count ^ v.1)
        ∙ same_counts rows m (k * capped_number r.num.count ^ v.1) (k * r.num.count ^ v.1) (2 ^ 128 - 1) (cap_times_power k r.num.count v.1 (2 ^ 128 - 1))

weights-capped : (rows : List Row) (m : Powers) (k : ℕ) → min (weight_rows (capped_rows rows) m k) (2 ^ 128 - 1) ≡ min (weight_rows rows m k) (2 ^ 128 - 1)
weights-capped rows [] k = refl
weights-capped rows (v ∷ m) k =
    ap (λ (o : Option Row). min (weight_rows (capped_rows rows) m (weight_row o v.1 k)) (2 ^ 128 - 1)) (row_of-capped rows v.0)
    ∙ go (row_of rows v.0) (λ k. weights-capped rows m k)
  where
    go : (o : Option Row) → ((k : ℕ) → min (weight_rows (capped_rows rows) m k) (2 ^ 128 - 1) ≡ min (weight_rows rows m k) (2 ^ 128 - 1))
        → min (weight_rows (capped_rows rows) m (weight_row (option_map capped_row o) v.1 k)) (2 ^ 128 - 1) ≡ min (weight_rows rows m (weight_row o v.1 k)) (2 ^ 128 - 1)
    go None rest = rest k
    go (Some r) rest =
        rest (k * capped_number r.num.weight ^ v.1)
        ∙ same_weights rows m (k * capped_number r.num.weight ^ v.1) (k * r.num.weight ^ v.1) (2 ^ 128 - 1) (cap_times_power k r.num.weight v.1 (2 ^ 128 - 1))

degrees-capped : (rows : List Row) (m : Powers) (d : ℕ) → min (degree_rows (capped_rows rows) m d) (2 ^ 128 - 1) ≡ min (degree_rows rows m d) (2 ^ 128 - 1)
degrees-capped rows [] d = refl
degrees-capped rows (v ∷ m) d =
    ap (λ (o : Option Row). min (degree_rows (capped_rows rows) m (degree_row o v.1 d)) (2 ^ 128 - 1)) (row_of-capped rows v.0)
    ∙ go (row_of rows v.0) (λ d. degrees-capped rows m d)
  where
    go : (o : Option Row) → ((d : ℕ) → min (degree_rows (capped_rows rows) m d) (2 ^ 128 - 1) ≡ min (degree_rows rows m d) (2 ^ 128 - 1))
        → min (degree_rows (capped_rows rows) m (degree_row (option_map capped_row o) v.1 d)) (2 ^ 128 - 1) ≡ min (degree_rows rows m (degree_row o v.1 d)) (2 ^ 128 - 1)
    go None rest = rest d
    go (Some r) rest =
        let product : min (min r.num.degree (2 ^ 128 - 1) * v.1) (2 ^ 128 - 1) ≡ min (r.num.degree * v.1) (2 ^ 128 - 1) = cap_left r.num.degree v.1 (2 ^ 128 - 1) in
        rest (d + capped_number r.num.degree * v.1)
        ∙ same_degrees rows m (d + capped_number r.num.degree * v.1) (d + r.num.degree * v.1) (2 ^ 128 - 1)
        (capped_sum d (min r.num.degree (2 ^ 128 - 1) * v.1) (r.num.degree * v.1) (2 ^ 128 - 1) product)
      where
        capped_sum : (d x y m : ℕ) → min x m ≡ min y m → min (d + x) m ≡ min (d + y) m
        capped_sum d x y m h = omega (arith, h)

-- SUMS
sum-capped : {A : Type 0} (f g : A → ℕ) → ((x : A) → min (f x) (2 ^ 128 - 1) ≡ min (g x) (2 ^ 128 - 1)) → (xs : List A)
    → min (sum_by f xs) (2 ^ 128 - 1) ≡ min (sum_by g xs) (2 ^ 128 - 1)
sum-capped f g h [] = refl
sum-capped f g h (x ∷ xs) =
    both (sum_by f (x ∷ xs)) (f x) (sum_by f xs) (sum_by g (x ∷ xs)) (g x) (sum_by g xs) (2 ^ 128 - 1) (sum_by-cons f x xs) (sum_by-cons g x xs) (h x) (sum-capped f g h xs)
  where
    both : (s a b t c d m : ℕ) → s ≡ a + b → t ≡ c + d → min a m ≡ min c m → min b m ≡ min d m → min s m ≡ min t m
    both s a b t c d m e f h g = omega (arith, e, f, h, g)

row_counts-capped : (rows : List Row) → min (sum_by (λ (r : Row). r.num.count) (capped_rows rows)) (2 ^ 128 - 1) ≡ min (sum_by (λ (r : Row). r.num.count) rows) (2 ^ 128 - 1)
row_counts-capped [] = refl
row_counts-capped (r ∷ rows) =
    let f : Row → ℕ = λ r. r.num.count in
    both (sum_by f (capped_rows (r ∷ rows))) r.num.count (sum_by f (capped_rows rows)) (sum_by f (r ∷ rows)) (sum_by f rows) (2 ^ 128 - 1)
    (sum_by-cons f (capped_row r) (capped_rows rows)) (sum_by-cons f r rows) (row_counts-capped rows)
  where
    both : (s a b t d m : ℕ) → s ≡ min a m + b → t ≡ a + d → min b m ≡ min d m → min s m ≡ min t m
    both s a b t d m e f g = omega (arith, e, f, g)

-- THE WHOLE LINE
module _ (rows : List Row) (den : Piece) where
  term_weight-capped : (top : ℕ) (t : Powers × ℤ) → min (term_weight (capped_rows rows) (capped_piece den) top t) (2 ^ 128 - 1) ≡ min (term_weight rows den top t) (2 ^ 128 - 1)
  term_weight-capped top t =
      let n = top - denominators rows t.0 in
      let w = unsigned_abs t.1 in
      let most = 2 ^ 128 - 1 in
      ap (λ d. min (weight_rows (capped_rows rows) t.0 w * capped_number den.weight ^ (top - d)) (2 ^ 128 - 1)) (denominators-capped rows t.0)
      ∙ cap_times_power (weight_rows (capped_rows rows) t.0 w) den.weight n (2 ^ 128 - 1)
      ∙ sym (cap_left (weight_rows (capped_rows rows) t.0 w) (den.weight ^ n) (2 ^ 128 - 1))
      ∙ ap (λ k. min (k * den.weight ^ n) (2 ^ 128 - 1)) (weights-capped rows t.0 w)
      ∙ cap_left (weight_rows rows t.0 w) (den.weight ^ n) (2 ^ 128 - 1)

  pub replaced_weight-capped : (q : Summands) → min (replaced_weight (capped_rows rows) (capped_piece den) q) (2 ^ 128 - 1) ≡ min (replaced_weight rows den q) (2 ^ 128 - 1)
  replaced_weight-capped q =
      ap (λ top. min (weight_of (capped_rows rows) (capped_piece den) top q) (2 ^ 128 - 1)) (most-capped rows q)
      ∙ sum-capped (term_weight (capped_rows rows) (capped_piece den) (most_denominators rows q)) (term_weight rows den (most_denominators rows q)) (term_weight-capped (most_denominators rows q)) q

  term_degree-capped : (top : ℕ) (t : Powers × ℤ) → min (term_degree (capped_rows rows) (capped_piece den) top t) (2 ^ 128 - 1) ≡ min (term_degree rows den top t) (2 ^ 128 - 1)
  term_degree-capped top t =
      let n = top - denominators rows t.0 in
      ap (λ d. min (degree_rows (capped_rows rows) t.0 (degree_of (others (capped_rows rows) t.0)) + capped_number den.degree * (top - d)) (2 ^ 128 - 1)) (denominators-capped rows t.0)
      ∙ ap (λ (m : Powers). min (degree_rows (capped_rows rows) t.0 (degree_of m) + capped_number den.degree * n) (2 ^ 128 - 1)) (others-capped rows t.0)
      ∙ both (degree_rows (capped_rows rows) t.0 (degree_of (others rows t.0))) (degree_rows rows t.0 (degree_of (others rows t.0))) (capped_number den.degree * n) (den.degree * n) (2 ^ 128 - 1)
      (degrees-capped rows t.0 (degree_of (others rows t.0))) (cap_left den.degree n (2 ^ 128 - 1))
    where
      both : (a b c d m : ℕ) → min a m ≡ min b m → min c m ≡ min d m → min (a + c) m ≡ min (b + d) m
      both a b c d m h g = omega (arith, h, g)

  degree_bound-capped : (top : ℕ) (q : Summands) → min (degree_bound (capped_rows rows) (capped_piece den) top q) (2 ^ 128 - 1) ≡ min (degree_bound rows den top q) (2 ^ 128 - 1)
  degree_bound-capped top [] = refl
  degree_bound-capped top (t ∷ ts) =
      both (term_degree (capped_rows rows) (capped_piece den) top t) (term_degree rows den top t)
      (degree_bound (capped_rows rows) (capped_piece den) top ts) (degree_bound rows den top ts) (2 ^ 128 - 1)
      (term_degree-capped top t) (degree_bound-capped top ts)
    where
      both : (a b c d m : ℕ) → min a m ≡ min b m → min c m ≡ min d m → min (max a c) m ≡ min (max b d) m
      both a b c d m h g = omega (arith, h, g)

  pub replaced_degree-capped : (q : Summands) → min (replaced_degree (capped_rows rows) (capped_piece den) q) (2 ^ 128 - 1) ≡ min (replaced_degree rows den q) (2 ^ 128 - 1)
  replaced_degree-capped q =
      ap (λ top. min (degree_bound (capped_rows rows) (capped_piece den) top q) (2 ^ 128 - 1)) (most-capped rows q)
      ∙ degree_bound-capped (most_denominators rows q) q

  -- CHARGES
  module _ (charge : ℕ) where
    abbrev pub whole_move : Replacement
    whole_move = record { rows = rows; den = den; charge = charge }

    abbrev pub capped_move : Replacement
    capped_move = record { rows = capped_rows rows; den = capped_piece den; charge = capped_number charge }

    term_charge-capped : (top : ℕ) (m : Powers) → min (term_charge capped_move top m) (2 ^ 128 - 1) ≡ min (term_charge whole_move top m) (2 ^ 128 - 1)
    term_charge-capped top m =
        let n = top - denominators rows m in
        let e = replaced_exponents rows m in
        ap (λ d. min ((replaced_exponents (capped_rows rows) m + (top - d) + 1) * count_rows (capped_rows rows) m (capped_number den.count ^ (top - d))) (2 ^ 128 - 1)) (denominators-capped rows m)
        ∙ ap (λ e. min ((e + n + 1) * count_rows (capped_rows rows) m (capped_number den.count ^ n)) (2 ^ 128 - 1)) (exponents-capped rows m)
        ∙ sym (cap_right (e + n + 1) (count_rows (capped_rows rows) m (capped_number den.count ^ n)) (2 ^ 128 - 1))
        ∙ ap (λ k. min ((e + n + 1) * k) (2 ^ 128 - 1))
        (counts-capped rows m (capped_number den.count ^ n)
        ∙ same_counts rows m (capped_number den.count ^ n) (den.count ^ n) (2 ^ 128 - 1) (cap_power den.count n (2 ^ 128 - 1)))
        ∙ cap_right (e + n + 1) (count_rows rows m (den.count ^ n)) (2 ^ 128 - 1)

    pub move_charge-capped : (q : Summands) → min (move_charge capped_move q) (2 ^ 128 - 1) ≡ min (move_charge whole_move q) (2 ^ 128 - 1)
    move_charge-capped q =
        let f : Row → ℕ = λ r. r.num.count in
        ap (λ top. min (capped_number charge + 4 * (sum_by f (capped_rows rows) + capped_number den.count)
        + sum_by (λ (t : Powers × ℤ). term_charge capped_move top t.0) q) (2 ^ 128 - 1)) (most-capped rows q)
        ∙ whole charge (sum_by f (capped_rows rows)) (sum_by f rows) den.count (sum_by (λ (t : Powers × ℤ). term_charge capped_move (most_denominators rows q) t.0) q)
        (sum_by (λ (t : Powers × ℤ). term_charge whole_move (most_denominators rows q) t.0) q) (2 ^ 128 - 1) (row_counts-capped rows)
        (sum-capped (λ (t : Powers × ℤ). term_charge capped_move (most_denominators rows q) t.0) (λ (t : Powers × ℤ). term_charge whole_move (most_denominators rows q) t.0)
        (λ t. term_charge-capped (most_denominators rows q) t.0) q)
      where
        whole : (ch s t k x y m : ℕ) → min s m ≡ min t m → min x m ≡ min y m → min (min ch m + 4 * (s + min k m) + x) m ≡ min (ch + 4 * (t + k) + y) m
        whole ch s t k x y m h g = omega (arith, h, g)
