-- The factors of a term, listed: what they make of it.
use Rattle.std.proofs.Common.{◌≡◌, ℕ, zero, suc, ◌+◌, ◌*◌, ◌-◌, ◌^◌, ◌<◌, ◌≤◌, add-one, Option, Some, None, List, [], ◌∷◌, ◌++◌, length, replicate, refl, sym, ap, subst, ◌∙◌, arith}
use Rattle.std.specs.Prelude.{slice_get}
use Rattle.std.proofs.Math.Nat.{mul_assoc, mul_comm, mul-le-mul_left, mul-one, pow-suc, pow-zero}
use Rattle.std.proofs.lemmas.List.{length-append, length-map, length-replicate, map-append}
use Rattle.geo_poly.specs.Counted.{count_row, count_rows, exponent_row, replaced_exponents}
use Rattle.geo_poly.specs.declared.rows.Piece.{Piece}
use Rattle.geo_poly.specs.declared.rows.Row.{Row}
use Rattle.geo_poly.specs.declared.settings.Setting.{Setting}
use Rattle.geo_poly.specs.declared.variables.Var.{Var}
use Rattle.geo_poly.specs.Inner.Accumulated.{times_power, times_row, times_rows}
use Rattle.geo_poly.specs.Inner.Keyed.{exponent_with, greatest_exponent}
use Rattle.geo_poly.specs.Inner.ReplacedExponents.{exponent_in_row, exponent_in_rows}
use Rattle.geo_poly.specs.Inner.Factored.{AreFactors, count_with, degree_with, numerator_at, piece_of, pieces_of, products_with, times_pieces, weight_with}
use Rattle.geo_poly.specs.Monomials.{Powers}
use Rattle.geo_poly.specs.Polynomials.{Summands, product_of}
use Rattle.geo_poly.specs.Replace.{degree_row, degree_rows, denominators, row_of, weight_row, weight_rows}
use Rattle.geo_poly.proofs.FactoredTerms.{count_with-append, degree_with-append, degree_with-is, times_pieces-append, weight_with-append}
use Rattle.geo_poly.proofs.PieceReach.{with-append, with-is}
use Rattle.geo_poly.proofs.PolynomialRing.{product_of-assoc}
use Rattle.geo_poly.proofs.ProductOrder.{product_of_comm}
use Rattle.geo_poly.proofs.TickBounds.{count_rows-scale}

-- ONE PIECE, AS OFTEN AS IS SAID
pieces_replicate : (rows : List Row) (den : Piece) (n k : ℕ) → pieces_of rows den (replicate n k) ≡ replicate n (piece_of rows den k)
pieces_replicate rows den zero k = refl
pieces_replicate rows den (suc n) k = ap (λ (qs : List Piece). piece_of rows den k ∷ qs) (pieces_replicate rows den n k)

times_same : (q : Piece) (n : ℕ) (p : Summands) → times_pieces (replicate n q) p ≡ times_power p q.poly n
times_same q zero p = refl
times_same q (suc n) p = ap (λ (x : Summands). product_of x q.poly) (times_same q n p)

weight_same : (q : Piece) (n w : ℕ) → weight_with (replicate n q) w ≡ w * q.weight ^ n
weight_same q zero w = omega (arith, ap (λ x. w * x) (pow-zero q.weight))
weight_same q (suc n) w = ap (λ x. x * q.weight) (weight_same q n w) ∙ mul_assoc w (q.weight ^ n) q.weight ∙ ap (λ x. w * x) (sym (pow-suc q.weight n))

degree_same : (q : Piece) (n d : ℕ) → degree_with (replicate n q) d ≡ d + q.degree * n
degree_same q zero d = omega arith
degree_same q (suc n) d = omega (arith, degree_same q n d)

exponent_same : (v : Var) (q : Piece) (n e : ℕ) → exponent_with v (replicate n q) e ≡ e + greatest_exponent v q.poly * n
exponent_same v q zero e = omega arith
exponent_same v q (suc n) e = omega (arith, exponent_same v q n e)

count_same : (q : Piece) (n m : ℕ) → count_with (replicate n q) m ≡ m * q.count ^ n
count_same q zero m = omega (arith, ap (λ x. m * x) (pow-zero q.count))
count_same q (suc n) m = ap (λ x. x * q.count) (count_same q n m) ∙ mul_assoc m (q.count ^ n) q.count ∙ ap (λ x. m * x) (sym (pow-suc q.count n))

-- each piece has a monomial, as far as its count tells
abbrev pub AllSome : List Piece → Type 0
AllSome [] = Unit {0}
AllSome (q ∷ qs) = (1 ≤ q.count) × AllSome qs

some_append : (qs rs : List Piece) → AllSome qs → AllSome rs → AllSome (qs ++ rs)
some_append [] rs h g = g
some_append (q ∷ qs) rs h g = (h.0, some_append qs rs h.1 g)

some_same : (q : Piece) (n : ℕ) → (0 < n → 1 ≤ q.count) → AllSome (replicate n q)
some_same q zero h = tt
some_same q (suc n) h = (h (omega arith), some_same q n (λ _. h (omega arith)))

-- multiplied out one after the other, no product is larger than the last
products_bounded : (qs : List Piece) (n : ℕ) → AllSome qs → products_with qs n ≤ length qs * count_with qs n
products_bounded [] n h = omega arith
products_bounded (q ∷ qs) n h =
    let c = count_with qs n in
    let grows : c * 1 ≤ c * q.count = mul-le-mul_left c h.0 in
    let all : length qs * c ≤ length qs * (c * q.count) = mul-le-mul_left (length qs) (omega (arith, grows)) in
    omega (arith, products_bounded qs n h.1, all)

-- A TERM
-- the factors of the variables in `done`, and so many denominators
pub record Path (rows : List Row) (den : Piece) (done : Powers) (lacking : ℕ) (ks : List ℕ) : Type 0 where
  pub terms : (p : Summands) → times_pieces (pieces_of rows den ks) p ≡ times_power (times_rows rows done p) den.poly lacking
  pub weight : (w : ℕ) → weight_with (pieces_of rows den ks) w ≡ weight_rows rows done w * den.weight ^ lacking
  pub degree : (d : ℕ) → degree_with (pieces_of rows den ks) d ≡ degree_rows rows done d + den.degree * lacking
  pub exponents : (v : Var) (e : ℕ) → exponent_with v (pieces_of rows den ks) e ≡ exponent_in_rows v rows done e + greatest_exponent v den.poly * lacking
  pub counts : (n : ℕ) → count_with (pieces_of rows den ks) n ≡ count_rows rows done n * den.count ^ lacking
  pub some : AllSome (pieces_of rows den ks)
  pub long : length ks ≡ replaced_exponents rows done + lacking

pub Path-start : (rows : List Row) (den : Piece) (lacking : ℕ) → (0 < lacking → 1 ≤ den.count) → Path rows den [] lacking (replicate lacking 0)
Path-start rows den lacking h =
    let same = pieces_replicate rows den lacking 0 in
    record {
      terms = λ p. ap (λ (qs : List Piece). times_pieces qs p) same ∙ times_same den lacking p;
      weight = λ w. ap (λ (qs : List Piece). weight_with qs w) same ∙ weight_same den lacking w;
      degree = λ d. ap (λ (qs : List Piece). degree_with qs d) same ∙ degree_same den lacking d;
      exponents = λ v e. ap (λ (qs : List Piece). exponent_with v qs e) same ∙ exponent_same v den lacking e;
      counts = λ n. ap (λ (qs : List Piece). count_with qs n) same ∙ count_same den lacking n;
      some = subst AllSome (sym same) (some_same den lacking h);
      long = omega (arith, length-replicate {A = ℕ} lacking 0);
    }

-- THE ORDER OF THE FACTORS DOES NOT MATTER
swap : (p q r : Summands) → product_of (product_of p q) r ≡ product_of (product_of p r) q
swap p q r = product_of-assoc p q r ∙ ap (product_of p) (product_of_comm q r) ∙ sym (product_of-assoc p r q)

power_swap : (p q r : Summands) (n : ℕ) → times_power (product_of p q) r n ≡ product_of (times_power p r n) q
power_swap p q r zero = refl
power_swap p q r (suc n) = ap (λ (x : Summands). product_of x r) (power_swap p q r n) ∙ swap (times_power p r n) q r

powers_swap : (p q r : Summands) (e n : ℕ) → times_power (times_power p q e) r n ≡ times_power (times_power p r n) q e
powers_swap p q r zero n = refl
powers_swap p q r (suc e) n = power_swap (times_power p q e) q r n ∙ ap (λ (x : Summands). product_of x q) (powers_swap p q r e n)

pieces_swap : (qs : List Piece) (p q : Summands) (e : ℕ) → times_pieces qs (times_power p q e) ≡ times_power (times_pieces qs p) q e
pieces_swap [] p q e = refl
pieces_swap (x ∷ qs) p q e = ap (λ (y : Summands). product_of y x.poly) (pieces_swap qs p q e) ∙ sym (power_swap (times_pieces qs p) x.poly q e)

weight_scale : (qs : List Piece) (w x : ℕ) → weight_with qs (w * x) ≡ weight_with qs w * x
weight_scale [] w x = refl
weight_scale (q ∷ qs) w x = omega (arith, ap (λ y. y * q.weight) (weight_scale qs w x))

count_scale : (qs : List Piece) (n x : ℕ) → count_with qs (n * x) ≡ count_with qs n * x
count_scale [] n x = refl
count_scale (q ∷ qs) n x = omega (arith, ap (λ y. y * q.count) (count_scale qs n x))

-- one more variable
rows_push : (rows : List Row) (done : Powers) (v : Var × ℕ) (p : Summands) → times_rows rows (done ++ v ∷ []) p ≡ times_row (row_of rows v.0) v.1 (times_rows rows done p)
rows_push rows [] v p = refl
rows_push rows (u ∷ done) v p = rows_push rows done v (times_row (row_of rows u.0) u.1 p)

weights_push : (rows : List Row) (done : Powers) (v : Var × ℕ) (w : ℕ) → weight_rows rows (done ++ v ∷ []) w ≡ weight_row (row_of rows v.0) v.1 (weight_rows rows done w)
weights_push rows [] v w = refl
weights_push rows (u ∷ done) v w = weights_push rows done v (weight_row (row_of rows u.0) u.1 w)

degrees_push : (rows : List Row) (done : Powers) (v : Var × ℕ) (d : ℕ) → degree_rows rows (done ++ v ∷ []) d ≡ degree_row (row_of rows v.0) v.1 (degree_rows rows done d)
degrees_push rows [] v d = refl
degrees_push rows (u ∷ done) v d = degrees_push rows done v (degree_row (row_of rows u.0) u.1 d)

in_rows_push : (x : Var) (rows : List Row) (done : Powers) (v : Var × ℕ) (e : ℕ)
    → exponent_in_rows x rows (done ++ v ∷ []) e ≡ exponent_in_row x (row_of rows v.0) v.1 (exponent_in_rows x rows done e)
in_rows_push x rows [] v e = refl
in_rows_push x rows (u ∷ done) v e = in_rows_push x rows done v (exponent_in_row x (row_of rows u.0) u.1 e)

counts_push : (rows : List Row) (done : Powers) (v : Var × ℕ) (n : ℕ) → count_rows rows (done ++ v ∷ []) n ≡ count_row (row_of rows v.0) v.1 (count_rows rows done n)
counts_push rows [] v n = refl
counts_push rows (u ∷ done) v n = counts_push rows done v (count_row (row_of rows u.0) u.1 n)

exponents_push : (rows : List Row) (done : Powers) (v : Var × ℕ) → replaced_exponents rows (done ++ v ∷ []) ≡ replaced_exponents rows done + exponent_row (row_of rows v.0) v.1
exponents_push rows [] v = omega arith
exponents_push rows (u ∷ done) v = omega (arith, exponents_push rows done v)

pub Path-none : (rows : List Row) (den : Piece) (v : Var × ℕ) (done : Powers) (lacking : ℕ) (ks : List ℕ) → row_of rows v.0 ≡ None
    → Path rows den done lacking ks → Path rows den (done ++ v ∷ []) lacking ks
Path-none rows den v done lacking ks e h = record {
  terms = λ p. h.terms p ∙ ap (λ (x : Summands). times_power x den.poly lacking) (sym (rows_push rows done v p ∙ ap (λ (o : Option Row). times_row o v.1 (times_rows rows done p)) e));
  weight = λ w. h.weight w ∙ ap (λ x. x * den.weight ^ lacking) (sym (weights_push rows done v w ∙ ap (λ (o : Option Row). weight_row o v.1 (weight_rows rows done w)) e));
  degree = λ d. h.degree d ∙ ap (λ x. x + den.degree * lacking) (sym (degrees_push rows done v d ∙ ap (λ (o : Option Row). degree_row o v.1 (degree_rows rows done d)) e));
  exponents = λ x k. h.exponents x k
      ∙ ap (λ y. y + greatest_exponent x den.poly * lacking) (sym (in_rows_push x rows done v k ∙ ap (λ (o : Option Row). exponent_in_row x o v.1 (exponent_in_rows x rows done k)) e));
  counts = λ n. h.counts n ∙ ap (λ x. x * den.count ^ lacking) (sym (counts_push rows done v n ∙ ap (λ (o : Option Row). count_row o v.1 (count_rows rows done n)) e));
  some = h.some;
  long = let exponents : exponent_row (row_of rows v.0) v.1 ≡ 0 = ap (λ (o : Option Row). exponent_row o v.1) e in omega (arith, exponents, exponents_push rows done v, h.long);
}

numerator_there : (rows : List Row) (den : Piece) (i : ℕ) (r : Row) → slice_get rows i ≡ Some r → numerator_at rows den i ≡ r.num
numerator_there [] den zero r e = absurd (cc)
numerator_there [] den (suc i) r e = absurd (cc)
numerator_there (s ∷ rows) den zero r e = let same : s ≡ r = cc in ap (λ (x : Row). x.num) same
numerator_there (s ∷ rows) den (suc i) r e = numerator_there rows den i r e

pub Path-some : (rows : List Row) (den : Piece) (v : Var × ℕ) (done : Powers) (lacking : ℕ) (ks : List ℕ) (i : ℕ) (r : Row) → slice_get rows i ≡ Some r → row_of rows v.0 ≡ Some r → 1 ≤ r.num.count
    → Path rows den done lacking ks → Path rows den (done ++ v ∷ []) lacking (ks ++ replicate v.1 (i + 1))
Path-some rows den v done lacking ks i r at e counted h =
    let here : piece_of rows den (i + 1) ≡ r.num = ap (piece_of rows den) (add-one i) ∙ numerator_there rows den i r at in
    let qs = pieces_of rows den ks in
    let more = replicate v.1 r.num in
    let same : pieces_of rows den (ks ++ replicate v.1 (i + 1)) ≡ qs ++ more =
    map-append (piece_of rows den) ks (replicate v.1 (i + 1)) ∙ ap (λ (x : List Piece). qs ++ x) (pieces_replicate rows den v.1 (i + 1) ∙ ap (replicate v.1) here) in
    record {
      terms = λ p.
          ap (λ (x : List Piece). times_pieces x p) same ∙ times_pieces-append qs more p ∙ ap (times_pieces qs) (times_same r.num v.1 p) ∙ pieces_swap qs p r.num.poly v.1
          ∙ ap (λ (x : Summands). times_power x r.num.poly v.1) (h.terms p) ∙ powers_swap (times_rows rows done p) den.poly r.num.poly lacking v.1
          ∙ ap (λ (x : Summands). times_power x den.poly lacking) (sym (rows_push rows done v p ∙ ap (λ (o : Option Row). times_row o v.1 (times_rows rows done p)) e));
      weight = λ w.
          let whole = ap (λ (x : List Piece). weight_with x w) same ∙ weight_with-append qs more w
          ∙ ap (weight_with qs) (weight_same r.num v.1 w) ∙ weight_scale qs w (r.num.weight ^ v.1)
          ∙ ap (λ x. x * r.num.weight ^ v.1) (h.weight w) in
          let pushed = ap (λ x. x * den.weight ^ lacking) (weights_push rows done v w ∙ ap (λ (o : Option Row). weight_row o v.1 (weight_rows rows done w)) e) in
          omega (arith, whole, pushed);
      degree = λ d.
          let whole = ap (λ (x : List Piece). degree_with x d) same ∙ degree_with-append qs more d ∙ ap (degree_with qs) (degree_same r.num v.1 d) in
          let pushed = degrees_push rows done v d ∙ ap (λ (o : Option Row). degree_row o v.1 (degree_rows rows done d)) e in
          omega (arith, whole, pushed, h.degree d, degree_with-is qs d, degree_with-is qs (d + r.num.degree * v.1));
      exponents = λ x k.
          let whole = ap (λ (y : List Piece). exponent_with x y k) same ∙ with-append x qs more k ∙ ap (exponent_with x qs) (exponent_same x r.num v.1 k) in
          let pushed = in_rows_push x rows done v k ∙ ap (λ (o : Option Row). exponent_in_row x o v.1 (exponent_in_rows x rows done k)) e in
          omega (arith, whole, pushed, h.exponents x k, with-is x qs k, with-is x qs (k + greatest_exponent x r.num.poly * v.1));
      counts = λ n.
          let whole = ap (λ (x : List Piece). count_with x n) same ∙ count_with-append qs more n
          ∙ ap (count_with qs) (count_same r.num v.1 n) ∙ count_scale qs n (r.num.count ^ v.1)
          ∙ ap (λ x. x * r.num.count ^ v.1) (h.counts n) in
          let pushed = ap (λ x. x * den.count ^ lacking) (counts_push rows done v n ∙ ap (λ (o : Option Row). count_row o v.1 (count_rows rows done n)) e) in
          omega (arith, whole, pushed);
      some = subst AllSome (sym same) (some_append qs more h.some (some_same r.num v.1 (λ _. counted)));
      long =
          let exponents : exponent_row (row_of rows v.0) v.1 ≡ v.1 = ap (λ (o : Option Row). exponent_row o v.1) e in
          omega (arith, exponents, exponents_push rows done v, h.long, length-append ks (replicate v.1 (i + 1)), length-replicate v.1 (i + 1));
    }

-- with all variables
pub Path-end : (setting : Setting) (m : Powers) (lacking : ℕ) (ks : List ℕ) → lacking ≡ setting.top - denominators setting.rows.now m
    → Path setting.rows.now setting.den.piece.now m lacking ks → AreFactors setting m ks
Path-end setting m lacking ks e h =
    let rows = setting.rows.now in
    let den = setting.den.piece.now in
    record {
      terms = λ p. h.terms p ∙ ap (times_power (times_rows rows m p) den.poly) e;
      weight = λ w. h.weight w ∙ ap (λ (n : ℕ). weight_rows rows m w * den.weight ^ n) e;
      degree = λ d. h.degree d ∙ ap (λ (n : ℕ). degree_rows rows m d + den.degree * n) e;
      exponents = λ v k. h.exponents v k ∙ ap (λ (n : ℕ). exponent_in_rows v rows m k + greatest_exponent v den.poly * n) e;
      products =
          let qs = pieces_of rows den ks in
          let d = den.count ^ lacking in
          let exponents = replaced_exponents rows m in
          let size : length qs ≡ length ks = length-map {B = Piece} ks (piece_of rows den) in
          let whole : count_rows rows m d ≡ count_rows rows m 1 * d = ap (count_rows rows m) (sym (mul-one d)) ∙ count_rows-scale rows m d 1 ∙ mul_comm d (count_rows rows m 1) in
          let bound : products_with qs 1 ≤ (exponents + lacking) * count_rows rows m d =
          subst (λ (x : ℕ). products_with qs 1 ≤ x * count_rows rows m d) (size ∙ h.long)
          (subst (λ (x : ℕ). products_with qs 1 ≤ length qs * x) (h.counts 1 ∙ sym whole) (products_bounded qs 1 h.some)) in
          let more : products_with qs 1 ≤ (exponents + lacking + 1) * count_rows rows m d = omega (arith, bound) in
          subst (λ (n : ℕ). products_with qs 1 ≤ (exponents + n + 1) * count_rows rows m (den.count ^ n)) e more;
    }

-- a place within the rows has one
row_there : (rows : List Row) (i : ℕ) → i < length rows → slice_get rows i ≡ None → ⊥
row_there [] i within e = omega (arith, within)
row_there (r ∷ rows) zero within e = let q : ◌≡◌ {A = Option Row} None (Some r) = sym e in cc
row_there (r ∷ rows) (suc i) within e = row_there rows i (omega arith) e

-- one more variable, whose row stands at a place
pub Path-place : (rows : List Row) (den : Piece) (v : Var × ℕ) (done : Powers) (lacking : ℕ) (ks : List ℕ) (i : ℕ) → i < length rows → slice_get rows i ≡ row_of rows v.0
    → ((r : Row) → row_of rows v.0 ≡ Some r → 1 ≤ r.num.count) → Path rows den done lacking ks → Path rows den (done ++ v ∷ []) lacking (ks ++ replicate v.1 (i + 1))
Path-place rows den v done lacking ks i within at counts h = go (slice_get rows i) refl
  where
    go : (o : Option Row) → slice_get rows i ≡ o → Path rows den (done ++ v ∷ []) lacking (ks ++ replicate v.1 (i + 1))
    go None e = absurd (row_there rows i within e)
    go (Some r) e = Path-some rows den v done lacking ks i r e (sym at ∙ e) (counts r (sym at ∙ e)) h
