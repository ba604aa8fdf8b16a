-- What a loop over the terms of a polynomial knows of the size of a line.
use Rattle.std.proofs.Common.{◌≡◌, ℕ, ◌+◌, ◌*◌, ◌-◌, ◌^◌, ◌<◌, ◌≤◌, min, max, length, nat_cmp, ℤ, zero, suc, drop, List, [], ◌∷◌, sym, ap, ◌∙◌, subst, unsigned_abs, arith}
use Rattle.std.specs.Prelude.{sum_by}
use Rattle.std.specs.Ordering.{ord_max}
use Rattle.std.proofs.lemmas.Bool.Decides.{nat_tests}
use Rattle.std.proofs.lemmas.List.Sums.{sum_by-cons}
use Rattle.geo_poly.specs.declared.rows.Row.{Row}
use Rattle.geo_poly.specs.declared.shared.Shared.{Shared}
use Rattle.geo_poly.specs.Monomials.{Powers, degree_of}
use Rattle.geo_poly.specs.Polynomials.{Summands}
use Rattle.geo_poly.specs.Replace.{degree_bound, degree_rows, denominators, most_denominators, others, replaced_degree, replaced_weight, term_degree, term_weight, weight_of, weight_rows}
use Rattle.geo_poly.specs.Shared.{told, told_powers, told_term}
use Rattle.geo_poly.proofs.Capped.{cap_left, cap_right}
use Rattle.geo_poly.proofs.Told.{item, told-drop}
use Rattle.geo_logs.specs.declared.moves.Replacement.{Replacement}
use Rattle.elim_apply.specs.declared.share.Share.{Share}
use Rattle.geo_logs.specs.Moves.{move_charge, term_charge}
use Rattle.geo_poly.specs.Counted.{count_rows, replaced_exponents}
use Rattle.elim_apply.specs.Inner.Sizes.{IsSizeOf as HasSize}
use Rattle.elim_apply.specs.Inner.Shares.{IsShareOf}
use Rattle.elim_apply.proofs.LineShares.{count_rows-times}

pub greater : (a b : ℕ) → ord_max nat_cmp a b ≡ max a b
greater a b = grind (arith, nat_tests)

-- what the code multiplies
capped_charge : (rows : List Row) (m : Powers) (a p n : ℕ) → min (a * (min (count_rows rows m 1) n * p)) n ≡ min (a * count_rows rows m p) n
capped_charge rows m a p n =
    let one : count_rows rows m 1 * p ≡ count_rows rows m p = sym (count_rows-times rows m 1 p) ∙ ap (count_rows rows m) (let e : 1 * p ≡ p = omega arith in e) in
    sym (cap_right a (min (count_rows rows m 1) n * p) n) ∙ ap (λ k. min (a * k) n) (cap_left (count_rows rows m 1) p n ∙ ap (λ k. min k n) one)
    ∙ cap_right a (count_rows rows m p) n

-- a term calls for no more denominators than the one that calls for most
denominators_among : (rows : List Row) (q : Summands) (i : ℕ) (t : Powers × ℤ) (rest : Summands) → drop i q ≡ t ∷ rest
    → denominators rows t.0 ≤ most_denominators rows q
denominators_among rows [] zero t rest e = absurd (cc)
denominators_among rows [] (suc i) t rest e = absurd (cc)
denominators_among rows (u ∷ us) zero t rest e =
    let same : u ≡ t = cc in
    let here : denominators rows u.0 ≡ denominators rows t.0 = ap (λ (x : Powers × ℤ). denominators rows x.0) same in omega (arith, here)
denominators_among rows (u ∷ us) (suc i) t rest e = omega (arith, denominators_among rows us i t rest e)

pub within_top : (rows : List Row) (p : Shared) (i k : ℕ) (share : Share) (top : ℕ) → i < length p.list.now
    → IsShareOf rows (told_powers p (item p.list.now i).0) k share → top ≡ most_denominators rows (told p) → share.denominators ≤ top
within_top rows p i k share top within is most =
    let among = denominators_among rows (told p) i (told_term p (item p.list.now i)) (drop (i + 1) (told p)) (told-drop p i within) in
    let here = is.denominators-are in
    omega (arith, among, here, most)

-- the numbers of a term over the denominator, from its share
pub record IsTermSize (made : Replacement) (top : ℕ) (share : Share) (charge weight degree : ℕ) : Type 0 where
  pub charge-is : charge ≡ min ((share.exponents + (top - share.denominators) + 1) * (share.count * made.den.count ^ (top - share.denominators))) (2 ^ 128 - 1)
  pub weight-is : weight ≡ min (share.weight * made.den.weight ^ (top - share.denominators)) (2 ^ 128 - 1)
  pub degree-is : degree ≡ min (share.degree + made.den.degree * (top - share.denominators)) (2 ^ 128 - 1)

module _ (made : Replacement) (top : ℕ) where
  -- the numbers of a term are those that are meant
  record IsSizeOf (t : Powers × ℤ) (charge weight degree : ℕ) : Type 0 where
    charge-is : charge ≡ min (term_charge made top t.0) (2 ^ 128 - 1)
    weight-is : weight ≡ min (term_weight made.rows made.den top t) (2 ^ 128 - 1)
    degree-is : degree ≡ min (term_degree made.rows made.den top t) (2 ^ 128 - 1)

  size_of_term : (t : Powers × ℤ) (share : Share) (charge weight degree : ℕ) → IsShareOf made.rows t.0 (unsigned_abs t.1) share
      → IsTermSize made top share charge weight degree → IsSizeOf t charge weight degree
  size_of_term t share charge weight degree s h =
      let rows = made.rows in
      let n = top - denominators rows t.0 in
      record {
        charge-is =
            h.charge-is
            ∙ ap (λ d. min ((share.exponents + (top - d) + 1) * (share.count * made.den.count ^ (top - d))) (2 ^ 128 - 1)) s.denominators-are
            ∙ ap (λ e. min ((e + n + 1) * (share.count * made.den.count ^ n)) (2 ^ 128 - 1)) s.exponents-are
            ∙ ap (λ k. min ((replaced_exponents rows t.0 + n + 1) * (k * made.den.count ^ n)) (2 ^ 128 - 1)) s.count-is
            ∙ capped_charge rows t.0 (replaced_exponents rows t.0 + n + 1) (made.den.count ^ n) (2 ^ 128 - 1);
        weight-is =
            h.weight-is
            ∙ ap (λ d. min (share.weight * made.den.weight ^ (top - d)) (2 ^ 128 - 1)) s.denominators-are
            ∙ ap (λ k. min (k * made.den.weight ^ n) (2 ^ 128 - 1)) s.weight-is
            ∙ cap_left (weight_rows rows t.0 (unsigned_abs t.1)) (made.den.weight ^ n) (2 ^ 128 - 1);
        degree-is =
            h.degree-is
            ∙ ap (λ d. min (share.degree + made.den.degree * (top - d)) (2 ^ 128 - 1)) s.denominators-are
            ∙ sum share.degree (degree_rows rows t.0 (degree_of (others rows t.0))) (made.den.degree * n) (2 ^ 128 - 1) s.degree-is;
      }
    where
      sum : (d x y m : ℕ) → d ≡ min x m → min (d + y) m ≡ min (x + y) m
      sum d x y m h = omega (arith, h)

  -- the terms of q before those of `left` have this size, where the rows have the charge `start`
  pub record IsSizeSoFar (start : ℕ) (q left : Summands) (charge weight degree : ℕ) : Type 0 where
    pub charge-is : min (charge + sum_by (λ (t : Powers × ℤ). term_charge made top t.0) left) (2 ^ 128 - 1) ≡ min (start + sum_by (λ (t : Powers × ℤ). term_charge made top t.0) q) (2 ^ 128 - 1)
    pub charge_fits : charge ≤ 2 ^ 128 - 1
    pub weight-is : min (weight + weight_of made.rows made.den top left) (2 ^ 128 - 1) ≡ min (weight_of made.rows made.den top q) (2 ^ 128 - 1)
    pub weight_fits : weight ≤ 2 ^ 128 - 1
    pub degree-is : min (max degree (degree_bound made.rows made.den top left)) (2 ^ 128 - 1) ≡ min (degree_bound made.rows made.den top q) (2 ^ 128 - 1)
    pub degree_fits : degree ≤ 2 ^ 128 - 1

  pub no_size : (start charge : ℕ) (q : Summands) → charge ≡ min start (2 ^ 128 - 1) → IsSizeSoFar start q q charge 0 0
  no_size start charge q h = record {
    charge-is = capped charge start (sum_by (λ (t : Powers × ℤ). term_charge made top t.0) q) (2 ^ 128 - 1) h;
    charge_fits = omega (arith, h);
    weight-is = ap (λ x. min x (2 ^ 128 - 1)) (let e : 0 + weight_of made.rows made.den top q ≡ weight_of made.rows made.den top q = omega arith in e);
    weight_fits = omega arith;
    degree-is = ap (λ x. min x (2 ^ 128 - 1)) (let e : max 0 (degree_bound made.rows made.den top q) ≡ degree_bound made.rows made.den top q = omega arith in e);
    degree_fits = omega arith;
  }
    where
      capped : (c s x m : ℕ) → c ≡ min s m → min (c + x) m ≡ min (s + x) m
      capped c s x m h = omega (arith, h)

  more : (a after one term left rest all m : ℕ) → one ≡ min term m → after ≡ min (a + one) m → left ≡ term + rest
      → min (a + left) m ≡ min all m → min (after + rest) m ≡ min all m
  more a after one term left rest all m p q r s = omega (arith, p, q, r, s)

  most : (a after one term rest all m : ℕ) → one ≡ min term m → after ≡ max a one
      → min (max a (max term rest)) m ≡ min all m → min (max after rest) m ≡ min all m
  most a after one term rest all m p q s = omega (arith, p, q, s)

  pub size_more : (start : ℕ) (q : Summands) (t : Powers × ℤ) (left : Summands) (share : Share) (charge weight degree c w d charge' weight' degree' : ℕ)
      → IsShareOf made.rows t.0 (unsigned_abs t.1) share → IsTermSize made top share c w d
      → charge' ≡ min (charge + c) (2 ^ 128 - 1) → weight' ≡ min (weight + w) (2 ^ 128 - 1) → degree' ≡ max degree d
      → IsSizeSoFar start q (t ∷ left) charge weight degree → IsSizeSoFar start q left charge' weight' degree'
  size_more start q t left share charge weight degree c w d charge' weight' degree' s h ch we de so_far =
      let f : Powers × ℤ → ℕ = λ t. term_charge made top t.0 in
      let is = size_of_term t share c w d s h in
      record {
        charge-is = more charge charge' c (f t) (sum_by f (t ∷ left)) (sum_by f left) (start + sum_by f q) (2 ^ 128 - 1) is.charge-is ch (sum_by-cons f t left) so_far.charge-is;
        charge_fits = omega (arith, ch);
        weight-is = more weight weight' w (term_weight made.rows made.den top t) (weight_of made.rows made.den top (t ∷ left))
            (weight_of made.rows made.den top left) (weight_of made.rows made.den top q) (2 ^ 128 - 1)
            is.weight-is we (sum_by-cons (term_weight made.rows made.den top) t left) so_far.weight-is;
        weight_fits = omega (arith, we);
        degree-is = most degree degree' d (term_degree made.rows made.den top t) (degree_bound made.rows made.den top left)
            (degree_bound made.rows made.den top q) (2 ^ 128 - 1) is.degree-is de so_far.degree-is;
        degree_fits = omega (arith, de, is.degree-is, so_far.degree_fits);
      }

  -- all terms
  pub record IsSize (start : ℕ) (q : Summands) (charge weight degree : ℕ) : Type 0 where
    pub charge-is : charge ≡ min (start + sum_by (λ (t : Powers × ℤ). term_charge made top t.0) q) (2 ^ 128 - 1)
    pub weight-is : weight ≡ min (weight_of made.rows made.den top q) (2 ^ 128 - 1)
    pub degree-is : degree ≡ min (degree_bound made.rows made.den top q) (2 ^ 128 - 1)

  pub whole_size : (start : ℕ) (q left : Summands) (charge weight degree : ℕ) → left ≡ [] → IsSizeSoFar start q left charge weight degree → IsSize start q charge weight degree
  whole_size start q left charge weight degree none h =
      let e = subst (λ (l : Summands). IsSizeSoFar start q l charge weight degree) none h in
      record {
        charge-is = sums charge (start + sum_by (λ (t : Powers × ℤ). term_charge made top t.0) q) (2 ^ 128 - 1) e.charge_fits e.charge-is;
        weight-is = sums weight (weight_of made.rows made.den top q) (2 ^ 128 - 1) e.weight_fits e.weight-is;
        degree-is = greatest degree (degree_bound made.rows made.den top q) (2 ^ 128 - 1) e.degree_fits e.degree-is;
      }
    where
      sums : (a x m : ℕ) → a ≤ m → min (a + 0) m ≡ min x m → a ≡ min x m
      sums a x m f h = omega (arith, f, h)

      greatest : (a x m : ℕ) → a ≤ m → min (max a 0) m ≡ min x m → a ≡ min x m
      greatest a x m f h = omega (arith, f, h)

-- the size of the line
pub line_size : (made : Replacement) (top : ℕ) (q : Summands) (charge weight degree : ℕ) → top ≡ most_denominators made.rows q
    → IsSize made top (made.charge + 4 * (sum_by (λ r. r.num.count) made.rows + made.den.count)) q charge weight degree
    → HasSize (record { charge = charge; weight = weight; degree = degree; top = top }) (move_charge made q) (replaced_weight made.rows made.den q) (replaced_degree made.rows made.den q)
line_size made top q charge weight degree is h =
    let start = made.charge + 4 * (sum_by (λ (r : Row). r.num.count) made.rows + made.den.count) in
    let g = subst (λ n. IsSize made n start q charge weight degree) is h in
    record { charge-is = g.charge-is; weight-is = g.weight-is; degree-is = g.degree-is }
