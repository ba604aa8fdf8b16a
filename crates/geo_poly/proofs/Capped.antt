-- Products and sums that stop at a greatest number.
use Rattle.std.proofs.Common.{◌≡◌, ℕ, zero, suc, ◌+◌, ◌*◌, ◌-◌, ◌^◌, ◌≤◌, min, inl, inr, ℤ, Option, Some, None, List, [], ◌∷◌, refl, sym, ap, subst, ◌∙◌, unsigned_abs, Bool, true, false, cond, arith}
use Rattle.std.proofs.Math.Nat.{mul-le-mul_right, mul_comm}
use Rattle.std.proofs.lemmas.Bool.{cases_lt}
use Rattle.std.proofs.lemmas.List.Sums.{sum_by-cons}
use Rattle.std.specs.Ordering.{is_eq}
use Rattle.geo_poly.specs.Variables.{var_cmp}
use Rattle.geo_poly.specs.declared.variables.Var.{Var}
use Rattle.geo_poly.specs.declared.rows.Row.{Row}
use Rattle.geo_poly.specs.Monomials.{Powers, degree_of}
use Rattle.geo_poly.specs.Replace.{AllPowersSmall, kept, others, row_of, power_in, denominators, weight_row, weight_rows, degree_row, degree_rows}

-- a factor may stop at the greatest number
pub cap_right : (a b m : ℕ) → min (a * min b m) m ≡ min (a * b) m
cap_right zero b m = omega arith
cap_right (suc a) b m = elim (cases_lt m b) [
  | inl lt ↦
      let same : min b m ≡ m = omega arith in
      let big : 1 * m ≤ suc a * m = mul-le-mul_right m (let one : 1 ≤ suc a = omega arith in one) in
      let bigger : 1 * b ≤ suc a * b = mul-le-mul_right b (let one : 1 ≤ suc a = omega arith in one) in
      ap (λ k. min (suc a * k) m) same ∙ omega (arith, big, bigger)
  | inr le ↦ let same : min b m ≡ b = omega arith in ap (λ k. min (suc a * k) m) same
]

pub cap_left : (a b m : ℕ) → min (min a m * b) m ≡ min (a * b) m
cap_left a b m = ap (λ k. min k m) (mul_comm (min a m) b) ∙ cap_right b a m ∙ ap (λ k. min k m) (mul_comm b a)

pub cap_weights : (rows : List Row) (left : Powers) (w m : ℕ) → min (weight_rows rows left (min w m)) m ≡ min (weight_rows rows left w) m
cap_weights rows [] w m = omega arith
cap_weights rows (v ∷ left) w m = go (row_of rows v.0) (λ k. cap_weights rows left k m)
  where
    go : (o : Option Row) → ((k : ℕ) → min (weight_rows rows left (min k m)) m ≡ min (weight_rows rows left k) m)
        → min (weight_rows rows left (weight_row o v.1 (min w m))) m ≡ min (weight_rows rows left (weight_row o v.1 w)) m
    go None rest = rest w
    go (Some r) rest =
        sym (rest (min w m * r.num.weight ^ v.1)) ∙ ap (λ k. min (weight_rows rows left k) m) (cap_left w (r.num.weight ^ v.1) m) ∙ rest (w * r.num.weight ^ v.1)

cap_degrees : (rows : List Row) (left : Powers) (d m : ℕ) → min (degree_rows rows left (min d m)) m ≡ min (degree_rows rows left d) m
cap_degrees rows [] d m = omega arith
cap_degrees rows (v ∷ left) d m = go (row_of rows v.0) (λ k. cap_degrees rows left k m)
  where
    go : (o : Option Row) → ((k : ℕ) → min (degree_rows rows left (min k m)) m ≡ min (degree_rows rows left k) m)
        → min (degree_rows rows left (degree_row o v.1 (min d m))) m ≡ min (degree_rows rows left (degree_row o v.1 d)) m
    go None rest = rest d
    go (Some r) rest =
        let same : min (min d m + r.num.degree * v.1) m ≡ min (d + r.num.degree * v.1) m = omega arith in
        sym (rest (min d m + r.num.degree * v.1)) ∙ ap (λ k. min (degree_rows rows left k) m) same ∙ rest (d + r.num.degree * v.1)

-- degrees that are the same up to the greatest number
pub same_degrees : (rows : List Row) (left : Powers) (d e m : ℕ) → min d m ≡ min e m → min (degree_rows rows left d) m ≡ min (degree_rows rows left e) m
same_degrees rows left d e m h = sym (cap_degrees rows left d m) ∙ ap (λ k. min (degree_rows rows left k) m) h ∙ cap_degrees rows left e m

-- what a loop over the variables of a term knows of its weight
pub record WeightProgress (rows : List Row) (top : ℕ) (m : Powers) (c : ℤ) (left : Powers) (weight missing : ℕ) : Type 0 where
  pub capped : min (weight_rows rows left weight) (2 ^ 128 - 1) ≡ min (weight_rows rows m (unsigned_abs c)) (2 ^ 128 - 1)
  pub missing-is : missing ≡ denominators rows left + (top - denominators rows m)

pub WeightProgress-none : (rows : List Row) (top : ℕ) (m : Powers) (c : ℤ) (v : Var × ℕ) (left : Powers) (weight missing : ℕ)
    → row_of rows v.0 ≡ None → WeightProgress rows top m c (v ∷ left) weight missing → WeightProgress rows top m c left weight missing
WeightProgress-none rows top m c v left weight missing e h = record {
  capped = ap (λ (o : Option Row). min (weight_rows rows left (weight_row o v.1 weight)) (2 ^ 128 - 1)) (sym e) ∙ h.capped;
  missing-is =
      let at : power_in (row_of rows v.0) * v.1 ≡ 0 * v.1 = ap (λ (o : Option Row). power_in o * v.1) e in
      omega (arith, at, h.missing-is);
}

pub WeightProgress-some : (rows : List Row) (top : ℕ) (m : Powers) (c : ℤ) (v : Var × ℕ) (left : Powers) (weight missing : ℕ) (r : Row)
    → row_of rows v.0 ≡ Some r → WeightProgress rows top m c (v ∷ left) weight missing
    → WeightProgress rows top m c left (min (weight * min (r.num.weight ^ v.1) (2 ^ 128 - 1)) (2 ^ 128 - 1)) (missing - r.power * v.1)
WeightProgress-some rows top m c v left weight missing r e h =
    let most = 2 ^ 128 - 1 in
    record {
      capped =
          ap (λ k. min (weight_rows rows left k) most) (cap_right weight (r.num.weight ^ v.1) most)
          ∙ cap_weights rows left (weight * r.num.weight ^ v.1) most
          ∙ ap (λ (o : Option Row). min (weight_rows rows left (weight_row o v.1 weight)) most) (sym e) ∙ h.capped;
      missing-is =
          let at : power_in (row_of rows v.0) * v.1 ≡ r.power * v.1 = ap (λ (o : Option Row). power_in o * v.1) e in
          omega (arith, at, h.missing-is);
    }

-- the weight of the term, from that of its rows
pub weight_end : (weight x d m : ℕ) → min weight m ≡ min x m → min (weight * min d m) m ≡ min (x * d) m
weight_end weight x d m h = cap_right weight d m ∙ sym (cap_left weight d m) ∙ ap (λ k. min (k * d) m) h ∙ cap_left x d m

small_power : (rows : List Row) (v : Var) (r : Row) → AllPowersSmall rows → row_of rows v ≡ Some r → r.power ≤ 2
small_power [] v r h e = absurd (let q : ◌≡◌ {A = Option Row} None (Some r) = e in cc)
small_power (s ∷ rows) v r h e = at (is_eq (var_cmp s.var v)) e (small_power rows v r h.1)
  where
    at : (b : Bool) → cond b (Some s) (row_of rows v) ≡ Some r → (row_of rows v ≡ Some r → r.power ≤ 2) → r.power ≤ 2
    at true e rest = let which : s ≡ r = cc in subst (λ (r : Row). r.power ≤ 2) which h.0
    at false e rest = rest e

pub denominators-le : (rows : List Row) (m : Powers) → AllPowersSmall rows → denominators rows m ≤ 2 * degree_of m
denominators-le rows [] h = omega arith
denominators-le rows (v ∷ m) h =
    omega (arith, one (row_of rows v.0) refl, denominators-le rows m h, sum_by-cons (λ (p : Var × ℕ). p.1) v m)
  where
    one : (o : Option Row) → row_of rows v.0 ≡ o → power_in o * v.1 ≤ 2 * v.1
    one None e = omega arith
    one (Some r) e = mul-le-mul_right v.1 (small_power rows v.0 r h e)

-- a turn of the loop over the degrees
pub degree_some : (rows : List Row) (v : Var × ℕ) (left : Powers) (r : Row) (d x : ℕ) → row_of rows v.0 ≡ Some r
    → min (degree_rows rows (v ∷ left) (d + degree_of (others rows (v ∷ left)))) (2 ^ 128 - 1) ≡ x
    → min (degree_rows rows left (min (d + min (r.num.degree * v.1) (2 ^ 128 - 1)) (2 ^ 128 - 1) + degree_of (others rows left))) (2 ^ 128 - 1) ≡ x
degree_some rows v left r d x e h =
    let o = degree_of (others rows left) in
    same_degrees rows left (min (d + min (r.num.degree * v.1) (2 ^ 128 - 1)) (2 ^ 128 - 1) + o) (d + o + r.num.degree * v.1) (2 ^ 128 - 1) (omega arith)
    ∙ ap (λ (q : Option Row). min (degree_rows rows left (degree_row q v.1 (d + degree_of (kept q v (others rows left))))) (2 ^ 128 - 1)) (sym e) ∙ h

pub degree_none : (rows : List Row) (v : Var × ℕ) (left : Powers) (d x : ℕ) → row_of rows v.0 ≡ None
    → min (degree_rows rows (v ∷ left) (d + degree_of (others rows (v ∷ left)))) (2 ^ 128 - 1) ≡ x
    → min (degree_rows rows left (min (d + v.1) (2 ^ 128 - 1) + degree_of (others rows left))) (2 ^ 128 - 1) ≡ x
degree_none rows v left d x e h =
    let o = degree_of (others rows left) in
    let more : degree_of (v ∷ others rows left) ≡ v.1 + o = sum_by-cons (λ (p : Var × ℕ). p.1) v (others rows left) in
    same_degrees rows left (min (d + v.1) (2 ^ 128 - 1) + o) (d + degree_of (v ∷ others rows left)) (2 ^ 128 - 1) (omega (arith, more))
    ∙ ap (λ (q : Option Row). min (degree_rows rows left (degree_row q v.1 (d + degree_of (kept q v (others rows left))))) (2 ^ 128 - 1)) (sym e) ∙ h

pub missing_some : (rows : List Row) (v : Var × ℕ) (left : Powers) (r : Row) (missing rest : ℕ) → row_of rows v.0 ≡ Some r
    → missing ≡ denominators rows (v ∷ left) + rest → missing - r.power * v.1 ≡ denominators rows left + rest
missing_some rows v left r missing rest e h =
    let at : power_in (row_of rows v.0) * v.1 ≡ r.power * v.1 = ap (λ (o : Option Row). power_in o * v.1) e in
    omega (arith, at, h)

pub missing_none : (rows : List Row) (v : Var × ℕ) (left : Powers) (missing rest : ℕ) → row_of rows v.0 ≡ None → missing ≡ denominators rows (v ∷ left) + rest → missing ≡ denominators rows left + rest
missing_none rows v left missing rest e h =
    let at : power_in (row_of rows v.0) * v.1 ≡ 0 * v.1 = ap (λ (o : Option Row). power_in o * v.1) e in
    omega (arith, at, h)
