-- The share of a monomial in a line, power by power, and the share of a term.
use Rattle.std.proofs.Common.{◌≡◌, ℕ, zero, suc, ◌+◌, ◌*◌, ◌^◌, ◌-◌, ◌<◌, ◌≤◌, min, ℤ, Option, Some, None, List, [], ◌∷◌, ◌++◌, get_or, length, map, refl, sym, ap, subst, ◌∙◌, arith}
use Rattle.std.specs.Prelude.{slice_get}
use Rattle.std.specs.Option.{option_map}
use Rattle.std.proofs.lemmas.List.Sums.{sum_by-cons}
use Rattle.geo_poly.specs.declared.rows.Row.{Row}
use Rattle.geo_poly.specs.declared.shared.Shared.{Shared}
use Rattle.geo_poly.specs.declared.variables.Var.{Var}
use Rattle.geo_poly.specs.Counted.{count_row, count_rows, exponent_row, replaced_exponents}
use Rattle.geo_poly.specs.Monomials.{Powers, degree_of}
use Rattle.geo_poly.specs.Replace.{AllPowersSmall, degree_row, degree_rows, denominators, kept, others, power_in, row_of, weight_row, weight_rows}
use Rattle.geo_poly.specs.Polynomials.{term_at}
use Rattle.geo_poly.specs.Shared.{told, told_powers}
use Rattle.geo_poly.proofs.Capped.{cap_left, cap_right, denominators-le}
use Rattle.geo_poly.proofs.Told.{item, told-within, told_at}
use Rattle.elim_apply.specs.declared.numbered.NumberedRow.{NumberedRow}
use Rattle.elim_apply.specs.declared.share.Share.{Share}
use Rattle.elim_apply.specs.Inner.Shares.{HaveShares, IsKeeping, IsReplacing, IsShareOf, IsWithPower}
use Rattle.elim_apply.specs.Inner.Sketches.{AreKnown, sketched}

-- FACTORS MAY STAND APART
pub count_rows-times : (rows : List Row) (m : Powers) (k p : ℕ) → count_rows rows m (k * p) ≡ count_rows rows m k * p
count_rows-times rows [] k p = refl
count_rows-times rows (v ∷ m) k p = go (row_of rows v.0) (λ j. count_rows-times rows m j p)
  where
    go : (o : Option Row) → ((j : ℕ) → count_rows rows m (j * p) ≡ count_rows rows m j * p)
        → count_rows rows m (count_row o v.1 (k * p)) ≡ count_rows rows m (count_row o v.1 k) * p
    go None rest = rest k
    go (Some r) rest = ap (count_rows rows m) (swapped k p (r.num.count ^ v.1)) ∙ rest (k * r.num.count ^ v.1)
      where
        swapped : (a b c : ℕ) → a * b * c ≡ a * c * b
        swapped a b c = omega arith

weight_rows-times : (rows : List Row) (m : Powers) (k p : ℕ) → weight_rows rows m (k * p) ≡ weight_rows rows m k * p
weight_rows-times rows [] k p = refl
weight_rows-times rows (v ∷ m) k p = go (row_of rows v.0) (λ j. weight_rows-times rows m j p)
  where
    go : (o : Option Row) → ((j : ℕ) → weight_rows rows m (j * p) ≡ weight_rows rows m j * p)
        → weight_rows rows m (weight_row o v.1 (k * p)) ≡ weight_rows rows m (weight_row o v.1 k) * p
    go None rest = rest k
    go (Some r) rest = ap (weight_rows rows m) (swapped k p (r.num.weight ^ v.1)) ∙ rest (k * r.num.weight ^ v.1)
      where
        swapped : (a b c : ℕ) → a * b * c ≡ a * c * b
        swapped a b c = omega arith

pub degree_rows-plus : (rows : List Row) (m : Powers) (d e : ℕ) → degree_rows rows m (d + e) ≡ degree_rows rows m d + e
degree_rows-plus rows [] d e = refl
degree_rows-plus rows (v ∷ m) d e = go (row_of rows v.0) (λ j. degree_rows-plus rows m j e)
  where
    go : (o : Option Row) → ((j : ℕ) → degree_rows rows m (j + e) ≡ degree_rows rows m j + e)
        → degree_rows rows m (degree_row o v.1 (d + e)) ≡ degree_rows rows m (degree_row o v.1 d) + e
    go None rest = rest d
    go (Some r) rest = ap (degree_rows rows m) (swapped d e (r.num.degree * v.1)) ∙ rest (d + r.num.degree * v.1)
      where
        swapped : (a b c : ℕ) → a + b + c ≡ a + c + b
        swapped a b c = omega arith

one_times : (k : ℕ) → 1 * k ≡ k
one_times k = omega arith

exponents-le : (rows : List Row) (m : Powers) → replaced_exponents rows m ≤ degree_of m
exponents-le rows [] = omega arith
exponents-le rows (v ∷ m) = omega (arith, one (row_of rows v.0), exponents-le rows m, sum_by-cons (λ (p : Var × ℕ). p.1) v m)
  where
    one : (o : Option Row) → exponent_row o v.1 ≤ v.1
    one None = omega arith
    one (Some r) = omega arith

-- A WALK
-- the share of the powers before the rest of a monomial: with what becomes of the rest it is that of the monomial
pub record IsShareBefore (rows : List Row) (rest m : Powers) (share : Share) : Type 0 where
  pub exponents-are : share.exponents + replaced_exponents rows rest ≡ replaced_exponents rows m
  pub denominators-are : share.denominators + denominators rows rest ≡ denominators rows m
  pub count-is : min (share.count * count_rows rows rest 1) (2 ^ 128 - 1) ≡ min (count_rows rows m 1) (2 ^ 128 - 1)
  pub weight-is : min (share.weight * weight_rows rows rest 1) (2 ^ 128 - 1) ≡ min (weight_rows rows m 1) (2 ^ 128 - 1)
  pub degree-is : min (share.degree + degree_rows rows rest (degree_of (others rows rest))) (2 ^ 128 - 1)
      ≡ min (degree_rows rows m (degree_of (others rows m))) (2 ^ 128 - 1)
  pub count-fits : share.count ≤ 2 ^ 128 - 1
  pub weight-fits : share.weight ≤ 2 ^ 128 - 1
  pub degree-fits : share.degree ≤ 2 ^ 128 - 1

-- before the first power it is that of the monomial with no variable
pub no_power : (rows : List Row) (m : Powers) (share : Share) → IsShareOf rows [] 1 share → IsShareBefore rows m m share
no_power rows m share h =
    let count : share.count ≡ 1 = omega (arith, h.count-is) in
    let weight : share.weight ≡ 1 = omega (arith, h.weight-is) in
    record {
      exponents-are = omega (arith, h.exponents-are);
      denominators-are = omega (arith, h.denominators-are);
      count-is = ap (λ k. min (k * count_rows rows m 1) (2 ^ 128 - 1)) count ∙ ap (λ k. min k (2 ^ 128 - 1)) (one_times (count_rows rows m 1));
      weight-is = ap (λ k. min (k * weight_rows rows m 1) (2 ^ 128 - 1)) weight ∙ ap (λ k. min k (2 ^ 128 - 1)) (one_times (weight_rows rows m 1));
      degree-is = omega (arith, h.degree-is);
      count-fits = omega (arith, count);
      weight-fits = omega (arith, weight);
      degree-fits = omega (arith, h.degree-is);
    }

-- behind the last power it is that of the monomial
pub all_powers : (rows : List Row) (rest m : Powers) (share : Share) → rest ≡ [] → IsShareBefore rows rest m share → IsShareOf rows m 1 share
all_powers rows rest m share none before =
    let h = subst (λ (left : Powers). IsShareBefore rows left m share) none before in
    record {
      exponents-are = omega (arith, h.exponents-are);
      denominators-are = omega (arith, h.denominators-are);
      count-is = omega (arith, h.count-is, h.count-fits);
      weight-is = omega (arith, h.weight-is, h.weight-fits);
      degree-is = omega (arith, h.degree-is, h.degree-fits);
    }

-- a factor of the rest goes over to the share
factor_over : (share after rest factor whole x : ℕ) → after ≡ min (share * min factor (2 ^ 128 - 1)) (2 ^ 128 - 1) → whole ≡ rest * factor
    → min (share * whole) (2 ^ 128 - 1) ≡ x → min (after * rest) (2 ^ 128 - 1) ≡ x
factor_over share after rest factor whole x is parts h =
    ap (λ k. min (k * rest) (2 ^ 128 - 1)) is ∙ cap_left (share * min factor (2 ^ 128 - 1)) rest (2 ^ 128 - 1)
    ∙ ap (λ k. min k (2 ^ 128 - 1)) (swapped share (min factor (2 ^ 128 - 1)) rest)
    ∙ cap_right (share * rest) factor (2 ^ 128 - 1)
    ∙ ap (λ k. min k (2 ^ 128 - 1)) (joined share rest factor)
    ∙ ap (λ k. min (share * k) (2 ^ 128 - 1)) (sym parts) ∙ h
  where
    swapped : (a b c : ℕ) → a * b * c ≡ a * c * b
    swapped a b c = omega arith

    joined : (a b c : ℕ) → a * b * c ≡ a * (b * c)
    joined a b c = omega arith

module _ (rows : List Row) (v : Var) (e : ℕ) (left m : Powers) (share after : Share) (h : IsShareBefore rows ((v, e) ∷ left) m share) where
  abbrev now : Powers
  now = (v, e) ∷ left

  power_kept : row_of rows v ≡ None → IsKeeping e share after → IsShareBefore rows left m after
  power_kept none is =
      let exponent : exponent_row (row_of rows v) e ≡ 0 = ap (λ (o : Option Row). exponent_row o e) none in
      let denominator : power_in (row_of rows v) * e ≡ 0 * e = ap (λ (o : Option Row). power_in o * e) none in
      let count : count_rows rows now 1 ≡ count_rows rows left 1 = ap (λ (o : Option Row). count_rows rows left (count_row o e 1)) none in
      let weight : weight_rows rows now 1 ≡ weight_rows rows left 1 = ap (λ (o : Option Row). weight_rows rows left (weight_row o e 1)) none in
      let stays : degree_of ((v, e) ∷ others rows left) ≡ degree_of (others rows left) + e =
      sum_by-cons (λ (p : Var × ℕ). p.1) (v, e) (others rows left) ∙ omega arith in
      let degree : degree_rows rows now (degree_of (others rows now)) ≡ degree_rows rows left (degree_of (others rows left)) + e =
      ap (λ (o : Option Row). degree_rows rows left (degree_row o e (degree_of (kept o (v, e) (others rows left))))) none
      ∙ ap (degree_rows rows left) stays ∙ degree_rows-plus rows left (degree_of (others rows left)) e in
      record {
        exponents-are = omega (arith, is.exponents, h.exponents-are, exponent);
        denominators-are = omega (arith, is.denominators-are, h.denominators-are, denominator);
        count-is =
            ap (λ k. min (k * count_rows rows left 1) (2 ^ 128 - 1)) is.count
            ∙ ap (λ k. min (share.count * k) (2 ^ 128 - 1)) (sym count) ∙ h.count-is;
        weight-is =
            ap (λ k. min (k * weight_rows rows left 1) (2 ^ 128 - 1)) is.weight
            ∙ ap (λ k. min (share.weight * k) (2 ^ 128 - 1)) (sym weight) ∙ h.weight-is;
        degree-is = omega (arith, is.degree, h.degree-is, degree);
        count-fits = omega (arith, is.count, h.count-fits);
        weight-fits = omega (arith, is.weight, h.weight-fits);
        degree-fits = omega (arith, is.degree);
      }

  power_replaced : (r : Row) → row_of rows v ≡ Some r → AllPowersSmall rows → degree_of m ≤ 65535 → IsReplacing r e share after
      → IsShareBefore rows left m after
  power_replaced r some small fits is =
      let exponent : exponent_row (row_of rows v) e ≡ e = ap (λ (o : Option Row). exponent_row o e) some in
      let denominator : power_in (row_of rows v) * e ≡ r.power * e = ap (λ (o : Option Row). power_in o * e) some in
      let count : count_rows rows now 1 ≡ count_rows rows left 1 * r.num.count ^ e =
      ap (λ (o : Option Row). count_rows rows left (count_row o e 1)) some ∙ count_rows-times rows left 1 (r.num.count ^ e) in
      let weight : weight_rows rows now 1 ≡ weight_rows rows left 1 * r.num.weight ^ e =
      ap (λ (o : Option Row). weight_rows rows left (weight_row o e 1)) some ∙ weight_rows-times rows left 1 (r.num.weight ^ e) in
      let degree : degree_rows rows now (degree_of (others rows now)) ≡ degree_rows rows left (degree_of (others rows left)) + r.num.degree * e =
      ap (λ (o : Option Row). degree_rows rows left (degree_row o e (degree_of (kept o (v, e) (others rows left))))) some
      ∙ degree_rows-plus rows left (degree_of (others rows left)) (r.num.degree * e) in
      record {
        exponents-are = omega (arith, is.exponents, h.exponents-are, exponent, exponents-le rows m, fits);
        denominators-are = omega (arith, is.denominators-are, h.denominators-are, denominator, denominators-le rows m small, fits);
        count-is =
            factor_over share.count after.count (count_rows rows left 1) (r.num.count ^ e) (count_rows rows now 1)
            (min (count_rows rows m 1) (2 ^ 128 - 1)) is.count count h.count-is;
        weight-is =
            factor_over share.weight after.weight (weight_rows rows left 1) (r.num.weight ^ e) (weight_rows rows now 1)
            (min (weight_rows rows m 1) (2 ^ 128 - 1)) is.weight weight h.weight-is;
        degree-is = omega (arith, is.degree, h.degree-is, degree);
        count-fits = omega (arith, is.count);
        weight-fits = omega (arith, is.weight);
        degree-fits = omega (arith, is.degree);
      }

  -- one more power
  pub one_power : AllPowersSmall rows → degree_of m ≤ 65535 → IsWithPower (row_of rows v) e share after → IsShareBefore rows left m after
  one_power small fits is = go (row_of rows v) refl is
    where
      go : (o : Option Row) → row_of rows v ≡ o → IsWithPower o e share after → IsShareBefore rows left m after
      go None at is = power_kept at is
      go (Some r) at is = power_replaced r at small fits is

-- A TERM
pub share_times : (rows : List Row) (m : Powers) (k : ℕ) (share after : Share) → after.exponents ≡ share.exponents → after.denominators ≡ share.denominators
    → after.count ≡ share.count → after.degree ≡ share.degree → after.weight ≡ min (share.weight * k) (2 ^ 128 - 1)
    → IsShareOf rows m 1 share → IsShareOf rows m k after
share_times rows m k share after exponents denominators count degree weight h = record {
  exponents-are = exponents ∙ h.exponents-are;
  denominators-are = denominators ∙ h.denominators-are;
  count-is = count ∙ h.count-is;
  weight-is =
      weight ∙ ap (λ w. min (w * k) (2 ^ 128 - 1)) h.weight-is ∙ cap_left (weight_rows rows m 1) k (2 ^ 128 - 1)
      ∙ ap (λ w. min w (2 ^ 128 - 1)) (sym (weight_rows-times rows m 1 k) ∙ ap (weight_rows rows m) (one_times k));
  degree-is = degree ∙ h.degree-is;
}

-- the monomial of the term at a place
pub monomial_of_term : (p : Shared) (i : ℕ) → i < length p.list.now → (term_at (told p) i).0 ≡ told_powers p (item p.list.now i).0
monomial_of_term p i within = ap (λ (t : Powers × ℤ). t.0) (told_at p (told p) i refl (told-within p i within))

-- the row of a variable, by its number
pub row_known : (rows : List Row) (vars : List Var) (known : List (Option NumberedRow)) (k : ℕ) (o : Option NumberedRow) (d : Var) → AreKnown rows vars known
    → slice_get known k ≡ Some o → row_of rows (get_or vars k d) ≡ option_map sketched o
row_known rows [] [] k o d are e = absurd (let q : ◌≡◌ {A = Option (Option NumberedRow)} None (Some o) = e in cc)
row_known rows [] (r ∷ known) k o d are e = absurd (cc)
row_known rows (v ∷ vars) [] k o d are e = absurd (cc)
row_known rows (v ∷ vars) (r ∷ known) zero o d are e =
    let q : ◌≡◌ {A = Option (Option NumberedRow)} (Some r) (Some o) = e in
    let same : r ≡ o = cc in
    let first : option_map sketched r ≡ row_of rows v = cc in
    sym first ∙ ap (option_map sketched) same
row_known rows (v ∷ vars) (r ∷ known) (suc k) o d are e =
    let rest : map (option_map sketched) known ≡ map (row_of rows) vars = cc in row_known rows vars known k o d rest e

-- each variable has an entry
pub known_within : (rows : List Row) (vars : List Var) (known : List (Option NumberedRow)) → AreKnown rows vars known → length known ≡ length vars
known_within rows [] [] are = refl
known_within rows [] (r ∷ known) are = absurd (cc)
known_within rows (v ∷ vars) [] are = absurd (cc)
known_within rows (v ∷ vars) (r ∷ known) are = let rest : map (option_map sketched) known ≡ map (row_of rows) vars = cc in ap suc (known_within rows vars known rest)

-- one more share
push_each : {X : Type 0} (P : ℕ → X → Type 0) (xs : List X) (x : X) → ((k : ℕ) (y : X) → slice_get xs k ≡ Some y → P k y) → P (length xs) x
    → (k : ℕ) (y : X) → slice_get (xs ++ x ∷ []) k ≡ Some y → P k y
push_each {X} P [] x h g zero y e = let q : ◌≡◌ {A = Option X} (Some x) (Some y) = e in let same : x ≡ y = cc in subst (P 0) same g
push_each {X} P [] x h g (suc k) y e = absurd (let q : ◌≡◌ {A = Option X} None (Some y) = e in cc)
push_each P (z ∷ zs) x h g zero y e = h 0 y e
push_each P (z ∷ zs) x h g (suc k) y e = push_each (λ n w. P (suc n) w) zs x (λ n w f. h (suc n) w f) g k y e

-- THE SHARES OF A LIST
pub no_shares : (rows : List Row) (p : Shared) (shares : List Share) → shares ≡ [] → HaveShares rows p shares
no_shares rows p shares none i s e =
    absurd (let q : ◌≡◌ {A = Option Share} None (Some s) = sym (ap (λ (ss : List Share). slice_get ss i) none) ∙ e in cc)

pub one_more_share : (rows : List Row) (p : Shared) (shares : List Share) (share : Share) (i : ℕ) → length shares ≡ i → i < length p.list.now
    → HaveShares rows p shares → IsShareOf rows (told_powers p (item p.list.now i).0) 1 share → HaveShares rows p (shares ++ share ∷ [])
one_more_share rows p shares share i size within h is =
    push_each (λ k s. IsShareOf rows (term_at (told p) k).0 1 s) shares share h
    (subst (λ (k : ℕ). IsShareOf rows (term_at (told p) k).0 1 share) (sym size)
    (subst (λ (m : Powers). IsShareOf rows m 1 share) (sym (monomial_of_term p i within)) is))
