-- The share of a monomial, where it is reckoned in small numbers: they are the numbers themselves.
use Rattle.std.proofs.Common.{◌≡◌, ℕ, ◌+◌, ◌*◌, ◌^◌, ◌-◌, ◌≤◌, Option, Some, None, List, [], ◌∷◌, refl, ap, ◌∙◌, arith}
use Rattle.std.proofs.lemmas.List.Sums.{sum_by-cons}
use Rattle.geo_poly.specs.declared.rows.Row.{Row}
use Rattle.geo_poly.specs.declared.variables.Var.{Var}
use Rattle.geo_poly.specs.Counted.{count_row, count_rows, exponent_row, replaced_exponents}
use Rattle.geo_poly.specs.Monomials.{Powers, degree_of}
use Rattle.geo_poly.specs.Replace.{degree_row, degree_rows, denominators, kept, others, power_in, row_of, weight_row, weight_rows}
use Rattle.elim_apply.specs.declared.share.Share.{Share}
use Rattle.elim_apply.specs.declared.small_shares.SmallShare.{SmallShare}
use Rattle.elim_apply.specs.Inner.Shares.{IsShareOf, no_power, with_power, with_powers}
use Rattle.elim_apply.proofs.LineShares.{degree_rows-plus}

-- the numbers of a share with these powers
record HasNumbers (rows : List Row) (m : Powers) (s after : SmallShare) : Type 0 where
  exponents-are : after.exponents ≡ s.exponents + replaced_exponents rows m
  denominators-are : after.denominators ≡ s.denominators + denominators rows m
  count-is : after.count ≡ count_rows rows m s.count
  weight-is : after.weight ≡ weight_rows rows m s.weight
  degree-is : after.degree ≡ s.degree + degree_rows rows m (degree_of (others rows m))

-- the same where the first power is taken apart from the others
record HasNumbersFrom (rows : List Row) (o : Option Row) (v : Var × ℕ) (m : Powers) (s after : SmallShare) : Type 0 where
  exponents-are : after.exponents ≡ s.exponents + (exponent_row o v.1 + replaced_exponents rows m)
  denominators-are : after.denominators ≡ s.denominators + (power_in o * v.1 + denominators rows m)
  count-is : after.count ≡ count_rows rows m (count_row o v.1 s.count)
  weight-is : after.weight ≡ weight_rows rows m (weight_row o v.1 s.weight)
  degree-is : after.degree ≡ s.degree + degree_rows rows m (degree_row o v.1 (degree_of (kept o v (others rows m))))

numbers_from : (rows : List Row) (o : Option Row) (v : Var × ℕ) (m : Powers) (s : SmallShare)
    → HasNumbers rows m (with_power o v.1 s) (with_powers rows m (with_power o v.1 s))
    → HasNumbersFrom rows o v m s (with_powers rows m (with_power o v.1 s))
numbers_from rows None v m s h =
    let stays : degree_of (v ∷ others rows m) ≡ degree_of (others rows m) + v.1 =
    sum_by-cons (λ (p : Var × ℕ). p.1) v (others rows m) ∙ omega arith in
    let degree : degree_rows rows m (degree_of (v ∷ others rows m)) ≡ degree_rows rows m (degree_of (others rows m)) + v.1 =
    ap (degree_rows rows m) stays ∙ degree_rows-plus rows m (degree_of (others rows m)) v.1 in
    record {
      exponents-are = omega (arith, h.exponents-are);
      denominators-are = omega (arith, h.denominators-are);
      count-is = h.count-is;
      weight-is = h.weight-is;
      degree-is = omega (arith, h.degree-is, degree);
    }
numbers_from rows (Some r) v m s h =
    let degree = degree_rows-plus rows m (degree_of (others rows m)) (r.num.degree * v.1) in
    record {
      exponents-are = omega (arith, h.exponents-are);
      denominators-are = omega (arith, h.denominators-are);
      count-is = h.count-is;
      weight-is = h.weight-is;
      degree-is = omega (arith, h.degree-is, degree);
    }

numbers_of : (rows : List Row) (m : Powers) (s : SmallShare) → HasNumbers rows m s (with_powers rows m s)
numbers_of rows [] s = record {
  exponents-are = omega arith;
  denominators-are = omega arith;
  count-is = refl;
  weight-is = refl;
  degree-is = omega arith;
}
numbers_of rows (v ∷ m) s =
    let h = numbers_from rows (row_of rows v.0) v m s (numbers_of rows m (with_power (row_of rows v.0) v.1 s)) in
    record {
      exponents-are = h.exponents-are;
      denominators-are = h.denominators-are;
      count-is = h.count-is;
      weight-is = h.weight-is;
      degree-is = h.degree-is;
    }

-- with all powers it is the share of the monomial
pub whole_share : (rows : List Row) (m : Powers) (share : SmallShare) (wide : Share) → share ≡ with_powers rows m no_power
    → wide.exponents ≡ share.exponents → wide.denominators ≡ share.denominators → wide.count ≡ share.count → wide.weight ≡ share.weight
    → wide.degree ≡ share.degree → share.count ≤ 2 ^ 64 - 1 → share.weight ≤ 2 ^ 64 - 1 → share.degree ≤ 2 ^ 64 - 1 → IsShareOf rows m 1 wide
whole_share rows m share wide is exponents denominators count weight degree count_fits weight_fits degree_fits =
    let h = numbers_of rows m no_power in
    record {
      exponents-are = exponents ∙ ap (λ (s : SmallShare). s.exponents) is ∙ h.exponents-are ∙ omega arith;
      denominators-are = denominators ∙ ap (λ (s : SmallShare). s.denominators) is ∙ h.denominators-are ∙ omega arith;
      count-is = omega (arith, count, ap (λ (s : SmallShare). s.count) is, h.count-is, count_fits);
      weight-is = omega (arith, weight, ap (λ (s : SmallShare). s.weight) is, h.weight-is, weight_fits);
      degree-is = omega (arith, degree, ap (λ (s : SmallShare). s.degree) is, h.degree-is, degree_fits);
    }
