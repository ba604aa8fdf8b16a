-- What becomes of the monomials of a line, before anything is multiplied out.
use Rattle.std.specs.Prelude.{◌≡◌, ℕ, ◌+◌, ◌-◌, ◌*◌, ◌^◌, min, List, [], ◌∷◌, Option, None, Some, length, slice_get}
use Rattle.fraction_poly.specs.Measures.{capped_number}
use Rattle.geo_poly.specs.declared.rows.Row.{Row}
use Rattle.geo_poly.specs.declared.shared.Shared.{Shared}
use Rattle.geo_poly.specs.Counted.{count_rows, replaced_exponents}
use Rattle.geo_poly.specs.Monomials.{Powers, degree_of}
use Rattle.geo_poly.specs.Replace.{degree_rows, denominators, others, row_of, weight_rows}
use Rattle.geo_poly.specs.Polynomials.{term_at}
use Rattle.geo_poly.specs.Shared.{told}
use Rattle.elim_apply.specs.declared.share.Share.{Share}
use Rattle.elim_apply.specs.declared.small_shares.SmallShare.{SmallShare}

-- what becomes of the monomial, but for the denominators that it lacks, where its coefficient has the absolute value k
pub record IsShareOf (rows : List Row) (m : Powers) (k : ℕ) (share : Share) : Type 0 where
  pub exponents-are : share.exponents ≡ replaced_exponents rows m
  pub denominators-are : share.denominators ≡ denominators rows m
  pub count-is : share.count ≡ capped_number (count_rows rows m 1)
  pub weight-is : share.weight ≡ capped_number (weight_rows rows m k)
  pub degree-is : share.degree ≡ capped_number (degree_rows rows m (degree_of (others rows m)))

-- the share with one more power, whose variable stays
pub record IsKeeping (e : ℕ) (share after : Share) : Type 0 where
  pub exponents : after.exponents ≡ share.exponents
  pub denominators-are : after.denominators ≡ share.denominators
  pub count : after.count ≡ share.count
  pub weight : after.weight ≡ share.weight
  pub degree : after.degree ≡ min (share.degree + e) (2 ^ 128 - 1)

-- the share with one more power, whose variable is replaced by the row
pub record IsReplacing (r : Row) (e : ℕ) (share after : Share) : Type 0 where
  pub exponents : after.exponents ≡ min (share.exponents + e) (2 ^ 32 - 1)
  pub denominators-are : after.denominators ≡ min (share.denominators + min (r.power * e) (2 ^ 32 - 1)) (2 ^ 32 - 1)
  pub count : after.count ≡ min (share.count * min (r.num.count ^ e) (2 ^ 128 - 1)) (2 ^ 128 - 1)
  pub weight : after.weight ≡ min (share.weight * min (r.num.weight ^ e) (2 ^ 128 - 1)) (2 ^ 128 - 1)
  pub degree : after.degree ≡ min (share.degree + min (r.num.degree * e) (2 ^ 128 - 1)) (2 ^ 128 - 1)

-- the share with one more power, whose variable has this row, where it has one
abbrev pub IsWithPower : Option Row → ℕ → Share → Share → Type 0
IsWithPower None e share after = IsKeeping e share after
IsWithPower (Some r) e share after = IsReplacing r e share after

-- these are the shares of the first monomials, term by term
abbrev pub HaveShares : List Row → Shared → List Share → Type 0
HaveShares rows p shares =
    (i : ℕ) (share : Share) → slice_get shares i ≡ Some share → IsShareOf rows (term_at (told p) i).0 1 share

-- these are the shares of all monomials
pub record AreShares (rows : List Row) (p : Shared) (shares : List Share) : Type 0 where
  pub whole : length shares ≡ length p.list.now
  pub each : HaveShares rows p shares

-- IN SMALL NUMBERS
-- the share of the monomial with no variable
abbrev pub no_power : SmallShare
no_power = record { exponents = 0; denominators = 0; count = 1; weight = 1; degree = 0 }

-- the share with one more power, whose variable has this row, where it has one
abbrev pub with_power : Option Row → ℕ → SmallShare → SmallShare
with_power None e s = record {
  exponents = s.exponents;
  denominators = s.denominators;
  count = s.count;
  weight = s.weight;
  degree = s.degree + e;
}
with_power (Some r) e s = record {
  exponents = s.exponents + e;
  denominators = s.denominators + r.power * e;
  count = s.count * r.num.count ^ e;
  weight = s.weight * r.num.weight ^ e;
  degree = s.degree + r.num.degree * e;
}

-- the share with these powers
abbrev pub with_powers : List Row → Powers → SmallShare → SmallShare
with_powers rows [] s = s
with_powers rows (p ∷ m) s = with_powers rows m (with_power (row_of rows p.0) p.1 s)
