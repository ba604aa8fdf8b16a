-- The size of a line in bounded numbers.
use Rattle.std.specs.Prelude.{◌≡◌, ℕ, ◌^◌, ◌<◌, ◌≤◌}
use Rattle.fraction_poly.specs.Measures.{capped_number}
use Rattle.elim_apply.specs.declared.limits.LineSize.{LineSize}

-- the line has this charge, this weight and this degree; what passes the greatest number is told as that
pub record IsSizeOf (size : LineSize) (charge weight degree : ℕ) : Type 0 where
  pub charge-is : size.charge ≡ capped_number charge
  pub weight-is : size.weight ≡ capped_number weight
  pub degree-is : size.degree ≡ capped_number degree

-- the line is paid, and its weight and its degree are within their limits
pub record IsLineWithin (left charge weight degree : ℕ) : Type 0 where
  pub paid : charge ≤ left
  pub weight_fits : weight < 2 ^ 127
  pub degree_fits : degree ≤ 65535
