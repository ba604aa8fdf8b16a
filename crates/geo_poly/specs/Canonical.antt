-- Quantities as a sign times a variable whose points are sorted.
use Rattle.std.specs.Prelude.{ℕ, ◌+◌, ◌-◌, ◌==◌, ◌||◌, ◌&&◌, min, max, Bool, cond, ℤ, pos, negsuc, ◌*ℤ◌, Some, None, unsigned_abs, if◌then◌else◌}
use Rattle.std.specs.Ordering.{nat_cmp}
use Rattle.std.specs.declared.cmp.Ordering.{Ordering}
use Rattle.std.specs.declared.cmp.Ordering.TheVariants.{Less, Equal, Greater}
use Rattle.geo_points.specs.declared.ids.PointId.{PointId}
use Rattle.ring_laws.specs.Fraction.{Fraction, Same, whole, times}
use Rattle.geo_points.specs.Points.{Point, signed_area, pythagoras_difference, ratio, HasRatio}
use Rattle.geo_poly.specs.declared.canonical.Canon.{Canon}
use Rattle.geo_poly.specs.declared.variables.Var.{Var}
use Rattle.geo_poly.specs.declared.variables.Var.TheVariants.{R, S, P}
use Rattle.geo_poly.specs.Values.{variable_value}

-- 1 where the order is right, -1 where it is wrong, 0 where both are the same
abbrev pub ordering_sign : Ordering → ℤ
ordering_sign Less = pos 1
ordering_sign Equal = pos 0
ordering_sign Greater = negsuc 0

-- that sign for two points, by their numbers
abbrev pub pair_sign : PointId → PointId → ℤ
pair_sign a b = ordering_sign (nat_cmp a.0 b.0)

-- the sign of the permutation that sorts three points: -1 for each pair in wrong order; 0 where two of them are the same
abbrev pub permutation_sign : PointId → PointId → PointId → ℤ
permutation_sign a b c = pair_sign a b *ℤ pair_sign b c *ℤ pair_sign a c

-- the least of three numbers
abbrev pub least_of_three : ℕ → ℕ → ℕ → ℕ
least_of_three a b c = min a (min b c)

-- the greatest of three numbers
abbrev pub greatest_of_three : ℕ → ℕ → ℕ → ℕ
greatest_of_three a b c = max a (max b c)

-- the number that is left of three without the least and the greatest
abbrev pub middle_of_three : ℕ → ℕ → ℕ → ℕ
middle_of_three a b c = a + b + c - least_of_three a b c - greatest_of_three a b c

-- the variable of the sorted points
abbrev pub sorted_area : PointId → PointId → PointId → Var
sorted_area a b c =
    S (record { 0 = least_of_three a.0 b.0 c.0 })
    (record { 0 = middle_of_three a.0 b.0 c.0 })
    (record { 0 = greatest_of_three a.0 b.0 c.0 })

-- a sign times a variable, which is the number 0 where the sign is 0
abbrev pub signed_variable : ℤ → Var → Canon
signed_variable sign v = cond (unsigned_abs sign == 0) (record { sign = pos 0; var = None }) (record { sign = sign; var = Some v })

-- the signed area of ABC: 0 where two points are the same, else the variable of the sorted points with the sign of the permutation
abbrev pub canonical_area : PointId → PointId → PointId → Canon
canonical_area a b c = signed_variable (permutation_sign a b c) (sorted_area a b c)

-- both are the same point
abbrev pub is_point : PointId → PointId → Bool
is_point a b = a.0 == b.0

-- the one of two points that has the lower number
abbrev pub lower : PointId → PointId → PointId
lower a b = record { 0 = min a.0 b.0 }

-- the one that has the higher number
abbrev pub higher : PointId → PointId → PointId
higher a b = record { 0 = max a.0 b.0 }

-- the variable of P_ABC: of P_ABA the lower point stands at the ends, and else the ends are sorted and the middle stays
abbrev pub sorted_difference : PointId → PointId → PointId → Var
sorted_difference a b c = if is_point a c then P (lower a b) (higher a b) (lower a b) else P (lower a c) b (higher a c)

-- the Pythagoras difference of ABC: 0 where the middle is an end, else the variable
abbrev pub canonical_difference : PointId → PointId → PointId → Canon
canonical_difference a b c =
    if is_point a b || is_point b c then record { sign = pos 0; var = None }
    else record { sign = pos 1; var = Some (sorted_difference a b c) }

-- both pairs have the same points
abbrev pub is_same_pair : PointId → PointId → PointId → PointId → Bool
is_same_pair a b c d = is_point (lower a b) (lower c d) && is_point (higher a b) (higher c d)

-- the ratio AB / CD: 0 where a pair has one point twice, else -1 for each pair that stands in the wrong order, times the variable of the
-- sorted pairs; this is 1 where they are the same
abbrev pub canonical_ratio : PointId → PointId → PointId → PointId → Canon
canonical_ratio a b c d =
    let sign = pair_sign a b *ℤ pair_sign c d in
    if is_same_pair a b c d then record { sign = sign; var = None }
    else signed_variable sign (R (lower a b) (higher a b) (lower c d) (higher c d))

-- the sign times the value of the variable; the sign alone where there is none
abbrev pub canon_value : (ℕ → Point) → (ℕ → Fraction) → Canon → Fraction
canon_value at number r = elim r.var [ None ↦ whole r.sign | Some v ↦ times (whole r.sign) (variable_value at number v) ]

-- LAWS
-- wherever the points are placed, the canonical form has the value of the signed area
abbrev pub CanonicalAreaKeepsValue : Type 0
CanonicalAreaKeepsValue =
    (at : ℕ → Point) (number : ℕ → Fraction) (a b c : PointId)
    → Same (signed_area (at a.0) (at b.0) (at c.0)) (canon_value at number (canonical_area a b c))

-- and so has that of the Pythagoras difference
abbrev pub CanonicalDifferenceKeepsValue : Type 0
CanonicalDifferenceKeepsValue =
    (at : ℕ → Point) (number : ℕ → Fraction) (a b c : PointId)
    → Same (pythagoras_difference (at a.0) (at b.0) (at c.0)) (canon_value at number (canonical_difference a b c))

-- and that of the ratio, wherever the ratio is defined; its variable is defined there too
abbrev pub CanonicalRatioKeepsValue : Type 0
CanonicalRatioKeepsValue =
    (at : ℕ → Point) (number : ℕ → Fraction) (a b c d : PointId)
    → HasRatio (at a.0) (at b.0) (at c.0) (at d.0)
    → Same (ratio (at a.0) (at b.0) (at c.0) (at d.0)) (canon_value at number (canonical_ratio a b c d))
    × HasRatio (at (lower a b).0) (at (higher a b).0) (at (lower c d).0) (at (higher c d).0)
