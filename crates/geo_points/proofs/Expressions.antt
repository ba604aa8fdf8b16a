-- Expressions over the quantities of a list of points and a list of numbers.
use Rattle.std.specs.Prelude.{ℕ, zero, suc, pos, List, [], ◌∷◌}
use Rattle.std.proofs.Common.{lit<}
use Rattle.ring_laws.specs.Solver.{Expression, variable, numeral, ◌⊞◌, ◌⊟◌, ◌⊠◌, opposite, Given, given}
use Rattle.ring_laws.specs.Fraction.{Fraction, Same, whole, plus, negated, minus, times}
pub use Rattle.geo_points.specs.Points.{x_coordinate, y_coordinate}
use Rattle.geo_points.specs.Points.{Point, signed_area, pythagoras_difference}
use Rattle.geo_points.proofs.Plane.{Spot, double_area_expression, pythagoras_expression, spot}

infixl 6 ◌+'◌
infixl 6 ◌-'◌
infixl 7 ◌*'◌
-- a coordinate, area, Pythagoras difference or number of the points and numbers of two lists, by their places there, and what sums, differences, products and opposites make of these
pub data Quantity : Type 0 where
  abscissa : ℕ → Quantity
  ordinate : ℕ → Quantity
  area : ℕ → ℕ → ℕ → Quantity
  pythagoras : ℕ → ℕ → ℕ → Quantity
  whole_number : ℕ → Quantity
  one_half : Quantity
  given_number : ℕ → Quantity
  ◌+'◌ : Quantity → Quantity → Quantity
  ◌-'◌ : Quantity → Quantity → Quantity
  ◌*'◌ : Quantity → Quantity → Quantity
  opposite' : Quantity → Quantity

-- the point (0, 0)
abbrev pub origin : Point
origin = record { x = pos 0; y = pos 0; w = 1; positive = lit< tt }

-- the point at a place of a list, or the origin past its end
abbrev pub point_at : List Point → ℕ → Point
point_at [] k = origin
point_at (A ∷ As) zero = A
point_at (A ∷ As) (suc k) = point_at As k

-- the number at a place of a list, or 0 past its end
abbrev pub number_at : List Fraction → ℕ → Fraction
number_at [] k = whole (pos 0)
number_at (r ∷ rs) zero = r
number_at (r ∷ rs) (suc k) = number_at rs k

-- one half
abbrev pub half : Fraction
half = record { numerator = pos 1; denominator = 2; positive = lit< tt }

-- the value of such an expression, for a list of points and a list of numbers
abbrev pub quantity_value : List Point → List Fraction → Quantity → Fraction
quantity_value As rs (abscissa i) = x_coordinate (point_at As i)
quantity_value As rs (ordinate i) = y_coordinate (point_at As i)
quantity_value As rs (area i j k) = signed_area (point_at As i) (point_at As j) (point_at As k)
quantity_value As rs (pythagoras i j k) = pythagoras_difference (point_at As i) (point_at As j) (point_at As k)
quantity_value As rs (whole_number k) = whole (pos k)
quantity_value As rs one_half = half
quantity_value As rs (given_number i) = number_at rs i
quantity_value As rs (e +' f) = plus (quantity_value As rs e) (quantity_value As rs f)
quantity_value As rs (e -' f) = minus (quantity_value As rs e) (quantity_value As rs f)
quantity_value As rs (e *' f) = times (quantity_value As rs e) (quantity_value As rs f)
quantity_value As rs (opposite' e) = negated (quantity_value As rs e)

-- ---- the same, over coordinates. The variable 0 is a half; 3 i + 1, 3 i + 2, 3 i + 3 are x and y of point i, and number i
-- 3 k, in a form that computes
abbrev pub thrice : ℕ → ℕ
thrice zero = zero
thrice (suc k) = suc (suc (suc (thrice k)))

-- the coordinates of point i
abbrev pub spread_spot : ℕ → Spot Expression
spread_spot i = spot (suc (thrice i)) (suc (suc (thrice i)))

-- the expression with areas and Pythagoras differences written out in coordinates
abbrev pub spread : Quantity → Expression
spread (abscissa i) = variable (suc (thrice i))
spread (ordinate i) = variable (suc (suc (thrice i)))
spread (area i j k) = variable 0 ⊠ double_area_expression (spread_spot i) (spread_spot j) (spread_spot k)
spread (pythagoras i j k) = pythagoras_expression (spread_spot i) (spread_spot j) (spread_spot k)
spread (whole_number k) = numeral k
spread one_half = variable 0
spread (given_number i) = variable (suc (suc (suc (thrice i))))
spread (e +' f) = spread e ⊞ spread f
spread (e -' f) = spread e ⊟ spread f
spread (e *' f) = spread e ⊠ spread f
spread (opposite' e) = opposite (spread e)

-- ---- equations between such expressions that are given
-- `fact c a b` is the equation a = b with its cofactor c
pub data Fact : Type 0 where
  fact : Quantity → Quantity → Quantity → Fact

-- the equations in coordinates
abbrev pub spread_facts : List Fact → List Given
spread_facts [] = []
spread_facts (fact c a b ∷ hs) = given (spread c) (spread a) (spread b) ∷ spread_facts hs

-- each of the equations holds
abbrev pub FactsHold : List Point → List Fraction → List Fact → Type 0
FactsHold As rs [] = Unit {0}
FactsHold As rs (fact c a b ∷ hs) = Same (quantity_value As rs a) (quantity_value As rs b) × FactsHold As rs hs
