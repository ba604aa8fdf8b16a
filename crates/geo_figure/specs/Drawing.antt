-- The drawing of placed points: 21 lines of 41 bytes, with the least coordinates at the left and at the bottom.
use Rattle.std.specs.Prelude.{◌≡◌, ℕ, zero, suc, ◌-◌, ◌/◌, Bool, true, false, ◌&&◌, eqb, pos, unsigned_abs, All, Result, Ok, Err, List, [], ◌∷◌, ◌++◌, map, slice_index}
use Rattle.std.specs.List.{filter, flat_map}
use Rattle.ring_laws.specs.Fraction.{Fraction, minus, quotient, whole}
use Rattle.geo_points.specs.Points.{is_null}
use Rattle.geo_base.specs.declared.texts.Text.{Text}
use Rattle.geo_figure.specs.declared.errors.DrawError.{DrawError}
use Rattle.geo_figure.specs.declared.errors.DrawError.TheVariants.{NoMemory, TooLarge}
use Rattle.geo_place.specs.declared.placed.At.{At}
use Rattle.geo_place.specs.declared.placed.Placed.{Placed}
use Rattle.geo_place.specs.Placing.{points_text}
use Rattle.geo_place.specs.Reckonings.{Overflows, Reckoning, known, number, ◌⊖◌, ◌⊗◌, ◌⊘◌}
use Rattle.geo_figure.specs.Bounds.{greatest, least}

-- SHARES
-- last (x - least) / (greatest - least): how far x lies from the least of the coordinates, where the greatest lies `last` steps from it
abbrev pub share : ℕ → List Fraction → Fraction → Reckoning
share last xs x = (known x ⊖ known (least xs)) ⊗ known (whole (pos last)) ⊘ (known (greatest xs) ⊖ known (least xs))

-- all coordinates are the same
abbrev pub are_level : List Fraction → Bool
are_level xs = is_null (minus (greatest xs) (least xs)).numerator

-- the step in which x lies: its share without the fractional part; 0 where all coordinates are the same
abbrev pub step_of : ℕ → List Fraction → Fraction → ℕ
step_of last xs x =
    elim (are_level xs) [ true ↦ 0 | false ↦ unsigned_abs (number (share last xs x)).numerator / (number (share last xs x)).denominator ]

-- THE PICTURE
-- the coordinates of a placed point
abbrev pub x_of : At → Fraction
x_of a = quotient (whole a.x) (whole a.w)

abbrev pub y_of : At → Fraction
y_of a = quotient (whole a.y) (whole a.w)

-- the point stands in this column and this line, both counted from 0, the line from the top
abbrev pub stands_in : List At → ℕ → ℕ → At → Bool
stands_in points column line a =
    eqb (step_of 40 (map x_of points) (x_of a)) column && eqb (20 - step_of 20 (map y_of points) (y_of a)) line

-- the byte where these points stand: `.` for none, the first byte of its name for one, `*` for several
abbrev pub mark : List At → ℕ
mark [] = 46
mark (a ∷ []) = slice_index a.name 0
mark (a ∷ b ∷ more) = 42

-- 0, 1 and so on, as many as n
abbrev pub first_numbers : ℕ → List ℕ
first_numbers zero = []
first_numbers (suc n) = first_numbers n ++ n ∷ []

-- the 41 bytes of a line, and its line feed
abbrev pub picture_line : List At → ℕ → List ℕ
picture_line points line = map (λ column. mark (filter (stands_in points column line) points)) (first_numbers 41) ++ 10 ∷ []

-- the picture, and then the points as text
abbrev pub drawing : Placed → List ℕ
drawing placed = flat_map (picture_line placed.points) (first_numbers 21) ++ points_text placed

-- NUMBERS THAT ARE TOO LARGE
-- what is reckoned of a point, and the line of its command
pub record DrawTurn : Type 0 where
  pub line : ℕ
  pub reckonings : List Reckoning

-- a coordinate beside those before it: its differences with the least and the greatest of them
abbrev pub differences : List Fraction → Fraction → List Reckoning
differences [] x = []
differences (y ∷ ys) x = (known x ⊖ known (least (y ∷ ys))) ∷ (known x ⊖ known (greatest (y ∷ ys))) ∷ []

-- a point beside those before it
abbrev pub bound_turn : List At → At → DrawTurn
bound_turn before a = record {
  line = a.line;
  reckonings = differences (map x_of before) (x_of a) ++ differences (map y_of before) (y_of a);
}

-- the bounds are found point by point
abbrev pub bound_turns : List At → List At → List DrawTurn
bound_turns before [] = []
bound_turns before (a ∷ more) = bound_turn before a ∷ bound_turns (before ++ a ∷ []) more

-- the share of a coordinate is reckoned where not all are the same
abbrev pub shares : ℕ → List Fraction → Fraction → List Reckoning
shares last xs x = elim (are_level xs) [ true ↦ [] | false ↦ share last xs x ∷ [] ]

-- then the column and the line of each point
abbrev pub share_turn : List At → At → DrawTurn
share_turn points a = record {
  line = a.line;
  reckonings = shares 40 (map x_of points) (x_of a) ++ shares 20 (map y_of points) (y_of a);
}

-- all turns of a drawing
abbrev pub draw_turns : List At → List DrawTurn
draw_turns points = bound_turns [] points ++ map (share_turn points) points

-- no number of the turn is too large
abbrev pub FitsNumbers : DrawTurn → Type 0
FitsNumbers t = All (λ e. Overflows e → ⊥) t.reckonings

-- this is the line of the first turn of which a number is too large
pub record IsTooLargeAt (points : List At) (line : ℕ) : Type 0 where
  pub before : List DrawTurn
  pub after : List DrawTurn
  pub turn : DrawTurn
  pub parts : draw_turns points ≡ before ++ turn ∷ after
  pub passed : All FitsNumbers before
  pub refused : FitsNumbers turn → ⊥
  pub same_line : turn.line ≡ line

-- ANSWERS
-- what is answered: the drawing, where no number is too large; or the line of the first that is
abbrev pub IsDrawn : Placed → Result Text DrawError → Type 0
IsDrawn placed (Ok text) = (text ≡ drawing placed) × ((line : ℕ) → IsTooLargeAt placed.points line → ⊥)
IsDrawn placed (Err (TooLarge line)) = IsTooLargeAt placed.points line
IsDrawn placed (Err NoMemory) = Unit {0}
