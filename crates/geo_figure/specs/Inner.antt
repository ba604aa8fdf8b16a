-- What the functions of the crate say to one another: bounds in lowest terms, the cells of the picture, and where a drawing stops.
use Rattle.std.specs.Prelude.{◌≡◌, ◌≢◌, ℕ, ◌-◌, Bool, ◌&&◌, eqb, All, Option, Some, None, Result, Ok, Err, List, [], ◌∷◌, ◌++◌, map, slice_index}
use Rattle.std.specs.List.{AllByRecursion, filter}
use Rattle.ring_laws.specs.Fraction.{Fraction}
use Rattle.frac_laws.specs.declared.frac.Frac.{Frac}
use Rattle.frac_laws.specs.declared.frac.FracTooLarge.{FracTooLarge}
use Rattle.frac_laws.specs.Numbers.{IsNumber}
use Rattle.geo_figure.specs.declared.bounds.CoordinateBounds.{CoordinateBounds}
use Rattle.geo_figure.specs.declared.bounds.PictureFrame.{PictureFrame}
use Rattle.geo_figure.specs.declared.cells.Cell.{Cell}
use Rattle.geo_figure.specs.declared.errors.DrawError.{DrawError}
use Rattle.geo_figure.specs.declared.errors.DrawError.TheVariants.{NoMemory, TooLarge}
use Rattle.geo_figure.specs.Bounds.{greater, greatest, least, lesser}
use Rattle.geo_figure.specs.Drawing.{DrawTurn, FitsNumbers, bound_turn, differences, first_numbers, share_turn, shares, step_of, x_of, y_of}
use Rattle.geo_place.specs.Reckonings.{Overflows, Reckoning, known, ◌⊖◌}
use Rattle.geo_place.specs.declared.placed.At.{At}

-- one of these turns is the first that does not pass, and it belongs to the line
pub record Stop (turns : List DrawTurn) (line : ℕ) : Type 0 where
  pub before : List DrawTurn
  pub turn : DrawTurn
  pub after : List DrawTurn
  pub parts : turns ≡ before ++ turn ∷ after
  pub passed : AllByRecursion FitsNumbers before
  pub refused : FitsNumbers turn → ⊥
  pub same_line : turn.line ≡ line

-- the drawing stops so at one of these turns, unless memory is wanting
abbrev pub Stops : List DrawTurn → DrawError → Type 0
Stops turns (TooLarge line) = Stop turns line
Stops turns NoMemory = Unit {0}

-- these are the least and the greatest of the numbers
pub record AreBounds (b : CoordinateBounds) (xs : List Fraction) : Type 0 where
  pub least : IsNumber b.least (least xs)
  pub greatest : IsNumber b.greatest (greatest xs)

-- these are the bounds of the points' coordinates
pub record IsFrame (f : PictureFrame) (points : List At) : Type 0 where
  pub x : AreBounds f.x (map x_of points)
  pub y : AreBounds f.y (map y_of points)

-- what comes of the lesser of two numbers, of which the difference is reckoned
abbrev pub IsLesser : Fraction → Fraction → Result Frac FracTooLarge → Type 0
IsLesser a b (Ok r) = IsNumber r (lesser a b) × (Overflows (known b ⊖ known a) → ⊥)
IsLesser a b (Err refusal) = Overflows (known b ⊖ known a)

-- and of the greater
abbrev pub IsGreater : Fraction → Fraction → Result Frac FracTooLarge → Type 0
IsGreater a b (Ok r) = IsNumber r (greater a b) × (Overflows (known b ⊖ known a) → ⊥)
IsGreater a b (Err refusal) = Overflows (known b ⊖ known a)

-- no reckoning is refused
abbrev pub AreKept : List Reckoning → Type 0
AreKept es = All (λ e. Overflows e → ⊥) es

-- what comes of the bounds of some numbers and one more
abbrev pub AreWider : List Fraction → Fraction → Result CoordinateBounds FracTooLarge → Type 0
AreWider xs a (Ok b) = AreBounds b (xs ++ a ∷ []) × AreKept (differences xs a)
AreWider xs a (Err refusal) = AreKept (differences xs a) → ⊥

-- what comes of the frame of some points and one more
abbrev pub IsWiderFrame : List At → At → Result PictureFrame DrawError → Type 0
IsWiderFrame points a (Ok f) = IsFrame f (points ++ a ∷ []) × FitsNumbers (bound_turn points a)
IsWiderFrame points a (Err e) = Stops (bound_turn points a ∷ []) e

-- the frame of points, if there are any
abbrev pub IsFrameOf : Option PictureFrame → List At → Type 0
IsFrameOf None points = points ≡ []
IsFrameOf (Some f) points = (points ≢ []) × IsFrame f points

-- where the point stands among these points
abbrev pub cell_at : List At → At → Cell
cell_at points a = record {
  column = step_of 40 (map x_of points) (x_of a);
  line = 20 - step_of 20 (map y_of points) (y_of a);
  letter = slice_index a.name 0;
}

-- what comes of the step of a number
abbrev pub IsStep : ℕ → List Fraction → Fraction → Result ℕ FracTooLarge → Type 0
IsStep last xs a (Ok k) = (k ≡ step_of last xs a) × AreKept (shares last xs a)
IsStep last xs a (Err refusal) = AreKept (shares last xs a) → ⊥

-- what comes of the cell of a point
abbrev pub IsCellOf : List At → At → Result Cell DrawError → Type 0
IsCellOf points a (Ok c) = (c ≡ cell_at points a) × FitsNumbers (share_turn points a)
IsCellOf points a (Err e) = Stops (share_turn points a ∷ []) e

-- the cell is this one
abbrev pub is_cell : ℕ → ℕ → Cell → Bool
is_cell column line c = eqb c.column column && eqb c.line line

-- the byte of a cell in which these points stand
abbrev pub cell_mark : List Cell → ℕ
cell_mark [] = 46
cell_mark (c ∷ []) = c.letter
cell_mark (c ∷ d ∷ more) = 42

-- what is known of the byte of a place where these points stand: nothing, where there are none
abbrev pub IsMark : Option ℕ → List Cell → Type 0
IsMark None cells = cells ≡ []
IsMark (Some byte) cells = (cells ≢ []) × (byte ≡ cell_mark cells)

-- a line of the picture of these cells
abbrev pub cell_line : List Cell → ℕ → List ℕ
cell_line cells line = map (λ column. cell_mark (filter (is_cell column line) cells)) (first_numbers 41) ++ 10 ∷ []
