-- The picture of cells, and the drawing.
use Rattle.std.proofs.Common.{◌≡◌, ℕ, ◌+◌, ◌<◌, Bool, true, false, List, [], ◌∷◌, ◌++◌, length, get_or, map, refl, ◌∙◌, ap, subst}
use Rattle.std.specs.Prelude.{Ok, take, if◌then◌else◌}
use Rattle.std.specs.List.{AllByRecursion, filter, flat_map}
use Rattle.geo_base.specs.declared.texts.Text.{Text}
use Rattle.geo_place.proofs.ListParts.{each_back}
use Rattle.geo_place.specs.Placing.{points_text}
use Rattle.geo_place.specs.declared.placed.At.{At}
use Rattle.geo_place.specs.declared.placed.Placed.{Placed}
use Rattle.geo_figure.specs.declared.cells.Cell.{Cell}
use Rattle.geo_figure.specs.Drawing.{IsDrawn, FitsNumbers, draw_turns, first_numbers, mark, picture_line, stands_in}
use Rattle.geo_figure.specs.Inner.{cell_at, cell_line, cell_mark, is_cell}

-- MARKS

module _ (column line : ℕ) (cells : List Cell) (k : ℕ) (c : Cell) (l : k < length cells) (e : c ≡ get_or cells k c) where
  abbrev before : List Cell
  before = filter (is_cell column line) (take k cells)

-- CELLS OF POINTS
filter_cells : (column line : ℕ) (all ps : List At) → filter (is_cell column line) (map (cell_at all) ps) ≡ map (cell_at all) (filter (stands_in all column line) ps)
filter_cells column line all [] = refl
filter_cells column line all (p ∷ ps) = go (stands_in all column line p) (filter_cells column line all ps)
  where
    go : (b : Bool) → filter (is_cell column line) (map (cell_at all) ps) ≡ map (cell_at all) (filter (stands_in all column line) ps)
        → (if b then cell_at all p ∷ filter (is_cell column line) (map (cell_at all) ps) else filter (is_cell column line) (map (cell_at all) ps))
        ≡ map (cell_at all) (if b then p ∷ filter (stands_in all column line) ps else filter (stands_in all column line) ps)
    go true e = ap (λ (cs : List Cell). cell_at all p ∷ cs) e
    go false e = e

mark_cells : (all ps : List At) → cell_mark (map (cell_at all) ps) ≡ mark ps
mark_cells all [] = refl
mark_cells all (p ∷ []) = refl
mark_cells all (p ∷ q ∷ more) = refl

map_same : {A B : Type 0} (f g : A → B) (xs : List A) → ((x : A) → f x ≡ g x) → map f xs ≡ map g xs
map_same f g [] h = refl
map_same f g (x ∷ xs) h = λ i. h x i ∷ map_same f g xs h i

flat_map_same : {A B : Type 0} (f g : A → List B) (xs : List A) → ((x : A) → f x ≡ g x) → flat_map f xs ≡ flat_map g xs
flat_map_same f g [] h = refl
flat_map_same f g (x ∷ xs) h = λ i. h x i ++ flat_map_same f g xs h i

line_same : (points : List At) (line : ℕ) → cell_line (map (cell_at points) points) line ≡ picture_line points line
line_same points line =
    ap (λ (bytes : List ℕ). bytes ++ 10 ∷ [])
    (map_same (λ column. cell_mark (filter (is_cell column line) (map (cell_at points) points))) (λ column. mark (filter (stands_in points column line) points)) (first_numbers 41)
    (λ column. ap cell_mark (filter_cells column line points points) ∙ mark_cells points (filter (stands_in points column line) points)))

-- THE DRAWING
module _ (placed : Placed) where
  pub all_drawn : (cells : List Cell) → cells ≡ map (cell_at placed.points) placed.points → AllByRecursion FitsNumbers (draw_turns placed.points) → (text : Text)
      → text ≡ flat_map (cell_line cells) (first_numbers 21) ++ points_text placed → IsDrawn placed (Ok text)
  all_drawn cells same passed text e = (
    e ∙ ap (λ (bytes : List ℕ). bytes ++ points_text placed)
        (ap (λ (cs : List Cell). flat_map (cell_line cs) (first_numbers 21)) same
        ∙ flat_map_same (cell_line (map (cell_at placed.points) placed.points)) (picture_line placed.points) (first_numbers 21) (line_same placed.points)),
    λ line t. t.refused (each_back FitsNumbers t.before (t.turn ∷ t.after) (subst (λ ts. AllByRecursion FitsNumbers ts) t.parts passed)).0,
  )
