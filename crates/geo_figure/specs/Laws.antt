-- The laws that stand on the functions of `laws`.
use Rattle.std.specs.Prelude.{◌≡◌, Result, Err}
use Rattle.geo_base.specs.declared.texts.Text.{Text}
use Rattle.geo_place.specs.declared.placed.Placed.{Placed}
use Rattle.geo_figure.specs.declared.errors.DrawError.{DrawError}
use Rattle.geo_figure.specs.declared.errors.DrawError.TheVariants.{NoMemory}
use Rattle.geo_figure.specs.Drawing.{IsDrawn}

-- placed points have one drawing, or one line at which a number is too large
abbrev pub PointsHaveOneDrawing : Type 0
PointsHaveOneDrawing =
    (placed : Placed) (one other : Result Text DrawError) → IsDrawn placed one → IsDrawn placed other
    → (one ≡ Err NoMemory → ⊥) → (other ≡ Err NoMemory → ⊥) → one ≡ other

-- and they have one of the two
abbrev pub PointsHaveADrawing : Type 0
PointsHaveADrawing = (placed : Placed) → (answer : Result Text DrawError) × IsDrawn placed answer × (answer ≡ Err NoMemory → ⊥)
