use Rattle.std.proofs.Common.{◌≡◌, ◌⊎◌, ℕ, refl, ◌∙◌, ap, subst, map}
use Rattle.std.specs.Prelude.{IfErr, IsErr, slice_index_or}
use Rattle.geo_figure.specs.declared.errors.DrawError.TheVariants.{TooLarge}
use Rattle.geo_place.specs.declared.placed.At.{At}
use Rattle.geo_figure.specs.Drawing.{x_of, y_of}
use Rattle.geo_figure.proofs.FrameTurns.{cell_found, first_byte}
use Rattle.geo_figure.proofs.cells.cell_of.Goals as goal

pub returns : goal.returns
returns c = λ points h.
    let at = c.args.at.now in
    let letter = c.index.result.now in
    let first = first_byte at.name letter c.requires.named (c.index.ensures ∙ ap (λ (a : At). slice_index_or a.name 0 letter) c.at.view_is) in
    cell_found points at c.step_of-column.result c.step_of-height.result (c.step_of-column.ensures 40 (map x_of points) (x_of at) refl h.x c.x_of.ensures)
    (c.step_of-height.ensures 20 (map y_of points) (y_of at) refl h.y c.y_of.ensures) letter first c.cell_from.result c.cell_from.ensures.cell
    (subst (λ (line : ℕ). IfErr c.cell_from.result
    (λ e. (e ≡ TooLarge line) × (IsErr c.step_of-column.result ⊎ IsErr c.step_of-height.result)))
    (ap (λ (a : At). a.line) c.at.view_is) c.cell_from.ensures.refused)
