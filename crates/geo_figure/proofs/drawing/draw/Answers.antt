use Rattle.std.proofs.Common.{◌≡◌, ℕ, List, ◌++◌, map, ◌∙◌, ap, subst}
use Rattle.std.specs.List.{AllByRecursion, flat_map}
use Rattle.geo_place.specs.Placing.{points_text}
use Rattle.geo_place.specs.declared.placed.At.{At}
use Rattle.geo_place.specs.declared.placed.Placed.{Placed}
use Rattle.geo_figure.specs.declared.cells.Cell.{Cell}
use Rattle.geo_figure.specs.Drawing.{FitsNumbers, draw_turns, first_numbers}
use Rattle.geo_figure.specs.Inner.{cell_at, cell_line}
use Rattle.geo_figure.proofs.PictureLaws.{all_drawn}
use Rattle.geo_figure.proofs.drawing.draw.Goals as goal

pub returns : goal.returns
returns c =
    let placed = c.args.placed.now in
    let cells = c.in_ok-cells.cells.items in
    let points : c.deref.result.now ≡ placed.points = c.deref.ensures.value ∙ ap (λ (p : Placed). p.points) c.placed.view_is in
    let same = subst (λ (ps : List At). cells ≡ map (cell_at ps) ps) points c.in_ok-cells.ensures.cells in
    let passed = subst (λ (ps : List At). AllByRecursion FitsNumbers (draw_turns ps)) points c.in_ok-cells.ensures.passed in
    let lines = flat_map (cell_line cells) (first_numbers 21) in
    let picture : c.push_picture.new.out.items ≡ lines =
    c.in_ok-push_picture.ensures ∙ ap (λ (bytes : List ℕ). bytes ++ flat_map (cell_line c.deref-2.result.now) (first_numbers 21)) c.new-bytes.ensures.items
    ∙ ap (λ (cs : List Cell). flat_map (cell_line cs) (first_numbers 21)) c.deref-2.ensures.value in
    let text : c.extend_from_slice.new.self.items ≡ lines ++ points_text placed =
    c.in_ok-extend_from_slice.ensures.items ∙ ap (λ (bytes : List ℕ). bytes ++ c.deref-3.result.now) picture
    ∙ ap (λ (bytes : List ℕ). lines ++ bytes) (c.deref-3.ensures.value ∙ c.text.view_is ∙ c.in_ok-text.ensures) in
    all_drawn placed cells same passed c.extend_from_slice.new.self.items text
