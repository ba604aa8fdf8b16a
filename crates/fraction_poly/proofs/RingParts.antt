-- Parts of a ring: they stay where it grows, and those of drafts are bounded.
use Rattle.std.proofs.Common.{sym, ap, subst, ◌∙◌}
use Rattle.fraction_poly.specs.declared.drafts.Draft.{Draft}
use Rattle.fraction_poly.specs.declared.drafts.Number.{Number}
use Rattle.fraction_poly.specs.declared.parts.Part.{Part}
use Rattle.fraction_poly.specs.declared.step_numbers.StepNumber.{StepNumber}
use Rattle.fraction_poly.specs.Inner.Drafts.{IsBoundedNumber, IsPartFor, drafted_piece, piece_in}
use Rattle.fraction_poly.proofs.PieceBounds.{bounded_draft}
use Rattle.geo_poly.specs.declared.rows.Piece.{Piece}
use Rattle.geo_poly.specs.Polynomials.{Summands}
use Rattle.geo_poly.specs.Replace.{IsBounded}
use Rattle.geo_poly.specs.Rings.{Grows, RingValue}
use Rattle.geo_poly.proofs.Elements.{element_kept}

pub part_kept : (old new : RingValue) (piece : Piece) (part : Part) → Grows old new → IsPartFor old piece part → IsPartFor new piece part
part_kept old new piece part grows h =
    let was = ap (λ (f : Piece). f.poly) h.piece_is in
    let kept = element_kept old new piece.poly part.element grows (record { element_of = h.element_of; polynomial = was }) in
    record {
      element_of = kept.element_of;
      piece_is = ap (λ (q : Summands). record { poly = q; weight = part.weight; count = part.count; degree = part.degree }) (kept.polynomial ∙ sym was) ∙ h.piece_is;
    }

pub bounded_part : (n : Number → StepNumber) → ((k : Number) → IsBoundedNumber (n k)) → (d : Draft) (r : RingValue) (part : Part) → IsPartFor r (drafted_piece n d) part → IsBounded (piece_in r part)
bounded_part n bounded d r part h = subst IsBounded (sym h.piece_is) (bounded_draft n bounded d)
