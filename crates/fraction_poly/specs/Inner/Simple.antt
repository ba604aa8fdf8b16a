-- Drafts that are a sign times a variable, or a number that is a sign.
use Rattle.std.specs.Prelude.{◌≡◌}
use Rattle.geo_poly.specs.declared.canonical.Canon.{Canon}
use Rattle.geo_poly.specs.declared.rows.Piece.{Piece}
use Rattle.geo_poly.specs.Polynomials.{Summands}
use Rattle.fraction_poly.specs.declared.simple_drafts.Simple.{Simple}
use Rattle.fraction_poly.specs.Inner.Drafts.{HasSign}
use Rattle.fraction_poly.specs.MultipliedOut.{canon_polynomial}

-- the piece that it is
abbrev pub simple_piece : Simple → Piece
simple_piece s = record { poly = canon_polynomial s.canon; weight = s.weight; count = s.count; degree = s.degree }

-- it is this piece
pub record IsSimpleFor (piece : Piece) (s : Simple) : Type 0 where
  pub sign : HasSign s.canon
  pub piece_is : simple_piece s ≡ piece

-- the sorted form is this polynomial
pub record IsCanonFor (p : Summands) (c : Canon) : Type 0 where
  pub sign : HasSign c
  pub polynomial : canon_polynomial c ≡ p
