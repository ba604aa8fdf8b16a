-- Forms as the code writes them, over the numbers of a step.
use Rattle.std.specs.Prelude.{◌≡◌, ◌≢◌, ◌+◌, ◌<◌, ◌≤◌, ℕ, pos, Option, Some, None, IfSome, length, unsigned_abs}
use Rattle.fraction_poly.specs.declared.drafts.Bounds.{Bounds}
use Rattle.fraction_poly.specs.declared.drafts.Draft.{Draft}
use Rattle.fraction_poly.specs.declared.drafts.Draft.TheVariants.{Integer, Area, Pythagoras, Ratio, Abscissa, Ordinate, Numerator, Denominator, Combined', Opposite'}
use Rattle.fraction_poly.specs.declared.drafts.Number.{Number}
use Rattle.fraction_poly.specs.declared.drafts.Number.TheVariants.{First, Second}
use Rattle.fraction_poly.specs.declared.operations.Operation.{Operation}
use Rattle.fraction_poly.specs.declared.operations.Operation.TheVariants.{Sum, Difference, Product}
use Rattle.fraction_poly.specs.declared.drafts.RowDraft.{RowDraft}
use Rattle.fraction_poly.specs.declared.drafts.StepTerms.{StepTerms}
use Rattle.fraction_poly.specs.declared.linear.Linear.{Linear}
use Rattle.fraction_poly.specs.declared.linear.Linear.TheVariants.{Area as LinearArea, Pythagoras as LinearPythagoras}
use Rattle.fraction_poly.specs.declared.parts.Part.{Part}
use Rattle.fraction_poly.specs.declared.step_numbers.StepNumber.{StepNumber}
use Rattle.fraction_poly.specs.Forms.{Form, integer, area, pythagoras, ratio, abscissa, ordinate, numerator, denominator, ◌⊞◌, ◌⊟◌, ◌⊠◌}
use Rattle.fraction_poly.specs.Forms.{opposite, PieceFits, integer_piece, variable_piece, piece_sum, piece_difference, piece_product}
use Rattle.fraction_poly.specs.Forms.{piece_opposite}
use Rattle.fraction_poly.specs.Measures.{HasRoom, capped_number, numbers_of}
use Rattle.fraction_poly.specs.MultipliedOut.{canon_polynomial, variable_polynomial}
use Rattle.fraction_poly.specs.TableRows.{RowFits, TableRow}
use Rattle.geo_points.specs.declared.ids.PointId.{PointId}
use Rattle.geo_points.specs.declared.ids.TermId.{TermId}
use Rattle.geo_poly.specs.declared.canonical.Canon.{Canon}
use Rattle.geo_poly.specs.declared.rows.Piece.{Piece}
use Rattle.geo_poly.specs.declared.variables.Var.{Var}
use Rattle.geo_poly.specs.declared.variables.Var.TheVariants.{X, Y}
use Rattle.geo_poly.specs.Canonical.{canonical_area, canonical_difference, canonical_ratio}
use Rattle.geo_poly.specs.PolynomialVariables.{AllVariables}
use Rattle.geo_poly.specs.Replace.{IsBounded}
use Rattle.geo_poly.specs.Rings.{IsElement, RingValue, polynomial_in}
use Rattle.geo_terms.specs.declared.steps.Step.{Step}
use Rattle.geo_terms.specs.declared.steps.Step.TheVariants.{Pratio, Tratio, Weights}
use Rattle.geo_terms.specs.Stores.{Store, tree_of}
use Rattle.geo_terms.specs.Trees.{Tree, integer_leaf}

-- what is made of two forms
abbrev pub combined_form : Operation → Form → Form → Form
combined_form Sum f g = f ⊞ g
combined_form Difference f g = f ⊟ g
combined_form Product f g = f ⊠ g

-- one thing for the first number of a step, another for the second
abbrev pub by_number : {A : Type 0} → A → A → Number → A
by_number a b First = a
by_number a b Second = b

-- the form that a draft is, where the step's numbers are e
abbrev pub form_of : (Number → Tree) → Draft → Form
form_of e (Integer n) = integer n
form_of e (Area a b c) = area a b c
form_of e (Pythagoras a b c) = pythagoras a b c
form_of e (Ratio a b c d) = ratio a b c d
form_of e (Abscissa a) = abscissa a
form_of e (Ordinate a) = ordinate a
form_of e (Numerator k) = numerator (e k)
form_of e (Denominator k) = denominator (e k)
form_of e (Combined' p o f g) = combined_form o (form_of e f) (form_of e g)
form_of e (Opposite' p f) = opposite (form_of e f)

-- the number at an index, and 1 where there is none
abbrev pub number_tree : Store → Option TermId → Tree
number_tree nodes None = integer_leaf (pos 1)
number_tree nodes (Some r) = tree_of nodes r

-- the numbers that a row uses
abbrev pub number_trees : Store → StepTerms → Number → Tree
number_trees nodes terms = by_number (number_tree nodes terms.first) (number_tree nodes terms.second)

-- the row that a draft is
abbrev pub row_of_draft : Store → RowDraft → TableRow
row_of_draft nodes r =
    let e = number_trees nodes r.terms in
    record {
      power = r.power;
      num = form_of e r.num;
      den = form_of e r.den;
      charge = (numbers_of (e First)).charge + (numbers_of (e Second)).charge;
    }

-- the terms stand among so many
pub record AreStored (len : ℕ) (terms : StepTerms) : Type 0 where
  pub first : (r : TermId) → terms.first ≡ Some r → r.0 < len
  pub second : (r : TermId) → terms.second ≡ Some r → r.0 < len

-- the numbers may be multiplied out
pub record HaveRoomAt (nodes : Store) (terms : StepTerms) : Type 0 where
  pub first : HasRoom (number_tree nodes terms.first)
  pub second : HasRoom (number_tree nodes terms.second)

-- the numbers of the row stand in the store, and they may be multiplied out where the row is within the bounds of a polynomial
pub record HasItsNumbers (nodes : Store) (r : RowDraft) : Type 0 where
  pub stored : AreStored (length nodes) r.terms
  pub room : RowFits (row_of_draft nodes r) → HaveRoomAt nodes r.terms

-- MULTIPLYING OUT

-- what two pieces are put together to
abbrev pub combined_piece : Operation → Piece → Piece → Piece
combined_piece Sum f g = piece_sum f g
combined_piece Difference f g = piece_difference f g
combined_piece Product f g = piece_product f g

-- what a draft multiplies out to, where the step's numbers are these
abbrev pub drafted_piece : (Number → StepNumber) → Draft → Piece
drafted_piece n (Integer k) = integer_piece k
drafted_piece n (Area a b c) = variable_piece (canon_polynomial (canonical_area a b c))
drafted_piece n (Pythagoras a b c) = variable_piece (canon_polynomial (canonical_difference a b c))
drafted_piece n (Ratio a b c d) = variable_piece (canon_polynomial (canonical_ratio a b c d))
drafted_piece n (Abscissa a) = variable_piece (variable_polynomial (pos 1) (X a))
drafted_piece n (Ordinate a) = variable_piece (variable_polynomial (pos 1) (Y a))
drafted_piece n (Numerator k) = (n k).num
drafted_piece n (Denominator k) = (n k).den
drafted_piece n (Combined' p o f g) = combined_piece o (drafted_piece n f) (drafted_piece n g)
drafted_piece n (Opposite' p f) = piece_opposite (drafted_piece n f)

-- the bounds that both parts of a number tell are such
pub record IsBoundedNumber (n : StepNumber) : Type 0 where
  pub num : IsBounded n.num
  pub den : IsBounded n.den

-- each sum, difference and product in the draft is within the bounds of a polynomial
abbrev pub AllFit : (Number → StepNumber) → Draft → Type 0
AllFit n (Combined' p o f g) =
    PieceFits (combined_piece o (drafted_piece n f) (drafted_piece n g)) × AllFit n f × AllFit n g
AllFit n (Opposite' p f) = AllFit n f
AllFit n _ = Unit {0}

-- the sign is 1 or -1, or also 0 where there is no variable
abbrev pub HasSign : Canon → Type 0
HasSign c = (unsigned_abs c.sign ≤ 1) × IfSome c.var (λ v. unsigned_abs c.sign ≢ 0)

-- the piece that a part of a ring is
abbrev pub piece_in : RingValue → Part → Piece
piece_in r part = record { poly = polynomial_in r part.element; weight = part.weight; count = part.count; degree = part.degree }

-- a part of the ring that is this piece
pub record IsPartFor (r : RingValue) (piece : Piece) (part : Part) : Type 0 where
  pub element_of : IsElement r part.element
  pub piece_is : piece_in r part ≡ piece

-- each variable of each leaf of the draft has the property
abbrev pub AllLeaves : (Var → Type 0) → (Number → StepNumber) → Draft → Type 0
AllLeaves Holds n (Integer k) = Unit {0}
AllLeaves Holds n (Area a b c) = AllVariables Holds (canon_polynomial (canonical_area a b c))
AllLeaves Holds n (Pythagoras a b c) = AllVariables Holds (canon_polynomial (canonical_difference a b c))
AllLeaves Holds n (Ratio a b c d) = AllVariables Holds (canon_polynomial (canonical_ratio a b c d))
AllLeaves Holds n (Abscissa a) = Holds (X a)
AllLeaves Holds n (Ordinate a) = Holds (Y a)
AllLeaves Holds n (Numerator k) = AllVariables Holds (n k).num.poly
AllLeaves Holds n (Denominator k) = AllVariables Holds (n k).den.poly
AllLeaves Holds n (Combined' p o f g) = AllLeaves Holds n f × AllLeaves Holds n g
AllLeaves Holds n (Opposite' p f) = AllLeaves Holds n f

-- the weight, the count and the degree of a piece
abbrev pub piece_bounds : Piece → Bounds
piece_bounds f = record { weight = capped_number f.weight; count = capped_number f.count; degree = capped_number f.degree }

-- STEPS

-- a linear quantity at a point
abbrev pub linear_form : Linear → PointId → Form
linear_form (LinearArea a b) x = area a b x
linear_form (LinearPythagoras a b) x = pythagoras a b x

-- no number
abbrev pub no_terms : StepTerms
no_terms = record { first = None; second = None }

-- the terms of a step's numbers
abbrev pub step_terms : Step → StepTerms
step_terms (Pratio w u v r) = record { first = Some r; second = None }
step_terms (Tratio u v r) = record { first = Some r; second = None }
step_terms (Weights o u v r s) = record { first = Some r; second = Some s }
step_terms _ = no_terms
