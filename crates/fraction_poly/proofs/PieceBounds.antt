-- The numbers that a form tells bound what it multiplies out to; and what fits has parts that fit.
use Rattle.std.proofs.Common.{◌≡◌, ℕ, ◌*◌, ◌≤◌, pos, refl, ap, ap₂, ◌∙◌, sym, subst, arith}
use Rattle.std.proofs.Math.Nat.{mul-le-mul, mul-le-mul_left}
use Rattle.fraction_poly.specs.declared.drafts.Draft.{Draft}
use Rattle.fraction_poly.specs.declared.drafts.Draft.TheVariants.{Integer, Area, Pythagoras, Ratio, Abscissa, Ordinate, Numerator, Denominator, Combined', Opposite'}
use Rattle.fraction_poly.specs.declared.drafts.Number.{Number}
use Rattle.fraction_poly.specs.declared.drafts.Number.TheVariants.{First, Second}
use Rattle.fraction_poly.specs.declared.operations.Operation.{Operation}
use Rattle.fraction_poly.specs.declared.operations.Operation.TheVariants.{Sum, Difference, Product}
use Rattle.fraction_poly.specs.declared.numbers.Numbers.{Numbers}
use Rattle.fraction_poly.specs.declared.step_numbers.StepNumber.{StepNumber}
use Rattle.fraction_poly.specs.Inner.Drafts.{AllFit, IsBoundedNumber, by_number, combined_form, combined_piece, drafted_piece, form_of}
use Rattle.fraction_poly.specs.Forms.{Form, integer, area, pythagoras, ratio, abscissa, ordinate, numerator, denominator, ◌⊞◌, ◌⊟◌, ◌⊠◌}
use Rattle.fraction_poly.specs.Forms.{opposite, PieceFits, step_number, integer_piece, variable_piece, piece_sum, piece_difference}
use Rattle.fraction_poly.specs.Forms.{piece_product, piece_opposite, piece_of}
use Rattle.fraction_poly.specs.Measures.{numbers_of, sum_numbers, product_numbers, turned_numbers}
use Rattle.fraction_poly.proofs.Sizes.{IsWithin, IsWithin-sum, IsWithin-difference, IsWithin-product, IsWithin-negated, IsWithin-constant}
use Rattle.fraction_poly.proofs.Sizes.{IsWithin-variable, IsWithin-area, IsWithin-pythagoras, IsWithin-ratio}
use Rattle.fraction_poly.proofs.TermBounds.{bounds, positive}
use Rattle.geo_poly.specs.declared.rows.Piece.{Piece}
use Rattle.geo_poly.specs.declared.variables.Var.TheVariants.{X, Y}
use Rattle.geo_poly.specs.Polynomials.{Summands}
use Rattle.geo_poly.specs.Replace.{IsBounded}
use Rattle.geo_terms.specs.Trees.{Tree, integer_leaf, parameter_leaf, area_leaf, pythagoras_leaf, ratio_leaf, negation, addition, subtraction, multiplication, division}

-- PIECES
within : (f : Piece) → IsBounded f → IsWithin f.poly f.weight f.count f.degree
within f h = record { norm = h.norm; count = h.count; degree = h.degree }

pub bounded_sum : (f g : Piece) → IsBounded f → IsBounded g → IsBounded (piece_sum f g)
bounded_sum f g h k =
    let both = IsWithin-sum f.poly g.poly _ _ _ _ _ _ (within f h) (within g k) in
    record { norm = both.norm; count = both.count; degree = both.degree; light = omega (arith, h.light, k.light); weight = omega (arith, h.weight) }

pub bounded_difference : (f g : Piece) → IsBounded f → IsBounded g → IsBounded (piece_difference f g)
bounded_difference f g h k =
    let both = IsWithin-difference f.poly g.poly _ _ _ _ _ _ (within f h) (within g k) in
    record { norm = both.norm; count = both.count; degree = both.degree; light = omega (arith, h.light, k.light); weight = omega (arith, h.weight) }

pub bounded_product : (f g : Piece) → IsBounded f → IsBounded g → IsBounded (piece_product f g)
bounded_product f g h k =
    let both = IsWithin-product f.poly g.poly _ _ _ _ _ _ (within f h) (within g k) in
    let weights : 1 * 1 ≤ f.weight * g.weight = mul-le-mul h.weight k.weight in
    record { norm = both.norm; count = both.count; degree = both.degree; light = mul-le-mul h.light k.light; weight = omega (arith, weights) }

pub bounded_combined : (o : Operation) (f g : Piece) → IsBounded f → IsBounded g → IsBounded (combined_piece o f g)
bounded_combined Sum f g h k = bounded_sum f g h k
bounded_combined Difference f g h k = bounded_difference f g h k
bounded_combined Product f g h k = bounded_product f g h k

pub bounded_opposite : (f : Piece) → IsBounded f → IsBounded (piece_opposite f)
bounded_opposite f h =
    let turned = IsWithin-negated f.poly f.weight f.count f.degree (within f h) in
    record { norm = turned.norm; count = turned.count; degree = turned.degree; light = h.light; weight = h.weight }

pub bounded_variable : (q : Summands) → IsWithin q 1 1 1 → IsBounded (variable_piece q)
bounded_variable q h = record { norm = h.norm; count = h.count; degree = h.degree; light = omega arith; weight = omega arith }

pub bounded_integer : (n : ℕ) → IsBounded (integer_piece n)
bounded_integer n =
    let h = IsWithin-constant (pos n) in
    record { norm = h.norm; count = h.count; degree = h.degree; light = omega arith; weight = omega arith }

-- THE NUMBER OF A STEP
-- no count is greater than its weight
pub record CountsAreLight (a : Numbers) : Type 0 where
  pub kn : a.kn ≤ a.wn
  pub kd : a.kd ≤ a.wd

counts-sum : (a b : Numbers) → CountsAreLight a → CountsAreLight b → CountsAreLight (sum_numbers a b)
counts-sum a b h g = record {
  kn = omega (arith, mul-le-mul h.kn g.kd, mul-le-mul g.kn h.kd);
  kd = mul-le-mul h.kd g.kd;
}

counts-product : (a b : Numbers) → CountsAreLight a → CountsAreLight b → CountsAreLight (product_numbers a b)
counts-product a b h g = record { kn = mul-le-mul h.kn g.kn; kd = mul-le-mul h.kd g.kd }

pub counts : (e : Tree) → CountsAreLight (numbers_of e)
counts (integer_leaf m) = record { kn = omega arith; kd = omega arith }
counts (parameter_leaf t) = record { kn = omega arith; kd = omega arith }
counts (area_leaf a b c) = record { kn = omega arith; kd = omega arith }
counts (pythagoras_leaf a b c) = record { kn = omega arith; kd = omega arith }
counts (ratio_leaf a b c d) = record { kn = omega arith; kd = omega arith }
counts (negation e) = counts e
counts (addition e f) = counts-sum (numbers_of e) (numbers_of f) (counts e) (counts f)
counts (subtraction e f) = counts-sum (numbers_of e) (numbers_of f) (counts e) (counts f)
counts (multiplication e f) = counts-product (numbers_of e) (numbers_of f) (counts e) (counts f)
counts (division e f) =
    let turned = counts f in
    counts-product (numbers_of e) (turned_numbers (numbers_of f)) (counts e) (record { kn = turned.kd; kd = turned.kn })

pub bounded_number : (e : Tree) → IsBoundedNumber (step_number e)
bounded_number e =
    let h = bounds e in
    let p = positive e in
    let k = counts e in
    record {
      num = record { norm = h.numerator.norm; count = h.numerator.count; degree = h.numerator.degree; light = k.kn; weight = p.wn };
      den = record { norm = h.denominator.norm; count = h.denominator.count; degree = h.denominator.degree; light = k.kd; weight = p.wd };
    }

-- FORMS
pub bounded_form : (f : Form) → IsBounded (piece_of f)
bounded_form (integer n) = bounded_integer n
bounded_form (area a b c) = bounded_variable _ (IsWithin-area a b c)
bounded_form (pythagoras a b c) = bounded_variable _ (IsWithin-pythagoras a b c)
bounded_form (ratio a b c d) = bounded_variable _ (IsWithin-ratio a b c d)
bounded_form (abscissa a) = bounded_variable _ (IsWithin-variable (pos 1) (X a) (omega arith))
bounded_form (ordinate a) = bounded_variable _ (IsWithin-variable (pos 1) (Y a) (omega arith))
bounded_form (numerator e) = (bounded_number e).num
bounded_form (denominator e) = (bounded_number e).den
bounded_form (f ⊞ g) = bounded_sum (piece_of f) (piece_of g) (bounded_form f) (bounded_form g)
bounded_form (f ⊟ g) = bounded_difference (piece_of f) (piece_of g) (bounded_form f) (bounded_form g)
bounded_form (f ⊠ g) = bounded_product (piece_of f) (piece_of g) (bounded_form f) (bounded_form g)
bounded_form (opposite f) = bounded_opposite (piece_of f) (bounded_form f)

-- DRAFTS
pub bounded_draft : (n : Number → StepNumber) → ((k : Number) → IsBoundedNumber (n k)) → (d : Draft) → IsBounded (drafted_piece n d)
bounded_draft n h (Integer k) = bounded_integer k
bounded_draft n h (Area a b c) = bounded_variable _ (IsWithin-area a b c)
bounded_draft n h (Pythagoras a b c) = bounded_variable _ (IsWithin-pythagoras a b c)
bounded_draft n h (Ratio a b c d) = bounded_variable _ (IsWithin-ratio a b c d)
bounded_draft n h (Abscissa a) = bounded_variable _ (IsWithin-variable (pos 1) (X a) (omega arith))
bounded_draft n h (Ordinate a) = bounded_variable _ (IsWithin-variable (pos 1) (Y a) (omega arith))
bounded_draft n h (Numerator k) = (h k).num
bounded_draft n h (Denominator k) = (h k).den
bounded_draft n h (Combined' p o f g) =
    bounded_combined o (drafted_piece n f) (drafted_piece n g) (bounded_draft n h f) (bounded_draft n h g)
bounded_draft n h (Opposite' p f) = bounded_opposite (drafted_piece n f) (bounded_draft n h f)

pub combined-is : (o : Operation) (f g : Form) → combined_piece o (piece_of f) (piece_of g) ≡ piece_of (combined_form o f g)
combined-is Sum f g = refl
combined-is Difference f g = refl
combined-is Product f g = refl

-- a draft multiplies out to what its form does
pub drafted-is : (e : Number → Tree) (d : Draft) → drafted_piece (λ k. step_number (e k)) d ≡ piece_of (form_of e d)
drafted-is e (Integer k) = refl
drafted-is e (Area a b c) = refl
drafted-is e (Pythagoras a b c) = refl
drafted-is e (Ratio a b c d) = refl
drafted-is e (Abscissa a) = refl
drafted-is e (Ordinate a) = refl
drafted-is e (Numerator k) = refl
drafted-is e (Denominator k) = refl
drafted-is e (Combined' p o f g) =
    ap₂ (combined_piece o) (drafted-is e f) (drafted-is e g) ∙ combined-is o (form_of e f) (form_of e g)
drafted-is e (Opposite' p f) = ap piece_opposite (drafted-is e f)

-- WHAT FITS HAS PARTS THAT FIT
-- both parts fit
pub record BothFit (f g : Piece) : Type 0 where
  pub left : PieceFits f
  pub right : PieceFits g

pub sum_parts : (f g : Piece) → PieceFits (piece_sum f g) → BothFit f g
sum_parts f g h = record {
  left = record { weight = omega (arith, h.weight); degree = omega (arith, h.degree) };
  right = record { weight = omega (arith, h.weight); degree = omega (arith, h.degree) };
}

pub difference_parts : (f g : Piece) → PieceFits (piece_difference f g) → BothFit f g
difference_parts f g h = record {
  left = record { weight = omega (arith, h.weight); degree = omega (arith, h.degree) };
  right = record { weight = omega (arith, h.weight); degree = omega (arith, h.degree) };
}

-- a factor is at most the product where the other one is at least 1
factor-le : (x y : ℕ) → 1 ≤ y → x ≤ x * y
factor-le x y h = omega (arith, mul-le-mul_left x h)

pub product_parts : (f g : Piece) → IsBounded f → IsBounded g → PieceFits (piece_product f g) → BothFit f g
product_parts f g bounded_f bounded_g h = record {
  left = record { weight = omega (arith, factor-le f.weight g.weight bounded_g.weight, h.weight); degree = omega (arith, h.degree) };
  right = record { weight = omega (arith, factor-le g.weight f.weight bounded_f.weight, h.weight); degree = omega (arith, h.degree) };
}

pub combined_parts : (o : Operation) (f g : Piece) → IsBounded f → IsBounded g → PieceFits (combined_piece o f g) → BothFit f g
combined_parts Sum f g bounded_f bounded_g h = sum_parts f g h
combined_parts Difference f g bounded_f bounded_g h = difference_parts f g h
combined_parts Product f g bounded_f bounded_g h = product_parts f g bounded_f bounded_g h

-- the same of forms
pub fits_sum : (f g : Form) → PieceFits (piece_of (f ⊞ g)) → BothFit (piece_of f) (piece_of g)
fits_sum f g h = sum_parts (piece_of f) (piece_of g) h

pub fits_difference : (f g : Form) → PieceFits (piece_of (f ⊟ g)) → BothFit (piece_of f) (piece_of g)
fits_difference f g h = difference_parts (piece_of f) (piece_of g) h

pub fits_product : (f g : Form) → PieceFits (piece_of (f ⊠ g)) → BothFit (piece_of f) (piece_of g)
fits_product f g h = product_parts (piece_of f) (piece_of g) (bounded_form f) (bounded_form g) h

-- so each part of a draft that fits does
pub all_fit : (n : Number → StepNumber) → ((k : Number) → IsBoundedNumber (n k)) → (d : Draft) → PieceFits (drafted_piece n d) → AllFit n d
all_fit n h (Integer k) fits = tt
all_fit n h (Area a b c) fits = tt
all_fit n h (Pythagoras a b c) fits = tt
all_fit n h (Ratio a b c d) fits = tt
all_fit n h (Abscissa a) fits = tt
all_fit n h (Ordinate a) fits = tt
all_fit n h (Numerator k) fits = tt
all_fit n h (Denominator k) fits = tt
all_fit n h (Combined' p o f g) fits =
    let parts = combined_parts o (drafted_piece n f) (drafted_piece n g) (bounded_draft n h f) (bounded_draft n h g) fits in
    (fits, all_fit n h f parts.left, all_fit n h g parts.right)
all_fit n h (Opposite' p f) fits = all_fit n h f (record { weight = fits.weight; degree = fits.degree })

-- TWO NUMBERS, as the code hands them over
pub both_bounded : (a b : StepNumber) → IsBoundedNumber a → IsBoundedNumber b → (k : Number) → IsBoundedNumber (by_number a b k)
both_bounded a b h g First = h
both_bounded a b h g Second = g

module _ (a b : StepNumber) (e f : Tree) (is_a : a ≡ step_number e) (is_b : b ≡ step_number f) where
  each_number : (k : Number) → by_number a b k ≡ step_number (by_number e f k)
  each_number First = is_a
  each_number Second = is_b

  both_numbers : by_number a b ≡ (λ k. step_number (by_number e f k))
  both_numbers = λ i k. each_number k i

  pub draft_made : (d : Draft) → drafted_piece (by_number a b) d ≡ piece_of (form_of (by_number e f) d)
  draft_made d = ap (λ (n : Number → StepNumber). drafted_piece n d) both_numbers ∙ drafted-is (by_number e f) d

  pub draft_fits : (d : Draft) → PieceFits (piece_of (form_of (by_number e f) d)) → AllFit (by_number a b) d
  draft_fits d fits =
      subst (λ (n : Number → StepNumber). AllFit n d) (sym both_numbers)
      (all_fit (λ k. step_number (by_number e f k)) (λ k. bounded_number (by_number e f k)) d (subst PieceFits (sym (drafted-is (by_number e f) d)) fits))
