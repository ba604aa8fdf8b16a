-- The quantities are those of the points, and not of the triples that stand for them.
use Rattle.std.proofs.Common.{◌≡◌, Bool, true, false, ◌*◌, pos, ◌*ℤ◌, refl, [], ◌∷◌, mul-pos}
use Rattle.ring_laws.specs.Solver.{variable, numeral, ◌⊟◌, ◌⊠◌, entry_at, given}
use Rattle.ring_laws.specs.Fraction.{Fraction, Same, minus, times, IsNonzero}
use Rattle.geo_points.specs.Points.{Point, x_coordinate, y_coordinate, x_difference, y_difference, x_component, y_component, cross_product}
use Rattle.geo_points.specs.Points.{signed_area, pythagoras_difference, HasRatio, ratio, is_null}
use Rattle.geo_points.specs.Placements.{SamePoint}
use Rattle.ring_laws.proofs.Integers.{integers}
use Rattle.ring_laws.proofs.Combination.{by_combination}
use Rattle.ring_laws.proofs.Fractions.{fractions, cancel}
use Rattle.ring_laws.proofs.Quotients.{zero_of_same, same_of_zero, cancel_fraction}
use Rattle.geo_points.proofs.Ratios.{x_component-is, y_component-is, crossed_is, null-true, null-false, ratio-is, IsRatio}
use Rattle.geo_points.proofs.Expressions.{abscissa, ordinate, area, pythagoras, whole_number, one_half, ◌+'◌, ◌-'◌, ◌*'◌, fact}
use Rattle.geo_points.proofs.Geometry.{geo_combination}

-- the points are A B C A' B' C', as 0 to 5
pub signed_area-same : (A B C A' B' C' : Point) → SamePoint A A' → SamePoint B B' → SamePoint C C' → Same (signed_area A B C) (signed_area A' B' C')
signed_area-same A B C A' B' C' a b c =
    geo_combination (A ∷ B ∷ C ∷ A' ∷ B' ∷ C' ∷ []) []
    (fact (one_half *' (ordinate 1 -' ordinate 2)) (abscissa 0) (abscissa 3)
    ∷ fact (one_half *' (abscissa 2 -' abscissa 1)) (ordinate 0) (ordinate 3)
    ∷ fact (one_half *' (ordinate 2 -' ordinate 3)) (abscissa 1) (abscissa 4)
    ∷ fact (one_half *' (abscissa 3 -' abscissa 2)) (ordinate 1) (ordinate 4)
    ∷ fact (one_half *' (ordinate 3 -' ordinate 4)) (abscissa 2) (abscissa 5)
    ∷ fact (one_half *' (abscissa 4 -' abscissa 3)) (ordinate 2) (ordinate 5) ∷ [])
    (area 0 1 2) (area 3 4 5)
    (a.by_x, (a.by_y, (b.by_x, (b.by_y, (c.by_x, (c.by_y, tt)))))) tt

pub pythagoras_difference-same : (A B C A' B' C' : Point) → SamePoint A A' → SamePoint B B' → SamePoint C C' → Same (pythagoras_difference A B C) (pythagoras_difference A' B' C')
pythagoras_difference-same A B C A' B' C' a b c =
    geo_combination (A ∷ B ∷ C ∷ A' ∷ B' ∷ C' ∷ []) []
    (fact (whole_number 2 *' (abscissa 2 -' abscissa 1)) (abscissa 0) (abscissa 3)
    ∷ fact (whole_number 2 *' (ordinate 2 -' ordinate 1)) (ordinate 0) (ordinate 3)
    ∷ fact (whole_number 2 *' (abscissa 1 +' abscissa 4 -' abscissa 3 -' abscissa 5)) (abscissa 1) (abscissa 4)
    ∷ fact (whole_number 2 *' (ordinate 1 +' ordinate 4 -' ordinate 3 -' ordinate 5)) (ordinate 1) (ordinate 4)
    ∷ fact (whole_number 2 *' (abscissa 3 -' abscissa 1)) (abscissa 2) (abscissa 5)
    ∷ fact (whole_number 2 *' (ordinate 3 -' ordinate 1)) (ordinate 2) (ordinate 5) ∷ [])
    (pythagoras 0 1 2) (pythagoras 3 4 5)
    (a.by_x, (a.by_y, (b.by_x, (b.by_y, (c.by_x, (c.by_y, tt)))))) tt

-- ---- ratios
infixr 3 ◌∘◌
◌∘◌ : {a b c : Fraction} → Same a b → Same b c → Same a c
◌∘◌ p q = fractions.same_trans _ _ _ p q

flip : {a b : Fraction} → Same a b → Same b a
flip p = fractions.same_sym _ _ p

minus-same : (a b c d : Fraction) → Same a b → Same c d → Same (minus a c) (minus b d)
unfolding minus
minus-same a b c d p q = fractions.add-same _ _ _ _ p (fractions.neg-same _ _ q)

module _ (A B A' B' : Point) (a : SamePoint A A') (b : SamePoint B B') where
  x_minus-same : Same (minus (x_coordinate B) (x_coordinate A)) (minus (x_coordinate B') (x_coordinate A'))
  x_minus-same = minus-same _ _ _ _ b.by_x a.by_x

  y_minus-same : Same (minus (y_coordinate B) (y_coordinate A)) (minus (y_coordinate B') (y_coordinate A'))
  y_minus-same = minus-same _ _ _ _ b.by_y a.by_y

  x_component-same : Same (x_component A B) (x_component A' B')
  x_component-same = x_component-is A B ∘ x_minus-same ∘ flip (x_component-is A' B')

  y_component-same : Same (y_component A B) (y_component A' B')
  y_component-same = y_component-is A B ∘ y_minus-same ∘ flip (y_component-is A' B')

crossed_back : (A B C D : Point) → Same (times (x_component A B) (y_component C D)) (times (y_component A B) (x_component C D)) → cross_product A B C D ≡ pos 0
unfolding times
crossed_back A B C D h =
    let p = variable 0 in let q = variable 1 in let r = variable 2 in let s = variable 3 in
    let crossed : x_difference A B *ℤ y_difference C D ≡ y_difference A B *ℤ x_difference C D =
    cancel (x_difference A B *ℤ y_difference C D) (y_difference A B *ℤ x_difference C D) (A.w * B.w * (C.w * D.w))
    (mul-pos (mul-pos A.positive B.positive) (mul-pos C.positive D.positive)) h.crossed in
    by_combination integers (entry_at integers (x_difference A B ∷ y_difference A B ∷ x_difference C D ∷ y_difference C D ∷ []))
    (given (numeral 1) (p ⊠ s) (q ⊠ r) ∷ []) (p ⊠ s ⊟ q ⊠ r) (numeral 0) (crossed, tt) tt

-- a quotient by a fraction that is not 0 is one number
quotient-unique : (k k' d d' b b' : Fraction) → IsNonzero d → Same d d' → Same b b' → Same (times k d) b → Same (times k' d') b' → Same k k'
quotient-unique k k' d d' b b' n same_d same_b h h' =
    cancel_fraction k k' d n (h ∘ same_b ∘ flip (fractions.mul-same _ _ _ _ (fractions.same_refl k') same_d ∘ h'))

nonzero-same : (a b : Fraction) → Same a b → IsNonzero a → IsNonzero b
nonzero-same a b h n z = n (zero_of_same a (h ∘ same_of_zero b z))

module _ (A B C D A' B' C' D' : Point) (a : SamePoint A A') (b : SamePoint B B') (c : SamePoint C C') (d : SamePoint D D') (h : HasRatio A B C D) where
  pub HasRatio-same : HasRatio A' B' C' D'
  HasRatio-same = record {
    parallel = crossed_back A' B' C' D'
        (flip (fractions.mul-same _ _ _ _ (x_component-same A B A' B' a b) (y_component-same C D C' D' c d))
        ∘ crossed_is A B C D h.parallel
        ∘ fractions.mul-same _ _ _ _ (y_component-same A B A' B' a b) (x_component-same C D C' D' c d));
    apart = λ x y. h.apart (zero_of_same (x_component C D) (x_component-same C D C' D' c d ∘ same_of_zero (x_component C' D') x))
        (zero_of_same (y_component C D) (y_component-same C D C' D' c d ∘ same_of_zero (y_component C' D') y));
  }

  by_ratios : (k k' : Fraction) → IsRatio A B C D k → IsRatio A' B' C' D' k' → Same k k'
  by_ratios k k' is is' = go (is_null (x_difference C D)) refl
    where
      go : (z : Bool) → is_null (x_difference C D) ≡ z → Same k k'
      go true e =
          quotient-unique k k' _ _ _ _ (nonzero-same _ _ (y_component-is C D) (h.apart (null-true (x_difference C D) e)))
          (y_minus-same C D C' D' c d) (y_minus-same A B A' B' a b) is.by_y is'.by_y
      go false e =
          quotient-unique k k' _ _ _ _ (nonzero-same _ _ (x_component-is C D) (null-false (x_difference C D) e))
          (x_minus-same C D C' D' c d) (x_minus-same A B A' B' a b) is.by_x is'.by_x

  pub ratio-same : Same (ratio A B C D) (ratio A' B' C' D')
  ratio-same = by_ratios (ratio A B C D) (ratio A' B' C' D') (ratio-is A B C D h) (ratio-is A' B' C' D' HasRatio-same)
