-- Lines: a pair of points stands for each, with its direction up to a factor that is not 0.
use Rattle.std.proofs.Common.{◌≡◌, zero, suc, ℤ, pos, negsuc, ap, [], ◌∷◌}
use Rattle.ring_laws.specs.Solver.{variable, numeral, ◌⊠◌, entry_at}
use Rattle.ring_laws.proofs.Combination.{by_combination}
use Rattle.ring_laws.specs.Fraction.{Fraction, Same, whole, minus, times, IsNonzero, quotient}
use Rattle.geo_points.specs.Points.{Point, cross_product, signed_area}
use Rattle.geo_points.specs.Steps.{IsAlong, IsCrossing, IsTurned}
use Rattle.geo_points.proofs.AreaRows.{cross', two_halves}
use Rattle.geo_points.proofs.Expressions.{abscissa, ordinate, whole_number, one_half, given_number, ◌+'◌, ◌-'◌, ◌*'◌, opposite', half, fact}
use Rattle.ring_laws.proofs.Fractions.{fractions}
use Rattle.geo_points.proofs.Geometry.{geo_combination}
use Rattle.ring_laws.proofs.Quotients.{cancel_fraction, quotient-times}
use Rattle.geo_points.proofs.Steps.{along-x, along-y}
use Rattle.geo_points.specs.Vectors.{run, rise}
use Rattle.geo_lowering.specs.Relations.{one, two}
use Rattle.geo_points.proofs.Lines.{cross_product-is, turned-x, turned-y, cross_null}
use Rattle.geo_points.proofs.Zeros.{is_nonzero, not_same, denied, geo_cancel}
use Rattle.geo_lowering.proofs.Centers.{bisector_down, bisector_up}
use Rattle.geo_lowering.proofs.ZeroTerms.{parallel-is}
use Rattle.geo_lowering.specs.Lines.{DrawnLine, through, alongside, upright, bisector, direction, cross_direction, IsOn}

-- the line l is the line CD, and its direction a number other than 0 times D - C
pub record Stands (l : DrawnLine) (C D : Point) : Type 0 where
  pub factor : Fraction
  pub nonzero : IsNonzero factor
  pub by_x : Same (direction l).right (times factor (run C D))
  pub by_y : Same (direction l).upwards (times factor (rise C D))
  pub down : (X : Point) → IsOn X l → cross_product C D C X ≡ pos 0
  pub up : (X : Point) → cross_product C D C X ≡ pos 0 → IsOn X l

pub one_nonzero : IsNonzero one
unfolding whole
one_nonzero e = let q : suc zero ≡ zero = ap (λ (t : ℤ). elim t [ pos n ↦ n | negsuc n ↦ n ]) e in cc

pub two_nonzero : IsNonzero two
unfolding whole
two_nonzero e = let q : suc (suc zero) ≡ zero = ap (λ (t : ℤ). elim t [ pos n ↦ n | negsuc n ↦ n ]) e in cc

pub times_nonzero : (a b : Fraction) → IsNonzero a → IsNonzero b → IsNonzero (times a b)
times_nonzero a b m n = is_nonzero (times a b) (λ h. not_same a m (cancel_fraction a (whole (pos 0)) b n (fractions.same_trans _ _ _ h (empty b))))
  where
    empty : (c : Fraction) → Same (whole (pos 0)) (times (whole (pos 0)) c)
    empty c = by_combination fractions (entry_at fractions (c ∷ [])) [] (numeral 0) (numeral 0 ⊠ variable 0) tt tt

pub line_stands : (A B : Point) → Stands (through A B) A B
line_stands A B =
    record {
      factor = one;
      nonzero = one_nonzero;
      by_x = geo_combination (A ∷ B ∷ []) [] [] (abscissa 1 -' abscissa 0)
          (whole_number 1 *' (abscissa 1 -' abscissa 0)) tt tt;
      by_y =
          geo_combination (A ∷ B ∷ []) [] [] (ordinate 1 -' ordinate 0) (whole_number 1 *' (ordinate 1 -' ordinate 0)) tt tt;
      down =
          λ X h. h;
      up = λ X h. h;
    }

pub parallel_stands : (P : Point) (l : DrawnLine) (C D E : Point) → Stands l C D → IsAlong P C D one E → Stands (alongside P l) P E
parallel_stands P l C D E s e =
    record {
      factor = s.factor;
      nonzero = s.nonzero;
      by_x = geo_combination (P ∷ C ∷ D ∷ E ∷ []) ((direction l).right ∷ (direction l).upwards ∷ s.factor ∷ [])
          (fact (whole_number 1) (given_number 0) (given_number 2 *' (abscissa 2 -' abscissa 1)) ∷ fact (opposite' (given_number 2))
          (abscissa 3 -' abscissa 0) (whole_number 1 *' (abscissa 2 -' abscissa 1)) ∷ []) (given_number 0)
          (given_number 2 *' (abscissa 3 -' abscissa 0)) (s.by_x, (along-x P C D one E e, tt)) tt;
      by_y = geo_combination (P ∷ C ∷ D ∷ E ∷ []) ((direction l).right ∷ (direction l).upwards ∷ s.factor ∷ [])
          (fact (whole_number 1) (given_number 1) (given_number 2 *' (ordinate 2 -' ordinate 1)) ∷ fact (opposite' (given_number 2))
          (ordinate 3 -' ordinate 0) (whole_number 1 *' (ordinate 2 -' ordinate 1)) ∷ []) (given_number 1)
          (given_number 2 *' (ordinate 3 -' ordinate 0)) (s.by_y, (along-y P C D one E e, tt)) tt;
      down = λ X o. cross_null P E P X
          (geo_cancel (P ∷ C ∷ D ∷ E ∷ X ∷ []) ((direction l).right ∷ (direction l).upwards ∷ s.factor ∷ [])
          (fact (opposite' (whole_number 1)) ((abscissa 4 -' abscissa 0) *' given_number 1 -' (ordinate 4 -' ordinate 0) *' given_number 0)
          (whole_number 0) ∷ fact (ordinate 0 -' ordinate 4) (given_number 0) (given_number 2 *' (abscissa 2 -' abscissa 1))
          ∷ fact (abscissa 4 -' abscissa 0) (given_number 1) (given_number 2 *' (ordinate 2 -' ordinate 1))
          ∷ fact (opposite' (given_number 2 *' (ordinate 0 -' ordinate 4))) (abscissa 3 -' abscissa 0)
          (whole_number 1 *' (abscissa 2 -' abscissa 1)) ∷ fact (given_number 2 *' (abscissa 0 -' abscissa 4)) (ordinate 3 -' ordinate 0)
          (whole_number 1 *' (ordinate 2 -' ordinate 1)) ∷ []) (cross' 0 3 0 4) (whole_number 0) (given_number 2) s.nonzero
          (o, (s.by_x, (s.by_y, (along-x P C D one E e, (along-y P C D one E e, tt))))) tt);
      up = λ X o. geo_combination (P ∷ C ∷ D ∷ E ∷ X ∷ []) ((direction l).right ∷ (direction l).upwards ∷ s.factor ∷ [])
          (fact (opposite' (given_number 2)) (cross' 0 3 0 4) (whole_number 0) ∷ fact (ordinate 0 -' ordinate 4) (given_number 0)
          (given_number 2 *' (abscissa 2 -' abscissa 1)) ∷ fact (abscissa 4 -' abscissa 0) (given_number 1)
          (given_number 2 *' (ordinate 2 -' ordinate 1)) ∷ fact (opposite' (given_number 2 *' (ordinate 0 -' ordinate 4)))
          (abscissa 3 -' abscissa 0) (whole_number 1 *' (abscissa 2 -' abscissa 1)) ∷ fact (given_number 2 *' (abscissa 0 -' abscissa 4))
          (ordinate 3 -' ordinate 0) (whole_number 1 *' (ordinate 2 -' ordinate 1)) ∷ [])
          ((abscissa 4 -' abscissa 0) *' given_number 1 -' (ordinate 4 -' ordinate 0) *' given_number 0) (whole_number 0)
          (cross_product-is P E P X o, (s.by_x, (s.by_y, (along-x P C D one E e, (along-y P C D one E e, tt))))) tt;
    }

pub perp_stands : (P : Point) (l : DrawnLine) (C D E G : Point) → Stands l C D → IsAlong P C D one E → IsTurned P E one G → Stands (upright P l) P G
perp_stands P l C D E G s e g =
    record {
      factor = s.factor;
      nonzero = s.nonzero;
      by_x = geo_combination (P ∷ C ∷ D ∷ E ∷ G ∷ []) ((direction l).right ∷ (direction l).upwards ∷ s.factor ∷ [])
          (fact (opposite' (whole_number 1)) (given_number 1) (given_number 2 *' (ordinate 2 -' ordinate 1))
          ∷ fact (opposite' (given_number 2)) (abscissa 4 -' abscissa 0) (opposite' (whole_number 1 *' (ordinate 3 -' ordinate 0)))
          ∷ fact (given_number 2) (ordinate 3 -' ordinate 0) (whole_number 1 *' (ordinate 2 -' ordinate 1)) ∷ [])
          (opposite' (given_number 1)) (given_number 2 *' (abscissa 4 -' abscissa 0))
          (s.by_y, (turned-x P E one G g, (along-y P C D one E e, tt))) tt;
      by_y = geo_combination (P ∷ C ∷ D ∷ E ∷ G ∷ []) ((direction l).right ∷ (direction l).upwards ∷ s.factor ∷ [])
          (fact (whole_number 1) (given_number 0) (given_number 2 *' (abscissa 2 -' abscissa 1)) ∷ fact (opposite' (given_number 2))
          (ordinate 4 -' ordinate 0) (whole_number 1 *' (abscissa 3 -' abscissa 0)) ∷ fact (opposite' (given_number 2))
          (abscissa 3 -' abscissa 0) (whole_number 1 *' (abscissa 2 -' abscissa 1)) ∷ []) (given_number 0)
          (given_number 2 *' (ordinate 4 -' ordinate 0)) (s.by_x, (turned-y P E one G g, (along-x P C D one E e, tt))) tt;
      down = λ X o. cross_null P G P X
          (geo_cancel (P ∷ C ∷ D ∷ E ∷ G ∷ X ∷ []) ((direction l).right ∷ (direction l).upwards ∷ s.factor ∷ [])
          (fact (opposite' (whole_number 1)) ((abscissa 5 -' abscissa 0) *' given_number 0 +' (ordinate 5 -' ordinate 0) *' given_number 1)
          (whole_number 0) ∷ fact (abscissa 5 -' abscissa 0) (given_number 0) (given_number 2 *' (abscissa 2 -' abscissa 1))
          ∷ fact (ordinate 5 -' ordinate 0) (given_number 1) (given_number 2 *' (ordinate 2 -' ordinate 1))
          ∷ fact (opposite' (given_number 2 *' (ordinate 0 -' ordinate 5))) (abscissa 4 -' abscissa 0)
          (opposite' (whole_number 1 *' (ordinate 3 -' ordinate 0))) ∷ fact (given_number 2 *' (abscissa 0 -' abscissa 5))
          (ordinate 4 -' ordinate 0) (whole_number 1 *' (abscissa 3 -' abscissa 0)) ∷ fact (given_number 2 *' (abscissa 0 -' abscissa 5))
          (abscissa 3 -' abscissa 0) (whole_number 1 *' (abscissa 2 -' abscissa 1)) ∷ fact (given_number 2 *' (ordinate 0 -' ordinate 5))
          (ordinate 3 -' ordinate 0) (whole_number 1 *' (ordinate 2 -' ordinate 1)) ∷ []) (cross' 0 4 0 5) (whole_number 0)
          (given_number 2) s.nonzero (
            o,
            (s.by_x, (s.by_y, (turned-x P E one G g, (turned-y P E one G g, (along-x P C D one E e, (along-y P C D one E e, tt)))))),
          ) tt);
      up = λ X o. geo_combination (P ∷ C ∷ D ∷ E ∷ G ∷ X ∷ []) ((direction l).right ∷ (direction l).upwards ∷ s.factor ∷ [])
          (fact (opposite' (given_number 2)) (cross' 0 4 0 5) (whole_number 0) ∷ fact (abscissa 5 -' abscissa 0) (given_number 0)
          (given_number 2 *' (abscissa 2 -' abscissa 1)) ∷ fact (ordinate 5 -' ordinate 0) (given_number 1)
          (given_number 2 *' (ordinate 2 -' ordinate 1)) ∷ fact (opposite' (given_number 2 *' (ordinate 0 -' ordinate 5)))
          (abscissa 4 -' abscissa 0) (opposite' (whole_number 1 *' (ordinate 3 -' ordinate 0)))
          ∷ fact (given_number 2 *' (abscissa 0 -' abscissa 5)) (ordinate 4 -' ordinate 0) (whole_number 1 *' (abscissa 3 -' abscissa 0))
          ∷ fact (given_number 2 *' (abscissa 0 -' abscissa 5)) (abscissa 3 -' abscissa 0) (whole_number 1 *' (abscissa 2 -' abscissa 1))
          ∷ fact (given_number 2 *' (ordinate 0 -' ordinate 5)) (ordinate 3 -' ordinate 0) (whole_number 1 *' (ordinate 2 -' ordinate 1))
          ∷ []) ((abscissa 5 -' abscissa 0) *' given_number 0 +' (ordinate 5 -' ordinate 0) *' given_number 1) (whole_number 0) (
            cross_product-is P G P X o,
            (
              s.by_x,
              (s.by_y, (turned-x P E one G g, (turned-y P E one G g, (along-x P C D one E e, (along-y P C D one E e, tt))))),
            ),
          ) tt;
    }

pub med_stands : (A B D E : Point) → IsAlong A A B half D → IsTurned D B one E → Stands (bisector A B) D E
med_stands A B D E d e =
    record {
      factor = two;
      nonzero = two_nonzero;
      by_x = geo_combination (A ∷ B ∷ D ∷ E ∷ []) []
          (fact (opposite' (whole_number 2)) (abscissa 3 -' abscissa 2) (opposite' (whole_number 1 *' (ordinate 1 -' ordinate 2)))
          ∷ fact (opposite' (whole_number 2)) (ordinate 2 -' ordinate 0) (one_half *' (ordinate 1 -' ordinate 0))
          ∷ fact (ordinate 0 -' ordinate 1) (whole_number 2 *' one_half) (whole_number 1) ∷ []) (opposite' (ordinate 1 -' ordinate 0))
          (whole_number 2 *' (abscissa 3 -' abscissa 2)) (turned-x D B one E e, (along-y A A B half D d, (two_halves, tt))) tt;
      by_y = geo_combination (A ∷ B ∷ D ∷ E ∷ []) []
          (fact (opposite' (whole_number 2)) (ordinate 3 -' ordinate 2) (whole_number 1 *' (abscissa 1 -' abscissa 2))
          ∷ fact (whole_number 2) (abscissa 2 -' abscissa 0) (one_half *' (abscissa 1 -' abscissa 0)) ∷ fact (abscissa 1 -' abscissa 0)
          (whole_number 2 *' one_half) (whole_number 1) ∷ []) (abscissa 1 -' abscissa 0) (whole_number 2 *' (ordinate 3 -' ordinate 2))
          (turned-y D B one E e, (along-x A A B half D d, (two_halves, tt))) tt;
      down = λ X o. bisector_down A B X D E d e o;
      up = λ X o. bisector_up A B X D E d e o;
    }

pub directions-are : (l m : DrawnLine) (C D E G : Point) → Stands l C D → Stands m E G
    → (Same (cross_direction (direction l) (direction m)) (whole (pos 0)) → cross_product C D E G ≡ pos 0)
    × (cross_product C D E G ≡ pos 0 → Same (cross_direction (direction l) (direction m)) (whole (pos 0)))
directions-are l m C D E G s u = (
  λ h. cross_null C D E G (geo_cancel (C ∷ D ∷ E ∷ G ∷ [])
      ((direction l).right ∷ (direction l).upwards ∷ s.factor ∷ (direction m).right ∷ (direction m).upwards ∷ u.factor ∷ [])
      (fact (whole_number 1) (given_number 0 *' given_number 4 -' given_number 1 *' given_number 3) (whole_number 0)
      ∷ fact (opposite' (given_number 4)) (given_number 0) (given_number 2 *' (abscissa 1 -' abscissa 0))
      ∷ fact (given_number 3) (given_number 1) (given_number 2 *' (ordinate 1 -' ordinate 0))
      ∷ fact (opposite' (given_number 2 *' (ordinate 0 -' ordinate 1))) (given_number 3) (given_number 5 *' (abscissa 3 -' abscissa 2))
      ∷ fact (given_number 2 *' (abscissa 0 -' abscissa 1)) (given_number 4) (given_number 5 *' (ordinate 3 -' ordinate 2)) ∷ [])
      (cross' 0 1 2 3) (whole_number 0) (given_number 2 *' given_number 5) (times_nonzero s.factor u.factor s.nonzero u.nonzero)
      (h, (s.by_x, (s.by_y, (u.by_x, (u.by_y, tt))))) tt),
  λ h. geo_combination (C ∷ D ∷ E ∷ G ∷ [])
      ((direction l).right ∷ (direction l).upwards ∷ s.factor ∷ (direction m).right ∷ (direction m).upwards ∷ u.factor ∷ [])
      (fact (given_number 2 *' given_number 5) (cross' 0 1 2 3) (whole_number 0) ∷ fact (given_number 4) (given_number 0)
      (given_number 2 *' (abscissa 1 -' abscissa 0)) ∷ fact (opposite' (given_number 3)) (given_number 1)
      (given_number 2 *' (ordinate 1 -' ordinate 0)) ∷ fact (given_number 2 *' (ordinate 0 -' ordinate 1)) (given_number 3)
      (given_number 5 *' (abscissa 3 -' abscissa 2)) ∷ fact (opposite' (given_number 2 *' (abscissa 0 -' abscissa 1))) (given_number 4)
      (given_number 5 *' (ordinate 3 -' ordinate 2)) ∷ []) (given_number 0 *' given_number 4 -' given_number 1 *' given_number 3)
      (whole_number 0) (cross_product-is C D E G h, (s.by_x, (s.by_y, (u.by_x, (u.by_y, tt))))) tt,
)

pub crossing-is : (l m : DrawnLine) (C D E G : Point) → Stands l C D → Stands m E G
    → ((Same (cross_direction (direction l) (direction m)) (whole (pos 0)) → ⊥) → IsNonzero (minus (signed_area C E G) (signed_area D E G)))
    × (IsNonzero (minus (signed_area C E G) (signed_area D E G)) → Same (cross_direction (direction l) (direction m)) (whole (pos 0)) → ⊥)
crossing-is l m C D E G s u =
    let d = directions-are l m C D E G s u in let p = parallel-is C D E G in
    denied (minus (signed_area C E G) (signed_area D E G)) (λ h. p.0 (d.0 h), λ h. d.1 (p.1 h))

pub intersec_down : (X : Point) (l m : DrawnLine) (C D E G : Point) → Stands l C D → Stands m E G → IsOn X l → IsOn X m
    → (Same (cross_direction (direction l) (direction m)) (whole (pos 0)) → ⊥) → IsCrossing C D E G X
intersec_down X l m C D E G s u o p n =
    record { on_first = s.down X o; on_second = u.down X p; crosses = λ z. n ((directions-are l m C D E G s u).1 z) }

pub intersec_up : (X : Point) (l m : DrawnLine) (C D E G : Point) → Stands l C D → Stands m E G → IsCrossing C D E G X → IsOn X l × IsOn X m
intersec_up X l m C D E G s u c =
    (s.up X c.on_first, u.up X c.on_second)

pub quotient-same : (a b c d : Fraction) → IsNonzero b → Same a c → Same b d → IsNonzero d × Same (quotient a b) (quotient c d)
quotient-same a b c d n h k =
    let m : IsNonzero d = is_nonzero d (λ z. not_same b n (fractions.same_trans _ _ _ k z)) in (
      m,
      cancel_fraction (quotient a b) (quotient c d) b n
          (fractions.same_trans _ _ _ (quotient-times a b n) (fractions.same_trans _ _ _ h (fractions.same_trans _ _ _ (fractions.same_sym _ _ (quotient-times c d m))
          (fractions.mul-same _ _ _ _ (fractions.same_refl (quotient c d)) (fractions.same_sym _ _ k))))),
    )
