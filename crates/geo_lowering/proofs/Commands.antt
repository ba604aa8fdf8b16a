-- Each command: down from what it says of points to the elementary steps, and up again.
use Rattle.std.proofs.Common.{◌≡◌, pos, refl, [], ◌∷◌, T}
use Rattle.ring_laws.specs.Solver.{variable, numeral, ◌⊞◌, ◌⊠◌, entry_at}
use Rattle.ring_laws.proofs.Integers.{integers}
use Rattle.ring_laws.proofs.Sound.{agree}
use Rattle.ring_laws.specs.Fraction.{Fraction, Same, whole, plus, negated, minus, times, quotient}
use Rattle.geo_points.specs.Points.{squared_distance, Point, cross_product, dot_product, pythagoras_difference}
use Rattle.geo_points.specs.Placements.{SamePoint}
use Rattle.geo_points.specs.Steps.{IsAlong, IsCrossing, IsFoot, IsTurned}
use Rattle.geo_points.proofs.AreaRows.{cross', two_halves}
use Rattle.geo_points.proofs.Expressions.{abscissa, ordinate, pythagoras, whole_number, one_half, given_number, ◌+'◌, ◌-'◌, ◌*'◌, opposite', half, fact}
use Rattle.geo_points.proofs.Geometry.{geo_combination}
use Rattle.ring_laws.proofs.Quotients.{quotient-times}
use Rattle.geo_points.proofs.Placed.{along_exists}
use Rattle.geo_points.proofs.Steps.{along-x, along-y, along_back}
use Rattle.geo_points.specs.Vectors.{Differ, run, rise}
use Rattle.geo_lowering.specs.Relations.{one, two, three, middle, IsMidpoint, IsTranslate, IsSymmetric, IsCentroid, IsReflection}
use Rattle.geo_lowering.specs.Relations.{IsOnCircle, IsOnLineAndCircle, IsOnBothCircles, IsInverse, IsOnBothLines, IsProjection, two_thirds}
use Rattle.geo_points.proofs.Coordinates.{dot', dot_null}
use Rattle.geo_points.proofs.Lines.{dot_of, cross_product-is, dot_product-is, turned-x, turned-y, cross_null}
use Rattle.geo_points.proofs.Zeros.{not_same, geo_cancel, apart, differ, far}
use Rattle.geo_points.proofs.Making.{length_nonzero, turned_exists}
use Rattle.geo_points.proofs.Same.{self_point, cross_product-same}

three_thirds : Same (times three two_thirds) two
unfolding whole plus negated times
three_thirds = record { crossed = refl }

-- the middle of two points
pub middle-is : (A B : Point) → IsMidpoint (middle A B) A B
unfolding whole plus negated times
middle-is A B =
    let ax = variable 0 in let ay = variable 1 in let aw = variable 2 in let bx = variable 3 in let by = variable 4 in let bw = variable 5 in
    let env = entry_at integers (A.x ∷ A.y ∷ pos A.w ∷ B.x ∷ B.y ∷ pos B.w ∷ []) in
    record {
      by_x = record { crossed = agree integers env (numeral 2 ⊠ (ax ⊠ bw ⊞ bx ⊠ aw) ⊠ (aw ⊠ bw)) ((ax ⊠ bw ⊞ bx ⊠ aw) ⊠ (numeral 1 ⊠ (numeral 2 ⊠ aw ⊠ bw))) tt };
      by_y = record { crossed = agree integers env (numeral 2 ⊠ (ay ⊠ bw ⊞ by ⊠ aw) ⊠ (aw ⊠ bw)) ((ay ⊠ bw ⊞ by ⊠ aw) ⊠ (numeral 1 ⊠ (numeral 2 ⊠ aw ⊠ bw))) tt };
    }

pub midpoint_down : (X A B : Point) → IsMidpoint X A B → IsAlong A A B half X
midpoint_down X A B m =
    along_back A A B half X
    (geo_combination (A ∷ B ∷ X ∷ []) []
    (fact one_half (whole_number 2 *' abscissa 2) (abscissa 0 +' abscissa 1) ∷ fact (abscissa 0 -' abscissa 2)
    (whole_number 2 *' one_half) (whole_number 1) ∷ []) (abscissa 2 -' abscissa 0) (one_half *' (abscissa 1 -' abscissa 0))
    (m.by_x, (two_halves, tt)) tt)
    (geo_combination (A ∷ B ∷ X ∷ []) []
    (fact one_half (whole_number 2 *' ordinate 2) (ordinate 0 +' ordinate 1) ∷ fact (ordinate 0 -' ordinate 2)
    (whole_number 2 *' one_half) (whole_number 1) ∷ []) (ordinate 2 -' ordinate 0) (one_half *' (ordinate 1 -' ordinate 0))
    (m.by_y, (two_halves, tt)) tt)

pub midpoint_up : (X A B : Point) → IsAlong A A B half X → IsMidpoint X A B
midpoint_up X A B c =
    record {
      by_x = geo_combination (A ∷ B ∷ X ∷ []) []
          (fact (whole_number 2) (abscissa 2 -' abscissa 0) (one_half *' (abscissa 1 -' abscissa 0)) ∷ fact (abscissa 1 -' abscissa 0)
          (whole_number 2 *' one_half) (whole_number 1) ∷ []) (whole_number 2 *' abscissa 2) (abscissa 0 +' abscissa 1)
          (along-x A A B half X c, (two_halves, tt)) tt;
      by_y = geo_combination (A ∷ B ∷ X ∷ []) []
          (fact (whole_number 2) (ordinate 2 -' ordinate 0) (one_half *' (ordinate 1 -' ordinate 0)) ∷ fact (ordinate 1 -' ordinate 0)
          (whole_number 2 *' one_half) (whole_number 1) ∷ []) (whole_number 2 *' ordinate 2) (ordinate 0 +' ordinate 1)
          (along-y A A B half X c, (two_halves, tt)) tt;
    }

pub translate_down : (X A B C : Point) → IsTranslate X A B C → IsAlong C A B one X
translate_down X A B C m =
    along_back C A B one X
    (geo_combination (A ∷ B ∷ C ∷ X ∷ []) [] (fact (whole_number 1) (abscissa 3 -' abscissa 2) (abscissa 1 -' abscissa 0) ∷ [])
    (abscissa 3 -' abscissa 2) (whole_number 1 *' (abscissa 1 -' abscissa 0)) (m.by_x, tt) tt)
    (geo_combination (A ∷ B ∷ C ∷ X ∷ []) [] (fact (whole_number 1) (ordinate 3 -' ordinate 2) (ordinate 1 -' ordinate 0) ∷ [])
    (ordinate 3 -' ordinate 2) (whole_number 1 *' (ordinate 1 -' ordinate 0)) (m.by_y, tt) tt)

pub translate_up : (X A B C : Point) → IsAlong C A B one X → IsTranslate X A B C
translate_up X A B C c =
    record {
      by_x = geo_combination (A ∷ B ∷ C ∷ X ∷ []) []
          (fact (whole_number 1) (abscissa 3 -' abscissa 2) (whole_number 1 *' (abscissa 1 -' abscissa 0)) ∷ []) (abscissa 3 -' abscissa 2)
          (abscissa 1 -' abscissa 0) (along-x C A B one X c, tt) tt;
      by_y = geo_combination (A ∷ B ∷ C ∷ X ∷ []) []
          (fact (whole_number 1) (ordinate 3 -' ordinate 2) (whole_number 1 *' (ordinate 1 -' ordinate 0)) ∷ []) (ordinate 3 -' ordinate 2)
          (ordinate 1 -' ordinate 0) (along-y C A B one X c, tt) tt;
    }

pub symmetric_down : (X A O : Point) → IsSymmetric X A O → IsAlong O A O one X
symmetric_down X A O m =
    along_back O A O one X
    (geo_combination (A ∷ O ∷ X ∷ []) [] (fact (whole_number 1) (abscissa 2 -' abscissa 1) (abscissa 1 -' abscissa 0) ∷ [])
    (abscissa 2 -' abscissa 1) (whole_number 1 *' (abscissa 1 -' abscissa 0)) (m.by_x, tt) tt)
    (geo_combination (A ∷ O ∷ X ∷ []) [] (fact (whole_number 1) (ordinate 2 -' ordinate 1) (ordinate 1 -' ordinate 0) ∷ [])
    (ordinate 2 -' ordinate 1) (whole_number 1 *' (ordinate 1 -' ordinate 0)) (m.by_y, tt) tt)

pub symmetric_up : (X A O : Point) → IsAlong O A O one X → IsSymmetric X A O
symmetric_up X A O c =
    record {
      by_x = geo_combination (A ∷ O ∷ X ∷ []) []
          (fact (whole_number 1) (abscissa 2 -' abscissa 1) (whole_number 1 *' (abscissa 1 -' abscissa 0)) ∷ []) (abscissa 2 -' abscissa 1)
          (abscissa 1 -' abscissa 0) (along-x O A O one X c, tt) tt;
      by_y = geo_combination (A ∷ O ∷ X ∷ []) []
          (fact (whole_number 1) (ordinate 2 -' ordinate 1) (whole_number 1 *' (ordinate 1 -' ordinate 0)) ∷ []) (ordinate 2 -' ordinate 1)
          (ordinate 1 -' ordinate 0) (along-y O A O one X c, tt) tt;
    }

pub inter_down : (X A B C D : Point) → IsOnBothLines X A B C D → (cross_product A B C D ≡ pos 0 → ⊥) → IsCrossing A B C D X
inter_down X A B C D m n =
    record { on_first = m.on_first; on_second = m.on_second; crosses = n }

pub inter_up : (X A B C D : Point) → IsCrossing A B C D X → IsOnBothLines X A B C D
inter_up X A B C D c =
    record { on_first = c.on_first; on_second = c.on_second }

pub foot_down : (X P A B : Point) → IsProjection X P A B → Differ A B → IsFoot P A B X
foot_down X P A B m n =
    record { on_line = m.on_line; perpendicular = m.perpendicular; apart = apart A B n }

pub foot_up : (X P A B : Point) → IsFoot P A B X → IsProjection X P A B
foot_up X P A B c =
    record { on_line = c.on_line; perpendicular = c.perpendicular }

pub centroid_down : (X A B C : Point) → IsCentroid X A B C → (G : Point) × IsAlong B B C half G × IsAlong A A G two_thirds X
centroid_down X A B C m =
    let made = along_exists B B C half in let G = made.0 in let g = made.1 in (
      G,
      g,
      along_back A A G two_thirds X
          (geo_combination (A ∷ B ∷ C ∷ G ∷ X ∷ []) (two_thirds ∷ [])
          (fact (whole_number 1 -' given_number 0) (whole_number 3 *' abscissa 4) (abscissa 0 +' abscissa 1 +' abscissa 2)
          ∷ fact (opposite' (given_number 0)) (abscissa 3 -' abscissa 1) (one_half *' (abscissa 2 -' abscissa 1))
          ∷ fact (abscissa 4 -' one_half *' (abscissa 1 +' abscissa 2)) (whole_number 3 *' given_number 0) (whole_number 2)
          ∷ fact (opposite' ((whole_number 1 -' whole_number 2 *' given_number 0) *' abscissa 1
          +' (whole_number 1 -' given_number 0) *' abscissa 2)) (whole_number 2 *' one_half) (whole_number 1) ∷ [])
          (abscissa 4 -' abscissa 0) (given_number 0 *' (abscissa 3 -' abscissa 0))
          (m.by_x, (along-x B B C half G g, (three_thirds, (two_halves, tt)))) tt)
          (geo_combination (A ∷ B ∷ C ∷ G ∷ X ∷ []) (two_thirds ∷ [])
          (fact (whole_number 1 -' given_number 0) (whole_number 3 *' ordinate 4) (ordinate 0 +' ordinate 1 +' ordinate 2)
          ∷ fact (opposite' (given_number 0)) (ordinate 3 -' ordinate 1) (one_half *' (ordinate 2 -' ordinate 1))
          ∷ fact (ordinate 4 -' one_half *' (ordinate 1 +' ordinate 2)) (whole_number 3 *' given_number 0) (whole_number 2)
          ∷ fact (opposite' ((whole_number 1 -' whole_number 2 *' given_number 0) *' ordinate 1
          +' (whole_number 1 -' given_number 0) *' ordinate 2)) (whole_number 2 *' one_half) (whole_number 1) ∷ [])
          (ordinate 4 -' ordinate 0) (given_number 0 *' (ordinate 3 -' ordinate 0))
          (m.by_y, (along-y B B C half G g, (three_thirds, (two_halves, tt)))) tt),
    )

pub centroid_up : (X A B C G : Point) → IsAlong B B C half G → IsAlong A A G two_thirds X → IsCentroid X A B C
centroid_up X A B C G g c =
    record {
      by_x = geo_combination (A ∷ B ∷ C ∷ G ∷ X ∷ []) (two_thirds ∷ [])
          (fact (whole_number 3) (abscissa 4 -' abscissa 0) (given_number 0 *' (abscissa 3 -' abscissa 0))
          ∷ fact (whole_number 2) (abscissa 3 -' abscissa 1) (one_half *' (abscissa 2 -' abscissa 1)) ∷ fact (abscissa 3 -' abscissa 0)
          (whole_number 3 *' given_number 0) (whole_number 2) ∷ fact (abscissa 2 -' abscissa 1) (whole_number 2 *' one_half)
          (whole_number 1) ∷ []) (whole_number 3 *' abscissa 4) (abscissa 0 +' abscissa 1 +' abscissa 2)
          (along-x A A G two_thirds X c, (along-x B B C half G g, (three_thirds, (two_halves, tt)))) tt;
      by_y = geo_combination (A ∷ B ∷ C ∷ G ∷ X ∷ []) (two_thirds ∷ [])
          (fact (whole_number 3) (ordinate 4 -' ordinate 0) (given_number 0 *' (ordinate 3 -' ordinate 0))
          ∷ fact (whole_number 2) (ordinate 3 -' ordinate 1) (one_half *' (ordinate 2 -' ordinate 1)) ∷ fact (ordinate 3 -' ordinate 0)
          (whole_number 3 *' given_number 0) (whole_number 2) ∷ fact (ordinate 2 -' ordinate 1) (whole_number 2 *' one_half)
          (whole_number 1) ∷ []) (whole_number 3 *' ordinate 4) (ordinate 0 +' ordinate 1 +' ordinate 2)
          (along-y A A G two_thirds X c, (along-y B B C half G g, (three_thirds, (two_halves, tt)))) tt;
    }

pub halfway_down : (A X M : Point) → IsMidpoint M A X → IsAlong M A M one X
halfway_down A X M m =
    along_back M A M one X
    (geo_combination (A ∷ X ∷ M ∷ []) [] (fact (opposite' (whole_number 1)) (whole_number 2 *' abscissa 2) (abscissa 0 +' abscissa 1) ∷ [])
    (abscissa 1 -' abscissa 2) (whole_number 1 *' (abscissa 2 -' abscissa 0)) (m.by_x, tt) tt)
    (geo_combination (A ∷ X ∷ M ∷ []) [] (fact (opposite' (whole_number 1)) (whole_number 2 *' ordinate 2) (ordinate 0 +' ordinate 1) ∷ [])
    (ordinate 1 -' ordinate 2) (whole_number 1 *' (ordinate 2 -' ordinate 0)) (m.by_y, tt) tt)

pub halfway_up : (A X M : Point) → IsAlong M A M one X → IsMidpoint M A X
halfway_up A X M c =
    record {
      by_x = geo_combination (A ∷ X ∷ M ∷ []) []
          (fact (opposite' (whole_number 1)) (abscissa 1 -' abscissa 2) (whole_number 1 *' (abscissa 2 -' abscissa 0)) ∷ [])
          (whole_number 2 *' abscissa 2) (abscissa 0 +' abscissa 1) (along-x M A M one X c, tt) tt;
      by_y = geo_combination (A ∷ X ∷ M ∷ []) []
          (fact (opposite' (whole_number 1)) (ordinate 1 -' ordinate 2) (whole_number 1 *' (ordinate 2 -' ordinate 0)) ∷ [])
          (whole_number 2 *' ordinate 2) (ordinate 0 +' ordinate 1) (along-y M A M one X c, tt) tt;
    }

pub middle_unique : (A X L M : Point) → IsMidpoint L A X → IsMidpoint M A X → SamePoint L M
middle_unique A X L M l m =
    record {
      by_x = geo_combination (A ∷ X ∷ L ∷ M ∷ []) []
          (fact one_half (whole_number 2 *' abscissa 2) (abscissa 0 +' abscissa 1) ∷ fact (opposite' one_half)
          (whole_number 2 *' abscissa 3) (abscissa 0 +' abscissa 1) ∷ fact (abscissa 3 -' abscissa 2) (whole_number 2 *' one_half)
          (whole_number 1) ∷ []) (abscissa 2) (abscissa 3) (l.by_x, (m.by_x, (two_halves, tt))) tt;
      by_y = geo_combination (A ∷ X ∷ L ∷ M ∷ []) []
          (fact one_half (whole_number 2 *' ordinate 2) (ordinate 0 +' ordinate 1) ∷ fact (opposite' one_half)
          (whole_number 2 *' ordinate 3) (ordinate 0 +' ordinate 1) ∷ fact (ordinate 3 -' ordinate 2) (whole_number 2 *' one_half)
          (whole_number 1) ∷ []) (ordinate 2) (ordinate 3) (l.by_y, (m.by_y, (two_halves, tt))) tt;
    }

pub reflect_down_at : (X A P Q M : Point) → IsMidpoint M A X → cross_product P Q P M ≡ pos 0 → dot_product A X P Q ≡ pos 0 → Differ P Q → IsFoot A P Q M × IsAlong M A M one X
reflect_down_at X A P Q M m l q n = (
  record {
    on_line = l;
    perpendicular =
        dot_null A M P Q (geo_combination (A ∷ P ∷ Q ∷ X ∷ M ∷ []) []
        (fact (one_half *' (abscissa 2 -' abscissa 1)) (whole_number 2 *' abscissa 4) (abscissa 0 +' abscissa 3)
        ∷ fact (one_half *' (ordinate 2 -' ordinate 1)) (whole_number 2 *' ordinate 4) (ordinate 0 +' ordinate 3)
        ∷ fact one_half (dot' 0 3 1 2) (whole_number 0)
        ∷ fact (abscissa 0 *' abscissa 2 +' abscissa 1 *' abscissa 4 +' ordinate 0 *' ordinate 2 +' ordinate 1 *' ordinate 4
        -' abscissa 0 *' abscissa 1 -' abscissa 2 *' abscissa 4 -' ordinate 0 *' ordinate 1 -' ordinate 2 *' ordinate 4)
        (whole_number 2 *' one_half) (whole_number 1) ∷ []) (dot' 0 4 1 2) (whole_number 0)
        (m.by_x, (m.by_y, (dot_product-is A X P Q q, (two_halves, tt)))) tt);
    apart = apart P Q n;
  },
  halfway_down A X M m,
)

pub reflect_down : (X A P Q : Point) → IsReflection X A P Q → Differ P Q → (M : Point) × IsFoot A P Q M × IsAlong M A M one X
reflect_down X A P Q r n =
    let both = reflect_down_at X A P Q (middle A X) (middle-is A X) r.halfway r.perpendicular n in (middle A X, both.0, both.1)

pub reflect_up : (X A P Q M : Point) → IsFoot A P Q M → IsAlong M A M one X → IsReflection X A P Q
reflect_up X A P Q M f c =
    let m = halfway_up A X M c in
    record {
      halfway = cross_product-same P Q P M P Q P (middle A X) (self_point P) (self_point Q) (self_point P) (middle_unique A X M (middle A X) m (middle-is A X)) f.on_line;
      perpendicular =
          dot_null A X P Q (geo_combination (A ∷ P ∷ Q ∷ X ∷ M ∷ []) []
          (fact (opposite' (abscissa 2 -' abscissa 1)) (whole_number 2 *' abscissa 4) (abscissa 0 +' abscissa 3)
          ∷ fact (opposite' (ordinate 2 -' ordinate 1)) (whole_number 2 *' ordinate 4) (ordinate 0 +' ordinate 3)
          ∷ fact (whole_number 2) (dot' 0 4 1 2) (whole_number 0) ∷ []) (dot' 0 3 1 2) (whole_number 0)
          (m.by_x, (m.by_y, (dot_product-is A M P Q f.perpendicular, tt))) tt);
    }

pub chord_down : (O A B M X : Point) → Differ A X → IsMidpoint M A X → cross_product A B A X ≡ pos 0 → Same (squared_distance O X) (squared_distance O A) → dot_product O M A B ≡ pos 0
chord_down O A B M X n m l d =
    dot_null O M A B (geo_cancel (O ∷ A ∷ B ∷ M ∷ X ∷ []) []
    (fact (opposite' (cross' 1 4 0 3)) (cross' 1 2 1 4) (whole_number 0) ∷ fact (one_half *' dot' 1 4 1 2) (dot' 0 4 0 4) (dot' 0 1 0 1)
    ∷ fact (one_half *' dot' 1 4 1 2 *' (abscissa 4 -' abscissa 1)) (whole_number 2 *' abscissa 3) (abscissa 1 +' abscissa 4)
    ∷ fact (one_half *' dot' 1 4 1 2 *' (ordinate 4 -' ordinate 1)) (whole_number 2 *' ordinate 3) (ordinate 1 +' ordinate 4)
    ∷ fact (opposite' ((abscissa 1 *' abscissa 1 +' abscissa 2 *' abscissa 4 +' ordinate 1 *' ordinate 1 +' ordinate 2 *' ordinate 4
    -' abscissa 1 *' abscissa 2 -' abscissa 1 *' abscissa 4 -' ordinate 1 *' ordinate 2 -' ordinate 1 *' ordinate 4)
    *' (abscissa 0 *' abscissa 1 +' abscissa 3 *' abscissa 4 +' ordinate 0 *' ordinate 1 +' ordinate 3 *' ordinate 4
    -' abscissa 0 *' abscissa 4 -' abscissa 1 *' abscissa 3 -' ordinate 0 *' ordinate 4 -' ordinate 1 *' ordinate 3)))
    (whole_number 2 *' one_half) (whole_number 1) ∷ []) (dot' 0 3 1 2) (whole_number 0) (dot' 1 4 1 4) (length_nonzero A X n)
    (cross_product-is A B A X l, (d, (m.by_x, (m.by_y, (two_halves, tt))))) tt)

pub chord_line_down : (A B M X : Point) → IsMidpoint M A X → cross_product A B A X ≡ pos 0 → cross_product A B A M ≡ pos 0
chord_line_down A B M X m l =
    cross_null A B A M (geo_combination (A ∷ A ∷ B ∷ M ∷ X ∷ []) []
    (fact one_half (cross' 1 2 1 4) (whole_number 0) ∷ fact (one_half *' (abscissa 2 -' abscissa 1)) (whole_number 2 *' ordinate 3)
    (ordinate 1 +' ordinate 4) ∷ fact (opposite' (one_half *' (ordinate 2 -' ordinate 1))) (whole_number 2 *' abscissa 3)
    (abscissa 1 +' abscissa 4) ∷ fact
    (abscissa 1 *' ordinate 3 +' abscissa 2 *' ordinate 1 +' abscissa 3 *' ordinate 2 -' abscissa 1 *' ordinate 2
    -' abscissa 2 *' ordinate 3 -' abscissa 3 *' ordinate 1) (whole_number 2 *' one_half) (whole_number 1) ∷ []) (cross' 1 2 1 3)
    (whole_number 0) (cross_product-is A B A X l, (m.by_y, (m.by_x, (two_halves, tt)))) tt)

pub chord_line_up : (A B M X : Point) → IsMidpoint M A X → cross_product A B A M ≡ pos 0 → cross_product A B A X ≡ pos 0
chord_line_up A B M X m l =
    cross_null A B A X (geo_combination (A ∷ A ∷ B ∷ M ∷ X ∷ []) []
    (fact (whole_number 2) (cross' 1 2 1 3) (whole_number 0) ∷ fact (opposite' (abscissa 2 -' abscissa 1))
    (whole_number 2 *' ordinate 3) (ordinate 1 +' ordinate 4) ∷ fact (ordinate 2 -' ordinate 1) (whole_number 2 *' abscissa 3)
    (abscissa 1 +' abscissa 4) ∷ []) (cross' 1 2 1 4) (whole_number 0) (cross_product-is A B A M l, (m.by_y, (m.by_x, tt))) tt)

pub chord_up : (O A B M X : Point) → IsFoot O A B M → IsMidpoint M A X → Same (squared_distance O X) (squared_distance O A)
chord_up O A B M X f m =
    geo_cancel (O ∷ A ∷ B ∷ M ∷ X ∷ []) []
    (fact (whole_number 4 *' dot' 1 2 1 3) (dot' 0 3 1 2) (whole_number 0) ∷ fact (whole_number 4 *' cross' 1 2 0 3) (cross' 1 2 1 3)
    (whole_number 0) ∷ fact (opposite'
    ((abscissa 4 +' (whole_number 2 *' abscissa 3 -' abscissa 1) -' whole_number 2 *' abscissa 0) *' dot' 1 2 1 2))
    (whole_number 2 *' abscissa 3) (abscissa 1 +' abscissa 4)
    ∷ fact (opposite' ((ordinate 4 +' (whole_number 2 *' ordinate 3 -' ordinate 1) -' whole_number 2 *' ordinate 0) *' dot' 1 2 1 2))
    (whole_number 2 *' ordinate 3) (ordinate 1 +' ordinate 4) ∷ []) (dot' 0 4 0 4) (dot' 0 1 0 1) (dot' 1 2 1 2)
    (length_nonzero A B (differ A B f.apart))
    (dot_product-is O M A B f.perpendicular, (cross_product-is A B A M f.on_line, (m.by_x, (m.by_y, tt)))) tt

pub second_down : (X A B O : Point) → IsOnLineAndCircle X A B O → Differ A B → Differ A X → (M : Point) × IsFoot O A B M × IsAlong M A M one X
second_down X A B O s n d =
    let M = middle A X in let m = middle-is A X in
    (M, record { on_line = chord_line_down A B M X m s.on_line; perpendicular = chord_down O A B M X d m s.on_line s.distance; apart = apart A B n }, halfway_down A X M m)

pub second_up : (X A B O M : Point) → IsFoot O A B M → IsAlong M A M one X → IsOnLineAndCircle X A B O
second_up X A B O M f c =
    let m = halfway_up A X M c in record { on_line = chord_line_up A B M X m f.on_line; distance = chord_up O A B M X f m }

pub cc_down_at : (X O P A M : Point) → IsMidpoint M A X → IsOnBothCircles X O P A → Differ O P → Differ A X → IsFoot A O P M × IsAlong M A M one X
cc_down_at X O P A M m s n d = (
  record {
    on_line = cross_null O P O M (geo_cancel (O ∷ P ∷ A ∷ M ∷ X ∷ []) []
        (fact (one_half *' cross' 2 4 1 3) (dot' 0 4 0 4) (dot' 0 2 0 2) ∷ fact (opposite' (one_half *' cross' 2 4 0 3)) (dot' 1 4 1 4)
        (dot' 1 2 1 2) ∷ fact (one_half *' (cross' 2 4 1 3 -' cross' 2 4 0 3) *' (abscissa 4 -' abscissa 2)) (whole_number 2 *' abscissa 3)
        (abscissa 2 +' abscissa 4) ∷ fact (one_half *' (cross' 2 4 1 3 -' cross' 2 4 0 3) *' (ordinate 4 -' ordinate 2))
        (whole_number 2 *' ordinate 3) (ordinate 2 +' ordinate 4)
        ∷ fact (opposite' ((abscissa 2 *' abscissa 2 +' abscissa 4 *' abscissa 4 +' ordinate 2 *' ordinate 2 +' ordinate 4 *' ordinate 4
        -' whole_number 2 *' abscissa 2 *' abscissa 4 -' whole_number 2 *' ordinate 2 *' ordinate 4)
        *' (abscissa 0 *' ordinate 1 +' abscissa 1 *' ordinate 3 +' abscissa 3 *' ordinate 0 -' abscissa 0 *' ordinate 3
        -' abscissa 1 *' ordinate 0 -' abscissa 3 *' ordinate 1))) (whole_number 2 *' one_half) (whole_number 1) ∷ []) (cross' 0 1 0 3)
        (whole_number 0) (dot' 2 4 2 4) (length_nonzero A X d) (s.first, (s.second, (m.by_x, (m.by_y, (two_halves, tt))))) tt);
    perpendicular =
        dot_null A M O P (geo_combination (O ∷ P ∷ A ∷ M ∷ X ∷ []) []
        (fact (one_half *' one_half) (dot' 0 4 0 4) (dot' 0 2 0 2) ∷ fact (opposite' (one_half *' one_half)) (dot' 1 4 1 4) (dot' 1 2 1 2)
        ∷ fact (one_half *' (abscissa 1 -' abscissa 0)) (whole_number 2 *' abscissa 3) (abscissa 2 +' abscissa 4)
        ∷ fact (one_half *' (ordinate 1 -' ordinate 0)) (whole_number 2 *' ordinate 3) (ordinate 2 +' ordinate 4)
        ∷ fact (one_half *' abscissa 0 *' abscissa 4 +' one_half *' abscissa 1 *' abscissa 2 +' one_half *' ordinate 0 *' ordinate 4
        +' one_half *' ordinate 1 *' ordinate 2 +' abscissa 0 *' abscissa 3 +' abscissa 1 *' abscissa 2 +' ordinate 0 *' ordinate 3
        +' ordinate 1 *' ordinate 2 -' one_half *' abscissa 0 *' abscissa 2 -' one_half *' abscissa 1 *' abscissa 4
        -' one_half *' ordinate 0 *' ordinate 2 -' one_half *' ordinate 1 *' ordinate 4 -' abscissa 0 *' abscissa 2
        -' abscissa 1 *' abscissa 3 -' ordinate 0 *' ordinate 2 -' ordinate 1 *' ordinate 3) (whole_number 2 *' one_half) (whole_number 1)
        ∷ []) (dot' 2 3 0 1) (whole_number 0) (s.first, (s.second, (m.by_x, (m.by_y, (two_halves, tt))))) tt);
    apart = apart O P n;
  },
  halfway_down A X M m,
)

pub cc_down : (X O P A : Point) → IsOnBothCircles X O P A → Differ O P → Differ A X → (M : Point) × IsFoot A O P M × IsAlong M A M one X
cc_down X O P A s n d =
    let both = cc_down_at X O P A (middle A X) (middle-is A X) s n d in (middle A X, both.0, both.1)

pub cc_up : (X O P A M : Point) → IsFoot A O P M → IsAlong M A M one X → IsOnBothCircles X O P A
cc_up X O P A M f c =
    let m = halfway_up A X M c in
    record {
      first = geo_cancel (O ∷ P ∷ A ∷ M ∷ X ∷ []) []
          (fact (whole_number 4 *' dot' 0 1 0 3) (dot' 2 3 0 1) (whole_number 0) ∷ fact (whole_number 4 *' cross' 0 1 2 3) (cross' 0 1 0 3)
          (whole_number 0) ∷ fact (opposite'
          ((abscissa 4 +' (whole_number 2 *' abscissa 3 -' abscissa 2) -' whole_number 2 *' abscissa 0) *' dot' 0 1 0 1))
          (whole_number 2 *' abscissa 3) (abscissa 2 +' abscissa 4)
          ∷ fact (opposite' ((ordinate 4 +' (whole_number 2 *' ordinate 3 -' ordinate 2) -' whole_number 2 *' ordinate 0) *' dot' 0 1 0 1))
          (whole_number 2 *' ordinate 3) (ordinate 2 +' ordinate 4) ∷ []) (dot' 0 4 0 4) (dot' 0 2 0 2) (dot' 0 1 0 1)
          (length_nonzero O P (differ O P f.apart))
          (dot_product-is A M O P f.perpendicular, (cross_product-is O P O M f.on_line, (m.by_x, (m.by_y, tt)))) tt;
      second = geo_cancel (O ∷ P ∷ A ∷ M ∷ X ∷ []) []
          (fact (whole_number 4 *' dot' 0 1 1 3) (dot' 2 3 0 1) (whole_number 0) ∷ fact (whole_number 4 *' cross' 0 1 2 3) (cross' 0 1 0 3)
          (whole_number 0) ∷ fact (opposite'
          ((abscissa 4 +' (whole_number 2 *' abscissa 3 -' abscissa 2) -' whole_number 2 *' abscissa 1) *' dot' 0 1 0 1))
          (whole_number 2 *' abscissa 3) (abscissa 2 +' abscissa 4)
          ∷ fact (opposite' ((ordinate 4 +' (whole_number 2 *' ordinate 3 -' ordinate 2) -' whole_number 2 *' ordinate 1) *' dot' 0 1 0 1))
          (whole_number 2 *' ordinate 3) (ordinate 2 +' ordinate 4) ∷ []) (dot' 1 4 1 4) (dot' 1 2 1 2) (dot' 0 1 0 1)
          (length_nonzero O P (differ O P f.apart))
          (dot_product-is A M O P f.perpendicular, (cross_product-is O P O M f.on_line, (m.by_x, (m.by_y, tt)))) tt;
    }

pub aligned_down : (X O A T : Point) (t : Fraction) → IsTurned O A t T → IsOnCircle X O A t → cross_product A T A X ≡ pos 0
aligned_down X O A T t u s =
    cross_null A T A X (geo_combination (O ∷ A ∷ X ∷ T ∷ []) (t ∷ [])
    (fact (opposite' (whole_number 1))
    ((abscissa 2 -' abscissa 1) *' (ordinate 0 -' ordinate 1 +' given_number 0 *' (abscissa 1 -' abscissa 0))
    -' (ordinate 2 -' ordinate 1) *' (abscissa 0 -' abscissa 1 -' given_number 0 *' (ordinate 1 -' ordinate 0))) (whole_number 0)
    ∷ fact (ordinate 2 -' ordinate 1) (abscissa 3 -' abscissa 0) (opposite' (given_number 0 *' (ordinate 1 -' ordinate 0)))
    ∷ fact (opposite' (abscissa 2 -' abscissa 1)) (ordinate 3 -' ordinate 0) (given_number 0 *' (abscissa 1 -' abscissa 0)) ∷ [])
    (cross' 1 3 1 2) (whole_number 0) (s.aligned, (turned-x O A t T u, (turned-y O A t T u, tt))) tt)

pub aligned_up : (X O A T : Point) (t : Fraction) → IsTurned O A t T → cross_product A T A X ≡ pos 0
    → Same (minus (times (run A X) (plus (rise A O) (times t (run O A)))) (times (rise A X) (minus (run A O) (times t (rise O A))))) (whole (pos 0))
aligned_up X O A T t u l =
    geo_combination (O ∷ A ∷ X ∷ T ∷ []) (t ∷ [])
    (fact (opposite' (whole_number 1)) (cross' 1 3 1 2) (whole_number 0) ∷ fact (ordinate 2 -' ordinate 1) (abscissa 3 -' abscissa 0)
    (opposite' (given_number 0 *' (ordinate 1 -' ordinate 0))) ∷ fact (opposite' (abscissa 2 -' abscissa 1)) (ordinate 3 -' ordinate 0)
    (given_number 0 *' (abscissa 1 -' abscissa 0)) ∷ [])
    ((abscissa 2 -' abscissa 1) *' (ordinate 0 -' ordinate 1 +' given_number 0 *' (abscissa 1 -' abscissa 0))
    -' (ordinate 2 -' ordinate 1) *' (abscissa 0 -' abscissa 1 -' given_number 0 *' (ordinate 1 -' ordinate 0))) (whole_number 0)
    (cross_product-is A T A X l, (turned-x O A t T u, (turned-y O A t T u, tt))) tt

pub turned_differ : (O A T : Point) (t : Fraction) → Differ O A → IsTurned O A t T → Differ A T
turned_differ O A T t n u s =
    not_same (dot_of O A O A) (length_nonzero O A n)
    (geo_combination (O ∷ A ∷ T ∷ []) (t ∷ [])
    (fact (abscissa 1 -' abscissa 0) (abscissa 1) (abscissa 2) ∷ fact (ordinate 1 -' ordinate 0) (ordinate 1) (ordinate 2)
    ∷ fact (abscissa 1 -' abscissa 0) (abscissa 2 -' abscissa 0) (opposite' (given_number 0 *' (ordinate 1 -' ordinate 0)))
    ∷ fact (ordinate 1 -' ordinate 0) (ordinate 2 -' ordinate 0) (given_number 0 *' (abscissa 1 -' abscissa 0)) ∷ []) (dot' 0 1 0 1)
    (whole_number 0) (s.by_x, (s.by_y, (turned-x O A t T u, (turned-y O A t T u, tt)))) tt)

pub corner_differ : (O A X : Point) → (cross_product O A O X ≡ pos 0 → ⊥) → Differ A X
corner_differ O A X n s =
    n (cross_null O A O X (geo_combination (O ∷ A ∷ X ∷ []) []
    (fact (ordinate 1 -' ordinate 0) (abscissa 1) (abscissa 2) ∷ fact (opposite' (abscissa 1 -' abscissa 0)) (ordinate 1) (ordinate 2)
    ∷ []) (cross' 0 1 0 2) (whole_number 0) (s.by_x, (s.by_y, tt)) tt))

pub oncircle_down : (X O A : Point) (t : Fraction) → IsOnCircle X O A t → Differ O A → (cross_product O A O X ≡ pos 0 → ⊥)
    → (T : Point) × (M : Point) × IsTurned O A t T × IsFoot O A T M × IsAlong M A M one X
oncircle_down X O A t s n c =
    let made = turned_exists O A t in let T = made.0 in let u = made.1 in
    let M = middle A X in let m = middle-is A X in let l = aligned_down X O A T t u s in (
      T,
      M,
      u,
      record { on_line = chord_line_down A T M X m l; perpendicular = chord_down O A T M X (corner_differ O A X c) m l s.distance; apart = apart A T (turned_differ O A T t n u) },
      halfway_down A X M m,
    )

pub oncircle_up : (X O A : Point) (t : Fraction) (T M : Point) → IsTurned O A t T → IsFoot O A T M → IsAlong M A M one X → IsOnCircle X O A t
oncircle_up X O A t T M u f c =
    let m = halfway_up A X M c in
    record { distance = chord_up O A T M X f m; aligned = aligned_up X O A T t u (chord_line_up A T M X m f.on_line) }

pub inverse_down : (X P O A : Point) → IsInverse X P O A → Differ O P → IsAlong O O P (quotient (pythagoras_difference O A O) (pythagoras_difference O P O)) X
inverse_down X P O A s n =
    let z = far O P n in let k = quotient (pythagoras_difference O A O) (pythagoras_difference O P O) in let e = quotient-times (pythagoras_difference O A O) (pythagoras_difference O P O) z in
    along_back O O P k X
    (geo_cancel (P ∷ O ∷ A ∷ X ∷ []) (k ∷ [])
    (fact (whole_number 2 *' (abscissa 0 -' abscissa 1)) (dot' 1 3 1 0) (dot' 1 2 1 2)
    ∷ fact (opposite' (whole_number 2) *' (ordinate 0 -' ordinate 1)) (cross' 1 0 1 3) (whole_number 0)
    ∷ fact (opposite' (abscissa 0 -' abscissa 1)) (given_number 0 *' pythagoras 1 0 1) (pythagoras 1 2 1) ∷ [])
    (abscissa 3 -' abscissa 1) (given_number 0 *' (abscissa 0 -' abscissa 1)) (pythagoras 1 0 1) z
    (s.product, (cross_product-is O P O X s.on_line, (e, tt))) tt)
    (geo_cancel (P ∷ O ∷ A ∷ X ∷ []) (k ∷ [])
    (fact (whole_number 2 *' (ordinate 0 -' ordinate 1)) (dot' 1 3 1 0) (dot' 1 2 1 2)
    ∷ fact (whole_number 2 *' (abscissa 0 -' abscissa 1)) (cross' 1 0 1 3) (whole_number 0)
    ∷ fact (opposite' (ordinate 0 -' ordinate 1)) (given_number 0 *' pythagoras 1 0 1) (pythagoras 1 2 1) ∷ [])
    (ordinate 3 -' ordinate 1) (given_number 0 *' (ordinate 0 -' ordinate 1)) (pythagoras 1 0 1) z
    (s.product, (cross_product-is O P O X s.on_line, (e, tt))) tt)

pub inverse_up : (X P O A : Point) → Differ O P → IsAlong O O P (quotient (pythagoras_difference O A O) (pythagoras_difference O P O)) X → IsInverse X P O A
inverse_up X P O A n c =
    let k = quotient (pythagoras_difference O A O) (pythagoras_difference O P O) in let e = quotient-times (pythagoras_difference O A O) (pythagoras_difference O P O) (far O P n) in
    record {
      on_line = cross_null O P O X (geo_combination (P ∷ O ∷ A ∷ X ∷ []) (k ∷ [])
          (fact (opposite' (ordinate 0 -' ordinate 1)) (abscissa 3 -' abscissa 1) (given_number 0 *' (abscissa 0 -' abscissa 1))
          ∷ fact (abscissa 0 -' abscissa 1) (ordinate 3 -' ordinate 1) (given_number 0 *' (ordinate 0 -' ordinate 1)) ∷ []) (cross' 1 0 1 3)
          (whole_number 0) (along-x O O P k X c, (along-y O O P k X c, tt)) tt);
      product = geo_combination (P ∷ O ∷ A ∷ X ∷ []) (k ∷ [])
          (fact (abscissa 0 -' abscissa 1) (abscissa 3 -' abscissa 1) (given_number 0 *' (abscissa 0 -' abscissa 1))
          ∷ fact (ordinate 0 -' ordinate 1) (ordinate 3 -' ordinate 1) (given_number 0 *' (ordinate 0 -' ordinate 1))
          ∷ fact one_half (given_number 0 *' pythagoras 1 0 1) (pythagoras 1 2 1)
          ∷ fact (whole_number 2 *' given_number 0 *' abscissa 0 *' abscissa 1
          +' whole_number 2 *' given_number 0 *' ordinate 0 *' ordinate 1 +' abscissa 1 *' abscissa 1 +' abscissa 2 *' abscissa 2
          +' ordinate 1 *' ordinate 1 +' ordinate 2 *' ordinate 2 -' whole_number 2 *' abscissa 1 *' abscissa 2
          -' whole_number 2 *' ordinate 1 *' ordinate 2 -' given_number 0 *' (abscissa 0 *' abscissa 0)
          -' given_number 0 *' (abscissa 1 *' abscissa 1) -' given_number 0 *' (ordinate 0 *' ordinate 0)
          -' given_number 0 *' (ordinate 1 *' ordinate 1)) (whole_number 2 *' one_half) (whole_number 1) ∷ []) (dot' 1 3 1 0) (dot' 1 2 1 2)
          (along-x O O P k X c, (along-y O O P k X c, (e, (two_halves, tt)))) tt;
    }
