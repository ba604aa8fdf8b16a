-- The centres of a triangle, and the numbers of points on a line and on a circle.
use Rattle.std.proofs.Common.{◌≡◌, pos, [], ◌∷◌}
use Rattle.ring_laws.specs.Solver.{variable, numeral, ◌⊠◌, entry_at}
use Rattle.ring_laws.proofs.Combination.{by_combination}
use Rattle.ring_laws.specs.Fraction.{Fraction, Same, whole, negated, times}
use Rattle.geo_points.specs.Points.{squared_distance, Point, cross_product, dot_product}
use Rattle.geo_points.specs.Steps.{IsAlong, IsCrossing, IsFoot, IsTurned}
use Rattle.geo_points.proofs.AreaRows.{cross', two_halves}
use Rattle.geo_points.proofs.Expressions.{abscissa, ordinate, whole_number, one_half, given_number, ◌+'◌, ◌-'◌, ◌*'◌, opposite', half, fact}
use Rattle.ring_laws.proofs.Fractions.{fractions}
use Rattle.geo_points.proofs.Geometry.{geo_combination}
use Rattle.ring_laws.proofs.Quotients.{cancel_fraction}
use Rattle.geo_points.proofs.Placed.{along_exists}
use Rattle.geo_points.proofs.Steps.{along-x, along-y}
use Rattle.geo_points.specs.Vectors.{Differ, run, rise}
use Rattle.geo_lowering.specs.Relations.{one, IsCircumcenter, IsOrthocenter, IsOnCircle}
use Rattle.geo_points.proofs.Coordinates.{dot', dot_null}
use Rattle.geo_points.proofs.Lines.{cross_of, dot_of, cross_product-is, dot_product-is, turned-x, turned-y, cross_null}
use Rattle.geo_points.proofs.Zeros.{not_same, geo_cancel, differ}
use Rattle.geo_points.proofs.Making.{cross_nonzero, length_nonzero, foot_exists, turned_exists}
use Rattle.geo_lowering.proofs.Commands.{corner_differ}

zeros : (a : Fraction) → Same (whole (pos 0)) (times (times (whole (pos 0)) a) a)
zeros a = by_combination fractions (entry_at fractions (a ∷ [])) [] (numeral 0) (numeral 0 ⊠ variable 0 ⊠ variable 0) tt tt

pub circumcenter_apart : (A B C D E F G : Point) → IsAlong A A B half D → IsTurned D B one E → IsAlong A A C half F → IsTurned F C one G
    → (cross_product A B A C ≡ pos 0 → ⊥) → cross_product D E F G ≡ pos 0 → ⊥
circumcenter_apart A B C D E F G d' e' f' g' n z =
    n (cross_null A B A C (geo_combination (A ∷ B ∷ C ∷ A ∷ D ∷ E ∷ F ∷ G ∷ []) []
    (fact (whole_number 4) (cross' 4 5 6 7) (whole_number 0) ∷ fact (whole_number 4 *' (ordinate 6 -' ordinate 7))
    (abscissa 5 -' abscissa 4) (opposite' (whole_number 1 *' (ordinate 1 -' ordinate 4)))
    ∷ fact (opposite' (whole_number 4) *' (abscissa 6 -' abscissa 7)) (ordinate 5 -' ordinate 4)
    (whole_number 1 *' (abscissa 1 -' abscissa 4)) ∷ fact (whole_number 4 *' (abscissa 1 -' abscissa 4)) (abscissa 7 -' abscissa 6)
    (opposite' (whole_number 1 *' (ordinate 2 -' ordinate 6))) ∷ fact (whole_number 4 *' (ordinate 1 -' ordinate 4))
    (ordinate 7 -' ordinate 6) (whole_number 1 *' (abscissa 2 -' abscissa 6)) ∷ fact (whole_number 4 *' (ordinate 2 -' ordinate 6))
    (abscissa 4 -' abscissa 0) (one_half *' (abscissa 1 -' abscissa 0))
    ∷ fact (opposite' (whole_number 4) *' (abscissa 2 -' abscissa 6)) (ordinate 4 -' ordinate 0)
    (one_half *' (ordinate 1 -' ordinate 0))
    ∷ fact (opposite' (whole_number 4) *' (one_half -' whole_number 1) *' (ordinate 0 -' ordinate 1)) (abscissa 6 -' abscissa 0)
    (one_half *' (abscissa 2 -' abscissa 0)) ∷ fact (whole_number 4 *' (one_half -' whole_number 1) *' (abscissa 0 -' abscissa 1))
    (ordinate 6 -' ordinate 0) (one_half *' (ordinate 2 -' ordinate 0))
    ∷ fact (opposite' ((whole_number 2 *' one_half -' whole_number 3)
    *' (abscissa 0 *' ordinate 1 +' abscissa 1 *' ordinate 2 +' abscissa 2 *' ordinate 0 -' abscissa 0 *' ordinate 2
    -' abscissa 1 *' ordinate 0 -' abscissa 2 *' ordinate 1))) (whole_number 2 *' one_half) (whole_number 1) ∷ []) (cross' 0 1 0 2)
    (whole_number 0) (
      cross_product-is D E F G z,
      (
        turned-x D B one E e',
        (
          turned-y D B one E e',
          (
            turned-x F C one G g',
            (
              turned-y F C one G g',
              (along-x A A B half D d', (along-y A A B half D d', (along-x A A C half F f', (along-y A A C half F f', (two_halves, tt))))),
            ),
          ),
        ),
      ),
    )
    tt))

pub bisector_down : (A B X D E : Point) → IsAlong A A B half D → IsTurned D B one E → Same (squared_distance X A) (squared_distance X B) → cross_product D E D X ≡ pos 0
bisector_down A B X D E d' e' s =
    cross_null D E D X (geo_combination (A ∷ B ∷ A ∷ X ∷ D ∷ E ∷ []) []
    (fact (opposite' (one_half *' one_half)) (dot' 3 0 3 0) (dot' 3 1 3 1) ∷ fact (ordinate 3 -' ordinate 4) (abscissa 5 -' abscissa 4)
    (opposite' (whole_number 1 *' (ordinate 1 -' ordinate 4))) ∷ fact (abscissa 4 -' abscissa 3) (ordinate 5 -' ordinate 4)
    (whole_number 1 *' (abscissa 1 -' abscissa 4))
    ∷ fact (one_half *' abscissa 0 +' abscissa 1 +' abscissa 3 -' one_half *' abscissa 1 -' abscissa 0 -' abscissa 4)
    (abscissa 4 -' abscissa 0) (one_half *' (abscissa 1 -' abscissa 0))
    ∷ fact (one_half *' ordinate 0 +' ordinate 1 +' ordinate 3 -' one_half *' ordinate 1 -' ordinate 0 -' ordinate 4)
    (ordinate 4 -' ordinate 0) (one_half *' (ordinate 1 -' ordinate 0))
    ∷ fact (one_half *' abscissa 0 *' abscissa 1 +' one_half *' abscissa 1 *' abscissa 3 +' one_half *' ordinate 0 *' ordinate 1
    +' one_half *' ordinate 1 *' ordinate 3 +' abscissa 0 *' abscissa 0 +' abscissa 1 *' abscissa 3 +' ordinate 0 *' ordinate 0
    +' ordinate 1 *' ordinate 3 -' one_half *' abscissa 0 *' abscissa 3 -' one_half *' (abscissa 1 *' abscissa 1)
    -' one_half *' ordinate 0 *' ordinate 3 -' one_half *' (ordinate 1 *' ordinate 1) -' abscissa 0 *' abscissa 1
    -' abscissa 0 *' abscissa 3 -' ordinate 0 *' ordinate 1 -' ordinate 0 *' ordinate 3) (whole_number 2 *' one_half) (whole_number 1)
    ∷ []) (cross' 4 5 4 3) (whole_number 0)
    (s, (turned-x D B one E e', (turned-y D B one E e', (along-x A A B half D d', (along-y A A B half D d', (two_halves, tt)))))) tt)

pub bisector_up : (A B X D E : Point) → IsAlong A A B half D → IsTurned D B one E → cross_product D E D X ≡ pos 0 → Same (squared_distance X A) (squared_distance X B)
bisector_up A B X D E d' e' l =
    geo_combination (A ∷ B ∷ A ∷ X ∷ D ∷ E ∷ []) []
    (fact (opposite' (whole_number 4)) (cross' 4 5 4 3) (whole_number 0) ∷ fact (whole_number 4 *' (ordinate 3 -' ordinate 4))
    (abscissa 5 -' abscissa 4) (opposite' (whole_number 1 *' (ordinate 1 -' ordinate 4)))
    ∷ fact (opposite' (whole_number 4) *' (abscissa 3 -' abscissa 4)) (ordinate 5 -' ordinate 4)
    (whole_number 1 *' (abscissa 1 -' abscissa 4))
    ∷ fact (whole_number 4 *' (one_half *' abscissa 0 +' abscissa 1 +' abscissa 3 -' one_half *' abscissa 1 -' abscissa 0
    -' abscissa 4)) (abscissa 4 -' abscissa 0) (one_half *' (abscissa 1 -' abscissa 0))
    ∷ fact (whole_number 4 *' (one_half *' ordinate 0 +' ordinate 1 +' ordinate 3 -' one_half *' ordinate 1 -' ordinate 0
    -' ordinate 4)) (ordinate 4 -' ordinate 0) (one_half *' (ordinate 1 -' ordinate 0))
    ∷ fact (whole_number 2 *' abscissa 1 *' abscissa 3 +' whole_number 2 *' ordinate 1 *' ordinate 3
    +' whole_number 3 *' (abscissa 0 *' abscissa 0) +' whole_number 3 *' (ordinate 0 *' ordinate 0)
    +' whole_number 4 *' one_half *' abscissa 0 *' abscissa 1 +' whole_number 4 *' one_half *' ordinate 0 *' ordinate 1
    +' abscissa 1 *' abscissa 1 +' ordinate 1 *' ordinate 1 -' whole_number 2 *' one_half *' (abscissa 0 *' abscissa 0)
    -' whole_number 2 *' one_half *' (abscissa 1 *' abscissa 1) -' whole_number 2 *' one_half *' (ordinate 0 *' ordinate 0)
    -' whole_number 2 *' one_half *' (ordinate 1 *' ordinate 1) -' whole_number 2 *' abscissa 0 *' abscissa 3
    -' whole_number 2 *' ordinate 0 *' ordinate 3 -' whole_number 4 *' abscissa 0 *' abscissa 1
    -' whole_number 4 *' ordinate 0 *' ordinate 1) (whole_number 2 *' one_half) (whole_number 1) ∷ []) (dot' 3 0 3 0) (dot' 3 1 3 1) (
      cross_product-is D E D X l,
      (
        turned-x D B one E e',
        (turned-y D B one E e', (along-x A A B half D d', (along-y A A B half D d', (two_halves, tt)))),
      ),
    ) tt

pub circumcenter_down : (X A B C : Point) → IsCircumcenter X A B C → (cross_product A B A C ≡ pos 0 → ⊥)
    → (D : Point) × (E : Point) × (F : Point) × (G : Point) × IsAlong A A B half D × IsTurned D B one E × IsAlong A A C half F × IsTurned F C one G × IsCrossing D E F G X
circumcenter_down X A B C s n =
    let d = along_exists A A B half in let D = d.0 in
    let e = turned_exists D B one in let E = e.0 in
    let f = along_exists A A C half in let F = f.0 in
    let g = turned_exists F C one in let G = g.0 in (
      D,
      E,
      F,
      G,
      d.1,
      e.1,
      f.1,
      g.1,
      record {
        on_first = bisector_down A B X D E d.1 e.1 s.first;
        on_second = bisector_down A C X F G f.1 g.1 (fractions.same_trans _ _ _ s.first s.second);
        crosses = circumcenter_apart A B C D E F G d.1 e.1 f.1 g.1 n;
      },
    )

pub circumcenter_up : (X A B C D E F G : Point) → IsAlong A A B half D → IsTurned D B one E → IsAlong A A C half F → IsTurned F C one G
    → IsCrossing D E F G X → IsCircumcenter X A B C
circumcenter_up X A B C D E F G d' e' f' g' c =
    let s = bisector_up A B X D E d' e' c.on_first in
    record { first = s; second = fractions.same_trans _ _ _ (fractions.same_sym _ _ s) (bisector_up A C X F G f' g' c.on_second) }

pub crossing_differ_first : (U V P Q : Point) → (cross_product U V P Q ≡ pos 0 → ⊥) → Differ U V
crossing_differ_first U V P Q n s =
    n (cross_null U V P Q (geo_combination (U ∷ V ∷ P ∷ Q ∷ []) []
    (fact (abscissa 3 -' abscissa 2) (ordinate 0) (ordinate 1) ∷ fact (opposite' (ordinate 3 -' ordinate 2)) (abscissa 0) (abscissa 1)
    ∷ []) (cross' 0 1 2 3) (whole_number 0) (s.by_y, (s.by_x, tt)) tt))

pub crossing_differ_second : (U V P Q : Point) → (cross_product U V P Q ≡ pos 0 → ⊥) → Differ P Q
crossing_differ_second U V P Q n s =
    n (cross_null U V P Q (geo_combination (U ∷ V ∷ P ∷ Q ∷ []) []
    (fact (opposite' (abscissa 1 -' abscissa 0)) (ordinate 2) (ordinate 3) ∷ fact (ordinate 1 -' ordinate 0) (abscissa 2) (abscissa 3)
    ∷ []) (cross' 0 1 2 3) (whole_number 0) (s.by_y, (s.by_x, tt)) tt))

pub altitude_down : (A B C X D : Point) → IsFoot A B C D → dot_product A X C B ≡ pos 0 → cross_product A D A X ≡ pos 0
altitude_down A B C X D f s =
    cross_null A D A X (geo_cancel (A ∷ B ∷ C ∷ X ∷ D ∷ []) []
    (fact (cross' 1 2 0 3) (dot' 0 4 1 2) (whole_number 0) ∷ fact (opposite' (cross' 0 4 1 2)) (dot' 0 3 2 1) (whole_number 0) ∷ [])
    (cross' 0 4 0 3) (whole_number 0) (dot' 1 2 1 2) (length_nonzero B C (differ B C f.apart))
    (dot_product-is A D B C f.perpendicular, (dot_product-is A X C B s, tt)) tt)

pub altitude_up : (A B C X D : Point) → Differ A D → IsFoot A B C D → cross_product A D A X ≡ pos 0 → dot_product A X C B ≡ pos 0
altitude_up A B C X D n f l =
    dot_null A X C B (geo_cancel (A ∷ B ∷ C ∷ X ∷ D ∷ []) []
    (fact (opposite' (dot' 0 4 0 3)) (dot' 0 4 1 2) (whole_number 0) ∷ fact (cross' 0 4 2 1) (cross' 0 4 0 3) (whole_number 0) ∷ [])
    (dot' 0 3 2 1) (whole_number 0) (dot' 0 4 0 4) (length_nonzero A D n)
    (dot_product-is A D B C f.perpendicular, (cross_product-is A D A X l, tt)) tt)

pub record Drops (P U V Y : Point) : Type 0 where
  pub by_x : Same (times (dot_of U V U V) (run P Y)) (times (cross_of U V U P) (rise U V))
  pub by_y : Same (times (dot_of U V U V) (rise P Y)) (negated (times (cross_of U V U P) (run U V)))

pub foot-drops : (P U V Y : Point) → IsFoot P U V Y → Drops P U V Y
foot-drops P U V Y f =
    record {
      by_x = geo_combination (P ∷ U ∷ V ∷ Y ∷ []) []
          (fact (abscissa 2 -' abscissa 1) (dot' 0 3 1 2) (whole_number 0) ∷ fact (opposite' (ordinate 2 -' ordinate 1)) (cross' 1 2 1 3)
          (whole_number 0) ∷ []) (dot' 1 2 1 2 *' (abscissa 3 -' abscissa 0)) (cross' 1 2 1 0 *' (ordinate 2 -' ordinate 1))
          (dot_product-is P Y U V f.perpendicular, (cross_product-is U V U Y f.on_line, tt)) tt;
      by_y =
          geo_combination (P ∷ U ∷ V ∷ Y ∷ []) []
          (fact (ordinate 2 -' ordinate 1) (dot' 0 3 1 2) (whole_number 0) ∷ fact (abscissa 2 -' abscissa 1) (cross' 1 2 1 3) (whole_number 0)
          ∷ []) (dot' 1 2 1 2 *' (ordinate 3 -' ordinate 0)) (opposite' (cross' 1 2 1 0 *' (abscissa 2 -' abscissa 1)))
          (dot_product-is P Y U V f.perpendicular, (cross_product-is U V U Y f.on_line, tt)) tt;
    }

pub orthocenter_apart : (A B C D E : Point) → IsFoot A B C D → IsFoot B A C E → (cross_product A B A C ≡ pos 0 → ⊥) → cross_product A D B E ≡ pos 0 → ⊥
orthocenter_apart A B C D E f g n z =
    let u = foot-drops A B C D f in let w = foot-drops B A C E g in
    let m = cross_nonzero A B A C n in
    let cube = geo_combination (A ∷ B ∷ C ∷ D ∷ E ∷ []) []
    (fact (dot' 1 2 1 2 *' dot' 0 2 0 2) (cross' 0 3 1 4) (whole_number 0)
    ∷ fact (opposite' (dot' 0 2 0 2 *' (ordinate 4 -' ordinate 1))) (dot' 1 2 1 2 *' (abscissa 3 -' abscissa 0))
    (cross' 1 2 1 0 *' (ordinate 2 -' ordinate 1)) ∷ fact (opposite' (cross' 1 2 1 0 *' (ordinate 2 -' ordinate 1)))
    (dot' 0 2 0 2 *' (ordinate 4 -' ordinate 1)) (opposite' (cross' 0 2 0 1 *' (abscissa 2 -' abscissa 0)))
    ∷ fact (dot' 0 2 0 2 *' (abscissa 4 -' abscissa 1)) (dot' 1 2 1 2 *' (ordinate 3 -' ordinate 0))
    (opposite' (cross' 1 2 1 0 *' (abscissa 2 -' abscissa 1))) ∷ fact (opposite' (cross' 1 2 1 0 *' (abscissa 2 -' abscissa 1)))
    (dot' 0 2 0 2 *' (abscissa 4 -' abscissa 1)) (cross' 0 2 0 1 *' (ordinate 2 -' ordinate 0)) ∷ [])
    (cross' 0 1 0 2 *' cross' 0 1 0 2 *' cross' 0 1 0 2) (whole_number 0)
    (cross_product-is A D B E z, (u.by_x, (w.by_y, (u.by_y, (w.by_x, tt))))) tt in
    not_same (cross_of A B A C) m
    (cancel_fraction (cross_of A B A C) (whole (pos 0)) (cross_of A B A C) m
    (cancel_fraction (times (cross_of A B A C) (cross_of A B A C)) (times (whole (pos 0)) (cross_of A B A C)) (cross_of A B A C) m
    (fractions.same_trans _ _ _ cube (zeros (cross_of A B A C)))))

pub corner_side : (A B C : Point) → (cross_product A B A C ≡ pos 0 → ⊥) → Differ A C
corner_side A B C n s =
    n (cross_null A B A C (geo_combination (A ∷ B ∷ C ∷ []) []
    (fact (opposite' (abscissa 1 -' abscissa 0)) (ordinate 0) (ordinate 2) ∷ fact (ordinate 1 -' ordinate 0) (abscissa 0) (abscissa 2)
    ∷ []) (cross' 0 1 0 2) (whole_number 0) (s.by_y, (s.by_x, tt)) tt))

pub orthocenter_down : (X A B C : Point) → IsOrthocenter X A B C → (cross_product A B A C ≡ pos 0 → ⊥) → (D : Point) × (E : Point) × IsFoot A B C D × IsFoot B A C E × IsCrossing A D B E X
orthocenter_down X A B C s n =
    let d = foot_exists A B C (corner_differ A B C n) in let D = d.0 in
    let e = foot_exists B A C (corner_side A B C n) in let E = e.0 in (
      D,
      E,
      d.1,
      e.1,
      record {
        on_first = altitude_down A B C X D d.1 s.first;
        on_second = altitude_down B A C X E e.1 s.second;
        crosses = orthocenter_apart A B C D E d.1 e.1 n;
      },
    )

pub orthocenter_up : (X A B C D E : Point) → IsFoot A B C D → IsFoot B A C E → IsCrossing A D B E X → IsOrthocenter X A B C
orthocenter_up X A B C D E f g c =
    record {
      first = altitude_up A B C X D (crossing_differ_first A D B E c.crosses) f c.on_first;
      second = altitude_up B A C X E (crossing_differ_second A D B E c.crosses) g c.on_second;
    }

pub online_number : (A B X : Point) (s t : Fraction) → Differ A B → IsAlong A A B s X → IsAlong A A B t X → Same s t
online_number A B X s t n c d =
    geo_cancel (A ∷ B ∷ X ∷ []) (s ∷ t ∷ [])
    (fact (opposite' (abscissa 1 -' abscissa 0)) (abscissa 2 -' abscissa 0) (given_number 0 *' (abscissa 1 -' abscissa 0))
    ∷ fact (opposite' (ordinate 1 -' ordinate 0)) (ordinate 2 -' ordinate 0) (given_number 0 *' (ordinate 1 -' ordinate 0))
    ∷ fact (abscissa 1 -' abscissa 0) (abscissa 2 -' abscissa 0) (given_number 1 *' (abscissa 1 -' abscissa 0))
    ∷ fact (ordinate 1 -' ordinate 0) (ordinate 2 -' ordinate 0) (given_number 1 *' (ordinate 1 -' ordinate 0)) ∷ []) (given_number 0)
    (given_number 1) (dot' 0 1 0 1) (length_nonzero A B n)
    (along-x A A B s X c, (along-y A A B s X c, (along-x A A B t X d, (along-y A A B t X d, tt)))) tt

pub oncircle_number : (O A X : Point) (s t : Fraction) → Differ A X → IsOnCircle X O A s → IsOnCircle X O A t → Same s t
oncircle_number O A X s t n c d =
    geo_cancel (O ∷ A ∷ X ∷ []) (s ∷ t ∷ [])
    (fact (opposite' (whole_number 2))
    ((abscissa 2 -' abscissa 1) *' (ordinate 0 -' ordinate 1 +' given_number 0 *' (abscissa 1 -' abscissa 0))
    -' (ordinate 2 -' ordinate 1) *' (abscissa 0 -' abscissa 1 -' given_number 0 *' (ordinate 1 -' ordinate 0))) (whole_number 0)
    ∷ fact (whole_number 2) ((abscissa 2 -' abscissa 1) *' (ordinate 0 -' ordinate 1 +' given_number 1 *' (abscissa 1 -' abscissa 0))
    -' (ordinate 2 -' ordinate 1) *' (abscissa 0 -' abscissa 1 -' given_number 1 *' (ordinate 1 -' ordinate 0))) (whole_number 0)
    ∷ fact (given_number 0 -' given_number 1) (dot' 0 2 0 2) (dot' 0 1 0 1) ∷ []) (given_number 0) (given_number 1) (dot' 1 2 1 2)
    (length_nonzero A X n) (c.aligned, (d.aligned, (c.distance, tt))) tt
