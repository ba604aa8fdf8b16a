-- The point that a step makes, by terms over the terms of the points that it names.
use Rattle.std.proofs.Common.{ℕ, [], ◌∷◌}
use Rattle.ring_laws.specs.Fraction.{Fraction, Same, plus, minus, times, IsNonzero, quotient}
use Rattle.ring_laws.proofs.Fractions.{fractions}
use Rattle.ring_laws.proofs.Quotients.{quotient-times, cancel_fraction}
use Rattle.geo_points.specs.Placements.{Placement}
use Rattle.geo_points.specs.Points.{Point, x_coordinate, y_coordinate}
use Rattle.geo_points.specs.Steps.{IsAlong, IsCrossing, IsFoot, IsTurned, IsWeighted}
use Rattle.geo_points.specs.Vectors.{run, rise}
use Rattle.geo_points.proofs.AreaRows.{cross'}
use Rattle.geo_points.proofs.Coordinates.{dot'}
use Rattle.geo_points.proofs.Lines.{cross_of, dot_of, cross_product-is, dot_product-is, turned-x, turned-y}
use Rattle.geo_points.proofs.Expressions.{abscissa, ordinate, whole_number, given_number, ◌+'◌, ◌-'◌, ◌*'◌, opposite', fact}
use Rattle.geo_points.proofs.Geometry.{geo_combination}
use Rattle.geo_points.proofs.Making.{cross_nonzero, length_nonzero}
use Rattle.geo_points.proofs.Steps.{along-x, along-y}
use Rattle.geo_points.proofs.Weighted.{weighted-x, weighted-y}
use Rattle.geo_points.proofs.Zeros.{is_nonzero, not_same, differ}
use Rattle.geo_terms.specs.Trees.{Tree, addition, subtraction, multiplication, division}
use Rattle.geo_terms.specs.Values.{tree_value}
use Rattle.geo_terms.specs.TermBounds.{IsTermBelow}
use Rattle.geo_library.proofs.ToldPoints.{AreBelow, Coordinates, Tells, TellsPoint, PointsAreTold}

-- TERMS THAT TELL SUMS, PRODUCTS AND QUOTIENTS
module _ (N : Placement) where
  pub tells_plus : {e g : Tree} {a b : Fraction} → Tells N e a → Tells N g b → Tells N (addition e g) (plus a b)
  tells_plus s t = record { has = (s.has, t.has); same = fractions.add-same _ _ _ _ s.same t.same }

  pub tells_minus : {e g : Tree} {a b : Fraction} → Tells N e a → Tells N g b → Tells N (subtraction e g) (minus a b)
  unfolding minus
  tells_minus s t = record { has = (s.has, t.has); same = fractions.add-same _ _ _ _ s.same (fractions.neg-same _ _ t.same) }

  pub tells_times : {e g : Tree} {a b : Fraction} → Tells N e a → Tells N g b → Tells N (multiplication e g) (times a b)
  tells_times s t = record { has = (s.has, t.has); same = fractions.mul-same _ _ _ _ s.same t.same }

  pub tells_same : {e : Tree} {a b : Fraction} → Tells N e a → Same a b → Tells N e b
  tells_same s h = record { has = s.has; same = fractions.same_trans _ _ _ s.same h }

  -- f is the quotient of a by b
  pub tells_quotient : {e g : Tree} {a b : Fraction} (f : Fraction) → Tells N e a → Tells N g b → IsNonzero b → Same (times f b) a
      → Tells N (division e g) f
  tells_quotient {e} {g} {a} {b} f s t n h =
      let E = tree_value N e in let G = tree_value N g in
      let m : IsNonzero G = is_nonzero G (λ z. not_same b n (fractions.same_trans _ _ _ (fractions.same_sym _ _ t.same) z)) in
      let whole_side : Same (times f G) E =
      fractions.same_trans _ _ _ (fractions.mul-same f f G b (fractions.same_refl f) t.same) (fractions.same_trans _ _ _ h (fractions.same_sym _ _ s.same)) in
      record {
        has = (s.has, t.has, m);
        same = cancel_fraction (quotient E G) f G m (fractions.same_trans _ _ _ (quotient-times E G m) (fractions.same_sym _ _ whole_side));
      }

  pub tells_run : {a b : Coordinates} {A B : Point} → TellsPoint N a A → TellsPoint N b B → Tells N (subtraction b.x a.x) (run A B)
  tells_run s t = tells_minus t.by_x s.by_x

  pub tells_rise : {a b : Coordinates} {A B : Point} → TellsPoint N a A → TellsPoint N b B → Tells N (subtraction b.y a.y) (rise A B)
  tells_rise s t = tells_minus t.by_y s.by_y

abbrev pub run_tree : Coordinates → Coordinates → Tree
run_tree a b = subtraction b.x a.x

abbrev pub rise_tree : Coordinates → Coordinates → Tree
rise_tree a b = subtraction b.y a.y

abbrev pub cross_tree : Coordinates → Coordinates → Coordinates → Coordinates → Tree
cross_tree a b c d = subtraction (multiplication (run_tree a b) (rise_tree c d)) (multiplication (rise_tree a b) (run_tree c d))

abbrev pub dot_tree : Coordinates → Coordinates → Coordinates → Coordinates → Tree
dot_tree a b c d = addition (multiplication (run_tree a b) (run_tree c d)) (multiplication (rise_tree a b) (rise_tree c d))

module _ (N : Placement) where
  pub tells_cross : {a b c d : Coordinates} {A B C D : Point} → TellsPoint N a A → TellsPoint N b B → TellsPoint N c C → TellsPoint N d D
      → Tells N (cross_tree a b c d) (cross_of A B C D)
  tells_cross s t u v = tells_minus N (tells_times N (tells_run N s t) (tells_rise N u v)) (tells_times N (tells_rise N s t) (tells_run N u v))

  pub tells_dot : {a b c d : Coordinates} {A B C D : Point} → TellsPoint N a A → TellsPoint N b B → TellsPoint N c C → TellsPoint N d D
      → Tells N (dot_tree a b c d) (dot_of A B C D)
  tells_dot s t u v = tells_plus N (tells_times N (tells_run N s t) (tells_run N u v)) (tells_times N (tells_rise N s t) (tells_rise N u v))

-- WHAT THEY NAME
pub cross_below : (M : ℕ) (a b c d : Coordinates) → AreBelow M a → AreBelow M b → AreBelow M c → AreBelow M d → IsTermBelow 0 M (cross_tree a b c d)
cross_below M a b c d s t u v = (((t.x, s.x), (v.y, u.y)), ((t.y, s.y), (v.x, u.x)))

pub dot_below : (M : ℕ) (a b c d : Coordinates) → AreBelow M a → AreBelow M b → AreBelow M c → AreBelow M d → IsTermBelow 0 M (dot_tree a b c d)
dot_below M a b c d s t u v = (((t.x, s.x), (v.x, u.x)), ((t.y, s.y), (v.y, u.y)))

-- THE POINT OF TWO LINES
abbrev crossing_terms : Coordinates → Coordinates → Coordinates → Coordinates → Coordinates
crossing_terms u v p q = record {
  x = division (addition (multiplication u.x (cross_tree u v p q)) (multiplication (cross_tree u p p q) (run_tree u v))) (cross_tree u v p q);
  y = division (addition (multiplication u.y (cross_tree u v p q)) (multiplication (cross_tree u p p q) (rise_tree u v))) (cross_tree u v p q);
}

crossing_below : (M : ℕ) (u v p q : Coordinates) → AreBelow M u → AreBelow M v → AreBelow M p → AreBelow M q → AreBelow M (crossing_terms u v p q)
crossing_below M u v p q a b c d =
    let whole_cross = cross_below M u v p q a b c d in let part = cross_below M u p p q a c c d in
    record { x = (((a.x, whole_cross), (part, (b.x, a.x))), whole_cross); y = (((a.y, whole_cross), (part, (b.y, a.y))), whole_cross) }

crossing_told : (u v p q : Coordinates) (N : Placement) (U V P Q Y : Point) → TellsPoint N u U → TellsPoint N v V → TellsPoint N p P → TellsPoint N q Q
    → IsCrossing U V P Q Y → TellsPoint N (crossing_terms u v p q) Y
crossing_told u v p q N U V P Q Y s t a b h =
    let n = cross_nonzero U V P Q h.crosses in
    let first = cross_product-is U V U Y h.on_first in
    let second = cross_product-is P Q P Y h.on_second in
    record {
      by_x = tells_quotient N (x_coordinate Y)
          (tells_plus N (tells_times N s.by_x (tells_cross N s t a b)) (tells_times N (tells_cross N s a a b) (tells_run N s t))) (tells_cross N s t a b) n
          (geo_combination (U ∷ V ∷ P ∷ Q ∷ Y ∷ []) []
          (fact (abscissa 3 -' abscissa 2) (cross' 0 1 0 4) (whole_number 0) ∷ fact (opposite' (abscissa 1 -' abscissa 0)) (cross' 2 3 2 4) (whole_number 0) ∷ [])
          (abscissa 4 *' cross' 0 1 2 3) (abscissa 0 *' cross' 0 1 2 3 +' cross' 0 2 2 3 *' (abscissa 1 -' abscissa 0)) (first, (second, tt)) tt);
      by_y = tells_quotient N (y_coordinate Y)
          (tells_plus N (tells_times N s.by_y (tells_cross N s t a b)) (tells_times N (tells_cross N s a a b) (tells_rise N s t))) (tells_cross N s t a b) n
          (geo_combination (U ∷ V ∷ P ∷ Q ∷ Y ∷ []) []
          (fact (ordinate 3 -' ordinate 2) (cross' 0 1 0 4) (whole_number 0) ∷ fact (opposite' (ordinate 1 -' ordinate 0)) (cross' 2 3 2 4) (whole_number 0) ∷ [])
          (ordinate 4 *' cross' 0 1 2 3) (ordinate 0 *' cross' 0 1 2 3 +' cross' 0 2 2 3 *' (ordinate 1 -' ordinate 0)) (first, (second, tt)) tt);
    }

-- THE FOOT OF A POINT ON A LINE
abbrev foot_terms : Coordinates → Coordinates → Coordinates → Coordinates
foot_terms p u v = record {
  x = division (addition (multiplication u.x (dot_tree u v u v)) (multiplication (dot_tree u p u v) (run_tree u v))) (dot_tree u v u v);
  y = division (addition (multiplication u.y (dot_tree u v u v)) (multiplication (dot_tree u p u v) (rise_tree u v))) (dot_tree u v u v);
}

foot_below : (M : ℕ) (p u v : Coordinates) → AreBelow M p → AreBelow M u → AreBelow M v → AreBelow M (foot_terms p u v)
foot_below M p u v a b c =
    let square = dot_below M u v u v b c b c in let part = dot_below M u p u v b a b c in
    record { x = (((b.x, square), (part, (c.x, b.x))), square); y = (((b.y, square), (part, (c.y, b.y))), square) }

foot_told : (p u v : Coordinates) (N : Placement) (P U V Y : Point) → TellsPoint N p P → TellsPoint N u U → TellsPoint N v V
    → IsFoot P U V Y → TellsPoint N (foot_terms p u v) Y
foot_told p u v N P U V Y a s t h =
    let n = length_nonzero U V (differ U V h.apart) in
    let upright = dot_product-is P Y U V h.perpendicular in
    let on_line = cross_product-is U V U Y h.on_line in
    record {
      by_x = tells_quotient N (x_coordinate Y)
          (tells_plus N (tells_times N s.by_x (tells_dot N s t s t)) (tells_times N (tells_dot N s a s t) (tells_run N s t))) (tells_dot N s t s t) n
          (geo_combination (P ∷ U ∷ V ∷ Y ∷ []) []
          (fact (abscissa 2 -' abscissa 1) (dot' 0 3 1 2) (whole_number 0) ∷ fact (opposite' (ordinate 2 -' ordinate 1)) (cross' 1 2 1 3) (whole_number 0) ∷ [])
          (abscissa 3 *' dot' 1 2 1 2) (abscissa 1 *' dot' 1 2 1 2 +' dot' 1 0 1 2 *' (abscissa 2 -' abscissa 1)) (upright, (on_line, tt)) tt);
      by_y = tells_quotient N (y_coordinate Y)
          (tells_plus N (tells_times N s.by_y (tells_dot N s t s t)) (tells_times N (tells_dot N s a s t) (tells_rise N s t))) (tells_dot N s t s t) n
          (geo_combination (P ∷ U ∷ V ∷ Y ∷ []) []
          (fact (ordinate 2 -' ordinate 1) (dot' 0 3 1 2) (whole_number 0) ∷ fact (abscissa 2 -' abscissa 1) (cross' 1 2 1 3) (whole_number 0) ∷ [])
          (ordinate 3 *' dot' 1 2 1 2) (ordinate 1 *' dot' 1 2 1 2 +' dot' 1 0 1 2 *' (ordinate 2 -' ordinate 1)) (upright, (on_line, tt)) tt);
    }

-- THE THREE STEPS BY NUMBERS
along_told : (w u v : Coordinates) (r : Tree) (N : Placement) (W U V Y : Point) (f : Fraction) → TellsPoint N w W → TellsPoint N u U → TellsPoint N v V
    → Tells N r f → IsAlong W U V f Y
    → TellsPoint N (record { x = addition w.x (multiplication r (run_tree u v)); y = addition w.y (multiplication r (rise_tree u v)) }) Y
along_told w u v r N W U V Y f a s t number h = record {
  by_x = tells_same N (tells_plus N a.by_x (tells_times N number (tells_run N s t)))
      (geo_combination (W ∷ U ∷ V ∷ Y ∷ []) (f ∷ [])
      (fact (opposite' (whole_number 1)) (abscissa 3 -' abscissa 0) (given_number 0 *' (abscissa 2 -' abscissa 1)) ∷ [])
      (abscissa 0 +' given_number 0 *' (abscissa 2 -' abscissa 1)) (abscissa 3) (along-x W U V f Y h, tt) tt);
  by_y = tells_same N (tells_plus N a.by_y (tells_times N number (tells_rise N s t)))
      (geo_combination (W ∷ U ∷ V ∷ Y ∷ []) (f ∷ [])
      (fact (opposite' (whole_number 1)) (ordinate 3 -' ordinate 0) (given_number 0 *' (ordinate 2 -' ordinate 1)) ∷ [])
      (ordinate 0 +' given_number 0 *' (ordinate 2 -' ordinate 1)) (ordinate 3) (along-y W U V f Y h, tt) tt);
}

turned_told : (u v : Coordinates) (r : Tree) (N : Placement) (U V Y : Point) (f : Fraction) → TellsPoint N u U → TellsPoint N v V → Tells N r f
    → IsTurned U V f Y
    → TellsPoint N (record { x = subtraction u.x (multiplication r (rise_tree u v)); y = addition u.y (multiplication r (run_tree u v)) }) Y
turned_told u v r N U V Y f s t number h = record {
  by_x = tells_same N (tells_minus N s.by_x (tells_times N number (tells_rise N s t)))
      (geo_combination (U ∷ V ∷ Y ∷ []) (f ∷ [])
      (fact (opposite' (whole_number 1)) (abscissa 2 -' abscissa 0) (opposite' (given_number 0 *' (ordinate 1 -' ordinate 0))) ∷ [])
      (abscissa 0 -' given_number 0 *' (ordinate 1 -' ordinate 0)) (abscissa 2) (turned-x U V f Y h, tt) tt);
  by_y = tells_same N (tells_plus N s.by_y (tells_times N number (tells_run N s t)))
      (geo_combination (U ∷ V ∷ Y ∷ []) (f ∷ [])
      (fact (opposite' (whole_number 1)) (ordinate 2 -' ordinate 0) (given_number 0 *' (abscissa 1 -' abscissa 0)) ∷ [])
      (ordinate 0 +' given_number 0 *' (abscissa 1 -' abscissa 0)) (ordinate 2) (turned-y U V f Y h, tt) tt);
}

weighted_told : (o u v : Coordinates) (r q : Tree) (N : Placement) (O U V Y : Point) (f g : Fraction) → TellsPoint N o O → TellsPoint N u U → TellsPoint N v V
    → Tells N r f → Tells N q g → IsWeighted O U V f g Y
    → TellsPoint N (record {
      x = addition o.x (addition (multiplication r (run_tree o u)) (multiplication q (run_tree o v)));
      y = addition o.y (addition (multiplication r (rise_tree o u)) (multiplication q (rise_tree o v)));
    }) Y
weighted_told o u v r q N O U V Y f g a s t first second h = record {
  by_x = tells_same N (tells_plus N a.by_x (tells_plus N (tells_times N first (tells_run N a s)) (tells_times N second (tells_run N a t))))
      (geo_combination (O ∷ U ∷ V ∷ Y ∷ []) (f ∷ g ∷ [])
      (fact (opposite' (whole_number 1)) (abscissa 3 -' abscissa 0)
      (given_number 0 *' (abscissa 1 -' abscissa 0) +' given_number 1 *' (abscissa 2 -' abscissa 0)) ∷ [])
      (abscissa 0 +' (given_number 0 *' (abscissa 1 -' abscissa 0) +' given_number 1 *' (abscissa 2 -' abscissa 0))) (abscissa 3)
      (weighted-x O U V f g Y h, tt) tt);
  by_y = tells_same N (tells_plus N a.by_y (tells_plus N (tells_times N first (tells_rise N a s)) (tells_times N second (tells_rise N a t))))
      (geo_combination (O ∷ U ∷ V ∷ Y ∷ []) (f ∷ g ∷ [])
      (fact (opposite' (whole_number 1)) (ordinate 3 -' ordinate 0)
      (given_number 0 *' (ordinate 1 -' ordinate 0) +' given_number 1 *' (ordinate 2 -' ordinate 0)) ∷ [])
      (ordinate 0 +' (given_number 0 *' (ordinate 1 -' ordinate 0) +' given_number 1 *' (ordinate 2 -' ordinate 0))) (ordinate 3)
      (weighted-y O U V f g Y h, tt) tt);
}

pub points_are_told : PointsAreTold
points_are_told = record {
  crossing = λ u v p q. (crossing_terms u v p q, λ M a b c d. crossing_below M u v p q a b c d, crossing_told u v p q);
  foot = λ p u v. (foot_terms p u v, λ M a b c. foot_below M p u v a b c, foot_told p u v);
  along = λ w u v r. (
    record { x = addition w.x (multiplication r (run_tree u v)); y = addition w.y (multiplication r (rise_tree u v)) },
    λ M a b c d. record { x = (a.x, (d, (c.x, b.x))); y = (a.y, (d, (c.y, b.y))) },
    along_told w u v r,
  );
  turned = λ u v r. (
    record { x = subtraction u.x (multiplication r (rise_tree u v)); y = addition u.y (multiplication r (run_tree u v)) },
    λ M a b d. record { x = (a.x, (d, (b.y, a.y))); y = (a.y, (d, (b.x, a.x))) },
    turned_told u v r,
  );
  weighted = λ o u v r s. (
    record {
      x = addition o.x (addition (multiplication r (run_tree o u)) (multiplication s (run_tree o v)));
      y = addition o.y (addition (multiplication r (rise_tree o u)) (multiplication s (rise_tree o v)));
    },
    λ M a b c d e. record { x = (a.x, ((d, (b.x, a.x)), (e, (c.x, a.x)))); y = (a.y, ((d, (b.y, a.y)), (e, (c.y, a.y)))) },
    weighted_told o u v r s,
  );
}
