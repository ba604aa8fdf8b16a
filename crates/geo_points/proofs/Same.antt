-- Steps respect "the same point".
use Rattle.std.proofs.Common.{◌≡◌, ℕ, zero, suc, pos, List, [], ◌∷◌}
use Rattle.ring_laws.specs.Fraction.{Fraction, Same, minus}
use Rattle.geo_points.specs.Placements.{SamePoint}
use Rattle.geo_points.specs.Points.{Point, cross_product, dot_product}
use Rattle.geo_points.specs.Steps.{IsAlong, IsCrossing, IsFoot, IsTurned, IsWeighted}
use Rattle.geo_points.proofs.AreaRows.{cross'}
use Rattle.geo_points.proofs.Exchange.{signed_area-same, pythagoras_difference-same}
use Rattle.geo_points.proofs.Expressions.{Quantity, abscissa, ordinate, area, pythagoras, whole_number, one_half, given_number, ◌+'◌, ◌-'◌, ◌*'◌, opposite', half, point_at, number_at, quantity_value}
use Rattle.ring_laws.proofs.Fractions as F
use Rattle.ring_laws.proofs.Fractions.{fractions, cancel}
use Rattle.geo_points.proofs.Steps.{along-x, along-y, along_back}
use Rattle.geo_points.proofs.Weighted.{weighted-x, weighted-y, weighted_back, combination}
use Rattle.geo_points.specs.Vectors.{Differ}
use Rattle.geo_points.proofs.Coordinates.{dot', dot_null, turned_back}
use Rattle.geo_points.proofs.Lines.{cross_product-is, dot_product-is, turned-x, turned-y, cross_null}
use Rattle.geo_points.proofs.Zeros.{apart, differ}

infixr 3 ◌∘◌
◌∘◌ : {a b c : Fraction} → Same a b → Same b c → Same a c
◌∘◌ p q = F.same_trans _ _ _ p q

flip : {a b : Fraction} → Same a b → Same b a
flip p = fractions.same_sym _ _ p

pub minus-same : (a b c d : Fraction) → Same a b → Same c d → Same (minus a c) (minus b d)
unfolding minus
minus-same a b c d p q = F.plus-same _ _ _ _ p (F.negated-same _ _ q)

abbrev pub SamePoints : List Point → List Point → Type 0
SamePoints [] [] = Unit {0}
SamePoints (A ∷ As) (B ∷ Bs) = SamePoint A B × SamePoints As Bs
SamePoints [] (B ∷ Bs) = ⊥
SamePoints (A ∷ As) [] = ⊥

abbrev pub SameNumbers : List Fraction → List Fraction → Type 0
SameNumbers [] [] = Unit {0}
SameNumbers (r ∷ rs) (s ∷ ss) = Same r s × SameNumbers rs ss
SameNumbers [] (s ∷ ss) = ⊥
SameNumbers (r ∷ rs) [] = ⊥

pub self_point : (A : Point) → SamePoint A A
self_point A = record { by_x = fractions.same_refl _; by_y = fractions.same_refl _ }

pub flip_point : (A B : Point) → SamePoint A B → SamePoint B A
flip_point A B h = record { by_x = flip h.by_x; by_y = flip h.by_y }

pub point_trans : (A B C : Point) → SamePoint A B → SamePoint B C → SamePoint A C
point_trans A B C h k = record { by_x = h.by_x ∘ k.by_x; by_y = h.by_y ∘ k.by_y }

pub point-at : (As Bs : List Point) → SamePoints As Bs → (i : ℕ) → SamePoint (point_at As i) (point_at Bs i)
point-at [] [] h i = self_point _
point-at (A ∷ As) (B ∷ Bs) h zero = h.0
point-at (A ∷ As) (B ∷ Bs) h (suc i) = point-at As Bs h.1 i
point-at [] (B ∷ Bs) h i = absurd h
point-at (A ∷ As) [] h i = absurd h

pub number-at : (rs ss : List Fraction) → SameNumbers rs ss → (i : ℕ) → Same (number_at rs i) (number_at ss i)
number-at [] [] h i = fractions.same_refl _
number-at (r ∷ rs) (s ∷ ss) h zero = h.0
number-at (r ∷ rs) (s ∷ ss) h (suc i) = number-at rs ss h.1 i
number-at [] (s ∷ ss) h i = absurd h
number-at (r ∷ rs) [] h i = absurd h

module _ (As Bs : List Point) (rs ss : List Fraction) (h : SamePoints As Bs) (k : SameNumbers rs ss) where
  pub geo-same : (e : Quantity) → Same (quantity_value As rs e) (quantity_value Bs ss e)
  geo-same (abscissa i) = (point-at As Bs h i).by_x
  geo-same (ordinate i) = (point-at As Bs h i).by_y
  geo-same (area a b c) = signed_area-same _ _ _ _ _ _ (point-at As Bs h a) (point-at As Bs h b) (point-at As Bs h c)
  geo-same (pythagoras a b c) = pythagoras_difference-same _ _ _ _ _ _ (point-at As Bs h a) (point-at As Bs h b) (point-at As Bs h c)
  geo-same (whole_number n) = fractions.same_refl _
  geo-same one_half = fractions.same_refl half
  geo-same (given_number i) = number-at rs ss k i
  geo-same (e +' f) = F.plus-same _ _ _ _ (geo-same e) (geo-same f)
  geo-same (e -' f) = minus-same _ _ _ _ (geo-same e) (geo-same f)
  geo-same (e *' f) = F.times-same _ _ _ _ (geo-same e) (geo-same f)
  geo-same (opposite' e) = F.negated-same _ _ (geo-same e)

  -- an equation moves to the same points
  pub geo-moved : (e f : Quantity) → Same (quantity_value As rs e) (quantity_value As rs f) → Same (quantity_value Bs ss e) (quantity_value Bs ss f)
  geo-moved e f p = flip (geo-same e) ∘ p ∘ geo-same f

-- ---- the steps
pub differ-same : (A B C D : Point) → SamePoint A C → SamePoint B D → Differ A B → Differ C D
differ-same A B C D h k n s = n (point_trans A C B h (point_trans C D B s (flip_point B D k)))

pub cross_product-same : (A B C D E F G I : Point) → SamePoint A E → SamePoint B F → SamePoint C G → SamePoint D I → cross_product A B C D ≡ pos 0 → cross_product E F G I ≡ pos 0
cross_product-same A B C D E F' G I a b c d h =
    cross_null E F' G I (geo-moved (A ∷ B ∷ C ∷ D ∷ []) (E ∷ F' ∷ G ∷ I ∷ []) [] [] (a, (b, (c, (d, tt)))) tt (cross' 0 1 2 3) (whole_number 0) (cross_product-is A B C D h))

pub dot_product-same : (A B C D E F G I : Point) → SamePoint A E → SamePoint B F → SamePoint C G → SamePoint D I → dot_product A B C D ≡ pos 0 → dot_product E F G I ≡ pos 0
dot_product-same A B C D E F' G I a b c d h =
    dot_null E F' G I (geo-moved (A ∷ B ∷ C ∷ D ∷ []) (E ∷ F' ∷ G ∷ I ∷ []) [] [] (a, (b, (c, (d, tt)))) tt (dot' 0 1 2 3) (whole_number 0) (dot_product-is A B C D h))

pub crossing-same : (U V P Q Y U' V' P' Q' Y' : Point)
    → SamePoint U U' → SamePoint V V' → SamePoint P P' → SamePoint Q Q' → SamePoint Y Y' → IsCrossing U V P Q Y → IsCrossing U' V' P' Q' Y'
crossing-same U V A B C U' V' A' B' C' u v a b c s = record {
  on_first = cross_product-same U V U C U' V' U' C' u v u c s.on_first;
  on_second = cross_product-same A B A C A' B' A' C' a b a c s.on_second;
  crosses = λ z. s.crosses (cross_product-same U' V' A' B' U V A B (flip_point U U' u) (flip_point V V' v) (flip_point A A' a) (flip_point B B' b) z);
}

pub foot-same : (P U V Y P' U' V' Y' : Point) → SamePoint P P' → SamePoint U U' → SamePoint V V' → SamePoint Y Y' → IsFoot P U V Y → IsFoot P' U' V' Y'
foot-same A U V C A' U' V' C' a u v c s = record {
  on_line = cross_product-same U V U C U' V' U' C' u v u c s.on_line;
  perpendicular = dot_product-same A C U V A' C' U' V' a c u v s.perpendicular;
  apart = apart U' V' (differ-same U V U' V' u v (differ U V s.apart));
}

pub along-same : (W U V : Point) (r : Fraction) (Y W' U' V' : Point) (r' : Fraction) (Y' : Point)
    → SamePoint W W' → SamePoint U U' → SamePoint V V' → Same r r' → SamePoint Y Y' → IsAlong W U V r Y → IsAlong W' U' V' r' Y'
along-same W U V r C W' U' V' r' C' w u v k c s =
    let moved = geo-moved (W ∷ U ∷ V ∷ C ∷ []) (W' ∷ U' ∷ V' ∷ C' ∷ []) (r ∷ []) (r' ∷ []) (w, (u, (v, (c, tt)))) (k, tt) in
    along_back W' U' V' r' C' (moved (abscissa 3 -' abscissa 0) (given_number 0 *' (abscissa 2 -' abscissa 1)) (along-x W U V r C s))
    (moved (ordinate 3 -' ordinate 0) (given_number 0 *' (ordinate 2 -' ordinate 1)) (along-y W U V r C s))

pub turned-same : (U V : Point) (r : Fraction) (Y U' V' : Point) (r' : Fraction) (Y' : Point)
    → SamePoint U U' → SamePoint V V' → Same r r' → SamePoint Y Y' → IsTurned U V r Y → IsTurned U' V' r' Y'
turned-same U V r C U' V' r' C' u v k c s =
    let moved = geo-moved (U ∷ V ∷ C ∷ []) (U' ∷ V' ∷ C' ∷ []) (r ∷ []) (r' ∷ []) (u, (v, (c, tt))) (k, tt) in
    turned_back U' V' r' C' (moved (abscissa 2 -' abscissa 0) (opposite' (given_number 0 *' (ordinate 1 -' ordinate 0)))
    (turned-x U V r C s)) (moved (ordinate 2 -' ordinate 0) (given_number 0 *' (abscissa 1 -' abscissa 0)) (turned-y U V r C s))

pub weighted-same : (O U V : Point) (r s : Fraction) (Y O' U' V' : Point) (r' s' : Fraction) (Y' : Point)
    → SamePoint O O' → SamePoint U U' → SamePoint V V' → Same r r' → Same s s' → SamePoint Y Y' → IsWeighted O U V r s Y → IsWeighted O' U' V' r' s' Y'
weighted-same O U V r s C O' U' V' r' s' C' o u v k l c w =
    let moved = geo-moved (O ∷ U ∷ V ∷ C ∷ []) (O' ∷ U' ∷ V' ∷ C' ∷ []) (r ∷ s ∷ []) (r' ∷ s' ∷ []) (o, (u, (v, (c, tt)))) (k, (l, tt)) in
    weighted_back O' U' V' r' s' C'
    (moved (abscissa 3 -' abscissa 0) (combination abscissa) (weighted-x O U V r s C w))
    (moved (ordinate 3 -' ordinate 0) (combination ordinate) (weighted-y O U V r s C w))
