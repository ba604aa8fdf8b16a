-- Terms over points as terms over numbers alone.
use Rattle.std.proofs.Common.{◌≡◌, ℕ, suc, ◌<◌, pos, nat_abs, [], ◌∷◌, ap, arith}
use Rattle.ring_laws.specs.Fraction.{Same, whole, IsNonzero, quotient}
use Rattle.ring_laws.proofs.Fractions.{fractions}
use Rattle.ring_laws.proofs.Quotients.{quotient-times}
use Rattle.geo_points.specs.declared.ids.ParamId.{ParamId}
use Rattle.geo_points.specs.Placements.{Placement}
use Rattle.geo_points.specs.Points.{Point, HasRatio, pythagoras_difference, ratio, signed_area}
use Rattle.geo_points.proofs.Coordinates.{dot'}
use Rattle.geo_points.proofs.Expressions.{abscissa, ordinate, pythagoras, whole_number, given_number, ◌-'◌, ◌*'◌, fact, thrice}
use Rattle.geo_points.proofs.Geometry.{geo_combination}
use Rattle.geo_points.proofs.Making.{length_nonzero}
use Rattle.geo_points.proofs.Ratios.{ratio-is}
use Rattle.geo_points.proofs.Signs.{signed_area-doubled}
use Rattle.geo_points.proofs.Zeros.{differ}
use Rattle.geo_terms.specs.TermBounds.{IsTermBelow}
use Rattle.geo_terms.specs.Trees.{Tree, integer_leaf, parameter_leaf, area_leaf, pythagoras_leaf, ratio_leaf, negation, addition, subtraction, multiplication, division}
use Rattle.geo_terms.specs.Values.{HasTreeValue, tree_value}
use Rattle.geo_logs.proofs.MoveValues.{whole_nonzero}
use Rattle.geo_library.proofs.ToldPoints.{AreBelow, Coordinates, Tells, TellsPoint}
use Rattle.geo_library.proofs.Telling.{cross_tree, cross_below, dot_tree, dot_below, tells_cross, tells_dot, tells_minus, tells_plus, tells_quotient, tells_same, tells_times}

-- the number that a parameter has among those of coordinates: x and y of point k are 3 k and 3 k + 1
abbrev pub number_of : ℕ → ParamId
number_of t = record { 0 = suc (suc (thrice t)) }

module _ (cs : ℕ → Coordinates) where
  abbrev pub flat : Tree → Tree
  flat (integer_leaf n) = integer_leaf n
  flat (parameter_leaf t) = parameter_leaf (number_of t.0)
  flat (area_leaf a b c) = division (cross_tree (cs a.0) (cs b.0) (cs a.0) (cs c.0)) (integer_leaf (pos 2))
  flat (pythagoras_leaf a b c) = multiplication (integer_leaf (pos 2)) (dot_tree (cs b.0) (cs a.0) (cs b.0) (cs c.0))
  flat (ratio_leaf a b c d) = division (dot_tree (cs a.0) (cs b.0) (cs c.0) (cs d.0)) (dot_tree (cs c.0) (cs d.0) (cs c.0) (cs d.0))
  flat (negation e) = negation (flat e)
  flat (addition e f) = addition (flat e) (flat f)
  flat (subtraction e f) = subtraction (flat e) (flat f)
  flat (multiplication e f) = multiplication (flat e) (flat f)
  flat (division e f) = division (flat e) (flat f)

  -- what it names
  module _ (M n m : ℕ) (below : (a : ℕ) → a < n → AreBelow M (cs a)) (room : (t : ℕ) → t < m → suc (suc (thrice t)) < M) where
    pub flat_below : (e : Tree) → IsTermBelow n m e → IsTermBelow 0 M (flat e)
    flat_below (integer_leaf z) h = tt
    flat_below (parameter_leaf t) h = room t.0 h
    flat_below (area_leaf a b c) h =
        (cross_below M (cs a.0) (cs b.0) (cs a.0) (cs c.0) (below a.0 h.0) (below b.0 h.1) (below a.0 h.0) (below c.0 h.2), tt)
    flat_below (pythagoras_leaf a b c) h =
        (tt, dot_below M (cs b.0) (cs a.0) (cs b.0) (cs c.0) (below b.0 h.1) (below a.0 h.0) (below b.0 h.1) (below c.0 h.2))
    flat_below (ratio_leaf a b c d) h = (
      dot_below M (cs a.0) (cs b.0) (cs c.0) (cs d.0) (below a.0 h.0) (below b.0 h.1) (below c.0 h.2) (below d.0 h.3),
      dot_below M (cs c.0) (cs d.0) (cs c.0) (cs d.0) (below c.0 h.2) (below d.0 h.3) (below c.0 h.2) (below d.0 h.3),
    )
    flat_below (negation e) h = flat_below e h
    flat_below (addition e f) h = (flat_below e h.0, flat_below f h.1)
    flat_below (subtraction e f) h = (flat_below e h.0, flat_below f h.1)
    flat_below (multiplication e f) h = (flat_below e h.0, flat_below f h.1)
    flat_below (division e f) h = (flat_below e h.0, flat_below f h.1)

  -- what it tells
  module _ (N placed : Placement) (n l m : ℕ) (told : (a : ℕ) → a < n → a < l → TellsPoint N (cs a) (placed.point a))
      (numbers : (t : ℕ) → t < m → Same (N.number (suc (suc (thrice t)))) (placed.number t)) where
    two_nonzero : IsNonzero (whole (pos 2))
    two_nonzero = whole_nonzero (pos 2) (λ e. let q : 2 ≡ 0 = ap nat_abs e in omega (arith, q))

    tells_two : Tells N (integer_leaf (pos 2)) (whole (pos 2))
    tells_two = record { has = tt; same = fractions.same_refl (whole (pos 2)) }

    area_told : {a b c : Coordinates} {A B C : Point} → TellsPoint N a A → TellsPoint N b B → TellsPoint N c C
        → Tells N (division (cross_tree a b a c) (integer_leaf (pos 2))) (signed_area A B C)
    area_told {a} {b} {c} {A} {B} {C} s t u =
        tells_quotient N (signed_area A B C) (tells_cross N s t s u) tells_two two_nonzero
        (fractions.same_trans _ _ _ (fractions.mul_comm (signed_area A B C) (whole (pos 2))) (signed_area-doubled A B C))

    difference_told : {a b c : Coordinates} {A B C : Point} → TellsPoint N a A → TellsPoint N b B → TellsPoint N c C
        → Tells N (multiplication (integer_leaf (pos 2)) (dot_tree b a b c)) (pythagoras_difference A B C)
    difference_told {a} {b} {c} {A} {B} {C} s t u =
        tells_same N (tells_times N tells_two (tells_dot N t s t u))
        (geo_combination (A ∷ B ∷ C ∷ []) [] [] (whole_number 2 *' dot' 1 0 1 2) (pythagoras 0 1 2) tt tt)

    ratio_told : {a b c d : Coordinates} {A B C D : Point} → TellsPoint N a A → TellsPoint N b B → TellsPoint N c C → TellsPoint N d D
        → HasRatio A B C D → Tells N (division (dot_tree a b c d) (dot_tree c d c d)) (ratio A B C D)
    ratio_told {a} {b} {c} {d} {A} {B} {C} {D} s t u v h =
        let k = ratio A B C D in let is = ratio-is A B C D h in
        tells_quotient N k (tells_dot N s t u v) (tells_dot N u v u v) (length_nonzero C D (differ C D h.apart))
        (geo_combination (A ∷ B ∷ C ∷ D ∷ []) (k ∷ [])
        (fact (abscissa 3 -' abscissa 2) (given_number 0 *' (abscissa 3 -' abscissa 2)) (abscissa 1 -' abscissa 0)
        ∷ fact (ordinate 3 -' ordinate 2) (given_number 0 *' (ordinate 3 -' ordinate 2)) (ordinate 1 -' ordinate 0) ∷ [])
        (given_number 0 *' dot' 2 3 2 3) (dot' 0 1 2 3) (is.by_x, (is.by_y, tt)) tt)

    pub flat_told : (e : Tree) → IsTermBelow n m e → IsTermBelow l m e → HasTreeValue placed e → Tells N (flat e) (tree_value placed e)
    flat_told (integer_leaf z) b d h = record { has = tt; same = fractions.same_refl (whole z) }
    flat_told (parameter_leaf t) b d h = record { has = tt; same = numbers t.0 b }
    flat_told (area_leaf x y z) b d h = area_told (told x.0 b.0 d.0) (told y.0 b.1 d.1) (told z.0 b.2 d.2)
    flat_told (pythagoras_leaf x y z) b d h = difference_told (told x.0 b.0 d.0) (told y.0 b.1 d.1) (told z.0 b.2 d.2)
    flat_told (ratio_leaf x y z w) b d h = ratio_told (told x.0 b.0 d.0) (told y.0 b.1 d.1) (told z.0 b.2 d.2) (told w.0 b.3 d.3) h
    flat_told (negation e) b d h =
        let s = flat_told e b d h in record { has = s.has; same = fractions.neg-same _ _ s.same }
    flat_told (addition e f) b d h = tells_plus N (flat_told e b.0 d.0 h.0) (flat_told f b.1 d.1 h.1)
    flat_told (subtraction e f) b d h = tells_minus N (flat_told e b.0 d.0 h.0) (flat_told f b.1 d.1 h.1)
    flat_told (multiplication e f) b d h = tells_times N (flat_told e b.0 d.0 h.0) (flat_told f b.1 d.1 h.1)
    flat_told (division e f) b d h =
        tells_quotient N (quotient (tree_value placed e) (tree_value placed f)) (flat_told e b.0 d.0 h.0) (flat_told f b.1 d.1 h.1) h.2
        (quotient-times (tree_value placed e) (tree_value placed f) h.2)
