-- What the conditions of an expression say of its value.
use Rattle.std.proofs.Common.{◌≡◌, ℕ, zero, suc, Bool, true, false, pos, negsuc, List, [], ◌∷◌, ◌++◌}
use Rattle.std.specs.List.{AllByRecursion}
use Rattle.ring_laws.specs.Fraction.{whole, IsNonzero}
use Rattle.geo_points.specs.Placements.{Placement}
use Rattle.geo_points.specs.Points.{cross_product}
use Rattle.geo_terms.specs.Trees.{Tree, integer_leaf, parameter_leaf, area_leaf, pythagoras_leaf, ratio_leaf, negation, addition, subtraction, multiplication, division}
use Rattle.geo_terms.specs.Values.{HasTreeValue, tree_value}
use Rattle.geo_program.specs.Expressions.{IsExpression}
use Rattle.geo_program.specs.WellFormed.{Source}
use Rattle.geo_lowering.specs.CommandsMet.{reading}
use Rattle.geo_lowering.specs.Conditions.{Condition, IsConditionMet, divisor_conditions, expression_conditions}
use Rattle.geo_points.proofs.Zeros.{apart}

module _ {A : Type 0} (P : A → Type 0) where
  pub each_front : (xs ys : List A) → AllByRecursion P (xs ++ ys) → AllByRecursion P xs
  each_front [] ys h = tt
  each_front (x ∷ xs) ys h = (h.0, each_front xs ys h.1)

  pub each_back : (xs ys : List A) → AllByRecursion P (xs ++ ys) → AllByRecursion P ys
  each_back [] ys h = h
  each_back (x ∷ xs) ys h = each_back xs ys h.1

  pub each_append : (xs ys : List A) → AllByRecursion P xs → AllByRecursion P ys → AllByRecursion P (xs ++ ys)
  each_append [] ys h k = k
  each_append (x ∷ xs) ys h k = (h.0, each_append xs ys h.1 k)

module _ (s : Source) (placed : Placement) where
  abbrev pub Hold : List Condition → Type 0
  Hold cs = AllByRecursion (IsConditionMet s placed) cs

  -- a divisor's condition says that it is not 0
  pub divisor_nonzero : (f : Tree) → Hold (divisor_conditions f) → IsNonzero (tree_value (reading s placed) f)
  unfolding whole
  divisor_nonzero (integer_leaf (pos zero)) h = h.0.1
  divisor_nonzero (integer_leaf (pos (suc n))) h = λ e. cc
  divisor_nonzero (integer_leaf (negsuc n)) h = λ e. cc
  divisor_nonzero (parameter_leaf t) h = h.0.1
  divisor_nonzero (area_leaf a b c) h = h.0.1
  divisor_nonzero (pythagoras_leaf a b c) h = h.0.1
  divisor_nonzero (ratio_leaf a b c d) h = h.0.1
  divisor_nonzero (negation e) h = h.0.1
  divisor_nonzero (addition e f) h = h.0.1
  divisor_nonzero (subtraction e f) h = h.0.1
  divisor_nonzero (multiplication e f) h = h.0.1
  divisor_nonzero (division e f) h = h.0.1

  -- the ratios of the expression have parallel pairs; those in a divisor do not count, since there is none
  abbrev pub RatiosParallel : Tree → Type 0
  RatiosParallel (ratio_leaf a b c d) = cross_product (placed.point a.0) (placed.point b.0) (placed.point c.0) (placed.point d.0) ≡ pos 0
  RatiosParallel (negation e) = RatiosParallel e
  RatiosParallel (addition e f) = RatiosParallel e × RatiosParallel f
  RatiosParallel (subtraction e f) = RatiosParallel e × RatiosParallel f
  RatiosParallel (multiplication e f) = RatiosParallel e × RatiosParallel f
  RatiosParallel (division e f) = RatiosParallel e
  RatiosParallel _ = Unit {0}

  no_ratios : (x y : ℕ) (e : Tree) → IsExpression x y false e → RatiosParallel e
  no_ratios x y (integer_leaf z) h = tt
  no_ratios x y (parameter_leaf t) h = tt
  no_ratios x y (area_leaf a b c) h = tt
  no_ratios x y (pythagoras_leaf a b c) h = tt
  no_ratios x y (ratio_leaf a b c d) h = let n : false ≡ true = h.0 in cc
  no_ratios x y (negation e) h = no_ratios x y e h
  no_ratios x y (addition e f) h = (no_ratios x y e h.0, no_ratios x y f h.1)
  no_ratios x y (subtraction e f) h = (no_ratios x y e h.0, no_ratios x y f h.1)
  no_ratios x y (multiplication e f) h = (no_ratios x y e h.0, no_ratios x y f h.1)
  no_ratios x y (division e f) h = no_ratios x y e h.0

  pub has_value : (x y : ℕ) (b : Bool) (e : Tree) → IsExpression x y b e → Hold (expression_conditions e) → RatiosParallel e → HasTreeValue (reading s placed) e
  has_value x y b (integer_leaf z) i h k = tt
  has_value x y b (parameter_leaf t) i h k = tt
  has_value x y b (area_leaf p q r) i h k = tt
  has_value x y b (pythagoras_leaf p q r) i h k = tt
  has_value x y b (ratio_leaf p q r t) i h k = record { parallel = k; apart = apart (placed.point r.0) (placed.point t.0) h.0 }
  has_value x y b (negation e) i h k = has_value x y b e i h k
  has_value x y b (addition e f) i h k =
      let c = expression_conditions e in let d = expression_conditions f in
      (has_value x y b e i.0 (each_front _ c d h) k.0, has_value x y b f i.1 (each_back _ c d h) k.1)
  has_value x y b (subtraction e f) i h k =
      let c = expression_conditions e in let d = expression_conditions f in
      (has_value x y b e i.0 (each_front _ c d h) k.0, has_value x y b f i.1 (each_back _ c d h) k.1)
  has_value x y b (multiplication e f) i h k =
      let c = expression_conditions e in let d = expression_conditions f in
      (has_value x y b e i.0 (each_front _ c d h) k.0, has_value x y b f i.1 (each_back _ c d h) k.1)
  has_value x y b (division e f) i h k =
      let c = expression_conditions e in let d = expression_conditions f in let g = divisor_conditions f in
      let cd = each_front _ (c ++ d) g h in (
        has_value x y b e i.0 (each_front _ c d cd) k,
        has_value x y false f i.1 (each_back _ c d cd) (no_ratios x y f i.1),
        divisor_nonzero f (each_back _ (c ++ d) g h),
      )

  -- the value needs no other condition
  pub has_ratios : (e : Tree) → HasTreeValue (reading s placed) e → RatiosParallel e
  has_ratios (integer_leaf z) h = tt
  has_ratios (parameter_leaf t) h = tt
  has_ratios (area_leaf a b c) h = tt
  has_ratios (pythagoras_leaf a b c) h = tt
  has_ratios (ratio_leaf a b c d) h = h.parallel
  has_ratios (negation e) h = has_ratios e h
  has_ratios (addition e f) h = (has_ratios e h.0, has_ratios f h.1)
  has_ratios (subtraction e f) h = (has_ratios e h.0, has_ratios f h.1)
  has_ratios (multiplication e f) h = (has_ratios e h.0, has_ratios f h.1)
  has_ratios (division e f) h = has_ratios e h.0

  pub step_value : (x y : ℕ) (e : Tree) → IsExpression x y false e → Hold (expression_conditions e) → HasTreeValue (reading s placed) e
  step_value x y e i h = has_value x y false e i h (no_ratios x y e i)
