-- The terms of conditions have values in turn, in every placement.
use Rattle.std.proofs.Common.{◌≡◌, ℕ, zero, suc, true, false, pos, negsuc, [], ◌∷◌, ◌++◌}
use Rattle.std.specs.List.{AllByRecursion}
use Rattle.std.proofs.lemmas.List.Elements.{recursion_from_All}
use Rattle.ring_laws.specs.Fraction.{whole, IsNonzero}
use Rattle.geo_points.specs.Placements.{Placement}
use Rattle.geo_terms.specs.Trees.{Tree, integer_leaf, parameter_leaf, area_leaf, pythagoras_leaf, ratio_leaf, negation, addition, subtraction, multiplication, division}
use Rattle.geo_terms.specs.Values.{HasTreeValue, tree_value}
use Rattle.geo_program.specs.Expressions.{IsExpression}
use Rattle.geo_program.specs.WellFormed.{Source}
use Rattle.geo_lowering.specs.declared.version.Version.{Version}
use Rattle.geo_lowering.specs.Conditions.{Condition, different, not_collinear, not_parallel, crossing, nonzero, divisor_conditions, expression_conditions}
use Rattle.geo_lowering.specs.Lowering.{layout_of, renamed}
use Rattle.geo_lowering.proofs.ConditionValues.{each_front, each_back}
use Rattle.geo_conditions.specs.Laws.{IsNonzeroCondition, TermsHaveValuesInTurn}
use Rattle.geo_conditions.specs.Lists.{Found, all_found}
use Rattle.geo_conditions.specs.Terms.{condition_term}
use Rattle.geo_conditions.proofs.Ordering.{CanAsk, ordered_at, listed_ordered, all_ordered}

module _ (version : Version) (p : Source) (L : Placement) where
  abbrev Holds : Condition → Type 0
  Holds c = IsNonzeroCondition version p L c

  abbrev HasValue : Tree → Type 0
  HasValue e = HasTreeValue L (renamed (layout_of version p.commands) e)

  -- a divisor's condition says that its term is not 0
  divisor_apart : (f : Tree) → AllByRecursion Holds (divisor_conditions f) → IsNonzero (tree_value L (renamed (layout_of version p.commands) f))
  unfolding whole
  divisor_apart (integer_leaf (pos zero)) h = h.0.1
  divisor_apart (integer_leaf (pos (suc n))) h = λ e. cc
  divisor_apart (integer_leaf (negsuc n)) h = λ e. cc
  divisor_apart (parameter_leaf t) h = h.0.1
  divisor_apart (area_leaf a b c) h = h.0.1
  divisor_apart (pythagoras_leaf a b c) h = h.0.1
  divisor_apart (ratio_leaf a b c d) h = h.0.1
  divisor_apart (negation e) h = h.0.1
  divisor_apart (addition e f) h = h.0.1
  divisor_apart (subtraction e f) h = h.0.1
  divisor_apart (multiplication e f) h = h.0.1
  divisor_apart (division e f) h = h.0.1

  -- an expression without ratios has a value where its conditions' terms are not 0
  renamed_value : (x y : ℕ) (e : Tree) → IsExpression x y false e → AllByRecursion Holds (expression_conditions e) → HasValue e
  renamed_value x y (integer_leaf z) i h = tt
  renamed_value x y (parameter_leaf t) i h = tt
  renamed_value x y (area_leaf a b c) i h = tt
  renamed_value x y (pythagoras_leaf a b c) i h = tt
  renamed_value x y (ratio_leaf a b c d) i h = absurd (let n : false ≡ true = i.0 in cc)
  renamed_value x y (negation e) i h = renamed_value x y e i h
  renamed_value x y (addition e f) i h =
      let c = expression_conditions e in let d = expression_conditions f in
      (renamed_value x y e i.0 (each_front Holds c d h), renamed_value x y f i.1 (each_back Holds c d h))
  renamed_value x y (subtraction e f) i h =
      let c = expression_conditions e in let d = expression_conditions f in
      (renamed_value x y e i.0 (each_front Holds c d h), renamed_value x y f i.1 (each_back Holds c d h))
  renamed_value x y (multiplication e f) i h =
      let c = expression_conditions e in let d = expression_conditions f in
      (renamed_value x y e i.0 (each_front Holds c d h), renamed_value x y f i.1 (each_back Holds c d h))
  renamed_value x y (division e f) i h =
      let c = expression_conditions e in let d = expression_conditions f in let g = divisor_conditions f in
      let cd = each_front Holds (c ++ d) g h in (
        renamed_value x y e i.0 (each_front Holds c d cd),
        renamed_value x y f i.1 (each_back Holds c d cd),
        divisor_apart f (each_back Holds (c ++ d) g h),
      )

  asked_value : (c : Condition) → CanAsk p Holds HasValue renamed_value c → HasTreeValue L (condition_term (layout_of version p.commands) c)
  asked_value (different a b) h = tt
  asked_value (not_collinear a b c) h = tt
  asked_value (not_parallel a b c d) h = (tt, tt)
  asked_value (crossing a b) h = (tt, tt)
  asked_value (nonzero e) h = h

-- THE LAW
pub terms_in_turn : TermsHaveValuesInTurn
terms_in_turn version p L before after f w c m =
    let H : Condition → Type 0 = IsNonzeroCondition version p L in
    let V : Tree → Type 0 = λ e. HasTreeValue L (renamed (layout_of version p.commands) e) in
    let ordered = listed_ordered p H V (renamed_value version p L) (all_found p) [] [] (before ++ f ∷ after) c (λ h. tt) (all_ordered p H V (renamed_value version p L) w) tt in
    asked_value version p L f.condition
    (ordered_at p H V (renamed_value version p L) [] before after f ordered tt
    (recursion_from_All (λ (g : Found). IsNonzeroCondition version p L g.condition) before m))
