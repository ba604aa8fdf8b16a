-- The terms of conditions and goals name points and numbers of the lowered form alone.
use Rattle.std.proofs.Common.{ℕ, ◌<◌, ◌≤◌, Bool, true, false, List, [], ◌∷◌, ◌++◌, arith}
use Rattle.std.specs.List.{AllByRecursion}
use Rattle.geo_terms.specs.Stores.{Store, tree_of}
use Rattle.geo_terms.specs.Trees.{Tree, integer_leaf, parameter_leaf, area_leaf, pythagoras_leaf, ratio_leaf, negation, addition, subtraction, multiplication, division}
use Rattle.geo_program.specs.declared.statements.Statement.{Statement}
use Rattle.geo_program.specs.declared.statements.Statement.TheVariants.{Equal, Collinear, Parallel, Perpendicular, Identical, Midpoint, SameLength, Harmonic, Concyclic}
use Rattle.geo_program.specs.Expressions.{IsExpression}
use Rattle.geo_lowering.specs.Conditions.{Condition, different, not_collinear, not_parallel, crossing, nonzero}
use Rattle.geo_lowering.specs.Lowering.{Layout, renamed}
use Rattle.geo_lowering.proofs.Bounds.{Bounds}
use Rattle.geo_lowering.proofs.ConditionValues.{each_append}
use Rattle.geo_lowering.proofs.Values.{IsOver, over_expression, over_renamed}
use Rattle.geo_conditions.specs.Statements.{ratio_goals, statement_goals}
use Rattle.geo_conditions.specs.Terms.{condition_term, goal_term}
use Rattle.geo_conditions.proofs.Agreement.{IsConditionOver, IsStatementOver}
use Rattle.geo_terms.specs.TermBounds.{IsTermBelow}

below_over : (n m : ℕ) (e : Tree) → IsOver n m e → IsTermBelow n m e
below_over n m (integer_leaf z) h = tt
below_over n m (parameter_leaf t) h = h
below_over n m (area_leaf a b c) h = h
below_over n m (pythagoras_leaf a b c) h = h
below_over n m (ratio_leaf a b c d) h = h
below_over n m (negation e) h = below_over n m e h
below_over n m (addition e f) h = (below_over n m e h.0, below_over n m f h.1)
below_over n m (subtraction e f) h = (below_over n m e h.0, below_over n m f h.1)
below_over n m (multiplication e f) h = (below_over n m e h.0, below_over n m f h.1)
below_over n m (division e f) h = (below_over n m e h.0, below_over n m f h.1)

module _ (l : Layout) (x y j n m M : ℕ) (B : Bounds l x y j n m) (few : m ≤ M) where
  -- an expression, renamed
  renamed_below : (b : Bool) (e : Tree) → IsExpression x y b e → IsTermBelow n M (renamed l e)
  renamed_below b e h =
      below_over n M (renamed l e)
      (over_renamed l x y n M B.points (λ t k. let v : l.param t < m = B.params t k in omega (arith, v, few)) e (over_expression x y b e h))

  pub condition_below : (c : Condition) → IsConditionOver x y j c → IsTermBelow n M (condition_term l c)
  condition_below (different a b) h = (B.points a.0 h.0, B.points b.0 h.1, B.points a.0 h.0)
  condition_below (not_collinear a b c) h = (B.points a.0 h.0, B.points b.0 h.1, B.points c.0 h.2)
  condition_below (not_parallel a b c d) h =
      ((B.points a.0 h.0, B.points c.0 h.2, B.points d.0 h.3), (B.points b.0 h.1, B.points c.0 h.2, B.points d.0 h.3))
  condition_below (crossing a b) h =
      let u = B.lines a.0 h.0 in let v = B.lines b.0 h.1 in ((u.0, v.0, v.1), (u.1, v.0, v.1))
  condition_below (nonzero e) h = renamed_below false e h

  module _ (nodes : Store) where
    pub goal_below : (s : Statement) → IsStatementOver nodes x y s → IsTermBelow n M (goal_term l nodes s)
    goal_below (Equal e f) h = (renamed_below true (tree_of nodes e) h.0, renamed_below true (tree_of nodes f) h.1)
    goal_below (Collinear a b c) h = (B.points a.0 h.0, B.points b.0 h.1, B.points c.0 h.2)
    goal_below (Parallel a b c d) h = ((B.points a.0 h.0, B.points c.0 h.2, B.points d.0 h.3), (B.points b.0 h.1, B.points c.0 h.2, B.points d.0 h.3))
    goal_below (Perpendicular a b c d) h = ((B.points a.0 h.0, B.points c.0 h.2, B.points d.0 h.3), (B.points b.0 h.1, B.points c.0 h.2, B.points d.0 h.3))
    goal_below (Identical a b) h = (B.points a.0 h.0, B.points b.0 h.1, B.points a.0 h.0)
    goal_below (Midpoint c a b) h =
        let u = B.points c.0 h.0 in let v = B.points a.0 h.1 in let w = B.points b.0 h.2 in
        (((tt, (v, u, v)), (tt, (w, u, w))), (v, w, v))
    goal_below (SameLength a b c d) h = ((B.points a.0 h.0, B.points b.0 h.1, B.points a.0 h.0), (B.points c.0 h.2, B.points d.0 h.3, B.points c.0 h.2))
    goal_below (Harmonic a b c d) h =
        let t = B.points a.0 h.0 in let u = B.points b.0 h.1 in let v = B.points c.0 h.2 in let w = B.points d.0 h.3 in ((t, v, v, u), (t, w, u, w))
    goal_below (Concyclic a b c d) h =
        let t = B.points a.0 h.0 in let u = B.points b.0 h.1 in let v = B.points c.0 h.2 in let w = B.points d.0 h.3 in
        (((v, t, w), (v, u, w)), ((v, t, w), (v, u, w)))

    -- the goals of ratios are statements over the same points
    abbrev AreOver : List Statement → Type 0
    AreOver ss = AllByRecursion (IsStatementOver nodes x y) ss

    ratios_over : (b : Bool) (e : Tree) → IsExpression x y b e → AreOver (ratio_goals e)
    ratios_over b (integer_leaf z) h = tt
    ratios_over b (parameter_leaf t) h = tt
    ratios_over b (area_leaf p q r) h = tt
    ratios_over b (pythagoras_leaf p q r) h = tt
    ratios_over b (ratio_leaf p q r s) h = ((h.1, h.2, h.3, h.4), tt)
    ratios_over b (negation e) h = ratios_over b e h
    ratios_over b (addition e f) h = each_append (IsStatementOver nodes x y) _ _ (ratios_over b e h.0) (ratios_over b f h.1)
    ratios_over b (subtraction e f) h = each_append (IsStatementOver nodes x y) _ _ (ratios_over b e h.0) (ratios_over b f h.1)
    ratios_over b (multiplication e f) h = each_append (IsStatementOver nodes x y) _ _ (ratios_over b e h.0) (ratios_over b f h.1)
    ratios_over b (division e f) h = each_append (IsStatementOver nodes x y) _ _ (ratios_over b e h.0) (ratios_over false f h.1)

    pub goals_over : (s : Statement) → IsStatementOver nodes x y s → AreOver (statement_goals nodes s)
    goals_over (Equal e f) h =
        each_append (IsStatementOver nodes x y) (ratio_goals (tree_of nodes e) ++ ratio_goals (tree_of nodes f)) (Equal e f ∷ [])
        (each_append (IsStatementOver nodes x y) (ratio_goals (tree_of nodes e)) (ratio_goals (tree_of nodes f)) (ratios_over true (tree_of nodes e) h.0) (ratios_over true (tree_of nodes f) h.1))
        (h, tt)
    goals_over (Collinear a b c) h = (h, tt)
    goals_over (Parallel a b c d) h = (h, tt)
    goals_over (Perpendicular a b c d) h = (h, tt)
    goals_over (Identical a b) h = (h, tt)
    goals_over (Midpoint c a b) h = (h, tt)
    goals_over (SameLength a b c d) h = (h, tt)
    goals_over (Harmonic a b c d) h = ((h.0, h.2, h.2, h.1), ((h.0, h.3, h.1, h.3), (h, tt)))
    goals_over (Concyclic a b c d) h = (h, tt)
