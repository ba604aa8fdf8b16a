-- In a lowered placement with the same named points and numbers, a condition's term is not 0 exactly where the condition holds, and a goal's is 0 exactly where the goal does.
use Rattle.std.proofs.Common.{◌≡◌, ℕ, Bool, true, false, ◌<◌, ◌↔◌, pos, [], ◌∷◌, ◌++◌, sym, subst}
use Rattle.std.specs.List.{AllByRecursion}
use Rattle.ring_laws.specs.Fraction.{Fraction, Same, whole, minus, IsNonzero}
use Rattle.geo_points.specs.Placements.{Placement}
use Rattle.geo_points.specs.Points.{signed_area, pythagoras_difference, cross_product}
use Rattle.geo_points.proofs.Exchange.{signed_area-same, pythagoras_difference-same, HasRatio-same, ratio-same}
use Rattle.ring_laws.proofs.Fractions as F
use Rattle.ring_laws.proofs.Fractions.{fractions}
use Rattle.geo_terms.specs.Stores.{Store, tree_of}
use Rattle.geo_terms.specs.Values.{HasTreeValue, tree_value}
use Rattle.geo_terms.specs.Trees.{Tree, integer_leaf, parameter_leaf, area_leaf, pythagoras_leaf, ratio_leaf, negation, addition, subtraction, multiplication, division}
use Rattle.geo_program.specs.declared.statements.Statement.{Statement}
use Rattle.geo_program.specs.declared.statements.Statement.TheVariants.{Equal, Collinear, Parallel, Perpendicular, Identical, Midpoint, SameLength, Harmonic, Concyclic}
use Rattle.geo_program.specs.Expressions.{IsExpression}
use Rattle.geo_program.specs.WellFormed.{Source}
use Rattle.geo_lowering.specs.declared.version.Version.{Version}
use Rattle.geo_lowering.specs.CommandsMet.{reading, lines_of}
use Rattle.geo_lowering.specs.Conditions.{Condition, different, not_collinear, not_parallel, crossing, nonzero, IsConditionMet}
use Rattle.geo_lowering.specs.Lowering.{Layout, layout_of, renamed}
use Rattle.geo_lowering.proofs.ConditionValues.{each_front, each_back, each_append, RatiosParallel, has_ratios}
use Rattle.geo_lowering.proofs.Standing.{crossing-is}
use Rattle.geo_points.proofs.Same.{flip_point, minus-same}
use Rattle.geo_lowering.proofs.Up.{AllStand, AllSame}
use Rattle.geo_lowering.proofs.Values.{AgreeBelow, IsOver, over_expression, seen, renamed-has, renamed-value, value-same}
use Rattle.geo_points.proofs.Zeros.{is_nonzero, not_same}
use Rattle.geo_lowering.proofs.ZeroTerms.{collinear-is, parallel-is, perpendicular-is, identical-is, midpoint-is, same_length-is}
use Rattle.geo_lowering.proofs.ZeroTerms.{concyclic-is, equal-is, different-is, not_collinear-is, not_parallel-is}
use Rattle.geo_conditions.specs.Statements.{StatementHolds, ratio_goals, statement_goals}
use Rattle.geo_conditions.specs.Terms.{condition_term, goal_term, HasNonzeroValue, HasZeroValue}

pub nonzero-same : (a b : Fraction) → Same a b → IsNonzero a → IsNonzero b
nonzero-same a b h n = is_nonzero b (λ z. not_same a n (fractions.same_trans _ _ _ h z))

-- the same values are 0 together
pub zero-same : {A : Type 0} → (a b : Fraction) → Same a b → (A → Same a (whole (pos 0))) × (Same a (whole (pos 0)) → A)
    → (A → Unit {0} × Same b (whole (pos 0))) × (Unit {0} × Same b (whole (pos 0)) → A)
zero-same a b h e = (λ x. (tt, fractions.same_trans _ _ _ (fractions.same_sym _ _ h) (e.0 x)), λ x. e.1 (fractions.same_trans _ _ _ h x.1))

-- and not 0 together
pub denied-same : {A : Type 0} → (a b : Fraction) → Same a b → (A → IsNonzero a) × (IsNonzero a → A) → (A → Unit {0} × IsNonzero b) × (Unit {0} × IsNonzero b → A)
denied-same a b h e = (λ x. (tt, nonzero-same a b h (e.0 x)), λ x. e.1 (nonzero-same b a (fractions.same_sym _ _ h) x.1))

-- the condition names points below x, parameters below y and lines below j alone
abbrev pub IsConditionOver : ℕ → ℕ → ℕ → Condition → Type 0
IsConditionOver x y j (different a b) = (a.0 < x) × (b.0 < x)
IsConditionOver x y j (not_collinear a b c) = (a.0 < x) × (b.0 < x) × (c.0 < x)
IsConditionOver x y j (not_parallel a b c d) = (a.0 < x) × (b.0 < x) × (c.0 < x) × (d.0 < x)
IsConditionOver x y j (crossing a b) = (a.0 < j) × (b.0 < j)
IsConditionOver x y j (nonzero e) = IsExpression x y false e

-- so does the statement, whose sides are expressions over these
abbrev pub IsStatementOver : Store → ℕ → ℕ → Statement → Type 0
IsStatementOver nodes x y (Equal e f) = IsExpression x y true (tree_of nodes e) × IsExpression x y true (tree_of nodes f)
IsStatementOver nodes x y (Collinear a b c) = (a.0 < x) × (b.0 < x) × (c.0 < x)
IsStatementOver nodes x y (Parallel a b c d) = (a.0 < x) × (b.0 < x) × (c.0 < x) × (d.0 < x)
IsStatementOver nodes x y (Perpendicular a b c d) = (a.0 < x) × (b.0 < x) × (c.0 < x) × (d.0 < x)
IsStatementOver nodes x y (Identical a b) = (a.0 < x) × (b.0 < x)
IsStatementOver nodes x y (Midpoint a b c) = (a.0 < x) × (b.0 < x) × (c.0 < x)
IsStatementOver nodes x y (SameLength a b c d) = (a.0 < x) × (b.0 < x) × (c.0 < x) × (d.0 < x)
IsStatementOver nodes x y (Harmonic a b c d) = (a.0 < x) × (b.0 < x) × (c.0 < x) × (d.0 < x)
IsStatementOver nodes x y (Concyclic a b c d) = (a.0 < x) × (b.0 < x) × (c.0 < x) × (d.0 < x)

module _ (version : Version) (p : Source) (V L : Placement) (x y j : ℕ) where
  abbrev l : Layout
  l = layout_of version p.commands

  -- the lowered placement agrees with the other at what is declared
  pub record Agrees : Type 0 where
    pub points : AllSame version l p.nodes V L (lines_of V p.commands) x
    pub numbers : (t : ℕ) → t < y → Same (V.number (l.param t)) (L.number (l.param t))
    pub lines : AllStand version l p.nodes V L (lines_of V p.commands) j

  module _ (g : Agrees) where
    down : AgreeBelow x y (reading p V) (seen l L)
    down = record { points = g.points; numbers = g.numbers }

    up : AgreeBelow x y (seen l L) (reading p V)
    up = record { points = λ a b. flip_point _ _ (g.points a b); numbers = λ t b. fractions.same_sym _ _ (g.numbers t b) }

    -- a term has the same value after renaming
    pub value_down : (e : Tree) → IsOver x y e → HasTreeValue (reading p V) e → HasTreeValue L (renamed l e) × Same (tree_value (reading p V) e) (tree_value L (renamed l e))
    value_down e o h =
        let k = value-same x y (reading p V) (seen l L) down e o h in (
          subst (λ (A : Type 0). A) (sym (renamed-has l L e)) k.0,
          subst (λ r. Same (tree_value (reading p V) e) r) (sym (renamed-value l L e)) k.1,
        )

    pub value_up : (e : Tree) → IsOver x y e → HasTreeValue L (renamed l e) → HasTreeValue (reading p V) e × Same (tree_value (reading p V) e) (tree_value L (renamed l e))
    value_up e o h =
        let k = value-same x y (seen l L) (reading p V) up e o (subst (λ (A : Type 0). A) (renamed-has l L e) h) in (
          k.0,
          subst (λ r. Same (tree_value (reading p V) e) r) (sym (renamed-value l L e)) (fractions.same_sym _ _ k.1),
        )

    -- CONDITIONS
    pub condition_is : (c : Condition) → IsConditionOver x y j c → IsConditionMet p V c ↔ HasNonzeroValue L (condition_term l c)
    condition_is (different a b) o =
        denied-same _ _ (pythagoras_difference-same _ _ _ _ _ _ (g.points a.0 o.0) (g.points b.0 o.1) (g.points a.0 o.0)) (different-is (V.point a.0) (V.point b.0))
    condition_is (not_collinear a b c) o =
        denied-same _ _ (signed_area-same _ _ _ _ _ _ (g.points a.0 o.0) (g.points b.0 o.1) (g.points c.0 o.2)) (not_collinear-is (V.point a.0) (V.point b.0) (V.point c.0))
    condition_is (not_parallel a b c d) o =
        let e = denied-same _ _
        (minus-same _ _ _ _ (signed_area-same _ _ _ _ _ _ (g.points a.0 o.0) (g.points c.0 o.2) (g.points d.0 o.3))
        (signed_area-same _ _ _ _ _ _ (g.points b.0 o.1) (g.points c.0 o.2) (g.points d.0 o.3)))
        (not_parallel-is (V.point a.0) (V.point b.0) (V.point c.0) (V.point d.0)) in (λ h. ((tt, tt), (e.0 h).1), λ h. e.1 (tt, h.1))
    condition_is (crossing a b) o =
        let e = crossing-is _ _ _ _ _ _ (g.lines a.0 o.0) (g.lines b.0 o.1) in (λ h. ((tt, tt), e.0 h), λ h. e.1 h.1)
    condition_is (nonzero e) o = (
      λ h. let k = value_down e (over_expression x y false e o) h.0 in (k.0, nonzero-same _ _ k.1 h.1),
      λ h. let k = value_up e (over_expression x y false e o) h.0 in (k.0, nonzero-same _ _ (fractions.same_sym _ _ k.1) h.1),
    )

    -- GOALS
    pub parallel_zero : (a b c d : ℕ) → a < x → b < x → c < x → d < x
        → (cross_product (V.point a) (V.point b) (V.point c) (V.point d) ≡ pos 0)
        ↔ ((Unit {0} × Unit {0}) × Same
        (minus (signed_area (L.point (l.point a)) (L.point (l.point c)) (L.point (l.point d)))
        (signed_area (L.point (l.point b)) (L.point (l.point c)) (L.point (l.point d)))) (whole (pos 0)))
    parallel_zero a b c d ha hb hc hd =
        let e = zero-same _ _
        (minus-same _ _ _ _ (signed_area-same _ _ _ _ _ _ (g.points a ha) (g.points c hc) (g.points d hd)) (signed_area-same _ _ _ _ _ _ (g.points b hb) (g.points c hc) (g.points d hd)))
        (parallel-is (V.point a) (V.point b) (V.point c) (V.point d)) in (λ h. ((tt, tt), (e.0 h).1), λ h. e.1 (tt, h.1))

    -- a goal of a list has the value 0
    abbrev pub IsZero : Statement → Type 0
    IsZero s = HasZeroValue L (goal_term l p.nodes s)

    -- an expression without ratios has no goals
    no_goals : (P : Statement → Type 0) (e : Tree) → IsExpression x y false e → AllByRecursion P (ratio_goals e)
    no_goals P (integer_leaf z) i = tt
    no_goals P (parameter_leaf t) i = tt
    no_goals P (area_leaf a b c) i = tt
    no_goals P (pythagoras_leaf a b c) i = tt
    no_goals P (ratio_leaf a b c d) i = let n : false ≡ true = i.0 in cc
    no_goals P (negation e) i = no_goals P e i
    no_goals P (addition e f) i = each_append P _ _ (no_goals P e i.0) (no_goals P f i.1)
    no_goals P (subtraction e f) i = each_append P _ _ (no_goals P e i.0) (no_goals P f i.1)
    no_goals P (multiplication e f) i = each_append P _ _ (no_goals P e i.0) (no_goals P f i.1)
    no_goals P (division e f) i = each_append P _ _ (no_goals P e i.0) (no_goals P f i.1)

    -- the ratios of an expression have parallel pairs exactly where their goals are 0
    pub ratios_zero : (b : Bool) (e : Tree) → IsExpression x y b e → RatiosParallel p V e → AllByRecursion IsZero (ratio_goals e)
    ratios_zero b (integer_leaf z) i h = tt
    ratios_zero b (parameter_leaf t) i h = tt
    ratios_zero b (area_leaf a c d) i h = tt
    ratios_zero b (pythagoras_leaf a c d) i h = tt
    ratios_zero b (ratio_leaf a c d e) i h = ((parallel_zero a.0 c.0 d.0 e.0 i.1 i.2 i.3 i.4).0 h, tt)
    ratios_zero b (negation e) i h = ratios_zero b e i h
    ratios_zero b (addition e f) i h = each_append IsZero _ _ (ratios_zero b e i.0 h.0) (ratios_zero b f i.1 h.1)
    ratios_zero b (subtraction e f) i h = each_append IsZero _ _ (ratios_zero b e i.0 h.0) (ratios_zero b f i.1 h.1)
    ratios_zero b (multiplication e f) i h = each_append IsZero _ _ (ratios_zero b e i.0 h.0) (ratios_zero b f i.1 h.1)
    ratios_zero b (division e f) i h = each_append IsZero _ _ (ratios_zero b e i.0 h) (no_goals IsZero f i.1)

    pub zero_ratios : (b : Bool) (e : Tree) → IsExpression x y b e → AllByRecursion IsZero (ratio_goals e) → RatiosParallel p V e
    zero_ratios b (integer_leaf z) i h = tt
    zero_ratios b (parameter_leaf t) i h = tt
    zero_ratios b (area_leaf a c d) i h = tt
    zero_ratios b (pythagoras_leaf a c d) i h = tt
    zero_ratios b (ratio_leaf a c d e) i h = (parallel_zero a.0 c.0 d.0 e.0 i.1 i.2 i.3 i.4).1 h.0
    zero_ratios b (negation e) i h = zero_ratios b e i h
    zero_ratios b (addition e f) i h = (zero_ratios b e i.0 (each_front IsZero _ _ h), zero_ratios b f i.1 (each_back IsZero (ratio_goals e) (ratio_goals f) h))
    zero_ratios b (subtraction e f) i h = (zero_ratios b e i.0 (each_front IsZero _ _ h), zero_ratios b f i.1 (each_back IsZero (ratio_goals e) (ratio_goals f) h))
    zero_ratios b (multiplication e f) i h = (zero_ratios b e i.0 (each_front IsZero _ _ h), zero_ratios b f i.1 (each_back IsZero (ratio_goals e) (ratio_goals f) h))
    zero_ratios b (division e f) i h = zero_ratios b e i.0 (each_front IsZero _ _ h)

    areas : (a b c : ℕ) → a < x → b < x → c < x → Same (signed_area (V.point a) (V.point b) (V.point c)) (signed_area (L.point (l.point a)) (L.point (l.point b)) (L.point (l.point c)))
    areas a b c ha hb hc = signed_area-same _ _ _ _ _ _ (g.points a ha) (g.points b hb) (g.points c hc)

    differences : (a b c : ℕ) → a < x → b < x → c < x
        → Same (pythagoras_difference (V.point a) (V.point b) (V.point c)) (pythagoras_difference (L.point (l.point a)) (L.point (l.point b)) (L.point (l.point c)))
    differences a b c ha hb hc = pythagoras_difference-same _ _ _ _ _ _ (g.points a ha) (g.points b hb) (g.points c hc)

    -- the statement holds exactly where all goals are 0
    pub statement_is : (s : Statement) → IsStatementOver p.nodes x y s → StatementHolds p V s ↔ AllByRecursion IsZero (statement_goals p.nodes s)
    statement_is (Equal e f) o =
        let E = tree_of p.nodes e in let G = tree_of p.nodes f in
        let oe = over_expression x y true E o.0 in let of = over_expression x y true G o.1 in (
          λ h. let ke = value_down E oe h.left in let kf = value_down G of h.right in
              each_append IsZero (ratio_goals E ++ ratio_goals G) (Equal e f ∷ [])
              (each_append IsZero (ratio_goals E) (ratio_goals G) (ratios_zero true E o.0 (has_ratios p V E h.left)) (ratios_zero true G o.1 (has_ratios p V G h.right)))
              (((ke.0, kf.0), (equal-is _ _).0 (fractions.same_trans _ _ _ (fractions.same_sym _ _ ke.1) (fractions.same_trans _ _ _ h.same kf.1))), tt),
          λ h. let z = (each_back IsZero (ratio_goals E ++ ratio_goals G) (Equal e f ∷ []) h).0 in
              let ke = value_up E oe z.0.0 in let kf = value_up G of z.0.1 in
              record { left = ke.0; right = kf.0; same = fractions.same_trans _ _ _ ke.1 (fractions.same_trans _ _ _ ((equal-is _ _).1 z.1) (fractions.same_sym _ _ kf.1)) },
        )
    statement_is (Collinear a b c) o =
        let e = zero-same _ _ (areas a.0 b.0 c.0 o.0 o.1 o.2) (collinear-is (V.point a.0) (V.point b.0) (V.point c.0)) in (λ h. (e.0 h, tt), λ h. e.1 h.0)
    statement_is (Parallel a b c d) o = let e = parallel_zero a.0 b.0 c.0 d.0 o.0 o.1 o.2 o.3 in (λ h. (e.0 h, tt), λ h. e.1 h.0)
    statement_is (Perpendicular a b c d) o =
        let e = zero-same _ _ (minus-same _ _ _ _ (differences a.0 c.0 d.0 o.0 o.2 o.3) (differences b.0 c.0 d.0 o.1 o.2 o.3))
        (perpendicular-is (V.point a.0) (V.point b.0) (V.point c.0) (V.point d.0)) in
        (λ h. (((tt, tt), (e.0 h).1), tt), λ h. e.1 (tt, h.0.1))
    statement_is (Identical a b) o =
        let e = zero-same _ _ (differences a.0 b.0 a.0 o.0 o.1 o.0) (identical-is (V.point a.0) (V.point b.0)) in (λ h. (e.0 h, tt), λ h. e.1 h.0)
    statement_is (Midpoint m a b) o =
        let two = fractions.same_refl (whole (pos 2)) in
        let e = zero-same _ _
        (minus-same _ _ _ _ (F.plus-same _ _ _ _ (F.times-same _ _ _ _ two (differences a.0 m.0 a.0 o.1 o.0 o.1))
        (F.times-same _ _ _ _ two (differences b.0 m.0 b.0 o.2 o.0 o.2))) (differences a.0 b.0 a.0 o.1 o.2 o.1))
        (midpoint-is (V.point m.0) (V.point a.0) (V.point b.0)) in
        (λ h. (((((tt, tt), (tt, tt)), tt), (e.0 h).1), tt), λ h. e.1 (tt, h.0.1))
    statement_is (SameLength a b c d) o =
        let e = zero-same _ _ (minus-same _ _ _ _ (differences a.0 b.0 a.0 o.0 o.1 o.0) (differences c.0 d.0 c.0 o.2 o.3 o.2))
        (same_length-is (V.point a.0) (V.point b.0) (V.point c.0) (V.point d.0)) in
        (λ h. (((tt, tt), (e.0 h).1), tt), λ h. e.1 (tt, h.0.1))
    statement_is (Harmonic a b c d) o =
        let A = g.points a.0 o.0 in let B = g.points b.0 o.1 in let C = g.points c.0 o.2 in let D = g.points d.0 o.3 in
        let A' = flip_point _ _ A in let B' = flip_point _ _ B in let C' = flip_point _ _ C in let D' = flip_point _ _ D in (
          λ h.
              let u = HasRatio-same _ _ _ _ _ _ _ _ A C C B h.first in let v = HasRatio-same _ _ _ _ _ _ _ _ A D B D h.second in
              let s = ratio-same _ _ _ _ _ _ _ _ A C C B h.first in let t = ratio-same _ _ _ _ _ _ _ _ A D B D h.second in (
                (parallel_zero a.0 c.0 c.0 b.0 o.0 o.2 o.2 o.1).0 h.first.parallel,
                (
                  (parallel_zero a.0 d.0 b.0 d.0 o.0 o.3 o.1 o.3).0 h.second.parallel,
                  (((u, v), (equal-is _ _).0 (fractions.same_trans _ _ _ (fractions.same_sym _ _ s) (fractions.same_trans _ _ _ h.equal t))), tt),
                ),
              ),
          λ h. let z = h.1.1.0 in
              let u = HasRatio-same _ _ _ _ _ _ _ _ A' C' C' B' z.0.0 in let v = HasRatio-same _ _ _ _ _ _ _ _ A' D' B' D' z.0.1 in
              let s = ratio-same _ _ _ _ _ _ _ _ A' C' C' B' z.0.0 in let t = ratio-same _ _ _ _ _ _ _ _ A' D' B' D' z.0.1 in
              record { first = u; second = v; equal = fractions.same_trans _ _ _ (fractions.same_sym _ _ s) (fractions.same_trans _ _ _ ((equal-is _ _).1 z.1) t) },
        )
    statement_is (Concyclic a b c d) o =
        let e = zero-same _ _
        (minus-same _ _ _ _ (F.times-same _ _ _ _ (areas c.0 a.0 d.0 o.2 o.0 o.3) (differences c.0 b.0 d.0 o.2 o.1 o.3))
        (F.times-same _ _ _ _ (differences c.0 a.0 d.0 o.2 o.0 o.3) (areas c.0 b.0 d.0 o.2 o.1 o.3)))
        (concyclic-is (V.point a.0) (V.point b.0) (V.point c.0) (V.point d.0)) in
        (λ h. ((((tt, tt), (tt, tt)), (e.0 h).1), tt), λ h. e.1 (tt, h.0.1))
