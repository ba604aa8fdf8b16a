-- The lemma table is sound as moves use it, where its rows are.
use Rattle.std.specs.Prelude.{slice_get, if◌then◌else◌, IfSome}
use Rattle.std.specs.Option.{option_and_then, option_map}
use Rattle.std.specs.Ordering.{is_eq}
use Rattle.std.proofs.Common.{◌≡◌, ℕ, ◌<◌, ◌&&◌, Bool, true, false, cond, eqb, pos, Option, Some, None, refl, sym, ap, subst, arith}
use Rattle.std.proofs.lemmas.Bool.{eqb-true}
use Rattle.fraction_poly.specs.Forms.{Form, integer}
use Rattle.fraction_poly.specs.TableRows.{TableRow, HasVariable}
use Rattle.geo_points.specs.declared.ids.PointId.{PointId}
use Rattle.geo_points.specs.declared.ids.TermId.{TermId}
use Rattle.geo_points.specs.Placements.{Placement}
use Rattle.geo_points.specs.Points.{HasRatio}
use Rattle.ring_laws.specs.Fraction.{whole}
use Rattle.ring_laws.proofs.Fractions.{fractions}
use Rattle.geo_points.proofs.RatioRows.{ratio-pratio}
use Rattle.geo_points.proofs.RatioSigns.{HasRatio-turned_first, HasRatio-turned_last}
use Rattle.geo_poly.specs.declared.variables.Var.{Var}
use Rattle.geo_poly.specs.declared.variables.Var.TheVariants.{R, S, P, X, Y, T}
use Rattle.geo_poly.specs.Variables.{var_cmp}
use Rattle.geo_poly.proofs.CanonicalRatios.{canonical_ratio-defined}
use Rattle.geo_terms.specs.declared.steps.Step.{Step}
use Rattle.geo_terms.specs.declared.steps.Step.TheVariants.{Pratio, Point as FreeStep, Inter, Foot, Tratio, Weights}
use Rattle.geo_terms.specs.Constructions.{Construction, IsStepMet}
use Rattle.geo_terms.specs.Stores.{tree_of}
use Rattle.geo_terms.specs.Trees.{Tree, IsStepNumber, integer_leaf, parameter_leaf, area_leaf, pythagoras_leaf, ratio_leaf, negation, addition, subtraction, multiplication, division}
use Rattle.geo_terms.specs.Values.{tree_value}
use Rattle.geo_logs.specs.declared.moves.Move.{Move}
use Rattle.geo_logs.specs.declared.moves.Move.TheVariants.{Ratio, Point, Coords}
use Rattle.geo_logs.specs.Naming.{IsNamed}
use Rattle.geo_terms.specs.TermBounds.{IsTermBelow}
use Rattle.fraction_poly.specs.StepForms.{step_denominator, step_row}
use Rattle.elim_area.specs.AreaTable.{area_numerator, area_table, points_after}
use Rattle.elim_pyth.specs.declared.pyth_rows.Reading.{Reading}
use Rattle.elim_pyth.specs.declared.pyth_rows.Reading.TheVariants.{Linear, Quadratic}
use Rattle.elim_pyth.specs.DifferenceTable.{difference_row, difference_table, linear_numerator, reading}
use Rattle.area_coords.specs.FreeTable.{area_in_coordinates, difference_in_coordinates, free_table, is_free}
use Rattle.elim_apply.specs.LemmaTable.{move_denominator, point_denominator, row_denominator, row_of_move}
use Rattle.elim_ratio.specs.RatioTable.{end_at, ratio_table, same_line}
use Rattle.geo_logs.proofs.MoveValues.{one_variable}
use Rattle.elim_apply.proofs.RowVariables.{quadratic_row, Follows, FollowsFree}
use Rattle.geo_logs.proofs.TermVariables.{OfLeaves, difference_named, difference_valued, named_leaves, sorted_named, sorted_ratio}

-- NUMBERS OF STEPS
number_below : (points params n : ℕ) (e : Tree) → points < n → IsStepNumber points params e → IsTermBelow n params e
number_below points params n (integer_leaf z) lt h = tt
number_below points params n (parameter_leaf t) lt h = h
number_below points params n (area_leaf a b d) lt h = (omega (arith, lt, h.0), omega (arith, lt, h.1), omega (arith, lt, h.2))
number_below points params n (pythagoras_leaf a b d) lt h = (omega (arith, lt, h.0), omega (arith, lt, h.1), omega (arith, lt, h.2))
number_below points params n (ratio_leaf a b d e) lt h = absurd h
number_below points params n (negation e) lt h = number_below points params n e lt h
number_below points params n (addition e f) lt h = (number_below points params n e lt h.0, number_below points params n f lt h.1)
number_below points params n (subtraction e f) lt h = (number_below points params n e lt h.0, number_below points params n f lt h.1)
number_below points params n (multiplication e f) lt h = (number_below points params n e lt h.0, number_below points params n f lt h.1)
number_below points params n (division e f) lt h = (number_below points params n e lt h.0, number_below points params n f lt h.1)

number_valued : (placed : Placement) (points params : ℕ) (e : Tree) → IsStepNumber points params e → OfLeaves (HasVariable placed) e
number_valued placed points params (integer_leaf z) h = tt
number_valued placed points params (parameter_leaf t) h = tt
number_valued placed points params (area_leaf a b d) h = tt
number_valued placed points params (pythagoras_leaf a b d) h = difference_valued placed a b d
number_valued placed points params (ratio_leaf a b d e) h = absurd h
number_valued placed points params (negation e) h = number_valued placed points params e h
number_valued placed points params (addition e f) h = (number_valued placed points params e h.0, number_valued placed points params f h.1)
number_valued placed points params (subtraction e f) h = (number_valued placed points params e h.0, number_valued placed points params f h.1)
number_valued placed points params (multiplication e f) h = (number_valued placed points params e h.0, number_valued placed points params f h.1)
number_valued placed points params (division e f) h = (number_valued placed points params e h.0, number_valued placed points params f h.1)

-- THE TWO PROPERTIES FOLLOW FROM POINTS
pub names_follow : (c : Construction) (n : ℕ) → Follows c (λ a. a.0 < n) (IsNamed c n)
names_follow c n = record {
  areas = sorted_named c n;
  differences = difference_named c n;
  numbers = λ y e lt h. named_leaves c n e (number_below y.0 c.params n e lt h);
  earlier = λ y a lt less. omega (arith, lt, less);
}

pub names_free : (c : Construction) (n : ℕ) → FollowsFree c (λ a. a.0 < n) (IsNamed c n)
names_free c n = record { abscissas = λ a lt free. (lt, free); ordinates = λ a lt free. (lt, free) }

pub values_follow : (c : Construction) (placed : Placement) → Follows c (λ a. Unit {0}) (HasVariable placed)
values_follow c placed = record {
  areas = λ a b d g h k. tt;
  differences = λ a b d g h k. difference_valued placed a b d;
  numbers = λ y e g h. number_valued placed y.0 c.params e h;
  earlier = λ y a g less. tt;
}

pub values_free : (c : Construction) (placed : Placement) → FollowsFree c (λ a. Unit {0}) (HasVariable placed)
values_free c placed = record { abscissas = λ a g free. tt; ordinates = λ a g free. tt }

-- LEMMA 3 BRINGS IN A RATIO THAT IS DEFINED
one_point : (a b : PointId) → eqb a.0 b.0 ≡ true → a ≡ b
one_point a b h = let point : ℕ → PointId = λ k. record { 0 = k } in ap point (eqb-true a.0 b.0 h)

same_end : (i a : PointId) (s t : Bool) → ◌≡◌ {A = Option (PointId × Bool)} (Some (i, s)) (Some (a, t)) → i ≡ a
same_end i a s t e = let pair : ◌≡◌ {A = PointId × Bool} (i, s) (a, t) = cc in ap (λ (x : PointId × Bool). x.0) pair

module _ (c : Construction) (placed : Placement) (y i j d e : PointId) (has : HasVariable placed (R i j d e)) where
  abbrev Defined : PointId → PointId → PointId → PointId → Type 0
  Defined a b p q = HasRatio (placed.point a.0) (placed.point b.0) (placed.point p.0) (placed.point q.0)

  -- the ratio AY / de is defined
  ended : (a : PointId) (turned : Bool) → end_at y i j ≡ Some (a, turned) → Defined a y d e
  ended a turned at = go (eqb j.0 y.0) (eqb i.0 y.0) refl refl at
    where
      go : (p q : Bool) → eqb j.0 y.0 ≡ p → eqb i.0 y.0 ≡ q
          → ◌≡◌ {A = Option (PointId × Bool)} (cond {A = Option (PointId × Bool)} p (Some (i, false)) (cond q (Some (j, true)) None)) (Some (a, turned)) → Defined a y d e
      go true q mj mi k =
          subst (λ (x : PointId). Defined x y d e) (same_end i a false turned k) (subst (λ (x : PointId). Defined i x d e) (one_point j y mj) has)
      go false true mj mi k =
          subst (λ (x : PointId). Defined x y d e) (same_end j a true turned k)
          (subst (λ (x : PointId). Defined j x d e) (one_point i y mi) (HasRatio-turned_first (placed.point i.0) (placed.point j.0) (placed.point d.0) (placed.point e.0) has))
      go false false mj mi k = absurd (let z : ◌≡◌ {A = Option (PointId × Bool)} None (Some (a, turned)) = k in cc)

  -- and AW / UV, where the pair de is UV in some order, and Y lies from W along UV
  pub chained : ((step : Step) → slice_get c.steps y.0 ≡ Some step → IsStepMet placed c.nodes y.0 step)
      → (a : PointId) (turned : Bool) → end_at y i j ≡ Some (a, turned) → (w u v : PointId) (r : TermId) → slice_get c.steps y.0 ≡ Some (Pratio w u v r)
      → IfSome (same_line u v d e) (λ other. HasVariable placed (sorted_ratio (HasVariable placed) a w u v))
  chained met a turned at w u v r is = go (eqb d.0 u.0) (eqb e.0 v.0) (eqb d.0 v.0) (eqb e.0 u.0) refl refl refl refl
    where
      over : Defined a y d e
      over = ended a turned at

      along : Defined a y u v → HasVariable placed (sorted_ratio (HasVariable placed) a w u v)
      along h =
          let value = tree_value placed (tree_of c.nodes r) in
          canonical_ratio-defined placed.point placed.number a w u v
          (ratio-pratio (placed.point a.0) (placed.point w.0) (placed.point u.0) (placed.point v.0) (placed.point y.0) value value
          (whole (pos 1)) (met (Pratio w u v r) is).1 (fractions.mul-one value) h).0

      across : eqb d.0 v.0 ≡ true → eqb e.0 u.0 ≡ true → HasVariable placed (sorted_ratio (HasVariable placed) a w u v)
      across dv eu =
          along (HasRatio-turned_last (placed.point a.0) (placed.point y.0) (placed.point v.0) (placed.point u.0)
          (subst (λ (x : PointId). Defined a y x u) (one_point d v dv) (subst (λ (x : PointId). Defined a y d x) (one_point e u eu) over)))

      go : (p q s t : Bool) → eqb d.0 u.0 ≡ p → eqb e.0 v.0 ≡ q → eqb d.0 v.0 ≡ s → eqb e.0 u.0 ≡ t
          → IfSome (cond {A = Option Bool} (p && q) (Some false) (cond (s && t) (Some true) None)) (λ other. HasVariable placed (sorted_ratio (HasVariable placed) a w u v))
      go true true s t du ev dv eu = along (subst (λ (x : PointId). Defined a y x v) (one_point d u du) (subst (λ (x : PointId). Defined a y d x) (one_point e v ev) over))
      go true false true true du ev dv eu = across dv eu
      go true false true false du ev dv eu = tt
      go true false false t du ev dv eu = tt
      go false q true true du ev dv eu = across dv eu
      go false q true false du ev dv eu = tt
      go false q false t du ev dv eu = tt

-- OPTIONS
pub some_of : {A : Type 0} (o : Option A) (r : A) (Q : A → Type 0) → o ≡ Some r → IfSome o Q → Q r
some_of {A} o r Q e h = subst (λ (x : Option A). IfSome x Q) e h

pub both_some : (o : Option TableRow) (Q U : TableRow → Type 0) → IfSome o Q → IfSome o U → IfSome o (λ t. Q t × U t)
both_some None Q U h g = tt
both_some (Some t) Q U h g = (h, g)

pub each_some : (o : Option TableRow) (Q U : TableRow → Type 0) → ((t : TableRow) → Q t → U t) → IfSome o Q → IfSome o U
each_some None Q U f h = tt
each_some (Some t) Q U f h = f t h

-- DENOMINATORS
own_denominator : (o : Option TableRow) → IfSome o (λ t. t.den ≡ row_denominator o)
own_denominator None = tt
own_denominator (Some t) = refl

module _ (c : Construction) where
  mapped_den : (step : Step) (o : Option Form) → IfSome (option_map (step_row c.nodes step 1) o) (λ t. t.den ≡ step_denominator c.nodes step)
  mapped_den step None = tt
  mapped_den step (Some num) = refl

  area_den : (y i j k : PointId) → IfSome (area_table c y (S i j k)) (λ t. t.den ≡ point_denominator c (slice_get c.steps y.0))
  area_den y i j k = go (slice_get c.steps y.0)
    where
      after : (step : Step) (o : Option (PointId × PointId))
          → IfSome (option_and_then (λ (ab : PointId × PointId). option_map (step_row c.nodes step 1) (area_numerator c.nodes step ab.0 ab.1)) o) (λ t. t.den ≡ step_denominator c.nodes step)
      after step None = tt
      after step (Some ab) = mapped_den step (area_numerator c.nodes step ab.0 ab.1)

      go : (o : Option Step)
          → IfSome (option_and_then (λ step. option_and_then
          (λ ab. option_map (step_row c.nodes step 1) (area_numerator c.nodes step ab.0 ab.1)) (points_after y i j k)) o)
          (λ t. t.den ≡ point_denominator c o)
      go None = tt
      go (Some step) = after step (points_after y i j k)

  quadratic_den : (step : Step) (a b : PointId) → IfSome (quadratic_row c.nodes step a b) (λ t. t.den ≡ step_denominator c.nodes step)
  quadratic_den FreeStep a b = tt
  quadratic_den (Inter u v p q) a b = refl
  quadratic_den (Foot p u v) a b = refl
  quadratic_den (Pratio w u v r) a b = refl
  quadratic_den (Tratio u v r) a b = refl
  quadratic_den (Weights o u v r s) a b = refl

  difference_den : (y i j k : PointId) → IfSome (difference_table c y (P i j k)) (λ t. t.den ≡ point_denominator c (slice_get c.steps y.0))
  difference_den y i j k = go (slice_get c.steps y.0)
    where
      after : (step : Step) (o : Option Reading) → IfSome (option_and_then (difference_row c.nodes step) o) (λ t. t.den ≡ step_denominator c.nodes step)
      after step None = tt
      after step (Some (Linear a b)) = mapped_den step (linear_numerator c.nodes step a b)
      after step (Some (Quadratic a b)) = quadratic_den step a b

      go : (o : Option Step) → IfSome (option_and_then (λ step. option_and_then (difference_row c.nodes step) (reading y i j k)) o) (λ t. t.den ≡ point_denominator c o)
      go None = tt
      go (Some step) = after step (reading y i j k)

  free_den : (y : PointId) (v : Var) → IfSome (free_table c y v) (λ t. t.den ≡ integer 2)
  free_den y (S i j k) = go (is_free c i && is_free c j && is_free c k)
    where
      go : (b : Bool) → IfSome (if b then Some (record { power = 1; num = area_in_coordinates i j k; den = integer 2; charge = 0 }) else None) (λ (t : TableRow). t.den ≡ integer 2)
      go true = refl
      go false = tt
  free_den y (P i j k) = go (is_free c i && is_free c j && is_free c k)
    where
      go : (b : Bool) → IfSome (if b then Some (record { power = 0; num = difference_in_coordinates i j k; den = integer 2; charge = 0 }) else None) (λ (t : TableRow). t.den ≡ integer 2)
      go true = refl
      go false = tt
  free_den y (R i j k l) = tt
  free_den y (X i) = tt
  free_den y (Y i) = tt
  free_den y (T t) = tt

  -- the row of a ratio move is that of its own variable
  pub by_own : (w v : Var) (lemma : ℕ) (at : PointId) (Q : TableRow → Type 0) → (w ≡ v → IfSome (ratio_table lemma c at v) Q) → IfSome (row_of_move c (Ratio w lemma at) v) Q
  by_own w v lemma at Q h = go (is_eq (var_cmp w v)) refl
    where
      go : (b : Bool) → is_eq (var_cmp w v) ≡ b → IfSome (cond {A = Option TableRow} b (ratio_table lemma c at v) None) Q
      go true e = h (one_variable w v e)
      go false e = tt

  pub move_den : (move : Move) (v : Var) → IfSome (row_of_move c move v) (λ t. t.den ≡ move_denominator c move)
  move_den (Ratio w lemma at) v =
      by_own w v lemma at (λ t. t.den ≡ row_denominator (ratio_table lemma c at w))
      (λ same. subst (λ (x : Var). IfSome (ratio_table lemma c at v) (λ t. t.den ≡ row_denominator (ratio_table lemma c at x))) (sym same) (own_denominator (ratio_table lemma c at v)))
  move_den (Point y) (S i j k) = area_den y i j k
  move_den (Point y) (P i j k) = difference_den y i j k
  move_den (Point y) (R i j k l) = tt
  move_den (Point y) (X i) = tt
  move_den (Point y) (Y i) = tt
  move_den (Point y) (T t) = tt
  move_den Coords v = free_den (record { 0 = 0 }) v
