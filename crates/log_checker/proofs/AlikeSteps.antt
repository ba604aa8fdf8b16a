-- Constructions with the same steps, whatever the order of the terms in their stores, have the same rows.
use Rattle.std.proofs.Common.{◌≡◌, ◌≢◌, ℕ, suc, ◌+◌, Bool, ◌&&◌, ◌==◌, Option, Some, None, List, [], ◌∷◌, ◌++◌, map, refl, sym, ◌∙◌, ap, ap₂, subst}
use Rattle.std.specs.Prelude.{slice_get, if◌then◌else◌}
use Rattle.std.specs.List.{filter_map}
use Rattle.std.specs.Option.{is_some, option_and_then, option_map}
use Rattle.std.specs.Ordering.{is_eq}
use Rattle.std.proofs.lemmas.Option.{slice_get-map}
use Rattle.fraction_poly.specs.Forms.{Form, integer, area, pythagoras, ratio, numerator, denominator, piece_of, ◌⊞◌, ◌⊟◌, ◌⊠◌}
use Rattle.fraction_poly.specs.Measures.{numbers_of}
use Rattle.fraction_poly.specs.StepForms.{along_numerator, step_charge, step_denominator, step_row, weights_numerator}
use Rattle.fraction_poly.specs.TableRows.{TableRow, made_row}
use Rattle.geo_points.specs.declared.ids.PointId.{PointId}
use Rattle.geo_points.specs.declared.ids.TermId.{TermId}
use Rattle.geo_poly.specs.declared.variables.Var.{Var}
use Rattle.geo_poly.specs.declared.variables.Var.TheVariants.{R, S, P, X as Abscissa, Y as Ordinate, T as Number}
use Rattle.geo_poly.specs.PolynomialVariables.{variables_of}
use Rattle.geo_poly.specs.Polynomials.{Summands}
use Rattle.geo_poly.specs.Variables.{var_cmp}
use Rattle.geo_terms.specs.declared.steps.Step.{Step}
use Rattle.geo_terms.specs.declared.steps.Step.TheVariants.{Point, Inter, Foot, Pratio, Tratio, Weights}
use Rattle.geo_terms.specs.Constructions.{Construction}
use Rattle.geo_terms.specs.Stores.{Store, tree_of}
use Rattle.geo_terms.specs.Trees.{Tree}
use Rattle.geo_lowering.specs.StepForms.{StepForm, along, crossing_of, foot_of, free, step_form, turned_along, weighted}
use Rattle.area_coords.specs.FreeTable.{area_in_coordinates, difference_in_coordinates, free_table, is_free, is_free_step}
use Rattle.elim_area.specs.AreaTable.{area_numerator, area_table, points_after}
use Rattle.elim_pyth.specs.DifferenceTable.{along_square, difference_row, difference_table, linear_numerator, quadratic_numerator, quadratic_power, reading, turned_square, weights_square}
use Rattle.elim_pyth.specs.declared.pyth_rows.Reading.{Reading}
use Rattle.elim_pyth.specs.declared.pyth_rows.Reading.TheVariants.{Linear, Quadratic}
use Rattle.elim_ratio.specs.RatioTable.{along_row, crossing_row, end_at, first_fitting, first_lemma, first_line, foot_row, lemma_row}
use Rattle.elim_ratio.specs.RatioTable.{pythagoras_row, ratio_table, same_line, second_line, shared_row, with_sign}
use Rattle.geo_logs.specs.declared.moves.Move.{Move}
use Rattle.geo_logs.specs.declared.moves.Move.TheVariants.{Ratio, Point as PointMove, Coords}
use Rattle.elim_apply.specs.LemmaTable.{lemma_table, move_denominator, number_charge, point_charge, point_denominator, row_charge, row_denominator, row_of_move}
use Rattle.geo_logs.specs.Moves.{replacement}
use Rattle.geo_logs.specs.Defined.{IsConstructed}
use Rattle.geo_logs.specs.Samples.{coordinates_from, parameters_from, sample_variables}

-- STEPS
-- the steps are the same, with the same number where they have one
pub data Alike (n m : Store) : Step → Step → Type 0 where
  free_both : Alike n m Point Point
  crossing_both : (u v p q : PointId) → Alike n m (Inter u v p q) (Inter u v p q)
  foot_both : (p u v : PointId) → Alike n m (Foot p u v) (Foot p u v)
  along_both : (w u v : PointId) (r s : TermId) → tree_of n r ≡ tree_of m s → Alike n m (Pratio w u v r) (Pratio w u v s)
  turned_both : (u v : PointId) (r s : TermId) → tree_of n r ≡ tree_of m s → Alike n m (Tratio u v r) (Tratio u v s)
  weighted_both : (o u v : PointId) (r s r' s' : TermId) → tree_of n r ≡ tree_of m r' → tree_of n s ≡ tree_of m s' → Alike n m (Weights o u v r s) (Weights o u v r' s')

same_point : (a b : PointId) → a.0 ≡ b.0 → a ≡ b
same_point a b e = let point : ℕ → PointId = λ k. record { 0 = k } in ap point e

alike : (n m : Store) (a b : Step) → step_form n a ≡ step_form m b → Alike n m a b
alike n m Point Point e = free_both
alike n m (Inter u v p q) (Inter u' v' p' q') e =
    let f : crossing_of u.0 v.0 p.0 q.0 ≡ crossing_of u'.0 v'.0 p'.0 q'.0 = e in
    let a : u.0 ≡ u'.0 = cc in let b : v.0 ≡ v'.0 = cc in let c : p.0 ≡ p'.0 = cc in let d : q.0 ≡ q'.0 = cc in
    let same : Inter u v p q ≡ Inter u' v' p' q' = λ i. Inter (same_point u u' a i) (same_point v v' b i) (same_point p p' c i) (same_point q q' d i) in
    subst (Alike n m (Inter u v p q)) same (crossing_both u v p q)
alike n m (Foot p u v) (Foot p' u' v') e =
    let f : foot_of p.0 u.0 v.0 ≡ foot_of p'.0 u'.0 v'.0 = e in
    let a : p.0 ≡ p'.0 = cc in let b : u.0 ≡ u'.0 = cc in let c : v.0 ≡ v'.0 = cc in
    let same : Foot p u v ≡ Foot p' u' v' = λ i. Foot (same_point p p' a i) (same_point u u' b i) (same_point v v' c i) in
    subst (Alike n m (Foot p u v)) same (foot_both p u v)
alike n m (Pratio w u v r) (Pratio w' u' v' s) e =
    let f : along w.0 u.0 v.0 (tree_of n r) ≡ along w'.0 u'.0 v'.0 (tree_of m s) = e in
    let a : w.0 ≡ w'.0 = cc in let b : u.0 ≡ u'.0 = cc in let c : v.0 ≡ v'.0 = cc in let t : tree_of n r ≡ tree_of m s = cc in
    let same : Pratio w u v s ≡ Pratio w' u' v' s = λ i. Pratio (same_point w w' a i) (same_point u u' b i) (same_point v v' c i) s in
    subst (Alike n m (Pratio w u v r)) same (along_both w u v r s t)
alike n m (Tratio u v r) (Tratio u' v' s) e =
    let f : turned_along u.0 v.0 (tree_of n r) ≡ turned_along u'.0 v'.0 (tree_of m s) = e in
    let b : u.0 ≡ u'.0 = cc in let c : v.0 ≡ v'.0 = cc in let t : tree_of n r ≡ tree_of m s = cc in
    let same : Tratio u v s ≡ Tratio u' v' s = λ i. Tratio (same_point u u' b i) (same_point v v' c i) s in
    subst (Alike n m (Tratio u v r)) same (turned_both u v r s t)
alike n m (Weights o u v r s) (Weights o' u' v' r' s') e =
    let f : weighted o.0 u.0 v.0 (tree_of n r) (tree_of n s) ≡ weighted o'.0 u'.0 v'.0 (tree_of m r') (tree_of m s') = e in
    let a : o.0 ≡ o'.0 = cc in let b : u.0 ≡ u'.0 = cc in let c : v.0 ≡ v'.0 = cc in
    let t : tree_of n r ≡ tree_of m r' = cc in let z : tree_of n s ≡ tree_of m s' = cc in
    let same : Weights o u v r' s' ≡ Weights o' u' v' r' s' = λ i. Weights (same_point o o' a i) (same_point u u' b i) (same_point v v' c i) r' s' in
    subst (Alike n m (Weights o u v r s)) same (weighted_both o u v r s r' s' t z)
alike n m Point (Inter u v p q) e = absurd (let f : free ≡ crossing_of u.0 v.0 p.0 q.0 = e in cc)
alike n m Point (Foot p u v) e = absurd (let f : free ≡ foot_of p.0 u.0 v.0 = e in cc)
alike n m Point (Pratio w u v s) e = absurd (let f : free ≡ along w.0 u.0 v.0 (tree_of m s) = e in cc)
alike n m Point (Tratio u v s) e = absurd (let f : free ≡ turned_along u.0 v.0 (tree_of m s) = e in cc)
alike n m (Inter u v p q) Point e = absurd (let f : crossing_of u.0 v.0 p.0 q.0 ≡ free = e in cc)
alike n m (Inter u v p q) (Foot p' u' v') e = absurd (let f : crossing_of u.0 v.0 p.0 q.0 ≡ foot_of p'.0 u'.0 v'.0 = e in cc)
alike n m (Inter u v p q) (Pratio w u' v' s) e = absurd (let f : crossing_of u.0 v.0 p.0 q.0 ≡ along w.0 u'.0 v'.0 (tree_of m s) = e in cc)
alike n m (Inter u v p q) (Tratio u' v' s) e = absurd (let f : crossing_of u.0 v.0 p.0 q.0 ≡ turned_along u'.0 v'.0 (tree_of m s) = e in cc)
alike n m (Foot p u v) Point e = absurd (let f : foot_of p.0 u.0 v.0 ≡ free = e in cc)
alike n m (Foot p u v) (Inter u' v' p' q') e = absurd (let f : foot_of p.0 u.0 v.0 ≡ crossing_of u'.0 v'.0 p'.0 q'.0 = e in cc)
alike n m (Foot p u v) (Pratio w u' v' s) e = absurd (let f : foot_of p.0 u.0 v.0 ≡ along w.0 u'.0 v'.0 (tree_of m s) = e in cc)
alike n m (Foot p u v) (Tratio u' v' s) e = absurd (let f : foot_of p.0 u.0 v.0 ≡ turned_along u'.0 v'.0 (tree_of m s) = e in cc)
alike n m (Pratio w u v r) Point e = absurd (let f : along w.0 u.0 v.0 (tree_of n r) ≡ free = e in cc)
alike n m (Pratio w u v r) (Inter u' v' p' q') e = absurd (let f : along w.0 u.0 v.0 (tree_of n r) ≡ crossing_of u'.0 v'.0 p'.0 q'.0 = e in cc)
alike n m (Pratio w u v r) (Foot p' u' v') e = absurd (let f : along w.0 u.0 v.0 (tree_of n r) ≡ foot_of p'.0 u'.0 v'.0 = e in cc)
alike n m (Pratio w u v r) (Tratio u' v' s) e = absurd (let f : along w.0 u.0 v.0 (tree_of n r) ≡ turned_along u'.0 v'.0 (tree_of m s) = e in cc)
alike n m (Tratio u v r) Point e = absurd (let f : turned_along u.0 v.0 (tree_of n r) ≡ free = e in cc)
alike n m (Tratio u v r) (Inter u' v' p' q') e = absurd (let f : turned_along u.0 v.0 (tree_of n r) ≡ crossing_of u'.0 v'.0 p'.0 q'.0 = e in cc)
alike n m (Tratio u v r) (Foot p' u' v') e = absurd (let f : turned_along u.0 v.0 (tree_of n r) ≡ foot_of p'.0 u'.0 v'.0 = e in cc)
alike n m (Tratio u v r) (Pratio w u' v' s) e = absurd (let f : turned_along u.0 v.0 (tree_of n r) ≡ along w.0 u'.0 v'.0 (tree_of m s) = e in cc)
alike n m Point (Weights o' u' v' x y) e = absurd (let f : free ≡ weighted o'.0 u'.0 v'.0 (tree_of m x) (tree_of m y) = e in cc)
alike n m (Inter u v p q) (Weights o' u' v' x y) e = absurd (let f : crossing_of u.0 v.0 p.0 q.0 ≡ weighted o'.0 u'.0 v'.0 (tree_of m x) (tree_of m y) = e in cc)
alike n m (Foot p u v) (Weights o' u' v' x y) e = absurd (let f : foot_of p.0 u.0 v.0 ≡ weighted o'.0 u'.0 v'.0 (tree_of m x) (tree_of m y) = e in cc)
alike n m (Pratio w u v r) (Weights o' u' v' x y) e = absurd (let f : along w.0 u.0 v.0 (tree_of n r) ≡ weighted o'.0 u'.0 v'.0 (tree_of m x) (tree_of m y) = e in cc)
alike n m (Tratio u v r) (Weights o' u' v' x y) e = absurd (let f : turned_along u.0 v.0 (tree_of n r) ≡ weighted o'.0 u'.0 v'.0 (tree_of m x) (tree_of m y) = e in cc)
alike n m (Weights o u v r s) Point e = absurd (let f : weighted o.0 u.0 v.0 (tree_of n r) (tree_of n s) ≡ free = e in cc)
alike n m (Weights o u v r s) (Inter u' v' p' q') e = absurd (let f : weighted o.0 u.0 v.0 (tree_of n r) (tree_of n s) ≡ crossing_of u'.0 v'.0 p'.0 q'.0 = e in cc)
alike n m (Weights o u v r s) (Foot p' u' v') e = absurd (let f : weighted o.0 u.0 v.0 (tree_of n r) (tree_of n s) ≡ foot_of p'.0 u'.0 v'.0 = e in cc)
alike n m (Weights o u v r s) (Pratio w' u' v' x) e = absurd (let f : weighted o.0 u.0 v.0 (tree_of n r) (tree_of n s) ≡ along w'.0 u'.0 v'.0 (tree_of m x) = e in cc)
alike n m (Weights o u v r s) (Tratio u' v' x) e = absurd (let f : weighted o.0 u.0 v.0 (tree_of n r) (tree_of n s) ≡ turned_along u'.0 v'.0 (tree_of m x) = e in cc)

-- ROWS OF A STEP
module _ (n m : Store) where
  one_denominator : (a b : Step) → Alike n m a b → step_denominator n a ≡ step_denominator m b
  one_denominator _ _ free_both = refl
  one_denominator _ _ (crossing_both u v p q) = refl
  one_denominator _ _ (foot_both p u v) = refl
  one_denominator _ _ (along_both w u v r s t) = ap denominator t
  one_denominator _ _ (turned_both u v r s t) = ap (λ (e : Tree). integer 4 ⊠ denominator e) t
  one_denominator _ _ (weighted_both o u v r s r' s' t z) = ap₂ (λ (e f : Tree). denominator e ⊠ denominator f) t z

  one_charge : (a b : Step) → Alike n m a b → step_charge n a ≡ step_charge m b
  one_charge _ _ free_both = refl
  one_charge _ _ (crossing_both u v p q) = refl
  one_charge _ _ (foot_both p u v) = refl
  one_charge _ _ (along_both w u v r s t) = ap (λ (e : Tree). (numbers_of e).charge) t
  one_charge _ _ (turned_both u v r s t) = ap (λ (e : Tree). (numbers_of e).charge) t
  one_charge _ _ (weighted_both o u v r s r' s' t z) = ap₂ (λ (e f : Tree). (numbers_of e).charge + (numbers_of f).charge) t z

  abbrev AreOneRow : Step → Step → ℕ → ℕ → Option Form → Option Form → Type 0
  AreOneRow a b power power' num num' = option_map (step_row n a power) num ≡ option_map (step_row m b power') num'

  one_row : (a b : Step) → Alike n m a b → (power power' : ℕ) (num num' : Option Form) → power ≡ power' → num ≡ num' → AreOneRow a b power power' num num'
  one_row a b h power power' num num' e f = λ i. option_map (λ (form : Form). record { power = e i; num = form; den = one_denominator a b h i; charge = one_charge a b h i }) (f i)

  one_area : (a b : Step) → Alike n m a b → (x y : PointId) → area_numerator n a x y ≡ area_numerator m b x y
  one_area _ _ free_both x y = refl
  one_area _ _ (crossing_both u v p q) x y = refl
  one_area _ _ (foot_both p u v) x y = refl
  one_area _ _ (along_both w u v r s t) x y = ap (λ (e : Tree). Some (along_numerator w u v (numerator e) (denominator e) (area x y))) t
  one_area _ _ (turned_both u v r s t) x y = ap (λ (e : Tree). Some (integer 4 ⊠ denominator e ⊠ area x y u ⊟ numerator e ⊠ (pythagoras u x y ⊟ pythagoras v x y))) t
  one_area _ _ (weighted_both o u v r s r' s' t z) x y =
      ap₂ (λ (e f : Tree). Some (weights_numerator o u v (numerator e) (denominator e) (numerator f) (denominator f) (area x y))) t z

  one_linear : (a b : Step) → Alike n m a b → (x y : PointId) → linear_numerator n a x y ≡ linear_numerator m b x y
  one_linear _ _ free_both x y = refl
  one_linear _ _ (crossing_both u v p q) x y = refl
  one_linear _ _ (foot_both p u v) x y = refl
  one_linear _ _ (along_both w u v r s t) x y = ap (λ (e : Tree). Some (along_numerator w u v (numerator e) (denominator e) (pythagoras x y))) t
  one_linear _ _ (turned_both u v r s t) x y = ap (λ (e : Tree). Some (integer 4 ⊠ denominator e ⊠ pythagoras x y u ⊟ integer 16 ⊠ numerator e ⊠ (area u x y ⊟ area v x y))) t
  one_linear _ _ (weighted_both o u v r s r' s' t z) x y =
      ap₂ (λ (e f : Tree). Some (weights_numerator o u v (numerator e) (denominator e) (numerator f) (denominator f) (pythagoras x y))) t z

  one_square : (a b : Step) → Alike n m a b → (x y : PointId) → quadratic_numerator n a x y ≡ quadratic_numerator m b x y
  one_square _ _ free_both x y = refl
  one_square _ _ (crossing_both u v p q) x y = refl
  one_square _ _ (foot_both p u v) x y = refl
  one_square _ _ (along_both w u v r s t) x y = ap (λ (e : Tree). Some (along_square w u v (numerator e) (denominator e) x y)) t
  one_square _ _ (turned_both u v r s t) x y = ap (λ (e : Tree). Some (turned_square u v (numerator e) (denominator e) x y)) t
  one_square _ _ (weighted_both o u v r s r' s' t z) x y =
      ap₂ (λ (e f : Tree). Some (weights_square o u v (numerator e) (denominator e) (numerator f) (denominator f) x y)) t z

  one_power : (a b : Step) → Alike n m a b → quadratic_power a ≡ quadratic_power b
  one_power _ _ free_both = refl
  one_power _ _ (crossing_both u v p q) = refl
  one_power _ _ (foot_both p u v) = refl
  one_power _ _ (along_both w u v r s t) = refl
  one_power _ _ (turned_both u v r s t) = refl
  one_power _ _ (weighted_both o u v r s r' s' t z) = refl

  one_reading : (a b : Step) → Alike n m a b → (r : Reading) → difference_row n a r ≡ difference_row m b r
  one_reading a b h (Linear x y) = one_row a b h 1 1 (linear_numerator n a x y) (linear_numerator m b x y) refl (one_linear a b h x y)
  one_reading a b h (Quadratic x y) =
      one_row a b h (quadratic_power a) (quadratic_power b) (quadratic_numerator n a x y) (quadratic_numerator m b x y) (one_power a b h) (one_square a b h x y)

  one_along : (a b : Step) → Alike n m a b → (x : PointId) (turned : Bool) (y z : PointId) → along_row n a x turned y z ≡ along_row m b x turned y z
  one_along _ _ free_both x turned y z = refl
  one_along _ _ (crossing_both u v p q) x turned y z = refl
  one_along _ _ (foot_both p u v) x turned y z = refl
  one_along _ _ (along_both w u v r s t) x turned y z =
      ap (λ (e : Tree). option_map (λ other. record {
        power = 1;
        num = with_sign turned other (denominator e ⊠ ratio x w u v ⊞ numerator e);
        den = denominator e;
        charge = (numbers_of e).charge;
      }) (same_line u v y z)) t
  one_along _ _ (turned_both u v r s t) x turned y z = refl
  one_along _ _ (weighted_both o u v r s r' s' t k) x turned y z = refl

  one_foot : (a b : Step) → Alike n m a b → (x : PointId) (turned : Bool) (y z : PointId) → foot_row a x turned y z ≡ foot_row b x turned y z
  one_foot _ _ free_both x turned y z = refl
  one_foot _ _ (crossing_both u v p q) x turned y z = refl
  one_foot _ _ (foot_both p u v) x turned y z = refl
  one_foot _ _ (along_both w u v r s t) x turned y z = refl
  one_foot _ _ (turned_both u v r s t) x turned y z = refl
  one_foot _ _ (weighted_both o u v r s r' s' t k) x turned y z = refl

  one_first : (a b : Step) → Alike n m a b → (row : PointId → PointId → PointId → PointId → Option TableRow) → first_line a row ≡ first_line b row
  one_first _ _ free_both row = refl
  one_first _ _ (crossing_both u v p q) row = refl
  one_first _ _ (foot_both p u v) row = refl
  one_first _ _ (along_both w u v r s t) row = refl
  one_first _ _ (turned_both u v r s t) row = refl
  one_first _ _ (weighted_both o u v r s r' s' t z) row = refl

  one_second : (a b : Step) → Alike n m a b → (row : PointId → PointId → PointId → PointId → Option TableRow) → second_line a row ≡ second_line b row
  one_second _ _ free_both row = refl
  one_second _ _ (crossing_both u v p q) row = refl
  one_second _ _ (foot_both p u v) row = refl
  one_second _ _ (along_both w u v r s t) row = refl
  one_second _ _ (turned_both u v r s t) row = refl
  one_second _ _ (weighted_both o u v r s r' s' t z) row = refl

  one_lemma : (a b : Step) → Alike n m a b → (lemma : ℕ) (y x : PointId) (turned : Bool) (d e : PointId) → lemma_row lemma n y a x turned d e ≡ lemma_row lemma m y b x turned d e
  one_lemma a b h lemma y x turned d e = λ i.
      if lemma == 11 then one_first a b h (λ u v p q. crossing_row u v p q x turned d e) i
      else (if lemma == 12 then one_second a b h (λ u v p q. crossing_row u v p q x turned d e) i
      else (if lemma == 21 then one_first a b h (λ u v p q. shared_row y u v p q x turned d e) i
      else (if lemma == 22 then one_second a b h (λ u v p q. shared_row y u v p q x turned d e) i
      else (if lemma == 3 then one_along a b h x turned d e i
      else (if lemma == 4 then one_foot a b h x turned d e i else None)))))

  one_free : (a b : Step) → Alike n m a b → is_free_step (Some a) ≡ is_free_step (Some b)
  one_free _ _ free_both = refl
  one_free _ _ (crossing_both u v p q) = refl
  one_free _ _ (foot_both p u v) = refl
  one_free _ _ (along_both w u v r s t) = refl
  one_free _ _ (turned_both u v r s t) = refl
  one_free _ _ (weighted_both o u v r s r' s' t z) = refl

  -- STEPS AT A PLACE
  pub data AlikeAt : Option Step → Option Step → Type 0 where
    none_both : AlikeAt None None
    some_both : (a b : Step) → Alike n m a b → AlikeAt (Some a) (Some b)

  alike_at : (o p : Option Step) → option_map (step_form n) o ≡ option_map (step_form m) p → AlikeAt o p
  alike_at None None e = none_both
  alike_at (Some a) (Some b) e =
      let f : ◌≡◌ {A = Option StepForm} (Some (step_form n a)) (Some (step_form m b)) = e in some_both a b (alike n m a b (let g : step_form n a ≡ step_form m b = cc in g))
  alike_at None (Some b) e = absurd (let f : ◌≡◌ {A = Option StepForm} None (Some (step_form m b)) = e in cc)
  alike_at (Some a) None e = absurd (let f : ◌≡◌ {A = Option StepForm} (Some (step_form n a)) None = e in cc)

-- CONSTRUCTIONS
-- both have the same steps, and as many parameters
pub record AlikeConstructions (c d : Construction) : Type 0 where
  pub steps : map (step_form c.nodes) c.steps ≡ map (step_form d.nodes) d.steps
  pub params : c.params ≡ d.params

pub turned_round : (c d : Construction) → AlikeConstructions c d → AlikeConstructions d c
turned_round c d h = record { steps = sym h.steps; params = sym h.params }

module _ (c d : Construction) (h : AlikeConstructions c d) where
  abbrev n : Store
  n = c.nodes

  abbrev m : Store
  m = d.nodes

  at_place : (k : ℕ) → AlikeAt n m (slice_get c.steps k) (slice_get d.steps k)
  at_place k =
      alike_at n m (slice_get c.steps k) (slice_get d.steps k)
      (sym (slice_get-map (step_form n) c.steps k) ∙ ap (λ (xs : List StepForm). slice_get xs k) h.steps ∙ slice_get-map (step_form m) d.steps k)

  area_same : (y a b e : PointId) → area_table c y (S a b e) ≡ area_table d y (S a b e)
  area_same y a b e = go (slice_get c.steps y.0) (slice_get d.steps y.0) (at_place y.0)
    where
      go : (o p : Option Step) → AlikeAt n m o p
          → option_and_then (λ step. option_and_then (λ ab. option_map (step_row n step 1) (area_numerator n step ab.0 ab.1)) (points_after y a b e)) o
          ≡ option_and_then (λ step. option_and_then (λ ab. option_map (step_row m step 1) (area_numerator m step ab.0 ab.1)) (points_after y a b e)) p
      go _ _ none_both = refl
      go _ _ (some_both s t k) = λ i.
          option_and_then (λ (ab : PointId × PointId). one_row n m s t k 1 1 (area_numerator n s ab.0 ab.1) (area_numerator m t ab.0 ab.1) refl (one_area n m s t k ab.0 ab.1) i) (points_after y a b e)

  difference_same : (y a b e : PointId) → difference_table c y (P a b e) ≡ difference_table d y (P a b e)
  difference_same y a b e = go (slice_get c.steps y.0) (slice_get d.steps y.0) (at_place y.0)
    where
      go : (o p : Option Step) → AlikeAt n m o p
          → option_and_then (λ step. option_and_then (difference_row n step) (reading y a b e)) o ≡ option_and_then (λ step. option_and_then (difference_row m step) (reading y a b e)) p
      go _ _ none_both = refl
      go _ _ (some_both s t k) = λ i. option_and_then (λ (r : Reading). one_reading n m s t k r i) (reading y a b e)

  ratio_same : (lemma : ℕ) (y : PointId) (v : Var) → ratio_table lemma c y v ≡ ratio_table lemma d y v
  ratio_same lemma y (R a b x z) = λ i. if lemma == 0 then Some (pythagoras_row a b x z) else go (slice_get c.steps y.0) (slice_get d.steps y.0) (at_place y.0) i
    where
      go : (o p : Option Step) → AlikeAt n m o p
          → option_and_then (λ step. option_and_then (λ end. lemma_row lemma n y step end.0 end.1 x z) (end_at y a b)) o
          ≡ option_and_then (λ step. option_and_then (λ end. lemma_row lemma m y step end.0 end.1 x z) (end_at y a b)) p
      go _ _ none_both = refl
      go _ _ (some_both s t k) = λ i. option_and_then (λ (end : PointId × Bool). one_lemma n m s t k lemma y end.0 end.1 x z i) (end_at y a b)
  ratio_same lemma y (S a b e) = refl
  ratio_same lemma y (P a b e) = refl
  ratio_same lemma y (Abscissa a) = refl
  ratio_same lemma y (Ordinate a) = refl
  ratio_same lemma y (Number t) = refl

  free_same : (a : PointId) → is_free c a ≡ is_free d a
  free_same a = go (slice_get c.steps a.0) (slice_get d.steps a.0) (at_place a.0)
    where
      go : (o p : Option Step) → AlikeAt n m o p → is_free_step o ≡ is_free_step p
      go _ _ none_both = refl
      go _ _ (some_both s t k) = one_free n m s t k

  coordinates_same : (y : PointId) (v : Var) → free_table c y v ≡ free_table d y v
  coordinates_same y (S a b e) = λ i.
      if free_same a i && free_same b i && free_same e i then Some (record { power = 1; num = area_in_coordinates a b e; den = integer 2; charge = 0 }) else None
  coordinates_same y (P a b e) = λ i.
      if free_same a i && free_same b i && free_same e i then Some (record { power = 0; num = difference_in_coordinates a b e; den = integer 2; charge = 0 }) else None
  coordinates_same y (R a b x z) = refl
  coordinates_same y (Abscissa a) = refl
  coordinates_same y (Ordinate a) = refl
  coordinates_same y (Number t) = refl

  -- MOVES
  row_same : (move : Move) (v : Var) → row_of_move c move v ≡ row_of_move d move v
  row_same (Ratio w lemma at) v = λ i. if is_eq (var_cmp w v) then ratio_same lemma at v i else None
  row_same (PointMove y) (S a b e) = area_same y a b e
  row_same (PointMove y) (P a b e) = difference_same y a b e
  row_same (PointMove y) (R a b x z) = refl
  row_same (PointMove y) (Abscissa a) = refl
  row_same (PointMove y) (Ordinate a) = refl
  row_same (PointMove y) (Number t) = refl
  row_same Coords v = coordinates_same (record { 0 = 0 }) v

  denominator_same : (move : Move) → move_denominator c move ≡ move_denominator d move
  denominator_same (Ratio w lemma at) = ap row_denominator (ratio_same lemma at w)
  denominator_same (PointMove y) = go (slice_get c.steps y.0) (slice_get d.steps y.0) (at_place y.0)
    where
      go : (o p : Option Step) → AlikeAt n m o p → point_denominator c o ≡ point_denominator d p
      go _ _ none_both = refl
      go _ _ (some_both s t k) = one_denominator n m s t k
  denominator_same Coords = refl

  charge_same : (move : Move) → number_charge c move ≡ number_charge d move
  charge_same (Ratio w lemma at) = ap row_charge (ratio_same lemma at w)
  charge_same (PointMove y) = go (slice_get c.steps y.0) (slice_get d.steps y.0) (at_place y.0)
    where
      go : (o p : Option Step) → AlikeAt n m o p → point_charge c o ≡ point_charge d p
      go _ _ none_both = refl
      go _ _ (some_both s t k) = one_charge n m s t k
  charge_same Coords = refl

  -- a move replaces the same
  pub replacement_same : (move : Move) (q : Summands) → replacement lemma_table c move q ≡ replacement lemma_table d move q
  replacement_same move q = λ i. record {
    rows = filter_map (λ v. option_map (λ r. (made_row v r).0) (row_same move v i)) (variables_of q);
    den = piece_of (denominator_same move i);
    charge = charge_same move i;
  }

  pub first_lemma_same : (y : PointId) (v : Var) → first_lemma c y v ≡ first_lemma d y v
  first_lemma_same y v = λ i. first_fitting (λ lemma. is_some (ratio_same lemma y v i))

  -- a constructed point is one in both
  pub constructed_same : (y : PointId) → IsConstructed c y → IsConstructed d y
  constructed_same y made = go (slice_get c.steps y.0) (slice_get d.steps y.0) (at_place y.0) made.made refl
    where
      kept : (s t : Step) → Alike n m s t → s ≢ Point → t ≢ Point
      kept _ _ free_both not_free = not_free
      kept _ _ (crossing_both u v p q) not_free = not_free
      kept _ _ (foot_both p u v) not_free = not_free
      kept _ _ (along_both w u v r s t) not_free = λ e. cc
      kept _ _ (turned_both u v r s t) not_free = λ e. cc
      kept _ _ (weighted_both o u v r s r' s' t z) not_free = λ e. cc

      go : (o p : Option Step) → AlikeAt n m o p → o ≡ Some made.step → slice_get d.steps y.0 ≡ p → IsConstructed d y
      go _ _ none_both e f = absurd (let q : ◌≡◌ {A = Option Step} None (Some made.step) = e in cc)
      go _ _ (some_both s t k) e f = record {
        step = t;
        made = f;
        not_free = kept s t k (λ free. made.not_free (let q : ◌≡◌ {A = Option Step} (Some s) (Some made.step) = e in let r : s ≡ made.step = cc in sym r ∙ free));
      }

  -- SAMPLES
  coordinates_listed : (k : ℕ) (xs ys : List Step) → map (step_form n) xs ≡ map (step_form m) ys → coordinates_from k xs ≡ coordinates_from k ys
  coordinates_listed k [] [] e = refl
  coordinates_listed k [] (y ∷ ys) e = absurd (let q : ◌≡◌ {A = List StepForm} [] (step_form m y ∷ map (step_form m) ys) = e in cc)
  coordinates_listed k (x ∷ xs) [] e = absurd (let q : ◌≡◌ {A = List StepForm} (step_form n x ∷ map (step_form n) xs) [] = e in cc)
  coordinates_listed k (x ∷ xs) (y ∷ ys) e =
      let q : ◌≡◌ {A = List StepForm} (step_form n x ∷ map (step_form n) xs) (step_form m y ∷ map (step_form m) ys) = e in
      let first : step_form n x ≡ step_form m y = cc in
      let rest : map (step_form n) xs ≡ map (step_form m) ys = cc in
      go x y (alike n m x y first) (coordinates_listed (suc k) xs ys rest)
    where
      go : (s t : Step) → Alike n m s t → coordinates_from (suc k) xs ≡ coordinates_from (suc k) ys → coordinates_from k (s ∷ xs) ≡ coordinates_from k (t ∷ ys)
      go _ _ free_both r = ap (λ vs. Abscissa (record { 0 = k }) ∷ Ordinate (record { 0 = k }) ∷ vs) r
      go _ _ (crossing_both u v p q) r = r
      go _ _ (foot_both p u v) r = r
      go _ _ (along_both w u v a b t) r = r
      go _ _ (turned_both u v a b t) r = r
      go _ _ (weighted_both o u v a b a' b' t z) r = r

  pub variables_same : sample_variables c ≡ sample_variables d
  variables_same = λ i. coordinates_listed 0 c.steps d.steps h.steps i ++ parameters_from 0 (h.params i)
