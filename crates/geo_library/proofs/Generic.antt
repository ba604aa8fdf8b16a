-- Where a cited program is met, and a goal of it is not 0 in some placement of the points that the goal names, conditions or none, there is
-- a placement that meets the program and in which its statement fails.
use Rattle.std.proofs.Common.{◌≡◌, ℕ, zero, suc, ◌+◌, ◌<◌, ◌⊎◌, inl, inr, All, cond, ℤ, pos, negsuc, nat_abs, map, length, Some, List, [], ◌∷◌, refl, sym, ◌∙◌, ap, subst, arith}
use Rattle.std.specs.Prelude.{slice_get}
use Rattle.std.specs.Ordering.{is_eq}
use Rattle.std.specs.declared.cmp.Ordering.{Ordering}
use Rattle.std.specs.declared.cmp.Ordering.TheVariants.{Less, Equal, Greater}
use Rattle.std.proofs.Math.Nat.{eq-or-lt_of_le}
use Rattle.std.proofs.lemmas.List.Elements.{All-cons, All-from_recursion, All-head, All-map, All-tail, recursion_from_All}
use Rattle.ring_laws.specs.Fraction.{Fraction, IsNonzero, Same, whole}
use Rattle.ring_laws.proofs.Fractions.{fractions}
use Rattle.ring_laws.proofs.Quotients.{same_of_zero}
use Rattle.fraction_poly.specs.Laws.{polynomial_value}
use Rattle.fraction_poly.proofs.PolynomialValues.{self}
use Rattle.geo_points.specs.Placements.{Placement}
use Rattle.geo_points.specs.Points.{x_coordinate, y_coordinate}
use Rattle.geo_points.proofs.Expressions.{thrice}
use Rattle.geo_program.specs.WellFormed.{IsWellFormed, Source}
use Rattle.geo_conditions.specs.Truth.{Holds, Meets}
use Rattle.geo_poly.specs.declared.variables.Var.{Var}
use Rattle.geo_poly.specs.declared.variables.Var.TheVariants.{X, Y, T}
use Rattle.geo_poly.specs.Variables.{var_cmp}
use Rattle.geo_poly.proofs.Orders.{var_order}
use Rattle.geo_terms.specs.Constructions.{Construction, MeetsSteps}
use Rattle.geo_terms.specs.TermBounds.{IsTermBelow}
use Rattle.geo_terms.specs.Trees.{Tree}
use Rattle.geo_terms.specs.Values.{HasTreeValue, tree_value}
use Rattle.geo_logs.specs.Laws.{GivesConditions, GivesFailure, HoldBefore}
use Rattle.geo_logs.specs.Logs.{Item, Subject}
use Rattle.geo_logs.specs.Placements.{HasValuesBelow, MeetsStepsBelow}
use Rattle.geo_logs.specs.Samples.{value_in}
use Rattle.geo_logs.specs.Starts.{start_of}
use Rattle.geo_logs.proofs.AcceptedChains.{start_apart, start_null}
use Rattle.geo_logs.proofs.MoveValues.{apart, nonzero, value_as}
use Rattle.geo_logs.proofs.TermVariables.{term_sound}
use Rattle.proof_log.specs.declared.log.Verdict.TheVariants.{False}
use Rattle.log_checker.proofs.Places.{At, below, each_at, each_of}
use Rattle.log_checker.proofs.Realised.{broken, conditions_named, goals_named}
use Rattle.log_checker.proofs.Verdicts.{Parts, valid}
use Rattle.geo_library.proofs.ToldPoints.{Tells}
use Rattle.geo_library.proofs.Flat.{flat, flat_below, flat_told}
use Rattle.geo_library.proofs.Sampled.{All-from_map, common, numbers_alone, sampled}
use Rattle.geo_library.proofs.Sketch.{Agrees, Sketch, fewer, sketch}

-- THE NUMBERS OF A PLACEMENT
spread : (ℕ → Fraction) → (ℕ → Fraction) → (ℕ → Fraction) → ℕ → Fraction
spread f g h zero = f 0
spread f g h (suc zero) = g 0
spread f g h (suc (suc zero)) = h 0
spread f g h (suc (suc (suc t))) = spread (λ k. f (suc k)) (λ k. g (suc k)) (λ k. h (suc k)) t

spread-first : (k : ℕ) (f g h : ℕ → Fraction) → spread f g h (thrice k) ≡ f k
unfolding spread
spread-first zero f g h = refl
spread-first (suc k) f g h = spread-first k (λ j. f (suc j)) (λ j. g (suc j)) (λ j. h (suc j))

spread-second : (k : ℕ) (f g h : ℕ → Fraction) → spread f g h (suc (thrice k)) ≡ g k
unfolding spread
spread-second zero f g h = refl
spread-second (suc k) f g h = spread-second k (λ j. f (suc j)) (λ j. g (suc j)) (λ j. h (suc j))

spread-third : (k : ℕ) (f g h : ℕ → Fraction) → spread f g h (suc (suc (thrice k))) ≡ h k
unfolding spread
spread-third zero f g h = refl
spread-third (suc k) f g h = spread-third k (λ j. f (suc j)) (λ j. g (suc j)) (λ j. h (suc j))

abbrev numbers_of : Placement → Placement
numbers_of placed = record {
  point = placed.point;
  number = spread (λ k. x_coordinate (placed.point k)) (λ k. y_coordinate (placed.point k)) placed.number;
}

agrees_own : (placed : Placement) (c : Construction) (n : ℕ) → Agrees (numbers_of placed) placed c n
agrees_own placed c n =
    let f : ℕ → Fraction = λ k. x_coordinate (placed.point k) in let g : ℕ → Fraction = λ k. y_coordinate (placed.point k) in let h = placed.number in
    record {
      by_x = λ a lt free. subst (λ r. Same r (f a.0)) (sym (spread-first a.0 f g h)) (fractions.same_refl (f a.0));
      by_y = λ a lt free. subst (λ r. Same r (g a.0)) (sym (spread-second a.0 f g h)) (fractions.same_refl (g a.0));
      by_number = λ t lt. subst (λ r. Same r (h t)) (sym (spread-third t f g h)) (fractions.same_refl (h t));
    }

thrice_less : (a b : ℕ) → a < b → suc (suc (thrice a)) < thrice b
thrice_less a zero lt = absurd (omega (arith, lt))
thrice_less zero (suc b) lt = omega arith
thrice_less (suc a) (suc b) lt = let h : suc (suc (thrice a)) < thrice b = thrice_less a b (omega (arith, lt)) in omega (arith, h)

-- THE VALUES OF A SAMPLE
module _ (xs : List (Var × ℤ)) where
  abbrev first_value : ℕ → ℤ
  first_value k = value_in xs (T (record { 0 = thrice k }))

  abbrev second_value : ℕ → ℤ
  second_value k = value_in xs (T (record { 0 = suc (thrice k) }))

  abbrev third_value : ℕ → ℤ
  third_value k = value_in xs (T (record { 0 = suc (suc (thrice k)) }))

  abbrev entries : ℕ → List (Var × ℤ)
  entries zero = []
  entries (suc k) = (X (record { 0 = k }), first_value k) ∷ (Y (record { 0 = k }), second_value k) ∷ (T (record { 0 = k }), third_value k) ∷ entries k

  abbrev after_y : ℕ → List (Var × ℤ)
  after_y k = (T (record { 0 = k }), third_value k) ∷ entries k

  abbrev after_x : ℕ → List (Var × ℤ)
  after_x k = (Y (record { 0 = k }), second_value k) ∷ after_y k

skips : (w : Var × ℤ) (ws : List (Var × ℤ)) (v : Var) → (w.0 ≡ v → ⊥) → value_in (w ∷ ws) v ≡ value_in ws v
skips w ws v n = go (var_cmp w.0 v) refl
  where
    go : (o : Ordering) → var_cmp w.0 v ≡ o → value_in (w ∷ ws) v ≡ value_in ws v
    go Less e = ap (λ (o : Ordering). cond (is_eq o) w.1 (value_in ws v)) e
    go Greater e = ap (λ (o : Ordering). cond (is_eq o) w.1 (value_in ws v)) e
    go Equal e = absurd (n (var_order.exact w.0 v e))

takes : (w : Var × ℤ) (ws : List (Var × ℤ)) → value_in (w ∷ ws) w.0 ≡ w.1
takes w ws = ap (λ (o : Ordering). cond (is_eq o) w.1 (value_in ws w.0)) (var_order.self w.0)

index : Var → ℕ
index (X a) = a.0
index (Y a) = a.0
index (T t) = t.0
index _ = 0

module _ (xs : List (Var × ℤ)) where
  first_entry : (K a : ℕ) → a < K → value_in (entries xs K) (X (record { 0 = a })) ≡ first_value xs a
  unfolding index
  first_entry zero a lt = absurd (omega (arith, lt))
  first_entry (suc k) a lt = go (first_entry k a) (eq-or-lt_of_le (omega (arith, lt)))
    where
      go : (a < k → value_in (entries xs k) (X (record { 0 = a })) ≡ first_value xs a) → (a ≡ k) ⊎ (a < k) → value_in (entries xs (suc k)) (X (record { 0 = a })) ≡ first_value xs a
      go rest (inl e) = subst (λ j. value_in (entries xs (suc k)) (X (record { 0 = j })) ≡ first_value xs j) (sym e) (takes (X (record { 0 = k }), first_value xs k) (after_x xs k))
      go rest (inr less) =
          skips (X (record { 0 = k }), first_value xs k) (after_x xs k) (X (record { 0 = a })) (λ e. let q : k ≡ a = ap index e in omega (arith, q, less))
          ∙ skips (Y (record { 0 = k }), second_value xs k) (after_y xs k) (X (record { 0 = a })) (λ e. let q : Y (record { 0 = k }) ≡ X (record { 0 = a }) = e in absurd (cc))
          ∙ skips (T (record { 0 = k }), third_value xs k) (entries xs k) (X (record { 0 = a })) (λ e. let q : T (record { 0 = k }) ≡ X (record { 0 = a }) = e in absurd (cc))
          ∙ rest less

  second_entry : (K a : ℕ) → a < K → value_in (entries xs K) (Y (record { 0 = a })) ≡ second_value xs a
  unfolding index
  second_entry zero a lt = absurd (omega (arith, lt))
  second_entry (suc k) a lt = go (second_entry k a) (eq-or-lt_of_le (omega (arith, lt)))
    where
      go : (a < k → value_in (entries xs k) (Y (record { 0 = a })) ≡ second_value xs a) → (a ≡ k) ⊎ (a < k) → value_in (entries xs (suc k)) (Y (record { 0 = a })) ≡ second_value xs a
      go rest (inl e) =
          subst (λ j. value_in (entries xs (suc k)) (Y (record { 0 = j })) ≡ second_value xs j) (sym e)
          (skips (X (record { 0 = k }), first_value xs k) (after_x xs k) (Y (record { 0 = k })) (λ e. let q : X (record { 0 = k }) ≡ Y (record { 0 = k }) = e in absurd (cc))
          ∙ takes (Y (record { 0 = k }), second_value xs k) (after_y xs k))
      go rest (inr less) =
          skips (X (record { 0 = k }), first_value xs k) (after_x xs k) (Y (record { 0 = a })) (λ e. let q : X (record { 0 = k }) ≡ Y (record { 0 = a }) = e in absurd (cc))
          ∙ skips (Y (record { 0 = k }), second_value xs k) (after_y xs k) (Y (record { 0 = a })) (λ e. let q : k ≡ a = ap index e in omega (arith, q, less))
          ∙ skips (T (record { 0 = k }), third_value xs k) (entries xs k) (Y (record { 0 = a })) (λ e. let q : T (record { 0 = k }) ≡ Y (record { 0 = a }) = e in absurd (cc))
          ∙ rest less

  third_entry : (K a : ℕ) → a < K → value_in (entries xs K) (T (record { 0 = a })) ≡ third_value xs a
  unfolding index
  third_entry zero a lt = absurd (omega (arith, lt))
  third_entry (suc k) a lt = go (third_entry k a) (eq-or-lt_of_le (omega (arith, lt)))
    where
      go : (a < k → value_in (entries xs k) (T (record { 0 = a })) ≡ third_value xs a) → (a ≡ k) ⊎ (a < k) → value_in (entries xs (suc k)) (T (record { 0 = a })) ≡ third_value xs a
      go rest (inl e) =
          subst (λ j. value_in (entries xs (suc k)) (T (record { 0 = j })) ≡ third_value xs j) (sym e)
          (skips (X (record { 0 = k }), first_value xs k) (after_x xs k) (T (record { 0 = k })) (λ e. let q : X (record { 0 = k }) ≡ T (record { 0 = k }) = e in absurd (cc))
          ∙ skips (Y (record { 0 = k }), second_value xs k) (after_y xs k) (T (record { 0 = k })) (λ e. let q : Y (record { 0 = k }) ≡ T (record { 0 = k }) = e in absurd (cc))
          ∙ takes (T (record { 0 = k }), third_value xs k) (entries xs k))
      go rest (inr less) =
          skips (X (record { 0 = k }), first_value xs k) (after_x xs k) (T (record { 0 = a })) (λ e. let q : X (record { 0 = k }) ≡ T (record { 0 = a }) = e in absurd (cc))
          ∙ skips (Y (record { 0 = k }), second_value xs k) (after_y xs k) (T (record { 0 = a })) (λ e. let q : Y (record { 0 = k }) ≡ T (record { 0 = a }) = e in absurd (cc))
          ∙ skips (T (record { 0 = k }), third_value xs k) (entries xs k) (T (record { 0 = a })) (λ e. let q : k ≡ a = ap index e in omega (arith, q, less))
          ∙ rest less

-- a fraction is 0 or not
pub zero_or : (f : Fraction) → Same f (whole (pos 0)) ⊎ IsNonzero f
zero_or f = go f.numerator refl
  where
    go : (z : ℤ) → f.numerator ≡ z → Same f (whole (pos 0)) ⊎ IsNonzero f
    go (pos zero) e = inl (same_of_zero f e)
    go (pos (suc k)) e = inr (λ n. let q : suc k ≡ 0 = ap nat_abs (sym e ∙ n) in omega (arith, q))
    go (negsuc k) e = inr (λ n. let q : suc k ≡ 0 = ap nat_abs (sym e ∙ n) in omega (arith, q))

-- NUMERATORS
-- where a told term is not 0, its numerator is not the polynomial 0
some_numerator : (M : ℕ) (N : Placement) (e : Tree) (f : Fraction) → Tells N e f → IsNonzero f → start_of e ≡ [] → ⊥
some_numerator M N e f s n z =
    let m : IsNonzero (tree_value N e) = nonzero (tree_value N e) (λ h. apart f n (fractions.same_trans _ _ _ (fractions.same_sym _ _ s.same) h)) in
    start_apart N (numbers_alone M) e (term_sound (numbers_alone M) e) (record { has_value = s.has; nonzero = m }) (value_as N (start_of e) [] (sym z) self)

-- where its numerator is not 0, it is not 0
numerator_apart : (M : ℕ) (N : Placement) (e : Tree) (f : Fraction) → Tells N e f → IsNonzero (polynomial_value N (start_of e)) → IsNonzero f
numerator_apart M N e f s n =
    nonzero f (λ h. apart (polynomial_value N (start_of e)) n
    (start_null N (numbers_alone M) e (term_sound (numbers_alone M) e) s.has (fractions.same_trans _ _ _ s.same h)))

-- THE PROGRAM
module _ (q : Source) (subject : Subject) (w : IsWellFormed q) (s : Parts q subject) where
  abbrev c : Construction
  c = subject.construction

  abbrev L : ℕ
  L = length c.steps

  abbrev pub bound : ℕ
  bound = thrice (L + c.params)

  points_room : (a : ℕ) → a < L → suc (thrice a) < bound
  points_room a lt = let h : suc (suc (thrice a)) < bound = thrice_less a (L + c.params) (omega (arith, lt)) in omega (arith, h)

  numbers_room : (t : ℕ) → t < c.params → suc (suc (thrice t)) < bound
  numbers_room t lt = thrice_less t (L + c.params) (omega (arith, lt))

  drawn : Sketch c bound L
  drawn = sketch c (valid q subject w s) bound points_room numbers_room L (omega arith)

  abbrev flattened : Tree → Tree
  flattened e = flat drawn.terms e

  flattened_below : (e : Tree) → IsTermBelow L c.params e → IsTermBelow 0 bound (flattened e)
  flattened_below e h = flat_below drawn.terms bound L c.params drawn.below numbers_room e h

  flattened_told : (N placed : Placement) (n : ℕ) → Agrees N placed c n → MeetsStepsBelow placed c n
      → (e : Tree) → IsTermBelow n c.params e → IsTermBelow L c.params e → HasTreeValue placed e → Tells N (flattened e) (tree_value placed e)
  flattened_told N placed n ag met e =
      flat_told drawn.terms N placed n L c.params
      (λ a lt less. drawn.told N placed a less (fewer (omega (arith, lt)) ag) (λ k step below at. met k step (omega (arith, below, lt)) at)) ag.by_number e

  abbrev term_of : Item → Tree
  term_of item = flattened item.term

  module _ (A : Placement) (met : MeetsSteps A c) (hold : HoldBefore A subject (length subject.conditions))
      (i : ℕ) (goal : Item) (at : slice_get subject.goals i ≡ Some goal)
      (n0 : ℕ) (B : Placement) (met0 : MeetsStepsBelow B c n0) (within : IsTermBelow n0 c.params goal.term) (has : HasTreeValue B goal.term)
      (fails : IsNonzero (tree_value B goal.term)) where
    abbrev terms : List Tree
    terms = term_of goal ∷ map term_of subject.conditions

    some_condition : (k : ℕ) (item : Item) → At subject.conditions k item → start_of (term_of item) ≡ [] → ⊥
    some_condition k item here =
        let named = conditions_named q subject w s k item here in
        let holds = hold k item (below subject.conditions k item here) here in
        some_numerator bound (numbers_of A) (term_of item) (tree_value A item.term)
        (flattened_told (numbers_of A) A L (agrees_own A c L) (λ j step lt. met j step) item.term named.0 named.0 holds.has_value) holds.nonzero

    all_some : All (λ e. start_of e ≡ [] → ⊥) terms
    all_some =
        let named = goals_named q subject w s i goal at in
        All-cons (λ e. start_of e ≡ [] → ⊥) (term_of goal) (map term_of subject.conditions)
        (some_numerator bound (numbers_of B) (term_of goal) (tree_value B goal.term)
        (flattened_told (numbers_of B) B n0 (agrees_own B c n0) met0 goal.term within named.0 has) fails)
        (All-map (λ e. start_of e ≡ [] → ⊥) term_of subject.conditions
        (All-from_recursion (λ item. start_of (term_of item) ≡ [] → ⊥) subject.conditions (each_of (λ item. start_of (term_of item) ≡ [] → ⊥) subject.conditions some_condition)))

    all_below : All (IsTermBelow 0 bound) terms
    all_below =
        All-cons (IsTermBelow 0 bound) (term_of goal) (map term_of subject.conditions) (flattened_below goal.term (goals_named q subject w s i goal at).0)
        (All-map (IsTermBelow 0 bound) term_of subject.conditions
        (All-from_recursion (λ item. IsTermBelow 0 bound (term_of item)) subject.conditions
        (each_of (λ item. IsTermBelow 0 bound (term_of item)) subject.conditions (λ k item here. flattened_below item.term (conditions_named q subject w s k item here).0))))

    found : (xs : List (Var × ℤ)) × All (λ e. IsNonzero (polynomial_value (sampled xs) (start_of e))) terms
    found = common bound terms all_below all_some

    abbrev values : List (Var × ℤ)
    values = entries found.0 (L + c.params)

    agrees : (placed : Placement) (n : ℕ) → HasValuesBelow placed c n values → Agrees (sampled found.0) placed c n
    agrees placed n h = record {
      by_x = λ a lt free. let less : a.0 < L = below c.steps a.0 _ free in
          fractions.same_sym _ _ (subst (λ z. Same (x_coordinate (placed.point a.0)) (whole z)) (first_entry found.0 (L + c.params) a.0 (omega (arith, less))) (h.by_x a lt free));
      by_y = λ a lt free. let less : a.0 < L = below c.steps a.0 _ free in
          fractions.same_sym _ _ (subst (λ z. Same (y_coordinate (placed.point a.0)) (whole z)) (second_entry found.0 (L + c.params) a.0 (omega (arith, less))) (h.by_y a lt free));
      by_number = λ t lt. fractions.same_sym _ _ (subst (λ z. Same (placed.number t) (whole z)) (third_entry found.0 (L + c.params) t (omega (arith, lt))) (h.by_number (record { 0 = t }) lt));
    }

    nonzero_terms : All (λ item. IsNonzero (polynomial_value (sampled found.0) (start_of (term_of item)))) subject.conditions
    nonzero_terms =
        All-from_map (λ e. IsNonzero (polynomial_value (sampled found.0) (start_of e))) term_of subject.conditions
        (All-tail (λ e. IsNonzero (polynomial_value (sampled found.0) (start_of e))) (term_of goal) (map term_of subject.conditions) found.1)

    gives : GivesConditions subject values
    gives placed n zero h meets named in_turn = λ j item lt here. absurd (omega (arith, lt))
    gives placed n (suc m) h meets named in_turn =
        let before : HoldBefore placed subject m =
        gives placed n m h meets (λ j item lt here. named j item (omega (arith, lt)) here) (λ j item lt here. in_turn j item (omega (arith, lt)) here) in
        λ j item lt here.
        let first : HoldBefore placed subject j = λ k other less place. before k other (omega (arith, lt, less)) place in
        let value : HasTreeValue placed item.term = in_turn j item lt here first in
        record {
          has_value = value;
          nonzero = numerator_apart bound (sampled found.0) (term_of item) (tree_value placed item.term)
              (flattened_told (sampled found.0) placed n (agrees placed n h) meets item.term (named j item lt here).0 (conditions_named q subject w s j item here).0 value)
              (each_at (λ item. IsNonzero (polynomial_value (sampled found.0) (start_of (term_of item)))) subject.conditions j item
              (recursion_from_All (λ item. IsNonzero (polynomial_value (sampled found.0) (start_of (term_of item)))) subject.conditions nonzero_terms) here);
        }

    gives_failure : GivesFailure subject values (False (suc i))
    gives_failure = (
      i,
      goal,
      refl,
      at,
      λ placed h meets named holds below sound value.
          numerator_apart bound (sampled found.0) (term_of goal) (tree_value placed goal.term)
          (flattened_told (sampled found.0) placed L (agrees placed L h) (λ k step lt. meets k step) goal.term below below value)
          (All-head (λ e. IsNonzero (polynomial_value (sampled found.0) (start_of e))) (term_of goal) (map term_of subject.conditions) found.1),
    )

    -- so the statement does not hold wherever the program is met
    pub some_failure : ((placed : Placement) → Meets q placed → Holds q placed) → ⊥
    some_failure cited =
        let b = broken q subject w s values gives (suc i) gives_failure in
        b.fails b.placed b.has b.meets (cited b.placed b.meets)
