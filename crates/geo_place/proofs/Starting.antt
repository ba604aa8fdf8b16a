-- How an evaluation begins.
use Rattle.std.proofs.Common.{◌≡◌, ⊎_elim, ℕ, ◌+◌, ◌*◌, ◌<◌, ◌≤◌, ℤ, pos, List, [], ◌∷◌, ◌++◌, length, sym, ◌∙◌, ap, subst, arith}
use Rattle.std.specs.Prelude.{Some, slice_get, slice_index_or, take, drop}
use Rattle.std.specs.List.{AllByRecursion, filter}
use Rattle.std.proofs.lemmas.Bool.{cases_lt}
use Rattle.std.proofs.lemmas.List.{length-append}
use Rattle.ring_laws.specs.Fraction.{Same, whole}
use Rattle.ring_laws.proofs.Fractions.{fractions}
use Rattle.frac_laws.specs.declared.frac.Frac.{Frac}
use Rattle.frac_laws.specs.Numbers.{IsNumber}
use Rattle.geo_program.specs.declared.commands.Command.{Command}
use Rattle.geo_lowering.specs.Counting.{points_from, points_past}
use Rattle.geo_lowering.specs.Lowering.{point_place, steps_of}
use Rattle.geo_lowering.specs.StepForms.{StepForm}
use Rattle.geo_lowering.specs.declared.version.Version.TheVariants.{Two}
use Rattle.geo_conditions.specs.declared.problem.Problem.{Problem}
use Rattle.geo_conditions.specs.Lists.{Found, IsListed, found_from}
use Rattle.geo_conditions.specs.Truth.{is_free}
use Rattle.geo_place.specs.declared.evaluation.Progress.{Progress}
use Rattle.geo_place.specs.declared.positions.Position.{Position}
use Rattle.geo_place.specs.declared.triples.Triple.{Triple}
use Rattle.geo_place.specs.Evaluation.{Succeeds, turns_from}
use Rattle.geo_place.specs.Inner.{IsPassed, IsRun, IsSketchOf, IsTaken, IsTripleOf, Run, free_places, placement_of}
use Rattle.geo_place.proofs.ListParts.{get_before, get_behind, take_zero}
use Rattle.geo_place.proofs.Sketches.{number_found, number_same}
use Rattle.geo_place.proofs.Taking.{get_some}
use Rattle.geo_place.proofs.ValueLists.{frees_counted, numbers_behind, pairs, pairs_length}

-- one number more
pub numbers_more : (values : List ℤ) (ns : List Frac) (n : Frac) (i : ℕ) → length ns ≡ i → IsNumber n (whole (slice_index_or values i (pos 0)))
    → ((k : ℕ) (r : Frac) → slice_get ns k ≡ Some r → IsNumber r (whole (slice_index_or values k (pos 0))))
    → (k : ℕ) (r : Frac) → slice_get (ns ++ n ∷ []) k ≡ Some r → IsNumber r (whole (slice_index_or values k (pos 0)))
numbers_more values ns n i l is h k r e =
    ⊎_elim (λ (a : k < length ns). h k r (sym (get_before ns (n ∷ []) k a) ∙ e))
    (λ (b : length ns ≤ k).
    let q = get_behind ns n k r b e in
    subst (λ (j : ℕ). IsNumber r (whole (slice_index_or values j (pos 0)))) (sym (q.0 ∙ l)) (subst (λ (s : Frac). IsNumber s (whole (slice_index_or values i (pos 0)))) q.1 is))
    (cases_lt k (length ns))

module _ (run : Run) (problem : Problem) (ints : List ℤ) (h : IsRun run problem ints) where
  abbrev frees : ℕ
  frees = length (filter is_free run.program.commands)

  frees_are : length run.values.coordinates ≡ frees
  frees_are = h.reckoned.values.points ∙ frees_counted 0 run.program.commands

  ints_parts : ints ≡ pairs run.values.coordinates ++ run.values.numbers
  ints_parts = h.ints_are

  pub frees_fit : 2 * frees ≤ length ints
  frees_fit =
      let a = frees_are in
      let b : length ints ≡ 2 * length run.values.coordinates + length run.values.numbers =
      ap (λ (zs : List ℤ). length zs) ints_parts ∙ length-append (pairs run.values.coordinates) run.values.numbers
      ∙ ap (λ (k : ℕ). k + length run.values.numbers) (pairs_length run.values.coordinates) in
      omega (arith, a, b)

  behind : drop (2 * frees) ints ≡ run.values.numbers
  behind =
      ap (λ (k : ℕ). drop (2 * k) ints) (sym frees_are) ∙ ap (λ (zs : List ℤ). drop (2 * length run.values.coordinates) zs) ints_parts ∙ numbers_behind run.values.coordinates run.values.numbers

  module _ (progress : Progress) (points : progress.sketch.points.items ≡ []) (free : progress.sketch.free ≡ 0)
      (numbers : (k : ℕ) (r : Frac) → slice_get progress.sketch.numbers.items k ≡ Some r → IsNumber r (whole (slice_index_or (drop (2 * frees) ints) k (pos 0))))
      (long : length progress.sketch.numbers.items ≡ length (drop (2 * frees) ints)) (tested : progress.tested ≡ 0) (triples : progress.triples.items ≡ []) where
    none : length progress.sketch.points.items ≡ 0
    none = ap (λ (xs : List Position). length xs) points

    numbers_long : length progress.sketch.numbers.items ≡ length run.values.numbers
    numbers_long = long ∙ ap (λ (zs : List ℤ). length zs) behind

    number_same_at : (k : ℕ) → k < length progress.sketch.numbers.items → Same ((placement_of progress.sketch).number k) (run.placed.number k)
    number_same_at k b =
        let s = get_some progress.sketch.numbers.items k b in
        let there : IsNumber s.0 (whole (slice_index_or run.values.numbers k (pos 0))) = subst (λ (zs : List ℤ). IsNumber s.0 (whole (slice_index_or zs k (pos 0)))) behind (numbers k s.0 s.1) in
        fractions.same_trans _ _ _ (number_same s.0 ((placement_of progress.sketch).number k) (whole (slice_index_or run.values.numbers k (pos 0))) (number_found progress.sketch k s.0 s.1) there)
        (fractions.same_sym _ _ (h.reckoned.values.same_numbers k (subst (λ (i : ℕ). k < i) numbers_long b)))

    first_sketch : IsSketchOf run progress.sketch
    first_sketch = record {
      few = let a = none in omega (arith, a);
      numbers = numbers_long ∙ h.reckoned.values.numbers;
      free = free ∙ sym (ap (λ (i : ℕ). length (free_places 0 (take i (steps_of Two run.program)))) none
          ∙ ap (λ (fs : List StepForm). length (free_places 0 fs)) (take_zero (steps_of Two run.program)));
      same = record {
        same_points = λ k b. let a = none in absurd (omega (arith, a, b));
        same_numbers = number_same_at;
      };
    }

    commands_none : take 0 run.program.commands ≡ []
    commands_none = take_zero run.program.commands

    conditions_none : take progress.tested run.conditions ≡ []
    conditions_none = ap (λ (i : ℕ). take i run.conditions) tested ∙ take_zero run.conditions

    no_triple : (us : List Triple) → us ≡ [] → (a : ℕ) (t : Triple) → slice_get us a ≡ Some t → IsTripleOf t (run.placed.point (point_place Two run.program.commands a))
    no_triple [] e a t f = cc
    no_triple (u ∷ us) e a t f = cc

    pub first_taken : IsTaken run 0 progress
    first_taken = record {
      sketch = first_sketch;
      points = none ∙ sym (ap (λ (cs : List Command). points_past Two 0 cs) commands_none);
      tested = omega (arith, tested);
      listed = subst (λ (cs : List Command). IsListed (λ f. f.condition) [] (found_from run.program.nodes 0 1 cs) (take progress.tested run.conditions)) (sym commands_none) conditions_none;
      held = subst (λ (fs : List Found). AllByRecursion (λ f. IsPassed run f.condition) fs) (sym conditions_none) tt;
      told = ap (λ (us : List Triple). length us) triples ∙ sym (ap (λ (cs : List Command). points_from 0 cs) commands_none);
      triples = no_triple progress.triples.items triples;
      passed = subst (λ (cs : List Command). AllByRecursion (Succeeds run.program run.placed) (turns_from run.program 1 0 0 0 cs)) (sym commands_none) tt;
    }
