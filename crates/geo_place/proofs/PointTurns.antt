-- How the points of a command are made, one after another.
use Rattle.std.proofs.Common.{◌≡◌, ℕ, zero, suc, ◌+◌, ◌-◌, ◌<◌, ◌≤◌, ℤ, List, [], ◌∷◌, length, sym, ◌∙◌, ap, subst, arith}
use Rattle.std.specs.Prelude.{Some, slice_get, take, drop}
use Rattle.std.specs.List.{AllByRecursion}
use Rattle.std.proofs.lemmas.List.{take_all}
use Rattle.geo_lowering.specs.Lowering.{steps_of}
use Rattle.geo_lowering.specs.StepForms.{StepForm}
use Rattle.geo_lowering.specs.declared.version.Version.TheVariants.{Two}
use Rattle.geo_conditions.specs.declared.problem.Problem.{Problem}
use Rattle.geo_place.specs.declared.errors.PlaceError.{PlaceError}
use Rattle.geo_place.specs.declared.sketch.Sketch.{Sketch}
use Rattle.geo_place.specs.Evaluation.{TurnOverflows, Succeeds, at_line, make, makes}
use Rattle.geo_place.specs.Inner.{IsRun, IsSketchOf, Run, Stops}
use Rattle.geo_place.proofs.ListParts.{taken_at}
use Rattle.geo_place.proofs.MakeTurns.{made, pass_next, stop_next}
use Rattle.geo_place.proofs.NextPoints.{all_steps}
use Rattle.geo_place.proofs.Taking.{get_some}

module _ (run : Run) (n to line : ℕ) where
  -- the steps of the points from n up to `to`
  abbrev pub between : List StepForm
  between = take (to - n) (drop n (steps_of Two run.program))

  -- the points below `count` are made, and their steps pass
  pub record AreMade (count : ℕ) (sketch : Sketch) : Type 0 where
    pub sketch_of : IsSketchOf run sketch
    pub count_is : length sketch.points.items ≡ count
    pub passed : AllByRecursion (Succeeds run.program run.placed) (made run line n between (count - n))

  module _ (problem : Problem) (ints : List ℤ) (h : IsRun run problem ints) (last : to ≤ length problem.steps.steps) (count : ℕ)
      (sketch : Sketch) (m : AreMade count sketch) (low : n ≤ count) (high : count < to) where
    pub below : length sketch.points.items < length problem.steps.steps
    below = let a = m.count_is in omega (arith, a, last, high)

    here : (f : StepForm) × (slice_get (steps_of Two run.program) count ≡ Some f)
    here = get_some (steps_of Two run.program) count (let a = all_steps run problem ints h in omega (arith, a, last, high))

    whole : n + (count - n) ≡ count
    whole = omega (arith, low)

    at : slice_get between (count - n) ≡ Some here.0
    at =
        let l : count - n < to - n = omega (arith, low, high) in
        taken_at (steps_of Two run.program) n (to - n) (count - n) l ∙ ap (λ (i : ℕ). slice_get (steps_of Two run.program) i) whole ∙ here.1

    here_now : slice_get (steps_of Two run.program) (length sketch.points.items) ≡ Some here.0
    here_now = subst (λ (i : ℕ). slice_get (steps_of Two run.program) i ≡ Some here.0) (sym m.count_is) here.1

    pub made_next : (new : Sketch) → IsSketchOf run new → length new.points.items ≡ length sketch.points.items + 1
        → ((f : StepForm) → slice_get (steps_of Two run.program) (length sketch.points.items) ≡ Some f → TurnOverflows run.program run.placed (make (length sketch.points.items) f) → ⊥)
        → AreMade (count + 1) new
    made_next new s e p =
        let same : length sketch.points.items ≡ n + (count - n) = m.count_is ∙ sym whole in
        let q : suc (count - n) ≡ count + 1 - n = omega (arith, low) in
        record {
          sketch_of = s;
          count_is = let a = m.count_is in omega (arith, a, e);
          passed = subst (λ (i : ℕ). AllByRecursion (Succeeds run.program run.placed) (made run line n between i)) q
              (pass_next run line n between (count - n) here.0 at m.passed (λ z. p here.0 here_now (subst (λ (i : ℕ). TurnOverflows run.program run.placed (make i here.0)) (sym same) z)));
        }

    pub made_stops : (e : PlaceError)
        → ((f : StepForm) → slice_get (steps_of Two run.program) (length sketch.points.items) ≡ Some f → Stops run (at_line line (make (length sketch.points.items) f ∷ [])) e)
        → Stops run (at_line line (makes n between)) e
    made_stops e s =
        let same : length sketch.points.items ≡ n + (count - n) = m.count_is ∙ sym whole in
        stop_next run line n between (count - n) here.0 e at m.passed (subst (λ (i : ℕ). Stops run (at_line line (make i here.0 ∷ [])) e) same (s here.0 here_now))

  pub made_last : (count : ℕ) (sketch : Sketch) → AreMade count sketch → to ≤ count → AllByRecursion (Succeeds run.program run.placed) (at_line line (makes n between))
  made_last count sketch m l =
      subst (λ (fs : List StepForm). AllByRecursion (Succeeds run.program run.placed) (at_line line (makes n fs)))
      (take_all (count - n) between (short (to - n) (drop n (steps_of Two run.program)) (count - n) (omega (arith, l)))) m.passed
    where
      short : {A : Type 0} (i : ℕ) (xs : List A) (j : ℕ) → i ≤ j → length (take i xs) ≤ j
      short zero [] j l = omega arith
      short zero (x ∷ xs) j l = omega arith
      short (suc i) [] j l = omega arith
      short (suc i) (x ∷ xs) zero l = absurd (omega arith)
      short (suc i) (x ∷ xs) (suc j) l = let q : length (take i xs) ≤ j = short i xs j (omega arith) in omega (arith, q)
