-- The next point of a sketch, against the run's placement.
use Rattle.std.proofs.Common.{◌≡◌, ◌⊎◌, ⊎_elim, ℕ, zero, suc, ◌+◌, ◌*◌, ◌<◌, ◌≤◌, ℤ, pos, List, [], ◌∷◌, ◌++◌, length, map, refl, sym, ◌∙◌, ap, subst, arith}
use Rattle.std.specs.Prelude.{IfErr, IfOk, OnOk, Option, Some, None, Result, Ok, Err, slice_get, slice_index_or, take}
use Rattle.std.proofs.lemmas.List.{length-append, length-take-le, length-map, get_or-map}
use Rattle.ring_laws.specs.Fraction.{whole}
use Rattle.frac_laws.specs.Numbers.{IsNumber}
use Rattle.geo_points.specs.Placements.{SamePoint}
use Rattle.geo_points.proofs.Same.{flip_point, point_trans}
use Rattle.geo_terms.specs.declared.steps.Step.{Step}
use Rattle.geo_terms.specs.declared.steps.Step.TheVariants as step
use Rattle.geo_terms.specs.Constructions.{IsStep}
use Rattle.geo_terms.specs.Stores.{Store}
use Rattle.geo_lowering.specs.Counting.{numbers_had}
use Rattle.geo_lowering.specs.Lowering.{point_place, steps_of}
use Rattle.geo_lowering.specs.StepForms.{StepForm, crossing_of, foot_of, along, turned_along, weighted, free, step_form}
use Rattle.geo_lowering.proofs.Bounds.{program_over}
use Rattle.geo_lowering.proofs.FormLaws.{IsFormOver}
use Rattle.geo_lowering.specs.declared.version.Version.TheVariants.{Two}
use Rattle.geo_conditions.specs.declared.problem.Problem.{Problem}
use Rattle.geo_conditions.specs.Truth.{free_points, whole_point}
use Rattle.geo_place.specs.declared.errors.PlaceError.{PlaceError}
use Rattle.geo_place.specs.declared.errors.PlaceError.TheVariants.{TooLarge}
use Rattle.geo_place.specs.declared.positions.Position.{Position}
use Rattle.geo_place.specs.declared.positions.Reckoned.{Reckoned}
use Rattle.geo_place.specs.declared.sketch.Sketch.{Sketch}
use Rattle.geo_place.specs.Formulas.{IsAt, Spot, step_spot}
use Rattle.geo_place.specs.Evaluation.{TurnOverflows, at_line, make}
use Rattle.geo_place.specs.Reckonings.{Overflows, IsResult}
use Rattle.geo_place.specs.Inner.{AreResults, HasNumber, IsPosition, IsRun, IsSketchOf, Run, Stops, free_places, placement_of, point_at}
use Rattle.geo_place.proofs.Existence.{program_places}
use Rattle.geo_conditions.specs.Lists.{condition_item, item_form}
use Rattle.geo_place.proofs.ListParts.{same_length}
use Rattle.geo_place.proofs.MakeTurns.{at_place, large_there, made_there, not_large, over_place, place_at}
use Rattle.geo_place.proofs.Sketches.{own_position, position_same}
use Rattle.geo_place.proofs.ValueLists.{abscissa_at, ordinate_at, pairs, pairs_length}

get_map : {A B : Type 0} (f : A → B) (xs : List A) (k : ℕ) (x : A) → slice_get xs k ≡ Some x → slice_get (map f xs) k ≡ Some (f x)
get_map f [] k x e = cc
get_map f (y ∷ ys) zero x e = ap (λ (o : Option _). elim o [ None ↦ Some (f y) | Some z ↦ Some (f z) ]) e
get_map f (y ∷ ys) (suc k) x e = get_map f ys k x e

-- the numbers of a step of a construction stand in the store
pub has_number : (nodes : Store) (points params : ℕ) (s : Step) → IsStep nodes points params s → HasNumber nodes s
has_number nodes points params step.Point h = tt
has_number nodes points params (step.Inter u v p q) h = tt
has_number nodes points params (step.Foot p u v) h = tt
has_number nodes points params (step.Pratio w u v r) h = h.3.stored
has_number nodes points params (step.Tratio u v r) h = h.2.stored
has_number nodes points params (step.Weights o u v r s) h = (h.3.stored, h.4.stored)

-- a step makes at most one free point
one_few : (n : ℕ) (f : StepForm) → length (free_places n (f ∷ [])) ≤ 1
one_few n free = omega arith
one_few n (crossing_of u v p q) = omega arith
one_few n (foot_of p u v) = omega arith
one_few n (along w u v r) = omega arith
one_few n (turned_along u v r) = omega arith
one_few n (weighted o u v r s) = omega arith

places_few : (n : ℕ) (fs : List StepForm) → length (free_places n fs) ≤ length fs
places_few n [] = omega arith
places_few n (free ∷ fs) = let h = places_few (suc n) fs in omega (arith, h)
places_few n (crossing_of u v p q ∷ fs) = let h = places_few (suc n) fs in omega (arith, h)
places_few n (foot_of p u v ∷ fs) = let h = places_few (suc n) fs in omega (arith, h)
places_few n (along w u v r ∷ fs) = let h = places_few (suc n) fs in omega (arith, h)
places_few n (turned_along u v r ∷ fs) = let h = places_few (suc n) fs in omega (arith, h)
places_few n (weighted o u v r s ∷ fs) = let h = places_few (suc n) fs in omega (arith, h)

-- the step of a free point alone has its form
pub form_free : (nodes : Store) (s : Step) → step_form nodes s ≡ free → s ≡ step.Point
form_free nodes step.Point e = refl
form_free nodes (step.Inter u v p q) e = cc
form_free nodes (step.Foot p u v) e = cc
form_free nodes (step.Pratio w u v r) e = cc
form_free nodes (step.Tratio u v r) e = cc
form_free nodes (step.Weights o u v r s) e = cc

pub all_steps : (run : Run) (problem : Problem) (ints : List ℤ) → IsRun run problem ints → length problem.steps.steps ≡ length (steps_of Two run.program)
all_steps run problem ints h = sym (length-map problem.steps.steps (step_form problem.steps.nodes)) ∙ ap (λ (fs : List StepForm). length fs) h.lowered.steps

pub all_items : (run : Run) (problem : Problem) (ints : List ℤ) → IsRun run problem ints → length problem.conditions ≡ length run.conditions
all_items run problem ints h = same_length (item_form problem.steps.nodes) (condition_item Two run.program) problem.conditions run.conditions h.written

module _ (run : Run) (problem : Problem) (ints : List ℤ) (h : IsRun run problem ints) (sketch : Sketch) (s : IsSketchOf run sketch) (here : Step)
    (at : slice_get problem.steps.steps (length sketch.points.items) ≡ Some here) where
  abbrev pub n : ℕ
  n = length sketch.points.items

  abbrev pub form : StepForm
  form = step_form problem.steps.nodes here

  pub at_form : slice_get (steps_of Two run.program) n ≡ Some form
  at_form = subst (λ (fs : List StepForm). slice_get fs n ≡ Some form) h.lowered.steps (get_map (step_form problem.steps.nodes) problem.steps.steps n here at)

  pub free_few : sketch.free + length (free_places 0 (form ∷ [])) ≤ 513
  free_few =
      let a = s.free in
      let b = places_few 0 (take n (steps_of Two run.program)) in
      let c : length (take n (steps_of Two run.program)) ≡ n = length-take-le n (steps_of Two run.program) s.few in
      let d = s.few in let e = all_steps run problem ints h in let f = h.lowered.valid.few in let g = one_few 0 form in omega (arith, a, b, c, d, e, f, g)

  zero_plus : 0 + n ≡ n
  zero_plus = omega arith

  pub over : IsFormOver n (length sketch.numbers.items) form
  over =
      subst (λ (m : ℕ). IsFormOver n m form) (sym s.numbers)
      (subst (λ (k : ℕ). IsFormOver k (numbers_had run.program.commands) form) zero_plus
      (over_place 0 (numbers_had run.program.commands) (steps_of Two run.program) n form (program_over Two run.program h.formed) at_form))

  pub is_at : IsAt (run.placed.point n) (step_spot run.placed n form)
  is_at = subst (λ (k : ℕ). IsAt (run.placed.point k) (step_spot run.placed k form)) zero_plus (at_place run.placed 0 (steps_of Two run.program) n form h.reckoned.points at_form)

  pub in_store : HasNumber problem.steps.nodes here
  in_store = has_number problem.steps.nodes n problem.steps.params here (h.lowered.valid.steps n here at)

  -- A FREE POINT
  module _ (e : form ≡ free) where
    place : (slice_index_or (free_places 0 (steps_of Two run.program)) (length (free_places 0 (take n (steps_of Two run.program)))) 0 ≡ 0 + n)
        × (length (free_places 0 (take n (steps_of Two run.program))) < length (free_places 0 (steps_of Two run.program)))
    place = place_at 0 (steps_of Two run.program) n (at_form ∙ ap (λ (f : StepForm). Some f) e)

    abbrev frees : List ℕ
    frees = free_points 0 run.program.commands

    wide : length (free_places 0 (steps_of Two run.program)) ≡ length run.values.coordinates
    wide = ap (λ (xs : List ℕ). length xs) (program_places run.program) ∙ length-map frees (point_place Two run.program.commands) ∙ sym h.reckoned.values.points

    pub below_all : sketch.free < length run.values.coordinates
    below_all = let a = place.1 in let b = s.free in let c = wide in omega (arith, a, b, c)

    ints_parts : ints ≡ pairs run.values.coordinates ++ run.values.numbers
    ints_parts = h.ints_are

    pub inside : 2 * sketch.free + 1 < length ints
    inside =
        let a = below_all in
        let b : length ints ≡ 2 * length run.values.coordinates + length run.values.numbers =
        ap (λ (zs : List ℤ). length zs) ints_parts ∙ length-append (pairs run.values.coordinates) run.values.numbers
        ∙ ap (λ (k : ℕ). k + length run.values.numbers) (pairs_length run.values.coordinates) in
        omega (arith, a, b)

    at_free : point_place Two run.program.commands (slice_index_or frees sketch.free 0) ≡ n
    at_free =
        let l : sketch.free < length frees = let a = below_all in let b = h.reckoned.values.points in omega (arith, a, b) in
        sym (get_or-map (point_place Two run.program.commands) frees sketch.free 0 0 l)
        ∙ ap (λ (xs : List ℕ). slice_index_or xs sketch.free 0) (sym (program_places run.program))
        ∙ ap (λ (k : ℕ). slice_index_or (free_places 0 (steps_of Two run.program)) k 0) s.free ∙ place.0 ∙ zero_plus

    abbrev xy : ℤ × ℤ
    xy = slice_index_or run.values.coordinates sketch.free (pos 0, pos 0)

    pub free_there : (q : Position) → IsNumber q.x (whole (slice_index_or ints (2 * sketch.free) (pos 0))) → IsNumber q.y (whole (slice_index_or ints (2 * sketch.free + 1) (pos 0)))
        → SamePoint (point_at q) (run.placed.point n)
    unfolding whole
    free_there q x y =
        let ex : slice_index_or ints (2 * sketch.free) (pos 0) ≡ xy.0 =
        ap (λ (zs : List ℤ). slice_index_or zs (2 * sketch.free) (pos 0)) ints_parts ∙ abscissa_at run.values.coordinates run.values.numbers sketch.free below_all in
        let ey : slice_index_or ints (2 * sketch.free + 1) (pos 0) ≡ xy.1 =
        ap (λ (zs : List ℤ). slice_index_or zs (2 * sketch.free + 1) (pos 0)) ints_parts ∙ ordinate_at run.values.coordinates run.values.numbers sketch.free below_all in
        let there : IsPosition q (whole_point xy) = record {
          x = record { crossed = (subst (λ z. IsNumber q.x (whole z)) ex x).crossed };
          y = record { crossed = (subst (λ z. IsNumber q.y (whole z)) ey y).crossed };
        } in
        let value = subst (λ (k : ℕ). SamePoint (run.placed.point k) (whole_point xy)) at_free (h.reckoned.values.same_points sketch.free below_all) in
        point_trans _ _ _ (position_same q (point_at q) (whole_point xy) (own_position q) there) (flip_point _ _ value)

  -- A POINT THAT IS RECKONED
  -- what a step that is no free point answers, on this line
  pub record NextIs (line : ℕ) (r : Result Position PlaceError) : Type 0 where
    pub position : IfOk r (λ q. SamePoint (point_at q) (run.placed.point n))
    pub passed : OnOk r (TurnOverflows run.program run.placed (make n form) → ⊥)
    pub stops : IfErr r (Stops run (at_line line (make n form ∷ [])))

  pub next_reckoned : (form ≡ free → ⊥) → (line : ℕ) (k : ℕ) → k ≡ n → (reckoned : Reckoned) → AreResults reckoned (step_spot (placement_of sketch) k form) → (r : Result Position PlaceError)
      → IfOk r (λ q. (spot : Spot) → AreResults reckoned spot → IsResult q.x spot.x × IsResult q.y spot.y)
      → IfErr r (λ e. (spot : Spot) → AreResults reckoned spot → (e ≡ TooLarge line) × (Overflows spot.x ⊎ Overflows spot.y)) → NextIs line r
  next_reckoned d line k kn reckoned a r ok err =
      let b : AreResults reckoned (step_spot (placement_of sketch) n form) = subst (λ (i : ℕ). AreResults reckoned (step_spot (placement_of sketch) i form)) kn a in
      go r ok err b
    where
      spot : Spot
      spot = step_spot (placement_of sketch) n form

      go : (r : Result Position PlaceError) → IfOk r (λ q. (spot : Spot) → AreResults reckoned spot → IsResult q.x spot.x × IsResult q.y spot.y)
          → IfErr r (λ e. (spot : Spot) → AreResults reckoned spot → (e ≡ TooLarge line) × (Overflows spot.x ⊎ Overflows spot.y))
          → AreResults reckoned (step_spot (placement_of sketch) n form) → NextIs line r
      go (Ok q) ok err b =
          let h = ok spot b in
          record {
            position = made_there n (length sketch.numbers.items) (placement_of sketch) run.placed s.same form over d is_at q h.0 h.1;
            passed = not_large n (length sketch.numbers.items) (placement_of sketch) run.placed s.same form over d is_at q h.0 h.1;
            stops = tt;
          }
      go (Err e) ok err b =
          let h = err spot b in
          record {
            position = tt;
            passed = tt;
            stops = subst (λ (f : PlaceError). Stops run (at_line line (make n form ∷ [])) f) (sym h.0)
                (record {
                  before = [];
                  turn = record { line = line; turn = make n form };
                  after = [];
                  parts = refl;
                  passed = tt;
                  stops = (refl, large_there n (length sketch.numbers.items) (placement_of sketch) run.placed s.same form over d is_at h.1);
                });
          }
