-- How an evaluation goes on by one command.
use Rattle.std.proofs.Common.{◌≡◌, ⊎_elim, ℕ, zero, suc, ◌+◌, ◌-◌, ◌<◌, ◌≤◌, Bool, true, false, ℤ, List, [], ◌∷◌, ◌++◌, length, map, refl, sym, ◌∙◌, ap, subst, append_assoc, append-nil, arith}
use Rattle.std.specs.Prelude.{◌≢◌, Option, Some, None, slice_get, slice_index_or, take, drop}
use Rattle.std.specs.List.{AllByRecursion}
use Rattle.std.proofs.Math.Nat.{eq-or-lt_of_le}
use Rattle.std.proofs.lemmas.Bool.{cases_lt}
use Rattle.std.proofs.lemmas.List.{drop-map, drop_at, length-append, length-map, length-take-le, take-map, take_at}
use Rattle.geo_points.specs.Placements.{SamePoint}
use Rattle.geo_points.proofs.Same.{flip_point, point_trans}
use Rattle.geo_terms.specs.Stores.{Store}
use Rattle.geo_program.specs.declared.commands.Command.{Command}
use Rattle.geo_program.specs.declared.names.NameKind.{NameKind}
use Rattle.geo_program.specs.declared.names.NameKind.TheVariants as kind
use Rattle.geo_program.specs.WellFormed.{IsWellFormed, Source}
use Rattle.geo_points.specs.declared.ids.PointId.{PointId}
use Rattle.geo_lowering.specs.Conditions.{late_conditions}
use Rattle.geo_lowering.specs.Counting.{counted, further, hidden, is_made, named, next_point, numbers_had}
use Rattle.geo_lowering.proofs.Values.{IsOver}
use Rattle.geo_conditions.specs.Terms.{condition_term}
use Rattle.geo_lowering.specs.Lowering.{layout_of, point_place, steps_of}
use Rattle.geo_lowering.specs.StepForms.{StepForm, step_form}
use Rattle.geo_lowering.proofs.ConditionValues.{each_append}
use Rattle.geo_conditions.specs.declared.items.Item.{Item}
use Rattle.geo_conditions.specs.declared.problem.Problem.{Problem}
use Rattle.geo_conditions.specs.Lists.{Found, IsListed, ItemForm, found_from, condition_item, item_form}
use Rattle.geo_place.specs.declared.errors.PlaceError.{PlaceError}
use Rattle.geo_place.specs.declared.errors.PlaceError.TheVariants.{NoMemory, TooLarge, Unmet}
use Rattle.geo_place.specs.declared.evaluation.Progress.{Progress}
use Rattle.geo_place.specs.declared.positions.Position.{Position}
use Rattle.geo_place.specs.declared.sketch.Sketch.{Sketch}
use Rattle.geo_place.specs.declared.triples.Triple.{Triple}
use Rattle.geo_place.specs.Evaluation.{IsTriplePast, Succeeds, at_line, makes, turns_of, write}
use Rattle.geo_place.specs.Inner.{FirstFails, IsItemMet, IsPassed, IsRun, IsSketchOf, IsTaken, IsTripleOf, IsTripleStop, Run, Stops, TellsTriple, point_at}
use Rattle.geo_place.proofs.CommandTurns.{E, K, L, Listed, W, after_at, all_pass, early, early_stop, early_terms, laid, late, late_stop}
use Rattle.geo_place.proofs.CommandTurns.{late_terms, listed_here, make_stop, n, named_next, past_next, points_few, points_up, steps}
use Rattle.geo_place.proofs.CommandTurns.{steps_here, write_stop, x}
use Rattle.geo_place.proofs.ListParts.{get_before, get_behind, head_of, index_at, none_before, same_length, tail_of}
use Rattle.geo_place.proofs.Sketches.{point_found}
use Rattle.geo_lowering.proofs.Puts.{of_path}
use Rattle.geo_lowering.specs.declared.version.Version.TheVariants.{Two}
use Rattle.geo_place.proofs.TestTurns.{tests_held, tests_pass, tests_stop}

-- LISTS
-- the condition of an item
pub record Beneath {A B C : Type 0} (g : A → C) (h : B → C) (fs : List B) (i : ℕ) (a : A) : Type 0 where
  pub other : B
  pub here : slice_get fs i ≡ Some other
  pub same : g a ≡ h other

pub beneath : {A B C : Type 0} (g : A → C) (h : B → C) (xs : List A) (fs : List B) (i : ℕ) (a : A) → map g xs ≡ map h fs → slice_get xs i ≡ Some a → Beneath g h fs i a
beneath g h [] fs i a e q = cc
beneath g h (y ∷ ys) [] i a e q = absurd (none_before [] (g y) (map g ys) e)
beneath g h (y ∷ ys) (f ∷ fs) zero a e q =
    let s : y ≡ a = ap (λ (o : Option _). elim o [ None ↦ y | Some z ↦ z ]) q in
    record { other = f; here = refl; same = ap g (sym s) ∙ head_of e }
beneath g h (y ∷ ys) (f ∷ fs) (suc i) a e q = let r = beneath g h ys fs i a (tail_of e) q in record { other = r.other; here = r.here; same = r.same }

-- an item in range is there
pub get_some : {A : Type 0} (xs : List A) (i : ℕ) → i < length xs → (a : A) × (slice_get xs i ≡ Some a)
get_some [] i l = absurd (omega arith)
get_some (y ∷ ys) zero l = (y, refl)
get_some (y ∷ ys) (suc i) l = get_some ys i (omega arith)

-- what holds of all items of a part holds at a place in it
part_holds : {A : Type 0} (P : A → Type 0) (xs ys zs : List A) (i : ℕ) (a : A) → AllByRecursion P ys → length xs ≤ i → i < length xs + length ys → slice_get (xs ++ (ys ++ zs)) i ≡ Some a → P a
part_holds P [] [] zs i a h l u e = absurd (omega arith)
part_holds P [] (y ∷ ys) zs zero a h l u e = subst P (ap (λ (o : Option _). elim o [ None ↦ y | Some z ↦ z ]) e) h.0
part_holds P [] (y ∷ ys) zs (suc i) a h l u e = part_holds P [] ys zs i a h.1 (omega arith) (omega arith) e
part_holds P (x ∷ xs) ys zs zero a h l u e = absurd (omega arith)
part_holds P (x ∷ xs) ys zs (suc i) a h l u e = part_holds P xs ys zs i a h (omega arith) (omega arith) e

-- what makes a point
made_is : (made : Option NameKind) → is_made kind.Point made ≡ true → made ≡ Some kind.Point
made_is (Some kind.Point) e = refl
made_is (Some kind.Param) e = cc
made_is (Some kind.Line) e = cc
made_is None e = cc

module _ (run : Run) (problem : Problem) (ints : List ℤ) (h : IsRun run problem ints) (k : ℕ) (c : Command) (at : slice_get run.program.commands k ≡ Some c)
    (old : Progress) (t : IsTaken run k old) where
  abbrev pub p : Source
  p = run.program

  abbrev pub w : IsWellFormed run.program
  w = h.formed

  abbrev pub nodes : Store
  nodes = problem.steps.nodes

  abbrev pub before_list : List Found
  before_list = take old.tested run.conditions

  pub parts : Listed p w k c at before_list run.conditions
  parts = listed_here p w k c at run.placed before_list run.conditions h.listed t.listed

  abbrev pub first : List Found
  first = parts.first

  abbrev pub second : List Found
  second = parts.second

  abbrev pub later : List Found
  later = parts.later

  pub items_long : length problem.conditions ≡ length run.conditions
  items_long = same_length (item_form nodes) (condition_item Two p) problem.conditions run.conditions h.written

  before_long : length before_list ≡ old.tested
  before_long = length-take-le old.tested run.conditions t.tested

  whole : run.conditions ≡ before_list ++ (first ++ (second ++ later))
  whole = parts.whole ∙ append_assoc (before_list ++ first) second later ∙ append_assoc before_list first (second ++ later)

  -- THE ITEMS OF THE LINE
  abbrev pub count : ℕ
  count = old.tested + (length first + length second)

  count_few : count + length later ≡ length run.conditions
  count_few =
      let e : length run.conditions ≡ length before_list + (length first + (length second + length later)) =
      ap (λ (fs : List Found). length fs) whole ∙ length-append before_list (first ++ (second ++ later))
      ∙ ap (λ (i : ℕ). length before_list + i) (length-append first (second ++ later) ∙ ap (λ (i : ℕ). length first + i) (length-append second later)) in
      let b = before_long in omega (arith, e, b)

  both_lines : AllByRecursion (λ f. f.line ≡ suc k) (first ++ second)
  both_lines = each_append (λ f. f.line ≡ suc k) first second parts.first_lines parts.second_lines

  both_long : length (first ++ second) ≡ length first + length second
  both_long = length-append first second

  whole_two : run.conditions ≡ before_list ++ ((first ++ second) ++ later)
  whole_two = whole ∙ ap (λ (fs : List Found). before_list ++ fs) (sym (append_assoc first second later))

  whole_three : run.conditions ≡ (before_list ++ (first ++ second)) ++ (later ++ [])
  whole_three = whole_two ∙ sym (append_assoc before_list (first ++ second) later) ∙ ap (λ (fs : List Found). (before_list ++ (first ++ second)) ++ fs) (sym (append-nil later))

  line_at : (i : ℕ) (item : Item) → slice_get problem.conditions i ≡ Some item → old.tested ≤ i → i < count → item.line ≡ suc k
  line_at i item e l u =
      let b = beneath (item_form nodes) (condition_item Two p) problem.conditions run.conditions i item h.written e in
      ap (λ (f : ItemForm). f.line) b.same
      ∙ part_holds (λ (f : Found). f.line ≡ suc k) before_list (first ++ second) later i b.other both_lines (let q = before_long in omega (arith, l, q))
      (let q = before_long in let r = both_long in omega (arith, u, q, r)) (subst (λ (fs : List Found). slice_get fs i ≡ Some b.other) whole_two b.here)

  line_past : (item : Item) → slice_get problem.conditions count ≡ Some item → suc k < item.line
  line_past item e =
      let b = beneath (item_form nodes) (condition_item Two p) problem.conditions run.conditions count item h.written e in
      let l : count < length run.conditions = get_in run.conditions count b.other b.here in
      let same = ap (λ (f : ItemForm). f.line) b.same in
      let m = part_holds (λ (f : Found). suc k < f.line) (before_list ++ (first ++ second)) later [] count b.other parts.later_lines
      (let q = before_long in let r = both_long in let s = length-append before_list (first ++ second) in omega (arith, q, r, s))
      (let q = before_long in let r = both_long in let s = length-append before_list (first ++ second) in let f = count_few in omega (arith, q, r, s, l, f))
      (subst (λ (fs : List Found). slice_get fs count ≡ Some b.other) whole_three b.here) in
      omega (arith, same, m)
    where
      get_in : {A : Type 0} (xs : List A) (i : ℕ) (a : A) → slice_get xs i ≡ Some a → i < length xs
      get_in [] i a e = cc
      get_in (y ∷ ys) zero a e = omega arith
      get_in (y ∷ ys) (suc i) a e = let q : i < length ys = get_in ys i a e in omega arith

  -- where the items of the line end
  pub end_is : (e : ℕ) → old.tested ≤ e → e ≤ length problem.conditions
      → ((i : ℕ) (item : Item) → slice_get problem.conditions i ≡ Some item → old.tested ≤ i → i < e → item.line ≡ suc k)
      → ((item : Item) → slice_get problem.conditions e ≡ Some item → item.line ≢ suc k) → e ≡ count
  end_is e low high these next =
      ⊎_elim
      (λ (l : e < count).
      let s = get_some problem.conditions e (let a = items_long in let b = count_few in omega (arith, l, a, b)) in
      absurd (next s.0 s.1 (line_at e s.0 s.1 low l)))
      (λ (l : count ≤ e).
      ⊎_elim (λ (q : count ≡ e). sym q)
      (λ (u : count < e).
      let s = get_some problem.conditions count (omega (arith, u, high)) in
      let a = line_past s.0 s.1 in let b = these count s.0 s.1 (omega arith) u in absurd (omega (arith, a, b))) (eq-or-lt_of_le l))
      (cases_lt e count)

  -- the items of the line end, and the late ones begin, at these places
  pub record Ends (items : List Item) (end late : ℕ) : Type 0 where
    pub same : items ≡ problem.conditions
    pub end_same : end ≡ count
    pub late_same : late ≡ length second

  pub ends_are : (items : List Item) → items ≡ problem.conditions → (line : ℕ) → line ≡ suc k → (e : ℕ) → old.tested ≤ e → e ≤ length items
      → ((i : ℕ) (item : Item) → slice_get items i ≡ Some item → old.tested ≤ i → i < e → item.line ≡ line)
      → ((item : Item) → slice_get items e ≡ Some item → item.line ≢ line) → (l : ℕ) → ((x : PointId) → l ≡ length (late_conditions x c)) → Ends items e l
  ends_are items q line s e low high these next l late_is = record {
    same = q;
    end_same = end_is e low (subst (λ (is : List Item). e ≤ length is) q high)
        (λ i item f a b. these i item (subst (λ (is : List Item). slice_get is i ≡ Some item) (sym q) f) a b ∙ s)
        (λ item f z. next item (subst (λ (is : List Item). slice_get is e ≡ Some item) (sym q) f) (z ∙ sym s));
    late_same = late_is (record { 0 = x p w k c at }) ∙ sym parts.late_long;
  }

  pub late_long : length second ≡ length (late p w k c at)
  late_long = parts.late_long

  abbrev pub middle : ℕ
  middle = old.tested + length first

  slices : (i j : ℕ) (xs ys zs : List Found) → run.conditions ≡ xs ++ (ys ++ zs) → length xs ≡ i → length ys ≡ j
      → map (item_form nodes) (take j (drop i problem.conditions)) ≡ map (condition_item Two p) ys
  slices i j xs ys zs e a b =
      sym (take-map (item_form nodes) j (drop i problem.conditions)) ∙ ap (λ (fs : List ItemForm). take j fs) (sym (drop-map (item_form nodes) i problem.conditions))
      ∙ ap (λ (fs : List ItemForm). take j (drop i fs)) h.written ∙ ap (λ (fs : List ItemForm). take j fs) (drop-map (condition_item Two p) i run.conditions)
      ∙ take-map (condition_item Two p) j (drop i run.conditions)
      ∙ ap (λ (fs : List Found). map (condition_item Two p) (take j fs)) (ap (λ (fs : List Found). drop i fs) e ∙ drop_at xs (ys ++ zs) i a)
      ∙ ap (λ (fs : List Found). map (condition_item Two p) fs) (take_at ys zs j b)

  pub first_items : map (item_form nodes) (take (middle - old.tested) (drop old.tested problem.conditions)) ≡ map (condition_item Two p) first
  first_items = slices old.tested (middle - old.tested) before_list first (second ++ later) whole before_long (omega arith)

  pub second_items : map (item_form nodes) (take (count - middle) (drop middle problem.conditions)) ≡ map (condition_item Two p) second
  second_items =
      slices middle (count - middle) (before_list ++ first) second later (parts.whole ∙ append_assoc (before_list ++ first) second later)
      (let a = before_long in let b = length-append before_list first in omega (arith, a, b)) (omega arith)

  -- TESTS BEFORE THE STEPS
  abbrev N : ℕ
  N = length old.sketch.points.items

  abbrev M : ℕ
  M = numbers_had p.commands

  early_over : AllByRecursion (λ d. IsOver N (length old.sketch.numbers.items) (condition_term (layout_of Two p.commands) d)) (early p w k c at)
  early_over =
      subst (λ (i : ℕ). AllByRecursion (λ d. IsOver i (length old.sketch.numbers.items) (condition_term (layout_of Two p.commands) d)) (early p w k c at)) (sym t.points)
      (subst (λ (j : ℕ). AllByRecursion (λ d. IsOver (n p w k c at) j (condition_term (layout_of Two p.commands) d)) (early p w k c at)) (sym t.sketch.numbers) (early_terms p w k c at run.placed))

  module _ (items : List Item) (e : map (item_form nodes) items ≡ map (condition_item Two p) first) where
    pub early_held : AllByRecursion (IsItemMet old.sketch nodes) items → AllByRecursion (λ f. IsPassed run f.condition) (before_list ++ first)
    early_held m = tests_held run old.sketch nodes N (length old.sketch.numbers.items) t.sketch.same (suc k) (early p w k c at) before_list first parts.early_listed t.held early_over items e m

    pub early_pass : AllByRecursion (IsItemMet old.sketch nodes) items → AllByRecursion (Succeeds p run.placed) (E p w k c at)
    early_pass m = tests_pass run old.sketch nodes N (length old.sketch.numbers.items) t.sketch.same (suc k) (early p w k c at) before_list first parts.early_listed t.held early_over items e m

    pub early_fail : (error : PlaceError) → FirstFails old.sketch nodes items old.tested error → Stops run (turns_of p) error
    early_fail error f =
        early_stop p w k c at run.values run.placed run.conditions error t.passed
        (tests_stop run old.sketch nodes N (length old.sketch.numbers.items) t.sketch.same (suc k) (early p w k c at) before_list first parts.early_listed t.held early_over items e
        (second ++ later) (parts.whole ∙ append_assoc (before_list ++ first) second later) h.listed error
        (subst (λ (i : ℕ). FirstFails old.sketch nodes items i error) (sym before_long) f))

  -- THE STEPS

  pub step_turns : take (next_point Two (n p w k c at) c - length old.sketch.points.items) (drop (length old.sketch.points.items) (steps_of Two p)) ≡ steps p w k c at
  step_turns = ap (λ (i : ℕ). take (next_point Two (n p w k c at) c - i) (drop i (steps_of Two p))) t.points ∙ steps_here p w k c at

  make_line : at_line (suc k) (makes (length old.sketch.points.items)
      (take (next_point Two (n p w k c at) c - length old.sketch.points.items)
      (drop (length old.sketch.points.items) (steps_of Two p)))) ≡ K p w k c at
  make_line =
      ap (λ (fs : List StepForm). at_line (suc k) (makes (length old.sketch.points.items) fs)) step_turns ∙ ap (λ (i : ℕ). at_line (suc k) (makes i (steps p w k c at))) t.points

  pub make_pass : AllByRecursion (Succeeds p run.placed)
      (at_line (suc k) (makes (length old.sketch.points.items)
      (take (next_point Two (n p w k c at) c - length old.sketch.points.items) (drop (length old.sketch.points.items) (steps_of Two p)))))
      → AllByRecursion (Succeeds p run.placed) (K p w k c at)
  make_pass h = subst (λ ts. AllByRecursion (Succeeds p run.placed) ts) make_line h

  pub make_fail : (error : PlaceError) → AllByRecursion (Succeeds p run.placed) (E p w k c at)
      → Stops run (at_line (suc k) (makes (length old.sketch.points.items)
      (take (next_point Two (n p w k c at) c - length old.sketch.points.items)
      (drop (length old.sketch.points.items) (steps_of Two p))))) error
      → Stops run (turns_of p) error
  make_fail error a s = make_stop p w k c at run.values run.placed run.conditions error t.passed a (subst (λ ts. Stops run ts error) make_line s)

  -- how many points there are then
  pub after_is : slice_index_or problem.after k 0 ≡ next_point Two (n p w k c at) c
  after_is = index_at problem.after k 0 (next_point Two (n p w k c at) c) (ap (λ (ns : List ℕ). slice_get ns k) h.lowered.after ∙ after_at 0 p.commands k c at)

  pub after_long : k < length problem.after
  after_long = go problem.after k (ap (λ (ns : List ℕ). slice_get ns k) h.lowered.after ∙ after_at 0 p.commands k c at)
    where
      go : (xs : List ℕ) (i : ℕ) {a : ℕ} → slice_get xs i ≡ Some a → i < length xs
      go [] i e = cc
      go (y ∷ ys) zero e = omega arith
      go (y ∷ ys) (suc i) e = let q : i < length ys = go ys i e in omega arith

  steps_long : length problem.steps.steps ≡ length (steps_of Two p)
  steps_long = sym (length-map problem.steps.steps (step_form nodes)) ∙ ap (λ (fs : List StepForm). length fs) h.lowered.steps

  pub next_few : next_point Two (n p w k c at) c ≤ length problem.steps.steps
  next_few = let a = points_few p w k c at in let b = steps_long in omega (arith, a, b)

  pub next_up : length old.sketch.points.items ≤ next_point Two (n p w k c at) c
  next_up = let a = points_up p w k c at in let b = t.points in omega (arith, a, b)

  -- BEHIND THE STEPS
  module _ (new : Sketch) (s : IsSketchOf run new) (made : length new.points.items ≡ next_point Two (n p w k c at) c) where
    -- the point that the command names is the last
    module _ (b : is_made kind.Point (named c) ≡ true) where
      next_is : next_point Two (n p w k c at) c ≡ suc (further (n p w k c at) (hidden Two c))
      next_is = ap (λ (z : Bool). elim z [ true ↦ suc (further (n p w k c at) (hidden Two c)) | false ↦ further (n p w k c at) (hidden Two c) ]) b

      pub last_is : length new.points.items - 1 ≡ further (n p w k c at) (hidden Two c)
      last_is = let a = next_is in omega (arith, a, made)

      pub some_point : 1 ≤ length new.points.items
      some_point = let a = next_is in omega (arith, a, made)

      point_is : point_place Two p.commands (x p w k c at) ≡ further (n p w k c at) (hidden Two c)
      point_is = (laid p w k c at).point (made_is (named c) b)

      write_line : W p w k c at ≡ record { line = suc k; turn = write (further (n p w k c at) (hidden Two c)) } ∷ []
      write_line = ap (λ (z : Bool). at_line (suc k) (elim z [ true ↦ write (further (n p w k c at) (hidden Two c)) ∷ [] | false ↦ [] ])) b

      module _ (q : Position) (e : slice_get new.points.items (length new.points.items - 1) ≡ Some q) where
        there : SamePoint (point_at q) (run.placed.point (further (n p w k c at) (hidden Two c)))
        there =
            let f : slice_get new.points.items (further (n p w k c at) (hidden Two c)) ≡ Some q = subst (λ (i : ℕ). slice_get new.points.items i ≡ Some q) last_is e in
            point_trans _ _ _ (of_path (sym (point_found new (further (n p w k c at) (hidden Two c)) q f)))
            (s.same.same_points (further (n p w k c at) (hidden Two c)) (let a = next_is in omega (arith, a, made)))

        pub write_pass : (IsTriplePast (point_at q) → ⊥) → AllByRecursion (Succeeds p run.placed) (W p w k c at)
        write_pass f =
            subst (λ ts. AllByRecursion (Succeeds p run.placed) ts) (sym write_line)
            ((λ (z : IsTriplePast (run.placed.point (further (n p w k c at) (hidden Two c)))). f (z.0, z.1, point_trans _ _ _ z.2 (flip_point _ _ there), z.3), tt), tt)

        pub triple_is : (u : Triple) → IsTripleOf u (point_at q) → IsTripleOf u (run.placed.point (point_place Two p.commands (x p w k c at)))
        triple_is u z =
            subst (λ (i : ℕ). IsTripleOf u (run.placed.point i)) (sym point_is)
            (record {
              told = z.told;
              x = z.x;
              y = z.y;
              w = z.w;
              least = z.least;
              same = point_trans _ _ _ z.same there;
              short_x = z.short_x;
              short_y = z.short_y;
            })

        pub write_fail : (error : PlaceError) → AllByRecursion (Succeeds p run.placed) (E p w k c at)
            → AllByRecursion (Succeeds p run.placed) (K p w k c at) → IsTripleStop q (suc k) error → Stops run (turns_of p) error
        write_fail (Unmet j) a b' z = absurd z
        write_fail NoMemory a b' z = tt
        write_fail (TooLarge l) a b' z =
            write_stop p w k c at run.values run.placed run.conditions (TooLarge l) t.passed a b'
            (subst (λ ts. Stops run ts (TooLarge l)) (sym write_line)
            (record {
              before = [];
              turn = record { line = suc k; turn = write (further (n p w k c at) (hidden Two c)) };
              after = [];
              parts = refl;
              passed = tt;
              stops = (sym z.0, (z.1.0, z.1.1, point_trans _ _ _ z.1.2 there, z.1.3));
            }))

    no_write : is_made kind.Point (named c) ≡ false → AllByRecursion (Succeeds p run.placed) (W p w k c at)
    no_write b =
        subst (λ ts. AllByRecursion (Succeeds p run.placed) ts)
        (sym (ap (λ (z : Bool). at_line (suc k) (elim z [ true ↦ write (further (n p w k c at) (hidden Two c)) ∷ [] | false ↦ [] ])) b)) tt

    -- what is told of the command: the triple of its point, where it names one
    pub record IsTold (told : List Triple) : Type 0 where
      pub written : AllByRecursion (Succeeds p run.placed) (W p w k c at)
      pub long : length told ≡ counted kind.Point (named c) (x p w k c at)
      pub triples : (a : ℕ) (u : Triple) → slice_get told a ≡ Some u → IsTripleOf u (run.placed.point (point_place Two p.commands a))

    pub told_none : is_made kind.Point (named c) ≡ false → IsTold old.triples.items
    told_none b = record {
      written = no_write b;
      long = t.told ∙ sym (ap (λ (z : Bool). elim z [ true ↦ suc (x p w k c at) | false ↦ x p w k c at ]) b);
      triples = t.triples;
    }

    pub told_one : (b : is_made kind.Point (named c) ≡ true) (q : Position) → slice_get new.points.items (length new.points.items - 1) ≡ Some q
        → (told : List Triple) → TellsTriple old.triples.items told q → IsTold told
    told_one b q e told z = record {
      written = write_pass b q e z.fits;
      long = ap (λ (us : List Triple). length us) z.pushed ∙ length-append old.triples.items (z.triple ∷ [])
          ∙ (let r : length old.triples.items + 1 ≡ suc (x p w k c at) = let v = t.told in omega (arith, v) in r)
          ∙ sym (ap (λ (y : Bool). elim y [ true ↦ suc (x p w k c at) | false ↦ x p w k c at ]) b);
      triples = λ a u f. pushed_triple a u (subst (λ (us : List Triple). slice_get us a ≡ Some u) z.pushed f);
    }
      where
        pushed_triple : (a : ℕ) (u : Triple) → slice_get (old.triples.items ++ z.triple ∷ []) a ≡ Some u → IsTripleOf u (run.placed.point (point_place Two p.commands a))
        pushed_triple a u f =
            ⊎_elim (λ (l : a < length old.triples.items). t.triples a u (sym (get_before old.triples.items (z.triple ∷ []) a l) ∙ f))
            (λ (l : length old.triples.items ≤ a).
            let r = get_behind old.triples.items z.triple a u l f in
            subst (λ (i : ℕ). IsTripleOf u (run.placed.point (point_place Two p.commands i))) (sym (r.0 ∙ t.told)) (triple_is b q e u (subst (λ (v : Triple). IsTripleOf v (point_at q)) r.1 z.is)))
            (cases_lt a (length old.triples.items))

    -- TESTS BEHIND THE STEPS
    late_over : AllByRecursion (λ d. IsOver (length new.points.items) (length new.numbers.items) (condition_term (layout_of Two p.commands) d)) (late p w k c at)
    late_over =
        subst (λ (i : ℕ). AllByRecursion (λ d. IsOver i (length new.numbers.items) (condition_term (layout_of Two p.commands) d)) (late p w k c at)) (sym made)
        (subst (λ (j : ℕ). AllByRecursion (λ d. IsOver (next_point Two (n p w k c at) c) j (condition_term (layout_of Two p.commands) d))
        (late p w k c at)) (sym s.numbers) (late_terms p w k c at run.placed))

    module _ (items : List Item) (e : map (item_form nodes) items ≡ map (condition_item Two p) second) (held : AllByRecursion (λ f. IsPassed run f.condition) (before_list ++ first)) where
      late_held : AllByRecursion (IsItemMet new nodes) items → AllByRecursion (λ f. IsPassed run f.condition) ((before_list ++ first) ++ second)
      late_held m =
          tests_held run new nodes (length new.points.items) (length new.numbers.items) s.same (suc k) (late p w k c at)
          (before_list ++ first) second parts.late_listed held late_over items e m

      late_pass : AllByRecursion (IsItemMet new nodes) items → AllByRecursion (Succeeds p run.placed) (L p w k c at)
      late_pass m =
          tests_pass run new nodes (length new.points.items) (length new.numbers.items) s.same (suc k) (late p w k c at)
          (before_list ++ first) second parts.late_listed held late_over items e m

      pub late_fail : (error : PlaceError) → AllByRecursion (Succeeds p run.placed) (E p w k c at)
          → AllByRecursion (Succeeds p run.placed) (K p w k c at) → AllByRecursion (Succeeds p run.placed) (W p w k c at)
          → FirstFails new nodes items middle error → Stops run (turns_of p) error
      late_fail error a b d f =
          late_stop p w k c at run.values run.placed run.conditions error t.passed a b d
          (tests_stop run new nodes (length new.points.items) (length new.numbers.items) s.same (suc k) (late p w k c at) (before_list ++ first) second parts.late_listed held late_over items e
          later parts.whole h.listed error
          (subst (λ (i : ℕ). FirstFails new nodes items i error)
          (let q = before_long in let r = length-append before_list first in
          let v : middle ≡ length (before_list ++ first) = omega (arith, q, r) in v) f))

      -- all is done for the command
      pub taken_next : (told : List Triple) → IsTold told → AllByRecursion (Succeeds p run.placed) (E p w k c at) → AllByRecursion (Succeeds p run.placed) (K p w k c at)
          → AllByRecursion (IsItemMet new nodes) items → (progress : Progress) → progress.sketch ≡ new → progress.tested ≡ count → progress.triples.items ≡ told → IsTaken run (suc k) progress
      taken_next told v a b m progress ps pt pu =
          let lists : take progress.tested run.conditions ≡ (before_list ++ first) ++ second =
          ap (λ (i : ℕ). take i run.conditions) pt ∙ ap (λ (fs : List Found). take count fs) parts.whole
          ∙ take_at ((before_list ++ first) ++ second) later count
          (let q = before_long in let r = length-append before_list first in let u = length-append (before_list ++ first) second in
          omega (arith, q, r, u)) in
          record {
            sketch = subst (λ (z : Sketch). IsSketchOf run z) (sym ps) s;
            points = ap (λ (z : Sketch). length z.points.items) ps ∙ made ∙ sym (past_next p w k c at);
            tested = let q = count_few in omega (arith, pt, q);
            listed = subst (λ (fs : List Found). IsListed (λ f. f.condition) [] (found_from p.nodes 0 1 (take (suc k) p.commands)) fs) (sym lists) parts.next;
            held = subst (λ (fs : List Found). AllByRecursion (λ f. IsPassed run f.condition) fs) (sym lists) (late_held m);
            told = ap (λ (us : List Triple). length us) pu ∙ v.long ∙ sym (named_next p w k c at);
            triples = λ i u f. v.triples i u (subst (λ (us : List Triple). slice_get us i ≡ Some u) pu f);
            passed = all_pass p w k c at run.values run.placed run.conditions t.passed a b v.written (late_pass m);
          }
