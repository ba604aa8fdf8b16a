-- What the tests, the steps and the triple of a command come to, as they are evaluated.
use Rattle.std.proofs.Common.{◌≡◌, ℕ, suc, ◌+◌, ◌-◌, ◌≤◌, true, false, ℤ, List, ◌++◌, length, map, refl, ◌∙◌, ap, subst, arith}
use Rattle.std.specs.Prelude.{Some, slice_get, take, drop}
use Rattle.std.specs.List.{AllByRecursion}
use Rattle.geo_terms.specs.Stores.{Store}
use Rattle.geo_program.specs.declared.commands.Command.{Command}
use Rattle.geo_program.specs.declared.names.NameKind.TheVariants as kind
use Rattle.geo_program.specs.WellFormed.{Source}
use Rattle.geo_lowering.specs.Counting.{is_made, named, next_point}
use Rattle.geo_lowering.specs.Lowering.{steps_of}
use Rattle.geo_lowering.specs.declared.version.Version.TheVariants.{Two}
use Rattle.geo_conditions.specs.declared.items.Item.{Item}
use Rattle.geo_conditions.specs.declared.problem.Problem.{Problem}
use Rattle.geo_conditions.specs.Lists.{condition_item, item_form}
use Rattle.geo_place.specs.declared.errors.PlaceError.{PlaceError}
use Rattle.geo_place.specs.declared.evaluation.Progress.{Progress}
use Rattle.geo_place.specs.declared.positions.Position.{Position}
use Rattle.geo_place.specs.declared.sketch.Sketch.{Sketch}
use Rattle.geo_place.specs.declared.triples.Triple.{Triple}
use Rattle.geo_place.specs.Evaluation.{LineTurn, Succeeds, at_line, makes, turns_of}
use Rattle.geo_place.specs.Inner.{FirstFails, IsItemMet, IsPassed, IsRun, IsSketchOf, IsTaken, IsTripleStop, Run, Stops, TellsTriple}
use Rattle.geo_place.proofs.CommandTurns.{E, K, n}
use Rattle.geo_place.proofs.Taking.{Ends, IsTold, before_list, count, early_fail, early_held, early_pass, first, first_items, get_some}
use Rattle.geo_place.proofs.Taking.{late_fail, make_fail, make_pass, middle, second, second_items, some_point, taken_next, told_none}
use Rattle.geo_place.proofs.Taking.{told_one, write_fail}

module _ (run : Run) (problem : Problem) (ints : List ℤ) (h : IsRun run problem ints) (k : ℕ) (c : Command) (at : slice_get run.program.commands k ≡ Some c)
    (old : Progress) (t : IsTaken run k old) (items : List Item) (end late : ℕ) (ends : Ends run problem ints h k c at old t items end late)
    (nodes : Store) (stored : nodes ≡ problem.steps.nodes) (line : ℕ) (counted : line ≡ suc k) where
  abbrev p : Source
  p = run.program

  abbrev Passed : List LineTurn → Type 0
  Passed ts = AllByRecursion (Succeeds p run.placed) ts

  abbrev past : ℕ
  past = next_point Two (n p h.formed k c at) c

  -- the items that are tested before the steps, and behind them
  abbrev pub front : List Item
  front = take (end - late - old.tested) (drop old.tested items)

  abbrev pub back : List Item
  back = take (end - (end - late)) (drop (end - late) items)

  middle_is : end - late ≡ middle run problem ints h k c at old t
  middle_is = let a = ends.end_same in let b = ends.late_same in omega (arith, a, b)

  front_items : map (item_form problem.steps.nodes) front ≡ map (condition_item Two p) (first run problem ints h k c at old t)
  front_items =
      ap (λ (i : ℕ). map (item_form problem.steps.nodes) (take (i - old.tested) (drop old.tested items))) middle_is
      ∙ ap (λ (is : List Item). map (item_form problem.steps.nodes) (take (middle run problem ints h k c at old t - old.tested) (drop old.tested is))) ends.same
      ∙ first_items run problem ints h k c at old t

  back_items : map (item_form problem.steps.nodes) back ≡ map (condition_item Two p) (second run problem ints h k c at old t)
  back_items =
      ap (λ (i : ℕ). map (item_form problem.steps.nodes) (take (end - i) (drop i items))) middle_is
      ∙ ap (λ (i : ℕ). map (item_form problem.steps.nodes) (take (i - middle run problem ints h k c at old t) (drop (middle run problem ints h k c at old t) items))) ends.end_same
      ∙ ap (λ (is : List Item). map (item_form problem.steps.nodes)
      (take (count run problem ints h k c at old t - middle run problem ints h k c at old t)
      (drop (middle run problem ints h k c at old t) is))) ends.same
      ∙ second_items run problem ints h k c at old t

  pub front_fails : (error : PlaceError) → FirstFails old.sketch nodes front old.tested error → Stops run (turns_of p) error
  front_fails error f =
      early_fail run problem ints h k c at old t front front_items error (subst (λ (ns : Store). FirstFails old.sketch ns front old.tested error) stored f)

  module _ (met : AllByRecursion (IsItemMet old.sketch nodes) front) (after : ℕ) (behind : after ≡ past) where
    abbrev pub steps : ℕ → List LineTurn
    steps i = at_line line (makes (length old.sketch.points.items) (take (i - length old.sketch.points.items) (drop (length old.sketch.points.items) (steps_of Two p))))

    abbrev N : ℕ
    N = length old.sketch.points.items

    met_here : AllByRecursion (IsItemMet old.sketch problem.steps.nodes) front
    met_here = subst (λ (ns : Store). AllByRecursion (IsItemMet old.sketch ns) front) stored met

    early_passed : Passed (E p h.formed k c at)
    early_passed = early_pass run problem ints h k c at old t front front_items met_here

    steps_are : steps after ≡ at_line (suc k) (makes N (take (past - N) (drop N (steps_of Two p))))
    steps_are = ap (λ (i : ℕ). steps i) behind ∙ ap (λ (l : ℕ). at_line l (makes N (take (past - N) (drop N (steps_of Two p))))) counted

    pub steps_fail : (error : PlaceError) → Stops run (steps after) error → Stops run (turns_of p) error
    steps_fail error s = make_fail run problem ints h k c at old t error early_passed (subst (λ (ts : List LineTurn). Stops run ts error) steps_are s)

    module _ (passed : Passed (steps after)) (new : Sketch) (s : IsSketchOf run new) (long : length new.points.items ≡ after) where
      pub made : length new.points.items ≡ past
      made = long ∙ behind

      steps_passed : Passed (K p h.formed k c at)
      steps_passed = make_pass run problem ints h k c at old t (subst (λ (ts : List LineTurn). Passed ts) steps_are passed)

      pub last_there : is_made kind.Point (named c) ≡ true → 1 ≤ length new.points.items
      last_there b = some_point run problem ints h k c at old t new s made b

      pub tell_fails : is_made kind.Point (named c) ≡ true → (error : PlaceError)
          → ((q : Position) → slice_get new.points.items (length new.points.items - 1) ≡ Some q → IsTripleStop q line error) → Stops run (turns_of p) error
      tell_fails b error f =
          let l = last_there b in
          let q = get_some new.points.items (length new.points.items - 1) (omega (arith, l)) in
          write_fail run problem ints h k c at old t new s made b q.0 q.1 error early_passed steps_passed (subst (λ (i : ℕ). IsTripleStop q.0 i error) counted (f q.0 q.1))

      -- the sketch is that of the steps, and the triples are told
      pub record TellsAll (sketch : Sketch) (triples : List Triple) : Type 0 where
        pub same : sketch ≡ new
        pub told : IsTold run problem ints h k c at old t new s made triples

      pub none_told : is_made kind.Point (named c) ≡ false → TellsAll new old.triples.items
      none_told b = record { same = refl; told = told_none run problem ints h k c at old t new s made b }

      pub one_told : is_made kind.Point (named c) ≡ true → (sketch : Sketch) → sketch ≡ new → (triples : List Triple)
          → ((q : Position) → slice_get new.points.items (length new.points.items - 1) ≡ Some q → TellsTriple old.triples.items triples q) → TellsAll sketch triples
      one_told b sketch e triples f =
          let l = last_there b in
          let q = get_some new.points.items (length new.points.items - 1) (omega (arith, l)) in
          record { same = e; told = told_one run problem ints h k c at old t new s made b q.0 q.1 triples (f q.0 q.1) }

      module _ (sketch : Sketch) (triples : List Triple) (all : TellsAll sketch triples) where
        held : AllByRecursion (λ f. IsPassed run f.condition) (before_list run problem ints h k c at old t ++ first run problem ints h k c at old t)
        held = early_held run problem ints h k c at old t front front_items met_here

        pub back_fails : (error : PlaceError) → FirstFails sketch nodes back (end - late) error → Stops run (turns_of p) error
        back_fails error f =
            late_fail run problem ints h k c at old t new s made back back_items held error early_passed steps_passed all.told.written
            (subst (λ (z : Sketch). FirstFails z problem.steps.nodes back (middle run problem ints h k c at old t) error) all.same
            (subst (λ (ns : Store). FirstFails sketch ns back (middle run problem ints h k c at old t) error) stored
            (subst (λ (i : ℕ). FirstFails sketch nodes back i error) middle_is f)))

        pub command_taken : AllByRecursion (IsItemMet sketch nodes) back → (progress : Progress) → progress.sketch ≡ sketch → progress.tested ≡ end
            → progress.triples.items ≡ triples → IsTaken run (k + 1) progress
        command_taken m progress a b d =
            let q : suc k ≡ k + 1 = omega arith in
            subst (λ (i : ℕ). IsTaken run i progress) q
            (taken_next run problem ints h k c at old t new s made back back_items held triples all.told early_passed steps_passed
            (subst (λ (z : Sketch). AllByRecursion (IsItemMet z problem.steps.nodes) back) all.same (subst (λ (ns : Store). AllByRecursion (IsItemMet sketch ns) back) stored m))
            progress (a ∙ all.same) (b ∙ ends.end_same) d)
