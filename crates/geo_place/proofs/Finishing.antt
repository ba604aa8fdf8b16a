-- How an evaluation ends behind all commands.
use Rattle.std.proofs.Common.{◌≡◌, ℕ, suc, ◌≤◌, Bool, ℤ, List, [], ◌++◌, length, map, sym, ◌∙◌, ap, subst, append-nil, arith}
use Rattle.std.specs.Prelude.{Result, take, drop}
use Rattle.std.specs.List.{AllByRecursion}
use Rattle.std.proofs.lemmas.List.{drop-map, drop_at, length-take-le, take_all}
use Rattle.geo_points.specs.Placements.{SamePlacement}
use Rattle.geo_terms.specs.Stores.{Store}
use Rattle.geo_program.specs.WellFormed.{Source}
use Rattle.geo_lowering.specs.Counting.{numbers_had, points_from, points_named, points_past}
use Rattle.geo_lowering.specs.Lowering.{steps_of}
use Rattle.geo_lowering.proofs.ConditionValues.{each_append}
use Rattle.geo_lowering.proofs.Fixed.{past_all}
use Rattle.geo_lowering.proofs.FormLaws.{past}
use Rattle.geo_lowering.specs.declared.version.Version.TheVariants.{Two}
use Rattle.geo_conditions.specs.declared.items.Item.{Item}
use Rattle.geo_conditions.specs.declared.problem.Problem.{Problem}
use Rattle.geo_conditions.specs.Lists.{AreStoredGoals, Found, IsListed, ItemForm, condition_item, found_from, item_form}
use Rattle.geo_conditions.specs.Statements.{statement_conditions}
use Rattle.geo_place.specs.declared.errors.PlaceError.{PlaceError}
use Rattle.geo_place.specs.declared.evaluation.Progress.{Progress}
use Rattle.geo_place.specs.Evaluation.{Succeeds, at_line, test, turns_from}
use Rattle.geo_place.specs.Inner.{EndsWith, FirstFails, GoalsCome, IsItemMet, IsRun, IsTaken, Run, placement_of}
use Rattle.geo_place.proofs.EndTurns.{GoalsEnd, Stated, ends_with, goals_end, stated_here, stated_stop, stated_terms}
use Rattle.geo_place.proofs.TestTurns.{tests_pass, tests_stop}

module _ (run : Run) (problem : Problem) (ints : List ℤ) (h : IsRun run problem ints) (progress : Progress) (t : IsTaken run (length run.program.commands) progress) where
  abbrev p : Source
  p = run.program

  abbrev nodes : Store
  nodes = problem.steps.nodes

  all_commands : take (length p.commands) p.commands ≡ p.commands
  all_commands = take_all (length p.commands) p.commands (let q : length p.commands ≤ length p.commands = omega arith in q)

  abbrev N : ℕ
  N = past 0 (steps_of Two p)

  abbrev M : ℕ
  M = numbers_had p.commands

  points_long : length progress.sketch.points.items ≡ N
  points_long = t.points ∙ ap (λ cs. points_past Two 0 cs) all_commands ∙ sym (past_all Two p p.commands 0 0)

  same : SamePlacement N M (placement_of progress.sketch) run.placed
  same =
      subst (λ (i : ℕ). SamePlacement i M (placement_of progress.sketch) run.placed) points_long
      (subst (λ (j : ℕ). SamePlacement (length progress.sketch.points.items) j (placement_of progress.sketch) run.placed) t.sketch.numbers t.sketch.same)

  commands_pass : AllByRecursion (Succeeds p run.placed) (turns_from p 1 0 0 0 p.commands)
  commands_pass = subst (λ cs. AllByRecursion (Succeeds p run.placed) (turns_from p 1 0 0 0 cs)) all_commands t.passed

  old : List Found
  old = take progress.tested run.conditions

  stated : Stated p h.formed run.values run.placed h.reckoned run.conditions (take progress.tested run.conditions)
  stated =
      stated_here p h.formed run.values run.placed h.reckoned run.conditions (take progress.tested run.conditions) h.listed
      (subst (λ cs. IsListed (λ f. f.condition) [] (found_from p.nodes 0 1 cs) (take progress.tested run.conditions)) all_commands t.listed)

  rest_items : map (item_form nodes) (drop progress.tested problem.conditions) ≡ map (condition_item Two p) stated.more
  rest_items =
      sym (drop-map (item_form nodes) progress.tested problem.conditions) ∙ ap (λ (fs : List ItemForm). drop progress.tested fs) h.written
      ∙ drop-map (condition_item Two p) progress.tested run.conditions
      ∙ ap (λ (fs : List Found). map (condition_item Two p) fs)
      (ap (λ (fs : List Found). drop progress.tested fs) stated.whole
      ∙ drop_at (take progress.tested run.conditions) stated.more progress.tested
      (length-take-le progress.tested run.conditions t.tested))

  module _ (items : List Item) (e : items ≡ drop progress.tested problem.conditions) where
    these : map (item_form nodes) items ≡ map (condition_item Two p) stated.more
    these = ap (λ (is : List Item). map (item_form nodes) is) e ∙ rest_items

    pub stated_pass : AllByRecursion (IsItemMet progress.sketch nodes) items
        → AllByRecursion (Succeeds p run.placed) (turns_from p 1 0 0 0 p.commands ++ at_line (suc (length p.commands)) (map test (statement_conditions p.nodes p.statement)))
    stated_pass m =
        each_append (Succeeds p run.placed) (turns_from p 1 0 0 0 p.commands) (at_line (suc (length p.commands)) (map test (statement_conditions p.nodes p.statement))) commands_pass
        (tests_pass run progress.sketch nodes N M same (suc (length p.commands)) (statement_conditions p.nodes p.statement) (take progress.tested run.conditions) stated.more stated.listed t.held
        (stated_terms p h.formed run.values run.placed h.reckoned run.conditions) items these m)

    pub stated_fail : (error : PlaceError) → FirstFails progress.sketch nodes items progress.tested error → EndsWith run error
    stated_fail error f =
        ends_with run error
        (stated_stop p h.formed run.values run.placed h.reckoned run.conditions error commands_pass
        (tests_stop run progress.sketch nodes N M same (suc (length p.commands)) (statement_conditions p.nodes p.statement) (take progress.tested run.conditions) stated.more stated.listed t.held
        (stated_terms p h.formed run.values run.placed h.reckoned run.conditions) items these [] (stated.whole ∙ sym (append-nil (take progress.tested run.conditions ++ stated.more))) h.listed error
        (subst (λ (i : ℕ). FirstFails progress.sketch nodes items i error) (sym (length-take-le progress.tested run.conditions t.tested)) f)))

    pub all_end : AreStoredGoals Two p nodes problem.goals → AllByRecursion (IsItemMet progress.sketch nodes) items
        → (result : Result Bool PlaceError) → GoalsCome progress.sketch nodes problem.goals result
        → GoalsEnd p h.formed run.values run.placed h.reckoned run.conditions result
    all_end g m result c =
        goals_end p h.formed run.values run.placed h.reckoned run.conditions progress.sketch nodes same problem.goals g.are.goals g.are.listed g.are.written (stated_pass m) result c

  pub told_all : length progress.triples.items ≡ points_named p.commands
  told_all = t.told ∙ ap (λ cs. points_from 0 cs) all_commands
