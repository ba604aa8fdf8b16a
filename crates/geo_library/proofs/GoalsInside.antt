-- The goals that are asked name points and numbers of the citing program's construction alone.
use Rattle.std.proofs.Common.{◌≡◌, ℕ, suc, ◌+◌, ◌<◌, List, [], ◌∷◌, ◌++◌, length, map, refl, sym, ◌∙◌, ap, subst, arith}
use Rattle.std.specs.List.{AllByRecursion}
use Rattle.std.proofs.lemmas.List.{length-map}
use Rattle.geo_terms.specs.Stores.{Store, tree_of}
use Rattle.geo_terms.specs.TermBounds.{IsTermBelow}
use Rattle.geo_terms.specs.Trees.{Tree, integer_leaf, parameter_leaf, area_leaf, pythagoras_leaf, ratio_leaf, negation, addition, subtraction, multiplication, division}
use Rattle.geo_program.specs.declared.commands.Command.{Command}
use Rattle.geo_program.specs.declared.names.NameKind.TheVariants as kind
use Rattle.geo_program.specs.WellFormed.{IsWellFormed, Source}
use Rattle.geo_lowering.specs.Counting.{counted, named, numbers_from, points_from, points_past}
use Rattle.geo_lowering.specs.Lowering.{IsLowered, LoweredForm, layout_of, renamed, steps_of}
use Rattle.geo_lowering.specs.StepForms.{StepForm, step_form}
use Rattle.geo_lowering.specs.declared.version.Version.TheVariants.{Two}
use Rattle.geo_lowering.proofs.Bounds.{Bounds, no_bounds}
use Rattle.geo_lowering.proofs.ConditionValues.{each_append}
use Rattle.geo_lowering.proofs.Exists.{lines_past, params_past}
use Rattle.geo_lowering.proofs.Fixed.{bounds_all, past_all}
use Rattle.geo_lowering.proofs.FormLaws.{past}
use Rattle.geo_lowering.proofs.Laying.{laid_program, named_program}
use Rattle.geo_lowering.proofs.Values.{IsOver, over_renamed}
use Rattle.geo_library.specs.CitedGoals.{command_goals}
use Rattle.geo_library.specs.declared.asking.AskedGoal.{AskedGoal}
use Rattle.geo_library.specs.Inner.Asking.{AreAsked, GoalForm, asked_form}
use Rattle.geo_library.specs.Inner.Cases.{image_forms, image_forms_from}
use Rattle.geo_library.specs.Renamings.{IsRenaming, Renaming, image, places_in}
use Rattle.geo_library.proofs.Given.{maps_into}
use Rattle.geo_library.proofs.ImagesPlaced.{AreGoalsOver, goals_named}

below_over : (n m : ℕ) (e : Tree) → IsOver n m e → IsTermBelow n m e
below_over n m (integer_leaf z) h = tt
below_over n m (parameter_leaf t) h = h
below_over n m (area_leaf a b c) h = h
below_over n m (pythagoras_leaf a b c) h = h
below_over n m (ratio_leaf a b c d) h = h
below_over n m (negation e) h = below_over n m e h
below_over n m (addition e f) h = (below_over n m e h.0, below_over n m f h.1)
below_over n m (subtraction e f) h = (below_over n m e h.0, below_over n m f h.1)
below_over n m (multiplication e f) h = (below_over n m e h.0, below_over n m f h.1)
below_over n m (division e f) h = (below_over n m e h.0, below_over n m f h.1)

past_length : (n : ℕ) (fs : List StepForm) → past n fs ≡ n + length fs
past_length n [] = omega arith
past_length n (f ∷ fs) = let e = past_length (suc n) fs in omega (arith, e)

module _ (p q : Source) (texts : List (List ℕ)) (r : Renaming) (wp : IsWellFormed p) (wq : IsWellFormed q)
    (ren : IsRenaming p.names q.names texts r) (form : LoweredForm) (low : IsLowered Two q form) where
  abbrev X : ℕ
  X = points_from 0 p.commands

  abbrev Y : ℕ
  Y = params_past 0 p.commands

  steps_counted : length form.construction.steps ≡ points_past Two 0 q.commands
  steps_counted =
      sym (length-map form.construction.steps (step_form form.construction.nodes)) ∙ ap length low.steps
      ∙ (let e = past_length 0 (steps_of Two q) in omega (arith, e)) ∙ past_all Two q q.commands 0 0

  bounds : Bounds (layout_of Two q.commands) (points_from 0 q.commands) (params_past 0 q.commands) (lines_past 0 q.commands) (points_past Two 0 q.commands) (numbers_from 0 q.commands)
  bounds = bounds_all Two q q.commands 0 0 0 0 0 (no_bounds (layout_of Two q.commands)) (named_program q wq) (laid_program Two q.commands)

  abbrev IsInside : Tree → Type 0
  IsInside e = IsTermBelow (length form.construction.steps) form.construction.params e

  pub image_inside : (e : Tree) → IsOver X Y e → IsInside (renamed (layout_of Two q.commands) (image r e))
  image_inside e h =
      let into = maps_into p q texts r wp wq ren in
      let made = renamed (layout_of Two q.commands) (image r e) in
      subst (λ n. IsTermBelow n form.construction.params made) (sym steps_counted)
      (subst (λ m. IsTermBelow (points_past Two 0 q.commands) m made) (sym low.numbers)
      (below_over (points_past Two 0 q.commands) (numbers_from 0 q.commands) made
      (over_renamed (layout_of Two q.commands) (points_from 0 q.commands) (params_past 0 q.commands) (points_past Two 0 q.commands) (numbers_from 0 q.commands) bounds.points bounds.params (image r e)
      (over_renamed (places_in r) X Y (points_from 0 q.commands) (params_past 0 q.commands) into.points into.params e h))))

  here_inside : (line : ℕ) (es : List Tree) → AllByRecursion (IsOver X Y) es → AllByRecursion (λ g. IsInside g.term) (image_forms q r line es)
  here_inside line [] h = tt
  here_inside line (e ∷ es) h = (image_inside e h.0, here_inside line es h.1)

  forms_inside : (x line : ℕ) (cs : List Command) → AreGoalsOver X Y p.nodes x cs → AllByRecursion (λ g. IsInside g.term) (image_forms_from q r p.nodes x line cs)
  forms_inside x line [] h = tt
  forms_inside x line (c ∷ cs) h =
      each_append (λ (g : GoalForm). IsInside g.term) (image_forms q r line (command_goals p.nodes (record { 0 = x }) c)) (image_forms_from q r p.nodes (counted kind.Point (named c) x) (suc line) cs)
      (here_inside line (command_goals p.nodes (record { 0 = x }) c) h.0) (forms_inside (counted kind.Point (named c) x) (suc line) cs h.1)

  unfolded : (nodes : Store) (asked : List AskedGoal) → AllByRecursion (λ g. IsInside g.term) (map (asked_form nodes) asked) → AllByRecursion (λ g. IsInside (tree_of nodes g.term)) asked
  unfolded nodes [] h = tt
  unfolded nodes (g ∷ gs) h = (h.0, unfolded nodes gs h.1)

  -- so do the goals that are asked of the images
  pub asked_inside : (nodes : Store) (asked : List AskedGoal) → AreAsked nodes asked (image_forms_from q r p.nodes 0 1 p.commands)
      → AllByRecursion (λ g. IsTermBelow (length form.construction.steps) form.construction.params (tree_of nodes g.term)) asked
  asked_inside nodes asked h =
      unfolded nodes asked
      (subst (λ (fs : List GoalForm). AllByRecursion (λ g. IsInside g.term) fs) (sym h.are)
      (forms_inside 0 1 p.commands (goals_named X Y p.nodes 0 0 0 p.commands refl refl (named_program p wp))))
