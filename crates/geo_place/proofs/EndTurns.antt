-- The end of an evaluation: the turns of the statement, and the end that a stop means.
use Rattle.std.proofs.Common.{◌≡◌, ℕ, suc, Bool, true, false, List, [], ◌∷◌, ◌++◌, length, map, pos, refl, sym, ◌∙◌, ap, subst, append_assoc, append-nil}
use Rattle.std.specs.Prelude.{Result, Ok, Err}
use Rattle.std.specs.List.{AllByRecursion}
use Rattle.std.proofs.lemmas.List.{map-append}
use Rattle.std.proofs.lemmas.List.Elements.{All-from_recursion}
use Rattle.ring_laws.specs.Fraction.{IsNonzero, Same, whole}
use Rattle.ring_laws.proofs.Fractions.{fractions}
use Rattle.geo_points.specs.Placements.{Placement, SamePlacement}
use Rattle.geo_points.proofs.Zeros.{not_same}
use Rattle.geo_terms.specs.Stores.{Store, tree_of}
use Rattle.geo_program.specs.declared.statements.Statement.{Statement}
use Rattle.geo_program.specs.WellFormed.{IsWellFormed, Source}
use Rattle.geo_lowering.specs.Conditions.{Condition}
use Rattle.geo_lowering.specs.Counting.{numbers_had}
use Rattle.geo_lowering.specs.Lowering.{layout_of, steps_of}
use Rattle.geo_lowering.proofs.ConditionValues.{each_append, each_back, each_front}
use Rattle.geo_lowering.proofs.FormLaws.{past}
use Rattle.geo_lowering.proofs.Values.{IsOver}
use Rattle.geo_lowering.specs.declared.version.Version.TheVariants.{Two}
use Rattle.geo_conditions.specs.declared.items.Item.{Item}
use Rattle.geo_conditions.specs.Lists.{AreConditions, AreGoals, Found, IsListed, ItemForm, found_at, found_from, goal_item, item_form}
use Rattle.geo_conditions.specs.Statements.{statement_conditions, statement_goals}
use Rattle.geo_conditions.specs.Terms.{condition_term, goal_term}
use Rattle.geo_conditions.specs.Truth.{ProgramValues}
use Rattle.geo_conditions.proofs.Listings.{all_hold, listed_once}
use Rattle.geo_place.specs.declared.errors.PlaceError.{PlaceError}
use Rattle.geo_place.specs.declared.errors.PlaceError.TheVariants.{NoMemory, TooLarge, Unmet}
use Rattle.geo_place.specs.declared.sketch.Sketch.{Sketch}
use Rattle.geo_place.specs.Evaluation.{ComesUp, EndsAs, IsReckoned, IsRight, TurnOverflows, LineTurn, Succeeds, Turn, at_line, judge, placed_all, test, too_large, turns_from, turns_of}
use Rattle.geo_place.specs.Formulas.{reckoned}
use Rattle.geo_place.specs.Inner.{EndsWith, GoalsCome, IsItemMet, IsItemNull, Run, StopsGoals, Stops, item_reckoned, placement_of}
use Rattle.geo_place.specs.Reckonings.{Overflows, number}
use Rattle.geo_place.proofs.ListParts.{Beside, FirstOf, beside, first_fresh, fresh_hold, head_of, listed_split, none_before, tail_of}
use Rattle.geo_place.proofs.MakeTurns.{stops_in}
use Rattle.geo_place.proofs.Once.{TurnOver, turns_over}
use Rattle.geo_place.proofs.Scopes.{judges, line_turns, tests}
use Rattle.geo_place.proofs.TestTurns.{refused_here, refused_there, same_there}

-- ENDS
pub ends_with : (run : Run) (e : PlaceError) → Stops run (turns_of run.program) e → EndsWith run e
ends_with run (Unmet k) s =
    let line = s.turn.line in
    let same : s.turn ≡ record { line = line; turn = test s.stops.0 } = ap (λ (t : Turn). record { line = line; turn = t }) s.stops.1 in (
      line,
      s.stops.0,
      (
        record {
          before = s.before;
          after = s.after;
          parts = s.parts ∙ ap (λ (t : LineTurn). s.before ++ t ∷ s.after) same;
          passed = All-from_recursion (Succeeds run.program run.placed) s.before s.passed;
        },
        subst (λ (t : Turn). TurnOverflows run.program run.placed t → ⊥) s.stops.1 s.stops.3,
        subst (λ (t : Turn). IsRight run.program run.placed t → ⊥) s.stops.1 s.stops.4,
      ),
      s.stops.2,
    )
ends_with run (TooLarge line) s = (
  s.turn.turn,
  record {
    before = s.before;
    after = s.after;
    parts = s.parts ∙ ap (λ (i : ℕ). s.before ++ record { line = i; turn = s.turn.turn } ∷ s.after) s.stops.0;
    passed = All-from_recursion (Succeeds run.program run.placed) s.before s.passed;
  },
  s.stops.1,
)
ends_with run NoMemory s = tt

-- THE STATEMENT
module _ (p : Source) (w : IsWellFormed p) (v : ProgramValues) (placed : Placement) (r : IsReckoned p v placed) (conditions : List Found) where
  abbrev run : Run
  run = record { program = p; values = v; placed = placed; conditions = conditions }

  abbrev N : ℕ
  N = past 0 (steps_of Two p)

  abbrev M : ℕ
  M = numbers_had p.commands

  abbrev last : ℕ
  last = suc (length p.commands)

  abbrev command_part : List LineTurn
  command_part = turns_from p 1 0 0 0 p.commands

  abbrev test_part : List LineTurn
  test_part = at_line last (map test (statement_conditions p.nodes p.statement))

  abbrev judge_part : List LineTurn
  judge_part = at_line last (map judge (statement_goals p.nodes p.statement))

  abbrev P : LineTurn → Type 0
  P t = Succeeds p placed t

  abbrev O : LineTurn → Type 0
  O t = TurnOver p w v placed r t.turn

  pub stated_terms : AllByRecursion (λ d. IsOver N M (condition_term (layout_of Two p.commands) d)) (statement_conditions p.nodes p.statement)
  stated_terms =
      tests O last (statement_conditions p.nodes p.statement)
      (line_turns O last (map test (statement_conditions p.nodes p.statement))
      (each_back O command_part test_part (each_front O (command_part ++ test_part) judge_part (turns_over p w v placed r))))

  goal_terms : AllByRecursion (λ g. IsOver N M (goal_term (layout_of Two p.commands) p.nodes g)) (statement_goals p.nodes p.statement)
  goal_terms =
      judges O last (statement_goals p.nodes p.statement)
      (line_turns O last (map judge (statement_goals p.nodes p.statement))
      (each_back O (command_part ++ test_part) judge_part (turns_over p w v placed r)))

  -- what is listed for the statement
  pub record Stated (old : List Found) : Type 0 where
    pub more : List Found
    pub whole : conditions ≡ old ++ more
    pub listed : IsListed (λ f. f.condition) old (found_at last (statement_conditions p.nodes p.statement)) (old ++ more)

  pub stated_here : (old : List Found) → AreConditions p conditions → IsListed (λ f. f.condition) [] (found_from p.nodes 0 1 p.commands) old → Stated old
  stated_here old h b =
      let key : Found → Condition = λ f. f.condition in
      let stated = found_at last (statement_conditions p.nodes p.statement) in
      let s = listed_split key (found_from p.nodes 0 1 p.commands) stated [] conditions h in
      let same : s.0 ≡ old = listed_once key (found_from p.nodes 0 1 p.commands) [] s.0 old s.1 b in
      let k = subst (λ fs. IsListed key fs stated conditions) same s.2 in
      let t = listed_split key stated [] old conditions (subst (λ fs. IsListed key old fs conditions) (sym (append-nil stated)) k) in
      record { more = t.0; whole = t.2; listed = t.1 }

  -- a stop among the statement's conditions
  pub stated_stop : (e : PlaceError) → AllByRecursion P command_part → Stops run test_part e → Stops run (turns_of p) e
  stated_stop e h s = stops_in run (turns_of p) command_part test_part judge_part e refl h s

  -- GOALS
  -- evaluation ends so
  abbrev pub GoalsEnd : Result Bool PlaceError → Type 0
  GoalsEnd (Ok holds) = EndsAs p placed (placed_all holds)
  GoalsEnd (Err e) = EndsWith run e

  module _ (sketch : Sketch) (nodes : Store) (g : SamePlacement N M (placement_of sketch) placed) where
    abbrev GoalOver : Statement → Type 0
    GoalOver s = IsOver N M (goal_term (layout_of Two p.commands) p.nodes s)

    term_is : (item : Item) (s : Statement) → item_form nodes item ≡ goal_item Two p s → tree_of nodes item.term ≡ goal_term (layout_of Two p.commands) p.nodes s
    term_is item s e = ap (λ (i : ItemForm). i.term) e

    -- the goal passes its turn
    abbrev Judged : Statement → Type 0
    Judged s = (TurnOverflows p placed (judge s) → ⊥) × IsRight p placed (judge s)

    null_there : (item : Item) (s : Statement) → item_form nodes item ≡ goal_item Two p s → GoalOver s → IsItemNull sketch nodes item → Judged s
    null_there item s e o h =
        let t = goal_term (layout_of Two p.commands) p.nodes s in
        let k = subst (λ u. (Overflows (reckoned (placement_of sketch) u) → ⊥) × Same (number (reckoned (placement_of sketch) u)) (whole (pos 0))) (term_is item s e) h in
        (λ x. k.0 (refused_here N M (placement_of sketch) placed g t o x), fractions.same_trans _ _ _ (fractions.same_sym _ _ (same_there N M (placement_of sketch) placed g t o)) k.1)

    nulls_there : (items : List Item) (ss : List Statement) → map (item_form nodes) items ≡ map (goal_item Two p) ss → AllByRecursion GoalOver ss
        → AllByRecursion (IsItemNull sketch nodes) items → AllByRecursion Judged ss
    nulls_there items [] e o h = tt
    nulls_there [] (s ∷ ss) e o h = absurd (none_before [] (goal_item Two p s) (map (goal_item Two p) ss) (sym e))
    nulls_there (item ∷ items) (s ∷ ss) e o h = (null_there item s (head_of e) o.0 h.0, nulls_there items ss (tail_of e) o.1 h.1)

    judge_pass : (ss : List Statement) → AllByRecursion Judged ss → AllByRecursion P (at_line last (map judge ss))
    judge_pass [] h = tt
    judge_pass (s ∷ ss) h = (h.0, judge_pass ss h.1)

    judge_turns : (ss ts : List Statement) → at_line last (map judge (ss ++ ts)) ≡ at_line last (map judge ss) ++ at_line last (map judge ts)
    judge_turns ss ts = ap (λ (us : List Turn). at_line last us) (map-append judge ss ts) ∙ map-append (λ (t : Turn). record { line = last; turn = t }) (map judge ss) (map judge ts)

    module _ (items : List Item) (goals : List Statement) (listed : AreGoals p goals) (e : map (item_form nodes) items ≡ map (goal_item Two p) goals)
        (passed : AllByRecursion P (command_part ++ test_part)) where
      over : AllByRecursion GoalOver goals
      over = fresh_hold (λ (s : Statement). s) GoalOver (statement_goals p.nodes p.statement) [] goals listed goal_terms

      pub all_null : AllByRecursion (IsItemNull sketch nodes) items → EndsAs p placed (placed_all true)
      all_null h =
          let each = all_hold (λ (s : Statement). s) Judged (statement_goals p.nodes p.statement) [] goals listed (nulls_there items goals e over h) in
          All-from_recursion P (turns_of p) (each_append P (command_part ++ test_part) judge_part passed (judge_pass (statement_goals p.nodes p.statement) each.1))

      -- the first goal that is not 0
      module _ (Q : Item → Type 0) (h : StopsGoals sketch nodes items Q) where
        abbrev at : Beside (item_form nodes) (goal_item Two p) h.before h.item goals
        at = beside (item_form nodes) (goal_item Two p) h.before h.item h.after goals (subst (λ is. map (item_form nodes) is ≡ map (goal_item Two p) goals) h.parts e)

        abbrev pub goal : Statement
        goal = at.item

        pub goal_item_is : item_form nodes h.item ≡ goal_item Two p goal
        goal_item_is = at.same

        goal_over : GoalOver goal
        goal_over = (each_back GoalOver at.before (at.item ∷ at.after) (subst (λ ss. AllByRecursion GoalOver ss) at.parts over)).0

        first : FirstOf (λ (s : Statement). s) Judged (statement_goals p.nodes p.statement) goal
        first =
            first_fresh (λ (s : Statement). s) Judged (statement_goals p.nodes p.statement) [] at.before at.item at.after
            (subst (λ ss. IsListed (λ (s : Statement). s) [] (statement_goals p.nodes p.statement) ss) at.parts listed) tt
            (nulls_there h.before at.before at.same_before (each_front GoalOver at.before (at.item ∷ at.after) (subst (λ ss. AllByRecursion GoalOver ss) at.parts over)) h.null)

        abbrev turn : LineTurn
        turn = record { line = last; turn = judge goal }

        parts : turns_of p ≡ (command_part ++ test_part ++ at_line last (map judge first.before)) ++ turn ∷ at_line last (map judge first.after)
        parts =
            ap (λ (ts : List LineTurn). command_part ++ test_part ++ ts) (ap (λ (ss : List Statement). at_line last (map judge ss)) first.parts ∙ judge_turns first.before (goal ∷ first.after))
            ∙ sym (append_assoc (command_part ++ test_part) (at_line last (map judge first.before)) (turn ∷ at_line last (map judge first.after)))

        comes_up : ComesUp p placed turn
        comes_up = record {
          before = command_part ++ test_part ++ at_line last (map judge first.before);
          after = at_line last (map judge first.after);
          parts = parts;
          passed = All-from_recursion P (command_part ++ test_part ++ at_line last (map judge first.before))
              (each_append P (command_part ++ test_part) (at_line last (map judge first.before)) passed (judge_pass first.before first.good));
        }

      pub not_null : StopsGoals sketch nodes items (IsItemMet sketch nodes) → EndsAs p placed (placed_all false)
      not_null h =
          let Q : Item → Type 0 = IsItemMet sketch nodes in
          let s = goal Q h in
          let t = goal_term (layout_of Two p.commands) p.nodes s in
          let k = subst (λ u. (Overflows (reckoned (placement_of sketch) u) → ⊥) × IsNonzero (number (reckoned (placement_of sketch) u))) (term_is h.item s (goal_item_is Q h)) h.stops in (
            last,
            s,
            (
              comes_up Q h,
              λ x. k.0 (refused_here N M (placement_of sketch) placed g t (goal_over Q h) x),
              λ x. not_same _ k.1 (fractions.same_trans _ _ _ (same_there N M (placement_of sketch) placed g t (goal_over Q h)) x),
            ),
          )

      pub goal_large : (line : ℕ) → StopsGoals sketch nodes items (λ i. (line ≡ i.line) × Overflows (item_reckoned sketch nodes i)) → EndsAs p placed (too_large line)
      goal_large line h =
          let Q : Item → Type 0 = λ i. (line ≡ i.line) × Overflows (item_reckoned sketch nodes i) in
          let s = goal Q h in
          let t = goal_term (layout_of Two p.commands) p.nodes s in
          let same : last ≡ line = sym (h.stops.0 ∙ ap (λ (i : ItemForm). i.line) (goal_item_is Q h)) in
          subst (λ (i : ℕ). EndsAs p placed (too_large i)) same (
            judge s,
            comes_up Q h,
            refused_there N M (placement_of sketch) placed g t (goal_over Q h) (subst (λ u. Overflows (reckoned (placement_of sketch) u)) (term_is h.item s (goal_item_is Q h)) h.stops.1),
          )

      -- what comes of the goals is the end
      pub goals_end : (result : Result Bool PlaceError) → GoalsCome sketch nodes items result → GoalsEnd result
      goals_end (Ok true) h = all_null h
      goals_end (Ok false) h = not_null h
      goals_end (Err (TooLarge line)) h = goal_large line h
      goals_end (Err (Unmet k)) h = absurd h
      goals_end (Err NoMemory) h = absurd h
