-- What is due of the problem of a program names its construction alone.
use Rattle.std.proofs.Common.{◌≡◌, ℕ, suc, ◌-◌, ◌<◌, List, [], ◌∷◌, ◌++◌, Option, map, length, refl, sym, ap, subst}
use Rattle.std.proofs.lemmas.List.Elements.{recursion_from_All}
use Rattle.geo_poly.specs.declared.variables.Var.{Var}
use Rattle.geo_poly.specs.Polynomials.{Summands}
use Rattle.geo_terms.specs.Constructions.{IsConstruction}
use Rattle.geo_terms.specs.TermBounds.{IsTermBelow}
use Rattle.geo_program.specs.WellFormed.{Source}
use Rattle.geo_lowering.specs.declared.version.Version.{Version}
use Rattle.geo_conditions.specs.declared.items.Item as stored
use Rattle.geo_conditions.specs.declared.problem.Problem.{Problem}
use Rattle.geo_conditions.specs.Lists.{IsProblem, item_form}
use Rattle.geo_conditions.specs.Problems.{form_of_problem}
use Rattle.proof_log.specs.declared.log.Line.{Line}
use Rattle.proof_log.specs.declared.log.Line.TheVariants.{Condition as ConditionLine, Goal as GoalLine}
use Rattle.elim_apply.specs.LemmaTable.{lemma_table}
use Rattle.elim_apply.proofs.MoveRows.{lemma_table_sound}
use Rattle.geo_logs.specs.Logs.{Item, Subject}
use Rattle.geo_logs.specs.Starts.{start_charge, start_of}
use Rattle.geo_logs.proofs.ChainValues.{chain_named}
use Rattle.geo_logs.proofs.TermVariables.{term_sound}
use Rattle.log_checker.specs.Checkers.{Head, IsDue, IsTaskDue, header_of, subject_of}
use Rattle.log_checker.specs.Inner.Lines.{IsNamedBy, IsReached, IsReady, LeadsOn}
use Rattle.log_checker.specs.Subjects.{IsSubjectOf, log_item, source_lines, version_number}
use Rattle.log_checker.specs.declared.due.Due.TheVariants as due
use Rattle.log_checker.specs.declared.due.Task.{Task}
use Rattle.log_checker.specs.declared.due.Task.TheVariants as task
use Rattle.log_checker.specs.declared.evidence.Evidence.{Evidence}
use Rattle.log_checker.proofs.DueChains.{start_due, worked_there}
use Rattle.log_checker.proofs.Places.{At, at_map, each_at}
use Rattle.log_checker.proofs.Realised.{conditions_named, goals_named}
use Rattle.log_checker.proofs.Verdicts.{Parts, parts_of, valid}

pub map_twice : {A B D : Type 0} (f : B → D) (g : A → B) (xs : List A) → map (λ x. f (g x)) xs ≡ map f (map g xs)
map_twice f g [] = refl
map_twice f g (x ∷ xs) = ap (λ ys. f (g x) ∷ ys) (map_twice f g xs)

-- the problem of a program gives the subject of its logs
pub about : (version : Version) (p : Source) (q : Problem) → IsProblem version p (form_of_problem q) q.conditions q.goals → IsSubjectOf p (subject_of (version_number version, source_lines p) q)
about version p q h = record {
  version = version;
  form = form_of_problem q;
  conditions = map (item_form q.steps.nodes) q.conditions;
  goals = map (item_form q.steps.nodes) q.goals;
  lowered = h.lowered;
  listed_conditions = h.conditions.are;
  listed_goals = h.goals.are;
  same_version = refl;
  same_program = refl;
  same_construction = refl;
  same_conditions = map_twice log_item (item_form q.steps.nodes) q.conditions;
  same_goals = map_twice log_item (item_form q.steps.nodes) q.goals;
}

module _ (q : Problem) (ready : IsReady q) where
  abbrev p : Source
  p = ready.program

  abbrev subject : Subject
  subject = subject_of (version_number ready.version, source_lines p) q

  parts : Parts p subject
  parts = parts_of p subject (about ready.version p q ready.problem)

  pub construction_valid : IsConstruction q.steps
  construction_valid = valid p subject ready.well_formed parts

  pub task_below : (head : Head) (steps : ℕ) (good : List Line) (known : List Var) (listed : List Summands) (left : ℕ) (t : Task) (item : Item)
      → IsTaskDue (subject_of head q) steps good known listed left t item → IsTermBelow (length q.steps.steps) q.steps.params item.term
  task_below head steps good known listed left (task.Condition k) item (index, e, at, d) = (conditions_named p subject ready.well_formed parts index item at).0
  task_below head steps good known listed left (task.Goal k) item (index, e, at, d) = (goals_named p subject ready.well_formed parts index item at).0

  -- the polynomial of a chain in work
  pub step_named : (e : Evidence) (t : Task) (own : Option Var) (r : Summands) → IsReached q e (due.Step t own r) → IsNamedBy q.steps r
  step_named e t own r (head, steps, good, d) =
      let s = subject_of head q in
      let term = d.item.term in
      let w = worked_there s steps (header_of s steps t d.item) e.known d.first term d.lines e.budget.left r d.open_chain in
      chain_named lemma_table q.steps (lemma_table_sound q.steps construction_valid) e.known (length q.steps.steps) (d.first - start_charge term) (start_of term) w.front e.budget.left r
      ((term_sound q.steps term).named (length q.steps.steps) (task_below head steps d.before e.known e.ends d.first t d.item d.due)) w.leads

  condition_stored : (index : ℕ) (item : stored.Item) → At q.conditions index item → item.term.0 < length q.steps.nodes
  condition_stored index item at =
      let IsStored : stored.Item → Type 0 = λ i. i.term.0 < length q.steps.nodes in
      each_at IsStored q.conditions index item (recursion_from_All IsStored q.conditions ready.problem.conditions.stored) at

  goal_stored : (index : ℕ) (item : stored.Item) → At q.goals index item → item.term.0 < length q.steps.nodes
  goal_stored index item at =
      let IsStored : stored.Item → Type 0 = λ i. i.term.0 < length q.steps.nodes in
      each_at IsStored q.goals index item (recursion_from_All IsStored q.goals ready.problem.goals.stored) at

  -- a header leads to the start of its chain
  pub condition_goes : (e : Evidence) (index : ℕ) (item : stored.Item) (line : Line) (t : Task) → At q.conditions index item → line ≡ ConditionLine (suc index) item.text
      → t ≡ task.Condition (suc index) → LeadsOn q e (due.Condition index) line e (due.Start t item.term)
  condition_goes e index item line t at is same head steps good d =
      let s = subject_of head q in
      let log : stored.Item → Item = λ i. log_item (item_form q.steps.nodes i) in
      subst (λ u. IsDue s steps e (due.Start u item.term) (good ++ line ∷ [])) (sym same)
      (subst (λ l. IsDue s steps e (due.Start (task.Condition (suc index)) item.term) (good ++ l ∷ [])) (sym is) (
        start_due s steps good e.known e.ends e.budget.left (task.Condition (suc index)) (log item) (index, refl, at_map log q.conditions index item at, d.1),
        condition_stored index item at,
        refl,
      ))

  pub goal_goes : (e : Evidence) (index : ℕ) (item : stored.Item) (line : Line) (t : Task) → At q.goals index item → line ≡ GoalLine (suc index) item.text
      → t ≡ task.Goal (suc index) → LeadsOn q e (due.Goal index) line e (due.Start t item.term)
  goal_goes e index item line t at is same head steps good d =
      let s = subject_of head q in
      let log : stored.Item → Item = λ i. log_item (item_form q.steps.nodes i) in
      subst (λ u. IsDue s steps e (due.Start u item.term) (good ++ line ∷ [])) (sym same)
      (subst (λ l. IsDue s steps e (due.Start (task.Goal (suc index)) item.term) (good ++ l ∷ [])) (sym is) (
        start_due s steps good e.known e.ends e.budget.left (task.Goal (suc index)) (log item) (index, refl, at_map log q.goals index item at, d.1),
        goal_stored index item at,
        refl,
      ))
