-- What is refused where this or that is due.
use Rattle.std.proofs.Common.{◌≡◌, ◌≢◌, ℕ, suc, ◌==◌, inl, inr, false, ℤ, Option, Some, List, refl, sym, subst, arith}
use Rattle.std.proofs.lemmas.Bool.Decides.{nat_tests}
use Rattle.geo_poly.specs.declared.variables.Var.{Var}
use Rattle.geo_poly.specs.Polynomials.{Summands}
use Rattle.geo_points.specs.declared.ids.TermId.{TermId}
use Rattle.geo_terms.specs.Stores.{tree_of}
use Rattle.geo_conditions.specs.declared.problem.Problem.{Problem}
use Rattle.geo_conditions.specs.declared.items.Item as stored
use Rattle.geo_conditions.specs.Lists.{item_form}
use Rattle.geo_logs.specs.Logs.{Item}
use Rattle.log_checker.specs.Subjects.{log_item}
use Rattle.log_checker.proofs.Places.{At, at_map}
use Rattle.proof_log.specs.declared.log.Line.{Line}
use Rattle.proof_log.specs.declared.log.Line.TheVariants.{Condition as ConditionLine, Goal as GoalLine, Start, End, Sample, Verdict as VerdictLine}
use Rattle.proof_log.specs.declared.log.Verdict.{Verdict}
use Rattle.elim_apply.specs.LemmaTable.{lemma_table}
use Rattle.geo_logs.specs.Chains.{IsEnd}
use Rattle.geo_logs.specs.Judging.{IsGoodSoFar, IsRefused, IsSampleRefused, Kind, Refusal, chain_kind, header_kind, inner_kind, kind_of, program_kind, sample_kind, start_kind, stop_kind, verdict_kind}
use Rattle.geo_logs.specs.Places.{Place, before_line, before_sample, before_start, in_chain}
use Rattle.log_checker.specs.Checkers.{Head, subject_of}
use Rattle.log_checker.specs.Inner.Lines.{IsRefusedAfter, RefusesAt, RefusesWhere, Tells}
use Rattle.log_checker.specs.declared.due.Due.TheVariants as due
use Rattle.log_checker.specs.declared.due.Task.{Task}
use Rattle.log_checker.specs.declared.due.Task.TheVariants as task
use Rattle.log_checker.specs.declared.evidence.Evidence.{Evidence}
use Rattle.log_checker.specs.declared.reasons.Reason.TheVariants as reason
use Rattle.log_checker.specs.declared.stops.Stop.{Stop}
use Rattle.log_checker.specs.declared.stops.Stop.TheVariants.{Rejected, TooLarge, Spent, NoMemory}
use Rattle.log_checker.proofs.DueChains.{header_stands, sample_stands, start_stands, step_stands}

-- a stop that is told in one way is told in another
pub tells_map : (P Q : Refusal → Type 0) → ((r : Refusal) → P r → Q r) → (stop : Stop) → Tells P stop → Tells Q stop
tells_map P Q f (Rejected r) h = f _ h
tells_map P Q f (TooLarge which) h = f _ h
tells_map P Q f Spent h = f _ h
tells_map P Q f NoMemory h = tt

-- KINDS
abbrev kind_number : Kind → ℕ
kind_number header_kind = 0
kind_number program_kind = 1
kind_number chain_kind = 2
kind_number start_kind = 3
kind_number inner_kind = 4
kind_number sample_kind = 5
kind_number verdict_kind = 6
kind_number stop_kind = 7

other_kind : (a b : Kind) → (kind_number a == kind_number b) ≡ false → a ≢ b
other_kind a b e same = let q : (kind_number a == kind_number a) ≡ false = subst (λ k. (kind_number a == kind_number k) ≡ false) (sym same) e in go (kind_number a) q
  where
    go : (n : ℕ) → (n == n) ≡ false → ⊥
    go n q = grind (arith, nat_tests)

pub no_start : (line : Line) → ((q : Summands) → line ≢ Start q) → kind_of line ≢ start_kind
no_start (Start q) h = absurd (h q refl)
no_start line h = other_kind (kind_of line) start_kind refl

pub no_sample : (line : Line) → ((values : List (Var × ℤ)) → line ≢ Sample values) → kind_of line ≢ sample_kind
no_sample (Sample values) h = absurd (h values refl)
no_sample line h = other_kind (kind_of line) sample_kind refl

pub no_verdict : (line : Line) → ((v : Verdict) → line ≢ VerdictLine v) → kind_of line ≢ verdict_kind
no_verdict (VerdictLine v) h = absurd (h v refl)
no_verdict line h = other_kind (kind_of line) verdict_kind refl

-- WHERE THIS IS DUE
module _ (q : Problem) (e : Evidence) where
  refused_there : (head : Head) (steps : ℕ) (good : List Line) (place : Place) → IsGoodSoFar lemma_table (subject_of head q) steps good place → (line : Line) (stop : Stop)
      → RefusesAt q.steps place line stop → Tells (IsRefusedAfter (subject_of head q) steps good (Some line)) stop
  refused_there head steps good place stands line stop h =
      tells_map (IsRefused lemma_table q.steps place (Some line)) (IsRefusedAfter (subject_of head q) steps good (Some line)) (λ r g. inl (place, stands, g)) stop h

  pub condition_refused : (index : ℕ) (item : stored.Item) (line : Line) (stop : Stop) → At q.conditions index item
      → RefusesAt q.steps (before_line (ConditionLine (suc index) item.text)) line stop → RefusesWhere q e (due.Condition index) line stop
  condition_refused index item line stop at h head steps good d =
      let log : stored.Item → Item = λ i. log_item (item_form q.steps.nodes i) in
      refused_there head steps good (before_line (ConditionLine (suc index) item.text))
      (header_stands (subject_of head q) steps good e.known e.ends e.budget.left (task.Condition (suc index)) (log item) (index, refl, at_map log q.conditions index item at, d.1)) line stop h

  pub goal_refused : (index : ℕ) (item : stored.Item) (line : Line) (stop : Stop) → At q.goals index item
      → RefusesAt q.steps (before_line (GoalLine (suc index) item.text)) line stop → RefusesWhere q e (due.Goal index) line stop
  goal_refused index item line stop at h head steps good d =
      let log : stored.Item → Item = λ i. log_item (item_form q.steps.nodes i) in
      refused_there head steps good (before_line (GoalLine (suc index) item.text))
      (header_stands (subject_of head q) steps good e.known e.ends e.budget.left (task.Goal (suc index)) (log item) (index, refl, at_map log q.goals index item at, d.1)) line stop h

  pub start_refused : (t : Task) (term : TermId) (line : Line) (stop : Stop) → RefusesAt q.steps (before_start e.budget.left (tree_of q.steps.nodes term)) line stop
      → RefusesWhere q e (due.Start t term) line stop
  start_refused t term line stop h head steps good d =
      refused_there head steps good (before_start e.budget.left d.0.item.term) (start_stands (subject_of head q) steps good e.known e.ends e.budget.left t d.0) line stop
      (subst (λ tree. RefusesAt q.steps (before_start e.budget.left tree) line stop) d.2 h)

  pub start_wrong_line : (t : Task) (term : TermId) (line : Line) → kind_of line ≢ start_kind → RefusesWhere q e (due.Start t term) line (Rejected reason.WrongLine)
  start_wrong_line t term line n = start_refused t term line (Rejected reason.WrongLine) (inl (n, refl))

  pub step_refused : (t : Task) (own : Option Var) (r : Summands) (line : Line) (stop : Stop) → RefusesAt q.steps (in_chain e.known e.budget.left r) line stop
      → RefusesWhere q e (due.Step t own r) line stop
  step_refused t own r line stop h head steps good d =
      refused_there head steps good (in_chain e.known e.budget.left r) (step_stands (subject_of head q) steps good e.known e.ends e.budget.left t own r d) line stop h

  pub step_not_ended : (t : Task) (own : Option Var) (r : Summands) → (IsEnd r → ⊥) → RefusesWhere q e (due.Step t own r) End (Rejected reason.NotEnded)
  step_not_ended t own r n = step_refused t own r End (Rejected reason.NotEnded) (inr (refl, (refl, n)))

  pub sample_refused : (v : Verdict) (line : Line) (stop : Stop) → RefusesAt q.steps (before_sample e.ends e.budget.left) line stop → RefusesWhere q e (due.Sample v) line stop
  sample_refused v line stop h head steps good d =
      refused_there head steps good (before_sample e.ends e.budget.left) (sample_stands (subject_of head q) steps good e.ends v e.budget.left d) line stop h

  pub sample_wrong : (v : Verdict) (values : List (Var × ℤ)) (stop : Stop) → Tells (IsSampleRefused q.steps e.ends e.budget.left values) stop
      → RefusesWhere q e (due.Sample v) (Sample values) stop
  sample_wrong v values stop h =
      sample_refused v (Sample values) stop
      (tells_map (IsSampleRefused q.steps e.ends e.budget.left values) (IsRefused lemma_table q.steps (before_sample e.ends e.budget.left) (Some (Sample values))) (λ r g. inr (refl, g)) stop h)

  pub sample_wrong_line : (v : Verdict) (line : Line) → kind_of line ≢ sample_kind → RefusesWhere q e (due.Sample v) line (Rejected reason.WrongLine)
  sample_wrong_line v line n = sample_refused v line (Rejected reason.WrongLine) (inl (n, refl))

  pub verdict_wrong_line : (v : Verdict) (line : Line) → kind_of line ≢ verdict_kind → RefusesWhere q e (due.Verdict v) line (Rejected reason.WrongLine)
  verdict_wrong_line v line n head steps good d = inl (before_line (VerdictLine v), d.stands, inl (n, refl))
