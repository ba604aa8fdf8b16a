-- Work that goes on with a line which is judged by its text.
use Rattle.std.proofs.Common.{◌≡◌, ℕ, Bool, true, false, Result, Ok, Err, Option, List, [], ◌∷◌, ◌++◌, refl, sym, ap, subst, ◌∙◌}
use Rattle.std.specs.Result.{IfOk}
use Rattle.geo_poly.specs.declared.variables.Var.{Var}
use Rattle.geo_poly.specs.Polynomials.{Summands}
use Rattle.geo_program.specs.Programs.{source_of}
use Rattle.geo_conditions.specs.declared.problem.Problem.{Problem}
use Rattle.proof_log.specs.declared.log.Line.{Line}
use Rattle.proof_log.specs.Writable.{CanWritePolynomial}
use Rattle.log_checker.specs.Checkers.{IsAtWork, IsDue, head_of, subject_of}
use Rattle.log_checker.specs.Inner.ByText.{StateGoesOn, StepGoesOn, WorkGoesOn}
use Rattle.log_checker.specs.Inner.Judged.{Leaves}
use Rattle.log_checker.specs.Inner.Lines.{IsNamedBy, IsReached, IsReady}
use Rattle.log_checker.specs.declared.due.Due.{Due}
use Rattle.log_checker.specs.declared.due.Due.TheVariants as due
use Rattle.log_checker.specs.declared.due.Task.{Task}
use Rattle.log_checker.specs.declared.evidence.Evidence.{Evidence}
use Rattle.log_checker.specs.declared.state.State.{State}
use Rattle.log_checker.specs.declared.state.State.TheVariants as state
use Rattle.log_checker.specs.declared.work.Work.{Work}
use Rattle.log_checker.proofs.ByText.{step_written}
use Rattle.log_checker.proofs.DueChains.{next_step_due}
use Rattle.log_checker.proofs.DueProblems.{step_named}
use Rattle.log_checker.proofs.JudgedNext.{work_next}

-- A CHAIN
module _ (w : Work) (reached : (steps : ℕ) × (good : List Line) × IsAtWork w steps good) where
  ready : IsReady w.problem
  ready = let at = reached.2 in record { version = w.version; program = source_of w.program; well_formed = at.well_formed; problem = at.problem }

  module _ (t : Task) (own : Option Var) (q : Summands) (is : w.due ≡ due.Step t own q) where
    step_reached : IsReached w.problem w.evidence (due.Step t own q)
    step_reached =
        let at = reached.2 in
        (head_of w, reached.0, reached.1, subst (λ d. IsDue (subject_of (head_of w) w.problem) reached.0 w.evidence d reached.1) is at.is_due)

    pub chain_named : IsNamedBy w.problem.steps q
    chain_named = step_named w.problem ready w.evidence t own q step_reached

    pub chain_written : CanWritePolynomial q
    chain_written = step_written w.problem ready w.evidence t own q step_reached

-- the work behind a line of the chain
abbrev behind : Work → Evidence → Due → Work
behind w e d = record w { evidence = e; due = d }

chain_goes_on : {E : Type 0} (w : Work) (t : Task) (own : Option Var) (q : Summands) (e : Evidence) (r : Summands) (text : List ℕ) (result : Result Bool E)
    → w.due ≡ due.Step t own q → IfOk result (StepGoesOn w.problem.steps text w.evidence q e r)
    → IfOk result (WorkGoesOn w text (behind w e (due.Step t own r)))
chain_goes_on w t own q e r text (Ok true) is (kept, h) = (
  h.line,
  h.writable,
  h.spelt,
  record {
    version = refl;
    program = refl;
    problem = refl;
    goes = λ steps good at.
        let s = subject_of (head_of w) w.problem in
        let before = subst (λ d. IsDue s steps w.evidence d good) is at.is_due in
        let leads = h.is_step.leads in
        let next = next_step_due s steps good w.evidence.known w.evidence.ends w.evidence.budget.left e.budget.left t own q r h.is_step.step before leads in
        record {
          well_formed = at.well_formed;
          problem = at.problem;
          is_due =
              subst (λ (x : Evidence). IsDue s steps x (due.Step t own r) (good ++ h.line ∷ [])) (sym kept)
              (subst (λ (l : Line). IsDue s steps (record w.evidence { budget = e.budget }) (due.Step t own r) (good ++ l ∷ [])) (sym h.is_step.is) next);
        };
  },
)
chain_goes_on w t own q e r text (Ok false) is (kept, same) =
    ap (λ (p : Summands). behind w e (due.Step t own p)) same ∙ ap (λ (x : Evidence). behind w x (due.Step t own q)) kept
    ∙ ap (λ (d : Due). behind w w.evidence d) (sym is)
chain_goes_on w t own q e r text (Err x) is h = tt

-- the same, where the problem is handed back
pub chain_goes_on_with : {E : Type 0} (w : Work) (problem : Problem) (t : Task) (own : Option Var) (q : Summands) (e : Evidence) (r : Summands) (text : List ℕ)
    (result : Result Bool E) → w.due ≡ due.Step t own q → problem ≡ w.problem → IfOk result (StepGoesOn w.problem.steps text w.evidence q e r)
    → IfOk result (WorkGoesOn w text (record w { problem = problem; evidence = e; due = due.Step t own r }))
chain_goes_on_with w problem t own q e r text result is same h =
    subst (λ (p : Problem). IfOk result (WorkGoesOn w text (record w { problem = p; evidence = e; due = due.Step t own r }))) (sym same)
    (chain_goes_on w t own q e r text result is h)

-- A STATE
pub state_goes_on : {E : Type 0} (s : State) (w w' : Work) (text : List ℕ) (result : Result Bool E) → s ≡ state.Work w → IfOk result (WorkGoesOn w text w')
    → IfOk result (StateGoesOn s text (state.Work w'))
state_goes_on s w w' text (Ok true) is (line, writable, spelt, goes) = λ steps lines leaves. record {
  line = line;
  writable = writable;
  text = spelt;
  left = work_next steps w w' lines line (subst (Leaves steps lines) is leaves).left goes;
}
state_goes_on s w w' text (Ok false) is same = ap (λ (v : Work). state.Work v) same ∙ sym is
state_goes_on s w w' text (Err x) is h = tt
