-- What the chains of the conditions came to serves all candidates.
use Rattle.std.proofs.Common.{◌≡◌, ℕ, ◌+◌, ◌-◌, ◌<◌, ◌^◌, Option, None, Some, List, [], ◌∷◌, ◌++◌, length, refl, sym, ◌∙◌, ap, subst, arith}
use Rattle.std.specs.Prelude.{IfNone, IfSome}
use Rattle.std.proofs.lemmas.Option.{IfSome_then}
use Rattle.elim_apply.specs.declared.kept_rows.KnownRows.{KnownRows}
use Rattle.elim_apply.specs.Kept.{AreKnownRows}
use Rattle.geo_conditions.specs.declared.problem.Problem.{Problem}
use Rattle.geo_conditions.specs.Lists.{IsProblem}
use Rattle.geo_conditions.specs.Problems.{form_of_problem}
use Rattle.geo_lowering.specs.declared.version.Version.TheVariants.{Two}
use Rattle.geo_logs.specs.Ends.{stop_line, text_length}
use Rattle.geo_logs.specs.Logs.{Item}
use Rattle.geo_logs.specs.Moves.{Stop, spent, too_large}
use Rattle.geo_poly.specs.declared.variables.Var.{Var}
use Rattle.geo_poly.specs.Polynomials.{Summands}
use Rattle.geo_program.specs.declared.statements.Statement.{Statement}
use Rattle.geo_program.specs.Relations.{with_statement}
use Rattle.geo_program.specs.WellFormed.{Source}
use Rattle.geo_terms.specs.Constructions.{Construction}
use Rattle.proof_log.specs.declared.log.Line.{Line}
use Rattle.proof_log.specs.Lines.{log_text}
use Rattle.geo_chain.specs.FirstLines.{program_lines}
use Rattle.geo_chain.specs.declared.errors.ProveError.{ProveError}
use Rattle.geo_chain.specs.declared.errors.ProveError.TheVariants as stopped
use Rattle.geo_chain.specs.declared.frame.Frame.TheVariants.{Full}
use Rattle.geo_chain.specs.declared.size.Size.{Size}
use Rattle.geo_chain.specs.declared.size.Size.TheVariants.{Written}
use Rattle.geo_chain.specs.Halting.{Halts, IsStopped, Passes}
use Rattle.geo_chain.specs.Parts.{Part, goals_part, items_of}
use Rattle.geo_chain.specs.Sizes.{HoldsText}
use Rattle.geo_chain.specs.Tasks.{conditions_before, conditions_from}
use Rattle.geo_chain.specs.Written.{State, Writes, first_state}
use Rattle.geo_chain.specs.declared.findings.Findings.{Findings}
use Rattle.geo_chain.proofs.Passing.{text_length-append}
use Rattle.geo_discover.specs.declared.figure.Figure.{Figure}
use Rattle.geo_discover.specs.Inner.Searching.{IsCandidate}
use Rattle.geo_discover.specs.Inner.Sharing.{AreMet, AreWorked, IsFigureOf, IsStoppedThere, from_conditions, stopped_by}
use Rattle.geo_discover.proofs.FixedAnswers.{front_count}
use Rattle.geo_discover.proofs.Fronts.{front_with}
use Rattle.geo_discover.proofs.Judging.{held_is}
use Rattle.geo_discover.proofs.OwnLogs.{subject_with}

module _ (problem : Problem) (steps : ℕ) (known : List Var) (ends : List Summands) (no_known : known ≡ []) (no_ends : ends ≡ []) where
  abbrev c : Construction
  c = problem.steps

  abbrev conditions : List Item
  conditions = items_of problem.steps.nodes problem.conditions

  -- nothing is known before them
  pub from_nothing : (R : Part → Type 0) (goals : List Item)
      → R (conditions_before Full c problem.steps.nodes problem.conditions goals 0 known ends steps)
      → R (from_conditions c conditions steps goals)
  from_nothing R goals h =
      subst (λ ks. R (conditions_before Full c problem.steps.nodes problem.conditions goals 0 ks [] steps)) no_known
      (subst (λ ls. R (conditions_before Full c problem.steps.nodes problem.conditions goals 0 known ls steps)) no_ends h)

  pub to_nothing : (R : Part → Type 0) → R (conditions_from Full problem 0 [] [] steps) → R (conditions_from Full problem 0 known ends steps)
  to_nothing R h =
      subst (λ ks. R (conditions_from Full problem 0 ks ends steps)) (sym no_known)
      (subst (λ ls. R (conditions_from Full problem 0 [] ls steps)) (sym no_ends) h)

  -- what was written into an empty sink
  module _ (s t : State) (text : List ℕ) (bytes : ℕ) (size : s.size ≡ Written bytes) (none : s.held ≡ Some []) (some : t.held ≡ Some text) where
    text_of : (written : List ℕ) → HoldsText s.size s.held written t.held → text ≡ written
    text_of written h =
        held_is text written (subst (λ x. HoldsText (Written bytes) (Some []) written x) some
        (subst (λ x. HoldsText (Written bytes) x written t.held) none (subst (λ (z : Size). HoldsText z s.held written t.held) size h)))

    -- all are met
    pub met_shared : (known' : List Var) (ends' : List Summands) (left : ℕ) (goals : List Item)
        → Passes (conditions_before Full c problem.steps.nodes problem.conditions goals 0 known ends steps)
        (goals_part Full c known' ends' 1 left goals) s t
        → AreMet c conditions steps known' ends' text (t.lines - s.lines) left goals
    met_shared known' ends' left goals h =
        let own = from_nothing (λ part. Passes part (goals_part Full c known' ends' 1 left goals) s t) goals h in
        record {
          lines = own.lines;
          continues = own.continues;
          text_is = text_of (log_text own.lines) own.written.written;
          counted = let n = own.written.counted in omega (arith, n);
        }

    -- or a stop is due
    stop_shared : (stop : Stop) (n : ℕ) (goals : List Item) → IsStopped Full c (from_conditions c conditions steps goals) s t stop n
        → IsStoppedThere c conditions steps s.lines (length text) stop n goals
    stop_shared stop n goals h = record {
      lines = h.lines;
      place = h.place;
      begun = h.begun;
      next = h.next;
      last = h.last;
      short =
          let all : length text ≡ text_length (h.lines ++ stop_line n stop ∷ []) = ap length (text_of (log_text (h.lines ++ stop_line n stop ∷ []))
          h.written) in
          let sum : text_length (h.lines ++ stop_line n stop ∷ []) ≡ text_length h.lines + text_length (stop_line n stop ∷ []) = text_length-append
          h.lines (stop_line n stop ∷ []) in
          omega (arith, all, sum);
    }

    pub halt_shared : (e : ProveError) (known' : List Var) (ends' : List Summands)
        → ((goals : List Item) → Halts Full c (conditions_before Full c problem.steps.nodes problem.conditions goals 0 known ends steps) s t e)
        → AreWorked c conditions steps s.lines known' ends' (stopped_by e (length text))
    halt_shared (stopped.Spent n) known' ends' h =
        λ goals. stop_shared spent n goals
        (from_nothing (λ part. IsStopped Full c part s t spent n) goals (h goals))
    halt_shared (stopped.TooLarge n which) known' ends' h =
        λ goals. stop_shared (too_large which) n goals
        (from_nothing (λ part. IsStopped Full c part s t (too_large which) n) goals (h goals))
    halt_shared stopped.TooLong known' ends' h = tt
    halt_shared stopped.WriteFault known' ends' h = tt
    halt_shared stopped.NoMemory known' ends' h = tt

-- there is none
pub at_none_is : {A : Type 0} (P : Type 0) (o : Option A) → o ≡ None → IfNone o P → P
at_none_is P o e h = let Q : Option _ → Type 0 = λ q. IfNone q P in subst Q e h

-- THE FIGURE
-- the lines before the chains
pub lines_before : (q : Source) (c : Construction) (xs ys : List Item) (s t : State) → s.lines ≡ 0 → Writes (program_lines q) s t
    → t.lines ≡ length q.commands + 2
lines_before q c xs ys s t none h =
    let n = h.counted in
    let k : length (program_lines q) ≡ length q.commands + 2 = front_count q (subject_with q c xs ys) refl in
    omega (arith, n, k, none)

-- a log is begun in an empty sink
pub begun_new : (xs : List Line) (lines : ℕ) (size : Size) (held : List ℕ) (t : State) → lines ≡ 0 → size ≡ Written 0 → held ≡ []
    → Writes xs (record { lines = lines; size = size; held = Some held; faults = 0 }) t → Writes xs (first_state (Some []) 0) t
begun_new xs lines size held t a b d h =
    subst (λ (s : State). Writes xs s t) (λ i. record { lines = a i; size = b i; held = Some (d i); faults = 0 }) h

pub figure_is : (p : Source) (s : Statement) (q : Source) (figure : Figure) → q ≡ with_statement p s → figure.steps < 2 ^ 127 → IsCandidate p s
    → IsProblem Two q (form_of_problem figure.problem) figure.problem.conditions figure.problem.goals
    → AreKnownRows figure.problem.steps figure.numbers
    → AreWorked figure.problem.steps (items_of figure.problem.steps.nodes figure.problem.conditions) figure.steps (length q.commands + 2)
    figure.findings.known figure.findings.ends figure.conditions
    → IfSome figure.front (λ n. n ≡ text_length (program_lines q))
    → IsFigureOf p figure
figure_is p s q figure same small candidate problem numbers worked front = record {
  small = small;
  first = s;
  candidate = candidate;
  problem = subst (λ (x : Source). IsProblem Two x (form_of_problem figure.problem) figure.problem.conditions figure.problem.goals) same
      problem;
  numbers = numbers;
  worked =
      subst (λ (x : Source). AreWorked figure.problem.steps (items_of figure.problem.steps.nodes figure.problem.conditions) figure.steps
      (length x.commands + 2) figure.findings.known figure.findings.ends figure.conditions) same worked;
  front = IfSome_then figure.front front
      (λ n e. front_with p s n (e ∙ ap (λ (x : Source). text_length (program_lines x)) same));
}

-- it stays so where no more is found, and other numbers are known
pub figure_kept : (p : Source) (figure : Figure) (numbers : KnownRows) (findings : Findings) → IsFigureOf p figure
    → findings.known ≡ figure.findings.known → findings.ends ≡ figure.findings.ends → AreKnownRows figure.problem.steps numbers
    → IsFigureOf p (record figure { numbers = numbers; findings = findings })
figure_kept p figure numbers findings h known ends k = record {
  small = h.small;
  first = h.first;
  candidate = h.candidate;
  problem = h.problem;
  numbers = k;
  worked =
      let c = figure.problem.steps in
      let xs = items_of c.nodes figure.problem.conditions in
      subst (λ ks. AreWorked c xs figure.steps (length p.commands + 2) ks findings.ends figure.conditions) (sym known)
      (subst (λ ls. AreWorked c xs figure.steps (length p.commands + 2) figure.findings.known ls figure.conditions) (sym ends) h.worked);
  front = h.front;
}
