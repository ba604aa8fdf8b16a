-- How a run ends, from what its parts say.
use Rattle.std.proofs.Common.{◌≡◌, ◌⊎◌, inl, inr, ℕ, ◌<◌, ◌≤◌, ◌^◌, List, [], ◌∷◌, length, Option, None, Some, refl, sym, ◌∙◌, ap, subst, arith}
use Rattle.std.specs.Prelude.{Bool, true, false, ℤ, Result, Ok, Err}
use Rattle.geo_base.specs.Devices.{Grows, HasRisen}
use Rattle.geo_base.specs.declared.texts.Text.{Text as Written}
use Rattle.geo_figure.specs.declared.errors.DrawError.{DrawError}
use Rattle.geo_figure.specs.declared.errors.DrawError.TheVariants as drawing
use Rattle.geo_place.specs.declared.errors.PlaceError.{PlaceError}
use Rattle.geo_place.specs.declared.errors.PlaceError.TheVariants as placing
use Rattle.geo_place.specs.declared.placed.Placed.{Placed}
use Rattle.geo_cli.specs.declared.order.Command.{Command}
use Rattle.geo_cli.specs.declared.order.Command.TheVariants.{Bench, Discover, Prove}
use Rattle.geo_cli.specs.declared.order.Order.{Order}
use Rattle.proof_printer.specs.declared.status.Status.{Status}
use Rattle.proof_printer.specs.declared.status.Status.TheVariants as status
use Rattle.proof_printer.specs.Due.{Due, IsAcceptedDue, IsLogDue}
use Rattle.proof_printer.specs.Status.{ended_status, ending_status, status_at, status_number, stop_status, verdict_status}
use Rattle.proof_printer.proofs.StatusNumbers.{accepted_log, ending_of_numbers, not_a_verdict, verdict_of_numbers}
use Rattle.geo_cli.specs.Due.{IsBenchDue, IsCalledFor, IsDueForValues, IsFixedDue}
use Rattle.geo_cli.specs.Due.{IsSearchDue}
use Rattle.geo_cli.specs.Due.{IsRestDue, TellsAnswer, TellsDrawing, TellsFixed, TellsUncited, bench_text, fixed_line, usage_line}
use Rattle.geo_cli.specs.Inner.Answering.{AnswersCommand, HasNumber}
use Rattle.geo_cli.specs.Input.{IsInput, Takes, limit_of, log_limit, program_limit}
use Rattle.geo_cli.specs.Orders.{IsOrder, IsRow, TellsSteps}
use Rattle.geo_cli.specs.Run.{BenchesLog, ChecksLog, Ends, FindsImpossibleByLog, FixesByLog, IsAnswered, ProvesByLog}
use Rattle.geo_cli.specs.Status.{search_status}
use Rattle.geo_cli.specs.Words.{IsBenchOf, IsCheck, IsDiscover, IsFixed, IsNoCommand, IsProve, ReadsNothing}
use Rattle.geo_cli.proofs.OneDue.{GivesOne, called_is_due}
use Rattle.geo_discover.specs.FixedEnds.{EndsWithVerdict}
use Rattle.geo_discover.specs.FoundTexts.{FirstIsAccepted, IsSearched, SearchEnd, cut, found, impossible, open_by}
use Rattle.log_checker.specs.Checkers.{with_feeds}
use Rattle.geo_discover.proofs.Deciding.{fixed_verdicts_decide}
use Rattle.geo_discover.proofs.NoPlacement.{impossible_lines, impossible_searches_tell, open_ends}
use Rattle.geo_library.specs.declared.errors.CiteError.{CiteError}
use Rattle.geo_library.specs.declared.errors.CiteError.TheVariants as citing
use Rattle.geo_logs.specs.Ends.{Ending, ends_by, ends_with, too_long}
use Rattle.geo_logs.specs.Moves.{Stop, spent, too_large}
use Rattle.geo_program.specs.Programs.{source_of}
use Rattle.geo_program.specs.WellFormed.{Source}
use Rattle.geo_program.proofs.Propositions.{program_well_formed}
use Rattle.log_checker.specs.ProgramLogs.{IsLogOf}
use Rattle.log_checker.specs.Accepted.{Accepts}
use Rattle.log_checker.proofs.AcceptedBytes.{accepted_bytes_mean}
use Rattle.proof_log.specs.declared.log.Line.{Line}
use Rattle.proof_log.specs.declared.log.Verdict.{Verdict}
use Rattle.proof_log.specs.declared.log.Verdict.TheVariants.{Impossible}
use Rattle.proof_log.specs.Lines.{log_text, verdict_text}

-- STATUSES
-- two statuses with different numbers are not equal
pub differ : (s t : Status) (P : Type 0) → s ≡ t → (status_number s ≡ status_number t → ⊥) → P
differ s t P same apart = absurd (apart (ap status_number same))

-- a status that tells no verdict
pub no_verdict : (v : Verdict) (s : Status) (P : Type 0) → s ≡ verdict_status v → 3 ≤ status_number s → P
no_verdict v s P is h = not_a_verdict v (status_number s) P (ap status_number is) h

-- verdicts are told by their statuses
same_verdict : (v w : Verdict) → verdict_status v ≡ verdict_status w → v ≡ w
same_verdict v w e = verdict_of_numbers v w (ap status_number e) (ap status_at e)

-- STEPS
-- the steps of an order are few
few_told : (option : List (List ℕ)) (steps : ℕ) → TellsSteps option steps → steps ≤ 1000000000000
few_told [] steps h = omega (arith, h)
few_told (word ∷ []) steps h = h.2.2
few_told (word ∷ text ∷ []) steps h = h.1.2
few_told (word ∷ text ∷ more ∷ words) steps h = absurd h

pub few_steps : (words : List (List ℕ)) (command : Command) (steps : ℕ) → IsOrder words (record { command = command; steps = steps }) → steps < 2 ^ 127
few_steps words command steps h = let few = few_told h.option steps h.steps in omega (arith, few)

-- VERDICTS
-- an ending that is told by the status of a verdict is that verdict
ends_so : (verdict : Verdict) (lines : List Line) (ending : Ending) → ending_status lines ending ≡ verdict_status verdict
    → (left : ℕ) × (ending ≡ ends_with verdict left)
ends_so verdict lines ending says = ending_of_numbers verdict lines ending (ap status_number says) (ap status_at says)

-- a stop tells no verdict
no_stop : (v : Verdict) (n : ℕ) (stop : Stop) (P : Type 0) → stop_status n stop ≡ verdict_status v → P
no_stop v n spent P says = no_verdict v (stop_status n spent) P says (omega arith)
no_stop v n (too_large which) P says = no_verdict v (stop_status n (too_large which)) P says (omega arith)

-- values and a program call for no verdict, and tell nothing of instances
abbrev IsBetween : Due → Type 0
IsBetween due = (3 ≤ status_number due.status) × (status_number due.status < 16)

between : (due other : Due) → due ≡ other → IsBetween other → IsBetween due
between due other is h = subst IsBetween (sym is) h

drawing_number : (answer : Result Written DrawError) (due : Due) → TellsDrawing answer due → IsBetween due
drawing_number (Ok text) due h = between due _ h (omega arith, omega arith)
drawing_number (Err (drawing.TooLarge line)) due h = between due _ h (omega arith, omega arith)
drawing_number (Err drawing.NoMemory) due h = absurd h

answer_number : (drawn : Bool) (answer : Result Placed PlaceError) (due : Due) → TellsAnswer drawn answer due → IsBetween due
answer_number false (Ok placed) due h = between due _ h (omega arith, omega arith)
answer_number true (Ok placed) due (answer, d, h) = drawing_number answer due h
answer_number drawn (Err (placing.Unmet k)) due h = between due _ h (omega arith, omega arith)
answer_number drawn (Err (placing.TooLarge line)) due h = between due _ h (omega arith, omega arith)
answer_number drawn (Err placing.NoMemory) due h = absurd h

rest_number : (drawn : Bool) (values : List ℤ) (rest : List ℕ) (due : Due) → IsRestDue drawn values rest due → IsBetween due
rest_number drawn values rest due (inl (fault, none, is)) = between due _ is (omega arith, omega arith)
rest_number drawn values rest due (inr (p, spelt, inl h)) = between due _ h.1 (omega arith, omega arith)
rest_number drawn values rest due (inr (p, spelt, inr h)) = answer_number drawn h.answer due h.is

pub values_number : (drawn : Bool) (bytes : List ℕ) (due : Due) → IsDueForValues drawn bytes due → IsBetween due
values_number drawn bytes due (inl h) = between due _ h.1 (omega arith, omega arith)
values_number drawn bytes due (inr h) = rest_number drawn h.values h.rest due h.of_rest

-- where nothing is cited, no verdict is told, nothing is said to be written, and no condition is said not to be met
pub record IsApart (due : Due) : Type 0 where
  pub verdict : 3 ≤ status_number due.status
  pub done : status_number due.status ≡ 13 → ⊥
  pub unmet : status_number due.status ≡ 15 → ⊥

apart : (due other : Due) → due ≡ other → IsApart other → IsApart due
apart due other is h = subst IsApart (sym is) h

pub uncited_number : (error : CiteError) (due : Due) → TellsUncited error due → IsApart due
uncited_number (citing.Rejected line reason) due h =
    apart due _ h (record { verdict = omega arith; done = λ e. omega (arith, e); unmet = λ e. omega (arith, e) })
uncited_number (citing.Syntax fault) due h =
    apart due _ h (record { verdict = omega arith; done = λ e. omega (arith, e); unmet = λ e. omega (arith, e) })
uncited_number (citing.NotInstance line) due h =
    apart due _ h (record { verdict = omega arith; done = λ e. omega (arith, e); unmet = λ e. omega (arith, e) })
uncited_number (citing.TooLarge line which) due h =
    apart due _ h (record { verdict = omega arith; done = λ e. omega (arith, e); unmet = λ e. omega (arith, e) })
uncited_number (citing.Spent line) due h =
    apart due _ h (record { verdict = omega arith; done = λ e. omega (arith, e); unmet = λ e. omega (arith, e) })
uncited_number citing.NoMemory due h = absurd h

module _ (words : List (List ℕ)) (left left' held held' : Option (List ℕ)) (verdict : Verdict) where
  -- a log that was written and ends with this verdict
  pub log_proves : (steps : ℕ) → IsProve words steps → (bytes : List ℕ) → IsInput program_limit left bytes left' → (due : Due) (log : IsLogDue steps bytes due)
      → ending_status log.lines log.ending ≡ verdict_status verdict → Grows held due.text held' → ProvesByLog words left left' held held' verdict
  log_proves steps command bytes input due log says written =
      let ends = ends_so verdict log.lines log.ending says in
      let p = source_of log.program in
      let of_log : IsLogOf p steps log.lines (ends_with verdict ends.0) = subst (IsLogOf p steps log.lines) ends.1 log.log in
      let accepted = accepted_log p steps ends.0 log.lines verdict log.spelt.well_formed (few_steps words Prove steps command) of_log in
      let grown : Grows held (log_text log.lines) held' = subst (λ (d : Due). Grows held d.text held') log.is written in
      record {
        proves = record {
          steps = steps;
          command = command;
          bytes = bytes;
          input = input;
          program = log.program;
          spelt = log.spelt;
          text = log_text log.lines;
          written = grown;
          means = accepted_bytes_mean (log_text log.lines) steps p verdict accepted;
        };
        accepted = accepted;
      }

  -- a log that was read and is accepted with this verdict
  pub log_checks : (steps : ℕ) → IsCheck words steps → (bytes : List ℕ) → IsInput log_limit left bytes left' → (due : Due) (h : IsAcceptedDue steps bytes due)
      → verdict_status h.verdict ≡ verdict_status verdict → ChecksLog words left left' verdict
  log_checks steps command bytes input due h says =
      let accepted : Accepts bytes steps h.program verdict = subst (Accepts bytes steps h.program) (same_verdict h.verdict verdict says) h.accepted in
      record {
        checks = record {
          steps = steps;
          command = command;
          bytes = bytes;
          input = input;
          program = h.program;
          means = accepted_bytes_mean bytes steps h.program verdict accepted;
        };
        accepted = accepted;
      }

  -- the log of a generated program, which ends with this verdict
  pub log_benches : (number steps : ℕ) → IsBenchOf words number steps → (due : Due) (h : IsBenchDue number steps due)
      → ending_status h.lines h.ending ≡ verdict_status verdict → Grows held due.text held' → BenchesLog words held held' verdict
  log_benches number steps command due h says written =
      let ends = ends_so verdict h.lines h.ending says in
      let p = source_of h.program in
      let points = length h.form.construction.steps in
      let of_log : IsLogOf p steps h.lines (ends_with verdict ends.0) = subst (IsLogOf p steps h.lines) ends.1 h.log in
      let accepted = accepted_log p steps ends.0 h.lines verdict (program_well_formed h.program) (few_steps words (Bench number) steps command) of_log in
      let grown : Grows held (bench_text number points steps h.lines h.ending) held' = subst (λ (d : Due). Grows held d.text held') h.is written in
      record {
        benches = record {
          number = number;
          steps = steps;
          command = command;
          program = h.program;
          made = h.made;
          text = log_text h.lines;
          means = accepted_bytes_mean (log_text h.lines) steps p verdict accepted;
        };
        form = h.form;
        lowered = h.lowered;
        lines = h.lines;
        left = ends.0;
        log = of_log;
        is = refl;
        accepted = accepted;
        written = subst (λ (e : Ending). Grows held (bench_text number points steps h.lines e) held') ends.1 grown;
      }

  -- the log in the fixed frame, which ends with this verdict
  pub log_fixes : (steps : ℕ) → IsFixed words steps → (bytes : List ℕ) → IsInput program_limit left bytes left' → (due : Due) (h : IsFixedDue steps bytes due)
      → due.status ≡ verdict_status verdict → Grows held due.text held' → FixesByLog words left left' held held' verdict
  log_fixes steps command bytes input due h says written = by h.tells
    where
      by : TellsFixed (source_of h.program) steps due → FixesByLog words left left' held held' verdict
      by (inl (v, ends, is)) =
          let same : v ≡ verdict = same_verdict v verdict (sym (ap (λ (d : Due). d.status) is) ∙ says) in
          let here : EndsWithVerdict (source_of h.program) steps verdict = subst (EndsWithVerdict (source_of h.program) steps) same ends in
          let grown : Grows held (fixed_line v) held' = subst (λ (d : Due). Grows held d.text held') is written in
          record {
            fixes = record {
              steps = steps;
              command = command;
              bytes = bytes;
              input = input;
              program = h.program;
              spelt = h.spelt;
              written = subst (λ (x : Verdict). Grows held (fixed_line x) held') same grown;
              decided = fixed_verdicts_decide (source_of h.program) here.subject steps here.left here.lines verdict h.spelt.well_formed here.about here.log;
            };
            ends = here;
          }
      by (inr (stop, n, stops, is)) = no_stop verdict n stop _ (sym (ap (λ (d : Due). d.status) is) ∙ says)

  -- the search, which says that a condition is never met
  pub search_finds : (steps : ℕ) → IsDiscover words steps → (bytes : List ℕ) → IsInput program_limit left bytes left' → (due : Due)
      (h : IsSearchDue steps bytes due)
      → due.status ≡ verdict_status verdict → Grows held due.text held' → FindsImpossibleByLog words left left' held held' verdict
  search_finds steps command bytes input due h says written =
      by h.end h.searched (subst (λ (d : Due). Grows held d.text held') h.is written) (sym (ap (λ (d : Due). d.status) h.is) ∙ says)
    where
      p : Source
      p = source_of h.program

      finds : (k : ℕ) → IsSearched p steps h.lines (impossible k) → Grows held (with_feeds h.lines) held' → Impossible k ≡ verdict
          → FindsImpossibleByLog words left left' held held' verdict
      finds k searched grown same =
          let tells = impossible_searches_tell p steps k h.lines h.spelt.well_formed (few_steps words Discover steps command) searched in
          let lines = impossible_lines p steps k h.lines searched in
          let one : Grows held (with_feeds (verdict_text (Impossible k) ∷ [])) held' =
          subst (λ (ls : List (List ℕ)). Grows held (with_feeds ls) held') lines grown in
          record {
            finds = record {
              steps = steps;
              command = command;
              bytes = bytes;
              input = input;
              program = h.program;
              spelt = h.spelt;
              number = k;
              is = sym same;
              written = subst (λ (v : Verdict). Grows held (with_feeds (verdict_text v ∷ [])) held') same one;
              none = tells.1;
            };
            first = subst (FirstIsAccepted p steps) same tells.0;
          }

      ended : (n : ℕ) (ending : Ending) (P : Type 0) → ((v : Verdict) (l : ℕ) → ending ≡ ends_with v l → ⊥)
          → ended_status n ending ≡ verdict_status verdict → P
      ended n (ends_with v l) P never is = absurd (never v l refl)
      ended n (ends_by stop) P never is = no_stop verdict n stop P is
      ended n too_long P never is = no_verdict verdict status.TooLong P is (omega arith)

      by : (end : SearchEnd) → IsSearched p steps h.lines end → Grows held (with_feeds h.lines) held'
          → search_status end ≡ verdict_status verdict → FindsImpossibleByLog words left left' held held' verdict
      by (found count) searched grown is = no_verdict verdict status.Done _ is (omega arith)
      by (impossible k) searched grown is = finds k searched grown (same_verdict (Impossible k) verdict is)
      by (open_by ending n) searched grown is = ended n ending _ (open_ends p steps n h.lines ending searched) is
      by cut searched grown is = no_verdict verdict status.TooLong _ is (omega arith)

-- COMPLETENESS
module _ (words : List (List ℕ)) (one : GivesOne words) (left left' held held' : Option (List ℕ)) where
  -- a run with no fault answers what is called for, or runs out of memory
  pub completes : (g g' f f' : ℕ) (s : Status) → Ends words left left' g g' f f' held held' s → (due : Due) → IsCalledFor words left due
      → ¬ (HasRisen g g') → ¬ (HasRisen f f') → (s ≡ status.NoMemory) ⊎ ((s ≡ due.status) × Grows held due.text held')
  completes g g' f f' s (inl h) due called calm calm' = by_answer h.answered
    where
      same : due ≡ h.due
      same = called_is_due words one left left' due h.due called h.cause

      by_answer : IsAnswered h.due s f f' held held' → (s ≡ status.NoMemory) ⊎ ((s ≡ due.status) × Grows held due.text held')
      by_answer (inl a) =
          inr (a.0 ∙ ap (λ (d : Due). d.status) (sym same), subst (λ (d : Due). Grows held d.text held') (sym same) a.1)
      by_answer (inr ((inl short), part)) = absurd (calm' short.1)
      by_answer (inr ((inr short), part)) = inl short
  completes g g' f f' s (inr (inl h)) due called calm calm' = absurd (calm h.fault)
  completes g g' f f' s (inr (inr h)) due called calm calm' = inl h.is

-- WORDS THAT ARE NO COMMAND
pub misused : (words : List (List ℕ)) (left held held' : Option (List ℕ)) (g f f' : ℕ) (s : Status) → IsNoCommand words
    → IsAnswered (record { text = usage_line; status = status.Usage }) s f f' held held' → Ends words left left g g f f' held held' s
misused words left held held' g f f' s none h = inl (record {
  due = record { text = usage_line; status = status.Usage };
  cause = inl (record { no_command = none; unread = refl; is = refl });
  answered = h;
})

-- where no order is read there is none
pub no_order : (words : List (List ℕ)) (answer : Option Order) → ((order : Order) → IsOrder words order → answer ≡ Some order) → answer ≡ None
    → IsNoCommand words
no_order words answer complete is order given = let no : ◌≡◌ {A = Option Order} None (Some order) = sym is ∙ complete order given in cc

-- WORDS THAT ARE A COMMAND
-- the number of a generated program
pub has_number : (words : List (List ℕ)) (command : Command) → IsRow words command → HasNumber command
has_number words (Bench number) (text, is, written, some, few) = (some, few)
has_number words command row = tt

module _ (words : List (List ℕ)) (one : GivesOne words) (order : Order) (given : IsOrder words order) where
  -- which command it is
  same_command : (number steps : ℕ) → IsBenchOf words number steps → order.command ≡ Bench number
  same_command number steps bench = ap (λ (o : Order). o.command) (one order (record { command = Bench number; steps = steps }) given bench)

  -- what the command answered is an end of the run
  pub ends_in : (left left' held held' : Option (List ℕ)) (g g' f f' : ℕ) (s : Status)
      → AnswersCommand order.command order.steps left left' g g' f f' held held' s → Ends words left left' g g' f f' held held' s
  ends_in left left' held held' g g' f f' s (inl (inl (due, h, answered))) =
      inl (record { due = due; cause = inr (record { order = order; given = given; of_command = h }); answered = answered })
  ends_in left left' held held' g g' f f' s (inl (inr out)) = inr (inr out)
  ends_in left left' held held' g g' f f' s (inr (reads, is, risen, kept)) =
      inr (inl (record { is = is; command = command; fault = risen; unwritten = kept }))
    where
      command : ReadsNothing words → ⊥
      command (inl none) = none order given
      command (inr (number, steps, bench)) = reads number (same_command number steps bench)

  -- the words read nothing only where the command is `bench`
  pub reads_nothing : (P : Type 0) → ((number : ℕ) → order.command ≡ Bench number → P) → ReadsNothing words → P
  reads_nothing P unread (inl none) = absurd (none order given)
  reads_nothing P unread (inr (number, steps, bench)) = unread number (same_command number steps bench)

-- what the command of an order takes, whichever order the words are said to give
pub takes_order : (words : List (List ℕ)) → GivesOne words → (order other : Order) → IsOrder words order → IsOrder words other
    → (left left' : Option (List ℕ)) → Takes (limit_of order.command) left left' → Takes (limit_of other.command) left left'
takes_order words one order other given given' left left' h =
    subst (λ (o : Order). Takes (limit_of o.command) left left') (one order other given given') h
