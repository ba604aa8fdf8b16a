-- A run that answers that its text is written, or that a condition is not met.
use Rattle.std.proofs.Common.{◌≡◌, inl, inr, ℕ, ◌<◌, List, length, Option, refl, sym, ◌∙◌, ap, subst, arith}
use Rattle.std.specs.Prelude.{Bool, true, false, ℤ, Result, Ok, Err}
use Rattle.geo_base.specs.Devices.{Grows}
use Rattle.geo_base.specs.declared.texts.Text.{Text as Written}
use Rattle.geo_cli.specs.declared.order.Command.TheVariants.{Discover}
use Rattle.proof_printer.specs.declared.status.Status.{Status}
use Rattle.proof_printer.specs.declared.status.Status.TheVariants as status
use Rattle.proof_printer.specs.Due.{Due}
use Rattle.proof_printer.proofs.StatusNumbers.{refusal_number}
use Rattle.proof_printer.specs.Status.{ended_status, ending_status, refusal_status, status_number, stop_status, verdict_status}
use Rattle.geo_cli.specs.Due.{IsDueForValues, IsRestDue, IsSearchDue, TellsAnswer, TellsDrawing}
use Rattle.geo_cli.specs.Due.{TellsFixed}
use Rattle.geo_cli.specs.Input.{IsInput, program_limit}
use Rattle.geo_cli.specs.Run.{Finds, IsPlaceOf, PlacesInput, PlacesNone, ReadsValues, shown}
use Rattle.geo_cli.specs.Status.{search_status}
use Rattle.geo_cli.specs.Values.{HasValuesLine}
use Rattle.geo_cli.specs.Words.{IsDiscover}
use Rattle.geo_cli.proofs.Ended.{differ, few_steps}
use Rattle.geo_conditions.specs.Truth.{ProgramValues, integers_of}
use Rattle.geo_discover.specs.FoundTexts.{IsSearched, SearchEnd, cut, found, impossible, open_by}
use Rattle.log_checker.specs.Checkers.{with_feeds}
use Rattle.geo_discover.proofs.Findings.{searches_tell}
use Rattle.geo_figure.specs.declared.errors.DrawError.{DrawError}
use Rattle.geo_figure.specs.declared.errors.DrawError.TheVariants as drawing
use Rattle.geo_figure.specs.Drawing.{IsDrawn}
use Rattle.geo_logs.specs.Ends.{Ending, ends_by, ends_with, too_long}
use Rattle.geo_logs.specs.Judging.{Refusal}
use Rattle.geo_logs.specs.Moves.{Stop, spent, too_large}
use Rattle.geo_place.specs.declared.errors.PlaceError.{PlaceError}
use Rattle.geo_place.specs.declared.errors.PlaceError.TheVariants as placing
use Rattle.geo_place.specs.declared.placed.Placed.{Placed}
use Rattle.geo_place.specs.Placing.{AnswersValues, Places, PlacesNothing}
use Rattle.geo_poly.specs.declared.limits.Which.TheVariants.{Norm}
use Rattle.geo_program.specs.declared.program_type.Program.{Program}
use Rattle.geo_program.specs.Programs.{Spells, source_of}
use Rattle.geo_program.specs.WellFormed.{Source}
use Rattle.proof_log.specs.declared.log.Line.{Line}
use Rattle.proof_log.specs.declared.log.Verdict.{Verdict}
use Rattle.proof_log.specs.declared.log.Verdict.TheVariants.{Proved, False, Impossible}

-- STATUSES
-- a status that tells no readable proof
pub not_done : (s : Status) (P : Type 0) → s ≡ status.Done → status_number s < 13 → P
not_done s P is low = differ s status.Done P is (λ e. omega (arith, e, low))

pub verdict_number : (v : Verdict) → status_number (verdict_status v) < 3
verdict_number Proved = omega arith
verdict_number (False g) = omega arith
verdict_number (Impossible k) = omega arith

pub verdict_low : (v : Verdict) → status_number (verdict_status v) < 13
verdict_low v = let low = verdict_number v in omega (arith, low)

stop_low : (n : ℕ) (stop : Stop) → status_number (stop_status n stop) < 13
stop_low n spent = omega arith
stop_low n (too_large which) = omega arith

ended_low : (n : ℕ) (ending : Ending) → status_number (ended_status n ending) < 13
ended_low n (ends_with v left) = verdict_low v
ended_low n (ends_by stop) = stop_low n stop
ended_low n too_long = omega arith

pub ending_low : (lines : List Line) (ending : Ending) → status_number (ending_status lines ending) < 13
ending_low lines ending = ended_low (length lines) ending

-- a search tells that all is written, or has a lower status
pub search_low : (end : SearchEnd) → status_number (search_status end) < 14
search_low (found count) = omega arith
search_low (impossible k) = omega arith
search_low (open_by ending n) = omega (arith, ended_low n ending)
search_low cut = omega arith

pub fixed_low : (p : Source) (steps : ℕ) (due : Due) → TellsFixed p steps due → status_number due.status < 13
fixed_low p steps due (inl (v, ends, is)) = subst (λ (d : Due). status_number d.status < 13) (sym is) (verdict_low v)
fixed_low p steps due (inr (stop, n, stops, is)) = subst (λ (d : Due). status_number d.status < 13) (sym is) (stop_low n stop)

pub refusal_low : (n : ℕ) (r : Refusal) → status_number (refusal_status n r) < 13
refusal_low n r = let few = (refusal_number n r).1 in omega (arith, few)

-- no status of a number below 15 tells a condition that is not met
pub not_unmet : (k : ℕ) (s : Status) (P : Type 0) → s ≡ status.Unmet k → status_number s < 15 → P
not_unmet k s P is low = differ s (status.Unmet k) P is (λ e. omega (arith, e, low))

same_number : (j k : ℕ) → status.Unmet j ≡ status.Unmet k → j ≡ k
same_number j k e = ap number e
  where
    number : Status → ℕ
    number (status.Unmet i) = i
    number other = j

-- WHAT IS DUE FOR VALUES AND A PROGRAM
module _ (words : List (List ℕ)) (left left' held held' : Option (List ℕ)) (drawn : Bool) (steps : ℕ) (command : IsPlaceOf drawn words steps)
    (bytes : List ℕ) (input : IsInput program_limit left bytes left') where
  reads_here : (values : List ℤ) (rest : List ℕ) → HasValuesLine bytes values rest → (p : Program) → Spells rest p → (v : ProgramValues)
      → integers_of v ≡ values
      → ReadsValues drawn words left left' p v
  reads_here values rest line p spelt v are = record {
    steps = steps;
    command = command;
    bytes = bytes;
    input = input;
    rest = rest;
    line = subst (λ (zs : List ℤ). HasValuesLine bytes zs rest) (sym are) line;
    spelt = spelt;
  }

  -- placed points
  module _ (p : Program) (v : ProgramValues) (reads : ReadsValues drawn words left left' p v) (due : Due) (done : due.status ≡ status.Done) (written : Grows held due.text held') where
    placed_here : (placed : Placed) → Places (source_of p) v placed → due.text ≡ shown drawn placed
        → PlacesInput drawn words left left' held held'
    placed_here placed places is = record {
      program = p;
      v = v;
      reads = reads;
      placed = placed;
      places = places;
      written = subst (λ (text : List ℕ). Grows held text held') is written;
    }

    drawing_here : (placed : Placed) (answer : Result Written DrawError) → IsDrawn placed answer → TellsDrawing answer due
        → Places (source_of p) v placed
        → ((text : List ℕ) → due.text ≡ text → text ≡ shown true placed → PlacesInput drawn words left left' held held')
        → PlacesInput drawn words left left' held held'
    drawing_here placed (Ok text) d h places with = with text (ap (λ (x : Due). x.text) h) d.0
    drawing_here placed (Err (drawing.TooLarge line)) d h places with =
        not_done (status.TooLarge line Norm) _ (sym (ap (λ (x : Due). x.status) h) ∙ done) (omega arith)
    drawing_here placed (Err drawing.NoMemory) d h places with = absurd h

  module _ (p : Program) (v : ProgramValues) (reads : ReadsValues drawn words left left' p v) (due : Due) where
    answer_done : (answer : Result Placed PlaceError) → AnswersValues (source_of p) v answer → (b : Bool) → b ≡ drawn
        → TellsAnswer b answer due → due.status ≡ status.Done → Grows held due.text held'
        → PlacesInput drawn words left left' held held'
    answer_done (Ok placed) given false is tells done written =
        placed_here p v reads due done written placed given (ap (λ (x : Due). x.text) tells ∙ ap (λ (z : Bool). shown z placed) is)
    answer_done (Ok placed) given true is (answer, d, tells) done written =
        drawing_here p v reads due done written placed answer d tells given
        (λ text e same. placed_here p v reads due done written placed given (e ∙ same ∙ ap (λ (z : Bool). shown z placed) is))
    answer_done (Err (placing.Unmet k)) given b is tells done written =
        differ (status.Unmet k) status.Done _ (sym (ap (λ (x : Due). x.status) tells) ∙ done) (λ e. omega (arith, e))
    answer_done (Err (placing.TooLarge line)) given b is tells done written =
        not_done (status.TooLarge line Norm) _ (sym (ap (λ (x : Due). x.status) tells) ∙ done) (omega arith)
    answer_done (Err placing.NoMemory) given b is tells done written = absurd tells

    drawing_unmet : (k : ℕ) (answer : Result Written DrawError) → TellsDrawing answer due → due.status ≡ status.Unmet k
        → PlacesNone words left left' k
    drawing_unmet k (Ok text) tells says = not_unmet k status.Done _ (sym (ap (λ (x : Due). x.status) tells) ∙ says) (omega arith)
    drawing_unmet k (Err (drawing.TooLarge line)) tells says =
        not_unmet k (status.TooLarge line Norm) _ (sym (ap (λ (x : Due). x.status) tells) ∙ says) (omega arith)
    drawing_unmet k (Err drawing.NoMemory) tells says = absurd tells

    answer_unmet : (k : ℕ) (answer : Result Placed PlaceError) → AnswersValues (source_of p) v answer → (b : Bool) → TellsAnswer b answer due
        → due.status ≡ status.Unmet k → PlacesNone words left left' k
    answer_unmet k (Ok placed) given false tells says =
        not_unmet k status.Done _ (sym (ap (λ (x : Due). x.status) tells) ∙ says) (omega arith)
    answer_unmet k (Ok placed) given true (answer, d, tells) says = drawing_unmet k answer tells says
    answer_unmet k (Err (placing.Unmet j)) given b tells says =
        let same = same_number j k (sym (ap (λ (x : Due). x.status) tells) ∙ says) in
        record { drawn = drawn; program = p; v = v; reads = reads; none = subst (λ (i : ℕ). PlacesNothing (source_of p) v i) same given }
    answer_unmet k (Err (placing.TooLarge line)) given b tells says =
        not_unmet k (status.TooLarge line Norm) _ (sym (ap (λ (x : Due). x.status) tells) ∙ says) (omega arith)
    answer_unmet k (Err placing.NoMemory) given b tells says = absurd tells

  module _ (due : Due) where
    rest_done : (values : List ℤ) (rest : List ℕ) → HasValuesLine bytes values rest → IsRestDue drawn values rest due
        → due.status ≡ status.Done → Grows held due.text held'
        → PlacesInput drawn words left left' held held'
    rest_done values rest line (inl (fault, none, is)) done written =
        not_done _ _ (sym (ap (λ (x : Due). x.status) is) ∙ done) (omega arith)
    rest_done values rest line (inr (p, spelt, inl h)) done written =
        not_done _ _ (sym (ap (λ (x : Due). x.status) h.1) ∙ done) (omega arith)
    rest_done values rest line (inr (p, spelt, inr h)) done written =
        answer_done p h.v (reads_here values rest line p spelt h.v h.are) due h.answer h.given drawn refl h.is done written

    pub values_done : IsDueForValues drawn bytes due → due.status ≡ status.Done → Grows held due.text held'
        → PlacesInput drawn words left left' held held'
    values_done (inl h) done written = not_done _ _ (sym (ap (λ (x : Due). x.status) h.1) ∙ done) (omega arith)
    values_done (inr h) done written = rest_done h.values h.rest h.line h.of_rest done written

    rest_unmet : (k : ℕ) (values : List ℤ) (rest : List ℕ) → HasValuesLine bytes values rest → IsRestDue drawn values rest due
        → due.status ≡ status.Unmet k → PlacesNone words left left' k
    rest_unmet k values rest line (inl (fault, none, is)) says = not_unmet k _ _ (sym (ap (λ (x : Due). x.status) is) ∙ says) (omega arith)
    rest_unmet k values rest line (inr (p, spelt, inl h)) says = not_unmet k _ _ (sym (ap (λ (x : Due). x.status) h.1) ∙ says) (omega arith)
    rest_unmet k values rest line (inr (p, spelt, inr h)) says =
        answer_unmet p h.v (reads_here values rest line p spelt h.v h.are) due k h.answer h.given drawn h.is says

    pub values_unmet : (k : ℕ) → IsDueForValues drawn bytes due → due.status ≡ status.Unmet k → PlacesNone words left left' k
    values_unmet k (inl h) says = not_unmet k _ _ (sym (ap (λ (x : Due). x.status) h.1) ∙ says) (omega arith)
    values_unmet k (inr h) says = rest_unmet k h.values h.rest h.line h.of_rest says

-- A SEARCH
module _ (words : List (List ℕ)) (left left' held held' : Option (List ℕ)) where
  -- a search in which no candidate is open
  pub search_done : (steps : ℕ) → IsDiscover words steps → (bytes : List ℕ) → IsInput program_limit left bytes left' → (due : Due)
      (h : IsSearchDue steps bytes due)
      → due.status ≡ status.Done → Grows held due.text held' → Finds words left left' held held'
  search_done steps command bytes input due h is written =
      by h.end h.searched (subst (λ (d : Due). Grows held d.text held') h.is written) (sym (ap (λ (d : Due). d.status) h.is) ∙ is)
    where
      by : (end : SearchEnd) → IsSearched (source_of h.program) steps h.lines end → Grows held (with_feeds h.lines) held'
          → search_status end ≡ status.Done → Finds words left left' held held'
      by (found count) searched grown same = record {
        steps = steps;
        command = command;
        bytes = bytes;
        input = input;
        program = h.program;
        spelt = h.spelt;
        lines = h.lines;
        count = count;
        searched = searched;
        written = grown;
        told = searches_tell (source_of h.program) steps count h.lines h.spelt.well_formed (few_steps words Discover steps command) searched;
      }
      by (impossible k) searched grown same = not_done _ _ same (omega arith)
      by (open_by ending n) searched grown same = not_done _ _ same (ended_low n ending)
      by cut searched grown same = not_done _ _ same (omega arith)
