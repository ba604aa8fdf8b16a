-- From the parts of a log to the log of a program.
use Rattle.std.proofs.Common.{◌≡◌, ℕ, zero, suc, ◌+◌, ◌-◌, ◌<◌, ◌≤◌, ◌^◌, inl, inr, Option, Ok, Err, List, [], ◌∷◌, ◌++◌, length}
use Rattle.std.proofs.Common.{append-nil, append_assoc, refl, sym, ◌∙◌, ap, subst, take, arith}
use Rattle.std.specs.Prelude.{IfErr, IsErrOf, OnOk, Result}
use Rattle.geo_base.specs.Devices.{Grows}
use Rattle.geo_base.proofs.DeviceLemmas.{Grows-nothing}
use Rattle.geo_lowering.specs.declared.version.Version.TheVariants.{Two}
use Rattle.geo_conditions.specs.declared.problem.Problem.{Problem}
use Rattle.geo_conditions.specs.Lists.{IsProblem}
use Rattle.geo_conditions.specs.Problems.{form_of_problem}
use Rattle.geo_program.specs.WellFormed.{IsWellFormed, Source}
use Rattle.geo_terms.specs.Constructions.{Construction}
use Rattle.proof_log.specs.declared.log.Line.{Line}
use Rattle.proof_log.specs.declared.log.Verdict.{Verdict}
use Rattle.proof_log.specs.Lines.{log_text}
use Rattle.elim_apply.specs.LemmaTable.{lemma_table}
use Rattle.elim_apply.proofs.MoveRows.{lemma_table_sound}
use Rattle.geo_logs.specs.Ends.{Ending, IsDefinedLog, ends_by, ends_with, stop_line, text_length, too_long}
use Rattle.geo_logs.specs.Defined.{IsLogOfProver}
use Rattle.geo_logs.specs.Logs.{Subject}
use Rattle.geo_logs.specs.Moves.{Stop, spent, too_large}
use Rattle.geo_logs.specs.Places.{first_lines}
use Rattle.geo_logs.proofs.AcceptedProvers.{provers_log_accepted}
use Rattle.geo_logs.proofs.Charges.{charges_spent}
use Rattle.log_checker.specs.Accepted.{IsShortProgram}
use Rattle.log_checker.specs.ProgramLogs.{IsLogOf}
use Rattle.log_checker.specs.Checkers.{subject_of}
use Rattle.log_checker.specs.Subjects.{IsSubjectOf, source_lines}
use Rattle.log_checker.proofs.AcceptedBytes.{programs_have_defined_logs}
use Rattle.log_checker.proofs.DefinedBytes.{defined_bytes_are_accepted}
use Rattle.log_checker.proofs.DueProblems.{about}
use Rattle.log_checker.proofs.Reached.{beginnings_go_on}
use Rattle.log_checker.proofs.Realised.{conditions_named, goals_named}
use Rattle.log_checker.proofs.Verdicts.{parts_of, valid}
use Rattle.log_checker.proofs.WritableLines.{next_lines_are_writable}
use Rattle.geo_chain.specs.declared.errors.ProveError.{ProveError}
use Rattle.geo_chain.specs.declared.errors.ProveError.TheVariants.{TooLarge, Spent, TooLong, WriteFault, NoMemory}
use Rattle.geo_chain.specs.declared.frame.Frame.TheVariants.{Full}
use Rattle.geo_chain.specs.declared.size.Size.{Size}
use Rattle.geo_chain.specs.declared.size.Size.TheVariants.{Written}
use Rattle.geo_chain.specs.FirstLines.{IsBrokenOffAmong, IsPartAmong}
use Rattle.geo_chain.specs.Halting.{Finishes, Halts, IsBrokenOff, IsPieceOfNext, IsStopped, IsTooLong}
use Rattle.geo_chain.specs.Parts.{CanWrite, Part, log_part}
use Rattle.geo_chain.specs.Sizes.{Fits, with_text}
use Rattle.geo_chain.specs.Tasks.{HasReadyItems}
use Rattle.geo_chain.specs.Written.{State}
use Rattle.geo_chain.proofs.Passing.{log_text-append, text_length-append}
use Rattle.geo_chain.proofs.Sizing.{with_both}
use Rattle.geo_chain.proofs.WholeLogs.{WritesDefined, begun_among, finished, grown, items_ready, left_out, part_writable, stopped}
use Rattle.geo_chain.proofs.WholeLogs.{too_long_among, within}
use Rattle.geo_prover.specs.declared.summary.Summary.{Summary}
use Rattle.geo_prover.specs.Proving.{Concludes, WritesToStop, WritesLog, WritesPart}
use Rattle.geo_prover.specs.Inner.Answers.{IsAnswerOf}

-- FRONTS
take_front : (xs ys : List ℕ) → take (length xs) (xs ++ ys) ≡ xs
take_front [] ys = refl
take_front (x ∷ xs) ys = ap (λ zs. x ∷ zs) (take_front xs ys)

take_all : (n : ℕ) (xs : List ℕ) → (rest : List ℕ) × (xs ≡ take n xs ++ rest)
take_all zero xs = (xs, refl)
take_all (suc n) [] = ([], refl)
take_all (suc n) (x ∷ xs) = let r = take_all n xs in (r.0, ap (λ ys. x ∷ ys) r.1)

-- a text that begins with another has it as its first bytes
front_of : (xs ys whole : List ℕ) → whole ≡ xs ++ ys → xs ≡ take (length xs) whole
front_of xs ys whole e = sym (ap (λ text. take (length xs) text) e ∙ take_front xs ys)

-- a piece of what stands behind a text
split : (xs ys : List ℕ) (n : ℕ) (rest piece : List ℕ) → ys ≡ take n ys ++ rest → piece ≡ take n ys → xs ++ ys ≡ (xs ++ piece) ++ rest
split xs ys n rest piece e same =
    ap (λ zs. xs ++ zs) (e ∙ ap (λ zs. zs ++ rest) (sym same)) ∙ sym (append_assoc xs piece rest)

-- OF A PROBLEM
-- its items are ready
pub ready : (p : Source) (problem : Problem) → IsWellFormed p → IsProblem Two p (form_of_problem problem) problem.conditions problem.goals
    → HasReadyItems problem
ready p problem w is =
    let c = problem.steps in
    let subject = subject_of (2, source_lines p) problem in
    let parts = parts_of p subject (about Two p problem is) in
    record {
      conditions = items_ready c c.nodes problem.conditions is.conditions.stored (λ i item at. (conditions_named p subject w parts i item at).0);
      goals = items_ready c c.nodes problem.goals is.goals.stored (λ i item at. (goals_named p subject w parts i item at).0);
    }

-- OF A SUBJECT
module _ (p : Source) (subject : Subject) (steps : ℕ) (w : IsWellFormed p) (small : steps < 2 ^ 127) (own : IsSubjectOf p subject)
    (two : subject.version ≡ 2) where
  abbrev c : Construction
  c = subject.construction

  abbrev whole : Part
  whole = log_part Full subject steps

  -- WRITING
  pub can_write : (z : Size) → z ≡ Written 0 → CanWrite Full c whole z
  can_write z none =
      part_writable c whole z none (λ lines place line b short n. next_lines_are_writable p subject steps lines place line w own small b short n)

  -- ANSWERS
  log_of : (lines : List Line) (ending : Ending) → IsDefinedLog lemma_table subject steps lines ending → IsLogOf p steps lines ending
  log_of lines ending h = record { subject = subject; about = own; version = two; defined = h }

  written_log : (held held' : Option (List ℕ)) (ending : Ending) → WritesDefined subject steps held held' ending
      → WritesLog p steps held held' ending
  written_log held held' ending h = record { lines = h.lines; log = log_of h.lines ending h.defined; written = h.written }

  module _ (s t : State) (lines_none : s.lines ≡ 0) (size_none : s.size ≡ Written 0) where
    written_stop : (stop : Stop) (n : ℕ) → IsStopped Full c whole s t stop n → WritesToStop p steps s.held t.held stop n
    unfolding written_log
    written_stop stop n h =
        let g = stopped subject steps s t size_none lines_none stop n h in
        record { whole = written_log s.held t.held (ends_by stop) g.whole; last = g.last }

    written_short : IsTooLong Full c whole s t → WritesLog p steps s.held t.held too_long
    written_short h = written_log s.held t.held too_long (left_out subject steps s t size_none h)

    -- a beginning of the text of a defined log
    part : (lines : List Line) (ending : Ending) → IsDefinedLog lemma_table subject steps lines ending → (text rest : List ℕ)
        → log_text lines ≡ text ++ rest → Grows s.held text t.held → WritesPart p steps s.held t.held
    part lines ending d text rest e g = record {
      lines = lines;
      ending = ending;
      log = log_of lines ending d;
      count = length text;
      written = subst (λ xs. Grows s.held xs t.held) (front_of text rest (log_text lines) e) g;
    }

    broken : IsBrokenOff Full c whole s t → WritesPart p steps s.held t.held
    broken h = go h.next
      where
        fits : text_length h.lines ≤ 67108864
        fits = within subject steps s t size_none (text_length h.lines) h.fits

        written : Grows s.held (log_text h.lines ++ h.piece) t.held
        written = grown subject steps s t size_none (log_text h.lines ++ h.piece) h.written

        go : IsPieceOfNext Full c h.place (s.lines + length h.lines) (with_text s.size (text_length h.lines)) h.piece
            → WritesPart p steps s.held t.held
        go (inl none) =
            let d = beginnings_go_on.begun p subject steps h.lines h.place w own h.begun fits in
            part (h.lines ++ d.0) d.1 d.2 (log_text h.lines ++ h.piece) (log_text d.0)
            (log_text-append h.lines d.0 ∙ ap (λ xs. xs ++ log_text d.0)
            (sym (ap (λ xs. log_text h.lines ++ xs) none ∙ append-nil (log_text h.lines))))
            written
        go (inr (inl (line, count, next, small_line, same))) =
            let xs = h.lines ++ line ∷ [] in
            let d = beginnings_go_on.next p subject steps h.lines h.place line w own h.begun next
            (within subject steps s t size_none (text_length xs)
            (subst Fits (with_both s.size (text_length h.lines) (text_length (line ∷ [])) ∙ ap (λ (n : ℕ). with_text s.size n)
            (sym (text_length-append h.lines (line ∷ [])))) small_line)) in
            let r = take_all count (log_text (line ∷ [])) in
            part (xs ++ d.0) d.1 d.2 (log_text h.lines ++ h.piece) (r.0 ++ log_text d.0)
            (log_text-append xs d.0 ∙ ap (λ ys. ys ++ log_text d.0)
            (log_text-append h.lines (line ∷ []) ∙ split (log_text h.lines) (log_text (line ∷ [])) count r.0 h.piece r.1 same)
            ∙ append_assoc (log_text h.lines ++ h.piece) r.0 (log_text d.0)) written
        go (inr (inr (stop, count, next, same))) =
            let n : suc (s.lines + length h.lines) ≡ suc (length h.lines) = omega (arith, lines_none) in
            let last = stop_line (suc (length h.lines)) stop ∷ [] in
            let same' : h.piece ≡ take count (log_text last) = same ∙ ap (λ m. take count (log_text (stop_line m stop ∷ []))) n in
            let r = take_all count (log_text last) in
            part (h.lines ++ last) (ends_by stop) (h.lines, refl, (h.place, h.begun, next), fits) (log_text h.lines ++ h.piece) r.0
            (log_text-append h.lines last ∙ split (log_text h.lines) (log_text last) count r.0 h.piece r.1 same') written

    pub halted : (e : ProveError) → Halts Full c whole s t e → IsAnswerOf p steps s t e
    halted (TooLarge n which) h = (written_stop (too_large which) n h, h.faults)
    halted (Spent n) h = (written_stop spent n h, h.faults)
    halted TooLong h = (written_short h, h.faults)
    halted WriteFault h = (h.1, broken h.0, h.0.faults)
    halted NoMemory h = (broken h.0, h.1)

    -- AMONG THE FIRST LINES
    part_among : IsPartAmong (first_lines subject) s t → WritesPart p steps s.held t.held
    part_among h =
        let place = begun_among subject steps h.before h.rest h.split in
        let fits = within subject steps s t size_none (text_length h.before) h.fits in
        let d = beginnings_go_on.begun p subject steps h.before place.0 w own place.1 fits in
        let r = take_all h.count (log_text h.before) in
        part (h.before ++ d.0) d.1 d.2 (take h.count (log_text h.before)) (r.0 ++ log_text d.0)
        (log_text-append h.before d.0 ∙ ap (λ xs. xs ++ log_text d.0) r.1 ∙ append_assoc (take h.count (log_text h.before)) r.0
        (log_text d.0)) (grown subject steps s t size_none (take h.count (log_text h.before)) h.written)

    pub halted_among : (e : ProveError) → IsBrokenOffAmong (first_lines subject) s t e → IsAnswerOf p steps s t e
    halted_among (TooLarge n which) h = absurd h
    halted_among (Spent n) h = absurd h
    halted_among TooLong h = (written_short (too_long_among subject steps s t h), h.faults)
    halted_among WriteFault h = (h.1, part_among h.0, h.0.faults)
    halted_among NoMemory h = (part_among h.0, h.1)

    -- THE WHOLE LOG
    pub left_of : (lines : List Line) (verdict : Verdict) (left : ℕ) → IsLogOfProver lemma_table subject steps lines verdict left
        → left ≤ steps
    left_of lines verdict left h =
        let parts = parts_of p subject own in
        let found = provers_log_accepted lemma_table subject steps left lines verdict (lemma_table_sound c (valid p subject w parts))
        (conditions_named p subject w parts) (goals_named p subject w parts) small h in
        let spent_all = charges_spent lemma_table subject steps found.0 lines verdict found.2 in
        let more = found.1 in omega (arith, spent_all, more)

    pub concluded : (summary : Summary) (left : ℕ) → Finishes whole s t summary.verdict left → Fits t.size → summary.lines ≡ t.lines
        → summary.charge ≡ steps - left → Concludes p steps s.held t.held summary
    concluded summary left h fits counted charged =
        let defined = finished subject steps s t size_none summary.verdict left h fits in
        record {
          lines = h.lines;
          left = left;
          log = log_of h.lines (ends_with summary.verdict left) defined;
          written = grown subject steps s t size_none (log_text h.lines) h.written.written;
          accepted = defined_bytes_are_accepted p subject steps left h.lines summary.verdict w own small defined;
          counted = let n = h.written.counted in omega (arith, n, lines_none, counted);
          charged = let l = left_of h.lines summary.verdict left h.whole in omega (arith, charged, l);
        }

-- where nothing was written
pub nothing_written : (p : Source) (steps : ℕ) → IsShortProgram p → (s t : State) → t.held ≡ s.held → t.faults ≡ s.faults
    → IsAnswerOf p steps s t NoMemory
nothing_written p steps short s t same faults =
    let log = programs_have_defined_logs Two p steps short in (
      record {
        lines = log.3.0;
        ending = log.3.1;
        log = record { subject = log.0; about = log.1; version = log.2; defined = log.3.2 };
        count = 0;
        written = subst (λ held. Grows s.held [] held) (sym same) (Grows-nothing s.held);
      },
      faults,
    )

-- faults never fall
pub faults_kept : (p : Source) (steps : ℕ) (s t : State) (r : Result Summary ProveError) → OnOk r (t.faults ≡ s.faults)
    → IfErr r (IsAnswerOf p steps s t) → s.faults ≤ t.faults
faults_kept p steps s t (Ok x) h e = omega (arith, h)
faults_kept p steps s t (Err (TooLarge n which)) h e = omega (arith, e.1)
faults_kept p steps s t (Err (Spent n)) h e = omega (arith, e.1)
faults_kept p steps s t (Err TooLong) h e = omega (arith, e.1)
faults_kept p steps s t (Err WriteFault) h e = e.2
faults_kept p steps s t (Err NoMemory) h e = omega (arith, e.1)

-- and they rise only where a fault of the sink is answered
pub faults_heard : (p : Source) (steps : ℕ) (s t : State) (r : Result Summary ProveError) → OnOk r (t.faults ≡ s.faults)
    → IfErr r (IsAnswerOf p steps s t) → ¬ (IsErrOf r WriteFault) → t.faults ≡ s.faults
faults_heard p steps s t (Ok x) h e other = h
faults_heard p steps s t (Err (TooLarge n which)) h e other = e.1
faults_heard p steps s t (Err (Spent n)) h e other = e.1
faults_heard p steps s t (Err TooLong) h e other = e.1
faults_heard p steps s t (Err WriteFault) h e other = absurd (other refl)
faults_heard p steps s t (Err NoMemory) h e other = e.1
