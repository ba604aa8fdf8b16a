-- Answers of lines and rests, where lines leave a state.
use Rattle.std.proofs.Common.{◌≡◌, ◌≢◌, ℕ, suc, ◌≤◌, inl, inr, Option, Some, None, List, [], ◌∷◌, ◌++◌, map, length, append-nil, refl, sym, ◌∙◌, ap, ap₂, subst, arith}
use Rattle.std.proofs.lemmas.List.{length-append}
use Rattle.geo_program.specs.CanonicalText.{canonical_text}
use Rattle.geo_program.specs.Programs.{source_of}
use Rattle.std.specs.Global.{Vec}
use Rattle.geo_lowering.specs.declared.version.Version.{Version}
use Rattle.proof_log.specs.declared.log.Line.{Line}
use Rattle.proof_log.specs.declared.log.Line.TheVariants.{Header, Program as ProgramLine}
use Rattle.proof_log.specs.declared.log.Verdict.{Verdict}
use Rattle.proof_log.specs.Lines.{line_text, log_text}
use Rattle.proof_log.specs.Writable.{AllWritable}
use Rattle.geo_logs.specs.Places.{first_lines}
use Rattle.elim_apply.specs.LemmaTable.{lemma_table}
use Rattle.geo_logs.specs.Judging.{Refusal, bad_line, rejected, unfinished}
use Rattle.geo_logs.proofs.Charges.{charges_spent}
use Rattle.log_checker.specs.Checked.{TellsStop}
use Rattle.log_checker.specs.Checkers.{IsAtWork, IsDue, IsLeftBy, head_of, subject_of, with_feeds}
use Rattle.log_checker.specs.Inner.Judged.{BeginsWith, GoesOnWith, IsFirstRefused, IsNextState, IsNoProgram, IsRefusedWork, Leaves, StopsNext, StopsThere}
use Rattle.log_checker.specs.Inner.Lines.{GoesOn, IsRefusedAfter, Tells}
use Rattle.log_checker.specs.Inner.Stops.{numbered, reason_of}
use Rattle.log_checker.specs.Judged.{IsProgramOver}
use Rattle.log_checker.specs.Laws.{IsAcceptedLog}
use Rattle.log_checker.specs.Subjects.{source_lines, version_number}
use Rattle.log_checker.specs.declared.errors.CheckError.{CheckError}
use Rattle.log_checker.specs.declared.errors.CheckError.TheVariants as error
use Rattle.log_checker.specs.declared.state.State.TheVariants as state
use Rattle.log_checker.specs.declared.stops.Stop.{Stop}
use Rattle.log_checker.specs.declared.stops.Stop.TheVariants as stop
use Rattle.log_checker.specs.declared.work.Work.{Work}
use Rattle.log_checker.specs.declared.due.Due.TheVariants as due
use Rattle.log_checker.proofs.DueChains.{stands_open}
use Rattle.log_checker.proofs.DueRefusals.{tells_map}
use Rattle.log_checker.proofs.JudgedNext.{accepted_work, bad_header, bad_next, first_next, no_program, program_next, over_behind}
use Rattle.log_checker.proofs.JudgedNext.{refused_next, unfinished_empty, unfinished_program, unfinished_work, work_next}
use Rattle.log_checker.proofs.ProgramTexts.{lines_of_text, texts_one_line, texts_shorter}

-- STOPS WITH A NUMBER
pub tells_numbered : (P : ℕ → Refusal → Type 0) (number : ℕ) (s : Stop) → Tells (P number) s → TellsStop P (numbered number s)
tells_numbered P number (stop.Rejected r) h = (reason_of r, refl, h)
tells_numbered P number (stop.TooLarge which) h = h
tells_numbered P number stop.Spent h = h
tells_numbered P number stop.NoMemory h = tt

pub tells_stop_map : (P Q : ℕ → Refusal → Type 0) → ((n : ℕ) (r : Refusal) → P n r → Q n r) → (e : CheckError) → TellsStop P e → TellsStop Q e
tells_stop_map P Q f (error.Rejected line reason) h = (h.0, h.1, f line _ h.2)
tells_stop_map P Q f (error.TooLarge line which) h = f line _ h
tells_stop_map P Q f (error.Spent line) h = f line _ h
tells_stop_map P Q f error.NoMemory h = tt

-- the work refuses what its line is refused for
pub work_tells : (w : Work) (steps : ℕ) (good : List Line) (read : Option Line) (number : ℕ) (s : Stop)
    → Tells (IsRefusedAfter (subject_of (head_of w) w.problem) steps good read) s → TellsStop (IsRefusedWork w steps good read number) (numbered number s)
work_tells w steps good read number s h =
    tells_numbered (IsRefusedWork w steps good read number) number s
    (tells_map (IsRefusedAfter (subject_of (head_of w) w.problem) steps good read) (IsRefusedWork w steps good read number number) (λ r g. record { at = refl; refused = g }) s h)

-- BEHIND THE PROGRAM
-- where lines leave the text of a program, it is short enough
pub program_fits : (version : ℕ) (texts : List (List ℕ)) (lines : List Line) (items : List ℕ)
    → lines ≡ Header version ∷ map ProgramLine texts → items ≡ with_feeds texts → length (log_text lines) ≤ 67108864
    → length items ≤ 67108864
program_fits version texts lines items is e fits =
    let a : length (log_text lines) ≡ length (log_text (Header version ∷ map ProgramLine texts)) = ap (λ (ls : List Line). length (log_text ls)) is in
    let b = length-append (line_text (Header version) ++ 10 ∷ []) (log_text (map ProgramLine texts)) in
    let c : length items ≡ length (with_feeds texts) = ap length e in
    omega (arith, a, b, c, texts_shorter texts, fits)

-- the lines of the program that was tested
pub program_lines : (w : Work) (version : ℕ) (texts : List (List ℕ)) (lines : List Line) (items : List ℕ) (steps : ℕ) → AllWritable lines
    → lines ≡ Header version ∷ map ProgramLine texts → items ≡ with_feeds texts
    → canonical_text (source_of w.program) ≡ items → IsAtWork w steps [] → source_lines (source_of w.program) ≡ texts
program_lines w version texts lines items steps writable is e text at =
    lines_of_text (source_of w.program) texts at.well_formed (texts_one_line texts (subst AllWritable is writable).1) (text ∙ e)

first_there : (w : Work) (version : Version) (texts : List (List ℕ)) (lines : List Line)
    → lines ≡ Header (version_number version) ∷ map ProgramLine texts → w.version ≡ version → source_lines (source_of w.program) ≡ texts
    → lines ≡ first_lines (subject_of (head_of w) w.problem) ++ []
first_there w version texts lines is number same =
    is ∙ ap₂ (λ (v : Version) (ts : List (List ℕ)). Header (version_number v) ∷ map ProgramLine ts) (sym number) (sym same)
    ∙ ap (λ (ls : List Line). Header (version_number w.version) ∷ ls) (sym (append-nil (map ProgramLine (source_lines (source_of w.program)))))

-- what is read behind the program is refused
pub first_tells : (steps : ℕ) (lines : List Line) (version : Version) (program : Vec ℕ) (read : Option Line) (number : ℕ) (e : CheckError)
    → Leaves steps lines (state.Program version program) → number ≡ suc (length lines)
    → ((more : List (Option Line)) → IsProgramOver (read ∷ more)) → TellsStop (IsFirstRefused version program.items steps read number) e → TellsStop (StopsNext steps lines read) e
first_tells steps lines version program read number e leaves count over h = tells_stop_map (IsFirstRefused version program.items steps read number) (StopsNext steps lines read) (go leaves.left) e h
  where
    go : IsLeftBy steps (state.Program version program) lines → (n : ℕ) (r : Refusal) → IsFirstRefused version program.items steps read number n r → StopsNext steps lines read n r
    go (texts, is, text) n r (inl none) = no_program steps (version_number version) texts lines read n r is over (subst (λ bs. IsNoProgram bs n r) text none)
    go (texts, is, text) n r (inr (w, begun, refused)) =
        let there = program_lines w (version_number version) texts lines program.items steps leaves.writable is text begun.text begun.begun in
        refused_next w steps [] lines begun.begun (first_there w version texts lines is begun.version-is there) read number n r count over refused

-- a line behind the program goes on
pub first_goes : (steps : ℕ) (lines : List Line) (version : Version) (program : Vec ℕ) (line : Line) (w' : Work)
    → Leaves steps lines (state.Program version program) → ((text : List ℕ) → line ≢ ProgramLine text)
    → BeginsWith version program.items steps (Some line) w' → IsNextState steps lines (Some line) (state.Work w')
first_goes steps lines version program line w' leaves other h = go leaves.left
  where
    go : IsLeftBy steps (state.Program version program) lines → IsNextState steps lines (Some line) (state.Work w')
    go (texts, is, text) =
        let there = program_lines h.work (version_number version) texts lines program.items steps leaves.writable is text h.begun.text h.begun.begun in
        let q : ◌≡◌ {A = Option Line} (Some line) (Some h.goes.line) = h.goes.is_read in
        let same : h.goes.line ≡ line = cc in
        record {
          line = line;
          is_read = refl;
          left = first_next steps version texts h.work w' lines line is h.begun.version-is there other h.begun.begun (subst (λ l. GoesOn h.work l w') same h.goes.goes);
        }

-- no program goes on with another line
pub over_line : (line : Line) (more : List (Option Line)) → ((text : List ℕ) → line ≢ ProgramLine text) → IsProgramOver (Some line ∷ more)
over_line (ProgramLine text) more n = absurd (n text refl)
over_line line more n = tt

-- nothing goes on with what is no line
pub none_begins : (version : Version) (bytes : List ℕ) (steps : ℕ) (w' : Work) → BeginsWith version bytes steps None w' → ⊥
none_begins version bytes steps w' h = let q : ◌≡◌ {A = Option Line} None (Some h.goes.line) = h.goes.is_read in cc

-- a line more of the program
pub line_more : (steps : ℕ) (lines : List Line) (version : Version) (program program' : Vec ℕ) (text : List ℕ)
    → Leaves steps lines (state.Program version program) → program'.items ≡ program.items ++ (text ++ 10 ∷ [])
    → IsNextState steps lines (Some (ProgramLine text)) (state.Program version program')
line_more steps lines version program program' text leaves e = go leaves.left
  where
    go : IsLeftBy steps (state.Program version program) lines → IsNextState steps lines (Some (ProgramLine text)) (state.Program version program')
    go (texts, is, same) =
        record { line = ProgramLine text; is_read = refl; left = program_next steps (version_number version) texts lines text program'.items is (e ∙ ap (λ bs. bs ++ (text ++ 10 ∷ [])) same) }

pub program_short : (steps : ℕ) (lines : List Line) (version : Version) (program : Vec ℕ) → Leaves steps lines (state.Program version program) → length program.items ≤ 67108864
program_short steps lines version program leaves = go leaves.left
  where
    go : IsLeftBy steps (state.Program version program) lines → length program.items ≤ 67108864
    go (texts, is, e) = program_fits (version_number version) texts lines program.items is e leaves.fits

-- the work goes on with a line
pub work_goes : (steps : ℕ) (lines : List Line) (w w' : Work) (read : Option Line) → Leaves steps lines (state.Work w) → GoesOnWith w read w' → IsNextState steps lines read (state.Work w')
work_goes steps lines w w' read leaves h = record { line = h.line; is_read = h.is_read; left = work_next steps w w' lines h.line leaves.left h.goes }

-- the work refuses what is no line
pub bad_refused : (w : Work) (steps : ℕ) (good : List Line) (number : ℕ) → IsAtWork w steps good → IsRefusedWork w steps good None number number (rejected bad_line)
bad_refused w steps good number at = bad_next w steps good (first_lines (subject_of (head_of w) w.problem) ++ good) at refl number

-- BEHIND LINES
pub next_tells : (steps : ℕ) (lines : List Line) (w : Work) (read : Option Line) (number : ℕ) (e : CheckError) → IsLeftBy steps (state.Work w) lines → number ≡ suc (length lines)
    → ((good : List Line) → IsAtWork w steps good → TellsStop (IsRefusedWork w steps good read number) e) → TellsStop (StopsNext steps lines read) e
next_tells steps lines w read number e (good, is, some, over, at) count h =
    tells_stop_map (IsRefusedWork w steps good read number) (StopsNext steps lines read)
    (λ n r g. refused_next w steps good lines at is read number n r count (over_behind good some over read) g) e (h good at)

pub bad_tells : (steps : ℕ) (lines : List Line) (w : Work) (number : ℕ) → IsLeftBy steps (state.Work w) lines → number ≡ suc (length lines)
    → TellsStop (StopsNext steps lines None) (error.Rejected number 21)
bad_tells steps lines w number (good, is, some, over, at) count =
    (bad_line, refl, refused_next w steps good lines at is None number number (rejected bad_line) count (over_behind good some over None) (bad_next w steps good lines at is number))

pub unfinished_tells : (steps : ℕ) (lines : List Line) (w : Work) (count : ℕ) → ((v : Verdict) → w.due ≢ due.Nothing v) → IsLeftBy steps (state.Work w) lines → count ≡ length lines
    → TellsStop (StopsThere steps lines) (error.Rejected (suc count) 32)
unfinished_tells steps lines w count n (good, is, some, over, at) e =
    let there = stands_open (subject_of (head_of w) w.problem) steps w.evidence w.due good n at.is_due in
    (unfinished, refl, unfinished_work w steps good lines at is (suc count) (ap suc e) some over there.0 there.1)

pub unfinished_program_tells : (steps version : ℕ) (texts : List (List ℕ)) (lines : List Line) (count : ℕ) → lines ≡ Header version ∷ map ProgramLine texts → count ≡ length lines
    → TellsStop (StopsThere steps lines) (error.Rejected (suc count) 32)
unfinished_program_tells steps version texts lines count is e = (unfinished, refl, unfinished_program steps version texts lines (suc count) is (ap suc e))

pub unfinished_program_leaves : (steps : ℕ) (lines : List Line) (version : Version) (program : Vec ℕ) (count : ℕ) → Leaves steps lines (state.Program version program) → count ≡ length lines
    → TellsStop (StopsThere steps lines) (error.Rejected (suc count) 32)
unfinished_program_leaves steps lines version program count leaves e = go leaves.left
  where
    go : IsLeftBy steps (state.Program version program) lines → TellsStop (StopsThere steps lines) (error.Rejected (suc count) 32)
    go (texts, is, text) = unfinished_program_tells steps (version_number version) texts lines count is e

pub bad_empty_tells : (steps : ℕ) (lines : List Line) (number : ℕ) → lines ≡ [] → number ≡ suc (length lines) → TellsStop (StopsNext steps lines None) (error.Rejected number 21)
bad_empty_tells steps lines number is e =
    let one : number ≡ 1 = e ∙ ap (λ (ls : List Line). suc (length ls)) is in
    (bad_line, refl, subst (λ (ls : List Line). StopsNext steps ls None number (rejected bad_line)) (sym is) (subst (λ n. StopsNext steps [] None n (rejected bad_line)) (sym one) (bad_header steps)))

pub unfinished_empty_tells : (steps : ℕ) (lines : List Line) (count : ℕ) → lines ≡ [] → count ≡ length lines → TellsStop (StopsThere steps lines) (error.Rejected (suc count) 32)
unfinished_empty_tells steps lines count is e =
    let none : count ≡ 0 = e ∙ ap length is in (
      unfinished,
      refl,
      subst (λ (ls : List Line). StopsThere steps ls (suc count) (rejected unfinished)) (sym is)
          (subst (λ n. StopsThere steps [] (suc n) (rejected unfinished)) (sym none) (unfinished_empty steps)),
    )

-- THE ANSWER
-- what is left behind the verdict, and the accepted log
pub accepted_there : (steps : ℕ) (lines : List Line) (w : Work) (v : Verdict) → w.due ≡ due.Nothing v → IsLeftBy steps (state.Work w) lines
    → (a : IsAcceptedLog (source_of w.program) steps lines v) × (a.left ≡ w.evidence.budget.left) × (w.evidence.budget.left ≤ steps) × (a.subject.version ≡ version_number w.version)
accepted_there steps lines w v is_over (good, is, some, over, at) =
    let s = subject_of (head_of w) w.problem in
    let whole = subst (λ d. IsDue s steps w.evidence d good) is_over at.is_due in
    let a = accepted_work w steps good lines at is v whole in
    (a, refl, charges_spent lemma_table s steps w.evidence.budget.left lines v a.accepted, refl)
