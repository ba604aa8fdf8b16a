-- Where a checker stands for pieces they meet no stop.
use Rattle.std.proofs.Common.{◌≡◌, ◌≢◌, ℕ, suc, ◌+◌, ◌⊎◌, inl, inr, Option, Some, None, List, [], ◌∷◌, ◌++◌, map, length, append-nil, refl, sym, ◌∙◌, ap, subst, arith}
use Rattle.std.proofs.lemmas.List.{length-append, map-append}
use Rattle.geo_program.specs.Programs.{source_of}
use Rattle.proof_log.specs.declared.log.Line.{Line}
use Rattle.proof_log.specs.declared.log.Line.TheVariants.{Header, Program as ProgramLine}
use Rattle.proof_log.specs.declared.log.Verdict.{Verdict}
use Rattle.proof_log.specs.Lines.{line_text}
use Rattle.proof_log.specs.Writable.{AllWritable}
use Rattle.geo_logs.specs.Judging.{Refusal, number_of, rejected, unfinished}
use Rattle.log_checker.specs.Checked.{AreEachRead, CheckersMeetNoStop, TellsStop}
use Rattle.log_checker.specs.Checkers.{IsLeftBy}
use Rattle.log_checker.specs.Inner.Judged.{StopsNext, StopsThere}
use Rattle.log_checker.specs.Judged.{IsFirstStop}
use Rattle.log_checker.specs.Subjects.{version_number}
use Rattle.log_checker.specs.declared.due.Due.{Due}
use Rattle.log_checker.specs.declared.due.Due.TheVariants as due
use Rattle.log_checker.specs.declared.errors.CheckError.TheVariants as error
use Rattle.log_checker.specs.declared.state.State.{State}
use Rattle.log_checker.specs.declared.state.State.TheVariants as state
use Rattle.log_checker.specs.declared.work.Work.{Work}
use Rattle.log_checker.proofs.Judged.{accepted_logs_do_not_stop, one_read}
use Rattle.log_checker.proofs.JudgedAnswers.{accepted_there, bad_empty_tells, bad_tells, unfinished_empty_tells, unfinished_tells}
use Rattle.log_checker.proofs.JudgedNext.{unfinished_program}
use Rattle.log_checker.proofs.OneStop.{first_stop_is_unique}

reads_are : (lines : List Line) (reads : List (Option Line)) → AllWritable lines → AreEachRead (map line_text lines) reads → reads ≡ map Some lines
reads_are [] [] w h = refl
reads_are [] (r ∷ rs) w h = absurd h
reads_are (l ∷ ls) [] w h = absurd h
reads_are (l ∷ ls) (r ∷ rs) w h =
    let one : r ≡ Some l = one_read (line_text l) r (Some l) h.1 (w.0, refl) in
    let more = reads_are ls rs w.1 h.2 in
    λ i. one i ∷ more i

-- whatever follows the lines, this is the first stop
abbrev Meets : ℕ → List Line → ℕ → Refusal → Type 0
Meets steps lines number refusal = (more : List (Option Line)) → IsFirstStop steps (map Some lines ++ more) number refusal

-- so it is where nothing follows
meets_there : (steps n : ℕ) (lines : List Line) (refusal : Refusal) → Meets steps lines n refusal → StopsThere steps lines n refusal
meets_there steps n lines refusal s = subst (λ rs. IsFirstStop steps rs n refusal) (append-nil (map Some lines)) (s [])

-- a log that ends there and one that goes on are not refused for two reasons
one_reason : (steps n : ℕ) (lines : List Line) (refusal : Refusal) (k j a b : ℕ) → Meets steps lines n refusal → TellsStop (StopsThere steps lines) (error.Rejected k a)
    → TellsStop (StopsNext steps lines None) (error.Rejected j b) → a ≡ b
one_reason steps n lines refusal k j a b s t u =
    let one : refusal ≡ rejected t.0 = (first_stop_is_unique steps n k (map Some lines) refusal (rejected t.0) (meets_there steps n lines refusal s) t.2).1 in
    let other : refusal ≡ rejected u.0 = (first_stop_is_unique steps n j (map Some lines ++ None ∷ []) refusal (rejected u.0) (s (None ∷ [])) (u.2 [])).1 in
    let both : rejected t.0 ≡ rejected u.0 = sym one ∙ other in
    let same : t.0 ≡ u.0 = cc in t.1 ∙ ap number_of same ∙ sym u.1

empty_meets : (steps n : ℕ) (lines : List Line) (refusal : Refusal) → lines ≡ [] → Meets steps lines n refusal → ⊥
empty_meets steps n lines refusal is s =
    let e : 32 ≡ 21 =
    one_reason steps n lines refusal (suc (length lines)) (suc (length lines)) 32 21 s
    (unfinished_empty_tells steps lines (length lines) is refl) (bad_empty_tells steps lines (suc (length lines)) is refl) in
    omega (arith, e)

-- a program that goes on stops one line later
program_meets : (steps n version : ℕ) (lines : List Line) (refusal : Refusal) (texts : List (List ℕ)) → lines ≡ Header version ∷ map ProgramLine texts → Meets steps lines n refusal → ⊥
program_meets steps n version lines refusal texts is s =
    let more : List Line = lines ++ ProgramLine [] ∷ [] in
    let longer : more ≡ Header version ∷ map ProgramLine (texts ++ [] ∷ []) = ap (λ (ls : List Line). ls ++ ProgramLine [] ∷ []) is
    ∙ ap (λ (ls : List Line). Header version ∷ ls) (sym (map-append ProgramLine texts ([] ∷ []))) in
    let one : n ≡ suc (length lines) =
    (first_stop_is_unique steps n (suc (length lines)) (map Some lines) refusal (rejected unfinished) (meets_there steps n lines refusal s)
    (unfinished_program steps version texts lines (suc (length lines)) is refl)).0 in
    let there : StopsThere steps more n refusal = subst (λ rs. IsFirstStop steps rs n refusal) (sym (map-append (λ (l : Line). Some l) lines (ProgramLine [] ∷ []))) (s (Some (ProgramLine []) ∷ [])) in
    let other : n ≡ suc (length more) =
    (first_stop_is_unique steps n (suc (length more)) (map Some more) refusal (rejected unfinished) there
    (unfinished_program steps version (texts ++ [] ∷ []) more (suc (length more)) longer refl)).0 in
    let count : length more ≡ length lines + 1 = length-append lines (ProgramLine [] ∷ []) in
    omega (arith, one, other, count)

whole_or_open : (d : Due) → ((v : Verdict) × (d ≡ due.Nothing v)) ⊎ ((v : Verdict) → d ≢ due.Nothing v)
whole_or_open (due.Condition i) = inr (λ v e. cc)
whole_or_open (due.Goal i) = inr (λ v e. cc)
whole_or_open (due.Start t term) = inr (λ v e. cc)
whole_or_open (due.Step t own q) = inr (λ v e. cc)
whole_or_open (due.Sample w) = inr (λ v e. cc)
whole_or_open (due.Verdict w) = inr (λ v e. cc)
whole_or_open (due.Nothing w) = inl (w, refl)

work_meets : (steps n : ℕ) (lines : List Line) (refusal : Refusal) (w : Work) → IsLeftBy steps (state.Work w) lines → Meets steps lines n refusal → ⊥
work_meets steps n lines refusal w left s = go (whole_or_open w.due)
  where
    go : ((v : Verdict) × (w.due ≡ due.Nothing v)) ⊎ ((v : Verdict) → w.due ≢ due.Nothing v) → ⊥
    go (inl (v, e)) = accepted_logs_do_not_stop (source_of w.program) steps n lines v refusal (accepted_there steps lines w v e left).0 (meets_there steps n lines refusal s)
    go (inr going) =
        let e : 32 ≡ 21 =
        one_reason steps n lines refusal (suc (length lines)) (suc (length lines)) 32 21 s
        (unfinished_tells steps lines w (length lines) going left refl) (bad_tells steps lines w (suc (length lines)) left refl) in
        omega (arith, e)

left_meets : (steps n : ℕ) (lines : List Line) (refusal : Refusal) (s : State) → IsLeftBy steps s lines → Meets steps lines n refusal → ⊥
left_meets steps n lines refusal state.Empty is m = empty_meets steps n lines refusal is m
left_meets steps n lines refusal (state.Program version bytes) (texts, is, text) m = program_meets steps n (version_number version) lines refusal texts is m
left_meets steps n lines refusal (state.Work w) left m = work_meets steps n lines refusal w left m
left_meets steps n lines refusal (state.Failed e) left m = left

pub checkers_meet_no_stop : CheckersMeetNoStop
checkers_meet_no_stop c pieces n refusal h s =
    let reads : s.reads ≡ map Some h.lines = reads_are h.lines s.reads h.writable (subst (λ ps. AreEachRead ps s.reads) h.texts s.are_read) in
    left_meets c.steps n h.lines refusal c.state h.left (λ more. subst (λ rs. IsFirstStop c.steps (rs ++ more) n refusal) reads (s.stops more))
