-- What is read of bytes is an accepted log, or it has a first stop.
use Rattle.std.proofs.Common.{◌≡◌, ◌≢◌, ℕ, suc, ◌+◌, ◌≤◌, ◌⊎◌, inl, inr, ⊎_elim, Option, Some, None, List, [], ◌∷◌, ◌++◌, map, length, append-nil, refl, sym, ◌∙◌, ap, ap₂, subst, arith}
use Rattle.std.specs.Prelude.{codes}
use Rattle.std.specs.List.{AllByRecursion, flat_map}
use Rattle.std.proofs.lemmas.List.{append_assoc, length-append}
use Rattle.geo_program.specs.CanonicalText.{canonical_text}
use Rattle.geo_program.specs.WellFormed.{IsWellFormed, Source}
use Rattle.proof_log.specs.declared.log.Line.{Line}
use Rattle.proof_log.specs.declared.log.Line.TheVariants.{Header, Program as ProgramLine}
use Rattle.proof_log.specs.declared.log.Verdict.{Verdict}
use Rattle.proof_log.specs.Lines.{line_text, log_text}
use Rattle.proof_log.specs.Writable.{AllWritable, HasNoLineFeed}
use Rattle.elim_apply.specs.LemmaTable.{lemma_table}
use Rattle.geo_logs.specs.Chains.{IsAcceptedChain, LeadsTo}
use Rattle.geo_logs.specs.Judging.{IsFirstRefusal, IsGoodSoFar, IsGoodToEnd, IsRefused, Refusal, bad_line, number_after, rejected, unfinished, wrong_line, wrong_program}
use Rattle.geo_logs.specs.Logs.{Subject}
use Rattle.geo_logs.specs.Places.{Place}
use Rattle.geo_logs.specs.Samples.{IsAcceptedSample}
use Rattle.log_checker.specs.Accepted.{Accepts, IsShortProgram}
use Rattle.log_checker.specs.Judged.{AcceptedWhereNotRefused, AreRead, BeginsWithProgram, BytesAreJudged, GoesOnWith, IsFirstStop, IsJudged}
use Rattle.log_checker.specs.Judged.{IsProgramOver, IsReadable, Refuses, RestsAreJudged}
use Rattle.log_checker.specs.Subjects.{IsSubjectOf, source_lines}
use Rattle.log_checker.proofs.AcceptedBytes.{programs_have_subjects, text_of_lines}
use Rattle.log_checker.proofs.VersionNumbers.{version_told}
use Rattle.log_checker.proofs.Judged.{accepted_bytes_are_not_refused}
use Rattle.log_checker.proofs.ReadLines.{bytes_are_read}
use Rattle.log_checker.proofs.Onwards.{conditions_start}
use Rattle.log_checker.proofs.ProgramTexts.{IsOfProgramOrNone, of_program_or_none}
use Rattle.log_checker.proofs.Stepping.{Ends, closed, lines_go_on_or_are_refused}

-- BEHIND THE PROGRAM
regrouped : (good : List Line) (line : Line) (reads : List (Option Line)) → map Some (good ++ line ∷ []) ++ reads ≡ map Some good ++ Some line ∷ reads
regrouped [] line reads = refl
regrouped (g ∷ good) line reads = ap (λ (rs : List (Option Line)). Some g ∷ rs) (regrouped good line reads)

module _ (p : Source) (subject : Subject) (steps : ℕ) (w : IsWellFormed p) (s : IsSubjectOf p subject) where
  abbrev Judged : List (Option Line) → Type 0
  Judged reads = IsJudged subject steps reads

  -- something follows a whole log, or nothing does
  behind_whole : (good : List Line) (reads : List (Option Line)) → IsGoodToEnd lemma_table subject steps good → Judged (map Some good ++ reads)
  behind_whole good [] h = inl (good, append-nil (map Some good), h)
  behind_whole good (None ∷ reads) h =
      inr (number_after lemma_table subject steps good, rejected bad_line, inr (inl (record { good = good; read = None; more = reads; split = refl; counted = refl; whole = h; refused = refl })))
  behind_whole good (Some line ∷ reads) h =
      inr (
        number_after lemma_table subject steps good,
        rejected wrong_line,
        inr (inl (record { good = good; read = Some line; more = reads; split = refl; counted = refl; whole = h; refused = refl })),
      )

  judged_from : (good : List Line) (place : Place) (reads : List (Option Line)) → IsGoodSoFar lemma_table subject steps good place → AllByRecursion IsReadable reads → Judged (map Some good ++ reads)
  judged_from good place [] h r =
      inr (
        number_after lemma_table subject steps good,
        rejected unfinished,
        inr (inr (record { good = good; place = place; split = append-nil (map Some good); counted = refl; stands = h; refused = refl })),
      )
  judged_from good place (None ∷ reads) h r =
      inr (
        number_after lemma_table subject steps good,
        rejected bad_line,
        inl (record { good = good; place = place; read = None; more = reads; split = refl; counted = refl; stands = h; refused = refl }),
      )
  judged_from good place (Some line ∷ reads) h r =
      by (lines_go_on_or_are_refused p subject steps good place line w s h r.0) (λ next k. judged_from (good ++ line ∷ []) next reads k r.1)
    where
      by : GoesOnWith subject steps good line ⊎ ((refusal : Refusal) × IsRefused lemma_table subject.construction place (Some line) refusal)
          → ((next : Place) → IsGoodSoFar lemma_table subject steps (good ++ line ∷ []) next → Judged (map Some (good ++ line ∷ []) ++ reads))
          → Judged (map Some good ++ Some line ∷ reads)
      by (inl (inl g)) again = subst Judged (regrouped good line reads) (again g.0 g.1)
      by (inl (inr whole)) again = subst Judged (regrouped good line reads) (behind_whole (good ++ line ∷ []) reads whole)
      by (inr bad) again =
          inr (
            number_after lemma_table subject steps good,
            bad.0,
            inl (record { good = good; place = place; read = Some line; more = reads; split = refl; counted = refl; stands = h; refused = bad.1 }),
          )

pub rests_are_judged : RestsAreJudged
rests_are_judged p subject steps reads w s r =
    let c = subject.construction in
    let start = conditions_start (LeadsTo lemma_table c) (IsAcceptedChain lemma_table c) (IsAcceptedSample c) (Ends c) (closed c) subject.goals [] [] 1 steps subject.conditions in
    judged_from p subject steps w s [] start.0 reads start.1 r

-- READING
-- what is read of bytes is readable
readable : (bytes : List ℕ) (reads : List (Option Line)) → AreRead bytes reads → AllByRecursion IsReadable reads
readable bytes [] h = tt
readable bytes (None ∷ reads) (inl (first, h)) = (tt, readable first.rest reads h)
readable bytes (Some line ∷ reads) (inl (first, h)) = (first.is_read.0, readable first.rest reads h)
readable bytes (None ∷ reads) (inr h) = (tt, subst (AllByRecursion IsReadable) (sym h.3) tt)
readable bytes (Some line ∷ reads) (inr h) = absurd (let q : ◌≡◌ {A = Option Line} (Some line) None = h.2 in cc)

-- bytes of which lines are read are their text
text_read : (bytes : List ℕ) (lines : List Line) → AreRead bytes (map Some lines) → bytes ≡ log_text lines
text_read bytes [] h = h
text_read bytes (l ∷ ls) (inl (first, h)) =
    first.split ∙ ap (λ (piece : List ℕ). piece ++ 10 ∷ first.rest) (sym first.is_read.1) ∙ ap (λ (rest : List ℕ). line_text l ++ 10 ∷ rest) (text_read first.rest ls h)
    ∙ sym (append_assoc (line_text l) (10 ∷ []) (log_text ls))
text_read bytes (l ∷ ls) (inr h) = absurd (let q : ◌≡◌ {A = Option Line} (Some l) None = h.2 in cc)

all_writable : (lines : List Line) → AllByRecursion IsReadable (map Some lines) → AllWritable lines
all_writable [] h = tt
all_writable (l ∷ ls) h = (h.0, all_writable ls h.1)

-- THE PROGRAM
-- a text with its line feed
abbrev with_feed : List ℕ → List ℕ
with_feed text = text ++ 10 ∷ []

-- the texts that are read of bytes are no longer than these
texts_fit : (bytes : List ℕ) (texts : List (List ℕ)) (rest : List (Option Line)) → AreRead bytes (map (λ text. Some (ProgramLine text)) texts ++ rest)
    → length (flat_map with_feed texts) ≤ length bytes
texts_fit bytes [] rest h = omega arith
texts_fit bytes (t ∷ ts) rest (inl (first, h)) =
    let more = texts_fit first.rest ts rest h in
    let whole : length bytes ≡ length (first.piece ++ 10 ∷ first.rest) = ap length first.split in
    let parts = length-append first.piece (10 ∷ first.rest) in
    let piece : length (codes "| " ++ t) ≡ length first.piece = ap length first.is_read.1 in
    let mark = length-append (codes "| ") t in
    let text : length (flat_map with_feed (t ∷ ts)) ≡ length (t ++ 10 ∷ []) + length (flat_map with_feed ts) = length-append (t ++ 10 ∷ []) (flat_map with_feed ts) in
    let line : length (t ++ 10 ∷ []) ≡ length t + 1 = length-append t (10 ∷ []) in
    omega (arith, more, whole, parts, piece, mark, text, line)
texts_fit bytes (t ∷ ts) rest (inr h) = absurd (let q : ◌≡◌ {A = Option Line} (Some (ProgramLine t)) None = h.2 in cc)

-- the lines of the program, and what follows them
record IsParted (reads : List (Option Line)) : Type 0 where
  texts : List (List ℕ)
  rest : List (Option Line)
  split : reads ≡ map (λ text. Some (ProgramLine text)) texts ++ rest
  over : IsProgramOver rest

parted : (reads : List (Option Line)) → IsParted reads
parted [] = record { texts = []; rest = []; split = refl; over = tt }
parted (None ∷ reads) = record { texts = []; rest = None ∷ reads; split = refl; over = tt }
parted (Some (ProgramLine text) ∷ reads) =
    let h = parted reads in
    record { texts = text ∷ h.texts; rest = h.rest; split = ap (λ (rs : List (Option Line)). Some (ProgramLine text) ∷ rs) h.split; over = h.over }
parted (Some line ∷ reads) = record { texts = []; rest = Some line ∷ reads; split = refl; over = tt }

behind_header : (bytes : List ℕ) (line : Line) (header : Option Line) (reads : List (Option Line)) → AreRead bytes (header ∷ reads) → header ≡ Some line
    → (rest : List ℕ) × (length rest ≤ length bytes) × AreRead rest reads
behind_header bytes line header reads (inl (first, h)) e = (
  first.rest,
  (let whole : length bytes ≡ length (first.piece ++ 10 ∷ first.rest) = ap length first.split in
      let parts = length-append first.piece (10 ∷ first.rest) in omega (arith, whole, parts)),
  h,
)
behind_header bytes line header reads (inr h) e = absurd (let q : ◌≡◌ {A = Option Line} None (Some line) = sym h.2 ∙ e in cc)

-- WHOLE LOGS
module _ (bytes : List ℕ) (steps : ℕ) where
  abbrev Outcome : Type 0
  Outcome = ((p : Source) × (verdict : Verdict) × Accepts bytes steps p verdict) ⊎ ((number : ℕ) × (refusal : Refusal) × Refuses bytes steps number refusal)

  stop : (reads : List (Option Line)) (number : ℕ) (refusal : Refusal) → AreRead bytes reads → IsFirstStop steps reads number refusal → Outcome
  stop reads number refusal h s = inr (number, refusal, record { reads = reads; are_read = h; stops = s })

  module _ (reads : List (Option Line)) (are : AreRead bytes reads) (first : BeginsWithProgram reads) (small : length bytes ≤ 268435456) where
    -- the texts behind the header are short
    short : (p : Source) → IsWellFormed p → source_lines p ≡ first.texts → IsShortProgram p
    short p w e =
        let behind = behind_header bytes (Header first.version) (Some (Header first.version))
        (map (λ text. Some (ProgramLine text)) first.texts ++ first.rest) (subst (AreRead bytes) first.split are) refl in
        let fit = texts_fit behind.0 first.texts first.rest behind.2 in
        let text : length (flat_map with_feed first.texts) ≡ length (canonical_text p) = ap length (ap (flat_map with_feed) (sym e) ∙ text_of_lines p) in
        record { well_formed = w; short = let b = behind.1 in omega (arith, b, fit, text, small) }

    accepted : (p : Source) (subject : Subject) (good : List Line) → IsWellFormed p → source_lines p ≡ first.texts → IsSubjectOf p subject
        → subject.version ≡ first.version → first.rest ≡ map Some good
        → IsGoodToEnd lemma_table subject steps good → Outcome
    accepted p subject good w e s number same (verdict, left, worked) =
        let lines = Header subject.version ∷ map ProgramLine subject.program ++ good in
        let whole : reads ≡ map Some lines = first.split ∙ joined in
        let h : AreRead bytes (map Some lines) = subst (AreRead bytes) whole are in
        inl (
          p,
          verdict,
          record {
            lines = lines;
            writable = all_writable lines (readable bytes (map Some lines) h);
            written = text_read bytes lines h;
            accepted = record { well_formed = w; subject = subject; about = s; left = left; accepted = record { rest = good; split = refl; worked = worked } };
          },
        )
      where
        mapped : (texts : List (List ℕ)) → map (λ text. Some (ProgramLine text)) texts ++ map Some good ≡ map Some (map ProgramLine texts ++ good)
        mapped [] = refl
        mapped (t ∷ ts) = ap (λ (rs : List (Option Line)). Some (ProgramLine t) ∷ rs) (mapped ts)

        joined : Some (Header first.version) ∷ map (λ text. Some (ProgramLine text)) first.texts ++ first.rest ≡ map Some (Header subject.version ∷ map ProgramLine subject.program ++ good)
        joined =
            ap (λ (rs : List (Option Line)). Some (Header first.version) ∷ map (λ text. Some (ProgramLine text)) first.texts ++ rs) same
            ∙ ap₂ (λ (n : ℕ) (ts : List (List ℕ)). Some (Header n) ∷ map (λ text. Some (ProgramLine text)) ts ++ map Some good) (sym number) (sym e ∙ sym s.same_program)
            ∙ ap (λ (rs : List (Option Line)). Some (Header subject.version) ∷ rs) (mapped subject.program)

    of_program : first.rest ≢ [] → (p : Source) → IsWellFormed p → source_lines p ≡ first.texts → AllByRecursion IsReadable first.rest → Outcome
    of_program some p w e r =
        let told = version_told first.version (subst (AllByRecursion IsReadable) first.split (readable bytes reads are)).0 in
        let found = programs_have_subjects told.0 p (short p w e) in
        let number = found.2 ∙ told.1 in
        ⊎_elim
        (λ (h : (good : List Line) × (first.rest ≡ map Some good) × IsGoodToEnd lemma_table found.0 steps good). accepted p found.0 h.0 w e found.1 number h.1 h.2)
        (λ (h : (number : ℕ) × (refusal : Refusal) × IsFirstRefusal lemma_table found.0 steps first.rest number refusal).
        stop reads h.0 h.1 are
        (inr (first, inr (inr (record { something = some; program = p; well_formed = w; written = e; subject = found.0; about = found.1; same_version = number; refused = h.2 })))))
        (rests_are_judged p found.0 steps first.rest w found.1 r)

    of_texts : first.rest ≢ [] → IsOfProgramOrNone first.texts → AllByRecursion IsReadable first.rest → Outcome
    of_texts some (inl h) r = of_program some h.0 h.1 h.2 r
    of_texts some (inr none) r = stop reads 2 (rejected wrong_program) are (inr (first, inr (inl (record { something = some; wrong = none; counted = refl; refused = refl }))))

    behind_program : (rest : List (Option Line)) → first.rest ≡ rest → IsOfProgramOrNone first.texts → AllByRecursion IsReadable first.rest → Outcome
    behind_program [] e d r =
        stop reads (suc (suc (length first.texts))) (rejected unfinished) are (inr (first, inl (record { nothing = e; counted = refl; refused = refl })))
    behind_program (x ∷ xs) e d r = of_texts (λ none. let q : ◌≡◌ {A = List (Option Line)} (x ∷ xs) [] = sym e ∙ none in cc) d r

-- what is read behind the program's lines is readable
rest_readable : (texts : List (List ℕ)) (rest : List (Option Line)) → AllByRecursion IsReadable (map (λ text. Some (ProgramLine text)) texts ++ rest) → AllByRecursion IsReadable rest
rest_readable [] rest h = h
rest_readable (t ∷ ts) rest h = rest_readable ts rest h.1

-- and each text of them has no line feed
texts_readable : (texts : List (List ℕ)) (rest : List (Option Line)) → AllByRecursion IsReadable (map (λ text. Some (ProgramLine text)) texts ++ rest) → AllByRecursion HasNoLineFeed texts
texts_readable [] rest h = tt
texts_readable (t ∷ ts) rest h = (h.0, texts_readable ts rest h.1)

judged_reads : (bytes : List ℕ) (steps : ℕ) (reads : List (Option Line)) → AreRead bytes reads → length bytes ≤ 268435456 → Outcome bytes steps
judged_reads bytes steps reads are small = go reads are
  where
    go : (rs : List (Option Line)) → AreRead bytes rs → Outcome bytes steps
    go [] h = stop bytes steps [] 1 (rejected unfinished) h (inl (refl, refl))
    go (None ∷ rs) h = stop bytes steps (None ∷ rs) 1 (rejected bad_line) h (inl (refl, refl))
    go (Some (Header version) ∷ rs) h =
        let parts = parted rs in
        let first : BeginsWithProgram (Some (Header version) ∷ rs) =
        record { version = version; texts = parts.texts; rest = parts.rest; split = ap (λ (ys : List (Option Line)). Some (Header version) ∷ ys) parts.split; over = parts.over } in
        let all = subst (AllByRecursion IsReadable) parts.split (readable bytes (Some (Header version) ∷ rs) h).1 in
        let known = of_program_or_none parts.texts (texts_readable parts.texts parts.rest all) in
        behind_program bytes steps (Some (Header version) ∷ rs) h first small parts.rest refl known (rest_readable parts.texts parts.rest all)
    go (Some line ∷ rs) h = stop bytes steps (Some line ∷ rs) 1 (rejected wrong_line) h (inl (refl, refl))

pub bytes_are_judged : BytesAreJudged
bytes_are_judged bytes steps small = let read = bytes_are_read bytes in judged_reads bytes steps read.0 read.1 small

pub accepted_where_not_refused : AcceptedWhereNotRefused
accepted_where_not_refused bytes steps small = (only, (λ none. where_not (bytes_are_judged bytes steps small) none))
  where
    only : (p : Source) × (verdict : Verdict) × Accepts bytes steps p verdict → (number : ℕ) (refusal : Refusal) → Refuses bytes steps number refusal → ⊥
    only (p, verdict, a) number refusal r = accepted_bytes_are_not_refused bytes steps number p verdict refusal a r

    where_not : Outcome bytes steps → ((number : ℕ) (refusal : Refusal) → Refuses bytes steps number refusal → ⊥) → (p : Source) × (verdict : Verdict) × Accepts bytes steps p verdict
    where_not (inl a) none = a
    where_not (inr r) none = absurd (none r.0 r.1 r.2)
