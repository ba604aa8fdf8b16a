-- What stops at the next line, and what goes on with it, where lines leave a state.
use Rattle.std.proofs.Common.{◌≡◌, ◌≢◌, ℕ, suc, ◌⊎◌, inl, inr, Option, Some, None, List, [], ◌∷◌, ◌++◌, map, length, append-nil, append_assoc, refl, sym, ◌∙◌, ap, ap₂, subst}
use Rattle.std.proofs.lemmas.List.{length-append, map-append}
use Rattle.geo_program.specs.Programs.{source_of}
use Rattle.geo_program.specs.WellFormed.{Source}
use Rattle.geo_lowering.specs.declared.version.Version.{Version}
use Rattle.proof_log.specs.declared.log.Line.{Line}
use Rattle.proof_log.specs.declared.log.Line.TheVariants.{Header, Program as ProgramLine}
use Rattle.proof_log.specs.declared.log.Verdict.{Verdict}
use Rattle.elim_apply.specs.LemmaTable.{lemma_table}
use Rattle.geo_logs.specs.Judging.{IsFirstRefusal, IsGoodSoFar, IsGoodToEnd, Refusal, bad_line, number_after, rejected, unfinished, wrong_line}
use Rattle.geo_logs.specs.Logs.{Subject}
use Rattle.geo_logs.specs.Places.{Place, first_lines}
use Rattle.log_checker.specs.Checkers.{IsAtWork, IsLeftBy, IsWhole, head_of, subject_of, with_feeds}
use Rattle.log_checker.specs.Inner.Judged.{IsNoProgram, IsRefusedWork, StopsNext, StopsThere}
use Rattle.log_checker.specs.Inner.Lines.{GoesOn, IsRefusedAfter}
use Rattle.log_checker.specs.Judged.{BeginsWithProgram, IsFirstStop, IsHeaderRefused, IsProgramOver}
use Rattle.log_checker.specs.Laws.{IsAcceptedLog}
use Rattle.log_checker.specs.Subjects.{IsSubjectOf, source_lines, version_number}
use Rattle.log_checker.specs.declared.state.State.TheVariants as state
use Rattle.log_checker.specs.declared.work.Work.{Work}
use Rattle.log_checker.proofs.DueChains.{stands}
use Rattle.log_checker.proofs.DueProblems.{about}
use Rattle.log_checker.proofs.ProgramTexts.{lines_of_none, with_feeds-append}

-- THE HEADER
header_wrong : (line : Line) (more : List (Option Line)) → ((version : ℕ) → line ≢ Header version) → IsHeaderRefused (Some line ∷ more) (rejected wrong_line)
header_wrong (Header version) more n = absurd (n version refl)
header_wrong line more n = refl

pub no_header : (steps : ℕ) (line : Line) → ((version : ℕ) → line ≢ Header version) → StopsNext steps [] (Some line) 1 (rejected wrong_line)
no_header steps line n more = inl (header_wrong line more n, refl)

pub bad_header : (steps : ℕ) → StopsNext steps [] None 1 (rejected bad_line)
bad_header steps more = inl (refl, refl)

-- THE PROGRAM
abbrev programs : List (List ℕ) → List (Option Line)
programs texts = map (λ text. Some (ProgramLine text)) texts

programs_read : (texts : List (List ℕ)) → map Some (map ProgramLine texts) ≡ programs texts
programs_read [] = refl
programs_read (t ∷ texts) = ap (λ rs. Some (ProgramLine t) ∷ rs) (programs_read texts)

-- what is read of the header, the program and good lines, and then more
split_read : (version : ℕ) (texts : List (List ℕ)) (good : List Line) (more : List (Option Line))
    → map Some (Header version ∷ map ProgramLine texts ++ good) ++ more ≡ Some (Header version) ∷ (programs texts ++ (map Some good ++ more))
split_read version texts good more =
    let lines : map Some (map ProgramLine texts ++ good) ≡ programs texts ++ map Some good = map-append (λ (l : Line). Some l)
    (map ProgramLine texts) good ∙ ap (λ rs. rs ++ map Some good) (programs_read texts) in
    ap (λ rs. Some (Header version) ∷ (rs ++ more)) lines ∙ ap (λ rs. Some (Header version) ∷ rs) (append_assoc (programs texts) (map Some good) more)

abbrev begins : (version : ℕ) (texts : List (List ℕ)) (good : List Line) (more : List (Option Line)) → IsProgramOver (map Some good ++ more)
    → BeginsWithProgram (map Some (Header version ∷ map ProgramLine texts ++ good) ++ more)
begins version texts good more over = record { version = version; texts = texts; rest = map Some good ++ more; split = split_read version texts good more; over = over }

no_more : (good : List Line) (read : Option Line) (more : List (Option Line)) → map Some good ++ read ∷ more ≢ []
no_more [] read more e = cc
no_more (g ∷ good) read more e = cc

pub no_program : (steps version : ℕ) (texts : List (List ℕ)) (lines : List Line) (read : Option Line) (n : ℕ) (refusal : Refusal) → lines ≡ Header version ∷ map ProgramLine texts
    → ((more : List (Option Line)) → IsProgramOver (read ∷ more)) → IsNoProgram (with_feeds texts) n refusal → StopsNext steps lines read n refusal
no_program steps version texts lines read n refusal is over none more =
    let first = begins version texts [] (read ∷ more) (over more) in
    let there : IsFirstStop steps (map Some (Header version ∷ map ProgramLine texts ++ []) ++ read ∷ more) n refusal =
    inr (first, inr (inl (record { something = no_more [] read more; wrong = lines_of_none texts none.none; counted = none.at; refused = none.refused }))) in
    subst (λ ls. IsFirstStop steps (map Some ls ++ read ∷ more) n refusal) (ap (λ ls. Header version ∷ ls) (append-nil (map ProgramLine texts)) ∙ sym is) there

-- LINES BEHIND THE PROGRAM
module _ (w : Work) (steps : ℕ) where
  abbrev p : Source
  p = source_of w.program

  abbrev subject : Subject
  subject = subject_of (head_of w) w.problem

  module _ (good : List Line) (lines : List Line) (at : IsAtWork w steps good) (is : lines ≡ first_lines subject ++ good) where
    number_there : suc (length lines) ≡ number_after lemma_table subject steps good
    number_there = ap (λ ls. suc (length ls)) is ∙ ap suc (length-append (first_lines subject) good)

    pub subject_there : IsSubjectOf p subject
    subject_there = about w.version p w.problem at.problem

    refused_first : (read : Option Line) (more : List (Option Line)) (number : ℕ) (refusal : Refusal) → number ≡ suc (length lines) → IsRefusedAfter subject steps good read refusal
        → IsFirstRefusal lemma_table subject steps (map Some good ++ read ∷ more) number refusal
    refused_first read more number refusal e (inl h) =
        inl (record { good = good; place = h.0; read = read; more = more; split = refl; counted = e ∙ number_there; stands = h.1; refused = h.2 })
    refused_first read more number refusal e (inr h) =
        inr (inl (record { good = good; read = read; more = more; split = refl; counted = e ∙ number_there; whole = h.0; refused = h.1 }))

    pub refused_next : (read : Option Line) (number n : ℕ) (refusal : Refusal) → number ≡ suc (length lines) → ((more : List (Option Line)) → IsProgramOver (map Some good ++ read ∷ more))
        → IsRefusedWork w steps good read number n refusal → StopsNext steps lines read n refusal
    refused_next read number n refusal e over h more =
        subst (λ ls. IsFirstStop steps (map Some ls ++ read ∷ more) n refusal) (sym is)
        (inr (
          begins (version_number w.version) (source_lines p) good (read ∷ more) (over more),
          inr (inr (record {
            something = no_more good read more;
            program = p;
            well_formed = at.well_formed;
            written = refl;
            subject = subject;
            about = subject_there;
            same_version = refl;
            refused = refused_first read more n refusal (h.at ∙ e) h.refused;
          })),
        ))

    -- a bad line is refused wherever the log stands
    pub bad_next : (number : ℕ) → IsRefusedWork w steps good None number number (rejected bad_line)
    bad_next number = record { at = refl; refused = go (stands subject steps w.evidence w.due good at.is_due) }
      where
        go : ((place : Place) × IsGoodSoFar lemma_table subject steps good place) ⊎ IsGoodToEnd lemma_table subject steps good → IsRefusedAfter subject steps good None (rejected bad_line)
        go (inl h) = inl (h.0, h.1, refl)
        go (inr h) = inr (h, refl)

    -- THE END
    pub unfinished_work : (number : ℕ) → number ≡ suc (length lines) → good ≢ [] → IsProgramOver (map Some good) → (place : Place) → IsGoodSoFar lemma_table subject steps good place
        → StopsThere steps lines number (rejected unfinished)
    unfinished_work number e some over place stands_there =
        let whole : map Some (Header (version_number w.version) ∷ map ProgramLine (source_lines p) ++ good) ++ [] ≡ map Some lines =
        append-nil (map Some (Header (version_number w.version) ∷ map ProgramLine (source_lines p) ++ good)) ∙ ap (λ (ls : List Line). map Some ls) (sym is) in
        subst (λ rs. IsFirstStop steps rs number (rejected unfinished)) whole
        (inr (
          begins (version_number w.version) (source_lines p) good [] (subst IsProgramOver (sym (append-nil (map Some good))) over),
          inr (inr (record {
            something = λ none. none_read good some (sym (append-nil (map Some good)) ∙ none);
            program = p;
            well_formed = at.well_formed;
            written = refl;
            subject = subject;
            about = subject_there;
            same_version = refl;
            refused = inr (inr (record {
              good = good;
              place = place;
              split = append-nil (map Some good);
              counted = e ∙ number_there;
              stands = stands_there;
              refused = refl;
            }));
          })),
        ))
      where
        none_read : (ls : List Line) → ls ≢ [] → ◌≡◌ {A = List (Option Line)} (map Some ls) [] → ⊥
        none_read [] n none = n refl
        none_read (l ∷ ls) n none = let q : ◌≡◌ {A = List (Option Line)} (Some l ∷ map Some ls) [] = none in cc

    abbrev pub accepted_work : (verdict : Verdict) → IsWhole subject steps good verdict w.evidence.budget.left → IsAcceptedLog p steps lines verdict
    accepted_work verdict whole = record {
      well_formed = at.well_formed;
      subject = subject;
      about = subject_there;
      left = w.evidence.budget.left;
      accepted = record { rest = good; split = is; worked = whole };
    }

-- nothing came, or the program alone
pub unfinished_empty : (steps : ℕ) → StopsThere steps [] 1 (rejected unfinished)
unfinished_empty steps = inl (refl, refl)

pub unfinished_program : (steps version : ℕ) (texts : List (List ℕ)) (lines : List Line) (number : ℕ) → lines ≡ Header version ∷ map ProgramLine texts → number ≡ suc (length lines)
    → StopsThere steps lines number (rejected unfinished)
unfinished_program steps version texts lines number is e =
    let whole : Some (Header version) ∷ (programs texts ++ []) ≡ map Some lines = ap (λ rs. Some (Header version) ∷ rs)
    (append-nil (programs texts) ∙ sym (programs_read texts)) ∙ ap (λ (ls : List Line). map Some ls) (sym is) in
    let count : suc (length lines) ≡ suc (suc (length texts)) = ap (λ (ls : List Line). suc (length ls)) is ∙ ap (λ n. suc (suc n)) (texts_length texts) in
    inr (record { version = version; texts = texts; rest = []; split = sym whole; over = tt }, inl (record { nothing = refl; counted = e ∙ count; refused = refl }))
  where
    texts_length : (ts : List (List ℕ)) → length (map ProgramLine ts) ≡ length ts
    texts_length [] = refl
    texts_length (t ∷ ts) = ap suc (texts_length ts)

-- GOING ON
over_more : (good : List Line) (more : List (Option Line)) → good ≢ [] → IsProgramOver (map Some good) → IsProgramOver (map Some good ++ more)
over_more [] more n h = absurd (n refl)
over_more (ProgramLine text ∷ good) more n h = absurd h
over_more (g ∷ good) more n h = tt

pub over_behind : (good : List Line) → good ≢ [] → IsProgramOver (map Some good) → (read : Option Line) (more : List (Option Line)) → IsProgramOver (map Some good ++ read ∷ more)
over_behind good n h read more = over_more good (read ∷ more) n h

not_nil : (good : List Line) (line : Line) → good ++ line ∷ [] ≢ []
not_nil [] line e = cc
not_nil (g ∷ good) line e = cc

-- the work goes on behind its lines
pub work_next : (steps : ℕ) (w w' : Work) (lines : List Line) (line : Line) → IsLeftBy steps (state.Work w) lines → GoesOn w line w' → IsLeftBy steps (state.Work w') (lines ++ line ∷ [])
work_next steps w w' lines line (good, is, some, over, at) goes =
    let same : subject_of (head_of w') w'.problem ≡ subject_of (head_of w) w.problem =
    λ i. subject_of (version_number (goes.version i), source_lines (source_of (goes.program i))) (goes.problem i) in
    let split = ap (λ ls. ls ++ line ∷ []) is ∙ append_assoc (first_lines (subject_of (head_of w) w.problem)) good (line ∷ []) in (
      good ++ line ∷ [],
      split ∙ ap (λ s. first_lines s ++ (good ++ line ∷ [])) (sym same),
      not_nil good line,
      subst IsProgramOver (sym (map-append (λ (l : Line). Some l) good (line ∷ []))) (over_more good (Some line ∷ []) some over),
      goes.goes steps good at,
    )

-- the first line behind a program
pub first_next : (steps : ℕ) (version : Version) (texts : List (List ℕ)) (w w' : Work) (lines : List Line) (line : Line)
    → lines ≡ Header (version_number version) ∷ map ProgramLine texts → w.version ≡ version → source_lines (source_of w.program) ≡ texts
    → ((text : List ℕ) → line ≢ ProgramLine text) → IsAtWork w steps [] → GoesOn w line w' → IsLeftBy steps (state.Work w') (lines ++ line ∷ [])
first_next steps version texts w w' lines line is number program other at goes =
    let same : source_lines (source_of w'.program) ≡ texts = ap (λ q. source_lines (source_of q)) goes.program ∙ program in
    let version_same : w'.version ≡ version = goes.version ∙ number in (
      line ∷ [],
      ap (λ ls. ls ++ line ∷ []) (is ∙ ap₂ (λ (v : Version) (ts : List (List ℕ)). Header (version_number v) ∷ map ProgramLine ts) (sym version_same) (sym same)),
      (λ e. cc),
      is_over line other,
      goes.goes steps [] at,
    )
  where
    is_over : (l : Line) → ((text : List ℕ) → l ≢ ProgramLine text) → IsProgramOver (Some l ∷ [])
    is_over (ProgramLine text) n = absurd (n text refl)
    is_over l n = tt

-- one line more of the program
pub program_next : (steps version : ℕ) (texts : List (List ℕ)) (lines : List Line) (text bytes : List ℕ)
    → lines ≡ Header version ∷ map ProgramLine texts → bytes ≡ with_feeds texts ++ (text ++ 10 ∷ [])
    → (ts : List (List ℕ)) × (lines ++ ProgramLine text ∷ [] ≡ Header version ∷ map ProgramLine ts) × (bytes ≡ with_feeds ts)
program_next steps version texts lines text bytes is e = (
  texts ++ text ∷ [],
  ap (λ ls. ls ++ ProgramLine text ∷ []) is ∙ ap (λ ls. Header version ∷ ls) (sym (map-append (λ (t : List ℕ). ProgramLine t) texts (text ∷ []))),
  e ∙ sym (with_feeds-append texts (text ∷ []) ∙ ap (λ bs. with_feeds texts ++ bs) (append-nil (text ++ 10 ∷ []))),
)
