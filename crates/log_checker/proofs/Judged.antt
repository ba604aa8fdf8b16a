-- Accepted logs are not refused.
use Rattle.std.proofs.Common.{◌≡◌, ◌≢◌, ℕ, inl, inr, Option, Some, None, List, [], ◌∷◌, ◌++◌, map, append_assoc, refl, sym, ◌∙◌, ap, ap₂, subst}
use Rattle.proof_log.specs.declared.log.Line.{Line}
use Rattle.proof_log.specs.declared.log.Line.TheVariants.{Header, Program as ProgramLine, Verdict as VerdictLine}
use Rattle.proof_log.specs.declared.log.Verdict.{Verdict}
use Rattle.proof_log.specs.Lines.{line_text, log_text}
use Rattle.proof_log.specs.Writable.{AllWritable, HasNoLineFeed}
use Rattle.proof_log.proofs.LineLeads.{lines_told}
use Rattle.proof_log.proofs.NoLineFeeds.{no_line_feed}
use Rattle.elim_apply.specs.LemmaTable.{lemma_table}
use Rattle.geo_logs.specs.Judging.{IsFirstRefusal, Refusal}
use Rattle.geo_logs.specs.Logs.{IsAccepted, Subject}
use Rattle.log_checker.proofs.Beginnings.{none_refused}
use Rattle.log_checker.specs.Judged.{AcceptedBytesAreNotRefused, AcceptedLogsDoNotStop, AreRead, BytesAreReadInOneWay, IsFirstStop, IsHeaderRefused, IsProgramOver, IsRead}
use Rattle.log_checker.proofs.AcceptedBytes.{EndsIn, NoProgramFirst, conditions_first}
use Rattle.log_checker.proofs.AlikeLogs.{accepted_alike}
use Rattle.log_checker.proofs.OneSubject.{alike_subjects}

-- PIECES
pub first_piece : (xs ys r s : List ℕ) → HasNoLineFeed xs → HasNoLineFeed ys → xs ++ (10 ∷ r) ≡ ys ++ (10 ∷ s) → (xs ≡ ys) × (r ≡ s)
first_piece [] [] r s h k e = let tail : r ≡ s = cc in (refl, tail)
first_piece [] (y ∷ ys) r s h k e = let same : y ≡ 10 = cc in absurd (k.0 same)
first_piece (x ∷ xs) [] r s h k e = let same : x ≡ 10 = cc in absurd (h.0 same)
first_piece (x ∷ xs) (y ∷ ys) r s h k e =
    let head : x ≡ y = cc in
    let tail : xs ++ (10 ∷ r) ≡ ys ++ (10 ∷ s) = cc in
    let rest = first_piece xs ys r s h.1 k.1 tail in
    (λ i. head i ∷ rest.0 i, rest.1)

pub not_empty : (xs r : List ℕ) → [] ≡ xs ++ (10 ∷ r) → ⊥
not_empty [] r e = cc
not_empty (x ∷ xs) r e = cc

pub has_feed : (xs r : List ℕ) → HasNoLineFeed (xs ++ (10 ∷ r)) → ⊥
has_feed [] r h = h.0 refl
has_feed (x ∷ xs) r h = has_feed xs r h.1

pub one_read : (piece : List ℕ) (read other : Option Line) → IsRead piece read → IsRead piece other → read ≡ other
one_read piece None None h g = refl
one_read piece None (Some m) h g = absurd (h m g.0 g.1)
one_read piece (Some l) None h g = absurd (g l h.0 h.1)
one_read piece (Some l) (Some m) h g = ap (λ (x : Line). Some x) (lines_told l m h.0 g.0 (h.1 ∙ sym g.1))

pub read_once : BytesAreReadInOneWay
read_once bytes [] [] h g = refl
read_once bytes [] (read ∷ reads) h (inl (first, g)) = absurd (not_empty first.piece first.rest (sym h ∙ first.split))
read_once bytes [] (read ∷ reads) h (inr g) = absurd (g.0 h)
read_once bytes (read ∷ reads) [] (inl (first, h)) g = absurd (not_empty first.piece first.rest (sym g ∙ first.split))
read_once bytes (read ∷ reads) [] (inr h) g = absurd (h.0 g)
read_once bytes (read ∷ reads) (other ∷ others) (inl (first, h)) (inl (second, g)) =
    let pieces = first_piece first.piece second.piece first.rest second.rest first.one_line second.one_line (sym first.split ∙ second.split) in
    let same = one_read second.piece read other (subst (λ bs. IsRead bs read) pieces.0 first.is_read) second.is_read in
    let rest = read_once second.rest reads others (subst (λ bs. AreRead bs reads) pieces.1 h) g in
    λ i. same i ∷ rest i
read_once bytes (read ∷ reads) (other ∷ others) (inl (first, h)) (inr g) = absurd (has_feed first.piece first.rest (subst HasNoLineFeed first.split g.1))
read_once bytes (read ∷ reads) (other ∷ others) (inr h) (inl (second, g)) = absurd (has_feed second.piece second.rest (subst HasNoLineFeed second.split h.1))
read_once bytes (read ∷ reads) (other ∷ others) (inr h) (inr g) = ap₂ (λ (x : Option Line) (xs : List (Option Line)). x ∷ xs) (h.2 ∙ sym g.2) (h.3 ∙ sym g.3)

-- the text of lines is read as those lines
pub lines_read : (lines : List Line) (bytes : List ℕ) → AllWritable lines → bytes ≡ log_text lines → AreRead bytes (map Some lines)
lines_read [] bytes h e = e
lines_read (l ∷ ls) bytes h e =
    inl (
      record {
        piece = line_text l;
        rest = log_text ls;
        split = e ∙ append_assoc (line_text l) (10 ∷ []) (log_text ls);
        one_line = no_line_feed l h.0;
        is_read = (h.0, refl);
      },
      lines_read ls (log_text ls) h.1 refl,
    )

-- THE PROGRAM
none_left : (rest : List Line) (l : Line) → EndsIn rest l → map Some rest ≢ []
none_left [] l h e = h
none_left (x ∷ xs) l h e = let q : ◌≡◌ {A = List (Option Line)} (Some x ∷ map Some xs) [] = e in cc

program_read : (xs ys : List (List ℕ)) (r : List Line) (s : List (Option Line)) → map Some (map ProgramLine xs ++ r) ≡ map (λ text. Some (ProgramLine text)) ys ++ s
    → NoProgramFirst r → IsProgramOver s → (xs ≡ ys) × (map Some r ≡ s)
program_read [] [] r s e n m = (refl, e)
program_read [] (y ∷ ys) [] s e n m = absurd (let q : ◌≡◌ {A = List (Option Line)} [] (Some (ProgramLine y) ∷ (map (λ text. Some (ProgramLine text)) ys ++ s)) = e in cc)
program_read [] (y ∷ ys) (l ∷ r) s e n m =
    let q : ◌≡◌ {A = List (Option Line)} (Some l ∷ map Some r) (Some (ProgramLine y) ∷ (map (λ text. Some (ProgramLine text)) ys ++ s)) = e in
    let first : ◌≡◌ {A = Option Line} (Some l) (Some (ProgramLine y)) = cc in
    let same : l ≡ ProgramLine y = cc in absurd (subst (λ x. NoProgramFirst (x ∷ r)) same n)
program_read (x ∷ xs) [] r s e n m = absurd (subst IsProgramOver (sym e) m)
program_read (x ∷ xs) (y ∷ ys) r s e n m =
    let q : ◌≡◌ {A = List (Option Line)} (Some (ProgramLine x) ∷ map Some (map ProgramLine xs ++ r)) (Some (ProgramLine y) ∷ (map (λ text. Some (ProgramLine text)) ys ++ s)) = e in
    let first : ◌≡◌ {A = Option Line} (Some (ProgramLine x)) (Some (ProgramLine y)) = cc in
    let line : ProgramLine x ≡ ProgramLine y = cc in
    let text : x ≡ y = cc in
    let rest : map Some (map ProgramLine xs ++ r) ≡ map (λ text. Some (ProgramLine text)) ys ++ s = cc in
    let more = program_read xs ys r s rest n m in
    (ap₂ (λ (z : List ℕ) (zs : List (List ℕ)). z ∷ zs) text more.0, more.1)

-- what is read of a log of the subject: its program's lines, and a rest that is not refused
pub record IsReadBehind (subject : Subject) (steps version : ℕ) (texts : List (List ℕ)) (rest : List (Option Line)) : Type 0 where
  pub number : subject.version ≡ version
  pub same : subject.program ≡ texts
  pub some : rest ≢ []
  pub good : (number : ℕ) (refusal : Refusal) → IsFirstRefusal lemma_table subject steps rest number refusal → ⊥

read_behind : (subject : Subject) (steps left : ℕ) (lines : List Line) (verdict : Verdict) (version : ℕ) (texts : List (List ℕ))
    (rest : List (Option Line)) → IsAccepted lemma_table subject steps lines verdict left
    → map Some lines ≡ Some (Header version) ∷ map (λ text. Some (ProgramLine text)) texts ++ rest → IsProgramOver rest → IsReadBehind subject steps version texts rest
read_behind subject steps left lines verdict version texts rest a split over =
    let first = conditions_first _ _ subject.goals [] [] 1 steps subject.conditions a.rest verdict left a.worked in
    let whole : ◌≡◌ {A = List (Option Line)} (Some (Header subject.version) ∷ map Some (map ProgramLine subject.program ++ a.rest))
    (Some (Header version) ∷ (map (λ text. Some (ProgramLine text)) texts ++ rest)) =
    ap (λ (ls : List Line). map Some ls) (sym a.split) ∙ split in
    let read : ◌≡◌ {A = Option Line} (Some (Header subject.version)) (Some (Header version)) = cc in
    let header : Header subject.version ≡ Header version = cc in
    let tail : map Some (map ProgramLine subject.program ++ a.rest) ≡ map (λ text. Some (ProgramLine text)) texts ++ rest = cc in
    let parts = program_read subject.program texts a.rest rest tail first.0 over in
    record {
      number = (let e : subject.version ≡ version = cc in e);
      same = parts.0;
      some = λ e. none_left a.rest (VerdictLine verdict) first.1 (parts.1 ∙ e);
      good = λ number refusal h. none_refused subject steps left a.rest verdict a.worked number refusal (subst (λ rs. IsFirstRefusal lemma_table subject steps rs number refusal) (sym parts.1) h);
    }

-- WHOLE LOGS
pub accepted_logs_do_not_stop : AcceptedLogsDoNotStop
accepted_logs_do_not_stop p steps number lines verdict refusal a (inl (h, one)) =
    subst (λ ls. IsHeaderRefused (map Some ls) refusal) a.accepted.split h
accepted_logs_do_not_stop p steps number lines verdict refusal a (inr (first, inl h)) =
    (read_behind a.subject steps a.left lines verdict first.version first.texts first.rest a.accepted first.split first.over).some h.nothing
accepted_logs_do_not_stop p steps number lines verdict refusal a (inr (first, inr (inl h))) =
    h.wrong p a.well_formed (sym a.about.same_program ∙ (read_behind a.subject steps a.left lines verdict first.version first.texts first.rest a.accepted first.split first.over).same)
accepted_logs_do_not_stop p steps number lines verdict refusal a (inr (first, inr (inr h))) =
    let mine = read_behind a.subject steps a.left lines verdict first.version first.texts first.rest a.accepted first.split first.over in
    let one = alike_subjects p h.program a.subject h.subject a.well_formed h.well_formed (sym a.about.same_program ∙ mine.same ∙ sym h.written) a.about h.about (mine.number ∙ sym h.same_version) in
    (read_behind h.subject steps a.left lines verdict first.version first.texts first.rest
    (accepted_alike a.subject h.subject one steps lines verdict a.left a.accepted) first.split first.over).good number refusal h.refused

pub accepted_bytes_are_not_refused : AcceptedBytesAreNotRefused
accepted_bytes_are_not_refused bytes steps number p verdict refusal a r =
    let reads : r.reads ≡ map Some a.lines = read_once bytes r.reads (map Some a.lines) r.are_read (lines_read a.lines bytes a.writable a.written) in
    accepted_logs_do_not_stop p steps number a.lines verdict refusal a.accepted (subst (λ rs. IsFirstStop steps rs number refusal) reads r.stops)
