-- Logs as they are read: the lines of bytes, and the first line at which a log is refused.
use Rattle.std.specs.Prelude.{◌≡◌, ◌≢◌, ◌↔◌, ℕ, suc, ◌≤◌, ◌⊎◌, Option, Some, None, List, [], ◌∷◌, ◌++◌, length, map}
use Rattle.std.specs.List.{AllByRecursion}
use Rattle.geo_program.specs.WellFormed.{IsWellFormed, Source}
use Rattle.proof_log.specs.declared.log.Line.{Line}
use Rattle.proof_log.specs.declared.log.Line.TheVariants.{Header, Program as ProgramLine}
use Rattle.proof_log.specs.declared.log.Verdict.{Verdict}
use Rattle.proof_log.specs.Lines.{line_text}
use Rattle.proof_log.specs.Writable.{HasNoLineFeed, IsWritable}
use Rattle.elim_apply.specs.LemmaTable.{lemma_table}
use Rattle.geo_logs.specs.Judging.{IsFirstRefusal, IsGoodSoFar, IsGoodToEnd, IsRefused, Refusal, bad_line, rejected, unfinished, wrong_line, wrong_program}
use Rattle.geo_logs.specs.Logs.{Subject}
use Rattle.geo_logs.specs.Places.{Place}
use Rattle.log_checker.specs.Accepted.{Accepts}
use Rattle.log_checker.specs.Laws.{IsAcceptedLog}
use Rattle.log_checker.specs.Subjects.{IsSubjectOf, source_lines}

-- READING
-- what is read of a piece between line feeds: the line with this text, where there is one
abbrev pub IsRead : List ℕ → Option Line → Type 0
IsRead piece (Some line) = IsWritable line × (line_text line ≡ piece)
IsRead piece None = (line : Line) → IsWritable line → line_text line ≢ piece

-- the bytes begin with a piece and its line feed
pub record BeginsWithPiece (bytes : List ℕ) (read : Option Line) : Type 0 where
  pub piece : List ℕ
  pub rest : List ℕ
  pub split : bytes ≡ piece ++ 10 ∷ rest
  pub one_line : HasNoLineFeed piece
  pub is_read : IsRead piece read

-- what is read of the bytes line by line; bytes that have no line feed behind them are no line
abbrev pub AreRead : List ℕ → List (Option Line) → Type 0
AreRead bytes [] = bytes ≡ []
AreRead bytes (read ∷ reads) =
    ((first : BeginsWithPiece bytes read) × AreRead first.rest reads)
    ⊎ ((bytes ≢ []) × HasNoLineFeed bytes × (read ≡ None) × (reads ≡ []))

-- JUDGING
-- the first line is no header
abbrev pub IsHeaderRefused : List (Option Line) → Refusal → Type 0
IsHeaderRefused [] refusal = refusal ≡ rejected unfinished
IsHeaderRefused (None ∷ reads) refusal = refusal ≡ rejected bad_line
IsHeaderRefused (Some (Header version) ∷ reads) refusal = ⊥
IsHeaderRefused (Some _ ∷ reads) refusal = refusal ≡ rejected wrong_line

-- the next line is none of a program
abbrev pub IsProgramOver : List (Option Line) → Type 0
IsProgramOver (Some (ProgramLine text) ∷ reads) = ⊥
IsProgramOver _ = Unit {0}

-- the header with its version, all lines of the program, and the rest
pub record BeginsWithProgram (reads : List (Option Line)) : Type 0 where
  pub version : ℕ
  pub texts : List (List ℕ)
  pub rest : List (Option Line)
  pub split : reads ≡ Some (Header version) ∷ map (λ text. Some (ProgramLine text)) texts ++ rest
  pub over : IsProgramOver rest

-- nothing follows the lines of the program
pub record IsProgramAlone (texts : List (List ℕ)) (rest : List (Option Line)) (number : ℕ) (refusal : Refusal) : Type 0 where
  pub nothing : rest ≡ []
  pub counted : number ≡ suc (suc (length texts))
  pub refused : refusal ≡ rejected unfinished

-- something follows them, but they are the lines of no program: line 2 is refused, whatever follows
pub record IsProgramRefused (texts : List (List ℕ)) (rest : List (Option Line)) (number : ℕ) (refusal : Refusal) : Type 0 where
  pub something : rest ≢ []
  pub wrong : (p : Source) → IsWellFormed p → source_lines p ≢ texts
  pub counted : number ≡ 2
  pub refused : refusal ≡ rejected wrong_program

-- something follows them, and they are those of a program: what follows is judged by its subject of this version
pub record IsRestRefused (steps version : ℕ) (texts : List (List ℕ)) (rest : List (Option Line)) (number : ℕ) (refusal : Refusal) : Type 0 where
  pub something : rest ≢ []
  pub program : Source
  pub well_formed : IsWellFormed program
  pub written : source_lines program ≡ texts
  pub subject : Subject
  pub about : IsSubjectOf program subject
  pub same_version : subject.version ≡ version
  pub refused : IsFirstRefusal lemma_table subject steps rest number refusal

-- of what is read line by line the line of this number is the first that is refused
abbrev pub IsFirstStop : ℕ → List (Option Line) → ℕ → Refusal → Type 0
IsFirstStop steps reads number refusal =
    (IsHeaderRefused reads refusal × (number ≡ 1))
    ⊎ ((first : BeginsWithProgram reads)
    × (IsProgramAlone first.texts first.rest number refusal
    ⊎ (IsProgramRefused first.texts first.rest number refusal ⊎ IsRestRefused steps first.version first.texts first.rest number refusal)))

-- the bytes are refused at the line of this number
pub record Refuses (bytes : List ℕ) (steps number : ℕ) (refusal : Refusal) : Type 0 where
  pub reads : List (Option Line)
  pub are_read : AreRead bytes reads
  pub stops : IsFirstStop steps reads number refusal

-- GOING ON
-- good lines with this line behind them are good so far, or a whole log
abbrev pub GoesOnWith : Subject → ℕ → List Line → Line → Type 0
GoesOnWith subject steps good line =
    ((place : Place) × IsGoodSoFar lemma_table subject steps (good ++ line ∷ []) place)
    ⊎ IsGoodToEnd lemma_table subject steps (good ++ line ∷ [])

-- at the place of good lines a line goes on from them, or it is refused there
abbrev pub LinesGoOnOrAreRefused : Type 0
LinesGoOnOrAreRefused =
    (p : Source) (subject : Subject) (steps : ℕ) (good : List Line) (place : Place) (line : Line) → IsWellFormed p → IsSubjectOf p subject
    → IsGoodSoFar lemma_table subject steps good place → IsWritable line
    → GoesOnWith subject steps good line ⊎ ((refusal : Refusal) × IsRefused lemma_table subject.construction place (Some line) refusal)

-- what is read: a line that may be written, or no line of a log
abbrev pub IsReadable : Option Line → Type 0
IsReadable None = Unit {0}
IsReadable (Some line) = IsWritable line

-- what is read behind the lines of the program is that of an accepted log, whole, or it has a first line that is refused
abbrev pub IsJudged : Subject → ℕ → List (Option Line) → Type 0
IsJudged subject steps reads =
    ((lines : List Line) × (reads ≡ map Some lines) × IsGoodToEnd lemma_table subject steps lines)
    ⊎ ((number : ℕ) × (refusal : Refusal) × IsFirstRefusal lemma_table subject steps reads number refusal)

-- so it is of whatever is read
abbrev pub RestsAreJudged : Type 0
RestsAreJudged =
    (p : Source) (subject : Subject) (steps : ℕ) (reads : List (Option Line)) → IsWellFormed p → IsSubjectOf p subject
    → AllByRecursion IsReadable reads → IsJudged subject steps reads

-- bytes are an accepted log, or they are refused
abbrev pub BytesAreJudged : Type 0
BytesAreJudged =
    (bytes : List ℕ) (steps : ℕ) → length bytes ≤ 268435456
    → ((p : Source) × (verdict : Verdict) × Accepts bytes steps p verdict)
    ⊎ ((number : ℕ) × (refusal : Refusal) × Refuses bytes steps number refusal)

-- so they are accepted exactly where they are refused at no line
abbrev pub AcceptedWhereNotRefused : Type 0
AcceptedWhereNotRefused =
    (bytes : List ℕ) (steps : ℕ) → length bytes ≤ 268435456
    → ((p : Source) × (verdict : Verdict) × Accepts bytes steps p verdict)
    ↔ ((number : ℕ) (refusal : Refusal) → Refuses bytes steps number refusal → ⊥)

-- LAWS
-- what is read of an accepted log has no first stop
abbrev pub AcceptedLogsDoNotStop : Type 0
AcceptedLogsDoNotStop =
    (p : Source) (steps number : ℕ) (lines : List Line) (verdict : Verdict) (refusal : Refusal)
    → IsAcceptedLog p steps lines verdict → IsFirstStop steps (map Some lines) number refusal → ⊥

-- bytes are read
abbrev pub BytesAreRead : Type 0
BytesAreRead = (bytes : List ℕ) → (reads : List (Option Line)) × AreRead bytes reads

-- and in one way
abbrev pub BytesAreReadInOneWay : Type 0
BytesAreReadInOneWay = (bytes : List ℕ) (reads other : List (Option Line)) → AreRead bytes reads → AreRead bytes other → reads ≡ other

-- accepted bytes are not refused, at no line and for no reason
abbrev pub AcceptedBytesAreNotRefused : Type 0
AcceptedBytesAreNotRefused =
    (bytes : List ℕ) (steps number : ℕ) (p : Source) (verdict : Verdict) (refusal : Refusal) → Accepts bytes steps p verdict
    → Refuses bytes steps number refusal → ⊥

-- what is read has one first stop at most: one line, for one reason
abbrev pub FirstStopIsUnique : Type 0
FirstStopIsUnique =
    (steps number number' : ℕ) (reads : List (Option Line)) (refusal refusal' : Refusal)
    → IsFirstStop steps reads number refusal → IsFirstStop steps reads number' refusal' → (number ≡ number') × (refusal ≡ refusal')

-- and so have bytes
abbrev pub BytesAreRefusedOnce : Type 0
BytesAreRefusedOnce =
    (bytes : List ℕ) (steps number number' : ℕ) (refusal refusal' : Refusal)
    → Refuses bytes steps number refusal → Refuses bytes steps number' refusal' → (number ≡ number') × (refusal ≡ refusal')
