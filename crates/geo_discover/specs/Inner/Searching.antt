-- How far a search has come, and what it does with its next candidates.
use Rattle.std.specs.Prelude.{◌≡◌, ◌⊎◌, ℕ, zero, suc, ◌+◌, All, Option, Some, None, Result, Ok, Err, List, [], ◌∷◌, ◌++◌, codes, decimal, length}
use Rattle.std.specs.List.{flat_map}
use Rattle.geo_program.specs.declared.statements.Statement.{Statement}
use Rattle.geo_program.specs.Forms.{statement_form}
use Rattle.geo_program.specs.Relations.{IsRelation}
use Rattle.geo_program.specs.WellFormed.{IsArgument, Source, empty_scope, scope_of}
use Rattle.geo_conditions.specs.Statements.{statement_conditions, statement_goals}
use Rattle.geo_logs.specs.Ends.{ends_by, ends_with, too_long}
use Rattle.geo_logs.specs.Moves.{spent, too_large}
use Rattle.proof_log.specs.declared.log.Verdict.{Verdict}
use Rattle.proof_log.specs.declared.log.Verdict.TheVariants.{False, Impossible as NeverMet, Proved}
use Rattle.proof_log.specs.Lines.{log_text}
use Rattle.geo_chain.specs.declared.errors.ProveError.{ProveError}
use Rattle.geo_chain.specs.declared.errors.ProveError.TheVariants as stopped
use Rattle.geo_discover.specs.declared.errors.DiscoverError.{DiscoverError}
use Rattle.geo_discover.specs.declared.errors.DiscoverError.TheVariants.{Impossible, Spent, TooLarge, TooLong, WriteFault, NoMemory}
use Rattle.geo_discover.specs.declared.examining.Judgement.{Judgement}
use Rattle.geo_discover.specs.declared.examining.Judgement.TheVariants as judged
use Rattle.geo_discover.specs.declared.search.Search.{Search}
use Rattle.geo_base.specs.Devices.{HasRisen}
use Rattle.geo_discover.specs.FoundTexts.{AreFindings, Finding, IsFinding, CandidateOutcome, WritesFound, WritesFoundPart, WritesTooLong}
use Rattle.geo_discover.specs.FoundTexts.{candidate_lines, first_impossible, impossible, nothing, one_open, one_relation, open_by, open_still}
use Rattle.geo_discover.specs.FoundTexts.{opens, outcome_of, relation, relations, candidate_text}
use Rattle.geo_discover.specs.Inner.Puts.{BreaksOff, PutsLines}

-- a relation of points that the program declares, without conditions of its own, and one goal
pub record IsCandidate (p : Source) (s : Statement) : Type 0 where
  pub relation : IsRelation s
  pub unconditional : statement_conditions p.nodes s ≡ []
  pub one_goal : statement_goals p.nodes s ≡ s ∷ []
  pub points : All (IsArgument (scope_of empty_scope p.names)) (statement_form p.nodes s).arguments

-- ONE CANDIDATE
-- the log of an open candidate ends so
abbrev pub EndsSo : Finding → ProveError → Type 0
EndsSo f (stopped.Spent n) = (f.ending ≡ ends_by spent) × (n ≡ length f.lines)
EndsSo f (stopped.TooLarge n which) = (f.ending ≡ ends_by (too_large which)) × (n ≡ length f.lines)
EndsSo f stopped.TooLong = f.ending ≡ too_long
EndsSo f stopped.WriteFault = ⊥
EndsSo f stopped.NoMemory = ⊥

-- this is what the log says
abbrev pub Tells : Finding → Judgement → Type 0
Tells f (judged.Relation log) = (left : ℕ) × (f.ending ≡ ends_with Proved left) × (log ≡ log_text f.lines)
Tells f (judged.Open e) = EndsSo f e
Tells f judged.Fails = (g : ℕ) × (left : ℕ) × (f.ending ≡ ends_with (False g) left)
Tells f (judged.Impossible k) = (left : ℕ) × (f.ending ≡ ends_with (NeverMet k) left)

-- the candidate is judged so by its log
pub record IsJudged (p : Source) (steps : ℕ) (s : Statement) (judgement : Judgement) : Type 0 where
  pub finding : Finding
  pub own : finding.statement ≡ s
  pub is : IsFinding p steps finding
  pub tells : Tells finding judgement

-- what is said by a log that ends with this verdict
abbrev pub judgement_by : Verdict → List ℕ → Judgement
judgement_by Proved log = judged.Relation log
judgement_by (False g) log = judged.Fails
judgement_by (NeverMet k) log = judged.Impossible k

-- what is said by a log that is not written, where that needs no text
abbrev pub unwritten_judgement : Result Verdict ProveError → Option Judgement
unwritten_judgement (Ok (False g)) = Some judged.Fails
unwritten_judgement (Err (stopped.Spent n)) = Some (judged.Open (stopped.Spent n))
unwritten_judgement (Err (stopped.TooLarge n which)) = Some (judged.Open (stopped.TooLarge n which))
unwritten_judgement _ = None

-- PROGRESS
-- how many candidates were examined, how many are relations and how many are open, how the log of the first open one ends, and what was
-- written
pub record Progress : Type 0 where
  pub examined : ℕ
  pub related : ℕ
  pub unsettled : ℕ
  pub first : Option ProveError
  pub bytes : ℕ
  pub held : Option (List ℕ)

abbrev pub progress : Search → Option (List ℕ) → Progress
progress search held = record {
  examined = search.examined;
  related = search.relations;
  unsettled = search.open_ones;
  first = search.first_open;
  bytes = search.text.bytes;
  held = held;
}

-- one more candidate of this outcome, and its lines
pub record Adds (o : CandidateOutcome) (lines : List (List ℕ)) (ends : Option ProveError) (s t : Progress) : Type 0 where
  pub examined : t.examined ≡ s.examined + 1
  pub related : t.related ≡ s.related + one_relation o
  pub unsettled : t.unsettled ≡ s.unsettled + one_open o
  pub first : t.first ≡ ends
  pub put : PutsLines lines s.bytes t.bytes s.held t.held

-- the first one, if there was none before
abbrev pub first_of : Option ProveError → ProveError → Option ProveError
first_of (Some e) error = Some e
first_of None error = Some error

-- the lines of findings
abbrev pub lines_of : Source → List Finding → List (List ℕ)
lines_of p fs = flat_map (λ f. candidate_lines (outcome_of f.ending) (candidate_text p f.statement) f.lines) fs

-- the line that says that a condition is never met
abbrev pub impossible_line : ℕ → List ℕ
impossible_line k = codes "impossible " ++ decimal k

-- the lines that are due for findings behind so many others
abbrev pub lines_due : Option ℕ → Source → List Finding → List (List ℕ)
lines_due (Some k) p fs = impossible_line k ∷ []
lines_due None p fs = lines_of p fs

abbrev pub lines_behind : ℕ → Source → List Finding → List (List ℕ)
lines_behind zero p fs = lines_due (first_impossible fs) p fs
lines_behind (suc n) p fs = lines_of p fs

-- one of two, by whether a candidate is open
abbrev pub IfOpen : CandidateOutcome → Type 0 → Type 0 → Type 0
IfOpen open_still A B = A
IfOpen relation A B = B
IfOpen nothing A B = B

-- how the log of the first open candidate ends, where none was open before, or one was
abbrev pub TellsFirst : Option ProveError → List Finding → Option ProveError → Type 0
TellsFirst (Some e) fs after = after ≡ Some e
TellsFirst None [] after = after ≡ None
TellsFirst None (f ∷ fs) after =
    IfOpen (outcome_of f.ending) ((e : ProveError) × EndsSo f e × (after ≡ Some e)) (TellsFirst None fs after)

-- these candidates were examined
pub record Examines (p : Source) (steps : ℕ) (ss : List Statement) (s t : Progress) : Type 0 where
  pub findings : List Finding
  pub found : AreFindings p steps ss findings
  pub possible : s.examined ≡ 0 → first_impossible findings ≡ None
  pub examined : t.examined ≡ s.examined + length ss
  pub related : t.related ≡ s.related + relations findings
  pub unsettled : t.unsettled ≡ s.unsettled + opens findings
  pub first : TellsFirst s.first findings t.first
  pub put : PutsLines (lines_of p findings) s.bytes t.bytes s.held t.held

-- what was written of the findings, and why no more
abbrev pub IsBroken : Source → List Finding → Progress → Option (List ℕ) → ℕ → ℕ → DiscoverError → Type 0
IsBroken p fs s held' faults faults' (Impossible k) =
    (s.examined ≡ 0) × (first_impossible fs ≡ Some k) × (after : ℕ) × PutsLines (impossible_line k ∷ []) s.bytes after s.held held'
IsBroken p fs s held' faults faults' (Spent n) = ⊥
IsBroken p fs s held' faults faults' (TooLarge n which) = ⊥
IsBroken p fs s held' faults faults' TooLong = BreaksOff (lines_behind s.examined p fs) s.bytes s.held held' faults faults' TooLong
IsBroken p fs s held' faults faults' WriteFault = BreaksOff (lines_behind s.examined p fs) s.bytes s.held held' faults faults' WriteFault
IsBroken p fs s held' faults faults' NoMemory = BreaksOff (lines_behind s.examined p fs) s.bytes s.held held' faults faults' NoMemory

-- it is written that condition k is never met, which the first candidate says; or it is not
abbrev pub IsNeverMet : ℕ → Progress → Option (List ℕ) → ℕ → ℕ → DiscoverError → Type 0
IsNeverMet k s held' faults faults' e =
    (s.examined ≡ 0)
    × (((e ≡ Impossible k) × (after : ℕ) × PutsLines (impossible_line k ∷ []) s.bytes after s.held held')
    ⊎ BreaksOff (impossible_line k ∷ []) s.bytes s.held held' faults faults' e)

-- some of the candidates were examined, and then it stopped
pub record BreaksSearch (p : Source) (steps : ℕ) (ss : List Statement) (s : Progress) (held' : Option (List ℕ)) (faults faults' : ℕ)
    (e : DiscoverError)
    : Type 0 where
  pub front : List Statement
  pub rest : List Statement
  pub split : ss ≡ front ++ rest
  pub findings : List Finding
  pub found : AreFindings p steps front findings
  pub last : IsBroken p findings s held' faults faults' e

-- THE END
-- the line of the counts
abbrev pub counts_line : ℕ → ℕ → List ℕ
counts_line related unsettled = codes "relations " ++ decimal related ++ codes " open " ++ decimal unsettled

-- what is answered where the log of the first open candidate ends so
abbrev pub answer_of : ProveError → DiscoverError
answer_of (stopped.Spent n) = Spent n
answer_of (stopped.TooLarge n which) = TooLarge n which
answer_of stopped.TooLong = TooLong
answer_of stopped.WriteFault = WriteFault
answer_of stopped.NoMemory = NoMemory

-- the line of the counts was written, and some candidate is open; or the line was not
abbrev pub IsUnsettled : Progress → Option (List ℕ) → ℕ → ℕ → DiscoverError → Type 0
IsUnsettled s held' faults faults' e =
    ((error : ProveError) × (after : ℕ) × (s.first ≡ Some error) × (e ≡ answer_of error)
    × PutsLines (counts_line s.related s.unsettled ∷ []) s.bytes after s.held held')
    ⊎ BreaksOff (counts_line s.related s.unsettled ∷ []) s.bytes s.held held' faults faults' e

-- what a search answers where it does not tell of each candidate whether it is a relation
abbrev pub IsAnswer : Source → ℕ → Option (List ℕ) → Option (List ℕ) → ℕ → ℕ → DiscoverError → Type 0
IsAnswer p steps held held' faults faults' (Impossible k) = WritesFound p steps held held' (impossible k)
IsAnswer p steps held held' faults faults' (Spent n) = WritesFound p steps held held' (open_by (ends_by spent) n)
IsAnswer p steps held held' faults faults' (TooLarge n which) = WritesFound p steps held held' (open_by (ends_by (too_large which)) n)
IsAnswer p steps held held' faults faults' TooLong = WritesTooLong p steps held held'
IsAnswer p steps held held' faults faults' WriteFault = HasRisen faults faults' × WritesFoundPart p steps held held'
IsAnswer p steps held held' faults faults' NoMemory = WritesFoundPart p steps held held'
