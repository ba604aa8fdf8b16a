-- What is written of the relations of a figure, and how the search ends.
use Rattle.std.specs.Prelude.{◌≡◌, ◌≢◌, ◌↔◌, ◌⊎◌, ℕ, ◌^◌, ◌<◌, ◌≤◌, Option, Some, None, List, [], ◌∷◌, ◌++◌, codes, decimal, length, map, sum_by, take}
use Rattle.std.specs.List.{AllByRecursion, flat_map}
use Rattle.geo_base.specs.Devices.{Grows}
use Rattle.geo_conditions.specs.Truth.{IsImpossible, IsTrueProgram}
use Rattle.geo_program.specs.declared.statements.Statement.{Statement}
use Rattle.geo_program.specs.CanonicalText.{canonical_text}
use Rattle.geo_program.specs.FormTexts.{form_text}
use Rattle.geo_program.specs.Forms.{statement_form}
use Rattle.geo_program.specs.Spelling.{SameSource}
use Rattle.geo_program.specs.WellFormed.{IsWellFormed, Source}
use Rattle.proof_log.specs.declared.log.Line.{Line}
use Rattle.proof_log.specs.declared.log.Verdict.{Verdict}
use Rattle.proof_log.specs.declared.log.Verdict.TheVariants.{False, Impossible, Proved}
use Rattle.proof_log.specs.Lines.{line_text, log_text}
use Rattle.geo_logs.specs.Ends.{Ending, ends_by, ends_with, too_long}
use Rattle.log_checker.specs.Accepted.{Accepts}
use Rattle.log_checker.specs.ProgramLogs.{IsLogOf}
use Rattle.geo_discover.specs.Candidates.{candidates}
use Rattle.log_checker.specs.Checkers.{with_feeds}
use Rattle.geo_program.specs.Relations.{with_statement}

-- FINDINGS
-- a candidate with its log
pub record Finding : Type 0 where
  pub statement : Statement
  pub lines : List Line
  pub ending : Ending

-- the lines are the defined log, of version 2, of the program with this candidate as its statement, with so many steps, and it ends so
abbrev pub IsFinding : Source → ℕ → Finding → Type 0
IsFinding p steps f = IsLogOf (with_statement p f.statement) steps f.lines f.ending

-- the findings are those of these candidates, in their order, each with as many steps
abbrev pub AreFindings : Source → ℕ → List Statement → List Finding → Type 0
AreFindings p steps [] [] = Unit {0}
AreFindings p steps (s ∷ ss) (f ∷ fs) = (f.statement ≡ s) × IsFinding p steps f × AreFindings p steps ss fs
AreFindings p steps _ _ = ⊥

-- THE TEXT
-- what a log says of its candidate: that it is a relation; that it is open; or nothing, since it is false, or behind an open one impossible
pub data CandidateOutcome : Type 0 where
  relation : CandidateOutcome
  open_still : CandidateOutcome
  nothing : CandidateOutcome

abbrev pub outcome_of : Ending → CandidateOutcome
outcome_of (ends_with Proved left) = relation
outcome_of (ends_with (False g) left) = nothing
outcome_of (ends_with (Impossible k) left) = nothing
outcome_of (ends_by stop) = open_still
outcome_of too_long = open_still

-- the candidate as text
abbrev pub candidate_text : Source → Statement → List ℕ
candidate_text p s = form_text p.names (statement_form p.nodes s)

-- the lines of a candidate: a relation comes with its log
abbrev pub candidate_lines : CandidateOutcome → List ℕ → List Line → List (List ℕ)
candidate_lines relation text lines = (codes "relation " ++ text) ∷ map line_text lines
candidate_lines open_still text lines = (codes "open " ++ text) ∷ []
candidate_lines nothing text lines = []

-- how many candidates are relations, and how many are open
abbrev pub one_relation : CandidateOutcome → ℕ
one_relation relation = 1
one_relation _ = 0

abbrev pub one_open : CandidateOutcome → ℕ
one_open open_still = 1
one_open _ = 0

abbrev pub relations : List Finding → ℕ
relations fs = sum_by (λ f. one_relation (outcome_of f.ending)) fs

abbrev pub opens : List Finding → ℕ
opens fs = sum_by (λ f. one_open (outcome_of f.ending)) fs

-- the condition that is never met, where the log of the first candidate says so
abbrev pub impossible_in : Ending → Option ℕ
impossible_in (ends_with (Impossible k) left) = Some k
impossible_in _ = None

abbrev pub first_impossible : List Finding → Option ℕ
first_impossible [] = None
first_impossible (f ∷ fs) = impossible_in f.ending

-- the lines of the text, without their line feeds
abbrev pub lines_with : Option ℕ → Source → List Finding → List (List ℕ)
lines_with (Some k) p fs = (codes "impossible " ++ decimal k) ∷ []
lines_with None p fs =
    flat_map (λ f. candidate_lines (outcome_of f.ending) (candidate_text p f.statement) f.lines) fs
    ++ (codes "relations " ++ decimal (relations fs) ++ codes " open " ++ decimal (opens fs)) ∷ []

abbrev pub found_lines : Source → List Finding → List (List ℕ)
found_lines p fs = lines_with (first_impossible fs) p fs

-- HOW A SEARCH ENDS
-- with so many relations; with a condition that is never met; with the end of the first open candidate's log, and the number of its last
-- line; or cut, since its own text gets too long
pub data SearchEnd : Type 0 where
  found : ℕ → SearchEnd
  impossible : ℕ → SearchEnd
  open_by : Ending → ℕ → SearchEnd
  cut : SearchEnd

-- the end of the first open candidate's log, where there is one
abbrev pub open_end_at : CandidateOutcome → Finding → SearchEnd → SearchEnd
open_end_at open_still f rest = open_by f.ending (length f.lines)
open_end_at _ f rest = rest

abbrev pub first_open : SearchEnd → List Finding → SearchEnd
first_open none [] = none
first_open none (f ∷ fs) = open_end_at (outcome_of f.ending) f (first_open none fs)

-- how the search ends where its text is written whole
abbrev pub end_with : Option ℕ → List Finding → SearchEnd
end_with (Some k) fs = impossible k
end_with None fs = first_open (found (relations fs)) fs

abbrev pub whole_end : List Finding → SearchEnd
whole_end fs = end_with (first_impossible fs) fs

-- the lines are what is written of the program's candidates, each with so many steps, and the search ends so: whole, or up to the line that
-- takes the text past its limit
pub record IsSearched (p : Source) (steps : ℕ) (lines : List (List ℕ)) (end : SearchEnd) : Type 0 where
  pub findings : List Finding
  pub found : AreFindings p steps (candidates p) findings
  pub written : ((lines ≡ found_lines p findings) × (length (with_feeds lines) ≤ 67108864) × (end ≡ whole_end findings))
      ⊎ ((line : List ℕ) × (more : List (List ℕ)) × (found_lines p findings ≡ lines ++ line ∷ more) × (length (with_feeds lines) ≤ 67108864)
      × (67108864 < length (with_feeds (lines ++ line ∷ []))) × (end ≡ cut))

-- WHAT A CALL WRITES
-- the text of the search was written, and it ends so
pub record WritesFound (p : Source) (steps : ℕ) (held held' : Option (List ℕ)) (end : SearchEnd) : Type 0 where
  pub lines : List (List ℕ)
  pub searched : IsSearched p steps lines end
  pub written : Grows held (with_feeds lines) held'

-- the first bytes of it were written
pub record WritesFoundPart (p : Source) (steps : ℕ) (held held' : Option (List ℕ)) : Type 0 where
  pub lines : List (List ℕ)
  pub end : SearchEnd
  pub searched : IsSearched p steps lines end
  pub count : ℕ
  pub written : Grows held (take count (with_feeds lines)) held'

-- the search ends since a text is too long: its own, or the log of the first open candidate
abbrev pub WritesTooLong : Source → ℕ → Option (List ℕ) → Option (List ℕ) → Type 0
WritesTooLong p steps held held' = WritesFound p steps held held' cut ⊎ ((n : ℕ) × WritesFound p steps held held' (open_by too_long n))

-- LAWS
-- a finding says what is so: where its log ends with a verdict, its candidate is a relation just where the program with it is true, and
-- then the log is accepted
pub record FindingsTell : Type 0 where
  pub true_where_found : (p : Source) (steps : ℕ) (f : Finding) → IsWellFormed (with_statement p f.statement) → steps < 2 ^ 127 → IsFinding p steps f
      → outcome_of f.ending ≡ relation
      → IsTrueProgram (with_statement p f.statement) × Accepts (log_text f.lines) steps (with_statement p f.statement) Proved
  pub found_where_true : (p : Source) (steps : ℕ) (f : Finding) → IsWellFormed (with_statement p f.statement) → steps < 2 ^ 127 → IsFinding p steps f
      → IsTrueProgram (with_statement p f.statement) → (outcome_of f.ending ≡ relation) ⊎ (outcome_of f.ending ≡ open_still)

-- the finding tells whether its candidate is a relation: just where the program with it is true; and then its log is accepted
pub record IsTold (p : Source) (steps : ℕ) (f : Finding) : Type 0 where
  pub truth : (outcome_of f.ending ≡ relation) ↔ IsTrueProgram (with_statement p f.statement)
  pub accepted : outcome_of f.ending ≡ relation → Accepts (log_text f.lines) steps (with_statement p f.statement) Proved

-- so it does where its candidate is not open
abbrev pub IsToldInPart : Source → ℕ → Finding → Type 0
IsToldInPart p steps f = outcome_of f.ending ≢ open_still → IsTold p steps f

-- so it is of every candidate that is not open, however a search ends
abbrev pub SearchesTellInPart : Type 0
SearchesTellInPart =
    (p : Source) (steps : ℕ) (lines : List (List ℕ)) (end : SearchEnd) → IsWellFormed p → steps < 2 ^ 127 → (h : IsSearched p steps lines end)
    → AllByRecursion (IsToldInPart p steps) h.findings

-- the first candidate of the program has an accepted log with this verdict
pub record FirstIsAccepted (p : Source) (steps : ℕ) (verdict : Verdict) : Type 0 where
  pub statement : Statement
  pub rest : List Statement
  pub first : candidates p ≡ statement ∷ rest
  pub lines : List Line
  pub accepted : Accepts (log_text lines) steps (with_statement p statement) verdict

-- where a search ends with a condition that is never met, the log of the first candidate says so; and then no placement meets the commands,
-- whatever the statement is
abbrev pub ImpossibleSearchesTell : Type 0
ImpossibleSearchesTell =
    (p : Source) (steps k : ℕ) (lines : List (List ℕ)) → IsWellFormed p → steps < 2 ^ 127 → IsSearched p steps lines (impossible k)
    → FirstIsAccepted p steps (Impossible k) × ((statement : Statement) → IsImpossible (with_statement p statement))

-- programs that are the same have one text of a search, and one end
abbrev pub SearchIsUnique : Type 0
SearchIsUnique =
    (p q : Source) (steps : ℕ) (lines other : List (List ℕ)) (end end' : SearchEnd) → IsWellFormed p → IsWellFormed q → SameSource p q
    → IsSearched p steps lines end → IsSearched q steps other end' → (lines ≡ other) × (end ≡ end')

-- a program has a search
abbrev pub ProgramsHaveASearch : Type 0
ProgramsHaveASearch =
    (p : Source) (steps : ℕ) → IsWellFormed p → length (canonical_text p) ≤ 67108864
    → (lines : List (List ℕ)) × (end : SearchEnd) × IsSearched p steps lines end

-- so it is of every candidate where a search ends with a number of relations
abbrev pub SearchesTell : Type 0
SearchesTell =
    (p : Source) (steps count : ℕ) (lines : List (List ℕ)) → IsWellFormed p → steps < 2 ^ 127 → (h : IsSearched p steps lines (found count))
    → AllByRecursion (IsTold p steps) h.findings
