-- How a run ends, by its words, the bytes that the source has still to give, the bytes that the sink holds, and the counts of faults of
-- both. A name with a prime is the same after the run.
use Rattle.std.specs.Prelude.{◌≡◌, ◌⊎◌, ℕ, Bool, true, false, List, [], ◌∷◌, length, take, Option}
use Rattle.std.specs.List.{AllByRecursion}
use Rattle.geo_base.specs.Devices.{Grows, HasRisen}
use Rattle.proof_printer.specs.declared.status.Status.{Status}
use Rattle.proof_printer.specs.declared.status.Status.TheVariants.{NoMemory, ReadFault, Spent, TooLarge, TooLong, WriteFault}
use Rattle.proof_printer.specs.Due.{Due, SpellsNone}
use Rattle.geo_cli.specs.Due.{IsDue, bench_text, cited_line, fixed_line, syntax_line, too_long_line}
use Rattle.geo_cli.specs.Input.{IsInput, IsLong, log_limit, program_limit}
use Rattle.geo_cli.specs.Status.{search_status}
use Rattle.geo_cli.specs.Values.{HasValuesLine}
use Rattle.geo_cli.specs.Words.{IsBenchOf, IsCheck, IsCite, IsDiscover, IsFigure, IsFixed, IsPlace, IsProve, IsText, ReadsNothing}
use Rattle.geo_conditions.specs.Truth.{Holds, IsImpossible, Meets, ProgramValues, integers_of}
use Rattle.geo_discover.specs.FixedEnds.{EndsWithVerdict}
use Rattle.geo_discover.specs.FoundTexts.{FirstIsAccepted, IsSearched, IsTold, IsToldInPart, SearchEnd, found}
use Rattle.log_checker.specs.Checkers.{with_feeds}
use Rattle.geo_figure.specs.Drawing.{drawing}
use Rattle.geo_lexer.specs.declared.token_types.Fault.{Fault}
use Rattle.geo_library.specs.Citations.{IsCitation, Misses}
use Rattle.geo_library.specs.Working.{no_instance}
use Rattle.geo_logs.specs.Ends.{ends_with}
use Rattle.geo_lowering.specs.Lowering.{IsLowered, LoweredForm}
use Rattle.geo_lowering.specs.declared.version.Version.TheVariants.{Two}
use Rattle.geo_place.specs.declared.placed.Placed.{Placed}
use Rattle.geo_place.specs.Placing.{Places, PlacesNothing, points_text}
use Rattle.geo_points.specs.Placements.{Placement}
use Rattle.geo_program.specs.declared.program_type.Program.{Program}
use Rattle.geo_program.specs.declared.statements.Statement.{Statement}
use Rattle.geo_program.specs.Programs.{Spells, source_of}
use Rattle.geo_program.specs.Relations.{with_statement}
use Rattle.geo_program.specs.WellFormed.{Source}
use Rattle.geo_prover.specs.Bench.{IsBench}
use Rattle.log_checker.specs.ProgramLogs.{IsLogOf}
use Rattle.log_checker.specs.Accepted.{Accepts, BytesMean}
use Rattle.log_checker.specs.Laws.{IsDecided}
use Rattle.proof_log.specs.declared.log.Line.{Line}
use Rattle.proof_log.specs.declared.log.Verdict.{Verdict}
use Rattle.proof_log.specs.declared.log.Verdict.TheVariants.{Impossible}
use Rattle.proof_log.specs.Lines.{log_text, verdict_text}
use Rattle.proof_printer.specs.Proofs.{IsReadableProof}

-- THE MAIN CLAUSE
-- the words are `prove` with so many steps, the source gave these bytes and no more, they spell this program, and the sink holds this text
-- besides; and it means: the statement is true, or the printed integers break it, or no placement meets the program
pub record Proves (words : List (List ℕ)) (left left' held held' : Option (List ℕ)) (verdict : Verdict) : Type 0 where
  pub steps : ℕ
  pub command : IsProve words steps
  pub bytes : List ℕ
  pub input : IsInput program_limit left bytes left'
  pub program : Program
  pub spelt : Spells bytes program
  pub text : List ℕ
  pub written : Grows held text held'
  pub means : BytesMean text (source_of program) verdict

-- the words are `check` with so many steps, the source gave these bytes and no more, whoever wrote them; and they mean that of this program
pub record Checks (words : List (List ℕ)) (left left' : Option (List ℕ)) (verdict : Verdict) : Type 0 where
  pub steps : ℕ
  pub command : IsCheck words steps
  pub bytes : List ℕ
  pub input : IsInput log_limit left bytes left'
  pub program : Source
  pub means : BytesMean bytes program verdict

-- the words are `bench` with this number and so many steps, and a text means that of the program of this number
pub record Benches (words : List (List ℕ)) (verdict : Verdict) : Type 0 where
  pub number : ℕ
  pub steps : ℕ
  pub command : IsBenchOf words number steps
  pub program : Program
  pub made : IsBench number (source_of program)
  pub text : List ℕ
  pub means : BytesMean text (source_of program) verdict

-- the words are `fixed` with so many steps, the source gave these bytes and no more, they spell this program, and the sink holds the line
-- of the verdict besides; and the verdict decides: which of the three holds of the program
pub record Fixes (words : List (List ℕ)) (left left' held held' : Option (List ℕ)) (verdict : Verdict) : Type 0 where
  pub steps : ℕ
  pub command : IsFixed words steps
  pub bytes : List ℕ
  pub input : IsInput program_limit left bytes left'
  pub program : Program
  pub spelt : Spells bytes program
  pub written : Grows held (fixed_line verdict) held'
  pub decided : IsDecided (source_of program) verdict

-- the words are `discover` with so many steps, the source gave these bytes and no more, they spell this program, and the sink holds the one
-- line `impossible k` besides; and no placement meets the commands, whatever the statement is
pub record FindsImpossible (words : List (List ℕ)) (left left' held held' : Option (List ℕ)) (verdict : Verdict) : Type 0 where
  pub steps : ℕ
  pub command : IsDiscover words steps
  pub bytes : List ℕ
  pub input : IsInput program_limit left bytes left'
  pub program : Program
  pub spelt : Spells bytes program
  pub number : ℕ
  pub is : verdict ≡ Impossible number
  pub written : Grows held (with_feeds (verdict_text verdict ∷ [])) held'
  pub none : (statement : Statement) → IsImpossible (with_statement (source_of program) statement)

-- what a verdict that is answered tells, by the command
abbrev pub VerdictTells : List (List ℕ) → Option (List ℕ) → Option (List ℕ) → Option (List ℕ) → Option (List ℕ) → Verdict → Type 0
VerdictTells words left left' held held' verdict =
    Proves words left left' held held' verdict
    ⊎ (Checks words left left' verdict
    ⊎ (Benches words verdict ⊎ (Fixes words left left' held held' verdict ⊎ FindsImpossible words left left' held held' verdict)))

-- THE LOG BEHIND A VERDICT
-- the text is a log of the program that is accepted with these steps and this verdict
pub record ProvesByLog (words : List (List ℕ)) (left left' held held' : Option (List ℕ)) (verdict : Verdict) : Type 0 where
  pub proves : Proves words left left' held held' verdict
  pub accepted : Accepts proves.text proves.steps (source_of proves.program) verdict

-- so are the bytes
pub record ChecksLog (words : List (List ℕ)) (left left' : Option (List ℕ)) (verdict : Verdict) : Type 0 where
  pub checks : Checks words left left' verdict
  pub accepted : Accepts checks.bytes checks.steps checks.program verdict

-- the text is the log of the program with these steps, which ends with this verdict, and is accepted; the sink holds the numbers of that
-- log besides, and not the log
pub record BenchesLog (words : List (List ℕ)) (held held' : Option (List ℕ)) (verdict : Verdict) : Type 0 where
  pub benches : Benches words verdict
  pub form : LoweredForm
  pub lowered : IsLowered Two (source_of benches.program) form
  pub lines : List Line
  pub left : ℕ
  pub log : IsLogOf (source_of benches.program) benches.steps lines (ends_with verdict left)
  pub is : benches.text ≡ log_text lines
  pub accepted : Accepts benches.text benches.steps (source_of benches.program) verdict
  pub written : Grows held (bench_text benches.number (length form.construction.steps) benches.steps lines (ends_with verdict left)) held'

-- the log of the program with its first point at the origin, with these steps, which is not written, ends with this verdict
pub record FixesByLog (words : List (List ℕ)) (left left' held held' : Option (List ℕ)) (verdict : Verdict) : Type 0 where
  pub fixes : Fixes words left left' held held' verdict
  pub ends : EndsWithVerdict (source_of fixes.program) fixes.steps verdict

-- so does an accepted log of the first candidate, which is not written
pub record FindsImpossibleByLog (words : List (List ℕ)) (left left' held held' : Option (List ℕ)) (verdict : Verdict) : Type 0 where
  pub finds : FindsImpossible words left left' held held' verdict
  pub first : FirstIsAccepted (source_of finds.program) finds.steps verdict

-- which log it is that tells the verdict, by the command
abbrev pub VerdictAccepted : List (List ℕ) → Option (List ℕ) → Option (List ℕ) → Option (List ℕ) → Option (List ℕ) → Verdict → Type 0
VerdictAccepted words left left' held held' verdict =
    ProvesByLog words left left' held held' verdict
    ⊎ (ChecksLog words left left' verdict
    ⊎ (BenchesLog words held held' verdict
    ⊎ (FixesByLog words left left' held held' verdict ⊎ FindsImpossibleByLog words left left' held held' verdict)))

-- the words are `text` with so many steps, the source gave these bytes and no more, they are an accepted log, and the sink holds its
-- readable proof besides
pub record Prints (words : List (List ℕ)) (left left' held held' : Option (List ℕ)) : Type 0 where
  pub steps : ℕ
  pub command : IsText words steps
  pub bytes : List ℕ
  pub input : IsInput log_limit left bytes left'
  pub text : List ℕ
  pub readable : IsReadableProof bytes steps text
  pub written : Grows held text held'

-- the words are `place`, or `figure` where it is drawn, with so many steps
abbrev pub IsPlaceOf : Bool → List (List ℕ) → ℕ → Type 0
IsPlaceOf false = IsPlace
IsPlaceOf true = IsFigure

-- placed points as text, or drawn
abbrev pub shown : Bool → Placed → List ℕ
shown false placed = points_text placed
shown true placed = drawing placed

-- the words are `place` or `figure`, the source gave these bytes and no more, and they are values and a program
pub record ReadsValues (drawn : Bool) (words : List (List ℕ)) (left left' : Option (List ℕ)) (program : Program) (v : ProgramValues) : Type 0 where
  pub steps : ℕ
  pub command : IsPlaceOf drawn words steps
  pub bytes : List ℕ
  pub input : IsInput program_limit left bytes left'
  pub rest : List ℕ
  pub line : HasValuesLine bytes (integers_of v) rest
  pub spelt : Spells rest program

-- these are the points of the one placement with the values that meets the program, and the sink holds them besides
pub record PlacesInput (drawn : Bool) (words : List (List ℕ)) (left left' held held' : Option (List ℕ)) : Type 0 where
  pub program : Program
  pub v : ProgramValues
  pub reads : ReadsValues drawn words left left' program v
  pub placed : Placed
  pub places : Places (source_of program) v placed
  pub written : Grows held (shown drawn placed) held'

-- the condition of this number is not met, and no placement with the values meets the program
pub record PlacesNone (words : List (List ℕ)) (left left' : Option (List ℕ)) (k : ℕ) : Type 0 where
  pub drawn : Bool
  pub program : Program
  pub v : ProgramValues
  pub reads : ReadsValues drawn words left left' program v
  pub none : PlacesNothing (source_of program) v k

-- the words are `cite` with so many steps, the source gave these bytes and no more, they cite this statement, and the sink holds its line
-- besides; and it holds in every placement that meets the citing program. That some placement meets this is not said
pub record Cites (words : List (List ℕ)) (left left' held held' : Option (List ℕ)) : Type 0 where
  pub steps : ℕ
  pub command : IsCite words steps
  pub bytes : List ℕ
  pub input : IsInput log_limit left bytes left'
  pub text : List ℕ
  pub cites : IsCitation bytes steps text
  pub written : Grows held (cited_line text) held'
  pub holds : (placed : Placement) → Meets cites.parts.case.program placed → Holds cites.parts.case.program placed

-- the words are `cite` with so many steps, the source gave these bytes and no more, and of all that the cited program asks of the citing
-- one, what its line of this number asks is the first that is not so
pub record CitesNone (words : List (List ℕ)) (left left' : Option (List ℕ)) (line : ℕ) : Type 0 where
  pub steps : ℕ
  pub command : IsCite words steps
  pub bytes : List ℕ
  pub input : IsInput log_limit left bytes left'
  pub misses : Misses bytes steps (no_instance line)

-- the words are `discover` with so many steps, the source gave these bytes and no more, they spell this program, and the sink holds the
-- text of its search besides, in which no candidate is open; and every candidate is told: it has a relation line just where the program
-- with it is true, and the log behind that line is accepted
pub record Finds (words : List (List ℕ)) (left left' held held' : Option (List ℕ)) : Type 0 where
  pub steps : ℕ
  pub command : IsDiscover words steps
  pub bytes : List ℕ
  pub input : IsInput program_limit left bytes left'
  pub program : Program
  pub spelt : Spells bytes program
  pub lines : List (List ℕ)
  pub count : ℕ
  pub searched : IsSearched (source_of program) steps lines (found count)
  pub written : Grows held (with_feeds lines) held'
  pub told : AllByRecursion (IsTold (source_of program) steps) searched.findings

-- what is told where all is written: a readable proof, placed points, a drawing, a statement that is cited, or the relations of a figure
abbrev pub DoneTells : List (List ℕ) → Option (List ℕ) → Option (List ℕ) → Option (List ℕ) → Option (List ℕ) → Type 0
DoneTells words left left' held held' =
    Prints words left left' held held'
    ⊎ (PlacesInput false words left left' held held'
    ⊎ (PlacesInput true words left left' held held' ⊎ (Cites words left left' held held' ⊎ Finds words left left' held held')))

-- the status tells a stop, or a text that is too long
abbrev pub IsStopStatus : Status → Type 0
IsStopStatus (Spent line) = Unit {0}
IsStopStatus (TooLarge line which) = Unit {0}
IsStopStatus TooLong = Unit {0}
IsStopStatus _ = ⊥

-- the source gave these bytes and no more, they spell this program, and the sink holds the text of its search besides, as far as it goes;
-- and so is told every candidate that is not open
pub record FindsInPart (steps : ℕ) (left left' held held' : Option (List ℕ)) (status : Status) : Type 0 where
  pub bytes : List ℕ
  pub input : IsInput program_limit left bytes left'
  pub program : Program
  pub spelt : Spells bytes program
  pub lines : List (List ℕ)
  pub end : SearchEnd
  pub searched : IsSearched (source_of program) steps lines end
  pub is : status ≡ search_status end
  pub written : Grows held (with_feeds lines) held'
  pub told : AllByRecursion (IsToldInPart (source_of program) steps) searched.findings

-- what `discover` with so many steps tells then, unless the input is too long
abbrev pub SearchesInPart : ℕ → Option (List ℕ) → Option (List ℕ) → Option (List ℕ) → Option (List ℕ) → Status → Type 0
SearchesInPart steps left left' held held' status =
    (IsLong program_limit left left' × (status ≡ TooLong)) ⊎ FindsInPart steps left left' held held' status

-- writing failed, or memory ran out
abbrev pub IsBrokenOff : Status → Type 0
IsBrokenOff WriteFault = Unit {0}
IsBrokenOff NoMemory = Unit {0}
IsBrokenOff _ = ⊥

-- the sink holds the first bytes of the text besides
abbrev pub Begins : List ℕ → Option (List ℕ) → Option (List ℕ) → Type 0
Begins text held held' = (count : ℕ) × Grows held (take count text) held'

-- the source gave these bytes and no more, they spell this program, and the sink holds the first bytes of the text of its search besides;
-- and of this text every candidate that is not open is told
pub record BeginsSearch (steps : ℕ) (left left' held held' : Option (List ℕ)) : Type 0 where
  pub bytes : List ℕ
  pub input : IsInput program_limit left bytes left'
  pub program : Program
  pub spelt : Spells bytes program
  pub lines : List (List ℕ)
  pub end : SearchEnd
  pub searched : IsSearched (source_of program) steps lines end
  pub begun : Begins (with_feeds lines) held held'
  pub told : AllByRecursion (IsToldInPart (source_of program) steps) searched.findings

-- the bytes that the source gave spell no program, and the sink holds the first bytes of the line that tells why
pub record BeginsRefusal (left left' held held' : Option (List ℕ)) : Type 0 where
  pub bytes : List ℕ
  pub input : IsInput program_limit left bytes left'
  pub fault : Fault
  pub no_program : SpellsNone bytes fault
  pub begun : Begins (syntax_line fault) held held'

-- what `discover` with so many steps has begun then: nothing, its text, or the line that tells why its input has none
abbrev pub SearchesBegun : ℕ → Option (List ℕ) → Option (List ℕ) → Option (List ℕ) → Option (List ℕ) → Type 0
SearchesBegun steps left left' held held' =
    (held' ≡ held)
    ⊎ (BeginsSearch steps left left' held held'
    ⊎ (BeginsRefusal left left' held held' ⊎ (IsLong program_limit left left' × Begins too_long_line held held')))

-- THE ENDS OF A RUN
-- writing was cut short: a write failed, or memory ran out
abbrev pub IsCutShort : Status → ℕ → ℕ → Type 0
IsCutShort status faults faults' = ((status ≡ WriteFault) × HasRisen faults faults') ⊎ (status ≡ NoMemory)

-- the text was written and the status answered; or writing was cut short behind its first bytes
abbrev pub IsAnswered : Due → Status → ℕ → ℕ → Option (List ℕ) → Option (List ℕ) → Type 0
IsAnswered due status faults faults' held held' =
    ((status ≡ due.status) × Grows held due.text held')
    ⊎ (IsCutShort status faults faults' × ((count : ℕ) × Grows held (take count due.text) held'))

-- what the words and the input call for was answered
pub record Answers (words : List (List ℕ)) (left left' : Option (List ℕ)) (faults faults' : ℕ) (held held' : Option (List ℕ))
    (status : Status) : Type 0 where
  pub due : Due
  pub cause : IsDue words left left' due
  pub answered : IsAnswered due status faults faults' held held'

-- a read failed, and nothing was written
pub record FailsToRead (words : List (List ℕ)) (faults faults' : ℕ) (held held' : Option (List ℕ)) (status : Status) : Type 0 where
  pub is : status ≡ ReadFault
  pub command : ReadsNothing words → ⊥
  pub fault : HasRisen faults faults'
  pub unwritten : held' ≡ held

-- memory ran out, and nothing was written
pub record RunsOut (held held' : Option (List ℕ)) (status : Status) : Type 0 where
  pub is : status ≡ NoMemory
  pub unwritten : held' ≡ held

-- every run ends in one of these ways
abbrev pub Ends :
    List (List ℕ) → Option (List ℕ) → Option (List ℕ) → ℕ → ℕ → ℕ → ℕ → Option (List ℕ) → Option (List ℕ) → Status → Type 0
Ends words left left' source_faults source_faults' faults faults' held held' status =
    Answers words left left' faults faults' held held' status
    ⊎ (FailsToRead words source_faults source_faults' held held' status ⊎ RunsOut held held' status)
