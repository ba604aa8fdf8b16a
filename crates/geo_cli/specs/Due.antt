-- What a run is to write and to answer, and the cause of it.
use Rattle.std.specs.Prelude.{◌≡◌, ◌≢◌, ◌⊎◌, ℕ, ◌+◌, ◌-◌, ◌<◌, ◌≤◌, Bool, true, false, ℤ, List, [], ◌∷◌, ◌++◌, length}
use Rattle.std.specs.Prelude.{Option, None, Some, Result, Ok, Err, codes}
use Rattle.std.specs.Fmt.{decimal}
use Rattle.geo_cli.specs.declared.order.Command.{Command}
use Rattle.geo_cli.specs.declared.order.Command.TheVariants.{Bench, Check, Cite, Discover, Figure, Fixed, Place, Prove, Text}
use Rattle.geo_cli.specs.declared.order.Order.{Order}
use Rattle.proof_printer.specs.declared.status.Status.TheVariants.{Done, NotInstance, Rejected, Usage, Syntax, TooLong, Unmet}
use Rattle.geo_cli.specs.Input.{IsInput, IsLong, limit_of}
use Rattle.geo_cli.specs.Orders.{IsOrder}
use Rattle.proof_printer.specs.Due.{Due, IsAcceptedDue, IsLogDue, IsReadableDue, SpellsNone}
use Rattle.proof_printer.specs.Status.{ending_status, refusal_status, stop_status, verdict_status}
use Rattle.geo_cli.specs.Status.{search_status}
use Rattle.geo_cli.specs.Values.{HasNoValuesLine, HasValuesLine, values_line}
use Rattle.geo_cli.specs.Words.{IsNoCommand}
use Rattle.geo_base.specs.declared.texts.Text.{Text as Written}
use Rattle.geo_conditions.specs.Truth.{ProgramValues, free_points, integers_of}
use Rattle.geo_discover.specs.FixedEnds.{EndsWithVerdict, StopsAtLine}
use Rattle.geo_discover.specs.FoundTexts.{IsSearched, SearchEnd}
use Rattle.log_checker.specs.Checkers.{with_feeds}
use Rattle.geo_figure.specs.declared.errors.DrawError.{DrawError}
use Rattle.geo_figure.specs.declared.errors.DrawError.TheVariants as drawing
use Rattle.geo_figure.specs.Drawing.{IsDrawn}
use Rattle.geo_lexer.specs.declared.token_types.Fault.{Fault}
use Rattle.geo_library.specs.declared.errors.CiteError.{CiteError}
use Rattle.geo_library.specs.declared.errors.CiteError.TheVariants as citing
use Rattle.geo_library.specs.Citations.{IsCitation}
use Rattle.geo_library.specs.Told.{TellsRefusal}
use Rattle.geo_logs.specs.Ends.{Ending, ends_by, ends_with, stop_line, too_long}
use Rattle.geo_logs.specs.Judging.{Refusal, number_of, rejected, stopped}
use Rattle.geo_lowering.specs.Lowering.{IsLowered, LoweredForm}
use Rattle.geo_lowering.specs.declared.version.Version.TheVariants.{Two}
use Rattle.geo_logs.specs.Moves.{Stop, spent, too_large}
use Rattle.geo_place.specs.declared.errors.PlaceError.{PlaceError}
use Rattle.geo_place.specs.declared.errors.PlaceError.TheVariants as placing
use Rattle.geo_place.specs.declared.placed.Placed.{Placed}
use Rattle.geo_place.specs.Placing.{AnswersValues, points_text, values_wanted}
use Rattle.geo_poly.specs.declared.limits.Which.TheVariants.{Norm}
use Rattle.geo_program.specs.declared.program_type.Program.{Program}
use Rattle.geo_program.specs.Programs.{Spells, source_of}
use Rattle.geo_program.specs.WellFormed.{Source}
use Rattle.geo_prover.specs.Bench.{IsBench}
use Rattle.log_checker.specs.ProgramLogs.{IsLogOf}
use Rattle.log_checker.specs.Judged.{Refuses}
use Rattle.proof_log.specs.declared.log.Line.{Line}
use Rattle.proof_log.specs.declared.log.Verdict.{Verdict}
use Rattle.proof_log.specs.Lines.{line_text, verdict_text}

-- LINES THAT SAY WHY THERE IS NO LOG

-- the words are no command
abbrev pub usage_line : List ℕ
usage_line = codes "usage: geo_cli COMMAND [NUMBER] [--steps N]" ++ 10 ∷ []

-- the input is longer than its limit
abbrev pub too_long_line : List ℕ
too_long_line = codes "too long" ++ 10 ∷ []

-- the input spells no program: the number of the refusal, and the place of the token that is refused
abbrev pub syntax_line : Fault → List ℕ
syntax_line fault = codes "syntax " ++ decimal fault.refusal ++ codes " at " ++ decimal fault.place ++ 10 ∷ []

-- a refusal, and its place among all bytes
abbrev pub fault_due : ℕ → ℕ → Due
fault_due refusal place = record { text = syntax_line (record { refusal = refusal; place = place }); status = Syntax refusal place }

-- a stop at the line of this number
abbrev pub stop_due : ℕ → Stop → Due
stop_due number stop = record { text = line_text (stop_line number stop) ++ 10 ∷ []; status = stop_status number stop }

-- WHAT AN INPUT CALLS FOR

-- the bytes spell no program: the line that tells why
pub record IsRefusalDue (bytes : List ℕ) (due : Due) : Type 0 where
  pub fault : Fault
  pub no_program : SpellsNone bytes fault
  pub is : due ≡ record { text = syntax_line fault; status = Syntax fault.refusal fault.place }

-- WHAT A LOG CALLS FOR

-- `rejected 25 27`
abbrev pub rejected_line : ℕ → ℕ → List ℕ
rejected_line number reason = codes "rejected " ++ decimal number ++ codes " " ++ decimal reason ++ 10 ∷ []

-- the line that tells the refusal of a line
abbrev pub refusal_line : ℕ → Refusal → List ℕ
refusal_line number (rejected reason) = rejected_line number (number_of reason)
refusal_line number (stopped stop) = line_text (stop_line number stop) ++ 10 ∷ []

-- the bytes are refused, at the line of this number
pub record IsRejectionDue (steps : ℕ) (bytes : List ℕ) (due : Due) : Type 0 where
  pub number : ℕ
  pub refusal : Refusal
  pub refused : Refuses bytes steps number refusal
  pub is : due ≡ record { text = refusal_line number refusal; status = refusal_status number refusal }

-- WHAT VALUES AND A PROGRAM CALL FOR
-- `unmet 1`
abbrev pub unmet_line : ℕ → List ℕ
unmet_line k = codes "unmet " ++ decimal k ++ 10 ∷ []

-- a number is too large at this line of the canonical program
abbrev pub large_due : ℕ → Due
large_due line = stop_due line (too_large Norm)

-- the drawing, or the line at which a number of it is too large
abbrev pub TellsDrawing : Result Written DrawError → Due → Type 0
TellsDrawing (Ok text) due = due ≡ record { text = text; status = Done }
TellsDrawing (Err (drawing.TooLarge line)) due = due ≡ large_due line
TellsDrawing (Err drawing.NoMemory) due = ⊥

-- placed points as text, or drawn
abbrev pub TellsPoints : Bool → Placed → Due → Type 0
TellsPoints false placed due = due ≡ record { text = points_text placed; status = Done }
TellsPoints true placed due = (answer : Result Written DrawError) × IsDrawn placed answer × TellsDrawing answer due

-- what is answered for the values
abbrev pub TellsAnswer : Bool → Result Placed PlaceError → Due → Type 0
TellsAnswer drawn (Ok placed) due = TellsPoints drawn placed due
TellsAnswer drawn (Err (placing.Unmet k)) due = due ≡ record { text = unmet_line k; status = Unmet k }
TellsAnswer drawn (Err (placing.TooLarge line)) due = due ≡ large_due line
TellsAnswer drawn (Err placing.NoMemory) due = ⊥

-- the values are the program's, and this is answered for them
pub record IsPlacedDue (drawn : Bool) (program : Program) (values : List ℤ) (due : Due) : Type 0 where
  pub count : length values ≡ values_wanted (source_of program)
  pub v : ProgramValues
  pub frees : length v.coordinates ≡ length (free_points 0 program.commands)
  pub are : integers_of v ≡ values
  pub answer : Result Placed PlaceError
  pub given : AnswersValues (source_of program) v answer
  pub is : TellsAnswer drawn answer due

-- what values and a program call for: a refusal where the program has not so many values
abbrev pub IsValuesDue : Bool → Program → List ℤ → Due → Type 0
IsValuesDue drawn program values due =
    ((length values ≢ values_wanted (source_of program)) × (due ≡ fault_due 14 0)) ⊎ IsPlacedDue drawn program values due

-- what values and the bytes behind their line call for: where these spell no program, the place is counted from the line's beginning
abbrev pub IsRestDue : Bool → List ℤ → List ℕ → Due → Type 0
IsRestDue drawn values rest due =
    ((fault : Fault) × SpellsNone rest fault × (due ≡ fault_due fault.refusal (length (values_line values) + fault.place)))
    ⊎ ((program : Program) × Spells rest program × IsValuesDue drawn program values due)

-- the bytes are a line of values and a rest
pub record IsLineDue (drawn : Bool) (bytes : List ℕ) (due : Due) : Type 0 where
  pub values : List ℤ
  pub rest : List ℕ
  pub line : HasValuesLine bytes values rest
  pub of_rest : IsRestDue drawn values rest due

-- what `place` is to write of these bytes, or `figure`, which draws
abbrev pub IsDueForValues : Bool → List ℕ → Due → Type 0
IsDueForValues drawn bytes due = (HasNoValuesLine bytes × (due ≡ fault_due 13 0)) ⊎ IsLineDue drawn bytes due

-- WHAT A LOG, NAMES AND A PROGRAM CALL FOR
-- the statement that is cited
abbrev pub cited_line : List ℕ → List ℕ
cited_line text = codes "cited " ++ text ++ 10 ∷ []

-- `no instance 3`
abbrev pub no_instance_line : ℕ → List ℕ
no_instance_line line = codes "no instance " ++ decimal line ++ 10 ∷ []

-- they cite this statement
pub record IsCitedDue (steps : ℕ) (bytes : List ℕ) (due : Due) : Type 0 where
  pub text : List ℕ
  pub cites : IsCitation bytes steps text
  pub is : due ≡ record { text = cited_line text; status = Done }

-- why nothing is cited
abbrev pub TellsUncited : CiteError → Due → Type 0
TellsUncited (citing.Rejected line reason) due = due ≡ record { text = rejected_line line reason; status = Rejected line reason }
TellsUncited (citing.Syntax fault) due = due ≡ fault_due fault.refusal fault.place
TellsUncited (citing.NotInstance line) due = due ≡ record { text = no_instance_line line; status = NotInstance line }
TellsUncited (citing.TooLarge line which) due = due ≡ stop_due line (too_large which)
TellsUncited (citing.Spent line) due = due ≡ stop_due line spent
TellsUncited citing.NoMemory due = ⊥

-- they cite nothing, for the first thing that is refused
pub record IsUncitedDue (steps : ℕ) (bytes : List ℕ) (due : Due) : Type 0 where
  pub error : CiteError
  pub refused : TellsRefusal bytes steps error
  pub is : TellsUncited error due

-- WHAT A PROGRAM CALLS FOR WHOSE RELATIONS ARE SOUGHT
-- the bytes spell a program: the text of its search, with so many steps for each candidate
pub record IsSearchDue (steps : ℕ) (bytes : List ℕ) (due : Due) : Type 0 where
  pub program : Program
  pub spelt : Spells bytes program
  pub lines : List (List ℕ)
  pub end : SearchEnd
  pub searched : IsSearched (source_of program) steps lines end
  pub is : due ≡ record { text = with_feeds lines; status = search_status end }

-- WHAT A NUMBER CALLS FOR

-- `points 10`
abbrev pub count_line : List ℕ → ℕ → List ℕ
count_line name count = name ++ codes " " ++ decimal count ++ 10 ∷ []

-- how the log with so many steps ends: its lines, its charge and its verdict, or its stop; a log that gets too long says no more
abbrev pub ending_text : ℕ → List Line → Ending → List ℕ
ending_text steps lines (ends_with verdict left) =
    count_line (codes "lines") (length lines) ++ count_line (codes "charge") (steps - left) ++ verdict_text verdict ++ 10 ∷ []
ending_text steps lines (ends_by stop) = line_text (stop_line (length lines) stop) ++ 10 ∷ []
ending_text steps lines too_long = []

-- the number, the points of the program, hidden ones counted, and how its log ends
abbrev pub bench_text : ℕ → ℕ → ℕ → List Line → Ending → List ℕ
bench_text number points steps lines ending =
    count_line (codes "bench") number ++ count_line (codes "points") points ++ ending_text steps lines ending

-- what `bench` is to write for this number: its program's log, with so many steps, ends so
pub record IsBenchDue (number steps : ℕ) (due : Due) : Type 0 where
  pub program : Program
  pub made : IsBench number (source_of program)
  pub form : LoweredForm
  pub lowered : IsLowered Two (source_of program) form
  pub lines : List Line
  pub ending : Ending
  pub log : IsLogOf (source_of program) steps lines ending
  pub is : due ≡ record {
    text = bench_text number (length form.construction.steps) steps lines ending;
    status = ending_status lines ending;
  }

-- WHAT A PROGRAM CALLS FOR IN THE FIXED FRAME
-- `fixed proved`
abbrev pub fixed_line : Verdict → List ℕ
fixed_line verdict = codes "fixed " ++ verdict_text verdict ++ 10 ∷ []

-- the program's log in the fixed frame ends with this verdict, or at this stop
abbrev pub TellsFixed : Source → ℕ → Due → Type 0
TellsFixed p steps due =
    ((verdict : Verdict) × EndsWithVerdict p steps verdict × (due ≡ record { text = fixed_line verdict; status = verdict_status verdict }))
    ⊎ ((stop : Stop) × (number : ℕ) × StopsAtLine p steps stop number × (due ≡ stop_due number stop))

-- the bytes spell a program: how its log in the fixed frame, with so many steps, ends
pub record IsFixedDue (steps : ℕ) (bytes : List ℕ) (due : Due) : Type 0 where
  pub program : Program
  pub spelt : Spells bytes program
  pub tells : TellsFixed (source_of program) steps due

-- WHAT EACH COMMAND CALLS FOR
-- with so many steps and the bytes that it reads, which are what it asks for, or refused; `bench` reads none
abbrev pub due_for : Command → ℕ → List ℕ → Due → Type 0
due_for Prove steps bytes due = IsLogDue steps bytes due ⊎ IsRefusalDue bytes due
due_for Fixed steps bytes due = IsFixedDue steps bytes due ⊎ IsRefusalDue bytes due
due_for Discover steps bytes due = IsSearchDue steps bytes due ⊎ IsRefusalDue bytes due
due_for Place steps bytes due = IsDueForValues false bytes due
due_for Figure steps bytes due = IsDueForValues true bytes due
due_for Check steps bytes due = IsAcceptedDue steps bytes due ⊎ IsRejectionDue steps bytes due
due_for Text steps bytes due = IsReadableDue steps bytes due ⊎ IsRejectionDue steps bytes due
due_for Cite steps bytes due = IsCitedDue steps bytes due ⊎ IsUncitedDue steps bytes due
due_for (Bench number) steps bytes due = IsBenchDue number steps due

-- WHAT THE WORDS CALL FOR

-- they are no command: nothing is read
pub record IsUsageDue (words : List (List ℕ)) (left left' : Option (List ℕ)) (due : Due) : Type 0 where
  pub no_command : IsNoCommand words
  pub unread : left' ≡ left
  pub is : due ≡ record { text = usage_line; status = Usage }

-- what a command with this limit is to write of the input: where it is longer than its limit, or read to its end
abbrev pub IsReadDue : ℕ → (List ℕ → Due → Type 0) → Option (List ℕ) → Option (List ℕ) → Due → Type 0
IsReadDue limit For left left' due =
    (IsLong limit left left' × (due ≡ record { text = too_long_line; status = TooLong }))
    ⊎ ((bytes : List ℕ) × IsInput limit left bytes left' × For bytes due)

-- what each command with so many steps is to write; `bench` reads nothing
abbrev pub IsCommandDue : Command → ℕ → Option (List ℕ) → Option (List ℕ) → Due → Type 0
IsCommandDue (Bench number) steps left left' due = (left' ≡ left) × IsBenchDue number steps due
IsCommandDue command steps left left' due = IsReadDue (limit_of command) (due_for command steps) left left' due

-- they give an order
pub record IsOrderDue (words : List (List ℕ)) (left left' : Option (List ℕ)) (due : Due) : Type 0 where
  pub order : Order
  pub given : IsOrder words order
  pub of_command : IsCommandDue order.command order.steps left left' due

-- what the words call for, with the bytes that the source had left before and has left after
abbrev pub IsDue : List (List ℕ) → Option (List ℕ) → Option (List ℕ) → Due → Type 0
IsDue words left left' due = IsUsageDue words left left' due ⊎ IsOrderDue words left left' due

-- what a command with this limit calls for where the source tells all bytes that it has left
abbrev pub IsReadCall : ℕ → (List ℕ → Due → Type 0) → Option (List ℕ) → Due → Type 0
IsReadCall limit For None due = ⊥
IsReadCall limit For (Some bytes) due =
    ((limit < length bytes) × (due ≡ record { text = too_long_line; status = TooLong })) ⊎ ((length bytes ≤ limit) × For bytes due)

-- what each command calls for then; `bench` asks for no source that tells its bytes
abbrev pub IsCommandCall : Command → ℕ → Option (List ℕ) → Due → Type 0
IsCommandCall (Bench number) steps left due = IsBenchDue number steps due
IsCommandCall command steps left due = IsReadCall (limit_of command) (due_for command steps) left due

-- what the words call for then
abbrev pub IsCalledFor : List (List ℕ) → Option (List ℕ) → Due → Type 0
IsCalledFor words left due = (order : Order) × IsOrder words order × IsCommandCall order.command order.steps left due

-- the source tells the bytes that it has left; `bench` reads none
abbrev pub HasInput : Command → Option (List ℕ) → Type 0
HasInput (Bench number) left = Unit {0}
HasInput command left = (bytes : List ℕ) × (left ≡ Some bytes)
