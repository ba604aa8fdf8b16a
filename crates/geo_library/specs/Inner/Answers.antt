-- What calls below answer, as answers of a citation.
use Rattle.std.specs.Prelude.{◌≡◌, ℕ, ◌+◌, List}
use Rattle.geo_lexer.specs.declared.token_types.Fault.{Fault}
use Rattle.geo_parser.specs.Refusals.{IsRefused}
use Rattle.log_checker.specs.declared.errors.CheckError.{CheckError}
use Rattle.log_checker.specs.declared.errors.CheckError.TheVariants as check
use Rattle.geo_library.specs.declared.errors.CiteError.{CiteError}
use Rattle.geo_library.specs.declared.errors.CiteError.TheVariants as cite

-- why a log is not accepted
abbrev pub error_of_check : CheckError → CiteError
error_of_check (check.Rejected line reason) = cite.Rejected line reason
error_of_check (check.TooLarge line which) = cite.TooLarge line which
error_of_check (check.Spent line) = cite.Spent line
error_of_check check.NoMemory = cite.NoMemory

-- the error tells the fault of a text that begins at this place; want of memory tells nothing
abbrev pub IsFaultAt : List ℕ → ℕ → CiteError → Type 0
IsFaultAt text start (cite.Syntax told) =
    (fault : Fault) × IsRefused text fault × (told.refusal ≡ fault.refusal) × (told.place ≡ start + fault.place)
IsFaultAt text start cite.NoMemory = Unit {0}
IsFaultAt text start _ = ⊥
