-- What the bytes of a program or of a log call for: a text, a status, and the cause of both.
use Rattle.std.specs.Prelude.{◌≡◌, ℕ, suc, List, [], ◌∷◌, ◌++◌, codes}
use Rattle.std.specs.Fmt.{decimal}
use Rattle.proof_printer.specs.declared.status.Status.{Status}
use Rattle.proof_printer.specs.declared.status.Status.TheVariants.{Done}
use Rattle.proof_printer.specs.Status.{ending_status, verdict_status}
use Rattle.geo_conditions.specs.Lists.{AreConditionItems, ItemForm}
use Rattle.geo_lexer.specs.declared.token_types.Fault.{Fault}
use Rattle.geo_logs.specs.Ends.{Ending}
use Rattle.geo_lowering.specs.declared.version.Version.TheVariants.{Two}
use Rattle.geo_parser.specs.Refusals.{IsRefused}
use Rattle.geo_program.specs.CanonicalText.{canonical_text}
use Rattle.geo_program.specs.declared.program_type.Program.{Program}
use Rattle.geo_program.specs.Programs.{Spells, source_of}
use Rattle.geo_program.specs.WellFormed.{Source}
use Rattle.log_checker.specs.ProgramLogs.{IsLogOf}
use Rattle.log_checker.specs.Accepted.{Accepts}
use Rattle.proof_log.specs.declared.log.Line.{Line}
use Rattle.proof_log.specs.declared.log.Verdict.{Verdict}
use Rattle.proof_log.specs.Lines.{log_text, verdict_text}
use Rattle.proof_printer.specs.Proofs.{IsReadableProof}

-- a text that is to be handed out, and the status then
pub record Due : Type 0 where
  pub text : List ℕ
  pub status : Status

-- WHAT A PROGRAM CALLS FOR
-- the bytes spell a program: its log, with so many steps, up to its end
pub record IsLogDue (steps : ℕ) (bytes : List ℕ) (due : Due) : Type 0 where
  pub program : Program
  pub spelt : Spells bytes program
  pub lines : List Line
  pub ending : Ending
  pub log : IsLogOf (source_of program) steps lines ending
  pub is : due ≡ record { text = log_text lines; status = ending_status lines ending }

-- the bytes spell no program, and this is their first refusal
pub record SpellsNone (bytes : List ℕ) (fault : Fault) : Type 0 where
  pub refused : IsRefused bytes fault
  pub spells_none : (program : Program) → Spells bytes program → ⊥

-- WHAT A LOG CALLS FOR
-- `condition 1 TEXT` for each of the conditions, numbered from k on
abbrev pub conditions_text : ℕ → List ItemForm → List ℕ
conditions_text k [] = []
conditions_text k (item ∷ items) =
    codes "condition " ++ decimal k ++ codes " " ++ item.text ++ 10 ∷ conditions_text (suc k) items

-- the program, its conditions, and the verdict
abbrev pub accepted_text : Source → List ItemForm → Verdict → List ℕ
accepted_text p conditions verdict =
    canonical_text p ++ conditions_text 1 conditions ++ codes "accepted " ++ verdict_text verdict ++ 10 ∷ []

-- the text tells the program, its conditions and the verdict
pub record IsAcceptedText (p : Source) (verdict : Verdict) (text : List ℕ) : Type 0 where
  pub conditions : List ItemForm
  pub listed : AreConditionItems Two p conditions
  pub is : text ≡ accepted_text p conditions verdict

-- the bytes are an accepted log. Texts of conditions are the same in both versions
pub record IsAcceptedDue (steps : ℕ) (bytes : List ℕ) (due : Due) : Type 0 where
  pub program : Source
  pub verdict : Verdict
  pub accepted : Accepts bytes steps program verdict
  pub conditions : List ItemForm
  pub listed : AreConditionItems Two program conditions
  pub is : due ≡ record { text = accepted_text program conditions verdict; status = verdict_status verdict }

-- the bytes are an accepted log: its readable proof
pub record IsReadableDue (steps : ℕ) (bytes : List ℕ) (due : Due) : Type 0 where
  pub text : List ℕ
  pub readable : IsReadableProof bytes steps text
  pub is : due ≡ record { text = text; status = Done }
