-- How the log of a generated program is told.
use Rattle.std.specs.Prelude.{◌≡◌, ℕ, List, [], ◌∷◌, ◌++◌, codes}
use Rattle.geo_cli.specs.declared.reports.Report.{Report}
use Rattle.proof_printer.specs.declared.status.Status.{Status}
use Rattle.proof_printer.specs.Due.{Due}
use Rattle.proof_printer.specs.Status.{ending_status, verdict_status}
use Rattle.geo_cli.specs.Due.{count_line, ending_text}
use Rattle.geo_logs.specs.Ends.{Ending}
use Rattle.geo_program.specs.WellFormed.{Source}
use Rattle.geo_prover.specs.declared.summary.Summary.{Summary}
use Rattle.log_checker.specs.ProgramLogs.{IsLogOf}
use Rattle.proof_log.specs.declared.log.Line.{Line}
use Rattle.proof_log.specs.Lines.{line_text, verdict_text}

-- the report tells how the program's log with so many steps ends
pub record TellsEnding (p : Source) (steps : ℕ) (report : Report) : Type 0 where
  pub lines : List Line
  pub ending : Ending
  pub log : IsLogOf p steps lines ending
  pub text : report.text ≡ ending_text steps lines ending
  pub status : report.status ≡ ending_status lines ending

-- what is told of a whole log
abbrev pub summary_report : Summary → Report
summary_report summary = record {
  text = count_line (codes "lines") summary.lines ++ count_line (codes "charge") summary.charge ++ verdict_text summary.verdict ++ 10 ∷ [];
  status = verdict_status summary.verdict;
}

-- what is told of a log that ends with this line of a stop
abbrev pub stop_report : Line → Status → Report
stop_report stop status = record { text = line_text stop ++ 10 ∷ []; status = status }

-- what a report is to write and to answer
abbrev pub due_of : Report → Due
due_of report = record { text = report.text; status = report.status }
