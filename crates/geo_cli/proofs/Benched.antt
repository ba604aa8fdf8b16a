-- What `bench` tells of the log of a generated program.
use Rattle.std.proofs.Common.{◌≡◌, ℕ, ◌-◌, List, [], ◌∷◌, ◌++◌, length, codes, Option, Result, Ok, Err, refl, sym, ap, subst, ◌∙◌, arith}
use Rattle.std.specs.Prelude.{IfOk}
use Rattle.geo_cli.specs.declared.reports.Report.{Report}
use Rattle.proof_printer.specs.declared.status.Status.TheVariants.{TooLong}
use Rattle.geo_cli.specs.Due.{IsBenchDue, count_line}
use Rattle.geo_cli.specs.Inner.Telling.{TellsEnding, stop_report, summary_report}
use Rattle.proof_printer.specs.Status.{stop_status}
use Rattle.geo_logs.specs.Ends.{ends_by, ends_with, stop_line, too_long}
use Rattle.geo_logs.specs.Moves.{Stop}
use Rattle.geo_lowering.specs.Lowering.{IsLowered, LoweredForm}
use Rattle.geo_lowering.specs.declared.version.Version.TheVariants.{Two}
use Rattle.geo_program.specs.declared.program_type.Program.{Program}
use Rattle.geo_program.specs.Programs.{source_of}
use Rattle.geo_program.specs.WellFormed.{Source}
use Rattle.geo_prover.specs.Bench.{IsBench}
use Rattle.geo_prover.specs.declared.summary.Summary.{Summary}
use Rattle.geo_prover.specs.Proving.{Concludes, WritesToStop, WritesLog}
use Rattle.proof_log.specs.Lines.{line_text, verdict_text}

module _ (p : Source) (steps : ℕ) (held held' : Option (List ℕ)) where
  -- a whole log
  pub summary_told : (summary : Summary) → Concludes p steps held held' summary → TellsEnding p steps (summary_report summary)
  summary_told summary h =
      let e = h.charged in
      let charge : summary.charge ≡ steps - h.left = omega (arith, e) in
      record {
        lines = h.lines;
        ending = ends_with summary.verdict h.left;
        log = h.log;
        text = λ i. count_line (codes "lines") (h.counted i) ++ count_line (codes "charge") (charge i) ++ verdict_text summary.verdict ++ 10 ∷ [];
        status = refl;
      }

  -- a log that ends by a stop
  pub stop_told : (stop : Stop) (line : ℕ) → WritesToStop p steps held held' stop line
      → TellsEnding p steps (stop_report (stop_line line stop) (stop_status line stop))
  stop_told stop line h = record {
    lines = h.whole.lines;
    ending = ends_by stop;
    log = h.whole.log;
    text = ap (λ n. line_text (stop_line n stop) ++ 10 ∷ []) h.last;
    status = ap (λ n. stop_status n stop) h.last;
  }

  -- a log that gets too long
  pub long_told : (report : Report) → WritesLog p steps held held' too_long → report.text ≡ [] → report.status ≡ TooLong → TellsEnding p steps report
  long_told report h text status = record { lines = h.lines; ending = too_long; log = h.log; text = text; status = status }

-- a report that is one that tells it
pub is_told : {E : Type 0} (p : Source) (steps : ℕ) (report : Report) (answer : Result Report E) → TellsEnding p steps report
    → IfOk answer (λ r. r ≡ report) → IfOk answer (TellsEnding p steps)
is_told p steps report (Ok r) told is = subst (TellsEnding p steps) (sym is) told
is_told p steps report (Err e) told is = tt

-- the number, the points and how the log ends
pub bench_told : (number steps points : ℕ) (program : Program) (form : LoweredForm) (ending : Report) (text : List ℕ) → IsBench number (source_of program)
    → IsLowered Two (source_of program) form → points ≡ length form.construction.steps → TellsEnding (source_of program) steps ending
    → text ≡ count_line (codes "bench") number ++ count_line (codes "points") points ++ ending.text
    → IsBenchDue number steps (record { text = text; status = ending.status })
bench_told number steps points program form ending text made lowered counted told is = record {
  program = program;
  made = made;
  form = form;
  lowered = lowered;
  lines = told.lines;
  ending = told.ending;
  log = told.log;
  is = λ i. record {
    text = (is ∙ (λ j. count_line (codes "bench") number ++ count_line (codes "points") (counted j) ++ told.text j)) i;
    status = told.status i;
  };
}
