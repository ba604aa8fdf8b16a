-- The log of a program that was written into memory.
use Rattle.std.proofs.Common.{◌≡◌, ℕ, List, [], ◌++◌, Some, ap, ◌∙◌}
use Rattle.geo_base.specs.Devices.{Grows}
use Rattle.proof_printer.specs.declared.status.Status.{Status}
use Rattle.proof_printer.specs.declared.status.Status.TheVariants.{Spent, TooLarge, TooLong}
use Rattle.proof_printer.specs.Due.{IsLogDue}
use Rattle.proof_printer.specs.Status.{verdict_status}
use Rattle.geo_logs.specs.Ends.{ends_by, ends_with, too_long}
use Rattle.geo_logs.specs.Moves.{spent, too_large}
use Rattle.geo_poly.specs.declared.limits.Which.{Which}
use Rattle.geo_program.specs.declared.program_type.Program.{Program}
use Rattle.geo_program.specs.Programs.{Spells, source_of}
use Rattle.geo_prover.specs.declared.summary.Summary.{Summary}
use Rattle.geo_prover.specs.Proving.{Concludes, WritesToStop, WritesLog}
use Rattle.proof_log.specs.Lines.{log_text}

-- an empty sink that has grown by a text holds that text
all_written : (old new text : List ℕ) → old ≡ [] → Grows (Some old) text (Some new) → new ≡ text
all_written old new text none grown =
    let told : Some new ≡ Some (old ++ text) = grown in
    let is : new ≡ old ++ text = cc in
    is ∙ ap (λ (xs : List ℕ). xs ++ text) none

module _ (p : Program) (steps : ℕ) (old new : List ℕ) (none : old ≡ []) (bytes : List ℕ) (spelt : Spells bytes p) where
  -- the whole log
  pub concluded : (summary : Summary) (status : Status) → status ≡ verdict_status summary.verdict
      → Concludes (source_of p) steps (Some old) (Some new) summary → IsLogDue steps bytes (record { text = new; status = status })
  concluded summary status same h =
      let written = all_written old new (log_text h.lines) none h.written in
      record {
        program = p;
        spelt = spelt;
        lines = h.lines;
        ending = ends_with summary.verdict h.left;
        log = h.log;
        is = λ i. record { text = written i; status = same i };
      }

  -- the log up to a line that is too large
  pub too_large_line : (line : ℕ) (which : Which) → WritesToStop (source_of p) steps (Some old) (Some new) (too_large which) line
      → IsLogDue steps bytes (record { text = new; status = TooLarge line which })
  too_large_line line which h =
      let w = h.whole in
      let written = all_written old new (log_text w.lines) none w.written in
      let last = h.last in
      record {
        program = p;
        spelt = spelt;
        lines = w.lines;
        ending = ends_by (too_large which);
        log = w.log;
        is = λ i. record { text = written i; status = TooLarge (last i) which };
      }

  -- the log up to a line that is not paid
  pub spent_line : (line : ℕ) → WritesToStop (source_of p) steps (Some old) (Some new) spent line
      → IsLogDue steps bytes (record { text = new; status = Spent line })
  spent_line line h =
      let w = h.whole in
      let written = all_written old new (log_text w.lines) none w.written in
      let last = h.last in
      record {
        program = p;
        spelt = spelt;
        lines = w.lines;
        ending = ends_by spent;
        log = w.log;
        is = λ i. record { text = written i; status = Spent (last i) };
      }

  -- the log before the line with which it would be too long
  pub long_log : WritesLog (source_of p) steps (Some old) (Some new) too_long
      → IsLogDue steps bytes (record { text = new; status = TooLong })
  long_log w =
      let written = all_written old new (log_text w.lines) none w.written in
      record {
        program = p;
        spelt = spelt;
        lines = w.lines;
        ending = too_long;
        log = w.log;
        is = λ i. record { text = written i; status = TooLong };
      }
