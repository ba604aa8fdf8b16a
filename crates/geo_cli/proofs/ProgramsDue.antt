-- What commands did with a program is what is due for the bytes that spell it.
use Rattle.std.proofs.Common.{◌≡◌, Err, List, Ok, Option, Result, ℕ, ap, inl, inr, length, refl}
use Rattle.geo_cli.specs.declared.order.Command.{Command}
use Rattle.geo_cli.specs.declared.order.Command.TheVariants.{Discover, Fixed, Prove}
use Rattle.proof_printer.specs.declared.status.Status.{Status}
use Rattle.proof_printer.specs.declared.status.Status.TheVariants.{Spent, TooLarge, TooLong}
use Rattle.proof_printer.specs.Status.{ending_status, stop_status, verdict_status}
use Rattle.geo_cli.specs.Due.{TellsFixed, due_for, fixed_line, stop_due}
use Rattle.geo_cli.specs.Inner.Answering.{AnswersDue, ReadsProgram}
use Rattle.geo_cli.specs.Run.{IsCutShort}
use Rattle.geo_logs.specs.Ends.{ends_by, ends_with, stop_line, too_long}
use Rattle.geo_logs.specs.Moves.{Stop, spent, too_large}
use Rattle.geo_poly.specs.declared.limits.Which.{Which}
use Rattle.geo_program.specs.declared.program_type.Program.{Program}
use Rattle.geo_program.specs.Programs.{Spells, source_of}
use Rattle.geo_prover.specs.declared.summary.Summary.{Summary}
use Rattle.geo_prover.specs.Proving.{Concludes, WritesLog, WritesPart, WritesToStop}
use Rattle.proof_log.specs.Lines.{log_text}
use Rattle.std.specs.Prelude.{IfOk}
use Rattle.geo_points.specs.declared.memory.NoMemory.{NoMemory}
use Rattle.geo_cli.specs.declared.reports.Report.{Report}
use Rattle.geo_cli.specs.Inner.Telling.{due_of, stop_report}
use Rattle.geo_cli.proofs.Answered.{answers_more, made}
use Rattle.geo_cli.proofs.ValuesDue.{weaker}
use Rattle.geo_discover.specs.FixedEnds.{EndsWithVerdict, StopsAtLine}
use Rattle.geo_program.specs.WellFormed.{Source}
use Rattle.proof_log.specs.declared.log.Verdict.{Verdict}
use Rattle.geo_cli.specs.Status.{search_status}
use Rattle.geo_discover.specs.FoundTexts.{SearchEnd, WritesFound, WritesFoundPart, WritesTooLong, cut, open_by}
use Rattle.log_checker.specs.Checkers.{with_feeds}

-- THE LOG OF A PROGRAM
module _ (p : Program) (steps : ℕ) (bytes : List ℕ) (spelt : Spells bytes p) (f f' : ℕ) (held held' : Option (List ℕ)) where
  -- the whole log
  pub concluded : (summary : Summary) (status : Status) → status ≡ verdict_status summary.verdict
      → Concludes (source_of p) steps held held' summary → AnswersDue (due_for Prove steps bytes) f f' held held' status
  concluded summary status is h =
      inl (
        record { text = log_text h.lines; status = verdict_status summary.verdict },
        inl (record { program = p; spelt = spelt; lines = h.lines; ending = ends_with summary.verdict h.left; log = h.log; is = refl }),
        inl (is, h.written),
      )

  -- the log up to a line that is too large
  pub too_large_line : (line : ℕ) (which : Which) → WritesToStop (source_of p) steps held held' (too_large which) line
      → AnswersDue (due_for Prove steps bytes) f f' held held' (TooLarge line which)
  too_large_line line which h =
      let w = h.whole in
      inl (
        record { text = log_text w.lines; status = TooLarge (length w.lines) which },
        inl (record { program = p; spelt = spelt; lines = w.lines; ending = ends_by (too_large which); log = w.log; is = refl }),
        inl (ap (λ n. TooLarge n which) h.last, w.written),
      )

  -- the log up to a line that is not paid
  pub spent_line : (line : ℕ) → WritesToStop (source_of p) steps held held' spent line → AnswersDue (due_for Prove steps bytes) f f' held held' (Spent line)
  spent_line line h =
      let w = h.whole in
      inl (
        record { text = log_text w.lines; status = Spent (length w.lines) },
        inl (record { program = p; spelt = spelt; lines = w.lines; ending = ends_by spent; log = w.log; is = refl }),
        inl (ap (λ n. Spent n) h.last, w.written),
      )

  -- the log before the line with which it would be too long
  pub long_log : WritesLog (source_of p) steps held held' too_long → AnswersDue (due_for Prove steps bytes) f f' held held' TooLong
  long_log w =
      inl (
        record { text = log_text w.lines; status = TooLong },
        inl (record { program = p; spelt = spelt; lines = w.lines; ending = too_long; log = w.log; is = refl }),
        inl (refl, w.written),
      )

  -- the first bytes of it
  pub part : (status : Status) → IsCutShort status f f' → WritesPart (source_of p) steps held held'
      → AnswersDue (due_for Prove steps bytes) f f' held held' status
  part status short w =
      inl (
        record { text = log_text w.lines; status = ending_status w.lines w.ending },
        inl (record { program = p; spelt = spelt; lines = w.lines; ending = w.ending; log = w.log; is = refl }),
        inr (short, (w.count, w.written)),
      )

-- ITS SEARCH
module _ (p : Program) (steps : ℕ) (bytes : List ℕ) (spelt : Spells bytes p) (f f' : ℕ) (held held' : Option (List ℕ)) where
  abbrev Answers : Status → Type 0
  Answers s = AnswersDue (due_for Discover steps bytes) f f' held held' s

  -- the text of the search
  pub searched : (s : Status) (end : SearchEnd) → s ≡ search_status end → WritesFound (source_of p) steps held held' end → Answers s
  searched s end is h =
      inl (
        record { text = with_feeds h.lines; status = search_status end },
        inl (record { program = p; spelt = spelt; lines = h.lines; end = end; searched = h.searched; is = refl }),
        inl (is, h.written),
      )

  -- a text that is too long
  pub long_search : WritesTooLong (source_of p) steps held held' → Answers TooLong
  long_search (inl h) = searched TooLong cut refl h
  long_search (inr (n, h)) = searched TooLong (open_by too_long n) refl h

  -- the first bytes of it
  pub search_part : (s : Status) → IsCutShort s f f' → WritesFoundPart (source_of p) steps held held' → Answers s
  search_part s short h =
      inl (
        record { text = with_feeds h.lines; status = search_status h.end },
        inl (record { program = p; spelt = spelt; lines = h.lines; end = h.end; searched = h.searched; is = refl }),
        inr (short, (h.count, h.written)),
      )

-- THE FIXED FRAME
module _ (p : Program) (steps : ℕ) (bytes : List ℕ) (spelt : Spells bytes p) (f f' : ℕ) (held held' : Option (List ℕ)) (s : Status) where
  -- how the log ends is what is due for bytes that spell the program
  pub fixed_program : (command : Command) → command ≡ Fixed → AnswersDue (TellsFixed (source_of p) steps) f f' held held' s
      → AnswersDue (due_for command steps bytes) f f' held held' s
  fixed_program command is h =
      made steps bytes f f' held held' s command Fixed is
      (answers_more (TellsFixed (source_of p) steps) (due_for Fixed steps bytes)
      (λ due tells. inl (record { program = p; spelt = spelt; tells = tells })) f f' held held' s h)

-- a command that reads a program is one of three
pub no_other_program : (command : Command) → ReadsProgram command → (command ≡ Prove → ⊥) → (command ≡ Fixed → ⊥)
    → (command ≡ Discover → ⊥) → ⊥
no_other_program Prove reads prove fixed discover = prove refl
no_other_program Fixed reads prove fixed discover = fixed refl
no_other_program Discover reads prove fixed discover = discover refl
no_other_program command reads prove fixed discover = reads

-- THE END OF THE LOG
module _ (p : Source) (steps : ℕ) where
  -- it ends with a verdict
  pub verdict_told : (verdict : Verdict) → EndsWithVerdict p steps verdict → (r : Result Report NoMemory)
      → IfOk r (λ x. due_of x ≡ record { text = fixed_line verdict; status = verdict_status verdict })
      → IfOk r (λ x. TellsFixed p steps (due_of x))
  verdict_told verdict ends =
      weaker (λ due. due ≡ record { text = fixed_line verdict; status = verdict_status verdict }) (TellsFixed p steps)
      (λ due is. inl (verdict, ends, is))

  -- it is stopped
  pub stop_told : (stop : Stop) (line : ℕ) → StopsAtLine p steps stop line → (r : Result Report NoMemory)
      → IfOk r (λ x. x ≡ stop_report (stop_line line stop) (stop_status line stop)) → IfOk r (λ x. TellsFixed p steps (due_of x))
  stop_told stop line stops r is =
      weaker (λ due. due ≡ stop_due line stop) (TellsFixed p steps) (λ due same. inr (stop, line, stops, same)) r (as_due r is)
    where
      as_due : (a : Result Report NoMemory) → IfOk a (λ x. x ≡ stop_report (stop_line line stop) (stop_status line stop))
          → IfOk a (λ x. due_of x ≡ stop_due line stop)
      as_due (Ok x) same = ap due_of same
      as_due (Err e) same = tt
