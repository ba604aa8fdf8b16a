use Rattle.std.proofs.Common.{ℕ, [], Some, None, Option, refl, sym, subst}
use Rattle.proof_log.specs.declared.log.Line.{Line}
use Rattle.geo_logs.specs.Judging.{bad_line, rejected, wrong_line}
use Rattle.log_checker.specs.Checked.{TellsStop}
use Rattle.log_checker.specs.Inner.Judged.{StopsNext}
use Rattle.log_checker.proofs.JudgedNext.{bad_header, no_header}
use Rattle.log_checker.proofs.judging.after_header.Goals as goal

pub returns-in_default : goal.returns-in_default
returns-in_default c =
    let Stops : ℕ → Option Line → ℕ → Type 0 = λ steps read n. StopsNext steps [] read n (rejected wrong_line) in
    record {
      goes = λ steps. tt;
      refused = λ steps first.
          subst (TellsStop (StopsNext steps [] c.args.read)) (sym c.at.ensures) (
            wrong_line,
            refl,
            subst (λ o. Stops steps o c.args.number) (sym c.in-Some.is)
                (subst (Stops steps (Some c.in-Some.line)) (sym first) (no_header steps c.in-Some.line c.in_default.not-Header)),
          );
    }

pub returns-in-None-clause-refused : goal.returns-in-None-clause-refused
returns-in-None-clause-refused c = λ steps first.
    let Stops : Option Line → ℕ → Type 0 = λ read n. StopsNext steps [] read n (rejected bad_line) in
    subst (TellsStop (StopsNext steps [] c.args.read)) (sym c.at-in-None.ensures)
    (bad_line, refl, subst (λ o. Stops o c.args.number) (sym c.in-None.is) (subst (Stops None) (sym first) (bad_header steps)))
