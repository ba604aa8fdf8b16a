use Rattle.std.proofs.Common.{◌≡◌, Some, length, ap, sym, subst, rules, arith, ◌++◌, ◌∷◌, []}
use Rattle.std.proofs.lemmas.Result.{IfOk-from_err}
use Rattle.proof_log.specs.declared.log.Line.{Line}
use Rattle.log_checker.specs.Checked.{TellsStop}
use Rattle.log_checker.specs.Inner.Judged.{BeginsWith, IsFirstRefused, IsNextState, StopsNext}
use Rattle.log_checker.specs.declared.state.State.TheVariants.{Program}
use Rattle.log_checker.proofs.JudgedAnswers.{first_goes, first_tells, line_more, over_line, program_short}
use Rattle.log_checker.proofs.PassedOn.{passed_on}
use Rattle.log_checker.proofs.judging.after_program_line.Goals as goal

pub returns-in_ok-push_line-in-Program-clause-goes : goal.returns-in_ok-push_line-in-Program-clause-goes
returns-in_ok-push_line-in-Program-clause-goes c = λ lines leaves.
    let text : c.deref.result.now ≡ c.in-Program.next = search rules in
    let Next : Line → Type 0 = λ line. IsNextState c.args.steps lines (Some line) (Program c.args.version c.push_line.new.program) in
    subst Next (sym c.in-Program.is)
    (line_more c.args.steps lines c.args.version c.args.text c.push_line.new.program c.in-Program.next leaves
    (subst (λ t. c.push_line.new.program.items ≡ c.args.text.items ++ (t ++ 10 ∷ [])) text c.in_ok-push_line-in-Program.ensures))

pub behind_program-requires : goal.behind_program-requires
behind_program-requires c =
    let short = program_short c.args.steps c.requires.reached.0 c.args.version c.args.text c.requires.reached.1 in
    record { fits = omega (arith, short, ap length c.deref-in_default.ensures.value); writable = c.requires.writable }

pub returns-in_err-work-in_default : goal.returns-in_err-work-in_default
returns-in_err-work-in_default c =
    let read = Some c.args.line in
    record {
      goes = λ lines leaves. IfOk-from_err c.from_residual-in_err-work-in_default.result (IsNextState c.args.steps lines read) c.from_residual-in_err-work-in_default.ensures.0;
      refused = λ lines leaves count.
          passed_on c.from_residual-in_err-work-in_default.result c.in_err-work-in_default.field-0.0 (TellsStop (StopsNext c.args.steps lines read)) c.from_residual-in_err-work-in_default.ensures.1
          (first_tells c.args.steps lines c.args.version c.args.text read c.args.number c.in_err-work-in_default.field-0.0 leaves count (λ more. over_line c.args.line more c.in_default.not-Program)
          (subst (λ bs. TellsStop (IsFirstRefused c.args.version bs c.args.steps read c.args.number) c.in_err-work-in_default.field-0.0)
          c.deref-in_default.ensures.value c.in_err-work-in_default.ensures.refused));
    }

pub returns-in_ok-work-in_default : goal.returns-in_ok-work-in_default
returns-in_ok-work-in_default c = record {
  goes = λ lines leaves.
      first_goes c.args.steps lines c.args.version c.args.text c.args.line c.in_ok-work-in_default.work leaves c.in_default.not-Program
      (subst (λ bs. BeginsWith c.args.version bs c.args.steps (Some c.args.line) c.in_ok-work-in_default.work) c.deref-in_default.ensures.value c.in_ok-work-in_default.ensures.goes);
  refused = λ lines leaves count. tt;
}
