use Rattle.std.proofs.Common.{[], inr}
use Rattle.std.proofs.lemmas.Result.{IfErr-weaker, IfOk-weaker}
use Rattle.log_checker.specs.Checked.{TellsStop}
use Rattle.log_checker.specs.Inner.Judged.{BeginsWith, GoesOnWith, IsFirstRefused, IsRefusedWork}
use Rattle.log_checker.proofs.JudgedAnswers.{tells_stop_map}
use Rattle.log_checker.proofs.judging.behind_program.Goals as goal

pub returns-clause-goes : goal.returns-clause-goes
returns-clause-goes c =
    IfOk-weaker c.after_work.result (GoesOnWith c.in_ok-work.work c.args.read) (BeginsWith c.args.version c.args.program.now c.args.steps c.args.read)
    (λ w' h. record {
      work = c.in_ok-work.work;
      begun = record {
        version-is = c.in_ok-work.ensures.version;
        text = c.in_ok-work.ensures.program;
        begun = c.in_ok-work.ensures.begun;
      };
      goes = h;
    }) c.after_work.ensures.goes

pub returns-clause-refused : goal.returns-clause-refused
returns-clause-refused c =
    let Refused = IsRefusedWork c.in_ok-work.work c.args.steps [] c.args.read c.args.number in
    let First = IsFirstRefused c.args.version c.args.program.now c.args.steps c.args.read c.args.number in
    IfErr-weaker c.after_work.result (TellsStop Refused) (TellsStop First)
    (λ e h. tells_stop_map Refused First
    (λ n r g. inr (
      c.in_ok-work.work,
      record { version-is = c.in_ok-work.ensures.version; text = c.in_ok-work.ensures.program; begun = c.in_ok-work.ensures.begun },
      g,
    )) e
    h)
    (c.after_work.ensures.refused c.args.steps [] c.in_ok-work.ensures.begun)
