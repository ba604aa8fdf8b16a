use Rattle.std.proofs.Common.{Some, inl, inr, refl}
use Rattle.std.proofs.lemmas.Result.{IfOk-weaker}
use Rattle.geo_chain.specs.Written.{state}
use Rattle.geo_discover.proofs.examining.judge_written.Goals as goal

pub returns-in-Ok-clause-said : goal.returns-in-Ok-clause-said
returns-in-Ok-clause-said c = record {
  after = state c.work_goal.new.log (Some c.work_goal.new.text) 0;
  said = inl (
    c.in-Ok.verdict,
    c.in-Ok.ensures.ok.0,
    c.work_goal.new.text,
    c.judgement_of.ensures,
    refl,
    c.work_goal.new.log.within,
    c.in-Ok.ensures.ok.1,
  );
}

pub returns-in-Err-clause-said : goal.returns-in-Err-clause-said
returns-in-Err-clause-said c =
    IfOk-weaker c.opened.result _ _
    (λ j h. record {
      after = state c.work_goal.new.log (Some c.work_goal.new.text) 0;
      said = inr (c.in-Err.error, h.0, h.1, refl, c.in-Err.ensures.err);
    })
    c.opened.ensures
