use Rattle.std.proofs.Common.{Some, inl, inr, refl}
use Rattle.std.proofs.lemmas.Result.{IfOk-weaker}
use Rattle.geo_chain.specs.Written.{state}
use Rattle.geo_discover.proofs.examining.judge_chains.Goals as goal

pub returns-in-Ok : goal.returns-in-Ok
returns-in-Ok c = record {
  after = state c.work.new.log (Some c.work.new.sink) 0;
  said = inl (
    c.in-Ok.verdict,
    c.work.new.budget.left,
    c.work.new.sink,
    c.judgement_of.ensures,
    refl,
    c.work.new.log.within,
    c.in-Ok.ensures.ok,
  );
}

pub returns-in-Err : goal.returns-in-Err
returns-in-Err c =
    IfOk-weaker c.opened.result _ _
    (λ j h. record {
      after = state c.work.new.log (Some c.work.new.sink) 0;
      said = inr (c.in-Err.error, h.0, h.1, refl, c.in-Err.ensures.err);
    })
    c.opened.ensures
