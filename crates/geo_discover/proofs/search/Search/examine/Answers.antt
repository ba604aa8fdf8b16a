use Rattle.std.proofs.lemmas.Result.{IfErr-weaker, on_ok_weaker}
use Rattle.geo_program.specs.Programs.{source_of}
use Rattle.geo_program.proofs.Propositions.{program_well_formed}
use Rattle.geo_discover.proofs.Examined.{fails_examined, impossible_broken, impossible_examined, open_broken, open_examined}
use Rattle.geo_discover.proofs.Examined.{relation_broken, relation_examined}
use Rattle.geo_discover.proofs.Putting.{if_err, on_ok}
use Rattle.geo_discover.proofs.SearchSteps.{none_broken}
use Rattle.geo_discover.proofs.search.Search.examine.Goals as goal

pub returns-then-self-clause-err : goal.returns-then-self-clause-err
returns-then-self-clause-err g c = none_broken _ _ _ _ _ _ c.args.self.now.text.within

pub returns-in_err-judgement-clause-err : goal.returns-in_err-judgement-clause-err
returns-in_err-judgement-clause-err g c =
    if_err _ _ _ c.from_residual.ensures.1 (none_broken _ _ _ _ _ _ c.args.self.now.text.within)

pub returns-in-Relation-clause-ok : goal.returns-in-Relation-clause-ok
returns-in-Relation-clause-ok g c =
    on_ok_weaker c.add_relation.result
    (λ added. relation_examined (source_of c.args.program.now) c.args.figure.now.steps c.args.statement _ _ _ _ (program_well_formed c.args.program.now) c.requires.figure.small
    c.requires.candidate c.in_ok-judgement.ensures.judged c.in-Relation.is added)
    c.add_relation.ensures.ok

pub returns-in-Relation-clause-err : goal.returns-in-Relation-clause-err
returns-in-Relation-clause-err g c =
    IfErr-weaker c.add_relation.result _ _
    (λ e broken. relation_broken (source_of c.args.program.now) c.args.figure.now.steps c.args.statement _ _ _ _ _ _ e
    (program_well_formed c.args.program.now) c.requires.figure.small c.requires.candidate c.in_ok-judgement.ensures.judged c.in-Relation.is broken)
    c.add_relation.ensures.err

pub returns-in-Open-clause-ok : goal.returns-in-Open-clause-ok
returns-in-Open-clause-ok g c =
    on_ok_weaker c.add_open.result
    (λ added. open_examined (source_of c.args.program.now) c.args.figure.now.steps c.args.statement _ _ _ _ c.in_ok-judgement.ensures.judged c.in-Open.is added)
    c.add_open.ensures.ok

pub returns-in-Open-clause-err : goal.returns-in-Open-clause-err
returns-in-Open-clause-err g c =
    IfErr-weaker c.add_open.result _ _
    (λ e broken. open_broken (source_of c.args.program.now) c.args.figure.now.steps c.args.statement _ _ _ _ _ _ e c.in_ok-judgement.ensures.judged c.in-Open.is broken)
    c.add_open.ensures.err

pub returns-in-Fails-clause-ok : goal.returns-in-Fails-clause-ok
returns-in-Fails-clause-ok g c =
    on_ok _ c.add_nothing.result
    (fails_examined (source_of c.args.program.now) c.args.figure.now.steps c.args.statement _ _ _ c.in_ok-judgement.ensures.judged c.in-Fails.is
    (c.add_nothing.ensures.added (g.K.Sink.held c.args.sink.now)))

pub returns-in-Impossible-clause-ok : goal.returns-in-Impossible-clause-ok
returns-in-Impossible-clause-ok g c =
    on_ok_weaker c.add_impossible.result
    (λ added. impossible_examined (source_of c.args.program.now) c.args.figure.now.steps c.args.statement _ _ _ _ c.in_ok-judgement.ensures.judged c.in-Impossible.is
    added)
    c.add_impossible.ensures.ok

pub returns-in-Impossible-clause-err : goal.returns-in-Impossible-clause-err
returns-in-Impossible-clause-err g c =
    IfErr-weaker c.add_impossible.result _ _
    (λ e broken. impossible_broken (source_of c.args.program.now) c.args.figure.now.steps c.args.statement _ _ _ _ _ _ e c.in_ok-judgement.ensures.judged
    c.in-Impossible.is broken)
    c.add_impossible.ensures.err
