use Rattle.std.proofs.lemmas.Result.{IfErr-at_err}
use Rattle.geo_program.specs.Programs.{source_of}
use Rattle.geo_chain.specs.Written.{first_state}
use Rattle.geo_prover.proofs.Finishing.{faults_heard, faults_kept}
use Rattle.geo_prover.proofs.proving.prove.Goals as goal

pub returns-clause-spent : goal.returns-clause-spent
returns-clause-spent g c = λ line e. (IfErr-at_err _ e c.prove_all.ensures.err).0

pub returns-clause-too_large : goal.returns-clause-too_large
returns-clause-too_large g c = λ line which e. (IfErr-at_err _ e c.prove_all.ensures.err).0

pub returns-clause-too_long : goal.returns-clause-too_long
returns-clause-too_long g c = λ e. (IfErr-at_err _ e c.prove_all.ensures.err).0

pub returns-clause-write_fault : goal.returns-clause-write_fault
returns-clause-write_fault g c = λ e. let h = IfErr-at_err _ e c.prove_all.ensures.err in (h.0, h.1)

pub returns-clause-memory : goal.returns-clause-memory
returns-clause-memory g c = λ e. (IfErr-at_err _ e c.prove_all.ensures.err).0

pub returns-clause-faults : goal.returns-clause-faults
returns-clause-faults g c =
    faults_kept (source_of c.args.program.now) c.args.steps (first_state (g.K.Sink.held c.args.sink.now) (g.K.Sink.faults c.args.sink.now))
    (first_state (g.K.Sink.held c.prove_all.new.sink)
    (g.K.Sink.faults c.prove_all.new.sink)) c.prove_all.result c.prove_all.ensures.faults c.prove_all.ensures.err

pub returns-clause-heard : goal.returns-clause-heard
returns-clause-heard g c =
    faults_heard (source_of c.args.program.now) c.args.steps (first_state (g.K.Sink.held c.args.sink.now) (g.K.Sink.faults c.args.sink.now))
    (first_state (g.K.Sink.held c.prove_all.new.sink)
    (g.K.Sink.faults c.prove_all.new.sink)) c.prove_all.result c.prove_all.ensures.faults c.prove_all.ensures.err
