use Rattle.std.proofs.Common.{◌≡◌, ◌∙◌, ℕ, Some, List, [], length, refl, sym, ap, subst, arith}
use Rattle.geo_chain.specs.Parts.{items_of}
use Rattle.geo_chain.specs.Written.{state}
use Rattle.geo_discover.specs.declared.figure.Worked.{Worked}
use Rattle.geo_discover.specs.Inner.Sharing.{AreWorked, stopped_by}
use Rattle.geo_discover.proofs.ConditionsShared.{at_none_is, halt_shared, met_shared}
use Rattle.geo_discover.proofs.figure.conditions_behind.Goals as goal

pub overflow_sub-result : goal.overflow_sub-result
overflow_sub-result c =
    let h = at_none_is _ c.in-Ok-None.field-0 c.in-Ok-None.field-0-is (c.in-Ok-None.ensures.met []) in
    let n = h.written.counted in
    omega (arith, n)

pub returns-in-Ok-None-clause-worked : goal.returns-in-Ok-None-clause-worked
returns-in-Ok-None-clause-worked c = (
  c.in-Ok-None.ensures.nonzero,
  λ goals. met_shared c.args.problem.now c.args.steps c.args.findings.now.known c.args.findings.now.ends c.requires.known c.requires.ends
      (state c.args.log (Some c.new-text.result) 0) (state c.work_conditions.new.log (Some c.work_conditions.new.sink) 0)
      c.work_conditions.new.sink c.requires.written.0 c.requires.written.1 (ap (λ (xs : List ℕ). Some xs) c.new-text.ensures) refl
      c.work_conditions.new.findings.known c.work_conditions.new.findings.ends _ goals
      (at_none_is _ c.in-Ok-None.field-0 c.in-Ok-None.field-0-is (c.in-Ok-None.ensures.met goals)),
)

pub returns-in-Err-clause-worked : goal.returns-in-Err-clause-worked
returns-in-Err-clause-worked c =
    let p = c.args.problem.now in
    let known = c.work_conditions.new.findings.known in
    let ends = c.work_conditions.new.findings.ends in
    let same : c.shared_stop.result ≡ stopped_by c.in-Err.error (length c.work_conditions.new.sink) =
    c.shared_stop.ensures ∙ ap (λ (xs : List ℕ). stopped_by c.in-Err.error (length xs)) c.bytes.ensures in
    subst (λ (x : Worked). AreWorked p.steps (items_of p.steps.nodes p.conditions) c.args.steps c.args.log.lines known ends x) (sym same)
    (halt_shared p c.args.steps c.args.findings.now.known c.args.findings.now.ends c.requires.known c.requires.ends
    (state c.args.log (Some c.new-text.result) 0) (state c.work_conditions.new.log (Some c.work_conditions.new.sink) 0)
    c.work_conditions.new.sink c.requires.written.0 c.requires.written.1 (ap (λ (xs : List ℕ). Some xs) c.new-text.ensures) refl
    c.in-Err.error known ends c.in-Err.ensures.err)
