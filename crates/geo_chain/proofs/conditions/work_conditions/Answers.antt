use Rattle.std.proofs.Common.{◌+◌, ◌≤◌, [], ◌∷◌, ◌++◌, length, sym, subst, rules}
use Rattle.std.specs.List.{cons_option}
use Rattle.std.proofs.lemmas.Bool.{iff_false}
use Rattle.geo_chain.specs.declared.errors.ProveError.TheVariants.{NoMemory}
use Rattle.geo_chain.specs.Halting.{Passes}
use Rattle.geo_chain.specs.Parts.{goals_part, items_of}
use Rattle.geo_chain.specs.Tasks.{conditions_before}
use Rattle.geo_chain.specs.Written.{state}
use Rattle.geo_chain.proofs.Handing.{if_err}
use Rattle.geo_chain.proofs.Listing.{conditions_halt, conditions_over, impossible_on, nonzero_more}
use Rattle.geo_chain.proofs.Passing.{can_write_on, halts_on, passes_at_once, passes_on}
use Rattle.geo_chain.proofs.conditions.work_conditions.Goals as goal

pub returns-in_err-chain-clause-err : goal.returns-in_err-chain-clause-err
returns-in_err-chain-clause-err g c =
    λ goals.
    let s = state c.args.log.now (g.K.Sink.held c.args.sink.now) (g.K.Sink.faults c.args.sink.now) in
    let t = state c.loop-i.log (g.K.Sink.held c.loop-i.sink) (g.K.Sink.faults c.loop-i.sink) in
    let u = state c.work_condition.new.log (g.K.Sink.held c.work_condition.new.sink) (g.K.Sink.faults c.work_condition.new.sink) in
    if_err _ _ c.in_err-chain.field-0.0 c.from_residual.ensures.1
    (halts_on c.args.frame c.args.problem.now.steps
    (conditions_before c.args.frame c.args.problem.now.steps c.args.problem.now.steps.nodes c.args.problem.now.conditions goals 0
    c.args.findings.now.known c.args.findings.now.ends c.args.budget.now.left)
    (conditions_before c.args.frame c.args.problem.now.steps c.args.problem.now.steps.nodes c.args.problem.now.conditions goals c.loop-i.i
    c.loop-i.findings.known c.loop-i.findings.ends c.loop-i.budget.left) s t u
    (c.loop-i.invariant.passes goals) c.in_err-chain.field-0.0 (c.in_err-chain.ensures.err goals))

pub returns-in_err-add-clause-err : goal.returns-in_err-add-clause-err
returns-in_err-add-clause-err g c =
    λ goals.
    let s = state c.args.log.now (g.K.Sink.held c.args.sink.now) (g.K.Sink.faults c.args.sink.now) in
    let t = state c.loop-i.log (g.K.Sink.held c.loop-i.sink) (g.K.Sink.faults c.loop-i.sink) in
    let u = state c.work_condition.new.log (g.K.Sink.held c.work_condition.new.sink) (g.K.Sink.faults c.work_condition.new.sink) in
    let known = c.loop-i.findings.known ++ cons_option c.in_ok-chain.chain.variable [] in
    let ends = c.loop-i.findings.ends ++ c.in_ok-chain.chain.end ∷ [] in
    let next = conditions_before c.args.frame c.args.problem.now.steps c.args.problem.now.steps.nodes c.args.problem.now.conditions goals
    (c.loop-i.i + 1) known ends c.work_condition.new.budget.left in
    let passed = passes_on
    (conditions_before c.args.frame c.args.problem.now.steps c.args.problem.now.steps.nodes c.args.problem.now.conditions goals 0
    c.args.findings.now.known c.args.findings.now.ends c.args.budget.now.left)
    (conditions_before c.args.frame c.args.problem.now.steps c.args.problem.now.steps.nodes c.args.problem.now.conditions goals c.loop-i.i
    c.loop-i.findings.known c.loop-i.findings.ends c.loop-i.budget.left) next s t u (c.loop-i.invariant.passes goals)
    (c.in_ok-chain.ensures.passes goals (iff_false c.is_zero.ensures c.if-is_zero.false)) in
    if_err _ _ NoMemory c.from_residual-in_err-add.ensures.1
    (halts_on c.args.frame c.args.problem.now.steps
    (conditions_before c.args.frame c.args.problem.now.steps c.args.problem.now.steps.nodes c.args.problem.now.conditions goals 0
    c.args.findings.now.known c.args.findings.now.ends c.args.budget.now.left) next s u u passed NoMemory
    (conditions_halt c.args.frame c.args.problem.now.steps c.args.problem.now.steps.nodes c.args.problem.now.conditions goals
    (c.loop-i.i + 1) known ends c.work_condition.new.budget.left u c.work_condition.new.log.within))

pub loop-i-preserved : goal.loop-i-preserved
loop-i-preserved g c =
    let s = state c.args.log.now (g.K.Sink.held c.args.sink.now) (g.K.Sink.faults c.args.sink.now) in
    let t = state c.loop-i.log (g.K.Sink.held c.loop-i.sink) (g.K.Sink.faults c.loop-i.sink) in
    let u = state c.work_condition.new.log (g.K.Sink.held c.work_condition.new.sink) (g.K.Sink.faults c.work_condition.new.sink) in
    let known = c.loop-i.findings.known ++ cons_option c.in_ok-chain.chain.variable [] in
    let ends = c.loop-i.findings.ends ++ c.in_ok-chain.chain.end ∷ [] in
    let left = c.work_condition.new.budget.left in
    record {
      passes = λ goals.
          let first = (conditions_before c.args.frame c.args.problem.now.steps c.args.problem.now.steps.nodes c.args.problem.now.conditions
          goals 0 c.args.findings.now.known c.args.findings.now.ends c.args.budget.now.left) in
          let passed = passes_on first
          (conditions_before c.args.frame c.args.problem.now.steps c.args.problem.now.steps.nodes c.args.problem.now.conditions goals
          c.loop-i.i c.loop-i.findings.known c.loop-i.findings.ends c.loop-i.budget.left)
          (conditions_before c.args.frame c.args.problem.now.steps c.args.problem.now.steps.nodes c.args.problem.now.conditions goals
          (c.loop-i.i + 1) known ends left) s t u (c.loop-i.invariant.passes goals)
          (c.in_ok-chain.ensures.passes goals (iff_false c.is_zero.ensures c.if-is_zero.false)) in
          subst (λ ks. Passes first
          (conditions_before c.args.frame c.args.problem.now.steps c.args.problem.now.steps.nodes c.args.problem.now.conditions goals
          (c.loop-i.i + 1) ks c.add.new.self.ends left) s u) (sym c.in_ok-add.ensures.known)
          (subst (λ qs. Passes first
          (conditions_before c.args.frame c.args.problem.now.steps c.args.problem.now.steps.nodes c.args.problem.now.conditions goals
          (c.loop-i.i + 1) known qs left) s u) (sym c.in_ok-add.ensures.ends) passed);
      nonzero = nonzero_more c.loop-i.findings.ends c.add.new.self.ends c.in_ok-chain.chain.end c.loop-i.invariant.nonzero
          (iff_false c.is_zero.ensures c.if-is_zero.false) c.in_ok-add.ensures.ends;
      numbers = c.work_condition.ensures.numbers;
    }

pub returns-then-is_zero-clause-impossible : goal.returns-then-is_zero-clause-impossible
returns-then-is_zero-clause-impossible g c =
    λ goals.
    let s = state c.args.log.now (g.K.Sink.held c.args.sink.now) (g.K.Sink.faults c.args.sink.now) in
    let t = state c.loop-i.log (g.K.Sink.held c.loop-i.sink) (g.K.Sink.faults c.loop-i.sink) in
    let u = state c.work_condition.new.log (g.K.Sink.held c.work_condition.new.sink) (g.K.Sink.faults c.work_condition.new.sink) in
    impossible_on
    (conditions_before c.args.frame c.args.problem.now.steps c.args.problem.now.steps.nodes c.args.problem.now.conditions goals 0
    c.args.findings.now.known c.args.findings.now.ends c.args.budget.now.left)
    (conditions_before c.args.frame c.args.problem.now.steps c.args.problem.now.steps.nodes c.args.problem.now.conditions goals c.loop-i.i
    c.loop-i.findings.known c.loop-i.findings.ends c.loop-i.budget.left) s t u c.work_condition.new.budget.left _
    (c.loop-i.invariant.passes goals)
    (c.in_ok-chain.ensures.impossible goals (c.is_zero.ensures.0 c.if-is_zero.true))

pub loop-i-init : goal.loop-i-init
loop-i-init g c =
    let p = c.args.problem.now in
    let s = state c.args.log.now (g.K.Sink.held c.args.sink.now) (g.K.Sink.faults c.args.sink.now) in
    record {
      passes = λ goals.
          let first = conditions_before c.args.frame p.steps p.steps.nodes p.conditions goals 0 c.args.findings.now.known
          c.args.findings.now.ends c.args.budget.now.left in
          passes_at_once first first s (λ lines place h. h) (λ lines verdict left h. h);
      nonzero = c.requires.nonzero;
      numbers = c.requires.numbers;
    }

pub work_condition-requires-clause-writable : goal.work_condition-requires-clause-writable
work_condition-requires-clause-writable g c =
    let p = c.args.problem.now in
    let goals = items_of p.steps.nodes p.goals in
    let s = state c.args.log.now (g.K.Sink.held c.args.sink.now) (g.K.Sink.faults c.args.sink.now) in
    let t = state c.loop-i.log (g.K.Sink.held c.loop-i.sink) (g.K.Sink.faults c.loop-i.sink) in
    can_write_on c.args.frame p.steps
    (conditions_before c.args.frame p.steps p.steps.nodes p.conditions goals 0 c.args.findings.now.known c.args.findings.now.ends
    c.args.budget.now.left)
    (conditions_before c.args.frame p.steps p.steps.nodes p.conditions goals c.loop-i.i c.loop-i.findings.known c.loop-i.findings.ends
    c.loop-i.budget.left) s t (c.loop-i.invariant.passes goals) c.requires.writable

pub returns-clause-met : goal.returns-clause-met
returns-clause-met g c =
    let over : length c.args.problem.now.conditions ≤ c.loop-i.i = search rules in
    λ goals.
    let p = c.args.problem.now in
    let s = state c.args.log.now (g.K.Sink.held c.args.sink.now) (g.K.Sink.faults c.args.sink.now) in
    let t = state c.loop-i.log (g.K.Sink.held c.loop-i.sink) (g.K.Sink.faults c.loop-i.sink) in
    passes_on
    (conditions_before c.args.frame p.steps p.steps.nodes p.conditions goals 0 c.args.findings.now.known c.args.findings.now.ends
    c.args.budget.now.left)
    (conditions_before c.args.frame p.steps p.steps.nodes p.conditions goals c.loop-i.i c.loop-i.findings.known c.loop-i.findings.ends
    c.loop-i.budget.left)
    (goals_part c.args.frame p.steps c.loop-i.findings.known c.loop-i.findings.ends 1 c.loop-i.budget.left goals) s t t
    (c.loop-i.invariant.passes goals)
    (conditions_over c.args.frame p.steps p.steps.nodes p.conditions goals c.loop-i.i c.loop-i.findings.known c.loop-i.findings.ends
    c.loop-i.budget.left t over)
