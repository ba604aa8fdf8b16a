use Rattle.std.proofs.Common.{◌≡◌, ◌+◌, ◌∙◌, [], ◌∷◌, ◌++◌, inl, refl, ap, sym, subst, rules}
use Rattle.proof_log.specs.declared.log.Verdict.TheVariants.{False}
use Rattle.geo_logs.specs.Places.{before_sample}
use Rattle.geo_chain.specs.declared.errors.ProveError.TheVariants.{NoMemory}
use Rattle.geo_chain.specs.Halting.{Halts, Passes}
use Rattle.geo_chain.specs.Parts.{end_part}
use Rattle.geo_chain.specs.Tasks.{goals_from}
use Rattle.geo_chain.specs.Written.{state}
use Rattle.geo_chain.proofs.Handing.{if_err}
use Rattle.geo_chain.proofs.Listing.{ends_grow, ends_stay, nonzero_more}
use Rattle.geo_chain.proofs.Passing.{halts_on, memory_in, passes_at_once, passes_on}
use Rattle.geo_chain.proofs.goals.work_goals.Goals as goal

pub returns-in_err-chain-clause-err : goal.returns-in_err-chain-clause-err
returns-in_err-chain-clause-err g c =
    let s = state c.args.log.now (g.K.Sink.held c.args.sink.now) (g.K.Sink.faults c.args.sink.now) in
    let t = state c.loop-i.log (g.K.Sink.held c.loop-i.sink) (g.K.Sink.faults c.loop-i.sink) in
    let u = state c.work_goal.new.log (g.K.Sink.held c.work_goal.new.sink) (g.K.Sink.faults c.work_goal.new.sink) in
    let e = c.in_err-chain.field-0.0 in
    let own = subst (λ f. Halts c.args.frame c.args.steps.now
    (goals_from c.args.frame c.args.steps.now c.args.terms.now.nodes c.args.goals.now c.loop-i.i f.known f.ends c.loop-i.budget.left) t
    u e) c.loop-i.invariant.kept c.in_err-chain.ensures.err in
    if_err _ _ e c.from_residual.ensures.1
    (halts_on c.args.frame c.args.steps.now
    (goals_from c.args.frame c.args.steps.now c.args.terms.now.nodes c.args.goals.now 0 c.args.findings.now.known
    c.args.findings.now.ends c.args.budget.now.left)
    (goals_from c.args.frame c.args.steps.now c.args.terms.now.nodes c.args.goals.now c.loop-i.i c.args.findings.now.known
    c.args.findings.now.ends c.loop-i.budget.left) s t u c.loop-i.invariant.passes e own)

pub returns-in_err-add_end-clause-err : goal.returns-in_err-add_end-clause-err
returns-in_err-add_end-clause-err g c =
    let s = state c.args.log.now (g.K.Sink.held c.args.sink.now) (g.K.Sink.faults c.args.sink.now) in
    let t = state c.loop-i.log (g.K.Sink.held c.loop-i.sink) (g.K.Sink.faults c.loop-i.sink) in
    let u = state c.work_goal.new.log (g.K.Sink.held c.work_goal.new.sink) (g.K.Sink.faults c.work_goal.new.sink) in
    let nonzero : c.in_ok-chain.chain.end ≡ [] → ⊥ = search rules in
    let f = c.args.findings.now in
    let left = c.work_goal.new.budget.left in
    let ends = f.ends ++ c.in_ok-chain.chain.end ∷ [] in
    let last = end_part c.args.frame c.args.steps.now ends (False (c.loop-i.i + 1)) left in
    let failed = subst (λ f. Passes
    (goals_from c.args.frame c.args.steps.now c.args.terms.now.nodes c.args.goals.now c.loop-i.i f.known f.ends c.loop-i.budget.left)
    (end_part c.args.frame c.args.steps.now (f.ends ++ c.in_ok-chain.chain.end ∷ []) (False (c.loop-i.i + 1)) left) t u)
    c.loop-i.invariant.kept (c.in_ok-chain.ensures.fails nonzero) in
    let passed = passes_on
    (goals_from c.args.frame c.args.steps.now c.args.terms.now.nodes c.args.goals.now 0 c.args.findings.now.known
    c.args.findings.now.ends c.args.budget.now.left)
    (goals_from c.args.frame c.args.steps.now c.args.terms.now.nodes c.args.goals.now c.loop-i.i c.args.findings.now.known
    c.args.findings.now.ends c.loop-i.budget.left) last s t u c.loop-i.invariant.passes failed in
    if_err _ _ NoMemory c.from_residual-in_err-add_end.ensures.1
    (halts_on c.args.frame c.args.steps.now
    (goals_from c.args.frame c.args.steps.now c.args.terms.now.nodes c.args.goals.now 0 c.args.findings.now.known
    c.args.findings.now.ends c.args.budget.now.left) last s u u passed NoMemory
    (memory_in c.args.frame c.args.steps.now last (before_sample ends left) u (inl (refl, refl)) c.work_goal.new.log.within))

pub returns-then-not-is_zero-clause-ok : goal.returns-then-not-is_zero-clause-ok
returns-then-not-is_zero-clause-ok g c =
    let s = state c.args.log.now (g.K.Sink.held c.args.sink.now) (g.K.Sink.faults c.args.sink.now) in
    let t = state c.loop-i.log (g.K.Sink.held c.loop-i.sink) (g.K.Sink.faults c.loop-i.sink) in
    let u = state c.work_goal.new.log (g.K.Sink.held c.work_goal.new.sink) (g.K.Sink.faults c.work_goal.new.sink) in
    let nonzero : c.in_ok-chain.chain.end ≡ [] → ⊥ = search rules in
    let left = c.work_goal.new.budget.left in
    let first = (goals_from c.args.frame c.args.steps.now c.args.terms.now.nodes c.args.goals.now 0 c.args.findings.now.known
    c.args.findings.now.ends c.args.budget.now.left) in
    let ends = c.args.findings.now.ends ++ c.in_ok-chain.chain.end ∷ [] in
    let failed = subst (λ f. Passes
    (goals_from c.args.frame c.args.steps.now c.args.terms.now.nodes c.args.goals.now c.loop-i.i f.known f.ends c.loop-i.budget.left)
    (end_part c.args.frame c.args.steps.now (f.ends ++ c.in_ok-chain.chain.end ∷ []) (False (c.loop-i.i + 1)) left) t u)
    c.loop-i.invariant.kept (c.in_ok-chain.ensures.fails nonzero) in
    let passed = passes_on first
    (goals_from c.args.frame c.args.steps.now c.args.terms.now.nodes c.args.goals.now c.loop-i.i c.args.findings.now.known
    c.args.findings.now.ends c.loop-i.budget.left) (end_part c.args.frame c.args.steps.now ends
    (False (c.loop-i.i + 1)) left) s t u c.loop-i.invariant.passes failed in
    subst (λ qs. Passes first (end_part c.args.frame c.args.steps.now qs (False (c.loop-i.i + 1)) left) s u)
    (sym (c.in_ok-add_end.ensures.ends ∙ ap (λ f. f.ends ++ c.in_ok-chain.chain.end ∷ []) c.loop-i.invariant.kept)) passed

pub loop-i-preserved : goal.loop-i-preserved
loop-i-preserved g c =
    let s = state c.args.log.now (g.K.Sink.held c.args.sink.now) (g.K.Sink.faults c.args.sink.now) in
    let t = state c.loop-i.log (g.K.Sink.held c.loop-i.sink) (g.K.Sink.faults c.loop-i.sink) in
    let u = state c.work_goal.new.log (g.K.Sink.held c.work_goal.new.sink) (g.K.Sink.faults c.work_goal.new.sink) in
    let zero : c.in_ok-chain.chain.end ≡ [] = search rules in
    let left = c.work_goal.new.budget.left in
    let went = subst (λ f. Passes
    (goals_from c.args.frame c.args.steps.now c.args.terms.now.nodes c.args.goals.now c.loop-i.i f.known f.ends c.loop-i.budget.left)
    (goals_from c.args.frame c.args.steps.now c.args.terms.now.nodes c.args.goals.now
    (c.loop-i.i + 1) f.known f.ends left) t u) c.loop-i.invariant.kept (c.in_ok-chain.ensures.passes zero) in
    record {
      passes = passes_on
          (goals_from c.args.frame c.args.steps.now c.args.terms.now.nodes c.args.goals.now 0 c.args.findings.now.known
          c.args.findings.now.ends c.args.budget.now.left)
          (goals_from c.args.frame c.args.steps.now c.args.terms.now.nodes c.args.goals.now c.loop-i.i c.args.findings.now.known
          c.args.findings.now.ends c.loop-i.budget.left)
          (goals_from c.args.frame c.args.steps.now c.args.terms.now.nodes c.args.goals.now
          (c.loop-i.i + 1) c.args.findings.now.known c.args.findings.now.ends left) s t u c.loop-i.invariant.passes went;
      kept = c.loop-i.invariant.kept;
      numbers = c.work_goal.ensures.numbers;
    }

pub returns-then-not-is_zero-clause-nonzero : goal.returns-then-not-is_zero-clause-nonzero
returns-then-not-is_zero-clause-nonzero g c =
    let nonzero : c.in_ok-chain.chain.end ≡ [] → ⊥ = search rules in
    nonzero_more c.args.findings.now.ends c.add_end.new.self.ends c.in_ok-chain.chain.end c.requires.nonzero nonzero
    (c.in_ok-add_end.ensures.ends ∙ ap (λ f. f.ends ++ c.in_ok-chain.chain.end ∷ []) c.loop-i.invariant.kept)

pub loop-i-init : goal.loop-i-init
loop-i-init g c =
    let s = state c.args.log.now (g.K.Sink.held c.args.sink.now) (g.K.Sink.faults c.args.sink.now) in
    let first = goals_from c.args.frame c.args.steps.now c.args.terms.now.nodes c.args.goals.now 0 c.args.findings.now.known
    c.args.findings.now.ends c.args.budget.now.left in
    record {
      passes = passes_at_once first first s (λ lines place h. h)
          (λ lines verdict left h. h);
      kept = refl;
      numbers = c.requires.numbers;
    }

-- the findings of before stay
pub returns-in_err-chain-clause-known : goal.returns-in_err-chain-clause-known
returns-in_err-chain-clause-known g c = ap (λ f. f.known) c.loop-i.invariant.kept

pub returns-in_err-chain-clause-ends : goal.returns-in_err-chain-clause-ends
returns-in_err-chain-clause-ends g c =
    ends_stay c.args.findings.now.ends c.loop-i.findings.ends (ap (λ f. f.ends) c.loop-i.invariant.kept)

pub returns-in_err-add_end-clause-known : goal.returns-in_err-add_end-clause-known
returns-in_err-add_end-clause-known g c = c.add_end.ensures.known ∙ ap (λ f. f.known) c.loop-i.invariant.kept

pub returns-in_err-add_end-clause-ends : goal.returns-in_err-add_end-clause-ends
returns-in_err-add_end-clause-ends g c =
    ends_stay c.args.findings.now.ends c.add_end.new.self.ends
    (c.in_err-add_end.ensures.same ∙ ap (λ f. f.ends) c.loop-i.invariant.kept)

pub returns-then-not-is_zero-clause-known : goal.returns-then-not-is_zero-clause-known
returns-then-not-is_zero-clause-known g c = c.add_end.ensures.known ∙ ap (λ f. f.known) c.loop-i.invariant.kept

pub returns-then-not-is_zero-clause-ends : goal.returns-then-not-is_zero-clause-ends
returns-then-not-is_zero-clause-ends g c =
    ends_grow c.args.findings.now.ends c.add_end.new.self.ends (c.in_ok-chain.chain.end ∷ [])
    (c.in_ok-add_end.ensures.ends ∙ ap (λ f. f.ends ++ c.in_ok-chain.chain.end ∷ []) c.loop-i.invariant.kept)

pub returns-clause-known : goal.returns-clause-known
returns-clause-known g c = ap (λ f. f.known) c.loop-i.invariant.kept

pub returns-clause-ends : goal.returns-clause-ends
returns-clause-ends g c =
    ends_stay c.args.findings.now.ends c.loop-i.findings.ends (ap (λ f. f.ends) c.loop-i.invariant.kept)
