use Rattle.std.proofs.Common.{◌++◌, [], ◌∷◌, refl, sym, subst}
use Rattle.log_checker.specs.Checkers.{IsSampleDue, subject_of}
use Rattle.proof_log.specs.declared.log.Line.TheVariants.{End}
use Rattle.proof_log.specs.declared.log.Verdict.TheVariants.{False}
use Rattle.log_checker.proofs.DueChains.{goal_fails, goal_zero}
use Rattle.log_checker.proofs.KeysInTurn.{false_not}
use Rattle.log_checker.proofs.chaining.after_goal.Goals as goal

pub returns-then-is_zero : goal.returns-then-is_zero
returns-then-is_zero c = λ head steps good d.
    let e = c.args.evidence.now in
    c.goal_due.ensures head steps (good ++ End ∷ []) e
    (goal_zero (subject_of head c.args.problem.now) steps good e.known e.ends e.budget.left c.args.k c.args.own c.args.last d c.requires (c.if-is_zero.ensures.0 refl))

pub returns : goal.returns
returns c = λ head steps good d.
    let s = subject_of head c.args.problem.now in
    let e = c.args.evidence.now in
    let more = good ++ End ∷ [] in
    let due = goal_fails s steps good e.known e.ends e.budget.left c.args.k c.args.own c.args.last d c.requires (λ zero_there. false_not (c.if-is_zero.ensures.1 zero_there)) in
    subst (λ b. IsSampleDue s steps more c.add.new.self.ends (False c.args.k) b.left) (sym c.in_ok-add.ensures.left)
    (subst (λ es. IsSampleDue s steps more es (False c.args.k) e.budget.left) (sym c.in_ok-add.ensures.ends) due)
