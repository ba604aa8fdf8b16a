use Rattle.std.proofs.Common.{◌++◌, [], ◌∷◌, refl, sym, subst}
use Rattle.log_checker.specs.Checkers.{AreConditionsDue, subject_of}
use Rattle.proof_log.specs.declared.log.Line.TheVariants.{End}
use Rattle.log_checker.proofs.DueChains.{condition_done, impossible_due}
use Rattle.log_checker.proofs.KeysInTurn.{false_not}
use Rattle.log_checker.proofs.chaining.after_condition.Goals as goal

pub returns-then-is_zero : goal.returns-then-is_zero
returns-then-is_zero c = λ head steps good d.
    impossible_due (subject_of head c.args.problem.now) steps good c.args.evidence.now.known c.args.evidence.now.ends c.args.evidence.now.budget.left c.args.k c.args.own c.args.last d c.requires
    (c.if-is_zero.ensures.0 refl)

pub returns : goal.returns
returns c = λ head steps good d.
    let s = subject_of head c.args.problem.now in
    let e = c.args.evidence.now in
    let more = good ++ End ∷ [] in
    let due = condition_done s steps good e.known e.ends e.budget.left c.args.k c.args.own c.args.last d c.requires (λ zero_there. false_not (c.if-is_zero.ensures.1 zero_there)) in
    c.condition_due.ensures head steps more c.add.new.self
    (subst (λ b. AreConditionsDue s steps more c.add.new.self.known c.add.new.self.ends b.left c.args.k) (sym c.in_ok-add.ensures.left)
    (subst (λ es. AreConditionsDue s steps more c.add.new.self.known es e.budget.left c.args.k) (sym c.in_ok-add.ensures.ends)
    (subst (λ vs. AreConditionsDue s steps more vs (e.ends ++ c.args.last ∷ []) e.budget.left c.args.k) (sym c.in_ok-add.ensures.known) due)))
