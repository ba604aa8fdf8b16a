use Rattle.std.proofs.Common.{◌∙◌, subst, List, ℕ, Contains, rules, arith}
use Rattle.std.proofs.lemmas.Bool.{MatchBool-at_false, MatchBool-at_true}
use Rattle.geo_base.specs.Lines.{line_feed}
use Rattle.geo_base.proofs.LineLemmas.{Contains-moved, length-taken, length-line, open_bytes-taken}
use Rattle.geo_base.proofs.intake.Intake.next.Goals as goal

pub loop-self-preserved : goal.loop-self-preserved
loop-self-preserved g c =
    let moved = MatchBool-at_false _ _ c.if-not-branch.true c.in_ok-take_line.ensures.found in
    let clean = c.in_ok-take_line.ensures.one c.loop-self.invariant.one in
    let kept = c.refill.ensures.line ∙ moved.0 in
    record {
      limit = search rules;
      bounded = search rules;
      short = search rules;
      more = search rules;
      one = λ has. clean (subst (λ (xs : List ℕ). Contains xs line_feed) c.refill.ensures.line has);
      opened = c.loop-self.invariant.opened ∙ (rw kept (open_bytes-taken _ _ _ _ c.refill.ensures.lost));
      counted = rw kept (length-taken _ _ _ _ _ _ c.loop-self.invariant.counted (omega arith));
      unread = λ has. absurd (Contains-moved _ _ _ line_feed moved.0 (c.loop-self.invariant.unread has).2 clean has);
      still = search rules;
    }

pub returns-clause-counted : goal.returns-clause-counted
returns-clause-counted g c =
    let found = MatchBool-at_true _ _ c.if-not-branch.false c.in_ok-take_line.ensures.found in
    rw (c.hand_out-2.ensures.text, c.hand_out-2.ensures.line, c.hand_out-2.ensures.piece)
    (length-line _ _ _ _ _ _ _ _ found c.loop-self.invariant.counted (c.hand_out-2.ensures.taken ∙ c.in_ok-take_line.ensures.taken))
