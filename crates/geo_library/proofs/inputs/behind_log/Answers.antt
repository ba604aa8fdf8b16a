use Rattle.std.proofs.Common.{ℕ, ◌-◌, List, drop, length, take, sym, ◌∙◌, subst, arith}
use Rattle.geo_library.specs.Inputs.{BeginsWithVerdict}
use Rattle.geo_library.specs.Inner.Names.{BeginsWithSome}
use Rattle.geo_library.proofs.CuttingLogs.{Continues, behind_feed, begins, ends, goes_on, never_ends}
use Rattle.geo_library.proofs.inputs.behind_log.Goals as goal

pub returns-then-begins_with_verdict : goal.returns-then-begins_with_verdict
returns-then-begins_with_verdict c =
    let rest = c.loop-at.rest.now in let at = c.in-Some.at in
    subst (BeginsWithSome c.args.bytes.now) (sym (behind_feed rest c.split_at.result.1.now at c.split_at.ensures.back))
    (ends c.args.bytes.now rest at c.loop-at.invariant (sym c.line_feed_at.ensures.value ∙ c.in-Some.is)
    (subst BeginsWithVerdict c.split_at.ensures.front c.if-begins_with_verdict.ensures))

pub loop-at-preserved : goal.loop-at-preserved
loop-at-preserved c =
    let rest = c.loop-at.rest.now in let at = c.in-Some.at in
    subst (Continues c.args.bytes.now) (sym (behind_feed rest c.split_at.result.1.now at c.split_at.ensures.back))
    (goes_on c.args.bytes.now rest at c.loop-at.invariant (sym c.line_feed_at.ensures.value ∙ c.in-Some.is)
    (λ v. c.if-begins_with_verdict.ensures (subst BeginsWithVerdict (sym c.split_at.ensures.front) v)))

pub returns : goal.returns
returns c = never_ends c.args.bytes.now c.loop-at.rest.now c.loop-at.invariant (sym c.line_feed_at.ensures.value ∙ c.in_default.is)
