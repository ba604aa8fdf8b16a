use Rattle.std.proofs.Common.{◌≡◌, ◌-◌, ◌++◌, ◌+◌, ℕ, suc, List, take, drop, length, ap, subst, sym, ◌∙◌, arith}
use Rattle.std.proofs.lemmas.List.{take_rest}
use Rattle.std.proofs.lemmas.Result.{IfOk-weaker}
use Rattle.std.specs.Result.{IfOk}
use Rattle.geo_program.specs.Programs.{source_of}
use Rattle.log_checker.specs.Accepted.{BytesMean}
use Rattle.log_checker.specs.Checked.{IsAnswer, TellsStop}
use Rattle.log_checker.specs.Checkers.{with_feeds}
use Rattle.log_checker.specs.Judged.{Refuses}
use Rattle.log_checker.proofs.AcceptedBytes.{accepted_bytes_mean}
use Rattle.log_checker.proofs.CheckerSteps.{IsTaken, stopped, taken_more}
use Rattle.log_checker.proofs.FirstFeeds.{feed_absent, feed_found}
use Rattle.log_checker.proofs.PassedOn.{passed_on}
use Rattle.log_checker.proofs.checking.check.Goals as goal

behind_feed : (xs : List ℕ) (at : ℕ) → drop (suc at) xs ≡ take (length xs - (at + 1)) (drop (at + 1) xs)
behind_feed xs at = let one : suc at ≡ at + 1 = omega arith in ap (λ n. drop n xs) one ∙ sym (take_rest xs (at + 1))

pub take-requires-clause-one_line : goal.take-requires-clause-one_line
take-requires-clause-one_line c = (feed_found c.loop-at.rest.now c.in-Some.at (sym c.line_feed_at.ensures ∙ c.in-Some.is)).0.one_line

pub returns-in_err-take-clause-refused : goal.returns-in_err-take-clause-refused
returns-in_err-take-clause-refused c =
    let t = c.loop-at.invariant in
    let first = (feed_found c.loop-at.rest.now c.in-Some.at (sym c.line_feed_at.ensures ∙ c.in-Some.is)).0 in
    passed_on c.from_residual-in_err-take.result c.in_err-take.field-0.0 (TellsStop (Refuses c.args.bytes.now c.args.steps)) c.from_residual-in_err-take.ensures.1
    (
    stopped c.args.bytes.now c.loop-at.rest.now (take c.in-Some.at c.loop-at.rest.now) (drop (suc c.in-Some.at) c.loop-at.rest.now) c.args.steps
    c.loop-at.checker t c.in_err-take.field-0.0 first.split (c.in_err-take.ensures.refused t.pieces t.stands)
    )

pub loop-at-preserved : goal.loop-at-preserved
loop-at-preserved c =
    let t = c.loop-at.invariant in
    let first = (feed_found c.loop-at.rest.now c.in-Some.at (sym c.line_feed_at.ensures ∙ c.in-Some.is)).0 in
    subst (IsTaken c.args.bytes.now c.args.steps c.take.new.self) (behind_feed c.loop-at.rest.now c.in-Some.at)
    (
    taken_more c.args.bytes.now c.loop-at.rest.now (take c.in-Some.at c.loop-at.rest.now) (drop (suc c.in-Some.at) c.loop-at.rest.now) c.args.steps
    c.loop-at.checker c.take.new.self t first.split c.in_ok-take.ensures.steps (c.in_ok-take.ensures.goes t.pieces t.stands)
    )

pub finish-requires-clause-one_line : goal.finish-requires-clause-one_line
finish-requires-clause-one_line c = feed_absent c.loop-at.rest.now (sym c.line_feed_at.ensures ∙ c.in_default.is)

pub returns-clause-means : goal.returns-clause-means
returns-clause-means c =
    let t = c.loop-at.invariant in
    IfOk-weaker c.finish.result (IsAnswer c.args.bytes.now c.args.steps) (λ a. BytesMean c.args.bytes.now (source_of a.program) a.verdict)
    (λ a answer. accepted_bytes_mean c.args.bytes.now c.args.steps (source_of a.program) a.verdict answer.accepts)
    (
    subst (λ bs. IfOk c.finish.result (IsAnswer bs c.args.steps)) (sym t.split)
    (subst (λ k. IfOk c.finish.result (IsAnswer (with_feeds t.pieces ++ c.loop-at.rest.now) k)) t.steps_are (c.finish.ensures.accepted t.pieces t.stands))
    )
