use Rattle.std.proofs.Common.{◌≡◌, ◌≤◌, ◌++◌, length, ap, subst, arith}
use Rattle.std.proofs.lemmas.Bool.Decides.{nat_tests}
use Rattle.std.proofs.lemmas.List.{nil_from_length}
use Rattle.std.proofs.lemmas.Result.{IfErr-weaker, IfOk-weaker}
use Rattle.std.specs.Result.{IfErr, IfOk}
use Rattle.log_checker.specs.Checked.{IsAnswer, TellsStop}
use Rattle.log_checker.specs.Checkers.{CheckerValue, StandsFor, with_feeds}
use Rattle.log_checker.specs.Inner.Judged.{IsAnswerOf, StopsThere}
use Rattle.log_checker.specs.Judged.{Refuses}
use Rattle.log_checker.proofs.CheckerSteps.{finish_answers, finish_stops, leaves_of, lines_counted, reached_or_failed, rest_stops}
use Rattle.log_checker.proofs.checker.Checker.finish.Goals as goal

pub answer_at_end-requires-clause-reached : goal.answer_at_end-requires-clause-reached
answer_at_end-requires-clause-reached c =
    let v : CheckerValue = record { steps = c.self.inside.steps; taken = c.self.inside.taken; lines = c.self.inside.lines; state = c.self.inside.state } in
    let same : c.self.inside.taken ≡ c.args.self.taken = ap (λ (x : CheckerValue). x.taken) c.self.view_is in
    reached_or_failed v c.self.invariant (omega (arith, same, c.requires.room))

pub refusal_of_rest-requires : goal.refusal_of_rest-requires
refusal_of_rest-requires c =
    let v : CheckerValue = record { steps = c.self.inside.steps; taken = c.self.inside.taken; lines = c.self.inside.lines; state = c.self.inside.state } in
    let same : c.self.inside.taken ≡ c.args.self.taken = ap (λ (x : CheckerValue). x.taken) c.self.view_is in
    reached_or_failed v c.self.invariant (omega (arith, same, c.requires.room))

pub returns-then-is_empty-clause-accepted : goal.returns-then-is_empty-clause-accepted
returns-then-is_empty-clause-accepted c = λ pieces h.
    let v : CheckerValue = record { steps = c.self.inside.steps; taken = c.self.inside.taken; lines = c.self.inside.lines; state = c.self.inside.state } in
    let same : c.self.inside.taken ≡ c.args.self.taken = ap (λ (x : CheckerValue). x.taken) c.self.view_is in
    let fits : c.self.inside.taken ≤ 67108864 = omega (arith, same, c.requires.room) in
    let zero_long : length c.args.rest.now ≡ 0 = grind (arith, nat_tests, c.if-is_empty.ensures) in
    let Answers : CheckerValue → Type 0 = λ x. StandsFor x pieces → IfOk c.answer_at_end.result (IsAnswer (with_feeds pieces ++ c.args.rest.now) x.steps) in
    let there : Answers v = λ s.
    IfOk-weaker c.answer_at_end.result (IsAnswerOf v.steps s.lines) (IsAnswer (with_feeds pieces ++ c.args.rest.now) v.steps)
    (λ a answer. finish_answers v pieces c.args.rest.now a s (nil_from_length c.args.rest.now zero_long) answer)
    (c.answer_at_end.ensures.accepted s.lines (leaves_of v pieces s fits) (lines_counted v pieces s)) in
    subst Answers c.self.view_is there h

pub returns-then-is_empty-clause-refused : goal.returns-then-is_empty-clause-refused
returns-then-is_empty-clause-refused c = λ pieces h.
    let v : CheckerValue = record { steps = c.self.inside.steps; taken = c.self.inside.taken; lines = c.self.inside.lines; state = c.self.inside.state } in
    let same : c.self.inside.taken ≡ c.args.self.taken = ap (λ (x : CheckerValue). x.taken) c.self.view_is in
    let fits : c.self.inside.taken ≤ 67108864 = omega (arith, same, c.requires.room) in
    let zero_long : length c.args.rest.now ≡ 0 = grind (arith, nat_tests, c.if-is_empty.ensures) in
    let Answers : CheckerValue → Type 0 = λ x. StandsFor x pieces → IfErr c.answer_at_end.result (TellsStop (Refuses (with_feeds pieces ++ c.args.rest.now) x.steps)) in
    let there : Answers v = λ s.
    IfErr-weaker c.answer_at_end.result (TellsStop (StopsThere v.steps s.lines)) (TellsStop (Refuses (with_feeds pieces ++ c.args.rest.now) v.steps))
    (λ e tells. finish_stops v pieces c.args.rest.now e s (nil_from_length c.args.rest.now zero_long) tells)
    (c.answer_at_end.ensures.refused s.lines (leaves_of v pieces s fits) (lines_counted v pieces s)) in
    subst Answers c.self.view_is there h

pub returns-else-is_empty-clause-refused : goal.returns-else-is_empty-clause-refused
returns-else-is_empty-clause-refused c = λ pieces h.
    let v : CheckerValue = record { steps = c.self.inside.steps; taken = c.self.inside.taken; lines = c.self.inside.lines; state = c.self.inside.state } in
    let same : c.self.inside.taken ≡ c.args.self.taken = ap (λ (x : CheckerValue). x.taken) c.self.view_is in
    let fits : c.self.inside.taken ≤ 67108864 = omega (arith, same, c.requires.room) in
    let some : length c.args.rest.now ≡ 0 → ⊥ = grind (arith, nat_tests, c.if-is_empty.ensures) in
    let Answers : CheckerValue → Type 0 = λ x. StandsFor x pieces → TellsStop (Refuses (with_feeds pieces ++ c.args.rest.now) x.steps) c.refusal_of_rest.result in
    let there : Answers v = λ s.
    rest_stops v pieces c.args.rest.now c.refusal_of_rest.result s (λ none. some (ap length none)) c.requires.one_line
    (c.refusal_of_rest.ensures.refused s.lines (leaves_of v pieces s fits) (omega (arith, lines_counted v pieces s))) in
    subst Answers c.self.view_is there h
