use Rattle.std.proofs.Common.{◌≡◌, ◌≤◌, ◌++◌, ◌∷◌, [], None, ap, subst, sym, ◌∙◌, arith}
use Rattle.log_checker.specs.Checked.{StopsAt, TellsStop}
use Rattle.log_checker.specs.Checkers.{CheckerValue, StandsFor, error_of}
use Rattle.log_checker.proofs.CheckerSteps.{leaves_of, lines_counted, reached, sound_with, take_goes, take_stops}
use Rattle.log_checker.proofs.PassedOn.{passed_on}
use Rattle.log_checker.proofs.checker.Checker.take.Goals as goal

pub take_line-requires-clause-reached : goal.take_line-requires-clause-reached
take_line-requires-clause-reached c =
    let v : CheckerValue = record { steps = c.self.inside.steps; taken = c.self.inside.taken; lines = c.self.inside.lines; state = c.self.inside.state } in
    let same : c.self.inside.taken ≡ c.args.self.now.taken = ap (λ (x : CheckerValue). x.taken) c.self.view_is in
    let none : error_of v ≡ None = sym c.failure.ensures ∙ c.in_default.is in
    reached v c.self.invariant none (omega (arith, same, c.requires.room))

pub invariant_of-self-2 : goal.invariant_of-self-2
invariant_of-self-2 c =
    let v : CheckerValue = record { steps = c.self.inside.steps; taken = c.self.inside.taken; lines = c.self.inside.lines; state = c.self.inside.state } in
    let same : c.self.inside.taken ≡ c.args.self.now.taken = ap (λ (x : CheckerValue). x.taken) c.self.view_is in
    let none : error_of v ≡ None = sym c.failure.ensures ∙ c.in_default.is in
    sound_with v c.args.line.now c.take_line.new.state c.self.invariant none (omega (arith, same, c.requires.room))
    (λ lines leaves. c.in_ok-take_line.ensures.goes lines leaves)

pub returns-clause-goes : goal.returns-clause-goes
returns-clause-goes c = λ pieces h.
    let v : CheckerValue = record { steps = c.self.inside.steps; taken = c.self.inside.taken; lines = c.self.inside.lines; state = c.self.inside.state } in
    let same : c.self.inside.taken ≡ c.args.self.now.taken = ap (λ (x : CheckerValue). x.taken) c.self.view_is in
    let fits : c.self.inside.taken ≤ 67108864 = omega (arith, same, c.requires.room) in
    let s : StandsFor v pieces = subst (λ (x : CheckerValue). StandsFor x pieces) (sym c.self.view_is) h in
    take_goes v pieces c.args.line.now c.take_line.new.state s (c.in_ok-take_line.ensures.goes s.lines (leaves_of v pieces s fits))

pub returns-in_err-take_line-clause-refused : goal.returns-in_err-take_line-clause-refused
returns-in_err-take_line-clause-refused c = λ pieces h.
    let v : CheckerValue = record { steps = c.self.inside.steps; taken = c.self.inside.taken; lines = c.self.inside.lines; state = c.self.inside.state } in
    let same : c.self.inside.taken ≡ c.args.self.now.taken = ap (λ (x : CheckerValue). x.taken) c.self.view_is in
    let fits : c.self.inside.taken ≤ 67108864 = omega (arith, same, c.requires.room) in
    let Stops : CheckerValue → Type 0 = λ x. StandsFor x pieces → TellsStop (StopsAt x.steps (pieces ++ c.args.line.now ∷ [])) c.in_err-take_line.field-0.0 in
    let there : Stops v = λ s.
    take_stops v pieces c.args.line.now c.in_err-take_line.field-0.0 s c.requires.one_line
    (c.in_err-take_line.ensures.refused s.lines (leaves_of v pieces s fits) (omega (arith, lines_counted v pieces s))) in
    passed_on c.from_residual.result c.in_err-take_line.field-0.0 (TellsStop (StopsAt c.args.self.now.steps (pieces ++ c.args.line.now ∷ []))) c.from_residual.ensures.1
    (subst Stops c.self.view_is there h)
