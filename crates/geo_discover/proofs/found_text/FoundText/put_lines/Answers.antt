use Rattle.std.proofs.Common.{◌≡◌, ◌+◌, ℕ, List, sym, subst, arith, rules}
use Rattle.std.proofs.lemmas.List.{take_rest}
use Rattle.geo_discover.proofs.Putting.{IsMidway, at_first, at_last, if_err, one_breaks, one_more}
use Rattle.geo_discover.proofs.found_text.FoundText.put_lines.Goals as goal

pub loop-end-init : goal.loop-end-init
loop-end-init g c = (
  (λ lines e one. at_first lines c.args.text.now c.args.self.now.bytes (g.K.Sink.held c.args.sink.now) c.args.self.now.within e one),
  omega arith,
)

pub returns-in_err-put-clause-err : goal.returns-in_err-put-clause-err
returns-in_err-put-clause-err g c =
    if_err _ _ c.in_err-put.field-0.0 c.from_residual.ensures.1
    (λ lines e one. one_breaks lines c.loop-end.rest.now c.args.self.now.bytes c.loop-end.self.bytes (g.K.Sink.held c.args.sink.now)
    (g.K.Sink.held c.loop-end.sink) (c.loop-end.invariant.0 lines e one) c.in-Some.end (g.K.Sink.held c.put.new.sink)
    (g.K.Sink.faults c.args.sink.now) (g.K.Sink.faults c.loop-end.sink) (g.K.Sink.faults c.put.new.sink) c.in_err-put.field-0.0
    (sym c.in-Some.ensures.value) (omega (arith, c.loop-end.invariant.1)) c.in_err-put.ensures.err)

pub loop-end-preserved : goal.loop-end-preserved
loop-end-preserved g c = (
  (λ lines e one. subst (λ (xs : List ℕ). IsMidway lines xs c.args.self.now.bytes c.put.new.self.bytes (g.K.Sink.held c.args.sink.now)
      (g.K.Sink.held c.put.new.sink)) (sym (take_rest c.loop-end.rest.now (c.in-Some.end + 1)))
      (one_more lines c.loop-end.rest.now c.args.self.now.bytes c.loop-end.self.bytes (g.K.Sink.held c.args.sink.now) (g.K.Sink.held c.loop-end.sink)
      (c.loop-end.invariant.0 lines e one) c.in-Some.end c.put.new.self.bytes (g.K.Sink.held c.put.new.sink) (sym c.in-Some.ensures.value)
      c.in_ok-put.ensures.ok)),
  (let kept : g.K.Sink.faults c.put.new.sink ≡ g.K.Sink.faults c.loop-end.sink = search rules in omega (arith, c.loop-end.invariant.1, kept)),
)

pub returns-clause-ok : goal.returns-clause-ok
returns-clause-ok g c =
    λ lines e one. at_last lines c.loop-end.rest.now c.args.self.now.bytes c.loop-end.self.bytes (g.K.Sink.held c.args.sink.now)
    (g.K.Sink.held c.loop-end.sink) (c.loop-end.invariant.0 lines e one) (sym c.in_default.ensures.value)
