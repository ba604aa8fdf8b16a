use Rattle.std.proofs.Common.{rules, ap, sym, ◌∙◌}
use Rattle.geo_base.specs.Lines.{is_rest}
use Rattle.geo_cli.proofs.ReadLogs.{hands_line, hands_rest, line_clean, on_err, read_long, read_part, read_whole, reading_next, rest_clean}
use Rattle.geo_cli.proofs.judging.judge_input.Goals as goal

pub returns-in_err-line-clause-too_long : goal.returns-in_err-line-clause-too_long
returns-in_err-line-clause-too_long g c = λ is.
    read_long c.args.steps _ _ _ _ c.next.new.self _ c.loop-checker.invariant.reading c.in_err-line.ensures.opened
    (record { counted = c.in_err-line.ensures.counted; limit = c.next.ensures.limit }) c.next.ensures.most (c.next.ensures.too_long.0 (search rules)).1

pub returns-in_err-line-clause-lost : goal.returns-in_err-line-clause-lost
returns-in_err-line-clause-lost g c =
    on_err _ _
    (
    read_part c.args.steps _ _ _ _ c.next.new.self _ c.loop-checker.invariant.reading c.in_err-line.ensures.opened
    (record { counted = c.in_err-line.ensures.counted; limit = c.next.ensures.limit }) c.next.ensures.most
    )

pub take-requires-clause-one_line : goal.take-requires-clause-one_line
take-requires-clause-one_line g c =
    line_clean c.in_ok-line.field-0 c.in-Line.line c.deref.result.now c.in-Line.is (sym c.line.view_is ∙ sym c.deref.ensures.value) c.in_ok-line.ensures.one

pub loop-checker-preserved : goal.loop-checker-preserved
loop-checker-preserved g c =
    let hands = hands_line (g.S.Source.left c.loop-checker.source) (g.S.Source.left c.next.new.source) c.loop-checker.reader c.next.new.self
    c.in_ok-line.field-0 c.in-Line.line c.deref.result.now c.in-Line.is (sym c.line.view_is ∙ sym c.deref.ensures.value)
    (record {
      opened = c.in_ok-line.ensures.opened;
      counts = record { counted = c.in_ok-line.ensures.counted; limit = c.next.ensures.limit };
    }) in
    record {
      reading = reading_next c.args.steps _ _ _ _ _ _ _ c.deref.result.now c.take.result c.loop-checker.invariant.reading
          (record {
            goes = c.take.ensures.goes;
            refused = c.take.ensures.refused;
            failed = c.take.ensures.failed;
            fails = c.take.ensures.fails;
            taken = c.take.ensures.taken;
            kept = c.take.ensures.kept;
            steps = c.take.ensures.steps;
          })
          hands.opened hands.counts c.in_ok-line.ensures.within (c.in_ok-line.ensures.ended ∙ ap is_rest c.in-Line.is);
      faults = search rules;
    }

pub finish-requires-clause-one_line : goal.finish-requires-clause-one_line
finish-requires-clause-one_line g c =
    rest_clean c.in_ok-line.field-0 c.in-Rest.rest c.deref-in-Rest.result.now c.in-Rest.is (sym c.rest.view_is ∙ sym c.deref-in-Rest.ensures.value)
    c.in_ok-line.ensures.one

pub returns-in-Rest-clause-judged : goal.returns-in-Rest-clause-judged
returns-in-Rest-clause-judged g c =
    let hands = hands_rest (g.S.Source.left c.loop-checker.source) (g.S.Source.left c.next.new.source) c.loop-checker.reader c.next.new.self
    c.in_ok-line.field-0 c.in-Rest.rest c.deref-in-Rest.result.now c.in-Rest.is (sym c.rest.view_is ∙ sym c.deref-in-Rest.ensures.value)
    (record {
      opened = c.in_ok-line.ensures.opened;
      counts = record { counted = c.in_ok-line.ensures.counted; limit = c.next.ensures.limit };
    }) in
    let end = c.in_ok-line.ensures.rest (ap is_rest c.in-Rest.is) in
    read_whole c.args.steps _ _ _ _ _ _ c.loop-checker.invariant.reading c.deref-in-Rest.result.now c.finish.result hands.opened hands.counts
    c.in_ok-line.ensures.within end.0 end.1
    (record { accepted = c.finish.ensures.accepted; refused = c.finish.ensures.refused; failed = c.finish.ensures.failed })
