use Rattle.std.proofs.Common.{◌∙◌, ap, sym, true, false, below_more, arith}
use Rattle.geo_cli.specs.Words.{bytes_of_words}
use Rattle.geo_cli.proofs.OrderLemmas.{cut_here, cut_none, word_at}
use Rattle.geo_cli.proofs.order.cut.Goals as goal

pub returns-then-begins_option-clause-front : goal.returns-then-begins_option-clause-front
returns-then-begins_option-clause-front c =
    ap bytes_of_words c.split_at.ensures.front
    ∙ (cut_here c.args.words.now c.loop-i.i (omega arith) c.loop-i.invariant
    (λ low. word_at _ _ c.index-words-i.result _ true low c.index-words-i.is c.as_bytes.ensures.value
    (sym c.begins_option.ensures ∙ c.if-begins_option.true))).0

pub returns-then-begins_option-clause-tail : goal.returns-then-begins_option-clause-tail
returns-then-begins_option-clause-tail c =
    ap bytes_of_words c.split_at.ensures.back
    ∙ (cut_here c.args.words.now c.loop-i.i (omega arith) c.loop-i.invariant
    (λ low. word_at _ _ c.index-words-i.result _ true low c.index-words-i.is c.as_bytes.ensures.value
    (sym c.begins_option.ensures ∙ c.if-begins_option.true))).1

pub loop-i-preserved : goal.loop-i-preserved
loop-i-preserved c =
    below_more _ _ c.loop-i.invariant
    (word_at _ _ c.index-words-i.result _ false c.loop-i-test.true c.index-words-i.is c.as_bytes.ensures.value
    (sym c.begins_option.ensures ∙ c.if-begins_option.false))

pub returns-clause-front : goal.returns-clause-front
returns-clause-front c = (cut_none c.args.words.now (λ k low. c.loop-i.invariant k (omega arith))).0

pub returns-clause-tail : goal.returns-clause-tail
returns-clause-tail c = (cut_none c.args.words.now (λ k low. c.loop-i.invariant k (omega arith))).1
