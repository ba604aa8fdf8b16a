use Rattle.std.proofs.Common.{◌+◌, ◌-◌, drop, length, take, rules, tests, ap, ◌∙◌}
use Rattle.std.specs.List.{prefix_len}
use Rattle.std.proofs.lemmas.Iterator.{YieldsList-from_slice}
use Rattle.std.proofs.lemmas.Iterator.Consumers.{count_from_yields_List}
use Rattle.std.proofs.lemmas.Iterator.Search.{YieldsList-from_take_while}
use Rattle.std.proofs.lemmas.List.{take_rest}
use Rattle.std.proofs.lemmas.List.Folds.{length-prefix_len}
use Rattle.geo_lexer.specs.Bytes.{is_word_byte}
use Rattle.geo_lexer.proofs.places.word_end.Goals as goal

-- the run is the longest front of the bytes left that passes
pub returns-clause-run : goal.returns-clause-run
returns-clause-run c =
    let bytes = c.args.bytes.now in
    let rest = take (length bytes - c.args.start) (drop c.args.start bytes) in
    let count = count_from_yields_List c.take_while-run.result _ c.count.ensures.ran
    (YieldsList-from_take_while _ is_word_byte
    (YieldsList-from_slice rest (cc)) c.take_while-run.ensures.closure c.take_while-run.ensures.done (λ x b q k. search (rules, tests)))
    ∙ length-prefix_len is_word_byte rest in
    ap (λ n. c.args.start + n) (count ∙ ap (prefix_len is_word_byte) (take_rest bytes c.args.start))
