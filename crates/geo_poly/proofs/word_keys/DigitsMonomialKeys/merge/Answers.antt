use Rattle.std.proofs.Common.{subst}
use Rattle.sparse_lists.specs.Coefficients.{Pairs}
use Rattle.poly_arena.specs.Chains.{Merges, pairs_of}
use Rattle.geo_poly.proofs.WordInstance.{words-below, words-fall, words-sum}
use Rattle.geo_poly.proofs.word_keys.DigitsMonomialKeys.merge.Goals as goal

pub merge_into-requires-clause-kept_falls : goal.merge_into-requires-clause-kept_falls
merge_into-requires-clause-kept_falls c =
    words-fall c.args.self.now (pairs_of c.args.arena.now c.args.kept.now) c.requires.kept_keys c.requires.kept_falls

pub merge_into-requires-clause-spent_falls : goal.merge_into-requires-clause-spent_falls
merge_into-requires-clause-spent_falls c =
    words-fall c.args.self.now (pairs_of c.args.arena.now c.args.spent) c.requires.spent_keys c.requires.spent_falls

pub merge_into-requires-clause-kept_keys : goal.merge_into-requires-clause-kept_keys
merge_into-requires-clause-kept_keys c =
    words-below c.args.self.now c.count-count.ensures.words (pairs_of c.args.arena.now c.args.kept.now) c.requires.kept_keys

pub merge_into-requires-clause-spent_keys : goal.merge_into-requires-clause-spent_keys
merge_into-requires-clause-spent_keys c =
    words-below c.args.self.now c.count-count.ensures.words (pairs_of c.args.arena.now c.args.spent) c.requires.spent_keys

pub returns-clause-merges : goal.returns-clause-merges
returns-clause-merges c =
    let kept = pairs_of c.args.arena.now c.args.kept.now in
    let spent = pairs_of c.args.arena.now c.args.spent in
    subst (λ (pairs : Pairs). Merges c.args.arena.now c.merge_into.new.self c.args.kept.now c.args.spent pairs)
    (words-sum c.args.self.now kept spent c.requires.kept_keys c.requires.spent_keys) c.merge_into.ensures.merges
