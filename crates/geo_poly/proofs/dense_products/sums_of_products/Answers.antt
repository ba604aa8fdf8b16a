use Rattle.std.proofs.Common.{◌<◌, ℕ, ◌∙◌, sym, subst, arith}
use Rattle.std.proofs.lemmas.List.{take_all}
use Rattle.sparse_lists.specs.SparseLists.{AllKeys}
use Rattle.geo_poly.specs.Inner.WordSums.{AreSums, word_multiples, word_products}
use Rattle.geo_poly.specs.Shared.{Indices}
use Rattle.geo_poly.proofs.Told.{item}
use Rattle.geo_poly.proofs.WordProducts.{multiples_within, room_for, sums_next}
use Rattle.geo_poly.proofs.dense_products.sums_of_products.Goals as goal

pub add_multiples-requires-clause-words : goal.add_multiples-requires-clause-words
add_multiples-requires-clause-words c =
    let left = c.args.left.now in
    let right = c.args.right.now in
    let i = c.loop-term.term-index in
    subst (λ (n : ℕ). AllKeys (λ w. w < n) (word_multiples (item left i) right)) (sym c.loop-term.invariant.whole)
    (multiples_within left right i c.loop-term-test.true (λ w. w < c.args.words) c.requires.words)

pub add_multiples-requires-clause-fits : goal.add_multiples-requires-clause-fits
add_multiples-requires-clause-fits c =
    room_for c.args.left.now c.args.right.now c.loop-term.term-index c.loop-term-test.true c.loop-term.sums.items c.loop-term.invariant.sums c.requires.fits

pub loop-term-preserved : goal.loop-term-preserved
loop-term-preserved c = record {
  whole = c.add_multiples.ensures.whole ∙ c.loop-term.invariant.whole;
  sums = sums_next c.args.left.now c.args.right.now c.loop-term.term-index c.loop-term-test.true c.loop-term.sums.items c.loop-term.invariant.sums
      c.add_multiples.new.sums.items c.add_multiples.ensures.whole c.add_multiples.ensures.sums;
}

pub returns-clause-sums : goal.returns-clause-sums
returns-clause-sums c =
    subst (λ (xs : Indices). AreSums (word_products xs c.args.right.now) c.loop-term.sums.items)
    (take_all c.loop-term.term-index c.args.left.now (omega arith)) c.loop-term.invariant.sums
