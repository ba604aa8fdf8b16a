use Rattle.poly_arena.specs.Chains.{pairs_of}
use Rattle.geo_poly.proofs.ChainSteps.{StandsUnder-list}
use Rattle.geo_poly.proofs.KeyedChains.{falls-terms, keys-chain_sum, keys-within, sums_fit, terms-chain_sum}
use Rattle.geo_poly.proofs.chained.summed.Goals as goal

pub merge-requires-clause-kept_falls : goal.merge-requires-clause-kept_falls
merge-requires-clause-kept_falls g c =
    falls-terms c.args.vars.now c.requires.rising (g.K.MonomialKeys.keys c.args.keys.now) (pairs_of c.args.arena.now c.args.left) c.requires.left_keys c.requires.left_order

pub merge-requires-clause-spent_falls : goal.merge-requires-clause-spent_falls
merge-requires-clause-spent_falls g c =
    falls-terms c.args.vars.now c.requires.rising (g.K.MonomialKeys.keys c.args.keys.now) (pairs_of c.args.arena.now c.args.right) c.requires.right_keys c.requires.right_order

pub merge-requires-clause-kept_keys : goal.merge-requires-clause-kept_keys
merge-requires-clause-kept_keys g c =
    keys-within c.args.vars.now c.requires.rising (g.K.MonomialKeys.keys c.args.keys.now) (pairs_of c.args.arena.now c.args.left) c.requires.left_keys

pub merge-requires-clause-spent_keys : goal.merge-requires-clause-spent_keys
merge-requires-clause-spent_keys g c =
    keys-within c.args.vars.now c.requires.rising (g.K.MonomialKeys.keys c.args.keys.now) (pairs_of c.args.arena.now c.args.right) c.requires.right_keys

pub merge-requires-clause-sums : goal.merge-requires-clause-sums
merge-requires-clause-sums g c =
    sums_fit c.args.vars.now c.requires.rising (g.K.MonomialKeys.keys c.args.keys.now) (pairs_of c.args.arena.now c.args.left) (pairs_of c.args.arena.now c.args.right) c.requires.fits

pub returns-clause-sum : goal.returns-clause-sum
returns-clause-sum g c =
    let vars = c.args.vars.now in
    let keys = g.K.MonomialKeys.keys c.args.keys.now in
    let xs = pairs_of c.args.arena.now c.args.left in
    let ys = pairs_of c.args.arena.now c.args.right in
    StandsUnder-list vars keys c.merge.new.arena c.args.left _ _ c.merge.ensures.merges.changed
    (keys-chain_sum vars c.requires.rising keys xs ys c.requires.left_keys c.requires.right_keys)
    (terms-chain_sum vars c.requires.rising keys xs ys c.requires.left_keys c.requires.right_keys)
