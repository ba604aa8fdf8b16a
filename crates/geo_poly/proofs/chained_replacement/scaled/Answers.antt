use Rattle.std.proofs.Common.{◌≡◌, ℤ, Some, ◌∙◌, ap, of_z, rules, subst, sym, to_z}
use Rattle.std.specs.Int.{w128}
use Rattle.std.proofs.lemmas.Int.{to_z-of_z}
use Rattle.sparse_lists.specs.Coefficients.{scaled}
use Rattle.poly_arena.specs.Chains.{CanScale, pairs_of}
use Rattle.geo_poly.proofs.ChainSteps.{StandsUnder-list}
use Rattle.geo_poly.proofs.ChainSwaps.{Swaps-updates}
use Rattle.geo_poly.proofs.ScaledChains.{scale_fits, scale_keys, scale_terms}
use Rattle.geo_poly.proofs.chained_replacement.scaled.Goals as goal

pub scale-count-requires-clause-fits : goal.scale-count-requires-clause-fits
scale-count-requires-clause-fits g c =
    let pairs = pairs_of c.args.arena.now c.args.chain in
    let same : to_z w128 (of_z w128 c.args.term.1) ≡ c.args.term.1 = to_z-of_z w128 c.args.term.1 (search rules) in
    subst (λ (z : ℤ). CanScale c.args.term.0.0 z pairs) (sym same)
    (scale_fits c.args.vars.now c.requires.rising (g.K.MonomialKeys.keys c.args.keys.now) c.requires.adds c.args.term c.requires.term pairs
    c.requires.keys c.requires.fits c.requires.reach)

pub returns-clause-chain : goal.returns-clause-chain
returns-clause-chain g c =
    let vars = c.args.vars.now in
    let keys = g.K.MonomialKeys.keys c.args.keys.now in
    let term = c.args.term in
    let pairs = pairs_of c.args.arena.now c.args.chain in
    let same : to_z w128 (of_z w128 term.1) ≡ term.1 = to_z-of_z w128 term.1 (search rules) in
    StandsUnder-list vars keys c.scale-count.new.self c.args.chain (scaled term.0.0 term.1 pairs) _
    (c.scale-count.ensures.updates.changed ∙ ap (λ (z : ℤ). Some (scaled term.0.0 z pairs)) same)
    (scale_keys vars c.requires.rising keys c.requires.adds term c.requires.term pairs c.requires.keys c.requires.fits c.requires.reach)
    (scale_terms vars c.requires.rising keys c.requires.adds term c.requires.term pairs c.requires.keys c.requires.fits c.requires.reach)

pub returns-clause-swaps : goal.returns-clause-swaps
returns-clause-swaps g c = Swaps-updates c.args.arena.now c.scale-count.new.self c.args.chain _ c.scale-count.ensures.updates
