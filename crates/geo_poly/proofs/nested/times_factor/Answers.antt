use Rattle.std.proofs.Common.{◌*◌, ℤ, length, sym, ap, subst, ◌∙◌, arith}
use Rattle.std.proofs.lemmas.List.{length-map}
use Rattle.std.proofs.lemmas.Result.{IfOk-weaker}
use Rattle.poly_arena.specs.Chains.{pairs_of}
use Rattle.geo_poly.specs.Chained.{StandsUnder, keyed_terms_under}
use Rattle.geo_poly.specs.Inner.Factored.{piece_of}
use Rattle.geo_poly.specs.Monomials.{Powers}
use Rattle.geo_poly.specs.Polynomials.{CanMultiply, Summands, product_of}
use Rattle.geo_poly.specs.Inner.Keyed.{AreInReach, term_under}
use Rattle.geo_poly.proofs.ChainPowers.{StandsUnder-self}
use Rattle.geo_poly.proofs.ChainSwaps.{Swaps-refl}
use Rattle.geo_poly.proofs.MultipliedIn.{product_by_one}
use Rattle.geo_poly.proofs.nested.times_factor.Goals as goal

pub returns-then-is_one-clause-chain : goal.returns-then-is_one-clause-chain
returns-then-is_one-clause-chain g c =
    let vars = c.args.setting.now.vars.now in
    let s = (g.K.MonomialKeys.keys c.args.keys.now) in
    let a = c.args.arena.now in
    let base = keyed_terms_under vars s (pairs_of a c.args.chain) in
    let stored = c.list_of_factor-list.ensures s c.requires.set in
    let poly = (piece_of c.args.setting.now.rows.now c.args.setting.now.den.piece.now c.args.factor).poly in
    subst (λ (p : Summands). StandsUnder vars s a c.args.chain p)
    (sym (product_by_one vars s c.list_of_factor-list.result.now poly base (g.met.K.MonomialKeys.first c.args.keys.now)
    (c.is_one.ensures c.if-is_one.true) stored.terms c.requires.fits.left_in_order c.requires.fits.left_monomials))
    (StandsUnder-self vars s a c.args.chain c.requires.live c.requires.keys)

pub returns-then-is_one-clause-swaps : goal.returns-then-is_one-clause-swaps
returns-then-is_one-clause-swaps g c = Swaps-refl c.args.arena.now c.args.chain

pub times_list-requires-clause-indices : goal.times_list-requires-clause-indices
times_list-requires-clause-indices g c = (c.list_of_factor-list.ensures (g.K.MonomialKeys.keys c.args.keys.now) c.requires.set).indices

pub times_list-requires-clause-fits : goal.times_list-requires-clause-fits
times_list-requires-clause-fits g c =
    let base = keyed_terms_under c.args.setting.now.vars.now (g.K.MonomialKeys.keys c.args.keys.now) (pairs_of c.args.arena.now c.args.chain) in
    subst (λ (q : Summands). CanMultiply base q) (sym (c.list_of_factor-list.ensures (g.K.MonomialKeys.keys c.args.keys.now) c.requires.set).terms) c.requires.fits

pub times_list-requires-clause-reach : goal.times_list-requires-clause-reach
times_list-requires-clause-reach g c =
    let keys = g.K.MonomialKeys.keys c.args.keys.now in
    let base = keyed_terms_under c.args.setting.now.vars.now keys (pairs_of c.args.arena.now c.args.chain) in
    subst (λ (q : Summands). AreInReach c.args.setting.now.vars.now keys base q) (sym (c.list_of_factor-list.ensures keys c.requires.set).terms) c.requires.reach

pub returns-clause-chain : goal.returns-clause-chain
returns-clause-chain g c =
    let vars = c.args.setting.now.vars.now in
    let base = keyed_terms_under vars (g.K.MonomialKeys.keys c.args.keys.now) (pairs_of c.args.arena.now c.args.chain) in
    let stored = c.list_of_factor-list.ensures (g.K.MonomialKeys.keys c.args.keys.now) c.requires.set in
    IfOk-weaker c.times_list.result _ _
    (λ v h. subst (λ (q : Summands). StandsUnder vars (g.K.MonomialKeys.keys c.times_list.new.keys) c.times_list.new.arena v (product_of base q)) stored.terms h)
    c.times_list.ensures.chain

pub returns-clause-ticks : goal.returns-clause-ticks
returns-clause-ticks g c =
    let vars = c.args.setting.now.vars.now in
    let stored = c.list_of_factor-list.ensures (g.K.MonomialKeys.keys c.args.keys.now) c.requires.set in
    let list = c.list_of_factor-list.result.now in
    let size = length (pairs_of c.args.arena.now c.args.chain) in
    let long = sym (length-map {B = Powers × ℤ} list (term_under vars (g.K.MonomialKeys.keys c.args.keys.now))) ∙ ap length stored.terms in
    omega (arith, c.times_list.ensures.ticks, ap (λ n. size * n) long)
