use Rattle.std.proofs.Common.{◌≡◌, ℕ, ◌+◌, ◌-◌, ◌≤◌, ℤ, List, [], drop, get_or, length, sym, ap, subst, ◌∙◌, arith}
use Rattle.std.proofs.lemmas.List.{length-map}
use Rattle.poly_arena.specs.Chains.{pairs_of}
use Rattle.sparse_lists.proofs.Merging.{drop_past}
use Rattle.geo_poly.specs.Chained.{StandsUnder, keyed_term_under, keyed_terms_under}
use Rattle.geo_poly.specs.Inner.Factored.{piece_of, pieces_of, products_with, times_pieces}
use Rattle.geo_poly.specs.Monomials.{Powers}
use Rattle.geo_poly.specs.Polynomials.{CanMultiply, Summands, product_of}
use Rattle.geo_poly.proofs.ChainPowers.{StandsUnder-self}
use Rattle.geo_poly.proofs.ChainSwaps.{IsSetUnder-kept, Swaps-refl, Swaps-spent, Swaps-trans, on_err}
use Rattle.geo_poly.specs.Inner.Keyed.{AreInReach}
use Rattle.geo_poly.proofs.InReach.{AreInReach-kept}
use Rattle.geo_poly.proofs.KeysKept.{KeepsKeys-refl, KeepsKeys-trans}
use Rattle.geo_poly.proofs.MultipliedIn.{can_multiply, made_now, reaches, ticks_now, ticks_part}
use Rattle.geo_poly.proofs.nested.times_factors.Goals as goal

pub loop-i-init : goal.loop-i-init
loop-i-init g c =
    let setting = c.args.setting.now in
    let vars = setting.vars.now in
    let s = (g.K.MonomialKeys.keys c.args.keys.now) in
    let a = c.args.arena.now in
    let factors = c.args.factors.now in
    let base = keyed_terms_under vars s (pairs_of a c.args.chain) in
    let none : drop (length c.args.factors.now) c.args.factors.now ≡ [] = drop_past factors (length factors) (omega arith) in
    record {
      within = omega arith;
      kept = KeepsKeys-refl s;
      swaps = Swaps-refl a c.args.chain;
      chain = subst (λ (ks : List ℕ). StandsUnder vars s a c.args.chain
          (times_pieces (pieces_of setting.rows.now setting.den.piece.now ks) base)) (sym none)
          (StandsUnder-self vars s a c.args.chain c.requires.live c.requires.keys);
      ticks = omega arith;
    }

pub times_factor-requires-clause-set : goal.times_factor-requires-clause-set
times_factor-requires-clause-set g c = IsSetUnder-kept c.args.setting.now (g.K.MonomialKeys.keys c.args.keys.now) (g.K.MonomialKeys.keys c.loop-i.keys) c.loop-i.invariant.kept c.requires.set

pub times_factor-requires-clause-fits : goal.times_factor-requires-clause-fits
times_factor-requires-clause-fits g c =
    let setting = c.args.setting.now in
    let factors = c.args.factors.now in
    let base = keyed_terms_under setting.vars.now (g.K.MonomialKeys.keys c.args.keys.now) (pairs_of c.args.arena.now c.args.chain) in
    let q = (piece_of setting.rows.now setting.den.piece.now (get_or factors (c.loop-i.i - 1) 0)).poly in
    subst (λ (x : Summands). CanMultiply x q) (sym c.loop-i.invariant.chain.terms)
    (can_multiply setting (g.K.MonomialKeys.keys c.args.keys.now) c.requires.set factors base c.requires.in_order c.requires.monomials c.requires.norm
    c.requires.degree c.loop-i.i c.loop-i-test.true c.loop-i.invariant.within)

pub times_factor-requires-clause-reach : goal.times_factor-requires-clause-reach
times_factor-requires-clause-reach g c =
    let setting = c.args.setting.now in
    let s0 = g.K.MonomialKeys.keys c.args.keys.now in
    let s = g.K.MonomialKeys.keys c.loop-i.keys in
    let factors = c.args.factors.now in
    let base = keyed_terms_under setting.vars.now s0 (pairs_of c.args.arena.now c.args.chain) in
    let q = (piece_of setting.rows.now setting.den.piece.now (get_or factors (c.loop-i.i - 1) 0)).poly in
    subst (λ (x : Summands). AreInReach setting.vars.now s x q) (sym c.loop-i.invariant.chain.terms)
    (AreInReach-kept setting.vars.now s0 s (times_pieces (pieces_of setting.rows.now setting.den.piece.now (drop c.loop-i.i factors)) base) q c.loop-i.invariant.kept.limits
    (reaches setting s0 c.requires.set factors base c.requires.in_order c.requires.monomials c.requires.norm c.requires.degree
    c.loop-i.i c.loop-i-test.true c.loop-i.invariant.within c.requires.reach))

pub loop-i-preserved : goal.loop-i-preserved
loop-i-preserved g c =
    let setting = c.args.setting.now in
    let vars = setting.vars.now in
    let s0 = (g.K.MonomialKeys.keys c.args.keys.now) in
    let factors = c.args.factors.now in
    let base = keyed_terms_under vars s0 (pairs_of c.args.arena.now c.args.chain) in
    let before = c.loop-i.invariant in
    let made = c.in_ok-product in
    let q = (piece_of setting.rows.now setting.den.piece.now (get_or factors (c.loop-i.i - 1) 0)).poly in
    let n = length (pairs_of c.args.arena.now c.args.chain) in
    let base_size = length-map {B = Powers × ℤ} (pairs_of c.args.arena.now c.args.chain) (keyed_term_under vars s0) in
    let size = sym (length-map {B = Powers × ℤ} (pairs_of c.loop-i.arena c.loop-i.product) (keyed_term_under vars (g.K.MonomialKeys.keys c.loop-i.keys))) ∙ ap length before.chain.terms in
    record {
      within = omega (arith, before.within);
      kept = KeepsKeys-trans s0 (g.K.MonomialKeys.keys c.loop-i.keys) (g.K.MonomialKeys.keys c.times_factor.new.keys) before.kept made.ensures.kept;
      swaps = Swaps-trans c.args.arena.now c.loop-i.arena c.times_factor.new.arena c.args.chain c.loop-i.product made.product before.swaps made.ensures.swaps;
      chain =
          subst (λ (x : Summands). StandsUnder vars (g.K.MonomialKeys.keys c.times_factor.new.keys) c.times_factor.new.arena made.product x)
          (ap (λ (x : Summands). product_of x q) before.chain.terms
          ∙ made_now setting s0 c.requires.set factors base c.requires.in_order c.requires.monomials c.requires.norm c.requires.degree
          c.loop-i.i c.loop-i-test.true before.within)
          made.ensures.chain;
      ticks =
          ticks_now setting s0 c.requires.set factors base c.requires.in_order c.requires.monomials c.requires.norm c.requires.degree c.loop-i.i c.loop-i-test.true before.within n
          (length (pairs_of c.loop-i.arena c.loop-i.product)) c.args.ticks.now c.loop-i.ticks c.times_factor.new.ticks base_size size before.ticks made.ensures.ticks;
    }

pub returns-in_err-product-clause-err : goal.returns-in_err-product-clause-err
returns-in_err-product-clause-err g c =
    on_err c.from_residual.result _ (Swaps-spent c.args.arena.now c.loop-i.arena c.times_factor.new.arena c.args.chain c.loop-i.product c.loop-i.invariant.swaps c.in_err-product.ensures.err)

pub returns-in_err-product-clause-ticks : goal.returns-in_err-product-clause-ticks
returns-in_err-product-clause-ticks g c =
    let setting = c.args.setting.now in
    let vars = setting.vars.now in
    let s0 = (g.K.MonomialKeys.keys c.args.keys.now) in
    let factors = c.args.factors.now in
    let base = keyed_terms_under vars s0 (pairs_of c.args.arena.now c.args.chain) in
    let before = c.loop-i.invariant in
    let n = length (pairs_of c.args.arena.now c.args.chain) in
    let base_size = length-map {B = Powers × ℤ} (pairs_of c.args.arena.now c.args.chain) (keyed_term_under vars s0) in
    let size = sym (length-map {B = Powers × ℤ} (pairs_of c.loop-i.arena c.loop-i.product) (keyed_term_under vars (g.K.MonomialKeys.keys c.loop-i.keys))) ∙ ap length before.chain.terms in
    ticks_part setting s0 c.requires.set factors base c.requires.in_order c.requires.monomials c.requires.norm c.requires.degree c.loop-i.i
    c.loop-i-test.true before.within n c.args.ticks.now c.times_factor.new.ticks
    (ticks_now setting s0 c.requires.set factors base c.requires.in_order c.requires.monomials c.requires.norm c.requires.degree c.loop-i.i c.loop-i-test.true before.within n
    (length (pairs_of c.loop-i.arena c.loop-i.product)) c.args.ticks.now c.loop-i.ticks c.times_factor.new.ticks base_size size before.ticks c.in_err-product.ensures.ticks)

pub returns-clause-chain : goal.returns-clause-chain
returns-clause-chain g c =
    let setting = c.args.setting.now in
    let base = keyed_terms_under setting.vars.now (g.K.MonomialKeys.keys c.args.keys.now) (pairs_of c.args.arena.now c.args.chain) in
    let first : c.loop-i.i ≡ 0 = omega (arith, c.loop-i-test.false) in
    subst (λ (k : ℕ). StandsUnder setting.vars.now (g.K.MonomialKeys.keys c.loop-i.keys) c.loop-i.arena c.loop-i.product
    (times_pieces (pieces_of setting.rows.now setting.den.piece.now (drop k c.args.factors.now)) base)) first c.loop-i.invariant.chain

pub returns-clause-ticks : goal.returns-clause-ticks
returns-clause-ticks g c =
    let setting = c.args.setting.now in
    let n = length (pairs_of c.args.arena.now c.args.chain) in
    let first : c.loop-i.i ≡ 0 = omega (arith, c.loop-i-test.false) in
    subst (λ (k : ℕ). c.loop-i.ticks ≤ c.args.ticks.now + products_with (pieces_of setting.rows.now setting.den.piece.now (drop k c.args.factors.now)) n) first c.loop-i.invariant.ticks
