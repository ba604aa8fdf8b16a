use Rattle.std.proofs.Common.{ℕ, ◌/◌, length, sym, subst, rules, arith}
use Rattle.std.proofs.lemmas.Result.{IfOk-weaker}
use Rattle.geo_poly.specs.Chained.{StandsUnder}
use Rattle.geo_poly.specs.Polynomials.{Summands, product_of}
use Rattle.geo_poly.specs.Inner.Keyed.{terms_under}
use Rattle.geo_poly.proofs.ChainHalves.{back_fits, back_later, back_reach, first_order, front_fits, front_in, front_reach, norms_fit, right_later, second_order, stands_first, whole}
use Rattle.geo_poly.proofs.LoneTerms.{multiples_of_lone}
use Rattle.geo_poly.proofs.TickBounds.{halves_products}
use Rattle.geo_poly.proofs.chained.+chain_by_halves.Goals as goal

pub chain_by_halves-requires : goal.chain_by_halves-requires
chain_by_halves-requires g t c =
    λ κs below. (
      search rules,
      (
        below.0,
        (
          below.1,
          (
            c.requires.rising,
            (
              front_in c.args.vars.now (g.K.MonomialKeys.keys c.args.keys.now) c.args.left.now c.args.right.now
                  (length c.args.left.now / 2) c.split_at.result.0.now c.split_at.result.1.now c.split_at.ensures.front c.split_at.ensures.back
                  c.requires.left c.requires.right c.requires.fits,
              (
                c.requires.right,
                (
                  front_fits c.args.vars.now (g.K.MonomialKeys.keys c.args.keys.now) c.args.left.now c.args.right.now
                      (length c.args.left.now / 2) c.split_at.result.0.now c.split_at.result.1.now c.split_at.ensures.front c.split_at.ensures.back
                      c.requires.left c.requires.right c.requires.fits,
                  front_reach c.args.vars.now (g.K.MonomialKeys.keys c.args.keys.now) c.args.left.now c.args.right.now
                      (length c.args.left.now / 2) c.split_at.result.0.now c.split_at.result.1.now c.split_at.ensures.front c.split_at.ensures.back
                      c.requires.left c.requires.right c.requires.fits c.requires.reach,
                ),
              ),
            ),
          ),
        ),
      ),
    )

pub chain_by_halves-requires-in_default : goal.chain_by_halves-requires-in_default
chain_by_halves-requires-in_default g t c =
    λ κs below. (
      search rules,
      (
        below.0,
        (
          below.1,
          (
            c.requires.rising,
            (
              back_later c.args.vars.now (g.K.MonomialKeys.keys c.args.keys.now) c.args.left.now c.args.right.now
                  (length c.args.left.now / 2) c.split_at.result.0.now c.split_at.result.1.now c.split_at.ensures.front c.split_at.ensures.back
                  c.requires.left c.requires.right c.requires.fits (g.K.MonomialKeys.keys c.chain_by_halves.new.keys) c.in_ok-sum-in_default.ensures.kept,
              (
                right_later c.args.vars.now (g.K.MonomialKeys.keys c.args.keys.now) c.args.left.now c.args.right.now
                    (length c.args.left.now / 2) c.split_at.result.0.now c.split_at.result.1.now c.split_at.ensures.front c.split_at.ensures.back
                    c.requires.left c.requires.right c.requires.fits (g.K.MonomialKeys.keys c.chain_by_halves.new.keys) c.in_ok-sum-in_default.ensures.kept,
                (
                  back_fits c.args.vars.now (g.K.MonomialKeys.keys c.args.keys.now) c.args.left.now c.args.right.now
                      (length c.args.left.now / 2) c.split_at.result.0.now c.split_at.result.1.now c.split_at.ensures.front c.split_at.ensures.back
                      c.requires.left c.requires.right c.requires.fits (g.K.MonomialKeys.keys c.chain_by_halves.new.keys) c.in_ok-sum-in_default.ensures.kept,
                  back_reach c.args.vars.now (g.K.MonomialKeys.keys c.args.keys.now) c.args.left.now c.args.right.now
                      (length c.args.left.now / 2) c.split_at.result.0.now c.split_at.result.1.now c.split_at.ensures.front c.split_at.ensures.back
                      c.requires.left c.requires.right c.requires.fits (g.K.MonomialKeys.keys c.chain_by_halves.new.keys) c.in_ok-sum-in_default.ensures.kept c.requires.reach,
                ),
              ),
            ),
          ),
        ),
      ),
    )

pub summed-requires-clause-left_keys : goal.summed-requires-clause-left_keys
summed-requires-clause-left_keys g t c =
    (stands_first c.args.vars.now (g.K.MonomialKeys.keys c.args.keys.now) c.args.left.now c.args.right.now
    (length c.args.left.now / 2) c.split_at.result.0.now c.split_at.result.1.now c.split_at.ensures.front c.split_at.ensures.back
    c.requires.left c.requires.right c.requires.fits (g.K.MonomialKeys.keys c.chain_by_halves.new.keys) c.in_ok-sum-in_default.ensures.kept
    (g.K.MonomialKeys.keys c.chain_by_halves-in_default.new.keys) c.in-Ok.ensures.kept c.chain_by_halves.new.arena c.chain_by_halves-in_default.new.arena
    c.in_ok-sum-in_default.sum c.in-Ok.rest c.in_ok-sum-in_default.ensures.chain c.in-Ok.ensures.adds c.in-Ok.ensures.chain).keys

pub summed-requires-clause-left_order : goal.summed-requires-clause-left_order
summed-requires-clause-left_order g t c =
    first_order c.args.vars.now (g.K.MonomialKeys.keys c.args.keys.now) c.args.left.now c.args.right.now
    (length c.args.left.now / 2) c.split_at.result.0.now c.split_at.result.1.now c.split_at.ensures.front c.split_at.ensures.back
    c.requires.left c.requires.right c.requires.fits (g.K.MonomialKeys.keys c.chain_by_halves.new.keys) c.in_ok-sum-in_default.ensures.kept
    (g.K.MonomialKeys.keys c.chain_by_halves-in_default.new.keys) c.in-Ok.ensures.kept c.chain_by_halves.new.arena c.chain_by_halves-in_default.new.arena
    c.in_ok-sum-in_default.sum c.in-Ok.rest c.in_ok-sum-in_default.ensures.chain c.in-Ok.ensures.adds c.in-Ok.ensures.chain

pub summed-requires-clause-right_order : goal.summed-requires-clause-right_order
summed-requires-clause-right_order g t c =
    second_order c.args.vars.now (g.K.MonomialKeys.keys c.args.keys.now) c.args.left.now c.args.right.now
    (length c.args.left.now / 2) c.split_at.result.0.now c.split_at.result.1.now c.split_at.ensures.front c.split_at.ensures.back
    c.requires.left c.requires.right c.requires.fits (g.K.MonomialKeys.keys c.chain_by_halves.new.keys) c.in_ok-sum-in_default.ensures.kept
    (g.K.MonomialKeys.keys c.chain_by_halves-in_default.new.keys) c.in-Ok.ensures.kept c.chain_by_halves.new.arena c.chain_by_halves-in_default.new.arena
    c.in_ok-sum-in_default.sum c.in-Ok.rest c.in_ok-sum-in_default.ensures.chain c.in-Ok.ensures.adds c.in-Ok.ensures.chain

pub summed-requires-clause-fits : goal.summed-requires-clause-fits
summed-requires-clause-fits g t c =
    norms_fit c.args.vars.now (g.K.MonomialKeys.keys c.args.keys.now) c.args.left.now c.args.right.now
    (length c.args.left.now / 2) c.split_at.result.0.now c.split_at.result.1.now c.split_at.ensures.front c.split_at.ensures.back
    c.requires.left c.requires.right c.requires.fits (g.K.MonomialKeys.keys c.chain_by_halves.new.keys) c.in_ok-sum-in_default.ensures.kept
    (g.K.MonomialKeys.keys c.chain_by_halves-in_default.new.keys) c.in-Ok.ensures.kept c.chain_by_halves.new.arena c.chain_by_halves-in_default.new.arena
    c.in_ok-sum-in_default.sum c.in-Ok.rest c.in_ok-sum-in_default.ensures.chain c.in-Ok.ensures.adds c.in-Ok.ensures.chain

pub returns-in-len1-clause-chain : goal.returns-in-len1-clause-chain
returns-in-len1-clause-chain g t c =
    let vars = c.args.vars.now in
    let s = (g.K.MonomialKeys.keys c.args.keys.now) in
    IfOk-weaker c.multiples_chain.result _ _
    (λ v h. subst (λ (x : Summands). StandsUnder vars (g.K.MonomialKeys.keys c.multiples_chain.new.keys) c.multiples_chain.new.arena v x)
    (multiples_of_lone vars s c.args.left.now (omega arith) c.in-len1.len_below (terms_under vars s c.args.right.now) c.requires.fits) h)
    c.multiples_chain.ensures.chain

pub returns-in-Ok-clause-chain : goal.returns-in-Ok-clause-chain
returns-in-Ok-clause-chain g t c =
    let vars = c.args.vars.now in
    let s2 = (g.K.MonomialKeys.keys c.chain_by_halves-in_default.new.keys) in
    subst (λ (n : ℕ). StandsUnder vars s2 c.summed.new.arena n
    (product_of (terms_under vars (g.K.MonomialKeys.keys c.args.keys.now) c.args.left.now) (terms_under vars (g.K.MonomialKeys.keys c.args.keys.now) c.args.right.now)))
    (sym c.summed.ensures.chain)
    (subst (λ (p : Summands). StandsUnder vars s2 c.summed.new.arena c.in_ok-sum-in_default.sum p)
    (whole c.args.vars.now (g.K.MonomialKeys.keys c.args.keys.now) c.args.left.now c.args.right.now
    (length c.args.left.now / 2) c.split_at.result.0.now c.split_at.result.1.now c.split_at.ensures.front c.split_at.ensures.back
    c.requires.left c.requires.right c.requires.fits (g.K.MonomialKeys.keys c.chain_by_halves.new.keys) c.in_ok-sum-in_default.ensures.kept
    (g.K.MonomialKeys.keys c.chain_by_halves-in_default.new.keys) c.in-Ok.ensures.kept c.chain_by_halves.new.arena c.chain_by_halves-in_default.new.arena
    c.in_ok-sum-in_default.sum c.in-Ok.rest c.in_ok-sum-in_default.ensures.chain c.in-Ok.ensures.adds c.in-Ok.ensures.chain)
    c.summed.ensures.sum)

pub returns-in-Ok-clause-ticks : goal.returns-in-Ok-clause-ticks
returns-in-Ok-clause-ticks g t c =
    let whole = halves_products (length c.args.left.now / 2)
    (length c.args.right.now) c.args.left.now c.split_at.result.0.now c.split_at.result.1.now c.split_at.ensures.front
    c.split_at.ensures.back in
    omega (arith, whole, c.in_ok-sum-in_default.ensures.ticks, c.in-Ok.ensures.ticks)

pub returns-in-Err-clause-ticks : goal.returns-in-Err-clause-ticks
returns-in-Err-clause-ticks g t c =
    let whole = halves_products (length c.args.left.now / 2)
    (length c.args.right.now) c.args.left.now c.split_at.result.0.now c.split_at.result.1.now c.split_at.ensures.front
    c.split_at.ensures.back in
    omega (arith, whole, c.in_ok-sum-in_default.ensures.ticks, c.in-Err.ensures.ticks)
