use Rattle.std.proofs.Common.{◌≡◌, List, ℕ, ◌++◌, append_assoc, get_or, replicate, take, sym, ap, ◌∙◌}
use Rattle.sparse_lists.proofs.Merging.{get_or_any}
use Rattle.geo_poly.specs.declared.pending.FactorPower.{FactorPower}
use Rattle.geo_poly.specs.Inner.Factored.{factors_listed}
use Rattle.geo_poly.proofs.FactorWalks.{factors_listed-push}
use Rattle.geo_poly.proofs.Told.{take_more}
use Rattle.geo_poly.proofs.pending.push_factors.Goals as goal

abbrev none : FactorPower
none = record { factor = 0; exponent = 0 }

pub loop-power-preserved : goal.loop-power-preserved
loop-power-preserved c =
    let old = c.args.factors.now.items in
    let fs = c.args.numerators.now in
    let i = c.loop-power.power-index in
    let f = get_or fs i none in
    let at : f ≡ get_or fs i f = get_or_any fs i none f c.loop-power-test.true in
    let zeros = replicate c.args.lacking 0 in
    let before = factors_listed (take i fs) in
    let here = replicate f.exponent f.factor in
    let more = ap factors_listed (take_more fs i f c.loop-power-test.true at) ∙ factors_listed-push (take i fs) f in
    c.in_ok-push_factor-2.ensures ∙ ap (λ (xs : List ℕ). xs ++ here) c.loop-power.invariant ∙ append_assoc old (zeros ++ before) here
    ∙ ap (λ (xs : List ℕ). old ++ xs) (append_assoc zeros before here ∙ ap (λ (xs : List ℕ). zeros ++ xs) (sym more))
