use Rattle.std.proofs.Common.{◌≡◌, true, false, arith, rules}
use Rattle.std.proofs.lemmas.Option.{slice_get-get_or}
use Rattle.geo_chain.proofs.FirstVariables.{first_at, none_at, one_more}
use Rattle.geo_chain.proofs.first.first_listed.Goals as goal

pub returns-then-fits-clause-some : goal.returns-then-fits-clause-some
returns-then-fits-clause-some c =
    let vs = c.args.variables.now in
    let fitted : c.fits.result ≡ true = search rules in
    first_at c.args.sought vs c.loop-v.v-index _ c.requires (slice_get-get_or vs c.loop-v.v-index _ c.loop-v-test.true) (c.fits.ensures.0 fitted) c.loop-v.invariant

pub loop-v-preserved : goal.loop-v-preserved
loop-v-preserved c =
    let vs = c.args.variables.now in
    let unfit : c.fits.result ≡ false = search rules in
    one_more c.args.sought vs c.loop-v.v-index _ (slice_get-get_or vs c.loop-v.v-index _ c.loop-v-test.true)
    (λ f. let fitted = c.fits.ensures.1 f in absurd (cc)) c.loop-v.invariant

pub returns-clause-none : goal.returns-clause-none
returns-clause-none c = none_at c.args.sought c.args.variables.now c.loop-v.v-index (omega (arith, c.loop-v-test.false)) c.loop-v.invariant
