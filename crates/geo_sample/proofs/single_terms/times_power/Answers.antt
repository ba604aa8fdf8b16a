use Rattle.std.proofs.Common.{◌≡◌, ℤ, ◌*ℤ◌, FitsSigned, sym, ap, subst, ◌∙◌}
use Rattle.std.specs.Int.{w128, int_pow}
use Rattle.std.proofs.lemmas.Int.{to_z-of_z}
use Rattle.geo_poly.proofs.ProductLaws.{coded_product_is, product_is_kept}
use Rattle.geo_poly.proofs.SpecialisedLaws.{power_fits, multiple_fits}
use Rattle.geo_sample.proofs.single_terms.times_power.Goals as goal

pub pow-requires : goal.pow-requires
pow-requires c = rw (to_z-of_z w128 c.args.z c.ranges.z) (power_fits c.args.c c.args.z c.args.e c.requires.nonzero c.requires.fits)

pub overflow_mul-result : goal.overflow_mul-result
overflow_mul-result c =
    let power : c.pow.result ≡ int_pow c.args.z c.args.e = rw (to_z-of_z w128 c.args.z c.ranges.z) at c.pow.ensures in
    let right : FitsSigned w128 c.pow.result = subst (FitsSigned w128) (sym power) (power_fits c.args.c c.args.z c.args.e c.requires.nonzero c.requires.fits) in
    let both : FitsSigned w128 (c.args.c *ℤ c.pow.result) = subst (λ (x : ℤ). FitsSigned w128 (c.args.c *ℤ x)) (sym power) (multiple_fits c.args.c c.args.z c.args.e c.requires.fits) in
    subst (FitsSigned w128) (sym (coded_product_is c.args.c c.pow.result c.ranges.c right)) both

pub returns : goal.returns
returns c =
    let power : c.pow.result ≡ int_pow c.args.z c.args.e = rw (to_z-of_z w128 c.args.z c.ranges.z) at c.pow.ensures in
    let right : FitsSigned w128 c.pow.result = subst (FitsSigned w128) (sym power) (power_fits c.args.c c.args.z c.args.e c.requires.nonzero c.requires.fits) in
    let both : FitsSigned w128 (c.args.c *ℤ c.pow.result) = subst (λ (x : ℤ). FitsSigned w128 (c.args.c *ℤ x)) (sym power) (multiple_fits c.args.c c.args.z c.args.e c.requires.fits) in
    product_is_kept c.args.c c.pow.result c.ranges.c right both ∙ ap (λ (x : ℤ). c.args.c *ℤ x) power
