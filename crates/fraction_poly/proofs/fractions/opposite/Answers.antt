use Rattle.std.proofs.Common.{◌≡◌, Ok, ap, ◌∙◌}
use Rattle.std.proofs.lemmas.Result.{IfOk-at_ok, IfOk-weaker}
use Rattle.geo_poly.specs.Polynomials.{Summands, difference_of, negated}
use Rattle.fraction_poly.proofs.Opposites.{difference_of-zero}
use Rattle.fraction_poly.proofs.fractions.opposite.Goals as goal

pub returns : goal.returns
returns c =
    let p = c.args.poly.now in
    IfOk-weaker c.within_bounds.result (λ (q : Summands). c.sub.result ≡ Ok q) (λ q. q ≡ negated p)
    (λ q is. IfOk-at_ok (λ r. r ≡ difference_of c.zero.result p) is c.sub.ensures.difference
    ∙ ap (λ (z : Summands). difference_of z p) c.zero.ensures ∙ difference_of-zero p c.is_valid.ensures.valid)
    c.within_bounds.ensures
