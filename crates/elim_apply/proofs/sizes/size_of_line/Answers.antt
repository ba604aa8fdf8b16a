use Rattle.std.proofs.Common.{subst, ap, ◌∙◌}
use Rattle.geo_logs.specs.Moves.{move_charge}
use Rattle.geo_poly.specs.Polynomials.{Summands}
use Rattle.geo_poly.specs.Replace.{most_denominators, replaced_degree, replaced_weight}
use Rattle.elim_apply.specs.Inner.Sizes.{IsSizeOf}
use Rattle.elim_apply.specs.Inner.Sketches.{sketch, sketched_denominator, sketches}
use Rattle.elim_apply.proofs.sizes.size_of_line.Goals as goal

pub returns-clause-size : goal.returns-clause-size
returns-clause-size c =
    let rows = sketches c.args.rows.now in
    let den = sketched_denominator c.args.den in
    subst (λ (q : Summands). IsSizeOf c.size_by_terms.result (move_charge (sketch c.args.rows.now c.args.den) q) (replaced_weight rows den q) (replaced_degree rows den q))
    c.shared-p.ensures.terms c.size_by_terms.ensures.size

pub returns-clause-top : goal.returns-clause-top
returns-clause-top c =
    c.size_by_terms.ensures.top ∙ ap (λ (q : Summands). most_denominators (sketches c.args.rows.now) q) c.shared-p.ensures.terms
