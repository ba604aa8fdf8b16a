use Rattle.std.proofs.Common.{refl, arith}
use Rattle.geo_poly.proofs.poly.Poly.test_replacement.Goals as goal

pub returns-then-weight_of_terms-clause-norm : goal.returns-then-weight_of_terms-clause-norm
returns-then-weight_of_terms-clause-norm c =
    let w = rw (c.most_denominators_of-top.ensures, c.new-table.ensures, c.shared.ensures.terms) at c.weight_of_terms.ensures in
    (λ _. omega (arith, w, c.if-weight_of_terms.true), λ _. refl)

pub returns-then-weight_of_terms-clause-degree : goal.returns-then-weight_of_terms-clause-degree
returns-then-weight_of_terms-clause-degree c =
    let w = rw (c.most_denominators_of-top.ensures, c.new-table.ensures, c.shared.ensures.terms) at c.weight_of_terms.ensures in
    (λ e. absurd (cc), λ h. absurd (omega (arith, w, c.if-weight_of_terms.true, h.0)))

pub returns-then-degree_of_terms-clause-norm : goal.returns-then-degree_of_terms-clause-norm
returns-then-degree_of_terms-clause-norm c =
    let w = rw (c.most_denominators_of-top.ensures, c.new-table.ensures, c.shared.ensures.terms) at c.weight_of_terms.ensures in
    (λ e. absurd (cc), λ h. absurd (omega (arith, w, c.if-weight_of_terms.false, h)))

pub returns-then-degree_of_terms-clause-degree : goal.returns-then-degree_of_terms-clause-degree
returns-then-degree_of_terms-clause-degree c =
    let w = rw (c.most_denominators_of-top.ensures, c.new-table.ensures, c.shared.ensures.terms) at c.weight_of_terms.ensures in
    let d = rw (c.most_denominators_of-top.ensures, c.new-table.ensures, c.shared.ensures.terms) at c.degree_of_terms.ensures in
    (λ _. (omega (arith, w, c.if-weight_of_terms.false), omega (arith, d, c.if-degree_of_terms.true)), λ _. refl)

pub returns-clause-norm : goal.returns-clause-norm
returns-clause-norm c =
    let w = rw (c.most_denominators_of-top.ensures, c.new-table.ensures, c.shared.ensures.terms) at c.weight_of_terms.ensures in
    (λ e. absurd (cc), λ h. absurd (omega (arith, w, c.if-weight_of_terms.false, h)))

pub returns-clause-degree : goal.returns-clause-degree
returns-clause-degree c =
    let d = rw (c.most_denominators_of-top.ensures, c.new-table.ensures, c.shared.ensures.terms) at c.degree_of_terms.ensures in
    (λ e. absurd (cc), λ h. absurd (omega (arith, d, c.if-degree_of_terms.false, h.1)))
