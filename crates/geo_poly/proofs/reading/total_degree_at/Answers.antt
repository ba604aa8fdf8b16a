use Rattle.std.proofs.Common.{◌≡◌, ℕ, max, ap₂, ◌∙◌, sym, arith}
use Rattle.std.specs.Ordering.{nat_cmp, ord_max}
use Rattle.std.proofs.lemmas.Bool.Decides.{nat_tests}
use Rattle.geo_poly.specs.Shared.{told, told_term}
use Rattle.geo_poly.proofs.ProductLaws.{total_degree-more}
use Rattle.geo_poly.proofs.Told.{index_at, item, monomial_at, told-is, told-within}
use Rattle.geo_poly.proofs.reading.total_degree_at.Goals as goal

ord_max_is : (a b : ℕ) → ord_max nat_cmp a b ≡ max a b
ord_max_is a b = grind (arith, nat_tests)

pub degree_at-requires-clause-index : goal.degree_at-requires-clause-index
degree_at-requires-clause-index c = index_at c.args.p.now c.loop-id.id-index c.loop-id-test.true c.requires

pub degree_at-requires-clause-monomial : goal.degree_at-requires-clause-monomial
degree_at-requires-clause-monomial c = monomial_at c.args.p.now c.loop-id.id-index c.loop-id-test.true c.requires

pub loop-id-preserved : goal.loop-id-preserved
loop-id-preserved c =
    let p = c.args.p.now in
    let i = c.loop-id.id-index in
    c.max-degree.ensures ∙ ord_max_is c.loop-id.degree c.degree_at.result ∙ ap₂ max c.loop-id.invariant c.degree_at.ensures
    ∙ sym (total_degree-more (told p) i (told_term p (item p.list.now i)) (told-within p i c.loop-id-test.true) (told-is p i c.loop-id-test.true))
