use Rattle.std.proofs.Common.{◌∙◌, Contains, subst, sym}
use Rattle.geo_poly.specs.Polynomials.{Summands}
use Rattle.geo_poly.specs.PolynomialVariables.{AllVariables}
use Rattle.poly_tests.proofs.polynomials.replacement_in_arena.Goals as goal

pub replace_chain-requires-clause-rows_known : goal.replace_chain-requires-clause-rows_known
replace_chain-requires-clause-rows_known g c =
    let known = c.vars-vars.ensures.known c.args.poly.now c.deref.ensures in
    let same = c.piece.ensures.poly ∙ c.in_ok-copy.ensures in
    (subst (λ (p : Summands). AllVariables (Contains c.vars-vars.result.now) p) (sym same) known, record {})
