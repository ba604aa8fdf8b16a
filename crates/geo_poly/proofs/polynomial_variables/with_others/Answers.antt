use Rattle.std.proofs.Common.{List, subst}
use Rattle.std.specs.Prelude.{Contains}
use Rattle.geo_poly.specs.declared.variables.Var.{Var}
use Rattle.geo_poly.proofs.polynomial_variables.with_others.Goals as goal

pub returns-then-has_all-clause-others : goal.returns-then-has_all-clause-others
returns-then-has_all-clause-others c = λ v stands.
    subst (λ (vs : List Var). Contains vs v) c.as_slice.ensures (c.has_all.ensures c.if-has_all.true v stands)
