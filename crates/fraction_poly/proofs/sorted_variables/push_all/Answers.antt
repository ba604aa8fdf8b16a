use Rattle.std.proofs.Common.{List, sym, subst}
use Rattle.std.specs.Prelude.{Contains}
use Rattle.std.proofs.lemmas.List.Elements.{Contains-append_left, Contains-append_right}
use Rattle.geo_poly.specs.declared.variables.Var.{Var}
use Rattle.fraction_poly.proofs.sorted_variables.push_all.Goals as goal

pub returns-clause-known : goal.returns-clause-known
returns-clause-known c =
    λ v stands. subst (λ (vs : List Var). Contains vs v) (sym c.in_ok-extend_from_slice.ensures.items)
    (Contains-append_right c.args.variables.now.items c.args.more.now v stands)

pub returns-clause-kept : goal.returns-clause-kept
returns-clause-kept c =
    λ v stands. subst (λ (vs : List Var). Contains vs v) (sym c.in_ok-extend_from_slice.ensures.items)
    (Contains-append_left c.args.variables.now.items c.args.more.now v stands)
