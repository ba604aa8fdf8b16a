use Rattle.std.proofs.Common.{List, [], ◌∷◌, sym, subst}
use Rattle.std.specs.Prelude.{Contains}
use Rattle.std.proofs.lemmas.List.Elements.{Contains-append_left, Contains-push}
use Rattle.geo_poly.specs.declared.variables.Var.{Var}
use Rattle.fraction_poly.proofs.sorted_variables.push.Goals as goal

pub returns-clause-known : goal.returns-clause-known
returns-clause-known c =
    subst (λ (vs : List Var). Contains vs c.args.v) (sym c.in_ok-push.ensures.items) (Contains-push c.args.variables.now.items c.args.v)

pub returns-clause-kept : goal.returns-clause-kept
returns-clause-kept c =
    λ w stands. subst (λ (vs : List Var). Contains vs w) (sym c.in_ok-push.ensures.items)
    (Contains-append_left c.args.variables.now.items (c.args.v ∷ []) w stands)
