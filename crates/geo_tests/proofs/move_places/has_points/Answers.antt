use Rattle.std.proofs.Common.{◌≡◌, ◌∙◌, All, List, length, subst, ℕ}
use Rattle.std.proofs.lemmas.List.Elements.{All-contains}
use Rattle.fraction_poly.specs.TableRows.{HasPointsBelow}
use Rattle.geo_poly.specs.declared.variables.Var.{Var}
use Rattle.geo_poly.specs.PolynomialVariables.{AllVariables, variables_of}
use Rattle.geo_poly.proofs.EachVariable.{all_variables}
use Rattle.geo_tests.proofs.move_places.has_points.Goals as goal

pub returns : goal.returns
returns c =
    let P = HasPointsBelow c.count-count.result in
    let q = c.args.poly.now in
    let vs : c.deref.result.now ≡ variables_of q = c.deref.ensures.value ∙ c.variables-2.view_is ∙ c.in_ok-variables.ensures.variables in
    let count : c.count-count.result ≡ length c.args.steps.now.steps = c.count-count.ensures.count in
    λ below. subst (λ (n : ℕ). AllVariables (HasPointsBelow n) q) count
    (all_variables P q (λ v has. All-contains P (variables_of q) v (subst (λ (vs : List Var). All P vs) vs (c.are_below.ensures below)) has))
