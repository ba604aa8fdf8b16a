use Rattle.std.proofs.Common.{◌++◌, Option, append-nil, sym, ◌∙◌, ap, Vec, Global}
use Rattle.std.specs.Option.{option_to_list}
use Rattle.std.proofs.lemmas.List.{drop_all}
use Rattle.geo_poly.specs.declared.variables.Var.{Var}
use Rattle.geo_library.proofs.KnownVariables.{all_known, goes_on}
use Rattle.geo_library.proofs.figures.known_variables.Goals as goal
use Rattle.geo_library.proofs.figures.known_variables.Goals.{in-Some+in_ok-push, in_default}

pub loop-item-preserved : goal.loop-item-preserved
loop-item-preserved c =
    let vars = c.loop-item.vars.items in
    let known = c.known_by.result in
    goes_on c.args.steps.now.nodes c.args.items.now c.loop-item.item-index c.item-item.result vars c.match-known_by.vars.items known c.loop-item-test.true c.item-item.is c.loop-item.invariant
    c.known_by.ensures
    (elim c.match-known_by.branch [
      | in-Some+in_ok-push w ↦
          ap (λ (v : Vec Var Global). v.items) w.vars-is ∙ w.in_ok-push.ensures.items ∙ ap (λ (o : Option Var). vars ++ option_to_list o) (sym w.in-Some.is)
      | in_default w ↦
          ap (λ (v : Vec Var Global). v.items) w.vars-is ∙ sym (append-nil vars) ∙ ap (λ (o : Option Var). vars ++ option_to_list o) (sym w.in_default.is)
    ])

pub returns : goal.returns
returns c =
    all_known c.args.steps.now.nodes c.args.items.now _ c.loop-item.vars.items (drop_all c.loop-item.item-index c.args.items.now c.loop-item-test.false) c.loop-item.invariant
