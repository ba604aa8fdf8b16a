use Rattle.std.proofs.Common.{◌≡◌, ◌+◌, ◌++◌, List, [], ◌∷◌, drop, sym, subst, rules}
use Rattle.sparse_lists.proofs.Merging.{get_or_any}
use Rattle.geo_poly.specs.declared.variables.Var.{Var}
use Rattle.geo_poly.specs.declared.variables.Var.TheVariants.{R}
use Rattle.geo_poly.specs.Inner.Visits.{marked}
use Rattle.geo_poly.specs.Shared.{var_at}
use Rattle.geo_poly.proofs.MarkedVariables.{marked_push, marked_skip}
use Rattle.geo_poly.proofs.polynomial_variables.marked_variables.Goals as goal
use Rattle.geo_poly.proofs.polynomial_variables.marked_variables.Goals.{then-known-i+in_ok-push, else-known-i}

pub loop-i-preserved : goal.loop-i-preserved
loop-i-preserved c =
    let vars = c.args.vars.now in
    let known = c.args.known.now in
    let i = c.loop-i.i in
    let old = c.loop-i.found.items in
    let whole = marked c.args.vars.now c.args.known.now in
    let left = marked (drop (i + 1) vars) (drop (i + 1) known) in
    let v = var_at c.args.vars.now c.loop-i.i in
    let same = get_or_any vars i (R (record { 0 = 0 }) (record { 0 = 0 }) (record { 0 = 0 }) (record { 0 = 0 })) v c.loop-i-test.true in
    elim c.if-known-i.branch [
      | then-known-i+in_ok-push w ↦
          let grown : c.if-known-i.found.items ≡ c.loop-i.found.items ++ var_at c.args.vars.now c.loop-i.i ∷ [] = search rules in
          subst (λ (vs : List Var). vs ++ left ≡ whole) (sym grown)
          (marked_push vars known i c.loop-i-test.true c.requires old whole c.loop-i.invariant v same w.if-known-i.true)
      | else-known-i w ↦
          let same_found : c.if-known-i.found.items ≡ c.loop-i.found.items = search rules in
          subst (λ (vs : List Var). vs ++ left ≡ whole) (sym same_found)
          (marked_skip vars known i c.loop-i-test.true c.requires old whole c.loop-i.invariant w.if-known-i.false)
    ]
