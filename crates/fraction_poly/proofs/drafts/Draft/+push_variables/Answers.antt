use Rattle.std.proofs.Common.{subst}
use Rattle.std.specs.Prelude.{Contains, Err, Ok, OnOk, Result}
use Rattle.std.proofs.lemmas.Result.{on_ok_weaker}
use Rattle.fraction_poly.specs.declared.drafts.Combination.{Combination}
use Rattle.fraction_poly.specs.declared.step_numbers.StepNumber.{StepNumber}
use Rattle.fraction_poly.specs.Inner.Drafts.{AllLeaves, by_number}
use Rattle.fraction_poly.proofs.Leaves.{leaves_longer}
use Rattle.geo_poly.specs.PolynomialVariables.{AllVariables}
use Rattle.fraction_poly.proofs.drafts.Draft.+push_variables.Goals as goal

pair : {T E : Type 0} (r : Result T E) (P Q : Type 0) → OnOk r P → OnOk r Q → OnOk r (P × Q)
pair (Ok x) P Q p q = (p, q)
pair (Err e) P Q p q = tt

pub returns-in_ok-push_variables-in-Combined-clause-known : goal.returns-in_ok-push_variables-in-Combined-clause-known
returns-in_ok-push_variables-in-Combined-clause-known t c =
    let n = (by_number c.args.first.now c.args.second.now) in
    let middle = c.push_variables.new.variables.items in
    let new = c.push_variables-in-Combined.new.variables.items in
    rw c.in-Combined.is (on_ok_weaker c.push_variables-in-Combined.result
    (λ both. (
      subst (λ (d : Combination). AllLeaves (Contains new) n d.left) c.deref.ensures (leaves_longer middle new n both.1 c.deref.result.now.left c.in_ok-push_variables-in-Combined.ensures.known),
      subst (λ (d : Combination). AllLeaves (Contains new) n d.right) c.deref-in-Combined.ensures both.0,
    ))
    (pair c.push_variables-in-Combined.result _ _ c.push_variables-in-Combined.ensures.known c.push_variables-in-Combined.ensures.kept))

pub returns-in_ok-push_variables-in-Combined-clause-kept : goal.returns-in_ok-push_variables-in-Combined-clause-kept
returns-in_ok-push_variables-in-Combined-clause-kept t c =
    on_ok_weaker c.push_variables-in-Combined.result (λ kept v stands. kept v (c.in_ok-push_variables-in-Combined.ensures.kept v stands)) c.push_variables-in-Combined.ensures.kept

pub returns-in-Numerator-clause-known : goal.returns-in-Numerator-clause-known
returns-in-Numerator-clause-known t c =
    let new = c.push_all_of.new.variables.items in
    rw c.in-Numerator.is (subst (λ (n : StepNumber). OnOk c.push_all_of.result (AllVariables (Contains new) n.num.poly)) c.of.ensures c.push_all_of.ensures.known)

pub returns-in-Denominator-clause-known : goal.returns-in-Denominator-clause-known
returns-in-Denominator-clause-known t c =
    let new = c.push_all_of-in-Denominator.new.variables.items in
    rw c.in-Denominator.is
    (subst (λ (n : StepNumber). OnOk c.push_all_of-in-Denominator.result (AllVariables (Contains new) n.den.poly)) c.of-in-Denominator.ensures c.push_all_of-in-Denominator.ensures.known)
