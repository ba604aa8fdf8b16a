use Rattle.std.proofs.Common.{◌≡◌, ℕ, ◌≤◌, List, map, length, take, get_or, sym, ap, subst, ◌∙◌, arith}
use Rattle.std.specs.Prelude.{Contains}
use Rattle.std.specs.BTreeSet.{insert_key}
use Rattle.std.specs.List.{fold}
use Rattle.std.specs.List.Sorted.{IsStrictlySortedBy}
use Rattle.std.proofs.lemmas.List.{map_more, take_all}
use Rattle.std.proofs.lemmas.List.Sums.{fold_push}
use Rattle.geo_poly.specs.declared.variables.Var.{Var}
use Rattle.geo_poly.specs.declared.variables.Var.TheVariants.{R}
use Rattle.geo_poly.specs.Variables.{var_cmp}
use Rattle.geo_poly.specs.Monomials.{Powers}
use Rattle.geo_poly.proofs.KnownVariables.{all_names, longer, names, with_names}
use Rattle.geo_poly.proofs.Unions.{fold_has, fold_keeps}
use Rattle.geo_poly.proofs.VariablesInOrder.{sorted-fold}
use Rattle.geo_poly.proofs.polynomial_variables.insert_variables.Goals as goal

pub loop-i-preserved : goal.loop-i-preserved
loop-i-preserved c =
    let m = c.args.powers.now in
    let i = c.loop-i.i in
    let old = c.args.variables.now.keys in
    let none : Var × ℕ = (R (record { 0 = 0 }) (record { 0 = 0 }) (record { 0 = 0 }) (record { 0 = 0 }), 0) in
    c.in_ok-insert_unless.ensures
    ∙ ap (λ (vs : List Var). insert_key var_cmp vs (get_or m i none).0) c.loop-i.invariant
    ∙ sym (fold_push (insert_key var_cmp) old (map (λ (p : Var × ℕ). p.0) (take i m)) (get_or m i none).0)
    ∙ sym (ap (λ (vs : List Var). fold (insert_key var_cmp) old vs) (map_more (λ (p : Var × ℕ). p.0) m i none c.loop-i-test.true))

pub insert_unless-requires-clause-rising : goal.insert_unless-requires-clause-rising
insert_unless-requires-clause-rising c =
    subst (λ (vs : List Var). IsStrictlySortedBy var_cmp vs) (sym c.loop-i.invariant) (sorted-fold c.args.variables.now.keys (names (take c.loop-i.i c.args.powers.now)) c.requires.rising)

pub insert_unless-requires-clause-former : goal.insert_unless-requires-clause-former
insert_unless-requires-clause-former c =
    longer c.args.variables.now.keys c.loop-i.variables.keys c.args.former.now
    (λ v h. subst (λ (vs : List Var). Contains vs v) (sym c.loop-i.invariant) (fold_keeps c.args.variables.now.keys (names (take c.loop-i.i c.args.powers.now)) v h))
    c.requires.former

pub returns-clause-known : goal.returns-clause-known
returns-clause-known c =
    let m = c.args.powers.now in
    let old = c.args.variables.now.keys in
    let over : length c.args.powers.now ≤ c.loop-i.i = omega (arith, c.loop-i-test.false) in
    let whole : c.loop-i.variables.keys ≡ with_names c.args.variables.now.keys c.args.powers.now = c.loop-i.invariant
    ∙ ap (λ (p : Powers). with_names c.args.variables.now.keys p) (take_all c.loop-i.i m over) in
    all_names c.loop-i.variables.keys m (λ v h. subst (λ (vs : List Var). Contains vs v) (sym whole) (fold_has old (names m) v h))
