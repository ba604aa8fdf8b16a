use Rattle.std.proofs.Common.{◌≡◌, ◌∙◌, ◌∷◌, ◌++◌, [], Bool, List, true, false, not, ap, refl, rules}
use Rattle.std.specs.List.{list_any}
use Rattle.std.specs.Ordering.{eq_by_cmp}
use Rattle.geo_conditions.specs.contracts.conditions.ConditionOrd.TheImpl.{cmp-value}
use Rattle.geo_conditions.specs.declared.conditions.Condition.{Condition}
use Rattle.geo_conditions.specs.declared.conditions.ListedCondition.{ListedCondition}
use Rattle.geo_conditions.proofs.KeptConditions.{adds_known, adds_new}
use Rattle.geo_conditions.proofs.condition_list.ConditionList.add.Goals as goal

-- the derived order tells what differs apart
same : (x y : Condition) → eq_by_cmp (cmp-value).it x y ≡ true → x ≡ y
same x y e = search rules

self : (x : Condition) → eq_by_cmp (cmp-value).it x x ≡ true
self x = search rules

denied : (a b : Bool) → a ≡ not b → a ≡ true → b ≡ false
denied a b e h = search rules

met : (a b : Bool) → a ≡ not b → a ≡ false → b ≡ true
met a b e h = search rules

pub returns-in_ok-push-clause-lists : goal.returns-in_ok-push-clause-lists
returns-in_ok-push-clause-lists c =
    let none : list_any (eq_by_cmp (cmp-value).it c.args.condition) c.args.self.now.known ≡ false = denied _ _ c.in_ok-insert.ensures.added c.if-branch.true in
    let listed : ListedCondition = record { condition = c.args.condition; line = c.args.line } in
    let items = c.in_ok-push.ensures.items ∙ ap (λ (all : List ListedCondition). all ++ listed ∷ []) c.in_ok-reserve.ensures.items in
    adds_new c.args.terms.now (eq_by_cmp (cmp-value).it) same self c.args.self.now _ c.args.condition c.args.line c.requires.list c.requires.kept none c.in_ok-insert.ensures.keys items refl

pub returns-else-branch-clause-lists : goal.returns-else-branch-clause-lists
returns-else-branch-clause-lists c =
    let there : list_any (eq_by_cmp (cmp-value).it c.args.condition) c.args.self.now.known ≡ true = met _ _ c.in_ok-insert.ensures.added c.if-branch.false in
    adds_known c.args.terms.now (eq_by_cmp (cmp-value).it) same self c.args.self.now _ c.args.condition c.args.line c.requires.list there c.in_ok-insert.ensures.keys c.in_ok-reserve.ensures.items refl
