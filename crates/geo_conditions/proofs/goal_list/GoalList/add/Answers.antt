use Rattle.std.proofs.Common.{◌≡◌, ◌∙◌, true, refl, rules}
use Rattle.std.specs.Ordering.{eq_by_cmp}
use Rattle.geo_program.specs.contracts.statements.StatementPartialEq.TheImpl.{eq-value}
use Rattle.geo_program.specs.contracts.statements.StatementOrd.TheImpl.{cmp-value}
use Rattle.geo_program.specs.contracts.statements.StatementOrd.TheImpl.Laws.{matches_eq-law}
use Rattle.geo_program.specs.declared.statements.Statement.{Statement}
use Rattle.geo_conditions.proofs.KeptGoals.{adds}
use Rattle.geo_conditions.proofs.goal_list.GoalList.add.Goals as goal

-- the derived `==` is equality
equal : (x y : Statement) → (eq-value).it x y ≡ true → x ≡ y
equal x y e = search rules

-- so the derived order tells what differs apart
same : (x y : Statement) → eq_by_cmp (cmp-value).it x y ≡ true → x ≡ y
same x y e = equal x y (matches_eq-law x y ∙ e)

self : (x : Statement) → eq_by_cmp (cmp-value).it x x ≡ true
self x = search rules

pub returns : goal.returns
returns c = adds c.args.terms.now (eq_by_cmp (cmp-value).it) same self c.args.self.now _ c.args.goal c.requires.list c.in_ok-insert.ensures.keys refl
