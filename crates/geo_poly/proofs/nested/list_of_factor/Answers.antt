use Rattle.std.proofs.Common.{arith}
use Rattle.geo_poly.proofs.MultipliedIn.{stored_first, stored_past, stored_there}
use Rattle.geo_poly.proofs.nested.list_of_factor.Goals as goal
use Rattle.geo_poly.proofs.nested.list_of_factor.Goals.{then-factor-eq0-via-then-factor-eq0, then-factor-eq0-via-else-factor-eq0+then-factor-setting}

pub returns-then-factor-eq0 : goal.returns-then-factor-eq0
returns-then-factor-eq0 c = λ keys set. elim c.then-factor-eq0.branch [
  | then-factor-eq0-via-then-factor-eq0 w ↦ stored_first c.args.setting.now keys set c.args.factor (omega (arith, w.if-factor-eq0.true))
  | then-factor-eq0-via-else-factor-eq0+then-factor-setting w ↦ stored_past c.args.setting.now keys set c.args.factor (omega (arith, w.if-factor-setting.true))
]

pub returns : goal.returns
returns c = λ keys set. stored_there c.args.setting.now keys set c.args.factor c.list_at.result.now (omega arith) c.list_at.ensures
