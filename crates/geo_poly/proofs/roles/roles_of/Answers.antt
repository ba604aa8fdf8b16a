use Rattle.std.proofs.Common.{rules}
use Rattle.geo_poly.proofs.RoleWalks.{roles_push}
use Rattle.geo_poly.proofs.roles.roles_of.Goals as goal

pub loop-v-preserved : goal.loop-v-preserved
loop-v-preserved c = record {
  whole = search rules;
  each =
      roles_push c.args.rows.now c.args.vars.now c.args.former.now c.loop-v.roles.items c.push.new.self.items c.loop-v.v-index c.role_of-role.result
      c.in_ok-push.ensures.items c.loop-v.invariant.whole c.role_of-role.ensures c.loop-v.invariant.each;
}
