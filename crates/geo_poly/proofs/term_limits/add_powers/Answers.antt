use Rattle.std.proofs.Common.{ap, arith}
use Rattle.geo_poly.specs.Replace.{denominators}
use Rattle.geo_poly.specs.Shared.{told_powers}
use Rattle.geo_poly.proofs.RoleWalks.{missing_step, role_known, role_there}
use Rattle.geo_poly.proofs.TermLimits.{AreLeft-all, AreLeft-next, AreLeft-none}
use Rattle.geo_poly.proofs.term_limits.add_powers.Goals as goal

pub loop-first-init : goal.loop-first-init
loop-first-init c = record {
  index = c.requires.index;
  whole = c.requires.whole;
  missing = omega (arith, c.requires.top);
  left = λ bound h. AreLeft-all c.args.vars.now c.args.rows.now (told_powers c.args.p.now c.args.id) bound c.args.limits.now h;
}

pub role_at-role-requires : goal.role_at-role-requires
role_at-role-requires c =
    role_known c.args.rows.now c.args.vars.now c.args.p.now.vars.now c.args.roles.now c.in-Some.first.number c.in-Some.first.var c.requires.roles
    c.in-Some.ensures.number

pub add_power-called-requires-clause-role : goal.add_power-called-requires-clause-role
add_power-called-requires-clause-role c =
    role_there c.args.rows.now c.args.vars.now c.args.p.now.vars.now c.args.roles.now c.in-Some.first.number c.in-Some.first.var c.role_at-role.result
    c.role_at-role.ensures c.requires.roles c.in-Some.ensures.number

pub add_power-called-requires-clause-few : goal.add_power-called-requires-clause-few
add_power-called-requires-clause-few c =
    let p = c.args.p.now in
    let f = c.in-Some.first in
    omega (
      arith,
      missing_step c.args.rows.now f.var f.exponent (told_powers p c.loop-first.rest) (told_powers p f.rest) c.loop-first.missing _ c.in-Some.ensures.power
          c.loop-first.invariant.missing,
    )

pub loop-first-preserved : goal.loop-first-preserved
loop-first-preserved c =
    let p = c.args.p.now in
    let f = c.in-Some.first in
    record {
      index = c.in-Some.ensures.index;
      whole = c.add_power-called.ensures.whole;
      missing = omega (
        arith,
        c.add_power-called.ensures.denominators,
        missing_step c.args.rows.now f.var f.exponent (told_powers p c.loop-first.rest) (told_powers p f.rest) c.loop-first.missing _ c.in-Some.ensures.power
            c.loop-first.invariant.missing,
      );
      left = λ bound h. AreLeft-next c.args.vars.now c.args.rows.now (told_powers p c.args.id) (told_powers p c.loop-first.rest) (told_powers p f.rest) f.var f.exponent
          bound c.loop-first.limits c.add_power-called.new.limits c.in-Some.ensures.power c.add_power-called.ensures.limits (c.loop-first.invariant.left bound h);
    }

pub returns-clause-limits : goal.returns-clause-limits
returns-clause-limits c = λ bound h.
    AreLeft-none c.args.vars.now c.args.rows.now (told_powers c.args.p.now c.args.id) (told_powers c.args.p.now c.loop-first.rest) bound c.loop-first.limits
    c.in_default.ensures.none (c.loop-first.invariant.left bound h)

pub returns-clause-lacking : goal.returns-clause-lacking
returns-clause-lacking c = omega (arith, c.loop-first.invariant.missing, ap (denominators c.args.rows.now) c.in_default.ensures.none)
