use Rattle.std.proofs.Common.{◌≡◌, ℕ, ◌-◌, ◌*◌, ◌<◌, [], Option, Some, length, rules, sym, ap, subst, ◌∙◌, arith}
use Rattle.std.specs.Prelude.{◌≢◌}
use Rattle.std.proofs.lemmas.Bool.{false≢true}
use Rattle.geo_poly.specs.declared.rows.Row.{Row}
use Rattle.geo_poly.specs.declared.variables.Var.{Var}
use Rattle.geo_poly.specs.Monomials.{Powers}
use Rattle.geo_poly.specs.Replace.{denominators, power_in, row_of}
use Rattle.geo_poly.specs.Shared.{told_powers}
use Rattle.geo_poly.proofs.AddedKeys.{AddsUp-end, AddsUp-none, IsMonomial-behind}
use Rattle.geo_poly.proofs.FactorWalks.{Seen-all, Seen-none, Seen-some, Walked-all, Walked-end, Walked-none, Walked-some}
use Rattle.geo_poly.proofs.RoleWalks.{missing_step, role_known, role_there}
use Rattle.geo_poly.proofs.ZeroFactors.{Seen, zero_denominator, zero_numerator}
use Rattle.geo_poly.proofs.pending.read_factors.Goals as goal
use Rattle.geo_poly.proofs.pending.read_factors.Goals.{in-Some-row_place+else-is_zero+in_ok-push, in_default-row_place}

pub loop-first-init : goal.loop-first-init
loop-first-init g c =
    let setting = c.args.setting.now in
    let m = told_powers c.args.p.now c.args.id in
    record {
      index = c.requires.index;
      seen = Seen-all setting.rows.now setting.top m c.requires.monomial c.requires.top;
      walked = Walked-all setting m c.clear.new.self.items (search rules);
      monomial = c.requires.monomial;
      key = AddsUp-none c.args.p.now setting.rows.now setting.vars.now (g.K.MonomialKeys.keys c.args.keys.now) c.args.id c.one.result c.one.ensures.is;
    }

pub role_at-role-requires : goal.role_at-role-requires
role_at-role-requires g c =
    let setting = c.args.setting.now in
    role_known setting.rows.now setting.vars.now c.args.p.now.vars.now c.args.roles.now c.in-Some.first.number c.in-Some.first.var c.requires.roles
    c.in-Some.ensures.number

pub loop-first-preserved : goal.loop-first-preserved
loop-first-preserved g c =
    let setting = c.args.setting.now in
    let rows = setting.rows.now in
    let p = c.args.p.now in
    let m = told_powers p c.args.id in
    let f = c.in-Some.first in
    let v : Var × ℕ = (f.var, f.exponent) in
    let left = told_powers p c.loop-first.rest in
    let rest = told_powers p f.rest in
    let power = c.in-Some.ensures.power in
    let role = role_there rows setting.vars.now p.vars.now c.args.roles.now f.number f.var c.role_at-role.result c.role_at-role.ensures c.requires.roles
    c.in-Some.ensures.number in
    let seen = c.loop-first.invariant.seen in
    let walked = c.loop-first.invariant.walked in
    let behind = IsMonomial-behind left rest v power c.loop-first.invariant.monomial in
    elim c.match-row_place.branch [
      | in-Some-row_place+else-is_zero+in_ok-push w ↦
          let i = w.in-Some-row_place.i in
          let row = w.row-row.result.now in
          let at = w.in-Some-row_place.ensures.row rows setting.vars.now f.var role in
          let is : row_of rows f.var ≡ Some row = sym at ∙ w.row-row.ensures in
          let nonzero : row.num.poly ≢ [] = λ e. false≢true (sym w.if-is_zero.false ∙ w.is_zero.ensures.1 e) in
          record {
            index = c.in-Some.ensures.index;
            seen = Seen-some rows setting.top m v left rest c.loop-first.missing _ row power is nonzero w.missing-is seen;
            walked = Walked-some setting m v left rest c.loop-first.numerators.items _ i row power
                (w.in-Some-row_place.ensures.within rows setting.vars.now f.var role) at is nonzero c.requires.rows (search rules) walked;
            monomial = behind;
            key = c.with_amount-key.ensures;
          }
      | in_default-row_place w ↦
          let none = w.in_default-row_place.ensures.none rows setting.vars.now f.var role in
          record {
            index = c.in-Some.ensures.index;
            seen = rw w.missing-is (Seen-none rows setting.top m v left rest c.loop-first.missing power none seen);
            walked = rw w.numerators-is (Walked-none setting m v left rest c.loop-first.numerators.items power none walked);
            monomial = behind;
            key = c.with_amount-key.ensures;
          }
    ]

pub returns-then-is_zero-clause-zero : goal.returns-then-is_zero-clause-zero
returns-then-is_zero-clause-zero g c =
    let setting = c.args.setting.now in
    let rows = setting.rows.now in
    let p = c.args.p.now in
    let f = c.in-Some.first in
    let m = told_powers p c.args.id in
    let left = told_powers p f.rest in
    let role = role_there rows setting.vars.now p.vars.now c.args.roles.now f.number f.var c.role_at-role.result c.role_at-role.ensures c.requires.roles
    c.in-Some.ensures.number in
    let row = c.row-row.result.now in
    let is : row_of rows f.var ≡ Some row = sym (c.in-Some-row_place.ensures.row rows setting.vars.now f.var role) ∙ c.row-row.ensures in
    let none : row.num.poly ≡ [] = c.is_zero.ensures.0 c.if-is_zero.true in
    let seen = subst (λ (n : Powers). Seen rows setting.top m n c.loop-first.missing) c.in-Some.ensures.power c.loop-first.invariant.seen in
    zero_numerator rows setting.den.piece.now.poly setting.top m (f.var, f.exponent) left c.loop-first.missing row is none seen

pub returns-then-is_zero-2-clause-zero : goal.returns-then-is_zero-2-clause-zero
returns-then-is_zero-2-clause-zero g c =
    let setting = c.args.setting.now in
    let m = told_powers c.args.p.now c.args.id in
    let left = told_powers c.args.p.now c.loop-first.rest in
    zero_denominator setting.rows.now setting.den.piece.now.poly setting.top m left c.loop-first.missing c.in_default.ensures.none
    (c.is_zero-then-missing-gt0.ensures.0 c.if-is_zero-2.true) c.if-missing-gt0.true c.loop-first.invariant.seen

pub row-row-requires : goal.row-row-requires
row-row-requires g c =
    let setting = c.args.setting.now in
    let rows = setting.rows.now in
    let p = c.args.p.now in
    let f = c.in-Some.first in
    let role = role_there rows setting.vars.now p.vars.now c.args.roles.now f.number f.var c.role_at-role.result c.role_at-role.ensures c.requires.roles
    c.in-Some.ensures.number in
    c.in-Some-row_place.ensures.within rows setting.vars.now f.var role

pub factor_of_row-factor-requires : goal.factor_of_row-factor-requires
factor_of_row-factor-requires g c =
    let setting = c.args.setting.now in
    let rows = setting.rows.now in
    let p = c.args.p.now in
    let f = c.in-Some.first in
    let role = role_there rows setting.vars.now p.vars.now c.args.roles.now f.number f.var c.role_at-role.result c.role_at-role.ensures c.requires.roles
    c.in-Some.ensures.number in
    omega (arith, c.in-Some-row_place.ensures.within rows setting.vars.now f.var role, ap length c.rows.ensures)

pub overflow_mul-missing : goal.overflow_mul-missing
overflow_mul-missing g c =
    let setting = c.args.setting.now in
    let rows = setting.rows.now in
    let p = c.args.p.now in
    let f = c.in-Some.first in
    let role = role_there rows setting.vars.now p.vars.now c.args.roles.now f.number f.var c.role_at-role.result c.role_at-role.ensures c.requires.roles
    c.in-Some.ensures.number in
    let row = c.row-row.result.now in
    let is : row_of rows f.var ≡ Some row = sym (c.in-Some-row_place.ensures.row rows setting.vars.now f.var role) ∙ c.row-row.ensures in
    omega (
      arith,
      ap (λ (o : Option Row). power_in o * f.exponent) is,
      missing_step rows f.var f.exponent (told_powers p c.loop-first.rest) (told_powers p f.rest) c.loop-first.missing
          (setting.top - denominators rows (told_powers p c.args.id)) c.in-Some.ensures.power c.loop-first.invariant.seen.missing-is,
    )

pub overflow_sub-missing : goal.overflow_sub-missing
overflow_sub-missing g c =
    let setting = c.args.setting.now in
    let rows = setting.rows.now in
    let p = c.args.p.now in
    let f = c.in-Some.first in
    let role = role_there rows setting.vars.now p.vars.now c.args.roles.now f.number f.var c.role_at-role.result c.role_at-role.ensures c.requires.roles
    c.in-Some.ensures.number in
    let row = c.row-row.result.now in
    let is : row_of rows f.var ≡ Some row = sym (c.in-Some-row_place.ensures.row rows setting.vars.now f.var role) ∙ c.row-row.ensures in
    omega (
      arith,
      ap (λ (o : Option Row). power_in o * f.exponent) is,
      missing_step rows f.var f.exponent (told_powers p c.loop-first.rest) (told_powers p f.rest) c.loop-first.missing
          (setting.top - denominators rows (told_powers p c.args.id)) c.in-Some.ensures.power c.loop-first.invariant.seen.missing-is,
    )

pub returns-clause-factors : goal.returns-clause-factors
returns-clause-factors g c =
    let setting = c.args.setting.now in
    let p = c.args.p.now in
    let some : 0 < c.loop-first.missing → setting.den.piece.now.poly ≢ [] = search rules in
    Walked-end setting (told_powers p c.args.id) (told_powers p c.loop-first.rest) c.loop-first.numerators.items c.loop-first.missing
    c.in_default.ensures.none c.requires.den some c.loop-first.invariant.seen c.loop-first.invariant.walked

pub with_amount-key-requires-clause-role : goal.with_amount-key-requires-clause-role
with_amount-key-requires-clause-role g c =
    let setting = c.args.setting.now in
    let f = c.in-Some.first in
    role_there setting.rows.now setting.vars.now c.args.p.now.vars.now c.args.roles.now f.number f.var c.role_at-role.result c.role_at-role.ensures c.requires.roles
    c.in-Some.ensures.number

pub returns-clause-key : goal.returns-clause-key
returns-clause-key g c =
    let setting = c.args.setting.now in
    AddsUp-end c.args.p.now setting.rows.now setting.vars.now (g.K.MonomialKeys.keys c.args.keys.now) c.args.id c.loop-first.rest c.loop-first.key
    (g.met.K.MonomialKeys.first c.args.keys.now) c.one.ensures.within c.loop-first.invariant.index c.in_default.ensures.none c.loop-first.invariant.key
