use Rattle.std.proofs.Common.{ℕ, [], ◌∷◌, ◌++◌, ◌+◌, ◌*◌, ◌≡◌, length, refl, ap, subst, arith}
use Rattle.std.proofs.Math.Nat.{mul-le-mul_right}
use Rattle.geo_poly.specs.Inner.Limits.{AreBounds}
use Rattle.geo_poly.specs.Monomials.{exponent}
use Rattle.geo_poly.specs.Shared.{told, var_at}
use Rattle.std.specs.Prelude.{slice_index_or}
use Rattle.geo_poly.proofs.ExponentLimits.{AreBounds-named, AreLimits-less, AreNamed, AreNamed-more, AreNamed-none, exponent-more}
use Rattle.geo_poly.proofs.exponent_limits.add_numbered.Goals as goal

pub loop-i-init : goal.loop-i-init
loop-i-init c = λ bound h.
    ([], AreNamed-none c.args.p.now.vars.now c.args.numbers.now, AreLimits-less c.args.vars.now bound _ _ (λ v. omega arith) h)

pub loop-i-preserved : goal.loop-i-preserved
loop-i-preserved c = λ bound h.
    let names = c.args.p.now.vars.now in
    let numbers = c.args.numbers.now in
    let times = c.args.times in
    let i = c.loop-i.i in
    let found = c.loop-i.invariant bound h in
    let ps = found.0 in
    let v = var_at names i in
    let e = slice_index_or numbers i 0 in (
      ps ++ (v, e) ∷ [],
      AreNamed-more names numbers i v e ps refl refl found.1,
      AreLimits-less c.args.vars.now _ _ _ (λ w. omega (arith, ap (λ (k : ℕ). k * times) (exponent-more w v e ps)))
          (c.add_exponent-guess.ensures (λ w. bound w + exponent w ps * times) found.2),
    )

pub returns : goal.returns
returns c = λ bound h.
    let p = c.args.p.now in
    let numbers = c.args.numbers.now in
    let found = c.loop-i.invariant bound h in
    let ps = found.0 in
    let last : c.loop-i.i ≡ length p.vars.now = omega arith in
    let bounds : AreBounds (told p) ps = AreBounds-named p.vars.now c.requires.parts.rising numbers ps
    (subst (λ (n : ℕ). AreNamed p.vars.now numbers n ps) last found.1) p.monos.now p.list.now c.requires.parts.indices c.requires.greatest in
    AreLimits-less c.args.vars.now _ _ c.loop-i.limits.items (λ v. omega (arith, mul-le-mul_right c.args.times (bounds.each v))) found.2
