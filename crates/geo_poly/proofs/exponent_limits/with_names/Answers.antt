use Rattle.std.proofs.Common.{ℕ, ◌≡◌, subst, sym, refl, arith, length, ◌+◌}
use Rattle.geo_poly.specs.Monomials.{Powers}
use Rattle.geo_poly.proofs.ExponentLimits.{AreBounds-named, AreNamed, AreNamed-more}
use Rattle.geo_poly.proofs.exponent_limits.with_names.Goals as goal

pub loop-i-preserved : goal.loop-i-preserved
loop-i-preserved c =
    let numbers = c.args.numbered.now in
    let i = c.loop-i.i in
    subst (λ (ps : Powers). AreNamed c.args.p.now.vars.now numbers (i + 1) ps) (sym c.in_ok-push.ensures.items)
    (AreNamed-more c.args.p.now.vars.now numbers i _ _ c.loop-i.bounds.items refl refl c.loop-i.invariant)

pub returns : goal.returns
returns c =
    let p = c.args.p.now in
    let last : c.loop-i.i ≡ length p.vars.now = omega arith in
    AreBounds-named p.vars.now c.requires.parts.rising c.args.numbered.now c.loop-i.bounds.items
    (subst (λ (n : ℕ). AreNamed p.vars.now c.args.numbered.now n c.loop-i.bounds.items) last c.loop-i.invariant) p.monos.now p.list.now
    c.requires.parts.indices c.requires.greatest
