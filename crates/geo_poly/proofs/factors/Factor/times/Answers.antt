use Rattle.std.proofs.Common.{◌≡◌, ◌+◌, ◌≤◌, ℤ, ◌∷◌, ◌++◌, [], All, sym, ap, subst}
use Rattle.std.specs.declared.cmp.Ordering.TheVariants.{Less}
use Rattle.geo_poly.specs.declared.variables.Var.{Var}
use Rattle.geo_poly.specs.Variables.{var_cmp}
use Rattle.geo_poly.specs.Monomials.{Powers, IsMonomial, degree_of}
use Rattle.geo_poly.proofs.FactorLaws.{IsMonomial-push}
use Rattle.geo_poly.proofs.factors.Factor.times.Goals as goal

-- the conditions of a call, at the digits
pushed : (m : Powers) (z : ℤ) (f : Powers × ℤ) (v : Var) (e : _) → (m, z) ≡ f → IsMonomial m → 1 ≤ e
    → All (λ (p : Var × _). var_cmp p.0 v ≡ Less) f.0 → degree_of f.0 + e ≤ 65535 → IsMonomial (m ++ (v, e) ∷ [])
pushed m z f v e same h some later fits =
    let parts : f.0 ≡ m = ap (λ (g : Powers × ℤ). g.0) (sym same) in
    IsMonomial-push m v e h some (subst (λ (n : Powers). All (λ (p : Var × _). var_cmp p.0 v ≡ Less) n) parts later) (subst (λ (n : Powers). degree_of n + e ≤ 65535) parts fits)

pub push-requires : goal.push-requires
push-requires c =
    pushed c.self.inside.monomial c.self.inside.coefficient c.args.self.now c.args.v c.args.exponent c.self.view_is c.self.invariant.monomial c.requires.positive c.requires.later c.requires.degree

pub invariant_of-self-2 : goal.invariant_of-self-2
invariant_of-self-2 c = record {
  monomial =
      subst IsMonomial (sym c.in_ok-push.ensures.ok)
      (pushed c.self.inside.monomial c.self.inside.coefficient c.args.self.now c.args.v c.args.exponent c.self.view_is
      c.self.invariant.monomial c.requires.positive c.requires.later c.requires.degree);
  nonzero = c.self.invariant.nonzero;
  fits = c.self.invariant.fits;
}
