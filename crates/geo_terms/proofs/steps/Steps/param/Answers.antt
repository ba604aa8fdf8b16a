use Rattle.geo_terms.proofs.ConstructionLemmas.{IsConstruction-more}
use Rattle.geo_terms.proofs.steps.Steps.param.Goals as goal
use Rattle.std.proofs.Common.{arith, ap, refl}
use Rattle.geo_terms.specs.Constructions.{Construction}

pub invariant_of-self : goal.invariant_of-self
invariant_of-self c =
    let params = ap (λ (s : Construction). s.params) c.self.view_is in
    IsConstruction-more (record { nodes = c.self.inside.terms; steps = c.self.inside.steps.items; params = c.self.inside.params })
    c.self.inside.terms _ c.self.invariant c.self.invariant.store
    (record { longer = omega arith; same = λ id within. refl }) (omega arith) (omega (arith, params))
