use Rattle.geo_terms.proofs.ConstructionLemmas.{IsConstruction-more}
use Rattle.geo_terms.proofs.steps.Steps.intern.Goals as goal
use Rattle.std.proofs.Common.{arith, subst, ◌≡◌, ◌++◌, ◌∷◌, []}
use Rattle.std.specs.Prelude.{OnOk, Contains}
use Rattle.geo_terms.specs.Constructions.{Construction}

pub invariant_of-self : goal.invariant_of-self
invariant_of-self c =
    IsConstruction-more (record { nodes = c.self.inside.terms; steps = c.self.inside.steps.items; params = c.self.inside.params })
    c.intern.new.self c.self.inside.params c.self.invariant c.intern.ensures.valid
    (record { longer = c.intern.ensures.longer; same = c.intern.ensures.others }) (omega arith) c.self.invariant.params_fit

pub returns-clause-added : goal.returns-clause-added
returns-clause-added c =
    subst (λ (s : Construction). OnOk c.intern.result ((Contains s.nodes c.args.node → ⊥) → c.intern.new.self ≡ s.nodes ++ c.args.node ∷ [])) c.self.view_is c.intern.ensures.added
