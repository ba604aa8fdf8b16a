use Rattle.std.proofs.Common.{to_z, of_z, subst}
use Rattle.std.specs.Prelude.{IfNone}
use Rattle.std.specs.Int.{w128}
use Rattle.std.proofs.lemmas.Int.{to_z-of_z}
use Rattle.geo_poly.specs.Specialise.{NoneZero}
use Rattle.geo_sample.specs.Tries.{all_specialised}
use Rattle.geo_sample.proofs.numbers.keep_other.Goals as goal

pub returns-in-None-clause-keeps : goal.returns-in-None-clause-keeps
returns-in-None-clause-keeps g c =
    let given = NoneZero (all_specialised c.args.v (to_z w128 (of_z w128 c.args.number)) c.deref-2.result.now) in
    let none : given → ⊥ = subst (λ o. IfNone o (given → ⊥)) c.in-None.is c.in_ok-changes.ensures.none in
    (λ f. absurd (cc), λ h. absurd (rw (to_z-of_z w128 c.args.number c.ranges.number, c.deref-2.ensures.value) at none h))
