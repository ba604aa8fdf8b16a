use Rattle.std.proofs.Common.{pos, List, sym, subst, ◌∙◌}
use Rattle.std.proofs.lemmas.Bool.{false≢true}
use Rattle.geo_poly.specs.Polynomials.{Summands}
use Rattle.geo_poly.specs.Specialise.{NoneZero}
use Rattle.geo_sample.specs.Tries.{all_specialised}
use Rattle.geo_sample.proofs.zeros.keep_zero.Goals as goal

pub returns-clause-keeps : goal.returns-clause-keeps
returns-clause-keeps g c =
    let Stays : List Summands → Type 0 = λ ps. NoneZero (all_specialised c.args.v (pos 0) ps) in
    let gone : Stays c.deref.result.now → ⊥ = λ h. false≢true (sym c.if-none_vanishes.false ∙ c.none_vanishes.ensures.1 h) in
    (λ f. absurd (false≢true f), λ h. absurd (gone (subst Stays (sym c.deref.ensures.value) h)))
