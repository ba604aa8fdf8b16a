use Rattle.std.proofs.Common.{◌≡◌, true, IfOk, ℤ, subst}
use Rattle.std.specs.Int.{w128}
use Rattle.std.specs.Prelude.{◌↔◌, IsTrue}
use Rattle.std.proofs.lemmas.Int.{to_z_pos}
use Rattle.geo_poly.specs.Specialise.{NoneZero}
use Rattle.geo_sample.specs.Tries.{all_specialised}
use Rattle.geo_sample.proofs.trying.try_natural.Goals as goal

pub returns-clause-keeps : goal.returns-clause-keeps
returns-clause-keeps g c =
    subst (λ (z : ℤ). IfOk c.try_number.result (λ b. IsTrue b ↔ NoneZero (all_specialised c.args.v z c.args.polys.now.items)))
    (to_z_pos w128 c.args.k c.requires.fits) c.try_number.ensures.keeps

pub returns-clause-put : goal.returns-clause-put
returns-clause-put g c =
    subst (λ (z : ℤ). IfOk c.try_number.result (λ b. b ≡ true → c.try_number.new.polys.items ≡ all_specialised c.args.v z c.args.polys.now.items))
    (to_z_pos w128 c.args.k c.requires.fits) c.try_number.ensures.put
