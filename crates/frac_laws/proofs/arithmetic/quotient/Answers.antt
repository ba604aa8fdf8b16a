use mir.Syntax.{w128}
use Rattle.std.proofs.Common.{◌<◌, ◌^◌, ◌/◌, arith}
use Rattle.std.proofs.lemmas.Int.{to_z_pos}
use Rattle.std.proofs.Math.Nat.{div-le_self}
use Rattle.frac_laws.proofs.Coprime.{divisor_some, quotient_some}
use Rattle.frac_laws.proofs.arithmetic.quotient.Goals as goal

pub nonzero_div-result : goal.nonzero_div-result
nonzero_div-result c = divisor_some c.args.g c.args.e c.requires.e c.requires.divides

pub returns-clause-nonzero : goal.returns-clause-nonzero
returns-clause-nonzero c =
    let below : c.args.e / c.args.g < 2 ^ 127 = omega (arith, div-le_self c.args.e c.args.g, c.requires.fits) in
    rw (to_z_pos w128 (c.args.e / c.args.g) below) (quotient_some c.args.g c.args.e c.requires.e c.requires.divides)
