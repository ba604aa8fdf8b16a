use Rattle.std.proofs.Common.{◌≤◌, ◌-◌, ◌^◌, refl, arith}
use Rattle.elim_apply.proofs.SmallShares.{whole_share}
use Rattle.elim_apply.proofs.small_shares.SmallShare.widened.Goals as goal

pub returns : goal.returns
returns c = λ rows m is.
    let count : c.args.self.count ≤ 2 ^ 64 - 1 = omega (arith, c.well_formed) in
    let weight : c.args.self.weight ≤ 2 ^ 64 - 1 = omega (arith, c.well_formed) in
    let degree : c.args.self.degree ≤ 2 ^ 64 - 1 = omega (arith, c.well_formed) in
    whole_share rows m c.args.self _ is refl refl refl refl refl count weight degree
