use Rattle.std.proofs.Common.{refl, sym}
use Rattle.geo_poly.specs.Shared.{told}
use Rattle.geo_poly.proofs.Told.{index_at, list_within, told_at}
use Rattle.geo_poly.proofs.shared.Shared.term.Goals as goal

pub returns-clause-index : goal.returns-clause-index
returns-clause-index c =
    let p = c.args.self.now in
    index_at p c.args.i (list_within p (told p) c.args.i refl c.requires.place) c.requires.parts

pub returns-clause-term : goal.returns-clause-term
returns-clause-term c = sym (told_at c.args.self.now (told c.args.self.now) c.args.i refl c.requires.place)
