use Rattle.std.proofs.Common.{inr}
use Rattle.geo_library.proofs.KnownVariables.{tells_neither}
use Rattle.geo_library.proofs.figures.tells_quantity.Goals as goal

pub returns-in-Some-behind : goal.returns-in-Some-behind
returns-in-Some-behind c = inr (c.in-Some-behind.field-0.now, c.in-Some-behind.ensures.some)

pub returns-in-None-behind : goal.returns-in-None-behind
returns-in-None-behind c = tells_neither c.args.text.now c.in-None.ensures.none c.in-None-behind.ensures.none
