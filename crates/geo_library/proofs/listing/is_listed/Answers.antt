use Rattle.std.proofs.Common.{◌≡◌, rules}
use Rattle.geo_library.proofs.ListedTexts.{another, found}
use Rattle.geo_library.proofs.listing.is_listed.Goals as goal

pub returns-then-eq : goal.returns-then-eq
returns-then-eq c =
    let same : c.item-item.result.text ≡ c.args.text.now = search rules in
    found c.args.text.now c.args.listed.now c.loop-item.item-index c.item-item.result c.loop-item-test.true c.loop-item.invariant c.item-item.is same

pub loop-item-preserved : goal.loop-item-preserved
loop-item-preserved c =
    let other : c.item-item.result.text ≡ c.args.text.now → ⊥ = search rules in
    another c.args.text.now c.args.listed.now c.loop-item.item-index c.item-item.result c.loop-item-test.true c.loop-item.invariant c.item-item.is other
