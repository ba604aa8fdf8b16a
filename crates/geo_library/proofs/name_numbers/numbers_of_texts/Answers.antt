use Rattle.std.proofs.Common.{ℕ, ◌<◌, ◌≤◌, List, length, map, subst, take_all, arith}
use Rattle.std.proofs.lemmas.List.{length-map}
use Rattle.geo_library.specs.Inner.Naming.{AreNumbersByText}
use Rattle.geo_library.proofs.NumbersByText.{next_text, no_texts}
use Rattle.geo_library.proofs.name_numbers.numbers_of_texts.Goals as goal

pub loop-n-init : goal.loop-n-init
loop-n-init c = no_texts c.new-numbers.result c.new-numbers.ensures.empty

pub loop-n-preserved : goal.loop-n-preserved
loop-n-preserved c =
    let texts = map (λ t. t.now) c.args.texts.now in
    let within : c.loop-n.n < length texts = omega (arith, c.loop-n-test.true, length-map c.args.texts.now (λ t. t.now)) in
    next_text texts c.loop-n.n c.text_at.result.now c.loop-n.numbers c.insert.new.self within c.text_at.ensures c.in_ok-insert.ensures.updates c.loop-n.invariant

pub returns : goal.returns
returns c =
    let texts = map (λ t. t.now) c.args.texts.now in
    let past : length texts ≤ c.loop-n.n = omega (arith, c.loop-n-test.false, length-map c.args.texts.now (λ t. t.now)) in
    subst (λ (ts : List (List ℕ)). AreNumbersByText ts c.loop-n.numbers) (take_all c.loop-n.n texts past) c.loop-n.invariant
