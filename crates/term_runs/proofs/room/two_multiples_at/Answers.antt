use Rattle.std.proofs.Common.{◌≤◌, ◌++◌, length, map, take, ap, ◌∙◌, arith}
use Rattle.std.proofs.lemmas.List.{length-drop, map-append}
use Rattle.term_runs.proofs.Parts.{put_front}
use Rattle.term_runs.proofs.room.two_multiples_at.Goals as goal

pub returns-clause-sum : goal.returns-clause-sum
returns-clause-sum g c =
    let f = g.T.Term.pair in
    let items = c.args.items.now in
    let room = c.put_two_multiples-count.new.room in
    let from_in : c.args.at ≤ length items = omega (arith, c.requires.room) in
    let count_in : c.put_two_multiples-count.result ≤ length room = omega (arith, c.put_two_multiples-count.ensures.within, c.put_two_multiples-count.auto.room, c.requires.room, length-drop c.args.at items) in
    ap (map f) (put_front items room _ c.args.at c.put_two_multiples-count.result from_in count_in)
    ∙ map-append f (take c.args.at items) (take c.put_two_multiples-count.result room)
    ∙ ap (λ ps. map f (take c.args.at items) ++ ps) c.put_two_multiples-count.ensures.sum
