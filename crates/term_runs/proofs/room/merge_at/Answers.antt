use Rattle.std.proofs.Common.{◌≤◌, ◌++◌, length, map, take, ap, ◌∙◌, arith}
use Rattle.std.proofs.lemmas.List.{map-append}
use Rattle.term_runs.proofs.Parts.{put_front}
use Rattle.term_runs.proofs.room.merge_at.Goals as goal

pub returns-clause-sum : goal.returns-clause-sum
returns-clause-sum g c =
    let f = g.T.Term.pair in
    let items = c.args.items.now in
    let room = c.merge-count.new.room in
    let from_in : c.args.from ≤ length items = omega (arith, c.requires.gap, c.requires.end) in
    let count_in : c.merge-count.result ≤ length room = omega (arith, c.merge-count.ensures.within, c.merge-count.auto.room) in
    ap (map f) (put_front items room _ c.args.from c.merge-count.result from_in count_in)
    ∙ map-append f (take c.args.from items) (take c.merge-count.result room)
    ∙ ap (λ ps. map f (take c.args.from items) ++ ps) c.merge-count.ensures.sum
