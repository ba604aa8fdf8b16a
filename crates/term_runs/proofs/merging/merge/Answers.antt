use Rattle.std.proofs.Common.{◌+◌, ◌<◌, ◌≤◌, ◌++◌, drop, length, take, map, ap, ◌∙◌, arith}
use Rattle.std.specs.Ordering.{nat_cmp}
use Rattle.std.proofs.lemmas.List.{take_rest}
use Rattle.sparse_lists.specs.Coefficients.{sum_of}
use Rattle.term_runs.proofs.Turns.{left_rest, right_rest, room_fits, room_steps, room_turned, room_unread}
use Rattle.term_runs.proofs.merging.merge.Goals as goal
use Rattle.term_runs.proofs.merging.merge.Goals.{then-loop-i-test+else-j-count, else-loop-i-test}

pub next_turn-turn-requires : goal.next_turn-turn-requires
next_turn-turn-requires g c =
    let f = g.T.Term.pair in
    room_fits f c.args.left.now c.loop-i.room c.args.room.now c.loop-i.i c.loop-i.j 0 c.index-left-i.result c.index-room-gap.result
    (omega (arith, c.loop-i-test.true)) (omega (arith, c.if-j-count.true, c.loop-i.auto.room)) c.loop-i.auto.room c.loop-i.invariant.unread
    c.index-left-i.is c.index-room-gap.is c.requires.left c.requires.right g.T.Term.size c.requires.fits

pub loop-i-preserved : goal.loop-i-preserved
loop-i-preserved g c =
    let f = g.T.Term.pair in
    let left = c.args.left.now in
    let room = c.loop-i.room in
    let old = c.args.room.now in
    let left_in : c.loop-i.i < length left = omega (arith, c.loop-i-test.true) in
    let right_in : length left + c.loop-i.j < length room = omega (arith, c.if-j-count.true, c.loop-i.auto.room) in
    let turn = c.next_turn-turn.ensures in
    let dl = c.next_turn-turn.result.left in
    let dr = c.next_turn-turn.result.right in
    let n = c.count_of-k.result in
    let x = c.next_turn-turn.result.term in
    let steps = room_steps f left room old c.loop-i.i c.loop-i.j c.loop-i.k c.index-left-i.result c.index-room-gap.result left_in right_in c.loop-i.auto.room
    c.loop-i.invariant.unread c.index-left-i.is c.index-room-gap.is c.requires.left c.requires.right x dl dr n turn c.count_of-k.ensures c.loop-i.invariant.few in
    record {
      left = omega (arith, left_in, steps.left_one);
      right = omega (arith, right_in, steps.right_one, c.loop-i.auto.room);
      few = omega (arith, c.loop-i.invariant.few, steps.some, steps.count_one);
      unread = room_unread f left room old c.loop-i.i c.loop-i.j c.loop-i.k c.index-left-i.result c.index-room-gap.result left_in right_in c.loop-i.auto.room
          c.loop-i.invariant.unread c.index-left-i.is c.index-room-gap.is c.requires.left c.requires.right x dl dr n turn c.count_of-k.ensures c.loop-i.invariant.few;
      sum = room_turned f left room old c.loop-i.i c.loop-i.j c.loop-i.k c.index-left-i.result c.index-room-gap.result left_in right_in c.loop-i.auto.room
          c.loop-i.invariant.unread c.index-left-i.is c.index-room-gap.is c.requires.left c.requires.right x dl dr n turn c.count_of-k.ensures c.loop-i.invariant.few
          (sum_of nat_cmp (map f left) (map f (drop (length left) old))) c.loop-i.invariant.sum;
    }

pub returns-then-i-gap-clause-sum : goal.returns-then-i-gap-clause-sum
returns-then-i-gap-clause-sum g c =
    let f = g.T.Term.pair in
    let left = c.args.left.now in
    let old = c.args.room.now in
    let past : length old ≤ length left + c.loop-i.j =
    elim c.loop-i-test.branch [
      | then-loop-i-test+else-j-count w ↦ omega (arith, w.if-j-count.false, c.requires.gap)
      | else-loop-i-test w ↦ omega (arith, w.loop-i-test.false, c.if-i-gap.true)
    ] in
    ap (map f) (c.put_rest.ensures.room ∙ ap (λ xs. take c.loop-i.k c.loop-i.room ++ xs) (take_rest left c.loop-i.i))
    ∙ left_rest f left old c.loop-i.i c.loop-i.j c.requires.left c.requires.right (sum_of nat_cmp (map f left) (map f (drop (length left) old)))
    (take c.loop-i.k c.loop-i.room) past c.loop-i.invariant.sum

pub returns-else-i-gap-clause-sum : goal.returns-else-i-gap-clause-sum
returns-else-i-gap-clause-sum g c =
    let f = g.T.Term.pair in
    let left = c.args.left.now in
    let old = c.args.room.now in
    ap (map f) (c.move_rest.ensures.room ∙ ap (λ xs. take c.loop-i.k c.loop-i.room ++ xs) c.loop-i.invariant.unread)
    ∙ right_rest f left old c.loop-i.i c.loop-i.j c.requires.left c.requires.right (sum_of nat_cmp (map f left) (map f (drop (length left) old)))
    (take c.loop-i.k c.loop-i.room) (omega (arith, c.if-i-gap.false)) c.loop-i.invariant.sum
