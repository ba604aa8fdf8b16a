use Rattle.std.proofs.Common.{◌+◌, ◌*◌, ◌<◌, ◌≤◌, ◌++◌, ◌⊎◌, inl, inr, drop, length, take, map, ap, ◌∙◌, unsigned_abs, arith}
use Rattle.std.proofs.lemmas.List.{length-map}
use Rattle.sparse_lists.specs.Coefficients.{scaled}
use Rattle.term_runs.specs.Runs.{norm_of, run_of}
use Rattle.term_runs.proofs.Doubled.{first_within, second_within, two_fit, two_rest, two_steps, two_turned}
use Rattle.term_runs.proofs.Scaled.{key_fits, multiple_fits}
use Rattle.term_runs.proofs.Turns.{read_left}
use Rattle.term_runs.proofs.multiples.put_two_multiples.Goals as goal
use Rattle.term_runs.proofs.multiples.put_two_multiples.Goals.{then-loop-i-test+else-j-count, else-loop-i-test}

pub times-requires-clause-key : goal.times-requires-clause-key
times-requires-clause-key g c =
    let f = g.T.Term.pair in
    key_fits f (λ j. (f c.args.first).0 + j < g.T.Term.keys) c.args.list.now c.loop-i.i c.index-list-i.result c.loop-i-test.true c.index-list-i.is c.requires.first_keys

pub times-requires-clause-coefficient : goal.times-requires-clause-coefficient
times-requires-clause-coefficient g c =
    let f = g.T.Term.pair in
    let inside : c.loop-i.i < length (map f c.args.list.now) = omega (arith, length-map c.args.list.now f, c.loop-i-test.true) in
    multiple_fits (f c.args.first).1 (map f c.args.list.now) c.loop-i.i g.T.Term.size (f c.index-list-i.result) inside
    (read_left f c.args.list.now c.loop-i.i c.index-list-i.result c.loop-i-test.true c.index-list-i.is)
    (first_within (unsigned_abs (f c.args.first).1) (unsigned_abs (f c.args.second).1) (norm_of (map f c.args.list.now)) g.T.Term.size c.requires.norm)

pub times-requires-in-loop-i-clause-key : goal.times-requires-in-loop-i-clause-key
times-requires-in-loop-i-clause-key g c =
    let f = g.T.Term.pair in
    key_fits f (λ j. (f c.args.second).0 + j < g.T.Term.keys) c.args.list.now c.loop-i.j c.index-list-j.result c.if-j-count.true c.index-list-j.is c.requires.second_keys

pub times-requires-in-loop-i-clause-coefficient : goal.times-requires-in-loop-i-clause-coefficient
times-requires-in-loop-i-clause-coefficient g c =
    let f = g.T.Term.pair in
    let inside : c.loop-i.j < length (map f c.args.list.now) = omega (arith, length-map c.args.list.now f, c.if-j-count.true) in
    multiple_fits (f c.args.second).1 (map f c.args.list.now) c.loop-i.j g.T.Term.size (f c.index-list-j.result) inside
    (read_left f c.args.list.now c.loop-i.j c.index-list-j.result c.if-j-count.true c.index-list-j.is)
    (second_within (unsigned_abs (f c.args.first).1) (unsigned_abs (f c.args.second).1) (norm_of (map f c.args.list.now)) g.T.Term.size c.requires.norm)

pub next_turn-turn-requires : goal.next_turn-turn-requires
next_turn-turn-requires g c =
    let f = g.T.Term.pair in
    two_fit f (f c.args.first) (f c.args.second) c.args.list.now c.requires.run c.requires.first_some c.requires.second_some c.loop-i.i c.loop-i.j
    c.index-list-i.result c.index-list-j.result c.times.result c.times-in-loop-i.result c.loop-i-test.true c.if-j-count.true c.index-list-i.is c.index-list-j.is
    c.times.ensures c.times-in-loop-i.ensures g.T.Term.size c.requires.norm

pub loop-i-preserved : goal.loop-i-preserved
loop-i-preserved g c =
    let f = g.T.Term.pair in
    let list = c.args.list.now in
    let inv = c.loop-i.invariant in
    let dl = c.next_turn-turn.result.left in
    let dr = c.next_turn-turn.result.right in
    let n = c.count_of-k.result in
    let z = c.next_turn-turn.result.term in
    let enough : 2 * length list ≤ length c.loop-i.room = omega (arith, c.requires.room, c.loop-i.auto.room) in
    let steps = two_steps f (f c.args.first) (f c.args.second) list c.requires.run c.requires.first_some c.requires.second_some c.loop-i.i c.loop-i.j
    c.index-list-i.result c.index-list-j.result c.times.result c.times-in-loop-i.result c.loop-i-test.true c.if-j-count.true c.index-list-i.is c.index-list-j.is
    c.times.ensures c.times-in-loop-i.ensures c.loop-i.room c.loop-i.k z dl dr n c.next_turn-turn.ensures c.count_of-k.ensures inv.few enough in
    record {
      left = omega (arith, c.loop-i-test.true, steps.left_one);
      right = omega (arith, c.if-j-count.true, steps.right_one);
      few = omega (arith, inv.few, steps.some, steps.count_one);
      sum = two_turned f (f c.args.first) (f c.args.second) list c.requires.run c.requires.first_some c.requires.second_some c.loop-i.i c.loop-i.j
          c.index-list-i.result c.index-list-j.result c.times.result c.times-in-loop-i.result c.loop-i-test.true c.if-j-count.true c.index-list-i.is c.index-list-j.is
          c.times.ensures c.times-in-loop-i.ensures c.loop-i.room c.loop-i.k z dl dr n c.next_turn-turn.ensures c.count_of-k.ensures inv.few enough
          (run_of (scaled (f c.args.first).0 (f c.args.first).1 (map f list) ++ scaled (f c.args.second).0 (f c.args.second).1 (map f list))) inv.sum;
    }

pub returns-clause-sum : goal.returns-clause-sum
returns-clause-sum g c =
    let f = g.T.Term.pair in
    let list = c.args.list.now in
    let whole = run_of (scaled (f c.args.first).0 (f c.args.first).1 (map f list) ++ scaled (f c.args.second).0 (f c.args.second).1 (map f list)) in
    let past : (length list ≤ c.loop-i.i) ⊎ (length list ≤ c.loop-i.j) =
    elim c.loop-i-test.branch [
      | then-loop-i-test+else-j-count w ↦ inr w.if-j-count.false
      | else-loop-i-test w ↦ inl w.loop-i-test.false
    ] in
    c.put_multiples.ensures.terms
    ∙ ap (λ ps. ps ++ drop c.loop-i.j (scaled (f c.args.second).0 (f c.args.second).1 (map f list))) c.put_multiples-k.ensures.terms
    ∙ two_rest f (f c.args.first) (f c.args.second) list c.requires.run c.requires.first_some c.requires.second_some c.loop-i.i c.loop-i.j
    (map f (take c.loop-i.k c.loop-i.room)) whole past c.loop-i.invariant.sum
