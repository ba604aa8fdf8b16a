use Rattle.std.proofs.Common.{◌+◌, ◌<◌, ◌++◌, drop, length, take, map, arith}
use Rattle.std.proofs.lemmas.List.{length-map}
use Rattle.sparse_lists.specs.Coefficients.{scaled}
use Rattle.term_runs.proofs.Scaled.{key_fits, multiple_fits, multiple_more}
use Rattle.term_runs.proofs.Turns.{read_left}
use Rattle.term_runs.proofs.multiples.put_multiples.Goals as goal

pub times-requires-clause-key : goal.times-requires-clause-key
times-requires-clause-key g c =
    let f = g.T.Term.pair in
    key_fits f (λ j. (f c.args.term).0 + j < g.T.Term.keys) c.args.list.now c.loop-i.i c.index-list-i.result c.loop-i-test.true c.index-list-i.is c.requires.keys

pub times-requires-clause-coefficient : goal.times-requires-clause-coefficient
times-requires-clause-coefficient g c =
    let f = g.T.Term.pair in
    let inside : c.loop-i.i < length (map f c.args.list.now) = omega (arith, length-map c.args.list.now f, c.loop-i-test.true) in
    multiple_fits (f c.args.term).1 (map f c.args.list.now) c.loop-i.i g.T.Term.size (f c.index-list-i.result) inside
    (read_left f c.args.list.now c.loop-i.i c.index-list-i.result c.loop-i-test.true c.index-list-i.is) c.requires.norm

pub loop-i-preserved : goal.loop-i-preserved
loop-i-preserved g c =
    let f = g.T.Term.pair in
    let list = c.args.list.now in
    let t = c.args.term in
    let inv = c.loop-i.invariant in
    record {
      place = omega (arith, inv.place);
      within = omega (arith, c.loop-i-test.true);
      begun = omega (arith, inv.begun);
      terms = multiple_more f (f t).0 (f t).1 list c.loop-i.i c.index-list-i.result c.times.result c.loop-i-test.true c.index-list-i.is c.times.ensures
          c.loop-i.room c.loop-i.k (map f (take c.args.at c.args.room.now) ++ drop c.args.from (scaled (f t).0 (f t).1 (map f list)))
          (omega (arith, inv.place, c.requires.room, c.loop-i-test.true, c.loop-i.auto.room)) inv.terms;
    }
