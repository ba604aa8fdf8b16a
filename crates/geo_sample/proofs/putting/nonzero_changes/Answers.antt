use Rattle.std.proofs.Common.{◌^◌, ◌<◌, ◌+◌, List, length, to_z, of_z, sym, ap, subst, ◌∙◌, arith}
use Rattle.std.specs.Int.{w128}
use Rattle.std.specs.Prelude.{Option}
use Rattle.std.proofs.lemmas.Bool.{false≢true}
use Rattle.std.proofs.lemmas.Int.{to_z-of_z}
use Rattle.std.proofs.lemmas.List.{length_push}
use Rattle.geo_poly.specs.Polynomials.{Summands}
use Rattle.geo_poly.specs.Specialise.{specialised, specialised_weight}
use Rattle.geo_sample.specs.Inner.Changes.{changed_by, waiting}
use Rattle.geo_sample.proofs.Changes.{one_stays, one_vanishes}
use Rattle.geo_sample.proofs.CountedTries.{counted-before, counted-within, waiting-more}
use Rattle.geo_sample.proofs.Puts.{changed-more, zero_after}
use Rattle.geo_sample.proofs.putting.nonzero_changes.Goals as goal

pub changed-requires-clause-number : goal.changed-requires-clause-number
changed-requires-clause-number g c = rw (to_z-of_z w128 c.args.number c.ranges.number) c.requires.number

pub changed-requires-clause-weight : goal.changed-requires-clause-weight
changed-requires-clause-weight g c =
    let P : Summands → Type 0 = λ p. specialised_weight c.args.v c.args.number p < 2 ^ 127 in
    rw (to_z-of_z w128 c.args.number c.ranges.number) (subst P (sym c.poly-item.is) (c.requires.weight c.loop-poly.poly-index c.poly-item.result c.loop-poly-test.true))

pub loop-poly-preserved : goal.loop-poly-preserved
loop-poly-preserved g c =
    let z = to_z w128 (of_z w128 c.args.number) in
    let ps = c.args.polys.now in
    let i = c.loop-poly.poly-index in
    let p = c.poly-item.result in
    let lt = c.loop-poly-test.true in
    let more = c.in_ok-push.ensures.items in
    let changes = c.loop-poly.changes.items in
    let o = c.in_ok-change.change in
    let zero = zero_after o c.is_zero_after.result p (specialised c.args.v z p) c.in_ok-change.ensures.some c.in_ok-change.ensures.none c.is_zero_after.ensures.some c.is_zero_after.ensures.none in
    record {
      changed =
          ap (λ os. changed_by c.args.v z os ps) more
          ∙ changed-more c.args.v z changes ps i o p c.loop-poly.invariant.long lt c.poly-item.is c.loop-poly.invariant.changed c.in_ok-change.ensures.some;
      long = ap length more ∙ length_push changes o ∙ ap (λ n. n + 1) c.loop-poly.invariant.long;
      nonzero = one_stays c.args.v z ps i p lt c.poly-item.is c.loop-poly.invariant.nonzero (λ gone. false≢true (sym c.if-is_zero_after.false ∙ zero.1 gone));
      waits =
          ap (λ (os : List (Option Summands)). c.changed.new.ticks + waiting os ps) more
          ∙ waiting-more changes ps i o p _ _ _ c.loop-poly.invariant.long lt c.poly-item.is c.loop-poly.invariant.waits c.in_ok-change.ensures.waits;
    }

pub returns-in_err-change-clause-ticks : goal.returns-in_err-change-clause-ticks
returns-in_err-change-clause-ticks g c =
    counted-within c.args.polys.now c.loop-poly.poly-index c.poly-item.result _ _ _ c.loop-poly-test.true c.poly-item.is (omega (arith, c.loop-poly.invariant.waits)) c.in_err-change.ensures.ticks

pub returns-then-is_zero_after-clause-ticks : goal.returns-then-is_zero_after-clause-ticks
returns-then-is_zero_after-clause-ticks g c =
    counted-within c.args.polys.now c.loop-poly.poly-index c.poly-item.result _ _ _ c.loop-poly-test.true c.poly-item.is (omega (arith, c.loop-poly.invariant.waits)) c.in_ok-change.ensures.ticks

pub returns-in_err-push-clause-ticks : goal.returns-in_err-push-clause-ticks
returns-in_err-push-clause-ticks g c =
    counted-within c.args.polys.now c.loop-poly.poly-index c.poly-item.result _ _ _ c.loop-poly-test.true c.poly-item.is (omega (arith, c.loop-poly.invariant.waits)) c.in_ok-change.ensures.ticks

pub returns-clause-ticks : goal.returns-clause-ticks
returns-clause-ticks g c = counted-before c.args.polys.now c.loop-poly.poly-index _ _ (omega (arith, c.loop-poly.invariant.waits))

pub returns-then-is_zero_after-clause-none : goal.returns-then-is_zero_after-clause-none
returns-then-is_zero_after-clause-none g c =
    let z = to_z w128 (of_z w128 c.args.number) in
    let p = c.poly-item.result in
    let zero = zero_after c.in_ok-change.change c.is_zero_after.result p (specialised c.args.v z p) c.in_ok-change.ensures.some c.in_ok-change.ensures.none c.is_zero_after.ensures.some c.is_zero_after.ensures.none in
    let gone = rw (to_z-of_z w128 c.args.number c.ranges.number) at (zero.0 c.if-is_zero_after.true) in
    λ h. one_vanishes c.args.v c.args.number c.args.polys.now c.loop-poly.poly-index p c.loop-poly-test.true c.poly-item.is gone h
