use Rattle.std.proofs.Common.{◌^◌, ◌<◌, length, to_z, of_z, set, sym, ap, subst, ◌∙◌, arith}
use Rattle.std.specs.Int.{w128}
use Rattle.std.proofs.lemmas.Int.{to_z-of_z}
use Rattle.std.proofs.lemmas.List.Edits.{map_over_more}
use Rattle.geo_poly.specs.Polynomials.{Summands}
use Rattle.geo_poly.specs.Specialise.{specialised, specialised_weight}
use Rattle.geo_sample.proofs.Changes.{same_ahead}
use Rattle.geo_sample.proofs.CountedTries.{counted-before, counted-more, counted-within}
use Rattle.geo_sample.proofs.numbers.put_each.Goals as goal

pub put_number-requires : goal.put_number-requires
put_number-requires g c =
    let i = c.loop-place.place in
    let ps = c.args.polys.now.items in
    let p = c.index_mut.result.now in
    let P : Summands → Type 0 = λ q. specialised_weight c.args.v c.args.number q < 2 ^ 127 in
    let within : c.loop-place.place < length c.args.polys.now.items = omega (arith, c.loop-place-test.true, c.len-place-end.ensures) in
    let same = same_ahead (specialised c.args.v (to_z w128 (of_z w128 c.args.number))) ps c.loop-place.polys.items i p within c.loop-place.invariant.put c.index_mut.ensures.value in
    rw (to_z-of_z w128 c.args.number c.ranges.number) (subst P (sym same) (c.requires i p within))

pub loop-place-preserved : goal.loop-place-preserved
loop-place-preserved g c =
    let i = c.loop-place.place in
    let ps = c.args.polys.now.items in
    let now = c.loop-place.polys.items in
    let within : c.loop-place.place < length c.args.polys.now.items = omega (arith, c.loop-place-test.true, c.len-place-end.ensures) in
    let p = c.index_mut.result.now in
    let same = same_ahead (specialised c.args.v (to_z w128 (of_z w128 c.args.number))) ps now i p within c.loop-place.invariant.put c.index_mut.ensures.value in
    record {
      put =
          ap (λ (q : Summands). set now i q) c.in_ok-put_number.ensures.put
          ∙ map_over_more (specialised c.args.v (to_z w128 (of_z w128 c.args.number))) ps now i p within c.loop-place.invariant.put c.index_mut.ensures.value;
      ticks = counted-more ps i p _ _ _ within same c.loop-place.invariant.ticks c.in_ok-put_number.ensures.ticks;
    }

pub returns-in_err-put_number-clause-ticks : goal.returns-in_err-put_number-clause-ticks
returns-in_err-put_number-clause-ticks g c =
    let i = c.loop-place.place in
    let ps = c.args.polys.now.items in
    let p = c.index_mut.result.now in
    let within : c.loop-place.place < length c.args.polys.now.items = omega (arith, c.loop-place-test.true, c.len-place-end.ensures) in
    let same = same_ahead (specialised c.args.v (to_z w128 (of_z w128 c.args.number))) ps c.loop-place.polys.items i p within c.loop-place.invariant.put c.index_mut.ensures.value in
    counted-within ps i p _ c.loop-place.ticks _ within same (omega (arith, c.loop-place.invariant.ticks)) (omega (arith, c.in_err-put_number.ensures.ticks))

pub returns-clause-ticks : goal.returns-clause-ticks
returns-clause-ticks g c = counted-before c.args.polys.now.items c.loop-place.place _ _ (omega (arith, c.loop-place.invariant.ticks))
