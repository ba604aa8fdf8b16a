use Rattle.std.proofs.Common.{◌<◌, length, pos, set, ap, ◌∙◌, arith}
use Rattle.std.proofs.lemmas.List.Edits.{map_over_more}
use Rattle.geo_poly.specs.Polynomials.{Summands}
use Rattle.geo_poly.specs.Specialise.{specialised}
use Rattle.geo_sample.proofs.Changes.{same_ahead}
use Rattle.geo_sample.proofs.CountedTries.{counted-before, counted-more}
use Rattle.geo_sample.proofs.zeros.put_zero.Goals as goal

pub loop-place-preserved : goal.loop-place-preserved
loop-place-preserved g c =
    let i = c.loop-place.place in
    let ps = c.args.polys.now.items in
    let now = c.loop-place.polys.items in
    let within : c.loop-place.place < length c.args.polys.now.items = omega (arith, c.loop-place-test.true, c.len-place-end.ensures) in
    let p = c.index_mut.result.now in
    let same = same_ahead (specialised c.args.v (pos 0)) ps now i p within c.loop-place.invariant.put c.index_mut.ensures.value in
    record {
      put =
          ap (λ (q : Summands). set now i q) c.put_zero.ensures.put
          ∙ map_over_more (specialised c.args.v (pos 0)) ps now i p within c.loop-place.invariant.put c.index_mut.ensures.value;
      ticks = counted-more ps i p _ _ _ within same c.loop-place.invariant.ticks c.put_zero.ensures.ticks;
    }

pub returns-clause-ticks : goal.returns-clause-ticks
returns-clause-ticks g c = counted-before c.args.polys.now.items c.loop-place.place _ _ (omega (arith, c.loop-place.invariant.ticks))
