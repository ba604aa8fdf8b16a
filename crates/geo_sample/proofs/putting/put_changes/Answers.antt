use Rattle.std.proofs.Common.{◌≡◌, suc, ◌+◌, ◌^◌, ◌<◌, List, length, drop, set, get_or, to_z, of_z, sym, ap, subst, ◌∙◌, arith}
use Rattle.std.specs.Int.{w128}
use Rattle.std.specs.Prelude.{unwrap_or}
use Rattle.std.proofs.lemmas.Int.{to_z-of_z}
use Rattle.std.proofs.lemmas.List.{length-set}
use Rattle.geo_poly.specs.Polynomials.{Summands}
use Rattle.geo_poly.specs.Specialise.{specialised, specialised_weight}
use Rattle.geo_sample.proofs.CountedTries.{waiting-next}
use Rattle.geo_sample.proofs.Puts.{left-next, left-same, put_before, put-ahead, put-one}
use Rattle.geo_sample.proofs.putting.put_changes.Goals as goal

pub put_change-requires : goal.put_change-requires
put_change-requires g c =
    let z = to_z w128 (of_z w128 c.args.number) in
    let i = c.loop-place.place in
    let os = c.args.changes.items in
    let ps = c.args.polys.now.items in
    let p = c.index_mut-in-loop-place.result.now in
    let P : Summands → Type 0 = λ q. specialised_weight c.args.v c.args.number q < 2 ^ 127 in
    let within : c.loop-place.place < length c.args.polys.now.items = omega (arith, c.loop-place-test.true, c.len-place-end.ensures) in
    let inside : c.loop-place.place < length c.args.changes.items = omega (arith, within, c.requires.whole) in
    let at = subst (λ (qs : List Summands). p ≡ get_or qs i p) c.loop-place.invariant.polys c.index_mut-in-loop-place.ensures.value in
    let same = put-ahead c.args.v z os ps i p inside c.requires.whole at in
    rw (to_z-of_z w128 c.args.number c.ranges.number) (subst P (sym same) (c.requires.weight i p within))

pub loop-place-preserved : goal.loop-place-preserved
loop-place-preserved g c =
    let z = to_z w128 (of_z w128 c.args.number) in
    let i = c.loop-place.place in
    let os = c.args.changes.items in
    let ps = c.args.polys.now.items in
    let now = c.loop-place.changes.items in
    let o = c.index_mut.result.now in
    let p = c.index_mut-in-loop-place.result.now in
    let within : c.loop-place.place < length c.args.changes.items = omega (arith, c.loop-place-test.true, c.len-place-end.ensures, c.requires.whole) in
    let is = left-same now os i o c.loop-place.invariant.left c.index_mut.ensures.value in
    let next : suc c.loop-place.place ≡ c.loop-place.place + 1 = omega arith in
    let at = subst (λ (qs : List Summands). p ≡ get_or qs i p) c.loop-place.invariant.polys c.index_mut-in-loop-place.ensures.value in
    let same = put-ahead c.args.v z os ps i p within c.requires.whole at in
    record {
      polys =
          ap (λ (q : Summands). set c.loop-place.polys.items i q) (c.in_ok-put_change.ensures.put ∙ ap (λ m. unwrap_or m (specialised c.args.v z p)) c.take-change.ensures.value)
          ∙ ap (λ (qs : List Summands). set qs i (unwrap_or o (specialised c.args.v z p))) c.loop-place.invariant.polys
          ∙ put-one c.args.v z os ps i o p within c.requires.whole is at ∙ ap (put_before c.args.v z os ps) next;
      left = subst (λ k. drop k (set now i c.take-change.new.self) ≡ drop k os) next (left-next now os i c.take-change.new.self c.loop-place.invariant.left);
      long = length-set now i c.take-change.new.self ∙ c.loop-place.invariant.long;
      waits =
          waiting-next os ps i o c.take-change.result p _ _ _ within c.requires.whole is c.take-change.ensures.value same c.loop-place.invariant.waits
          c.in_ok-put_change.ensures.ticks;
    }

pub returns-in_err-put_change-clause-ticks : goal.returns-in_err-put_change-clause-ticks
returns-in_err-put_change-clause-ticks g c =
    let z = to_z w128 (of_z w128 c.args.number) in
    let i = c.loop-place.place in
    let os = c.args.changes.items in
    let ps = c.args.polys.now.items in
    let now = c.loop-place.changes.items in
    let o = c.index_mut.result.now in
    let p = c.index_mut-in-loop-place.result.now in
    let within : c.loop-place.place < length c.args.changes.items = omega (arith, c.loop-place-test.true, c.len-place-end.ensures, c.requires.whole) in
    let is = left-same now os i o c.loop-place.invariant.left c.index_mut.ensures.value in
    let at = subst (λ (qs : List Summands). p ≡ get_or qs i p) c.loop-place.invariant.polys c.index_mut-in-loop-place.ensures.value in
    let same = put-ahead c.args.v z os ps i p within c.requires.whole at in
    let next = waiting-next os ps i o c.take-change.result p _ _ _ within c.requires.whole is c.take-change.ensures.value same c.loop-place.invariant.waits
    c.in_err-put_change.ensures.ticks in
    omega (arith, next)

pub returns-clause-ticks : goal.returns-clause-ticks
returns-clause-ticks g c = omega (arith, c.loop-place.invariant.waits)
