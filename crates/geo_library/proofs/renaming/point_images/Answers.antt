use Rattle.std.proofs.Common.{◌∷◌, ◌++◌, [], map, sym, ◌∙◌, ap}
use Rattle.std.specs.Prelude.{slice_index_or}
use Rattle.std.proofs.lemmas.List.{map_more, map_push}
use Rattle.geo_library.proofs.renaming.point_images.Goals as goal

pub loop-number-preserved : goal.loop-number-preserved
loop-number-preserved c =
    let l = c.loop-number in
    ap (map (λ p. p.0)) c.in_ok-push.ensures.items
    ∙ map_push (λ p. p.0) l.images.items c.point_place.result
    ∙ (λ i. l.invariant i ++ c.point_place.ensures i ∷ [])
    ∙ sym (map_more (λ n. slice_index_or (map (λ p. p.0) c.args.places.now) n 0) c.args.numbers.now l.number-index _ c.loop-number-test.true)
