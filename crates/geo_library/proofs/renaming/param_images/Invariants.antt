use Rattle.std.proofs.Common.{◌≡◌, map, take}
use Rattle.std.specs.Prelude.{slice_index_or}
use Rattle.geo_library.proofs.renaming.param_images.Given as goal

abbrev pub invariant-loop-number : goal.invariant-loop-number
invariant-loop-number l = map (λ p. p.0) l.images.items ≡ map (λ n. slice_index_or (map (λ p. p.0) l.places) n 0) (take l.number-index l.numbers)
