-- What the structs of the lowered form stand for.
use Rattle.std.specs.Prelude.{map, slice_index_or}
use Rattle.geo_lowering.specs.declared.layouts.Places.{Places}
use Rattle.geo_lowering.specs.declared.lowering.Lowered.{Lowered}
use Rattle.geo_lowering.specs.Lowering.{Layout, LoweredForm, pair_numbers}

-- the places of all that has a name; past the end 0
abbrev pub layout_at : Places → Layout
layout_at places = record {
  point = λ a. slice_index_or (map (λ p. p.0) places.points) a 0;
  line = λ i. slice_index_or (map pair_numbers places.lines) i (record { left = 0; right = 0 });
  param = λ t. slice_index_or (map (λ n. n.0) places.params) t 0;
}

-- the parts of a lowered program
abbrev pub form_of : Lowered → LoweredForm
form_of l = record { construction = l.steps; points = l.points; lines = l.lines; params = l.params; after = l.after }
