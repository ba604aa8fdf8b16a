-- Terms interned one after another.
use Rattle.std.proofs.Common.{◌<◌, ◌≤◌, length, refl, ◌∙◌, arith}
use Rattle.geo_points.specs.declared.ids.TermId.{TermId}
use Rattle.geo_terms.specs.Constructions.{Construction}
use Rattle.geo_conditions.specs.Inner.ItemTerms.{Keeps}

pub keeps_all : (s : Construction) → Keeps s s
keeps_all s = record { steps = refl; params = refl; longer = omega arith; trees = λ e b. refl }

pub keeps_both : (one two three : Construction) → Keeps one two → Keeps two three → Keeps one three
keeps_both one two three f g =
    let u : length one.nodes ≤ length two.nodes = f.longer in
    let v : length two.nodes ≤ length three.nodes = g.longer in
    record {
      steps = g.steps ∙ f.steps;
      params = g.params ∙ f.params;
      longer = omega arith;
      trees = λ e b. g.trees e (omega arith) ∙ f.trees e b;
    }

-- a term stays in the store
pub still_stored : (one two : Construction) (e : TermId) → Keeps one two → e.0 < length one.nodes → e.0 < length two.nodes
still_stored one two e f b = let u : length one.nodes ≤ length two.nodes = f.longer in omega arith
