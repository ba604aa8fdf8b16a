use Rattle.std.proofs.Common.{◌≡◌, ℕ, ◌-◌, ◌<◌, ◌≤◌, length}
use Rattle.std.specs.Prelude.{Some, slice_get}
use Rattle.geo_conditions.specs.declared.items.Item.{Item}
use Rattle.geo_place.proofs.conditions.conditions_through.Given as goal

abbrev pub invariant-loop-end : goal.invariant-loop-end
invariant-loop-end l = record {
  low : l.before ≤ l.end;
  high : l.end ≤ length l.conditions;
  these : (k : ℕ) (item : Item) → slice_get l.conditions k ≡ Some item → l.before ≤ k → k < l.end → item.line ≡ l.line;
}

abbrev pub decreases-loop-end : goal.decreases-loop-end
decreases-loop-end l = length l.conditions - l.end
