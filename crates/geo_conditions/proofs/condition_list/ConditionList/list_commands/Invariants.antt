use Rattle.std.proofs.Common.{◌≡◌, ◌+◌, drop}
use Rattle.geo_lowering.specs.Counting.{points_from, points_named}
use Rattle.geo_conditions.specs.Inner.ConditionLists.{IsConditionList}
use Rattle.geo_conditions.specs.Lists.{found_from}
use Rattle.geo_conditions.proofs.KeptConditions.{found, key}
use Rattle.geo_conditions.proofs.Listings.{Ahead}
use Rattle.geo_conditions.proofs.condition_list.ConditionList.list_commands.Given as goal

-- the conditions of the commands that are left come next, and then those of all commands are listed
abbrev pub invariant-loop-k : goal.invariant-loop-k
invariant-loop-k l = record {
  valid : IsConditionList l.terms l.self;
  ahead : Ahead key (found l.terms l.initial.self.items.items) (found_from l.terms 0 1 l.commands) (found l.terms l.self.items.items) (found_from l.terms l.x (l.k + 1) (drop l.k l.commands));
  count : points_from l.x (drop l.k l.commands) ≡ points_named l.commands;
}
