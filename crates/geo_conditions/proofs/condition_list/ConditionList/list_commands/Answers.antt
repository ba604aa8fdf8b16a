use Rattle.std.proofs.Common.{◌≤◌, drop, arith}
use Rattle.std.proofs.lemmas.List.Elements.{All-from_recursion}
use Rattle.geo_program.specs.declared.commands.Command.TheVariants.{Point}
use Rattle.geo_lowering.specs.Counting.{points_from}
use Rattle.geo_conditions.specs.Inner.ConditionLists.{IsNumberBraced}
use Rattle.geo_conditions.proofs.CommandsListed.{next_command, next_count}
use Rattle.geo_conditions.proofs.ConditionScopes.{points-up}
use Rattle.geo_conditions.proofs.condition_list.ConditionList.list_commands.Goals as goal

pub list_source-requires-clause-kept : goal.list_source-requires-clause-kept
list_source-requires-clause-kept c =
    let nodes = c.args.terms.now in
    c.early_source.ensures.kept nodes (All-from_recursion (IsNumberBraced nodes) c.args.commands.now c.requires.braced c.loop-k.k Point c.loop-k-test.true)

pub list_source-requires-in-loop-k-clause-kept : goal.list_source-requires-in-loop-k-clause-kept
list_source-requires-in-loop-k-clause-kept c = c.late_source.ensures.kept c.args.terms.now

pub next_point-x-requires : goal.next_point-x-requires
next_point-x-requires c =
    let l = c.loop-k in
    let rest = drop l.k c.args.commands.now in
    let low : l.x ≤ points_from l.x rest = points-up l.x rest in
    let all = l.invariant.count in let few = c.requires.few in omega arith

pub loop-k-preserved : goal.loop-k-preserved
loop-k-preserved c =
    let nodes = c.args.terms.now in
    let l = c.loop-k in
    let commands = c.args.commands.now in
    record {
      valid = c.in_ok-list_source-2.ensures.valid;
      ahead = next_command nodes c.args.self.now l.self c.list_source.new.self c.list_source-in-loop-k.new.self commands l.k l.x c.next_point-x.result c.early_source.result c.late_source.result
          c.loop-k-test.true l.invariant.ahead (c.early_source.ensures.conditions nodes)
          (c.late_source.ensures.conditions nodes) c.in_ok-list_source.ensures c.in_ok-list_source-2.ensures c.next_point-x.ensures;
      count = next_count commands l.k l.x c.next_point-x.result c.loop-k-test.true l.invariant.count c.next_point-x.ensures;
    }
