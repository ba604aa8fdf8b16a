use Rattle.std.proofs.Common.{◌≤◌, drop, refl, arith}
use Rattle.std.proofs.lemmas.List.Elements.{All-from_recursion}
use Rattle.geo_program.specs.declared.commands.Command.TheVariants.{Point}
use Rattle.geo_program.specs.Forms.{IsStored}
use Rattle.geo_lowering.specs.Counting.{points_from}
use Rattle.geo_conditions.proofs.CommandsListed.{next_count}
use Rattle.geo_conditions.proofs.ConditionScopes.{points-up}
use Rattle.geo_conditions.proofs.TermsInterned.{keeps_both}
use Rattle.geo_library.specs.Inner.Asking.{layout_at}
use Rattle.geo_library.proofs.AskedGoals.{begins, goes_on, still_placed}
use Rattle.geo_library.proofs.asking.asked_goals.Goals as goal

pub loop-k-init : goal.loop-k-init
loop-k-init c = record {
  asked = begins c.args.terms.now (layout_at c.args.places.now) c.args.commands.now c.args.steps.now c.new-asked.result.items c.new-asked.ensures.items;
  count = refl;
}

pub ask-requires-clause-within : goal.ask-requires-clause-within
ask-requires-clause-within c =
    c.command_goals-first.ensures.first c.args.terms.now (All-from_recursion (IsStored c.args.terms.now) c.args.commands.now c.requires.stored c.loop-k.k Point c.loop-k-test.true)

pub ask-requires-clause-placed : goal.ask-requires-clause-placed
ask-requires-clause-placed c = still_placed c.args.terms.now c.args.places.now c.args.steps.now c.loop-k.steps c.loop-k.invariant.asked.keeps c.requires.placed

pub ask-requires-in-loop-k-clause-within : goal.ask-requires-in-loop-k-clause-within
ask-requires-in-loop-k-clause-within c =
    c.command_goals-first.ensures.second c.args.terms.now (All-from_recursion (IsStored c.args.terms.now) c.args.commands.now c.requires.stored c.loop-k.k Point c.loop-k-test.true)

pub ask-requires-in-loop-k-clause-placed : goal.ask-requires-in-loop-k-clause-placed
ask-requires-in-loop-k-clause-placed c =
    still_placed c.args.terms.now c.args.places.now c.args.steps.now c.ask.new.steps
    (keeps_both c.args.steps.now c.loop-k.steps c.ask.new.steps c.loop-k.invariant.asked.keeps c.in_ok-ask.ensures.keeps)
    c.requires.placed

pub next_point-x-requires : goal.next_point-x-requires
next_point-x-requires c =
    let l = c.loop-k in
    let rest = drop l.k c.args.commands.now in
    let low : l.x ≤ points_from l.x rest = points-up l.x rest in
    let all = l.invariant.count in let few = c.requires.few in omega arith

pub loop-k-preserved : goal.loop-k-preserved
loop-k-preserved c =
    let l = c.loop-k in
    record {
      asked = goes_on c.args.terms.now (layout_at c.args.places.now) c.args.commands.now l.k l.x c.next_point-x.result c.args.steps.now l.steps c.ask.new.steps c.ask-in-loop-k.new.steps
          l.asked.items c.ask.new.asked.items c.ask-in-loop-k.new.asked.items c.command_goals-first.result c.loop-k-test.true l.invariant.asked (c.command_goals-first.ensures.goals c.args.terms.now)
          c.in_ok-ask.ensures c.in_ok-ask-2.ensures c.next_point-x.ensures;
      count = next_count c.args.commands.now l.k l.x c.next_point-x.result c.loop-k-test.true l.invariant.count c.next_point-x.ensures;
    }
