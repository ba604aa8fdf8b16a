use Rattle.geo_conditions.specs.Statements.{pair_goals}
use Rattle.geo_conditions.proofs.KeptGoals.{listed_goals}
use Rattle.geo_conditions.proofs.goal_list.list_goals.Goals as goal

pub list_source-requires-clause-kept : goal.list_source-requires-clause-kept
list_source-requires-clause-kept c = c.goal_sources-first.ensures.first c.args.terms.now c.requires.sides

pub list_source-requires-2-clause-kept : goal.list_source-requires-2-clause-kept
list_source-requires-2-clause-kept c = c.goal_sources-first.ensures.second c.args.terms.now c.requires.sides

pub returns : goal.returns
returns c =
    let nodes = c.args.terms.now in
    λ names commands.
    listed_goals nodes c.new-list.result c.list_source.new.self c.list_source-2.new.self c.add.new.self _ _ (pair_goals nodes c.args.statement) c.args.statement c.new-list.ensures.goals
    c.in_ok-list_source.ensures c.in_ok-list_source-2.ensures c.in_ok-add.ensures (c.goal_sources-first.ensures.goals nodes)
