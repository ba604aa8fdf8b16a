use Rattle.std.proofs.Common.{sym, ◌∙◌, ap, subst, length}
use Rattle.geo_library.specs.declared.goals.Goal.{Goal}
use Rattle.geo_library.specs.Inner.Goals.{IsGoalWithin, goal_tree}
use Rattle.geo_library.proofs.AskedGoals.{asks_one, goal_renamed, goal_stored, within_places}
use Rattle.geo_library.proofs.asking.ask_goal.Goals as goal

pub goal-requires : goal.goal-requires
goal-requires c = within_places c.args.terms.now c.args.steps.now.nodes c.args.places.now c.requires.placed c.args.goal c.requires.within

pub intern_goal-requires : goal.intern_goal-requires
intern_goal-requires c =
    subst (λ (g : Goal). IsGoalWithin (length c.args.steps.now.nodes) g) (sym c.goal.ensures)
    (goal_stored c.args.terms.now c.args.steps.now.nodes c.args.places.now c.requires.placed c.args.goal c.requires.within)

pub returns : goal.returns
returns c =
    asks_one c.args.steps.now c.intern_goal.new.steps c.args.asked.now.items c.push.new.self.items c.args.line c.in_ok-term.term _ _ c.in_ok-term.ensures
    (ap (λ (g : Goal). goal_tree c.args.steps.now.nodes g) c.goal.ensures ∙ goal_renamed c.args.terms.now c.args.steps.now.nodes c.args.places.now c.requires.placed c.args.goal c.requires.within)
    c.in_ok-push.ensures.items
