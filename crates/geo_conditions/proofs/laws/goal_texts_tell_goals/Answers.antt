use Rattle.geo_conditions.proofs.GoalTexts.{goal_texts_tell_goals}
use Rattle.geo_conditions.proofs.laws.goal_texts_tell_goals.Goals as goal

pub returns : goal.returns
returns c = goal_texts_tell_goals
