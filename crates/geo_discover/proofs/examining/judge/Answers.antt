use Rattle.geo_discover.proofs.examining.judge.Goals as goal

pub judge_goal-requires-clause-goal : goal.judge_goal-requires-clause-goal
judge_goal-requires-clause-goal c = record {
  stored = c.in_ok-goal.ensures.stored;
  item = c.in_ok-goal.ensures.item;
  bytes = c.in_ok-goal.ensures.bytes;
}
