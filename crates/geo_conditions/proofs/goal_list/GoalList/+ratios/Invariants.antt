use Rattle.std.proofs.Common.{◌+◌, ◌*◌}
use Rattle.std.specs.Prelude.{max}
use Rattle.geo_program.specs.Expressions.{nesting}
use Rattle.geo_terms.specs.Stores.{tree_of}
use Rattle.geo_conditions.proofs.goal_list.GoalList.+ratios.Given as goal

abbrev pub decreases-list_both : goal.decreases-list_both
decreases-list_both l = 3 * max (nesting (tree_of l.terms.now l.e)) (nesting (tree_of l.terms.now l.f)) + 2

abbrev pub decreases-list_ratios : goal.decreases-list_ratios
decreases-list_ratios l = 3 * nesting (tree_of l.terms.now l.e) + 1

abbrev pub decreases-list_parts : goal.decreases-list_parts
decreases-list_parts l = 3 * nesting (tree_of l.terms.now l.e)
