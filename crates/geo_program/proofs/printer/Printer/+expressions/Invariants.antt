use Rattle.std.proofs.Common.{◌+◌, ◌*◌}
use Rattle.std.specs.Prelude.{max}
use Rattle.geo_program.specs.Expressions.{nesting}
use Rattle.geo_program.proofs.printer.Printer.+expressions.Given as goal
use Rattle.geo_terms.specs.Stores.{tree_of}

abbrev pub decreases-push_braced : goal.decreases-push_braced
decreases-push_braced l = 3 * nesting (tree_of l.self.now.terms.now l.e) + 1

abbrev pub decreases-push_expression : goal.decreases-push_expression
decreases-push_expression l = 3 * nesting (tree_of l.self.now.terms.now l.e)

abbrev pub decreases-push_operation : goal.decreases-push_operation
decreases-push_operation l = 3 * max (nesting (tree_of l.self.now.terms.now l.e)) (nesting (tree_of l.self.now.terms.now l.f)) + 2
