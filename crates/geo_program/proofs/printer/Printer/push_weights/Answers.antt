use Rattle.std.proofs.Common.{map}
use Rattle.std.proofs.lemmas.Result.{on_ok_weaker}
use Rattle.geo_program.specs.Expressions.{expression_lexemes, point_lexeme}
use Rattle.geo_program.specs.Forms.{number_argument, point_argument}
use Rattle.geo_program.proofs.Spacing.{◌⟫◌, appends, appends_same, flat_map-numbers}
use Rattle.geo_program.proofs.printer.Printer.push_weights.Goals as goal
use Rattle.geo_terms.specs.Stores.{tree_of}

pub returns : goal.returns
returns c =
    let names = c.args.self.now.names in
    let nodes = c.args.self.now.terms.now in
    let r = tree_of nodes c.args.r in
    let s = tree_of nodes c.args.s in
    let first = appends _ _ _ c.in_ok-push_numbered.ensures in
    on_ok_weaker c.push_expression.result
    (λ last. (appends_same _ (first ⟫ appends _ _ (expression_lexemes names s) last) (flat_map-numbers names c.args.points.now r s)).is)
    c.push_expression.ensures
