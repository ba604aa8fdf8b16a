use Rattle.std.proofs.Common.{map}
use Rattle.std.proofs.lemmas.Result.{on_ok_weaker}
use Rattle.geo_program.specs.Expressions.{expression_lexemes, point_lexeme}
use Rattle.geo_program.proofs.Spacing.{◌⟫◌, appends, appends_same, flat_map-points}
use Rattle.geo_program.proofs.printer.Printer.push_numbered.Goals as goal
use Rattle.geo_terms.specs.Stores.{tree_of}

pub returns : goal.returns
returns c =
    let names = c.args.self.now.names in
    let tree = tree_of c.args.self.now.terms.now c.args.r in
    let first = appends _ _ (map (point_lexeme names) c.args.points.now) c.in_ok-push_points.ensures in
    on_ok_weaker c.push_expression.result
    (λ last. (appends_same _ (first ⟫ appends _ _ (expression_lexemes names tree) last) (flat_map-points names c.args.points.now tree)).is)
    c.push_expression.ensures
