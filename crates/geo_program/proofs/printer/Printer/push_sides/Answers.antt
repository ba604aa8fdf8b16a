use Rattle.std.proofs.Common.{◌++◌, sym, ap}
use Rattle.std.proofs.lemmas.List.{append-nil}
use Rattle.std.proofs.lemmas.Result.{on_ok_weaker}
use Rattle.geo_program.specs.Expressions.{braced, expression_lexemes}
use Rattle.geo_program.proofs.Spacing.{◌⟫◌, appends, appends_same}
use Rattle.geo_program.proofs.printer.Printer.push_sides.Goals as goal
use Rattle.geo_terms.specs.Stores.{tree_of}

pub returns : goal.returns
returns c =
    let names = c.args.self.now.names in
    let nodes = c.args.self.now.terms.now in
    let e = braced (expression_lexemes names (tree_of nodes c.args.e)) in
    let f = braced (expression_lexemes names (tree_of nodes c.args.f)) in
    let first = appends _ _ e c.in_ok-push_braced.ensures in
    on_ok_weaker c.push_braced-2.result
    (λ last. (appends_same _ (first ⟫ appends _ _ f last) (ap (λ l. e ++ l) (sym (append-nil f)))).is)
    c.push_braced-2.ensures
