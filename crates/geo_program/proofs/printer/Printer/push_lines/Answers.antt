use Rattle.std.proofs.lemmas.Result.{on_ok_weaker}
use Rattle.geo_program.specs.declared.names.NameKind.TheVariants.{Line}
use Rattle.geo_program.specs.Names.{name_text}
use Rattle.geo_program.proofs.Spacing.{◌⟫◌, appends_token}
use Rattle.geo_program.proofs.printer.Printer.push_lines.Goals as goal

pub returns : goal.returns
returns c =
    let names = c.args.self.now.names in
    let first = appends_token _ _ _ (name_text Line names c.args.a.0) c.in_ok-push_token.ensures c.line.ensures in
    on_ok_weaker c.push_token-2.result
    (λ last. (first ⟫ appends_token _ _ _ (name_text Line names c.args.b.0) last c.line-2.ensures).is)
    c.push_token-2.ensures
