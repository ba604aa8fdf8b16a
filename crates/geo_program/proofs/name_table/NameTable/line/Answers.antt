use Rattle.std.proofs.Common.{◌<◌, List, ap, subst, sym, ◌∙◌, arith}
use Rattle.geo_program.specs.declared.names.Name.{Name}
use Rattle.geo_program.specs.declared.names.NameKind.TheVariants.{Line}
use Rattle.geo_program.specs.Names.{name_text}
use Rattle.geo_program.specs.Inner.Printing.{whole_scope}
use Rattle.geo_program.proofs.TableLemmas.{table_text, table_within}
use Rattle.geo_program.proofs.name_table.NameTable.line.Goals as goal

pub index-requires : goal.index-requires
index-requires c =
    let within = subst (λ (names : List Name). c.args.a.0 < (whole_scope names).lines) (sym c.self.view_is) c.requires in
    let inside = table_within Line c.self.inside.names.now c.self.inside.lines.items c.self.invariant.lines c.args.a.0 within in
    omega (arith, c.self.inside.lines.ok.0)

pub returns : goal.returns
returns c =
    let within = subst (λ (names : List Name). c.args.a.0 < (whole_scope names).lines) (sym c.self.view_is) c.requires in
    table_text Line c.self.inside.names.now c.self.inside.lines.items c.self.invariant.lines c.args.a.0 within c.index.result.now c.index.ensures
    ∙ ap (λ names. name_text Line names c.args.a.0) c.self.view_is
