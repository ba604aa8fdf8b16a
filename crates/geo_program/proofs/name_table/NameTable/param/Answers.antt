use Rattle.std.proofs.Common.{◌<◌, List, ap, subst, sym, ◌∙◌, arith}
use Rattle.geo_program.specs.declared.names.Name.{Name}
use Rattle.geo_program.specs.declared.names.NameKind.TheVariants.{Param}
use Rattle.geo_program.specs.Names.{name_text}
use Rattle.geo_program.specs.Inner.Printing.{whole_scope}
use Rattle.geo_program.proofs.TableLemmas.{table_text, table_within}
use Rattle.geo_program.proofs.name_table.NameTable.param.Goals as goal

pub index-requires : goal.index-requires
index-requires c =
    let within = subst (λ (names : List Name). c.args.t.0 < (whole_scope names).params) (sym c.self.view_is) c.requires in
    let inside = table_within Param c.self.inside.names.now c.self.inside.params.items c.self.invariant.params c.args.t.0 within in
    omega (arith, c.self.inside.params.ok.0)

pub returns : goal.returns
returns c =
    let within = subst (λ (names : List Name). c.args.t.0 < (whole_scope names).params) (sym c.self.view_is) c.requires in
    table_text Param c.self.inside.names.now c.self.inside.params.items c.self.invariant.params c.args.t.0 within c.index.result.now c.index.ensures
    ∙ ap (λ names. name_text Param names c.args.t.0) c.self.view_is
