use Rattle.std.proofs.Common.{Option, Some, map, refl}
use Rattle.geo_poly.specs.declared.rows.Row.{Row}
use Rattle.geo_poly.specs.declared.variables.Var.TheVariants.{R}
use Rattle.elim_apply.specs.declared.numbered.NumberedRow.{NumberedRow}
use Rattle.elim_apply.specs.LemmaTable.{lemma_table}
use Rattle.elim_apply.proofs.NumberedRows.{mapped_push, some_length}
use Rattle.elim_apply.proofs.made.made_rows.Goals as goal

abbrev none : NumberedRow
none = record {
  var = R (record { 0 = 0 }) (record { 0 = 0 }) (record { 0 = 0 }) (record { 0 = 0 });
  numbers = record { power = 0; wa = 0; ka = 0; ga = 0; wb = 0; kb = 0; gb = 0; charge = 0 };
}

pub take_row-requires-clause-row : goal.take_row-requires-clause-row
take_row-requires-clause-row c = c.requires.rows c.loop-row.row-index none c.loop-row-test.true

pub loop-row-preserved : goal.loop-row-preserved
loop-row-preserved c =
    let row : NumberedRow → Option Row = λ n. lemma_table.row c.args.steps.now c.args.mv.now n.var in
    record {
      rows =
          mapped_push row c.args.numbered.now c.loop-row.row-index none c.loop-row-test.true
          (map Some c.loop-row.items.items) (map Some c.take_row.new.rows.items) _
          c.in_ok-take_row.ensures.row c.loop-row.invariant.rows refl;
      known = c.in_ok-take_row.ensures.known;
    }

pub take_denominator-requires-clause-row : goal.take_denominator-requires-clause-row
take_denominator-requires-clause-row c = c.requires.rows 0 none (some_length c.args.numbered.now c.requires.some)
