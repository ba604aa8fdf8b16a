use Rattle.elim_ratio.specs.RatioTable.{ratio_table}
use Rattle.elim_ratio.proofs.RatioSoundness.{rows_hold_looking, ratio_rows_light}
use Rattle.fraction_poly.specs.TableRows.{RowHolds, made_row}
use Rattle.fraction_poly.proofs.TableLemmas.{each_row, light_at}
use Rattle.elim_ratio.proofs.ratio_rows.RatioRowsRows.draft.Goals as goal

pub returns-clause-light : goal.returns-clause-light
returns-clause-light c =
    let lemma = c.args.self.now.lemma in light_at (ratio_table lemma) c.args.steps.now c.args.at c.args.var (ratio_rows_light lemma)

pub returns-clause-sound : goal.returns-clause-sound
returns-clause-sound c = λ placed met has.
    let lemma = c.args.self.now.lemma in
    each_row (ratio_table lemma c.args.steps.now c.args.at c.args.var) (λ t. RowHolds placed (made_row c.args.var t).0 (made_row c.args.var t).1)
    (λ t e. rows_hold_looking lemma c.args.steps.now c.args.at c.args.var t e placed met has)
