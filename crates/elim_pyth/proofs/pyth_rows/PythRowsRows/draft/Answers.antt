use Rattle.std.proofs.Common.{refl}
use Rattle.elim_pyth.specs.DifferenceTable.{difference_table}
use Rattle.elim_pyth.proofs.DifferenceSoundness.{difference_rows_hold, difference_rows_light}
use Rattle.fraction_poly.proofs.TableLemmas.{light_at, sound_at}
use Rattle.elim_pyth.proofs.pyth_rows.PythRowsRows.draft.Goals as goal

pub returns-clause-light : goal.returns-clause-light
returns-clause-light c = light_at difference_table c.args.steps.now c.args.at c.args.var difference_rows_light

pub returns-clause-sound : goal.returns-clause-sound
returns-clause-sound c = λ placed met has. sound_at difference_table c.args.steps.now c.args.at c.args.var difference_rows_hold placed (met refl) has
