use Rattle.area_coords.specs.FreeTable.{free_table}
use Rattle.area_coords.proofs.FreeSoundness.{free_rows_hold, free_rows_light}
use Rattle.fraction_poly.proofs.TableLemmas.{light_at, sound_anywhere_at}
use Rattle.area_coords.proofs.coord_rows.CoordRowsRows.draft.Goals as goal

pub returns-clause-light : goal.returns-clause-light
returns-clause-light c = light_at free_table c.args.steps.now c.args.at c.args.var free_rows_light

pub returns-clause-sound : goal.returns-clause-sound
returns-clause-sound c = λ placed met has. sound_anywhere_at free_table c.args.steps.now c.args.at c.args.var free_rows_hold placed has
