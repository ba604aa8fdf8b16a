use Rattle.std.proofs.Common.{refl}
use Rattle.elim_area.specs.AreaTable.{area_table}
use Rattle.elim_area.proofs.AreaSoundness.{area_rows_hold, area_rows_light}
use Rattle.fraction_poly.proofs.TableLemmas.{light_at, sound_at}
use Rattle.elim_area.proofs.area_rows.AreaRowsRows.draft.Goals as goal

pub returns-clause-light : goal.returns-clause-light
returns-clause-light c = light_at area_table c.args.steps.now c.args.at c.args.var area_rows_light

pub returns-clause-sound : goal.returns-clause-sound
returns-clause-sound c = λ placed met has. sound_at area_table c.args.steps.now c.args.at c.args.var area_rows_hold placed (met refl) has
