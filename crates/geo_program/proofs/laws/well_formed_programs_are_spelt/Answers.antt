use Rattle.geo_program.proofs.LinesSpelt.{well_formed_is_spelt}
use Rattle.geo_program.proofs.laws.well_formed_programs_are_spelt.Goals as goal

pub returns : goal.returns
returns c = well_formed_is_spelt
