use Rattle.geo_program.proofs.OneProgram.{spells_one}
use Rattle.geo_program.proofs.laws.text_spells_one_program.Goals as goal

pub returns : goal.returns
returns c = spells_one
