use Rattle.geo_program.proofs.OneText.{same_text}
use Rattle.geo_program.proofs.laws.same_programs_have_the_same_text.Goals as goal

pub returns : goal.returns
returns c = same_text
