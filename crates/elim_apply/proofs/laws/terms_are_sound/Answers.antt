use Rattle.geo_logs.proofs.TermVariables.{term_sound}
use Rattle.elim_apply.proofs.laws.terms_are_sound.Goals as goal

pub returns : goal.returns
returns c = term_sound
