use Rattle.geo_parser.proofs.UnrefusedPrograms.{texts_spell_or_are_refused}
use Rattle.geo_parser.proofs.laws.texts_spell_or_are_refused.Goals as goal

pub returns : goal.returns
returns c = texts_spell_or_are_refused
