use Rattle.geo_lexer.proofs.Meanings.{one_meaning}
use Rattle.geo_lexer.proofs.laws.lexemes_are_unique.Goals as goal

pub returns : goal.returns
returns c = one_meaning
