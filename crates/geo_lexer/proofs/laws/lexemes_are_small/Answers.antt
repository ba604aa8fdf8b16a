use Rattle.geo_lexer.proofs.Meanings.{lexemes_may_stand}
use Rattle.geo_lexer.proofs.laws.lexemes_are_small.Goals as goal

pub returns : goal.returns
returns c = lexemes_may_stand
