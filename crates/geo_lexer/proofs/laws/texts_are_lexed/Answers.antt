use Rattle.geo_lexer.proofs.Lexings.{texts_are_lexed}
use Rattle.geo_lexer.proofs.laws.texts_are_lexed.Goals as goal

pub returns : goal.returns
returns c = texts_are_lexed
