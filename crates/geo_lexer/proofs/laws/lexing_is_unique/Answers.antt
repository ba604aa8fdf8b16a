use Rattle.geo_lexer.proofs.Uniqueness.{one_lexing}
use Rattle.geo_lexer.proofs.laws.lexing_is_unique.Goals as goal

pub returns : goal.returns
returns c = one_lexing
