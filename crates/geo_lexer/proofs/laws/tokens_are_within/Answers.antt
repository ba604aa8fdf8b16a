use Rattle.geo_lexer.proofs.TokenListLemmas.{StandInRow-lexed, fault_is_after, fault_is_within}
use Rattle.geo_lexer.proofs.laws.tokens_are_within.Goals as goal

pub returns : goal.returns
returns c = record {
  at_places = λ bytes tokens fault lexed. (StandInRow-lexed bytes tokens fault lexed).at_places;
  within = λ bytes tokens fault lexed. (StandInRow-lexed bytes tokens fault lexed).within;
  in_order = λ bytes tokens fault lexed. (StandInRow-lexed bytes tokens fault lexed).in_order;
  fault_within = fault_is_within;
  fault_after = fault_is_after;
}
