use Rattle.std.proofs.Common.{ℕ, List, arith}
use Rattle.geo_lexer.specs.declared.token_types.Token.{Token}
use Rattle.geo_lexer.specs.Tokens.{AreTokens}
use Rattle.geo_lexer.proofs.TokenListLemmas.{AreTokens-push, IsTokenAt-within, StandInRow, StandInRow-tokens}
use Rattle.geo_lexer.proofs.lexing.tokens.Goals as goal

-- the tokens so far stand in a row
row : (bytes : List ℕ) (tokens : List Token) (end : ℕ) → AreTokens bytes 0 tokens end → StandInRow bytes 0 tokens end
row bytes tokens end are = StandInRow-tokens bytes 0 end tokens (omega arith) are

-- the token that was found is pushed
pub loop-start-preserved : goal.loop-start-preserved
loop-start-preserved c =
    let bytes = c.args.bytes.now in
    let token = c.in-Ok.token in
    let at = c.in-Ok.ensures.token in record {
      within = (IsTokenAt-within bytes token.kind token.start token.end at.1).1;
      tokens = rw c.in_ok-push-in-Ok.ensures.items
          (AreTokens-push bytes 0 c.loop-start.end c.in-Some.start c.loop-start.items.items token c.loop-start.invariant.tokens
          c.in-Some.ensures.gap at.0 at.1);
    }

pub returns-in-Err-clause-within : goal.returns-in-Err-clause-within
returns-in-Err-clause-within c = (row _ c.loop-start.items.items c.loop-start.end c.loop-start.invariant.tokens).within

pub returns-in-Err-clause-in_order : goal.returns-in-Err-clause-in_order
returns-in-Err-clause-in_order c = (row _ c.loop-start.items.items c.loop-start.end c.loop-start.invariant.tokens).in_order

pub returns-clause-within : goal.returns-clause-within
returns-clause-within c = (row _ c.loop-start.items.items c.loop-start.end c.loop-start.invariant.tokens).within

pub returns-clause-in_order : goal.returns-clause-in_order
returns-clause-in_order c = (row _ c.loop-start.items.items c.loop-start.end c.loop-start.invariant.tokens).in_order
