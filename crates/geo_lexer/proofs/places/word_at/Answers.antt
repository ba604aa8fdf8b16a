use Rattle.std.proofs.Common.{refl, inr, arith}
use Rattle.geo_lexer.specs.declared.token_types.Kind.TheVariants.{Word}
use Rattle.geo_lexer.specs.Bytes.{is_word_byte}
use Rattle.geo_lexer.specs.Tokens.{IsWordAt}
use Rattle.geo_lexer.proofs.Runs.{IsRun-prefix_len}
use Rattle.geo_lexer.proofs.TokenLemmas.{IsWordAt-run, fault_is, token_is}
use Rattle.geo_lexer.proofs.places.word_at.Goals as goal
use Rattle.geo_lexer.proofs.places.word_at.Goals.{After-word_end-end}

-- the bytes up to the end are a word
word : (c : After-word_end-end) → IsWordAt c.args.bytes.now c.args.start c.word_end-end.result
word c =
    IsWordAt-run _ _ _ c.requires.within c.requires.letter
    (IsRun-prefix_len is_word_byte _ c.args.start c.word_end-end.result (omega arith) c.word_end-end.ensures.run)

pub returns-then-end-start-gt-WORD_LIMIT-clause-fault :
    goal.returns-then-end-start-gt-WORD_LIMIT-clause-fault
returns-then-end-start-gt-WORD_LIMIT-clause-fault c =
    let at = word (goal.at.returns-then-end-start-gt-WORD_LIMIT-clause-fault c).After-word_end-end in
    fault_is _ c.fault.result 3 c.args.start c.fault.ensures.refusal c.fault.ensures.place
    (inr (inr (refl, record { end = c.word_end-end.result; word = at; long = omega arith })))

pub returns-clause-token : goal.returns-clause-token
returns-clause-token c =
    let at = word (goal.at.returns-clause-token c).After-word_end-end in
    token_is _ c.token.result Word c.args.start c.word_end-end.result c.token.ensures.kind c.token.ensures.start c.token.ensures.end
    (at, omega arith)
