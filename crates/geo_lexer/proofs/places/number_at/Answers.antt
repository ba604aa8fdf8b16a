use Rattle.std.proofs.Common.{◌+◌, refl, inl, inr, arith}
use Rattle.geo_lexer.specs.declared.token_types.Kind.TheVariants.{Number}
use Rattle.geo_lexer.specs.Bytes.{is_digit}
use Rattle.geo_lexer.proofs.Runs.{IsRun, IsRun-prefix_len}
use Rattle.geo_lexer.proofs.TokenLemmas.{BeginsNothing-run, IsNumberAt-run, fault_is, token_is}
use Rattle.geo_lexer.proofs.places.number_at.Goals as goal
use Rattle.geo_lexer.proofs.places.number_at.Goals.{After-digits_end-end}

-- the digits after the first byte
digits : (c : After-digits_end-end) → IsRun is_digit c.args.bytes.now (c.args.start + 1) c.digits_end-end.result
digits c =
    let inside = c.requires.within in
    IsRun-prefix_len is_digit _ (c.args.start + 1) c.digits_end-end.result (omega arith) c.digits_end-end.ensures.run

pub returns-in-Ok-clause-token : goal.returns-in-Ok-clause-token
returns-in-Ok-clause-token c =
    let run = digits (goal.at.returns-in-Ok-clause-token c).After-digits_end-end in
    token_is _ c.token.result Number c.args.start c.digits_end-end.result c.token.ensures.kind c.token.ensures.start c.token.ensures.end
    (IsNumberAt-run _ _ _ run c.in-Ok.ensures.decimal, c.in-Ok.ensures.fits)

pub returns-in-Err-Wide-clause-fault : goal.returns-in-Err-Wide-clause-fault
returns-in-Err-Wide-clause-fault c =
    let run = digits (goal.at.returns-in-Err-Wide-clause-fault c).After-digits_end-end in
    let wide = (rw c.in-Err-Wide.field-0-is at c.in-Err-Wide.ensures.wide).0 refl in
    fault_is _ c.fault.result 2 c.args.start c.fault.ensures.refusal c.fault.ensures.place
    (inr (inl (refl, record { end = c.digits_end-end.result; number = IsNumberAt-run _ _ _ run wide.0; wide = wide.1 })))

pub returns-in-Err-NotDecimal-clause-fault : goal.returns-in-Err-NotDecimal-clause-fault
returns-in-Err-NotDecimal-clause-fault c =
    let run = digits (goal.at.returns-in-Err-NotDecimal-clause-fault c).After-digits_end-end in
    let none = (rw c.in-Err-NotDecimal.field-0-is at c.in-Err-NotDecimal.ensures.not_decimal).0 refl in
    fault_is _ c.fault-in-Err-NotDecimal.result 1 c.args.start c.fault-in-Err-NotDecimal.ensures.refusal c.fault-in-Err-NotDecimal.ensures.place
    (inl (refl, BeginsNothing-run _ c.args.start c.digits_end-end.result c.requires.within c.requires.digit_or_minus run none))
