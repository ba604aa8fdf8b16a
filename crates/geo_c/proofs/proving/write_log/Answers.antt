use Rattle.std.proofs.Common.{◌∙◌, ap, Err}
use Rattle.proof_printer.specs.declared.status.Status.TheVariants.{Syntax}
use Rattle.geo_lexer.specs.declared.token_types.Fault.{Fault}
use Rattle.geo_c.proofs.Refused.{refusal_due}
use Rattle.geo_c.proofs.proving.write_log.Goals as goal

pub returns-in-Err-Syntax : goal.returns-in-Err-Syntax
returns-in-Err-Syntax c = λ told.
    let is = c.in-Err-Syntax.is ∙ ap Err c.in-Err-Syntax.field-0-is in
    let same = c.of_fault.ensures ∙ ap (λ (f : Fault). Syntax f.refusal f.place) c.in-Err-Syntax.fault-is in
    refusal_due c.args.text.now c.args.steps c.in-Err-Syntax.fault _ _ c.requires same
    (record { refused = c.parse.ensures.refused _ is; spells_none = c.parse.ensures.spells_none _ is }) c.if-text-gt-PROGRAM_LIMIT.false
