use Rattle.std.proofs.Common.{◌≡◌, ap, ◌∙◌, rules, Err}
use Rattle.geo_program.specs.CanonicalText.{canonical_text}
use Rattle.geo_program.specs.Programs.{source_of}
use Rattle.log_checker.proofs.ProgramTexts.{differs, not_spelt}
use Rattle.log_checker.proofs.work.canonical_program.Goals as goal

pub returns-in-Err-Syntax-clause-refused : goal.returns-in-Err-Syntax-clause-refused
returns-in-Err-Syntax-clause-refused c =
    not_spelt c.args.bytes.now c.in-Err-Syntax.field-0-0 (c.in-Err-Syntax.ensures.refused c.in-Err-Syntax.field-0-0 (ap (λ e. Err e) c.in-Err-Syntax.field-0-is))

pub returns-then-ne-clause-refused : goal.returns-then-ne-clause-refused
returns-then-ne-clause-refused c =
    let text : c.as_slice.result.now ≡ canonical_text (source_of c.in-Ok.program) = search rules in
    differs c.args.bytes.now (source_of c.in-Ok.program) c.in-Ok.ensures.spelt
    (λ (e : canonical_text (source_of c.in-Ok.program) ≡ c.args.bytes.now). let same : c.as_slice.result.now ≡ c.args.bytes.now = text ∙ e in search rules)
