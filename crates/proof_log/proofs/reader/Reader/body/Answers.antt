use Rattle.std.proofs.Common.{ap, subst}
use Rattle.std.specs.Prelude.{Err}
use Rattle.proof_log.specs.declared.errors.LineError.TheVariants.{BadLine}
use Rattle.proof_log.specs.declared.leads.Lead.{Lead}
use Rattle.proof_log.specs.Inner.Leads.{IsBody}
use Rattle.proof_log.proofs.BodyReading.{coords_refused, false_refused, header_refused, impossible_refused, program_refused, sample_refused, spent_refused, start_refused, too_large_refused}
use Rattle.proof_log.proofs.Growth.{bad_error}
use Rattle.proof_log.proofs.reader.Reader.body.Goals as goal

pub returns-in_err-version-in-Header-clause-bad : goal.returns-in_err-version-in-Header-clause-bad
returns-in_err-version-in-Header-clause-bad c = λ is l h.
    header_refused c.args.self.now (c.in_err-version-in-Header.ensures.bad (ap Err (bad_error c.from_residual.result c.in_err-version-in-Header.field-0.0 BadLine c.from_residual.ensures.1 is)))
    l (subst (λ (k : Lead). IsBody k c.args.self.now l) c.in-Header.is h)

pub returns-in_err-text-in-Program-clause-bad : goal.returns-in_err-text-in-Program-clause-bad
returns-in_err-text-in-Program-clause-bad c = λ is l h.
    program_refused c.args.self.now
    (c.in_err-text-in-Program.ensures.bad
    (ap Err (bad_error c.from_residual-in_err-text-in-Program.result c.in_err-text-in-Program.field-0.0 BadLine
    c.from_residual-in_err-text-in-Program.ensures.1 is)))
    l (subst (λ (k : Lead). IsBody k c.args.self.now l) c.in-Program.is h)

pub returns-in_err-polynomial-in-Start-clause-bad : goal.returns-in_err-polynomial-in-Start-clause-bad
returns-in_err-polynomial-in-Start-clause-bad c = λ is l h.
    start_refused c.args.self.now (c.in_err-polynomial-in-Start.ensures.bad
    (ap Err (bad_error c.from_residual-in_err-polynomial-in-Start.result c.in_err-polynomial-in-Start.field-0.0 BadLine
    c.from_residual-in_err-polynomial-in-Start.ensures.1 is)))
    l (subst (λ (k : Lead). IsBody k c.args.self.now l) c.in-Start.is h)

pub returns-in_err-polynomial-in-Coords-clause-bad : goal.returns-in_err-polynomial-in-Coords-clause-bad
returns-in_err-polynomial-in-Coords-clause-bad c = λ is l h.
    coords_refused c.args.self.now
    (c.in_err-polynomial-in-Coords.ensures.bad
    (ap Err (bad_error c.from_residual-in_err-polynomial-in-Coords.result c.in_err-polynomial-in-Coords.field-0.0 BadLine
    c.from_residual-in_err-polynomial-in-Coords.ensures.1 is)))
    l (subst (λ (k : Lead). IsBody k c.args.self.now l) c.in-Coords.is h)

pub returns-in_err-values-in-Sample-clause-bad : goal.returns-in_err-values-in-Sample-clause-bad
returns-in_err-values-in-Sample-clause-bad c = λ is l h.
    sample_refused c.args.self.now
    (c.in_err-values-in-Sample.ensures.bad
    (ap Err (bad_error c.from_residual-in_err-values-in-Sample.result c.in_err-values-in-Sample.field-0.0 BadLine
    c.from_residual-in_err-values-in-Sample.ensures.1 is)))
    l (subst (λ (k : Lead). IsBody k c.args.self.now l) c.in-Sample.is h)

pub returns-in_err-last_small-in-False-clause-bad : goal.returns-in_err-last_small-in-False-clause-bad
returns-in_err-last_small-in-False-clause-bad c = λ is l h.
    false_refused c.args.self.now (c.in_err-last_small-in-False.ensures.bad
    (ap Err (bad_error c.from_residual-in_err-last_small-in-False.result c.in_err-last_small-in-False.field-0.0 BadLine
    c.from_residual-in_err-last_small-in-False.ensures.1 is)))
    l (subst (λ (k : Lead). IsBody k c.args.self.now l) c.in-False.is h)

pub returns-in_err-last_small-in-Impossible-clause-bad : goal.returns-in_err-last_small-in-Impossible-clause-bad
returns-in_err-last_small-in-Impossible-clause-bad c = λ is l h.
    impossible_refused c.args.self.now
    (c.in_err-last_small-in-Impossible.ensures.bad
    (ap Err (bad_error c.from_residual-in_err-last_small-in-Impossible.result c.in_err-last_small-in-Impossible.field-0.0 BadLine
    c.from_residual-in_err-last_small-in-Impossible.ensures.1 is)))
    l (subst (λ (k : Lead). IsBody k c.args.self.now l) c.in-Impossible.is h)

pub returns-in_err-line-in-TooLarge-clause-bad : goal.returns-in_err-line-in-TooLarge-clause-bad
returns-in_err-line-in-TooLarge-clause-bad c = λ is l h.
    too_large_refused c.args.self.now
    (c.in_err-line-in-TooLarge.ensures.bad
    (ap Err (bad_error c.from_residual-in_err-line-in-TooLarge.result c.in_err-line-in-TooLarge.field-0.0 BadLine
    c.from_residual-in_err-line-in-TooLarge.ensures.1 is)))
    l (subst (λ (k : Lead). IsBody k c.args.self.now l) c.in-TooLarge.is h)

pub returns-in_err-last_natural-in-Spent-clause-bad : goal.returns-in_err-last_natural-in-Spent-clause-bad
returns-in_err-last_natural-in-Spent-clause-bad c = λ is l h.
    spent_refused c.args.self.now (c.in_err-last_natural-in-Spent.ensures.bad
    (ap Err (bad_error c.from_residual-in_err-last_natural-in-Spent.result c.in_err-last_natural-in-Spent.field-0.0 BadLine
    c.from_residual-in_err-last_natural-in-Spent.ensures.1 is)))
    l (subst (λ (k : Lead). IsBody k c.args.self.now l) c.in-Spent.is h)
