use Rattle.std.proofs.Common.{◌≡◌, ◌++◌, ap}
use Rattle.std.specs.Prelude.{Err, codes}
use Rattle.proof_log.specs.declared.errors.LineError.TheVariants.{BadLine}
use Rattle.proof_log.specs.Inner.Leads.{lemmas}
use Rattle.proof_log.specs.Inner.Reading.{Begins, variables}
use Rattle.proof_log.proofs.BodyReading.{ratio_no_by, ratio_no_lemma, ratio_no_result}
use Rattle.proof_log.proofs.Growth.{bad_error, from_err, from_ok_or}
use Rattle.proof_log.proofs.reader.Reader.ratio.Goals as goal

pub returns-in_err-ok_or-clause-bad : goal.returns-in_err-ok_or-clause-bad
returns-in_err-ok_or-clause-bad c =
    λ _. ratio_no_by c.args.self.now c.variable.new.self c.in_ok-var.var
    (from_ok_or (λ z. Begins variables c.args.self.now z c.variable.new.self) c.variable.result BadLine c.ok_or.result c.in_ok-var.var
    c.ok_or.ensures.value c.in_ok-var.was c.variable.ensures.some)
    (c.literal.ensures.none (from_err c.literal.result BadLine c.ok_or-2.result c.in_err-ok_or.field-0.0 c.ok_or-2.ensures.value
    c.in_err-ok_or.was))

pub returns-in_err-lemma-clause-bad : goal.returns-in_err-lemma-clause-bad
returns-in_err-lemma-clause-bad c =
    λ _. ratio_no_lemma c.args.self.now c.variable.new.self c.in_ok-var.var
    (from_ok_or (λ z. Begins variables c.args.self.now z c.variable.new.self) c.variable.result BadLine c.ok_or.result c.in_ok-var.var
    c.ok_or.ensures.value c.in_ok-var.was c.variable.ensures.some) c.literal.new.self
    (from_ok_or (λ _. c.variable.new.self ≡ codes " by " ++ c.literal.new.self) c.literal.result BadLine c.ok_or-2.result
    c.in_ok-ok_or.field-0 c.ok_or-2.ensures.value c.in_ok-ok_or.was c.literal.ensures.some)
    (c.lemma.ensures.none (from_err c.lemma.result BadLine c.ok_or-3.result c.in_err-lemma.field-0.0 c.ok_or-3.ensures.value
    c.in_err-lemma.was))

pub returns-in_err-poly-clause-bad : goal.returns-in_err-poly-clause-bad
returns-in_err-poly-clause-bad c =
    λ is. ratio_no_result c.args.self.now c.variable.new.self c.in_ok-var.var
    (from_ok_or (λ z. Begins variables c.args.self.now z c.variable.new.self) c.variable.result BadLine c.ok_or.result c.in_ok-var.var
    c.ok_or.ensures.value c.in_ok-var.was c.variable.ensures.some) c.literal.new.self
    (from_ok_or (λ _. c.variable.new.self ≡ codes " by " ++ c.literal.new.self) c.literal.result BadLine c.ok_or-2.result
    c.in_ok-ok_or.field-0 c.ok_or-2.ensures.value c.in_ok-ok_or.was c.literal.ensures.some)
    (c.in_ok-lemma.lemma, c.in_ok-lemma.at) c.lemma.new.self
    (from_ok_or (λ z. Begins lemmas c.literal.new.self (z.0, z.1) c.lemma.new.self) c.lemma.result BadLine c.ok_or-3.result
    (c.in_ok-lemma.lemma, c.in_ok-lemma.at) c.ok_or-3.ensures.value c.in_ok-lemma.was c.lemma.ensures.some)
    (c.in_err-poly.ensures.bad (ap Err
    (bad_error c.from_residual-in_err-poly.result c.in_err-poly.field-0.0 BadLine c.from_residual-in_err-poly.ensures.1 is)))
