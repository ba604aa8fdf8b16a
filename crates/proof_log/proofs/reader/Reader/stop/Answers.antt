use Rattle.std.proofs.Common.{◌≡◌, true, false, sym, ◌∙◌}
use Rattle.proof_log.specs.declared.errors.LineError.TheVariants.{BadLine}
use Rattle.proof_log.specs.Inner.Reading.{Begins, naturals}
use Rattle.proof_log.proofs.Bodies.{no_which, stop_other}
use Rattle.proof_log.proofs.Growth.{from_ok_or}
use Rattle.proof_log.proofs.reader.Reader.stop.Goals as goal

pub returns-else-is_rest-2-clause-bad : goal.returns-else-is_rest-2-clause-bad
returns-else-is_rest-2-clause-bad c = λ _.
    stop_other c.args.self.now c.natural.new.self c.in_ok-line.line
    (from_ok_or (λ z. Begins (naturals 64) c.args.self.now z c.natural.new.self) c.natural.result BadLine c.ok_or.result
    c.in_ok-line.line c.ok_or.ensures.value c.in_ok-line.was c.natural.ensures.some)
    (no_which c.natural.new.self
    (λ e. let f : true ≡ false = sym (c.is_rest.ensures.1 e) ∙ c.if-is_rest.false in cc)
    (λ e. let f : true ≡ false = sym (c.is_rest-else-is_rest.ensures.1 e) ∙ c.if-is_rest-2.false in cc))
