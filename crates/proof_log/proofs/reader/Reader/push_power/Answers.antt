use Rattle.std.proofs.Common.{◌≡◌, ℕ, true, false, sym, ◌∙◌, arith}
use Rattle.geo_poly.specs.declared.variables.Var.{Var}
use Rattle.proof_log.specs.Inner.Reading.{Begins, single_powers}
use Rattle.proof_log.specs.declared.errors.LineError.TheVariants.{BadLine}
use Rattle.proof_log.proofs.Growth.{from_ok_or, power_misplaced, power_pushed, power_too_high, powers_before}
use Rattle.proof_log.proofs.reader.Reader.push_power.Goals.{then-exponent-degree-via-then-exponent-degree, then-exponent-degree-via-else-exponent-degree+then-not-is_behind}
use Rattle.proof_log.proofs.reader.Reader.push_power.Goals as goal

pub returns-then-exponent-degree-clause-bad : goal.returns-then-exponent-degree-clause-bad
returns-then-exponent-degree-clause-bad c = λ _.
    let p : Var × ℕ = (c.in_ok-variable.variable, c.in_ok-variable.exponent) in
    let read = from_ok_or (λ p. Begins single_powers c.args.self.now p c.power.new.self) c.power.result BadLine c.ok_or.result
    (c.in_ok-variable.variable, c.in_ok-variable.exponent) c.ok_or.ensures.value c.in_ok-variable.was c.power.ensures.some in
    elim c.then-exponent-degree.branch [
      | then-exponent-degree-via-then-exponent-degree w ↦ power_too_high c.args.factor.now.0 p c.args.self.now c.power.new.self read
          (λ fits. omega (arith, c.requires.degree, c.requires.written.monomial.degree_fits, w.if-exponent-degree.true))
      | then-exponent-degree-via-else-exponent-degree+then-not-is_behind w ↦ power_misplaced c.args.factor.now.0 p c.args.self.now
          c.power.new.self read (λ last. let e : true ≡ false = sym (w.is_behind.ensures.1 last) ∙ w.if-not-is_behind.true in cc)
    ]

pub times-requires-clause-later : goal.times-requires-clause-later
times-requires-clause-later c = powers_before c.args.factor.now.0 (c.in_ok-variable.variable, c.in_ok-variable.exponent) c.requires.written (c.is_behind.ensures.0 c.if-not-is_behind.false)

pub returns-clause-read : goal.returns-clause-read
returns-clause-read c =
    let read = from_ok_or (λ p. Begins single_powers c.args.self.now p c.power.new.self) c.power.result BadLine c.ok_or.result
    (c.in_ok-variable.variable, c.in_ok-variable.exponent) c.ok_or.ensures.value c.in_ok-variable.was c.power.ensures.some in
    power_pushed c.args.self.now c.power.new.self c.args.factor.now c.times.new.self
    (c.in_ok-variable.variable, c.in_ok-variable.exponent) c.args.degree read c.requires.written c.requires.degree
    c.if-exponent-degree.false (c.is_behind.ensures.0 c.if-not-is_behind.false) c.in_ok-times.ensures.ok
