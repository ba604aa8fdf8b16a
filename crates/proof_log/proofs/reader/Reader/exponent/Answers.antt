use Rattle.std.proofs.Common.{◌≡◌, ◌∷◌, refl, arith, rules}
use Rattle.std.specs.Prelude.{slice_get, Some}
use Rattle.proof_log.specs.Inner.Reading.{is_exponent_byte}
use Rattle.proof_log.proofs.Found.{exponent_unfit, next_is}
use Rattle.proof_log.proofs.Unique.{not_stopped}
use Rattle.proof_log.proofs.reader.Reader.exponent.Goals.{then-exponent-lt2-via-then-exponent-lt2}
use Rattle.proof_log.proofs.reader.Reader.exponent.Goals.{then-exponent-lt2-via-else-exponent-lt2+then-exponent-gt-MAX_DEGREE}
use Rattle.proof_log.proofs.reader.Reader.exponent.Goals.{then-exponent-lt2-via-else-exponent-lt2+else-exponent-gt-MAX_DEGREE+then-is_next}
use Rattle.proof_log.proofs.reader.Reader.exponent.Goals as goal

pub returns-then-exponent-lt2-clause-none : goal.returns-then-exponent-lt2-clause-none
returns-then-exponent-lt2-clause-none c = λ _.
    let caret : c.args.self.now ≡ 94 ∷ c.literal.new.self = search rules in
    exponent_unfit c.args.self.now c.literal.new.self caret c.in_ok-exponent.exponent c.small.new.self c.in_ok-exponent.ensures.some
    (λ low high stops. elim c.then-exponent-lt2.branch [
      | then-exponent-lt2-via-then-exponent-lt2 w ↦ omega arith
      | then-exponent-lt2-via-else-exponent-lt2+then-exponent-gt-MAX_DEGREE w ↦ omega arith
      | then-exponent-lt2-via-else-exponent-lt2+else-exponent-gt-MAX_DEGREE+then-is_next w ↦
          let is : slice_get c.small.new.self 0 ≡ Some 94 = w.is_next.ensures.0 w.if-is_next.true in
          let more = next_is c.small.new.self 94 is in
          not_stopped is_exponent_byte 94 more.0 c.small.new.self refl stops more.1
    ])
