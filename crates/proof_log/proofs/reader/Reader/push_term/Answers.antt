use Rattle.std.proofs.Common.{◌≡◌, ◌+◌, ◌<◌, ◌^◌, ◌++◌, ◌∷◌, [], true, false, sym, ◌∙◌, ap, arith}
use Rattle.geo_poly.specs.Polynomials.{Summands, norm_of}
use Rattle.proof_log.proofs.Growth.{last_first, size_is, term_misplaced, term_pushed, term_too_large}
use Rattle.proof_log.proofs.reader.Reader.push_term.Goals.{then-size-norm-via-then-size-norm, then-size-norm-via-else-size-norm+then-not-is_after}
use Rattle.proof_log.proofs.reader.Reader.push_term.Goals as goal

pub returns-then-size-norm-clause-bad : goal.returns-then-size-norm-clause-bad
returns-then-size-norm-clause-bad c = λ _.
    elim c.then-size-norm.branch [
      | then-size-norm-via-then-size-norm w ↦ term_too_large c.args.list.now c.in_ok-term.term c.args.self.now c.term.new.self
          c.in_ok-term.ensures.read (λ fits. let size = size_is c.coef.result c.in_ok-term.term.1 c.unsigned_abs-size.result
          c.unsigned_abs-size.ensures.value c.coef.ensures.value c.in_ok-term.ensures.read.fits.factor.fits in
          omega (arith, w.if-size-norm.true, c.requires.norm))
      | then-size-norm-via-else-size-norm+then-not-is_after w ↦ term_misplaced c.args.list.now c.in_ok-term.term c.args.self.now
          c.term.new.self c.in_ok-term.ensures.read
          (λ last. let e : true ≡ false = sym
          (w.is_after.ensures.1 ((last_first c.args.list.now c.in_ok-term.term.0 c.requires.written
          c.in_ok-term.ensures.read.fits.factor.monomial).1 last)) ∙ w.if-not-is_after.true in cc)
    ]

pub returns-clause-read : goal.returns-clause-read
returns-clause-read c =
    let size = size_is c.coef.result c.in_ok-term.term.1 c.unsigned_abs-size.result c.unsigned_abs-size.ensures.value c.coef.ensures.value c.in_ok-term.ensures.read.fits.factor.fits in
    let room : norm_of c.args.list.now < 2 ^ 127 = c.requires.written.polynomial.norm_fits in
    term_pushed c.args.self.now c.term.new.self c.args.list.now c.push.new.self.items c.in_ok-term.term (c.args.norm + c.unsigned_abs-size.result) c.in_ok-term.ensures.read c.requires.written
    (omega (arith, c.if-size-norm.false, c.requires.norm))
    ((last_first c.args.list.now c.in_ok-term.term.0 c.requires.written c.in_ok-term.ensures.read.fits.factor.monomial).0
    (c.is_after.ensures.0 c.if-not-is_after.false))
    (c.in_ok-push.ensures.items ∙ ap (λ (l : Summands). l ++ c.in_ok-term.term ∷ []) c.list.view_is) (omega (arith, c.requires.norm))
