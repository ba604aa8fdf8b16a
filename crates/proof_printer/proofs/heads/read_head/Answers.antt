use Rattle.std.proofs.Common.{◌≡◌, ◌++◌, ℕ, List, true, ap, sym, subst, ◌∙◌, arith, codes}
use Rattle.proof_log.specs.declared.log.Line.{Line}
use Rattle.proof_printer.specs.Inner.Heads.{IsStep}
use Rattle.proof_printer.proofs.HeadTexts.{has_step}
use Rattle.proof_printer.proofs.heads.read_head.Goals as goal

pub read_written-requires-2 : goal.read_written-requires-2
read_written-requires-2 c =
    let stands : c.has_polynomial.result ≡ true = grind (arith, c.if-not-has_polynomial.false) in
    let s = has_step c.requires.0 c.requires.1 (sym (c.has_polynomial.ensures c.requires.0 c.requires.2) ∙ stands) in
    let parts = c.around_colon.ensures s.front s.text s.passes (c.requires.2 ∙ s.split) in
    let zero : c.deref.result.now ≡ c.around_colon.result.0.now ++ codes ": 0" = c.deref.ensures.value ∙ c.in_ok-zero.ensures in
    (s.head, s.writable, zero ∙ ap (λ (l : List ℕ). l ++ codes ": 0") parts.0 ∙ s.zero)

pub returns : goal.returns
returns c = λ line w spelt.
    let stands : c.has_polynomial.result ≡ true = grind (arith, c.if-not-has_polynomial.false) in
    let s = has_step line w (sym (c.has_polynomial.ensures line spelt) ∙ stands) in
    let parts = c.around_colon.ensures s.front s.text s.passes (spelt ∙ s.split) in
    let zero : c.deref.result.now ≡ c.around_colon.result.0.now ++ codes ": 0" = c.deref.ensures.value ∙ c.in_ok-zero.ensures in
    let same = c.in_ok-head.ensures s.head s.writable (zero ∙ ap (λ (l : List ℕ). l ++ codes ": 0") parts.0 ∙ s.zero) in
    subst (λ (h : Line). IsStep h c.around_colon.result.1.now line) (sym same) (subst (λ (t : List ℕ). IsStep s.head t line) (sym parts.1) s.step)
