use Rattle.std.proofs.Common.{◌≡◌, true, false, ap, sym, subst, ◌∙◌, ◌++◌}
use Rattle.std.specs.Prelude.{Err, codes}
use Rattle.proof_log.specs.declared.errors.LineError.TheVariants.{BadLine}
use Rattle.geo_poly.specs.Polynomials.{Summands}
use Rattle.proof_log.specs.Inner.Growing.{PushesTerm, RefusesTerm}
use Rattle.proof_log.proofs.Growth.{bad_error, first_term_refused, from_err, from_ok_or, terms_begin, terms_end, terms_no_space, terms_refused, terms_step}
use Rattle.proof_log.proofs.reader.Reader.all_terms.Goals as goal

pub returns-in_err-norm-clause-bad : goal.returns-in_err-norm-clause-bad
returns-in_err-norm-clause-bad c = λ is.
    let P : Summands → Type 0 = λ l. RefusesTerm c.args.self.now l in
    first_term_refused c.args.self.now c.requires
    (subst P c.new.ensures.items (c.in_err-norm.ensures.bad
    (ap Err (bad_error c.from_residual.result c.in_err-norm.field-0.0 BadLine c.from_residual.ensures.1 is))))

pub loop-alloc-init : goal.loop-alloc-init
loop-alloc-init c =
    let P : Summands → Type 0 = λ l. PushesTerm c.args.self.now c.push_term.new.self l c.push_term.new.list c.in_ok-norm.norm in
    terms_begin c.args.self.now c.push_term.new.self c.push_term.new.list c.in_ok-norm.norm (subst P c.new.ensures.items c.in_ok-norm.ensures.read)

pub returns-in_err-ok_or-clause-bad : goal.returns-in_err-ok_or-clause-bad
returns-in_err-ok_or-clause-bad c = λ _.
    terms_no_space c.args.self.now c.loop-alloc.self c.loop-alloc.list c.loop-alloc.norm c.loop-alloc.invariant
    (λ e. let f : true ≡ false = sym (c.is_at_end.ensures.1 e) ∙ c.loop-alloc-test.true in cc)
    (c.literal.ensures.none (from_err c.literal.result BadLine c.ok_or.result c.in_err-ok_or.field-0.0 c.ok_or.ensures.value c.in_err-ok_or.was))

pub returns-in_err-norm-2-clause-bad : goal.returns-in_err-norm-2-clause-bad
returns-in_err-norm-2-clause-bad c = λ is.
    let space = from_ok_or (λ _. c.loop-alloc.self ≡ codes " " ++ c.literal.new.self) c.literal.result BadLine c.ok_or.result
    c.in_ok-ok_or.field-0 c.ok_or.ensures.value c.in_ok-ok_or.was c.literal.ensures.some in
    terms_refused c.args.self.now c.loop-alloc.self c.loop-alloc.list c.loop-alloc.norm c.loop-alloc.invariant c.literal.new.self space
    (c.in_err-norm-2.ensures.bad (ap Err (bad_error c.from_residual-in_err-norm-2.result c.in_err-norm-2.field-0.0 BadLine c.from_residual-in_err-norm-2.ensures.1 is)))

pub loop-alloc-preserved : goal.loop-alloc-preserved
loop-alloc-preserved c =
    let space = from_ok_or (λ _. c.loop-alloc.self ≡ codes " " ++ c.literal.new.self) c.literal.result BadLine c.ok_or.result
    c.in_ok-ok_or.field-0 c.ok_or.ensures.value c.in_ok-ok_or.was c.literal.ensures.some in
    terms_step c.args.self.now c.loop-alloc.self c.loop-alloc.list c.loop-alloc.norm c.loop-alloc.invariant c.literal.new.self space
    c.push_term-in-loop-alloc.new.self c.push_term-in-loop-alloc.new.list c.in_ok-norm-2.norm c.in_ok-norm-2.ensures.read

pub returns-clause-read : goal.returns-clause-read
returns-clause-read c = terms_end c.args.self.now c.loop-alloc.self c.loop-alloc.list c.loop-alloc.norm c.loop-alloc.invariant (c.is_at_end.ensures.0 c.loop-alloc-test.false)
