use Rattle.std.proofs.Common.{◌∙◌, ap₂, sym, ℤ, ◌++◌, ◌∷◌, [], arith}
use Rattle.std.proofs.lemmas.Bool.{false≢true}
use Rattle.geo_poly.specs.Monomials.{Powers}
use Rattle.geo_poly.specs.Polynomials.{Summands}
use Rattle.geo_poly.proofs.Told.{index_at, same_at, told-take}
use Rattle.geo_poly.proofs.reading.is_same.Goals as goal

pub is_same_term-requires-clause-left : goal.is_same_term-requires-clause-left
is_same_term-requires-clause-left c = index_at c.args.p.now c.loop-i.i (omega arith) c.requires.left

pub is_same_term-requires-clause-right : goal.is_same_term-requires-clause-right
is_same_term-requires-clause-right c = index_at c.args.q.now c.loop-i.i (omega arith) c.requires.right

pub returns-then-not-is_same_term : goal.returns-then-not-is_same_term
returns-then-not-is_same_term c = (
  λ h. absurd (false≢true h),
  λ e. sym c.if-not-is_same_term.true ∙ c.is_same_term.ensures.1 (same_at c.args.p.now c.args.q.now c.loop-i.i (omega arith) (omega arith) e),
)

pub loop-i-preserved : goal.loop-i-preserved
loop-i-preserved c =
    let p = c.args.p.now in
    let q = c.args.q.now in
    let i = c.loop-i.i in
    told-take p i (omega arith)
    ∙ ap₂ (λ (ts : Summands) (t : Powers × ℤ). ts ++ t ∷ []) c.loop-i.invariant (c.is_same_term.ensures.0 c.if-not-is_same_term.false)
    ∙ sym (told-take q i (omega arith))
