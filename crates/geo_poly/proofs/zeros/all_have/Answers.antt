use Rattle.std.proofs.Common.{◌≡◌, ◌+◌, ◌-◌, ◌<◌, false, true, [], drop, filter, length, subst, arith}
use Rattle.geo_poly.specs.Inner.Parts.{lacks}
use Rattle.geo_poly.specs.Shared.{told, told_term, var_at}
use Rattle.geo_poly.proofs.Told.{index_at, item, monomial_at, told-drop}
use Rattle.geo_poly.proofs.ZeroWalks.{has_it, kept_one, lacks_it, left_out}
use Rattle.geo_poly.proofs.zeros.all_have.Goals as goal

pub has_number-requires-clause-index : goal.has_number-requires-clause-index
has_number-requires-clause-index c = index_at c.args.p.now (c.loop-i.i - 1) (omega (arith, c.loop-i-test.true, c.loop-i.auto.i)) c.requires.parts

pub has_number-requires-clause-monomial : goal.has_number-requires-clause-monomial
has_number-requires-clause-monomial c = monomial_at c.args.p.now (c.loop-i.i - 1) (omega (arith, c.loop-i-test.true, c.loop-i.auto.i)) c.requires.parts

pub returns-then-not-has_number : goal.returns-then-not-has_number
returns-then-not-has_number c =
    let p = c.args.p.now in
    let i = c.loop-i.i - 1 in
    let v = var_at p.vars.now c.args.number in
    let t = told_term p (item p.list.now i) in
    let within : c.loop-i.i - 1 < length c.args.p.now.list.now = omega (arith, c.loop-i-test.true, c.loop-i.auto.i) in
    let without : c.has_number.result ≡ false = grind (arith, c.if-not-has_number.true) in
    (λ f. absurd (cc), λ none. absurd (kept_one (lacks v) (told p) i t (told-drop p i within) (lacks_it v t c.has_number.result c.has_number.ensures without) none))

pub loop-i-preserved : goal.loop-i-preserved
loop-i-preserved c =
    let p = c.args.p.now in
    let i = c.loop-i.i - 1 in
    let v = var_at p.vars.now c.args.number in
    let t = told_term p (item p.list.now i) in
    let within : c.loop-i.i - 1 < length c.args.p.now.list.now = omega (arith, c.loop-i-test.true, c.loop-i.auto.i) in
    let next : c.loop-i.i ≡ c.loop-i.i - 1 + 1 = omega (arith, c.loop-i-test.true) in
    let stands : c.has_number.result ≡ true = grind (arith, c.if-not-has_number.false) in
    left_out (lacks v) (told p) i t (told-drop p i within) (has_it v t c.has_number.result c.has_number.ensures stands)
    (subst (λ n. filter (lacks v) (drop n (told p)) ≡ []) next c.loop-i.invariant)
