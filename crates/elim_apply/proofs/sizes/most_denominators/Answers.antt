use Rattle.std.proofs.Common.{◌≡◌, ◌<◌, ◌≤◌, max, length, subst, ap, ◌∙◌, arith}
use Rattle.std.proofs.lemmas.List.{drop_all}
use Rattle.geo_poly.specs.Polynomials.{Summands}
use Rattle.geo_poly.specs.Replace.{denominators, most_denominators}
use Rattle.geo_poly.specs.Shared.{told, told_powers}
use Rattle.geo_poly.proofs.Told.{item, length-terms_of, told-drop}
use Rattle.elim_apply.proofs.LineShares.{monomial_of_term}
use Rattle.elim_apply.proofs.LineSizes.{greater}
use Rattle.elim_apply.proofs.sizes.most_denominators.Goals as goal

pub loop-i-preserved : goal.loop-i-preserved
loop-i-preserved c = λ rows are.
    let p = c.args.p.now in
    let i = c.loop-i.i in
    let within : c.loop-i.i < length c.args.p.now.list.now = omega (arith, c.loop-i-test.true) in
    let so_far =
    subst (λ (left : Summands). max c.loop-i.most (most_denominators rows left) ≡ most_denominators rows (told p)) (told-drop p i within) (c.loop-i.invariant rows are) in
    let here : c.share_at.result.denominators ≡ denominators rows (told_powers c.args.p.now (item c.args.p.now.list.now c.loop-i.i).0) =
    (c.share_at.ensures rows are.each).denominators-are ∙ ap (denominators rows) (monomial_of_term p i within) in
    let most : c.max-most.result ≡ max c.loop-i.most c.share_at.result.denominators = c.max-most.ensures ∙ greater c.loop-i.most c.share_at.result.denominators in
    omega (arith, so_far, here, most)

pub returns : goal.returns
returns c = λ rows are.
    let p = c.args.p.now in
    let i = c.loop-i.i in
    let past : length (told c.args.p.now) ≤ c.loop-i.i =
    omega (arith, c.loop-i-test.false, length-terms_of p.vars.now p.monos.now p.list.now) in
    let none = ap (most_denominators rows) (drop_all i (told p) past) in
    omega (arith, none, c.loop-i.invariant rows are)
