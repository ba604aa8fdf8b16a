use Rattle.std.proofs.Common.{◌≡◌, true, None, drop, ◌+◌, arith, rules}
use Rattle.std.proofs.lemmas.List.{at_drop_all}
use Rattle.geo_poly.specs.Polynomials.{Summands}
use Rattle.geo_poly.specs.Shared.{told, told_term}
use Rattle.geo_poly.proofs.Told.{index_at, item, length-terms_of, told-drop}
use Rattle.geo_chain.specs.Inner.Searches.{IsFitting, IsNotAfter}
use Rattle.geo_chain.proofs.FirstFitting.{by_order, listed_first}
use Rattle.geo_chain.proofs.Searches.{InTerms, dropped_in, last_term, next_term, stays}
use Rattle.geo_chain.proofs.first.first_of_terms.Goals as goal

pub loop-id-init : goal.loop-id-init
loop-id-init c = λ after h. h

pub returns-then-reaches : goal.returns-then-reaches
returns-then-reaches c =
    let p = c.args.p.now in
    let i = c.loop-id.id-index in
    let sought = c.args.sought in
    let reach : c.reaches.result ≡ true = search rules in
    c.loop-id.invariant c.loop-id.first
    (stays IsNotAfter by_order (InTerms (IsFitting sought) (drop i (told p))) c.loop-id.first
    (λ w h. listed_first p sought c.requires.parts c.args.least c.loop-id.first c.requires.some c.requires.none (c.reaches.ensures reach) w
    (dropped_in (λ v. IsFitting sought v w) (told p) i h)))

pub first_in-first-requires : goal.first_in-first-requires
first_in-first-requires c = index_at c.args.p.now c.loop-id.id-index c.loop-id-test.true c.requires.parts

pub loop-id-preserved : goal.loop-id-preserved
loop-id-preserved c =
    let p = c.args.p.now in
    let i = c.loop-id.id-index in
    next_term IsNotAfter by_order (IsFitting c.args.sought) (told p) (drop i (told p)) (drop (i + 1) (told p)) (told_term p (item p.list.now i)) None
    c.loop-id.first c.first_in-first.result (told-drop p i c.loop-id-test.true) c.first_in-first.ensures c.loop-id.invariant

pub returns : goal.returns
returns c =
    let p = c.args.p.now in
    let i = c.loop-id.id-index in
    last_term IsNotAfter by_order (IsFitting c.args.sought) (told p) (drop i (told p)) None c.loop-id.first
    (at_drop_all (λ (q : Summands). q) (told p) i (omega (arith, c.loop-id-test.false, length-terms_of p.vars.now p.monos.now p.list.now))) c.loop-id.invariant
