use Rattle.std.proofs.Common.{◌≡◌, true, None, drop, ◌+◌, arith, rules}
use Rattle.std.proofs.lemmas.List.{at_drop_all}
use Rattle.geo_poly.specs.Polynomials.{Summands}
use Rattle.geo_poly.specs.Shared.{told, told_term}
use Rattle.geo_poly.proofs.Told.{index_at, item, length-terms_of, told-drop}
use Rattle.geo_chain.specs.Inner.Searches.{IsAsHigh, MakesPoint}
use Rattle.geo_chain.proofs.HighestPoints.{by_height, listed_reached}
use Rattle.geo_chain.proofs.Searches.{InTerms, dropped_in, last_term, next_term, stays}
use Rattle.geo_chain.proofs.highest.highest_of_terms.Goals as goal

pub loop-id-init : goal.loop-id-init
loop-id-init c = λ after h. h

pub returns-then-reaches : goal.returns-then-reaches
returns-then-reaches c =
    let steps = c.args.steps.now in
    let p = c.args.p.now in
    let i = c.loop-id.id-index in
    let reach : c.reaches.result ≡ true = search rules in
    c.loop-id.invariant c.loop-id.highest
    (stays IsAsHigh by_height (InTerms (MakesPoint steps) (drop i (told p))) c.loop-id.highest
    (λ w h. listed_reached steps p c.args.most c.loop-id.highest c.requires.parts c.requires.most (c.reaches.ensures reach) w
    (dropped_in (λ v. MakesPoint steps v w) (told p) i h)))

pub highest_in-highest-requires : goal.highest_in-highest-requires
highest_in-highest-requires c = index_at c.args.p.now c.loop-id.id-index c.loop-id-test.true c.requires.parts

pub loop-id-preserved : goal.loop-id-preserved
loop-id-preserved c =
    let p = c.args.p.now in
    let i = c.loop-id.id-index in
    next_term IsAsHigh by_height (MakesPoint c.args.steps.now) (told p) (drop i (told p)) (drop (i + 1) (told p)) (told_term p (item p.list.now i)) None
    c.loop-id.highest c.highest_in-highest.result (told-drop p i c.loop-id-test.true) c.highest_in-highest.ensures c.loop-id.invariant

pub returns : goal.returns
returns c =
    let p = c.args.p.now in
    let i = c.loop-id.id-index in
    last_term IsAsHigh by_height (MakesPoint c.args.steps.now) (told p) (drop i (told p)) None c.loop-id.highest
    (at_drop_all (λ (q : Summands). q) (told p) i (omega (arith, c.loop-id-test.false, length-terms_of p.vars.now p.monos.now p.list.now))) c.loop-id.invariant
