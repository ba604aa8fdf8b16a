use Rattle.std.proofs.Common.{ℤ, List, ℕ, Option, ◌++◌, FitsSigned, ap, length, replicate, rules, subst, ◌∙◌, take}
use Rattle.std.specs.Int.{w128}
use Rattle.std.specs.Prelude.{IfSome}
use Rattle.std.proofs.lemmas.Int.{to_z-of_z}
use Rattle.std.proofs.lemmas.List.Elements.{All-push}
use Rattle.geo_poly.specs.declared.pending.FactorPower.{FactorPower}
use Rattle.geo_poly.specs.declared.pending.Found.{Found}
use Rattle.geo_poly.specs.Inner.Factored.{factors_listed, numbered_terms}
use Rattle.geo_poly.specs.Inner.Moved.{IsMovedKey}
use Rattle.geo_poly.specs.Inner.TermKeys.{IsKeyed}
use Rattle.geo_poly.specs.Shared.{told, told_term}
use Rattle.geo_poly.proofs.FactorWalks.{factors_found, zero_found}
use Rattle.geo_poly.proofs.NumberedTerms.{Made-listed, counted-more}
use Rattle.geo_poly.proofs.PendingTerms.{Made-zero}
use Rattle.geo_poly.proofs.TermPlaces.{replaceable_at}
use Rattle.geo_poly.proofs.Told.{index_at, item, told-take}
use Rattle.geo_poly.proofs.pending.listed_terms.Goals as goal
use Rattle.geo_poly.proofs.pending.listed_terms.Goals.{in-Some+in_ok-count-in-Some+in_ok-push-in-Some, in-None}

pub read_factors-requires-clause-index : goal.read_factors-requires-clause-index
read_factors-requires-clause-index g c = index_at c.args.p.now c.loop-term.term-index c.loop-term-test.true c.requires.parts

pub read_factors-requires-clause-top : goal.read_factors-requires-clause-top
read_factors-requires-clause-top g c = (replaceable_at c.args.setting.now c.args.p.now c.loop-term.term-index c.loop-term-test.true c.requires.known c.requires.can).top

pub read_factors-requires-clause-monomial : goal.read_factors-requires-clause-monomial
read_factors-requires-clause-monomial g c =
    (replaceable_at c.args.setting.now c.args.p.now c.loop-term.term-index c.loop-term-test.true c.requires.known c.requires.can).monomial

pub loop-term-preserved : goal.loop-term-preserved
loop-term-preserved g c =
    let setting = c.args.setting.now in
    let p = c.args.p.now in
    let i = c.loop-term.term-index in
    let t = told_term p (item p.list.now i) in
    let q = take i (told p) in
    let ts = c.loop-term.terms.items in
    let ks = c.loop-term.factors.items in
    let here = replaceable_at setting p i c.loop-term-test.true c.requires.known c.requires.can in
    let index = index_at p i c.loop-term-test.true c.requires.parts in
    let before = c.loop-term.invariant in
    elim c.match-found.branch [
      | in-None w ↦
          let zero = zero_found setting.rows.now setting.den.piece.now.poly setting.top t.0 _ w.in-None.is c.in_ok-found.ensures.zero t.1 in
          rw (w.factors-is, w.terms-is, told-take p i c.loop-term-test.true)
          (record { made = Made-zero setting p q t (numbered_terms ks ts) zero before.made; counted = before.counted; keyed = before.keyed })
      | in-Some+in_ok-count-in-Some+in_ok-push-in-Some w ↦
          let f = w.in-Some.found in
          let lacking = f.lacking in
          let numerators = c.read_factors.new.numerators.items in
          let own = replicate lacking 0 ++ factors_listed numerators in
          let listed = ap (λ (fs : List FactorPower). replicate lacking 0 ++ factors_listed fs) w.deref-in-Some.ensures.value in
          let factors = factors_found setting t.0 numerators _ f w.in-Some.is c.in_ok-found.ensures.factors in
          let pushed = w.in_ok-count-in-Some.ensures.factors ∙ ap (λ (more : List ℕ). ks ++ more) listed in
          let count = w.in_ok-count-in-Some.ensures.count ∙ ap length listed in
          let at = item p.list.now i in
          let fits : FitsSigned w128 at.1 = search rules in
          let same = ap (λ (k : ℤ). (at.0, k)) (to_z-of_z w128 at.1 fits) in
          let items = w.in_ok-push-in-Some.ensures.items in
          let keys = g.K.MonomialKeys.keys c.args.keys.now in
          let keyed = IsKeyed p setting.rows.now setting.vars.now keys in
          let is_key = IsMovedKey p setting.rows.now setting.vars.now keys at.0 in
          rw (w.factors-is, w.terms-is, told-take p i c.loop-term-test.true)
          (record {
            made = Made-listed setting p ks _ own ts _ _ pushed items before.counted count q at same index factors here before.made;
            counted = counted-more setting p ks _ own ts _ _ pushed items before.counted count;
            keyed = rw items (All-push keyed ts _ before.keyed (subst (λ (o : Option Found). IfSome o (λ h. IfSome h.key is_key)) w.in-Some.is c.in_ok-found.ensures.key));
          })
    ]
