use Rattle.std.proofs.Common.{rules, ◌≡◌, ◌≤◌, ◌/◌, ℤ, pos, unsigned_abs, FitsSigned, to_z, of_z, sym, ◌∙◌, ap, subst}
use Rattle.std.specs.Int.{IsGcd, w128}
use Rattle.std.proofs.lemmas.Int.{to_z-of_z}
use Rattle.frac_laws.proofs.Coprime.{divisor_some}
use Rattle.geo_place.proofs.LeastTriples.{times_moved, triple_result}
use Rattle.geo_place.proofs.triples.triple_of.Goals as goal

pub quotient-left-requires-clause-some : goal.quotient-left-requires-clause-some
quotient-left-requires-clause-some c =
    let f = c.args.at.now in
    let common = c.gcd-common.result in
    let left : FitsSigned w128 f.x.den = search rules in
    let back : FitsSigned w128 common = search rules in
    let g = c.gcd-common.ensures.greatest in
    subst (λ z. 1 ≤ unsigned_abs z) (sym (to_z-of_z w128 common back))
    (divisor_some (unsigned_abs common) (unsigned_abs f.x.den) f.x.nonzero
    (subst (λ z. IsGcd (unsigned_abs z) (unsigned_abs (to_z w128 (of_z w128 f.y.den))) (unsigned_abs common))
    (to_z-of_z w128 f.x.den left) g).0)

pub quotient-right-requires-clause-some : goal.quotient-right-requires-clause-some
quotient-right-requires-clause-some c =
    let f = c.args.at.now in
    let common = c.gcd-common.result in
    let left : FitsSigned w128 f.x.den = search rules in
    let back : FitsSigned w128 common = search rules in
    let g = c.gcd-common.ensures.greatest in
    subst (λ z. 1 ≤ unsigned_abs z) (sym (to_z-of_z w128 common back))
    (divisor_some (unsigned_abs common) (unsigned_abs f.x.den) f.x.nonzero
    (subst (λ z. IsGcd (unsigned_abs z) (unsigned_abs (to_z w128 (of_z w128 f.y.den))) (unsigned_abs common))
    (to_z-of_z w128 f.x.den left) g).0)

pub returns : goal.returns
returns c =
    let f = c.args.at.now in
    let common = c.gcd-common.result in
    let l = c.quotient-left.result in
    let r = c.quotient-right.result in
    let x : FitsSigned w128 f.x.den = search rules in
    let y : FitsSigned w128 f.y.den = search rules in
    let u : FitsSigned w128 f.x.num = search rules in
    let v : FitsSigned w128 f.y.num = search rules in
    let d : FitsSigned w128 common = search rules in
    let a : FitsSigned w128 l = search rules in
    let b : FitsSigned w128 r = search rules in
    let X = to_z-of_z w128 f.x.den x in
    let Y = to_z-of_z w128 f.y.den y in
    let D = to_z-of_z w128 common d in
    let g : IsGcd (unsigned_abs f.x.den) (unsigned_abs f.y.den) (unsigned_abs common) =
    subst (λ z. IsGcd (unsigned_abs f.x.den) (unsigned_abs z) (unsigned_abs common)) Y
    (subst (λ z. IsGcd (unsigned_abs z) (unsigned_abs (to_z w128 (of_z w128 f.y.den))) (unsigned_abs common)) X c.gcd-common.ensures.greatest) in
    let left : l ≡ pos (unsigned_abs f.y.den / unsigned_abs common) =
    c.quotient-left.ensures ∙ ap (λ (z : ℤ). pos (unsigned_abs z / unsigned_abs (to_z w128 (of_z w128 common)))) Y ∙ ap (λ (z : ℤ). pos (unsigned_abs f.y.den / unsigned_abs z)) D in
    let right : r ≡ pos (unsigned_abs f.x.den / unsigned_abs common) =
    c.quotient-right.ensures ∙ ap (λ (z : ℤ). pos (unsigned_abs z / unsigned_abs (to_z w128 (of_z w128 common)))) X ∙ ap (λ (z : ℤ). pos (unsigned_abs f.x.den / unsigned_abs z)) D in
    let t = times_moved c.times.result (to_z w128 (of_z w128 f.x.num)) f.x.num (to_z w128 (of_z w128 f.y.num)) f.y.num
    (to_z w128 (of_z w128 f.x.den)) f.x.den (to_z w128 (of_z w128 l)) l (to_z w128 (of_z w128 r)) r
    (to_z-of_z w128 f.x.num u) (to_z-of_z w128 f.y.num v) X (to_z-of_z w128 l a) (to_z-of_z w128 r b) (c.times.ensures.triple, c.times.ensures.fits, c.times.ensures.past) in
    let k = triple_result f (unsigned_abs common) g c.times.result l r left right t.0 t.1 t.2 in
    record { triple = k.triple; fits = k.fits; past = k.past }
