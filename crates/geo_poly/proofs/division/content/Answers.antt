use Rattle.std.proofs.Common.{◌≡◌, ℕ, ◌+◌, get_or, length, ◌^◌, ◌<◌, ◌≤◌, ℤ, pos, take, unsigned_abs, FitsSigned, to_z, of_z, refl, sym, ap, subst, rules, arith}
use Rattle.std.specs.Int.{w128, ◌∣◌}
use Rattle.std.proofs.lemmas.Int.{ints, to_z-of_z}
use Rattle.std.proofs.lemmas.List.{take_all}
use native.Mathlib.Nat.{one-dvd}
use Rattle.std.proofs.lemmas.List.Elements.{All-take}
use Rattle.geo_poly.specs.Polynomials.{Summands}
use Rattle.geo_poly.specs.Factors.{DividesAll}
use Rattle.geo_poly.specs.declared.shared.Shared.{Shared}
use Rattle.geo_poly.specs.Monomials.{Powers}
use Rattle.geo_poly.specs.Shared.{told, told_term}
use Rattle.geo_poly.proofs.Told.{item, length-terms_of, told-is, told-within}
use Rattle.geo_poly.proofs.Entries.{item_fits, item_small}
use Rattle.geo_poly.proofs.Cuts.{more_divides, more_greatest}
use Rattle.geo_poly.proofs.division.content.Goals as goal

pub gcd-divisor-requires-clause-a_in : goal.gcd-divisor-requires-clause-a_in
gcd-divisor-requires-clause-a_in c =
    let p = c.args.p.now in
    let i = c.loop-i.i in
    subst (λ (z : ℤ). unsigned_abs z < 2 ^ 127)
    (sym (to_z-of_z w128 (item p.list.now i).1 (item_fits p i c.loop-i-test.true c.requires)))
    (item_small p i c.loop-i-test.true c.requires)

pub loop-i-preserved : goal.loop-i-preserved
loop-i-preserved c =
    let p = told c.args.p.now in
    let i = c.loop-i.i in
    let entry = item c.args.p.now.list.now c.loop-i.i in
    let t = told_term c.args.p.now entry in
    let within = told-within c.args.p.now i c.loop-i-test.true in
    let is = told-is c.args.p.now i c.loop-i-test.true in
    let g = unsigned_abs c.gcd-divisor.result in
    let fits : FitsSigned w128 c.gcd-divisor.result = search rules in
    let right = item_fits c.args.p.now c.loop-i.i c.loop-i-test.true c.requires in
    let positive : c.gcd-divisor.result ≡ pos (unsigned_abs c.gcd-divisor.result) = omega (arith, ints, c.gcd-divisor.ensures.not_negative) in
    let kept : to_z w128 (of_z w128 c.gcd-divisor.result) ≡ c.gcd-divisor.result = to_z-of_z w128 c.gcd-divisor.result fits in
    let b-is : unsigned_abs (to_z w128 (of_z w128 (item c.args.p.now.list.now c.loop-i.i).1)) ≡ unsigned_abs
    (item c.args.p.now.list.now c.loop-i.i).1 = ap unsigned_abs (to_z-of_z w128 t.1 right) in
    record {
      positive = subst (λ z. z ≡ pos (unsigned_abs z)) (sym kept) positive;
      divides =
          subst (λ z. DividesAll (unsigned_abs z) (take (i + 1) p)) (sym kept)
          (more_divides p i t _ _ _ g within is c.gcd-divisor.ensures.greatest refl b-is c.loop-i.invariant.divides);
      greatest =
          subst (λ z. (d : ℕ) → DividesAll d (take (i + 1) p) → d ∣ unsigned_abs z) (sym kept)
          (more_greatest p i t _ _ _ g within is c.gcd-divisor.ensures.greatest refl b-is c.loop-i.invariant.greatest);
    }

-- the loop has looked at all coefficients
whole : (p : Shared) (i : ℕ) → length p.list.now ≤ i → take i (told p) ≡ told p
whole p i done = take_all i (told p) (omega (arith, length-terms_of p.vars.now p.monos.now p.list.now, done))

pub returns-after-loop-i-clause-divides : goal.returns-after-loop-i-clause-divides
returns-after-loop-i-clause-divides c =
    subst (λ (q : Summands). DividesAll (unsigned_abs (to_z w128 c.loop-i.divisor-bits)) q)
    (whole c.args.p.now c.loop-i.i c.loop-i-test.false) c.loop-i.invariant.divides

pub returns-after-loop-i-clause-greatest : goal.returns-after-loop-i-clause-greatest
returns-after-loop-i-clause-greatest c = λ d all.
    c.loop-i.invariant.greatest d (subst (λ (q : Summands). DividesAll d q) (sym (whole c.args.p.now c.loop-i.i c.loop-i-test.false)) all)

pub returns-else-divisor-ne1-clause-divides : goal.returns-else-divisor-ne1-clause-divides
returns-else-divisor-ne1-clause-divides c = λ k d within.
    let one : unsigned_abs (to_z w128 c.loop-i.divisor-bits) ≡ 1 = ap (λ n. unsigned_abs (to_z w128 n)) c.if-divisor-ne1.false in
    subst (λ (n : ℕ). n ∣ unsigned_abs (get_or (told c.args.p.now) k d).1) (sym one)
    (one-dvd (unsigned_abs (get_or (told c.args.p.now) k d).1))

pub returns-else-divisor-ne1-clause-greatest : goal.returns-else-divisor-ne1-clause-greatest
returns-else-divisor-ne1-clause-greatest c = λ d all.
    c.loop-i.invariant.greatest d (All-take (λ (t : Powers × ℤ). d ∣ unsigned_abs t.1) c.loop-i.i (told c.args.p.now) all)
