use Rattle.std.proofs.Common.{◌≡◌, ℕ, ◌+◌, ◌-◌, ◌<◌, ◌≤◌, min, All, drop, length, ap, sym, subst, ◌∙◌, arith}
use Rattle.std.proofs.lemmas.List.{drop_all}
use Rattle.std.proofs.lemmas.List.Elements.{All-nil}
use Rattle.geo_poly.specs.Monomials.{exponent}
use Rattle.geo_poly.specs.Shared.{told, told_powers, told_term}
use Rattle.geo_poly.proofs.Told.{index_at, item, length-terms_of, monomial_at, told-drop, told-is, told-within}
use Rattle.geo_poly.proofs.Cuts.{at_most_before, more_reached}
use Rattle.geo_poly.proofs.division.least_exponent.Goals as goal

pub exponent_at-least-requires-clause-index : goal.exponent_at-least-requires-clause-index
exponent_at-least-requires-clause-index c =
    let last : length c.args.p.now.list.now - 1 < length c.args.p.now.list.now = omega (arith, c.requires.some) in
    index_at c.args.p.now (length c.args.p.now.list.now - 1) last c.requires.parts

pub exponent_at-least-requires-clause-monomial : goal.exponent_at-least-requires-clause-monomial
exponent_at-least-requires-clause-monomial c =
    let last : length c.args.p.now.list.now - 1 < length c.args.p.now.list.now = omega (arith, c.requires.some) in
    monomial_at c.args.p.now (length c.args.p.now.list.now - 1) last c.requires.parts

pub exponent_at-requires-clause-index : goal.exponent_at-requires-clause-index
exponent_at-requires-clause-index c =
    let within : c.loop-i.i - 1 < length c.args.p.now.list.now = omega (arith, c.loop-i.invariant.within) in
    index_at c.args.p.now (c.loop-i.i - 1) within c.requires.parts

pub exponent_at-requires-clause-monomial : goal.exponent_at-requires-clause-monomial
exponent_at-requires-clause-monomial c =
    let within : c.loop-i.i - 1 < length c.args.p.now.list.now = omega (arith, c.loop-i.invariant.within) in
    monomial_at c.args.p.now (c.loop-i.i - 1) within c.requires.parts

pub loop-i-init : goal.loop-i-init
loop-i-init c =
    let p = c.args.p.now in
    let v = c.args.v in
    let i = length p.list.now - 1 in
    let least = c.exponent_at-least.result in
    let last : length c.args.p.now.list.now - 1 < length c.args.p.now.list.now = omega (arith, c.requires.some) in
    let past : length (told c.args.p.now) ≤ length c.args.p.now.list.now - 1 + 1 = omega (arith, length-terms_of p.vars.now p.monos.now p.list.now) in
    let here : c.exponent_at-least.result ≤ exponent c.args.v (told_powers c.args.p.now (item c.args.p.now.list.now (length c.args.p.now.list.now - 1)).0) =
    omega (arith, c.exponent_at-least.ensures) in
    let same : c.exponent_at-least.result ≤ c.exponent_at-least.result = omega arith in
    record {
      within = last;
      at_most = at_most_before v (told p) i (told_term p (item p.list.now i)) least least (told-drop p i last) same here
          (subst (All (λ t. least ≤ exponent v t.0)) (sym (drop_all (i + 1) (told p) past)) (All-nil (λ t. least ≤ exponent v t.0)));
      reached = (i, told_term p (item p.list.now i), told-within p i last, sym (told-is p i last), sym c.exponent_at-least.ensures);
    }

pub loop-i-preserved : goal.loop-i-preserved
loop-i-preserved c =
    let p = c.args.p.now in
    let v = c.args.v in
    let i = c.loop-i.i - 1 in
    let t = told_term p (item p.list.now i) in
    let least : c.min-least.result ≡ min c.loop-i.least (exponent c.args.v (told_powers c.args.p.now (item c.args.p.now.list.now (c.loop-i.i - 1)).0)) =
    c.min-least.ensures ∙ ap (λ n. min c.loop-i.least n) c.exponent_at.ensures in
    let within : c.loop-i.i - 1 < length c.args.p.now.list.now = omega (arith, c.loop-i.invariant.within) in
    let next : c.loop-i.i ≡ c.loop-i.i - 1 + 1 = omega (arith, c.loop-i-test.true) in
    let less : c.min-least.result ≤ c.loop-i.least = omega (arith, least) in
    let here : c.min-least.result ≤ exponent c.args.v (told_powers c.args.p.now (item c.args.p.now.list.now (c.loop-i.i - 1)).0) = omega (arith, least) in
    record {
      within = within;
      at_most = at_most_before v (told p) i t c.loop-i.least c.min-least.result (told-drop p i within) less here
          (subst (λ (k : ℕ). All (λ t. c.loop-i.least ≤ exponent v t.0) (drop k (told p))) next c.loop-i.invariant.at_most);
      reached = more_reached v (told p) i t c.loop-i.least c.min-least.result (told-within p i within) (told-is p i within) least c.loop-i.invariant.reached;
    }

pub returns-after-loop-i : goal.returns-after-loop-i
returns-after-loop-i c =
    let p = c.args.p.now in
    let first : c.loop-i.i ≡ 0 = omega (arith, c.loop-i-test.false) in
    record {
      at_most = subst (λ (k : ℕ). All (λ t. c.loop-i.least ≤ exponent c.args.v t.0) (drop k (told p))) first c.loop-i.invariant.at_most;
      reached = c.loop-i.invariant.reached;
    }
