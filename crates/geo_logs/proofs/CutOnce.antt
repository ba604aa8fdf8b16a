-- After a cut by the factor no cut is due.
use Rattle.std.proofs.Common.{◌≡◌, ℕ, zero, suc, ◌*◌, ◌<◌, ◌≤◌, All, Any, ℤ, pos, negsuc, neg_ℤ, ◌*ℤ◌, List, [], ◌∷◌, refl, sym, ap, subst, ◌∙◌, unsigned_abs, arith}
use Rattle.std.specs.Prelude.{◌<ℤ◌, ◌↔◌}
use Rattle.std.specs.Int.{◌∣◌}
use Rattle.std.proofs.Math.Nat.{dvd-mul_left, dvd_of_mul-dvd-mul_left, mul-dvd-mul_left, mul-le-mul}
use Rattle.std.proofs.lemmas.Int.{ints, unsigned_abs-mul}
use Rattle.std.proofs.lemmas.List.Elements.{All-cons, All-head, All-nil, All-tail}
use Rattle.geo_poly.specs.declared.variables.Var.{Var}
use Rattle.geo_poly.specs.Cuts.{IsCut}
use Rattle.geo_poly.specs.Factors.{DividesAll, IsLeastExponent, leading_coefficient}
use Rattle.geo_poly.specs.Monomials.{Powers, exponent, product}
use Rattle.geo_poly.specs.Polynomials.{Summands, multiples}
use Rattle.geo_poly.proofs.MonomialOrder.{exponent-product}
use Rattle.geo_logs.specs.Defined.{IsCutDue, NoCutDue}
use Rattle.geo_logs.proofs.OneStep.{cut_whole}

one_divides : (n : ℕ) → 1 ∣ n
one_divides n = let d = dvd-mul_left 1 n in subst (λ k. 1 ∣ k) (omega arith) d

ones : (r : Summands) → DividesAll 1 r
ones [] = All-nil (λ (t : Powers × ℤ). 1 ∣ unsigned_abs t.1)
ones (t ∷ ts) = All-cons (λ (t : Powers × ℤ). 1 ∣ unsigned_abs t.1) t ts (one_divides (unsigned_abs t.1)) (ones ts)

-- what divides the coefficients divides their multiples, with the number
times_all : (f : Powers × ℤ) (d : ℕ) (r : Summands) → DividesAll d r → DividesAll (unsigned_abs f.1 * d) (multiples f r)
times_all f d [] h = All-nil (λ (t : Powers × ℤ). unsigned_abs f.1 * d ∣ unsigned_abs t.1)
times_all f d (t ∷ ts) h =
    All-cons (λ (t : Powers × ℤ). unsigned_abs f.1 * d ∣ unsigned_abs t.1) _ (multiples f ts)
    (subst (λ k. unsigned_abs f.1 * d ∣ k) (sym (unsigned_abs-mul f.1 t.1))
    (mul-dvd-mul_left d (unsigned_abs f.1) (All-head (λ (t : Powers × ℤ). d ∣ unsigned_abs t.1) t ts h)))
    (times_all f d ts (All-tail (λ (t : Powers × ℤ). d ∣ unsigned_abs t.1) t ts h))

-- the signs of a product
negative : (n : ℕ) → 0 < n → neg_ℤ (pos n) <ℤ pos 0
negative zero h = absurd (omega (arith, h))
negative (suc n) h = omega (arith, ints)

same_sign : (a b : ℤ) → (unsigned_abs a ≡ 0 → ⊥) → ((a <ℤ pos 0) ↔ ((a *ℤ b) <ℤ pos 0)) → b <ℤ pos 0 → ⊥
same_sign (pos zero) b n h l = n refl
same_sign (pos (suc a)) (pos b) n h l = omega (arith, ints, l)
same_sign (pos (suc a)) (negsuc b) n h l =
    let one : 1 ≤ suc a = omega arith in
    let other : 1 ≤ suc b = omega arith in
    let size : 1 * 1 ≤ suc a * suc b = mul-le-mul one other in
    let below : pos (suc a) <ℤ pos 0 = h.1 (negative (suc a * suc b) (omega (arith, size))) in
    omega (arith, ints, below)
same_sign (negsuc a) (pos b) n h l = omega (arith, ints, l)
same_sign (negsuc a) (negsuc b) n h l = let below : pos (suc a * suc b) <ℤ pos 0 = h.0 (omega (arith, ints)) in omega (arith, ints, below)

-- EXPONENTS
at_most_each : (v : Var) (r : Summands) → All (λ t. 0 ≤ exponent v t.0) r
at_most_each v [] = All-nil (λ (t : Powers × ℤ). 0 ≤ exponent v t.0)
at_most_each v (t ∷ ts) = All-cons (λ (t : Powers × ℤ). 0 ≤ exponent v t.0) t ts (omega arith) (at_most_each v ts)

-- where a multiple has the exponent of the factor alone, what is left has none
reached_before : (v : Var) (f : Powers × ℤ) (r : Summands) → Any (λ t. exponent v t.0 ≡ exponent v f.0) (multiples f r) → Any (λ t. exponent v t.0 ≡ 0) r
reached_before v f [] (i, t, lt, at, same) = absurd (omega (arith, lt))
reached_before v f (u ∷ us) (zero, t, lt, at, same) = (0, u, omega arith, refl, omega (arith, first, exponent-product v f.0 u.0))
  where
    is : (product f.0 u.0, f.1 *ℤ u.1) ≡ t
    is = at

    first : exponent v (product f.0 u.0) ≡ exponent v f.0
    first = ap (λ (t : Powers × ℤ). exponent v t.0) is ∙ same
reached_before v f (u ∷ us) (suc i, t, lt, at, same) =
    let found = reached_before v f us (i, t, omega (arith, lt), at, same) in
    let below = found.2 in (suc found.0, found.1, omega (arith, below), found.3, found.4)

module _ (known : List Var) (f : Powers × ℤ) (q r : Summands) (due : IsCutDue known q f) (cut : IsCut known f q r) where
  some : 0 < unsigned_abs f.1
  some = let n = cut.factor.nonzero in omega (arith, n)

  greatest : (d : ℕ) → DividesAll d r → d ∣ 1
  greatest d h =
      let all : DividesAll (unsigned_abs f.1 * d) q = subst (DividesAll (unsigned_abs f.1 * d)) (cut_whole known f q r cut) (times_all f d r h) in
      let whole : unsigned_abs f.1 * d ∣ unsigned_abs f.1 = due.factor.greatest (unsigned_abs f.1 * d) all in
      dvd_of_mul-dvd-mul_left d some (subst (λ k. unsigned_abs f.1 * d ∣ k) (omega arith) whole)

  positive : (s : Summands) → s ≡ r → leading_coefficient s <ℤ pos 0 → ⊥
  positive [] e l = omega (arith, ints, l)
  positive (t ∷ ts) e l =
      let lead : leading_coefficient q ≡ f.1 *ℤ t.1 = ap leading_coefficient (sym (cut_whole known f q r cut) ∙ ap (multiples f) (sym e)) in
      same_sign f.1 t.1 cut.factor.nonzero (subst (λ z. (f.1 <ℤ pos 0) ↔ (z <ℤ pos 0)) lead due.factor.sign) l

  no_exponent : (v : Var) → IsLeastExponent v q (exponent v f.0) → IsLeastExponent v r 0
  no_exponent v h = record {
    at_most = at_most_each v r;
    reached = reached_before v f r (subst (Any (λ t. exponent v t.0 ≡ exponent v f.0)) (sym (cut_whole known f q r cut)) h.reached);
  }

  pub cut_once : NoCutDue known r
  cut_once some = record {
    divides = ones r;
    greatest = greatest;
    sign = ((λ l. absurd (omega (arith, ints, l))), (λ l. absurd (positive r refl l)));
    monomial = record { in_order = tt; degree_fits = omega arith };
    known_variables = λ v here. no_exponent v (due.factor.known_variables v here);
    other_variables = λ v n. refl;
  }
