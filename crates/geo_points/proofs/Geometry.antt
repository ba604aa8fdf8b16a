-- Identities between quantities of points, from equations with cofactors, by computation.
use Rattle.std.proofs.Common.{arith, ◌≡◌, ℕ, zero, suc, pos, List, [], ◌∷◌, T, refl, sym, subst, ap}
use Rattle.ring_laws.specs.Solver.{◌⊟◌, natural, value, normal_form, is_zero, combined, AllGivenHold}
use Rattle.ring_laws.specs.Fraction.{Fraction, Same, whole, plus, times, negated, minus}
use Rattle.geo_points.specs.Points.{Point, signed_area, pythagoras_difference}
use Rattle.geo_points.proofs.Plane.{Spot, double_area, pythagoras_value}
use Rattle.geo_points.proofs.Expressions.{Quantity, abscissa, ordinate, area, pythagoras, whole_number, one_half, given_number, ◌+'◌, ◌-'◌}
use Rattle.geo_points.proofs.Expressions.{◌*'◌, opposite', point_at, number_at, x_coordinate, y_coordinate, half, quantity_value, thrice}
use Rattle.geo_points.proofs.Expressions.{spread, Fact, fact, spread_facts, FactsHold}
use Rattle.ring_laws.proofs.Fractions as F
use Rattle.ring_laws.proofs.Fractions.{fractions}
use Rattle.ring_laws.proofs.Combination.{by_combination}
use Rattle.geo_points.proofs.Bridge.{spot_of, signed_area-is, pythagoras_difference-is}

-- three values for each place: x, y, and the number
abbrev places : List Point → List Fraction → ℕ → Fraction
places As rs zero = x_coordinate (point_at As zero)
places As rs (suc zero) = y_coordinate (point_at As zero)
places As rs (suc (suc zero)) = number_at rs zero
places [] [] (suc (suc (suc k))) = places [] [] k
places [] (r ∷ rs) (suc (suc (suc k))) = places [] rs k
places (A ∷ As) [] (suc (suc (suc k))) = places As [] k
places (A ∷ As) (r ∷ rs) (suc (suc (suc k))) = places As rs k

abbrev variables : List Point → List Fraction → ℕ → Fraction
variables As rs zero = half
variables As rs (suc k) = places As rs k

place-x : (As : List Point) (rs : List Fraction) (i : ℕ) → places As rs (thrice i) ≡ x_coordinate (point_at As i)
place-x As rs zero = refl
place-x [] [] (suc i) = place-x [] [] i
place-x [] (r ∷ rs) (suc i) = place-x [] rs i
place-x (A ∷ As) [] (suc i) = place-x As [] i
place-x (A ∷ As) (r ∷ rs) (suc i) = place-x As rs i

place-y : (As : List Point) (rs : List Fraction) (i : ℕ) → places As rs (suc (thrice i)) ≡ y_coordinate (point_at As i)
place-y As rs zero = refl
place-y [] [] (suc i) = place-y [] [] i
place-y [] (r ∷ rs) (suc i) = place-y [] rs i
place-y (A ∷ As) [] (suc i) = place-y As [] i
place-y (A ∷ As) (r ∷ rs) (suc i) = place-y As rs i

place-number : (As : List Point) (rs : List Fraction) (i : ℕ) → places As rs (suc (suc (thrice i))) ≡ number_at rs i
place-number As rs zero = refl
place-number [] [] (suc i) = place-number [] [] i
place-number [] (r ∷ rs) (suc i) = place-number [] rs i
place-number (A ∷ As) [] (suc i) = place-number As [] i
place-number (A ∷ As) (r ∷ rs) (suc i) = place-number As rs i

natural-whole : (k : ℕ) → Same (whole (pos k)) (natural fractions k)
unfolding whole plus negated times
natural-whole zero = fractions.same_refl _
natural-whole (suc k) = F.same_trans _ _ _ (next k) (F.plus-same _ _ _ _ (natural-whole k) (fractions.same_refl (whole (pos 1))))
  where
    next : (k : ℕ) → Same (whole (pos (suc k))) (plus (whole (pos k)) (whole (pos 1)))
    next k = record { crossed = ap pos (omega arith) }

module _ (As : List Point) (rs : List Fraction) where
  abbrev v : ℕ → Fraction
  v = variables As rs

  abbrev at_spot : ℕ → Spot Fraction
  at_spot i = record { x = v (suc (thrice i)); y = v (suc (suc (thrice i))) }

  spot_is : (i : ℕ) → at_spot i ≡ record { x = x_coordinate (point_at As i); y = y_coordinate (point_at As i) }
  spot_is i = λ t. record { x = place-x As rs i t; y = place-y As rs i t }

  pub spread-value : (e : Quantity) → Same (quantity_value As rs e) (value fractions v (spread e))
  unfolding minus
  spread-value (abscissa i) = subst (λ r. Same (x_coordinate (point_at As i)) r) (sym (place-x As rs i)) (fractions.same_refl _)
  spread-value (ordinate i) = subst (λ r. Same (y_coordinate (point_at As i)) r) (sym (place-y As rs i)) (fractions.same_refl _)
  spread-value (area i j k) =
      let A = point_at As i in let B = point_at As j in let C = point_at As k in
      subst (λ a. Same (signed_area A B C) (times half (double_area fractions a (at_spot j) (at_spot k)))) (sym (spot_is i))
      (subst (λ b. Same (signed_area A B C) (times half (double_area fractions (spot_of A) b (at_spot k)))) (sym (spot_is j))
      (subst (λ c. Same (signed_area A B C) (times half (double_area fractions (spot_of A) (spot_of B) c))) (sym (spot_is k)) (signed_area-is A B C)))
  spread-value (pythagoras i j k) =
      let A = point_at As i in let B = point_at As j in let C = point_at As k in
      subst (λ a. Same (pythagoras_difference A B C) (pythagoras_value fractions a (at_spot j) (at_spot k))) (sym (spot_is i))
      (subst (λ b. Same (pythagoras_difference A B C) (pythagoras_value fractions (spot_of A) b (at_spot k))) (sym (spot_is j))
      (subst (λ c. Same (pythagoras_difference A B C) (pythagoras_value fractions (spot_of A) (spot_of B) c)) (sym (spot_is k)) (pythagoras_difference-is A B C)))
  spread-value (whole_number k) = natural-whole k
  spread-value one_half = fractions.same_refl half
  spread-value (given_number i) = subst (λ r. Same (number_at rs i) r) (sym (place-number As rs i)) (fractions.same_refl _)
  spread-value (e +' f) = F.plus-same _ _ _ _ (spread-value e) (spread-value f)
  spread-value (e -' f) = F.plus-same _ _ _ _ (spread-value e) (F.negated-same _ _ (spread-value f))
  spread-value (e *' f) = F.times-same _ _ _ _ (spread-value e) (spread-value f)
  spread-value (opposite' e) = F.negated-same _ _ (spread-value e)

  spread-facts : (hs : List Fact) → FactsHold As rs hs → AllGivenHold fractions v (spread_facts hs)
  spread-facts [] h = tt
  spread-facts (fact c a b ∷ hs) h =
      (F.same_trans _ _ _ (fractions.same_sym _ _ (spread-value a)) (F.same_trans _ _ _ h.0 (spread-value b)), spread-facts hs h.1)

  -- the value of e is that of f, wherever the given equations hold, if the solver finds so
  pub geo_combination : (hs : List Fact) (e f : Quantity) → FactsHold As rs hs
      → T (is_zero (normal_form (combined (spread_facts hs) (spread e ⊟ spread f))))
      → Same (quantity_value As rs e) (quantity_value As rs f)
  geo_combination hs e f h z =
      F.same_trans _ _ _ (spread-value e)
      (F.same_trans _ _ _ (by_combination fractions v (spread_facts hs) (spread e) (spread f) (spread-facts hs h) z) (fractions.same_sym _ _ (spread-value f)))
