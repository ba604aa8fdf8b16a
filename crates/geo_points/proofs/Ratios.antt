-- Ratios.
use Rattle.std.proofs.Common.{◌≡◌, zero, suc, Bool, true, false, ◌*◌, ℤ, pos, negsuc, refl, sym, ◌∙◌, ap, [], ◌∷◌}
use Rattle.ring_laws.specs.Solver.{variable, numeral, ◌⊞◌, ◌⊟◌, ◌⊠◌, opposite, entry_at, given}
use Rattle.ring_laws.specs.Fraction.{Fraction, Same, whole, minus, times, IsNonzero, quotient, quotient_at, plus, negated}
use Rattle.geo_points.specs.Points.{Point, x_coordinate, y_coordinate, x_difference, y_difference, cross_product, x_component, y_component, is_null, ratio, HasRatio}
use Rattle.ring_laws.proofs.Integers.{integers}
use Rattle.ring_laws.proofs.Fractions.{fractions}
use Rattle.ring_laws.proofs.Sound.{agree}
use Rattle.ring_laws.proofs.Combination.{by_combination}
use Rattle.ring_laws.proofs.Quotients.{cancel_fraction, quotient-times}

-- ---- ratios: k (D - C) = B - A
pub x_component-is : (A B : Point) → Same (x_component A B) (minus (x_coordinate B) (x_coordinate A))
unfolding whole plus negated times minus quotient quotient_at
x_component-is A B =
    let ax = variable 0 in let aw = variable 1 in let bx = variable 2 in let bw = variable 3 in
    record { crossed = agree integers (entry_at integers (A.x ∷ pos A.w ∷ B.x ∷ pos B.w ∷ [])) ((bx ⊠ aw ⊟ ax ⊠ bw) ⊠ (bw ⊠ aw)) ((bx ⊠ aw ⊞ opposite ax ⊠ bw) ⊠ (aw ⊠ bw)) tt }

pub y_component-is : (A B : Point) → Same (y_component A B) (minus (y_coordinate B) (y_coordinate A))
unfolding whole plus negated times minus quotient quotient_at
y_component-is A B =
    let ax = variable 0 in let aw = variable 1 in let bx = variable 2 in let bw = variable 3 in
    record { crossed = agree integers (entry_at integers (A.y ∷ pos A.w ∷ B.y ∷ pos B.w ∷ [])) ((bx ⊠ aw ⊟ ax ⊠ bw) ⊠ (bw ⊠ aw)) ((bx ⊠ aw ⊞ opposite ax ⊠ bw) ⊠ (aw ⊠ bw)) tt }

-- what a ratio gives in one coordinate it gives in the other
other : (a b p q k : Fraction) → IsNonzero p → Same (times a q) (times b p) → Same (times k p) a → Same (times k q) b
other a b p q k n h e =
    let a' = variable 0 in let b' = variable 1 in let p' = variable 2 in let q' = variable 3 in let k' = variable 4 in
    cancel_fraction (times k q) b p n
    (by_combination fractions (entry_at fractions (a ∷ b ∷ p ∷ q ∷ k ∷ []))
    (given (numeral 1) (a' ⊠ q') (b' ⊠ p') ∷ given q' (k' ⊠ p') a' ∷ [])
    (k' ⊠ q' ⊠ p') (b' ⊠ p') (h, (e, tt)) tt)

-- k (D - C) is B - A, in both coordinates
pub record IsRatio (A B C D : Point) (k : Fraction) : Type 0 where
  pub by_x : Same (times k (minus (x_coordinate D) (x_coordinate C))) (minus (x_coordinate B) (x_coordinate A))
  pub by_y : Same (times k (minus (y_coordinate D) (y_coordinate C))) (minus (y_coordinate B) (y_coordinate A))

ratio_by : (A B C D : Point) (k : Fraction) → Same (times k (x_component C D)) (x_component A B) → Same (times k (y_component C D)) (y_component A B) → IsRatio A B C D k
ratio_by A B C D k h g = record {
  by_x = fractions.same_trans _ _ _ (fractions.mul-same _ _ _ _ (fractions.same_refl k) (fractions.same_sym _ _ (x_component-is C D))) (fractions.same_trans _ _ _ h (x_component-is A B));
  by_y = fractions.same_trans _ _ _ (fractions.mul-same _ _ _ _ (fractions.same_refl k) (fractions.same_sym _ _ (y_component-is C D))) (fractions.same_trans _ _ _ g (y_component-is A B));
}

pub crossed_is : (A B C D : Point) → cross_product A B C D ≡ pos 0 → Same (times (x_component A B) (y_component C D)) (times (y_component A B) (x_component C D))
unfolding whole plus negated times minus quotient quotient_at
crossed_is A B C D h =
    let p = variable 0 in let q = variable 1 in let r = variable 2 in let s = variable 3 in let d = variable 4 in let e = variable 5 in
    record {
      crossed = by_combination integers (entry_at integers (x_difference A B ∷ y_difference A B ∷ x_difference C D ∷ y_difference C D ∷ pos (A.w * B.w) ∷ pos (C.w * D.w) ∷ []))
          (given (d ⊠ e) (p ⊠ s ⊟ q ⊠ r) (numeral 0) ∷ []) (p ⊠ s ⊠ (d ⊠ e)) (q ⊠ r ⊠ (d ⊠ e)) (h, tt) tt;
    }

pub null-true : (z : ℤ) → is_null z ≡ true → z ≡ pos 0
null-true (pos zero) e = refl
null-true (pos (suc k)) e = cc
null-true (negsuc k) e = cc

pub null-false : (z : ℤ) → is_null z ≡ false → z ≡ pos 0 → ⊥
null-false z e h = let q : true ≡ false = sym (ap is_null h) ∙ e in cc

pub ratio-is : (A B C D : Point) → HasRatio A B C D → IsRatio A B C D (ratio A B C D)
ratio-is A B C D h = go (is_null (x_difference C D)) refl
  where
    go : (b : Bool) → is_null (x_difference C D) ≡ b → IsRatio A B C D (elim b [ true ↦ quotient (y_component A B) (y_component C D) | false ↦ quotient (x_component A B) (x_component C D) ])
    go true e =
        let n : IsNonzero (y_component C D) = h.apart (null-true (x_difference C D) e) in
        let k = quotient (y_component A B) (y_component C D) in
        let t : Same (times k (y_component C D)) (y_component A B) = quotient-times (y_component A B) (y_component C D) n in
        ratio_by A B C D k (other (y_component A B) (x_component A B) (y_component C D) (x_component C D) k n (fractions.same_sym _ _ (crossed_is A B C D h.parallel)) t) t
    go false e =
        let n : IsNonzero (x_component C D) = null-false (x_difference C D) e in
        let k = quotient (x_component A B) (x_component C D) in
        let t : Same (times k (x_component C D)) (x_component A B) = quotient-times (x_component A B) (x_component C D) n in
        ratio_by A B C D k t (other (x_component A B) (y_component A B) (x_component C D) (y_component C D) k n (crossed_is A B C D h.parallel) t)
