-- Points that differ, fractions other than 0, and factors that cancel.
use Rattle.std.proofs.Common.{◌≡◌, ℕ, ℤ, pos, ◌+ℤ◌, ◌*ℤ◌, List, [], ◌∷◌, T}
use Rattle.ring_laws.specs.Solver.{variable, numeral, ◌⊞◌, ◌⊟◌, ◌⊠◌, opposite, entry_at, given, normal_form, is_zero, combined}
use Rattle.ring_laws.proofs.Integers.{integers}
use Rattle.ring_laws.proofs.Combination.{by_combination}
use Rattle.ring_laws.specs.Fraction.{Fraction, Same, whole, plus, negated, minus, times, IsNonzero}
use Rattle.geo_points.specs.Placements.{SamePoint}
use Rattle.geo_points.specs.Points.{Point, x_coordinate, y_coordinate, x_difference, y_difference, pythagoras_difference}
use Rattle.geo_points.proofs.Expressions.{Quantity, ◌*'◌, quantity_value, spread, Fact, spread_facts, FactsHold}
use Rattle.ring_laws.proofs.Fractions.{fractions, cancel}
use Rattle.geo_points.proofs.Geometry.{geo_combination}
use Rattle.ring_laws.proofs.Quotients.{cancel_fraction, same_of_zero, zero_of_same, both_null}
use Rattle.geo_points.specs.Vectors.{Differ, run, rise}
use Rattle.geo_points.proofs.Denominators.{square_nonzero}
use Rattle.geo_points.proofs.Lines.{x_difference_null, y_difference_null}

-- ---- zero and not zero
pub is_nonzero : (a : Fraction) → (Same a (whole (pos 0)) → ⊥) → IsNonzero a
is_nonzero a n z = n (same_of_zero a z)

pub not_same : (a : Fraction) → IsNonzero a → Same a (whole (pos 0)) → ⊥
not_same a n h = n (zero_of_same a h)

-- from a statement that holds exactly where a value is 0, its denial holds exactly where the value is not 0
pub denied : {A : Type 0} → (a : Fraction) → (A → Same a (whole (pos 0))) × (Same a (whole (pos 0)) → A)
    → ((A → ⊥) → IsNonzero a) × (IsNonzero a → A → ⊥)
denied a e = (λ n. is_nonzero a (λ h. n (e.1 h)), λ n h. not_same a n (e.0 h))

pub same_of_minus : (a b : Fraction) → Same (minus a b) (whole (pos 0)) → Same a b
unfolding minus
same_of_minus a b h =
    by_combination fractions (entry_at fractions (a ∷ b ∷ [])) (given (numeral 1) (variable 0 ⊟ variable 1) (numeral 0) ∷ []) (variable 0) (variable 1) (h, tt) tt

pub minus_of_same : (a b : Fraction) → Same a b → Same (minus a b) (whole (pos 0))
unfolding minus
minus_of_same a b h =
    by_combination fractions (entry_at fractions (a ∷ b ∷ [])) (given (numeral 1) (variable 0) (variable 1) ∷ []) (variable 0 ⊟ variable 1) (numeral 0) (h, tt) tt

module _ (As : List Point) (rs : List Fraction) where
  -- both sides times a factor that is not 0
  pub geo_cancel : (hs : List Fact) (e f g : Quantity) → IsNonzero (quantity_value As rs g) → FactsHold As rs hs
      → T (is_zero (normal_form (combined (spread_facts hs) (spread (e *' g) ⊟ spread (f *' g)))))
      → Same (quantity_value As rs e) (quantity_value As rs f)
  geo_cancel hs e f g n h z =
      cancel_fraction (quantity_value As rs e) (quantity_value As rs f) (quantity_value As rs g) n (geo_combination As rs hs (e *' g) (f *' g) h z)

-- ---- points that differ
pub run_null : (A B : Point) → x_difference A B ≡ pos 0 → Same (run A B) (whole (pos 0))
unfolding whole plus negated times minus
run_null A B h =
    let ax = variable 0 in let aw = variable 1 in let bx = variable 2 in let bw = variable 3 in
    record {
      crossed = by_combination integers (entry_at integers (A.x ∷ pos A.w ∷ B.x ∷ pos B.w ∷ [])) (given (numeral 1) (bx ⊠ aw ⊟ ax ⊠ bw) (numeral 0) ∷ [])
          ((bx ⊠ aw ⊞ opposite ax ⊠ bw) ⊠ numeral 1) (numeral 0 ⊠ (bw ⊠ aw)) (h, tt) tt;
    }

pub rise_null : (A B : Point) → y_difference A B ≡ pos 0 → Same (rise A B) (whole (pos 0))
unfolding whole plus negated times minus
rise_null A B h =
    let ax = variable 0 in let aw = variable 1 in let bx = variable 2 in let bw = variable 3 in
    record {
      crossed = by_combination integers (entry_at integers (A.y ∷ pos A.w ∷ B.y ∷ pos B.w ∷ [])) (given (numeral 1) (bx ⊠ aw ⊟ ax ⊠ bw) (numeral 0) ∷ [])
          ((bx ⊠ aw ⊞ opposite ax ⊠ bw) ⊠ numeral 1) (numeral 0 ⊠ (bw ⊠ aw)) (h, tt) tt;
    }

pub same_point : (A B : Point) → Same (run A B) (whole (pos 0)) → Same (rise A B) (whole (pos 0)) → SamePoint A B
same_point A B h k = record {
  by_x = fractions.same_sym _ _ (same_of_minus (x_coordinate B) (x_coordinate A) h);
  by_y = fractions.same_sym _ _ (same_of_minus (y_coordinate B) (y_coordinate A) k);
}

pub apart : (A B : Point) → Differ A B → x_difference A B ≡ pos 0 → y_difference A B ≡ pos 0 → ⊥
apart A B n h k = n (same_point A B (run_null A B h) (rise_null A B k))

pub differ : (A B : Point) → (x_difference A B ≡ pos 0 → y_difference A B ≡ pos 0 → ⊥) → Differ A B
differ A B n s =
    n (x_difference_null A B (minus_of_same (x_coordinate B) (x_coordinate A) (fractions.same_sym _ _ s.by_x)))
    (y_difference_null A B (minus_of_same (y_coordinate B) (y_coordinate A) (fractions.same_sym _ _ s.by_y)))

-- P_ABA, where A and B differ
pub far : (A B : Point) → Differ A B → IsNonzero (pythagoras_difference A B A)
far A B n = square_nonzero A B (apart A B n)

-- ---- a sum of two squares
pub squares_null : (a b : Fraction) → Same (plus (times a a) (times b b)) (whole (pos 0)) → Same a (whole (pos 0)) × Same b (whole (pos 0))
unfolding whole plus negated times
squares_null a b h =
    let an = variable 0 in let ad = variable 1 in let bn = variable 2 in let bd = variable 3 in
    let env : ℕ → ℤ = entry_at integers (a.numerator ∷ pos a.denominator ∷ b.numerator ∷ pos b.denominator ∷ []) in
    let s : a.numerator *ℤ pos b.denominator *ℤ (a.numerator *ℤ pos b.denominator) +ℤ b.numerator *ℤ pos a.denominator *ℤ (b.numerator *ℤ pos a.denominator) ≡ pos 0 =
    by_combination integers env
    (given (numeral 1) ((an ⊠ an ⊠ (bd ⊠ bd) ⊞ bn ⊠ bn ⊠ (ad ⊠ ad)) ⊠ numeral 1) (numeral 0 ⊠ (ad ⊠ ad ⊠ (bd ⊠ bd))) ∷ [])
    (an ⊠ bd ⊠ (an ⊠ bd) ⊞ bn ⊠ ad ⊠ (bn ⊠ ad)) (numeral 0) (h.crossed, tt) tt in
    let both = both_null (a.numerator *ℤ pos b.denominator) (b.numerator *ℤ pos a.denominator) s in (
      same_of_zero a (cancel a.numerator (pos 0) b.denominator b.positive (by_combination integers env (given (numeral 1) (an ⊠ bd) (numeral 0) ∷ []) (an ⊠ bd) (numeral 0 ⊠ bd) (both.0, tt) tt)),
      same_of_zero b (cancel b.numerator (pos 0) a.denominator a.positive (by_combination integers env (given (numeral 1) (bn ⊠ ad) (numeral 0) ∷ []) (bn ⊠ ad) (numeral 0 ⊠ ad) (both.1, tt) tt)),
    )
