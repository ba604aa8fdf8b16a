-- A triangle has no area just where its corners lie on a line.
use Rattle.std.proofs.Common.{◌≡◌, ℕ, ℤ, pos, ◌*ℤ◌, ◌↔◌, sym, ◌∙◌, ap, [], ◌∷◌}
use Rattle.ring_laws.specs.Solver.{variable, numeral, ◌⊞◌, ◌⊟◌, ◌⊠◌, entry_at}
use Rattle.geo_points.specs.Points.{Point, cross_product, determinant, signed_area}
use Rattle.ring_laws.proofs.Integers.{integers}
use Rattle.ring_laws.proofs.Sound.{agree}
use Rattle.ring_laws.proofs.Fractions.{cancel}

-- A.x, A.y, A.w are the variables 0, 1, 2, and so on
abbrev coordinates : Point → Point → Point → ℕ → ℤ
coordinates A B C = entry_at integers (A.x ∷ A.y ∷ pos A.w ∷ B.x ∷ B.y ∷ pos B.w ∷ C.x ∷ C.y ∷ pos C.w ∷ [])

-- the cross product of AB and AC is A.w times the determinant
cross_product-is_determinant : (A B C : Point) → cross_product A B A C ≡ determinant A B C *ℤ pos A.w
cross_product-is_determinant A B C =
    let ax = variable 0 in let ay = variable 1 in let aw = variable 2 in let bx = variable 3 in let by = variable 4 in
    let bw = variable 5 in let cx = variable 6 in let cy = variable 7 in let cw = variable 8 in
    agree integers (coordinates A B C)
    ((bx ⊠ aw ⊟ ax ⊠ bw) ⊠ (cy ⊠ aw ⊟ ay ⊠ cw) ⊟ (by ⊠ aw ⊟ ay ⊠ bw) ⊠ (cx ⊠ aw ⊟ ax ⊠ cw))
    ((ax ⊠ (by ⊠ cw ⊟ cy ⊠ bw) ⊟ ay ⊠ (bx ⊠ cw ⊟ cx ⊠ bw) ⊞ aw ⊠ (bx ⊠ cy ⊟ cx ⊠ by)) ⊠ aw) tt

times_zero : (z : ℤ) → z ≡ pos 0 → (w : ℤ) → z *ℤ w ≡ pos 0 *ℤ w
times_zero z e w = ap (λ x. x *ℤ w) e

zero_times : (w : ℤ) → pos 0 *ℤ w ≡ pos 0
zero_times w = agree integers (entry_at integers (w ∷ [])) (numeral 0 ⊠ variable 0) (numeral 0) tt

pub collinear_null : (A B C : Point) → ((signed_area A B C).numerator ≡ pos 0) ↔ (cross_product A B A C ≡ pos 0)
unfolding signed_area
collinear_null A B C = (
  λ h. cross_product-is_determinant A B C ∙ times_zero (determinant A B C) h (pos A.w) ∙ zero_times (pos A.w),
  λ h. cancel (determinant A B C) (pos 0) A.w A.positive (sym (cross_product-is_determinant A B C) ∙ h ∙ sym (zero_times (pos A.w))),
)
