-- Whether two points have the same first coordinate.
use Rattle.std.proofs.Common.{◌≡◌, Bool, true, false, pos, ◌*ℤ◌, [], ◌∷◌, refl, sym, subst, unsigned_abs}
use Rattle.ring_laws.specs.Solver.{variable, numeral, ◌⊠◌, ◌⊞◌, opposite, entry_at, given}
use Rattle.ring_laws.specs.Fraction.{Same}
use Rattle.ring_laws.proofs.Combination.{by_combination}
use Rattle.ring_laws.proofs.Fractions.{fractions}
use Rattle.ring_laws.proofs.Integers.{integers}
use Rattle.frac_laws.specs.declared.frac.Frac.{Frac}
use Rattle.frac_laws.specs.Numbers.{IsNumber, IsSameNumber, fraction_of}
use Rattle.geo_points.specs.Points.{Point, x_coordinate, x_difference, is_null}
use Rattle.geo_points.proofs.Ratios.{null-true}
use Rattle.geo_place.proofs.ResultLaws.{same_of}

fractions_same : (a b : Frac) → IsSameNumber a b → Same (fraction_of a) (fraction_of b)
unfolding fraction_of
fractions_same a b h = record { crossed = subst (λ z. a.num *ℤ z ≡ b.num *ℤ pos (unsigned_abs a.den)) b.positive (subst (λ z. a.num *ℤ b.den ≡ b.num *ℤ z) a.positive h) }

same_fractions : (a b : Frac) → Same (fraction_of a) (fraction_of b) → IsSameNumber a b
unfolding fraction_of
same_fractions a b h = subst (λ z. a.num *ℤ z ≡ b.num *ℤ a.den) (sym b.positive) (subst (λ z. a.num *ℤ pos (unsigned_abs b.den) ≡ b.num *ℤ z) (sym a.positive) h.crossed)

same_null : (C D : Point) → Same (x_coordinate C) (x_coordinate D) → x_difference C D ≡ pos 0
same_null C D h =
    let v = variable in
    by_combination integers (entry_at integers (C.x ∷ D.x ∷ pos C.w ∷ pos D.w ∷ [])) (given (opposite (numeral 1)) (v 0 ⊠ v 3) (v 1 ⊠ v 2) ∷ [])
    (v 1 ⊠ v 2 ⊞ opposite (v 0 ⊠ v 3)) (numeral 0) (h.crossed, tt) tt

null_same : (C D : Point) → x_difference C D ≡ pos 0 → Same (x_coordinate C) (x_coordinate D)
null_same C D e =
    let v = variable in
    record {
      crossed = by_combination integers (entry_at integers (C.x ∷ D.x ∷ pos C.w ∷ pos D.w ∷ [])) (given (opposite (numeral 1)) (v 1 ⊠ v 2 ⊞ opposite (v 0 ⊠ v 3)) (numeral 0) ∷ [])
          (v 0 ⊠ v 3) (v 1 ⊠ v 2) (e, tt) tt;
    }

module _ (a b : Frac) (C D : Point) (h : IsNumber a (x_coordinate C)) (k : IsNumber b (x_coordinate D)) where
  pub level : IsSameNumber a b → is_null (x_difference C D) ≡ true
  level s =
      let q : Same (x_coordinate C) (x_coordinate D) =
      fractions.same_trans _ _ _ (fractions.same_sym _ _ (same_of a (x_coordinate C) h)) (fractions.same_trans _ _ _ (fractions_same a b s) (same_of b (x_coordinate D) k)) in
      subst (λ z. is_null z ≡ true) (sym (same_null C D q)) refl

  pub tilted : (IsSameNumber a b → ⊥) → is_null (x_difference C D) ≡ false
  tilted n = go (is_null (x_difference C D)) refl
    where
      go : (z : Bool) → is_null (x_difference C D) ≡ z → z ≡ false
      go false e = refl
      go true e =
          absurd (n (same_fractions a b (fractions.same_trans _ _ _ (same_of a (x_coordinate C) h)
          (fractions.same_trans _ _ _ (null_same C D (null-true (x_difference C D) e)) (fractions.same_sym _ _ (same_of b (x_coordinate D) k))))))
