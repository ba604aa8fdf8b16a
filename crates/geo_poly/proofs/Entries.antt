-- The coefficients of a polynomial fit, since its norm does.
use Rattle.std.proofs.Common.{ℕ, ◌^◌, ◌<◌, ◌≤◌, ℤ, length, sym, subst, unsigned_abs, FitsSigned, arith}
use Rattle.std.specs.Int.{w128}
use Rattle.std.proofs.lemmas.Int.{fits_signed_from_abs}
use Rattle.std.proofs.lemmas.List.Sums.{get_or-le-sum_by}
use Rattle.geo_poly.specs.declared.shared.Shared.{Shared}
use Rattle.geo_poly.specs.Monomials.{Powers}
use Rattle.geo_poly.specs.Polynomials.{norm_of}
use Rattle.geo_poly.specs.Shared.{told, told_term}
use Rattle.geo_poly.proofs.Told.{item, told-is, told-within}

module _ (p : Shared) (i : ℕ) (within : i < length p.list.now) (fits : norm_of (told p) < 2 ^ 127) where
  pub item_small : unsigned_abs (item p.list.now i).1 < 2 ^ 127
  item_small =
      let size : Powers × ℤ → ℕ = λ t. unsigned_abs t.1 in
      let t = told_term p (item p.list.now i) in
      let le : unsigned_abs (item p.list.now i).1 ≤ norm_of (told p) =
      subst (λ (x : Powers × ℤ). size x ≤ norm_of (told p)) (sym (told-is p i within)) (get_or-le-sum_by size (told p) i t (told-within p i within)) in
      omega (arith, le, fits)

  pub item_fits : FitsSigned w128 (item p.list.now i).1
  item_fits = fits_signed_from_abs w128 (item p.list.now i).1 item_small
