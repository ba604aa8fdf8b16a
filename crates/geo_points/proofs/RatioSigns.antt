-- What a swap of two points does to a ratio, and where a ratio is 0 or 1.
use Rattle.std.proofs.Common.{◌≡◌, pos, [], ◌∷◌}
use Rattle.ring_laws.specs.Solver.{variable, numeral, ◌⊟◌, ◌⊠◌, opposite, entry_at, given}
use Rattle.ring_laws.proofs.Combination.{by_combination}
use Rattle.ring_laws.proofs.Integers.{integers}
use Rattle.ring_laws.specs.Fraction.{Fraction, Same, whole, negated}
use Rattle.geo_points.specs.Points.{Point, x_difference, y_difference, cross_product, ratio, HasRatio}
use Rattle.geo_points.proofs.Expressions.{abscissa, ordinate, whole_number, given_number, ◌-'◌, ◌*'◌, opposite', fact}
use Rattle.ring_laws.proofs.Fractions.{fractions}
use Rattle.geo_points.proofs.Geometry.{geo_combination}
use Rattle.geo_points.proofs.Ratios.{IsRatio, ratio-is}
use Rattle.geo_points.proofs.RatioRows.{cancel_vector}

-- a ratio is the only number that scales one vector to the other
pub ratio-unique : (A B C D : Point) (k : Fraction) → HasRatio A B C D → IsRatio A B C D k → Same (ratio A B C D) k
ratio-unique A B C D k h is =
    let r = ratio-is A B C D h in
    cancel_vector C D (ratio A B C D) k h.apart
    (fractions.same_trans _ _ _ r.by_x (fractions.same_sym _ _ is.by_x))
    (fractions.same_trans _ _ _ r.by_y (fractions.same_sym _ _ is.by_y))

-- the difference of two coordinates turns its sign with the points
x_difference-turned : (A B : Point) → x_difference B A ≡ pos 0 → x_difference A B ≡ pos 0
x_difference-turned A B h =
    by_combination integers (entry_at integers (A.x ∷ pos A.w ∷ B.x ∷ pos B.w ∷ []))
    (given (opposite (numeral 1)) (variable 0 ⊠ variable 3 ⊟ variable 2 ⊠ variable 1) (numeral 0) ∷ [])
    (variable 2 ⊠ variable 1 ⊟ variable 0 ⊠ variable 3) (numeral 0) (h, tt) tt

y_difference-turned : (A B : Point) → y_difference B A ≡ pos 0 → y_difference A B ≡ pos 0
y_difference-turned A B h =
    by_combination integers (entry_at integers (A.y ∷ pos A.w ∷ B.y ∷ pos B.w ∷ []))
    (given (opposite (numeral 1)) (variable 0 ⊠ variable 3 ⊟ variable 2 ⊠ variable 1) (numeral 0) ∷ [])
    (variable 2 ⊠ variable 1 ⊟ variable 0 ⊠ variable 3) (numeral 0) (h, tt) tt

pub x_difference-self : (A : Point) → x_difference A A ≡ pos 0
x_difference-self A =
    by_combination integers (entry_at integers (A.x ∷ pos A.w ∷ [])) [] (variable 0 ⊠ variable 1 ⊟ variable 0 ⊠ variable 1) (numeral 0) tt tt

pub y_difference-self : (A : Point) → y_difference A A ≡ pos 0
y_difference-self A =
    by_combination integers (entry_at integers (A.y ∷ pos A.w ∷ [])) [] (variable 0 ⊠ variable 1 ⊟ variable 0 ⊠ variable 1) (numeral 0) tt tt

-- the points are A B, with x, y, w as 0 to 5; p and q are the coordinates of CD, as 6 and 7
cross_product-turned_first : (A B C D : Point) → cross_product A B C D ≡ pos 0 → cross_product B A C D ≡ pos 0
cross_product-turned_first A B C D h =
    let ax = variable 0 in let ay = variable 1 in let aw = variable 2 in let bx = variable 3 in let by = variable 4 in let bw = variable 5 in
    let p = variable 6 in let q = variable 7 in
    by_combination integers (entry_at integers (A.x ∷ A.y ∷ pos A.w ∷ B.x ∷ B.y ∷ pos B.w ∷ x_difference C D ∷ y_difference C D ∷ []))
    (given (opposite (numeral 1)) ((bx ⊠ aw ⊟ ax ⊠ bw) ⊠ q ⊟ (by ⊠ aw ⊟ ay ⊠ bw) ⊠ p) (numeral 0) ∷ [])
    ((ax ⊠ bw ⊟ bx ⊠ aw) ⊠ q ⊟ (ay ⊠ bw ⊟ by ⊠ aw) ⊠ p) (numeral 0) (h, tt) tt

cross_product-turned_last : (A B C D : Point) → cross_product A B C D ≡ pos 0 → cross_product A B D C ≡ pos 0
cross_product-turned_last A B C D h =
    let cx = variable 0 in let cy = variable 1 in let cw = variable 2 in let dx = variable 3 in let dy = variable 4 in let dw = variable 5 in
    let p = variable 6 in let q = variable 7 in
    by_combination integers (entry_at integers (C.x ∷ C.y ∷ pos C.w ∷ D.x ∷ D.y ∷ pos D.w ∷ x_difference A B ∷ y_difference A B ∷ []))
    (given (opposite (numeral 1)) (p ⊠ (dy ⊠ cw ⊟ cy ⊠ dw) ⊟ q ⊠ (dx ⊠ cw ⊟ cx ⊠ dw)) (numeral 0) ∷ [])
    (p ⊠ (cy ⊠ dw ⊟ dy ⊠ cw) ⊟ q ⊠ (cx ⊠ dw ⊟ dx ⊠ cw)) (numeral 0) (h, tt) tt

-- a ratio is defined with either pair turned
pub HasRatio-turned_first : (A B C D : Point) → HasRatio A B C D → HasRatio B A C D
HasRatio-turned_first A B C D h = record { parallel = cross_product-turned_first A B C D h.parallel; apart = h.apart }

pub HasRatio-turned_last : (A B C D : Point) → HasRatio A B C D → HasRatio A B D C
HasRatio-turned_last A B C D h = record {
  parallel = cross_product-turned_last A B C D h.parallel;
  apart = λ x y. h.apart (x_difference-turned C D x) (y_difference-turned C D y);
}

-- and turns its sign
pub ratio-turned_first : (A B C D : Point) → HasRatio A B C D → Same (ratio A B C D) (negated (ratio B A C D))
ratio-turned_first A B C D h =
    let k = ratio-is B A C D (HasRatio-turned_first A B C D h) in
    ratio-unique A B C D (negated (ratio B A C D)) h
    (record {
      by_x = geo_combination (A ∷ B ∷ C ∷ D ∷ []) (ratio B A C D ∷ [])
          (fact (opposite' (whole_number 1)) (given_number 0 *' (abscissa 3 -' abscissa 2)) (abscissa 0 -' abscissa 1) ∷ [])
          (opposite' (given_number 0) *' (abscissa 3 -' abscissa 2)) (abscissa 1 -' abscissa 0) (k.by_x, tt) tt;
      by_y = geo_combination (A ∷ B ∷ C ∷ D ∷ []) (ratio B A C D ∷ [])
          (fact (opposite' (whole_number 1)) (given_number 0 *' (ordinate 3 -' ordinate 2)) (ordinate 0 -' ordinate 1) ∷ [])
          (opposite' (given_number 0) *' (ordinate 3 -' ordinate 2)) (ordinate 1 -' ordinate 0) (k.by_y, tt) tt;
    })

pub ratio-turned_last : (A B C D : Point) → HasRatio A B C D → Same (ratio A B C D) (negated (ratio A B D C))
ratio-turned_last A B C D h =
    let k = ratio-is A B D C (HasRatio-turned_last A B C D h) in
    ratio-unique A B C D (negated (ratio A B D C)) h
    (record {
      by_x = geo_combination (A ∷ B ∷ C ∷ D ∷ []) (ratio A B D C ∷ [])
          (fact (whole_number 1) (given_number 0 *' (abscissa 2 -' abscissa 3)) (abscissa 1 -' abscissa 0) ∷ [])
          (opposite' (given_number 0) *' (abscissa 3 -' abscissa 2)) (abscissa 1 -' abscissa 0) (k.by_x, tt) tt;
      by_y = geo_combination (A ∷ B ∷ C ∷ D ∷ []) (ratio A B D C ∷ [])
          (fact (whole_number 1) (given_number 0 *' (ordinate 2 -' ordinate 3)) (ordinate 1 -' ordinate 0) ∷ [])
          (opposite' (given_number 0) *' (ordinate 3 -' ordinate 2)) (ordinate 1 -' ordinate 0) (k.by_y, tt) tt;
    })

-- AB / AB is 1
pub ratio-one : (A B : Point) → HasRatio A B A B → Same (ratio A B A B) (whole (pos 1))
ratio-one A B h =
    ratio-unique A B A B (whole (pos 1)) h
    (record {
      by_x = geo_combination (A ∷ B ∷ []) [] [] (whole_number 1 *' (abscissa 1 -' abscissa 0)) (abscissa 1 -' abscissa 0) tt tt;
      by_y = geo_combination (A ∷ B ∷ []) [] [] (whole_number 1 *' (ordinate 1 -' ordinate 0)) (ordinate 1 -' ordinate 0) tt tt;
    })

-- AA / CD is 0
pub ratio-null : (A C D : Point) → HasRatio A A C D → Same (ratio A A C D) (whole (pos 0))
ratio-null A C D h =
    ratio-unique A A C D (whole (pos 0)) h
    (record {
      by_x = geo_combination (A ∷ C ∷ D ∷ []) [] [] (whole_number 0 *' (abscissa 2 -' abscissa 1)) (abscissa 0 -' abscissa 0) tt tt;
      by_y = geo_combination (A ∷ C ∷ D ∷ []) [] [] (whole_number 0 *' (ordinate 2 -' ordinate 1)) (ordinate 0 -' ordinate 0) tt tt;
    })
