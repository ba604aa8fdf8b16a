-- Exponents of what is multiplied by pieces.
use Rattle.std.proofs.Common.{◌≡◌, ℕ, ◌+◌, ◌≤◌, ℤ, List, [], ◌∷◌, ◌++◌, refl, ap, arith}
use Rattle.sparse_lists.specs.SparseLists.{AllKeys}
use Rattle.sparse_lists.proofs.Sums.{AllKeys-append, AllKeys-canonical}
use Rattle.geo_poly.specs.declared.rows.Piece.{Piece}
use Rattle.geo_poly.specs.declared.variables.Var.{Var}
use Rattle.geo_poly.specs.Inner.Factored.{times_pieces}
use Rattle.geo_poly.specs.Inner.Keyed.{AreInReach, ArePiecesInReach, exponent_with, greatest_exponent}
use Rattle.geo_poly.specs.Keys.{Keys}
use Rattle.geo_poly.specs.Monomials.{Powers, exponent}
use Rattle.sparse_lists.specs.Coefficients.{coefficients}
use Rattle.geo_poly.specs.Polynomials.{Summands, multiples, product_of, products, term_cmp}
use Rattle.geo_poly.proofs.InReach.{less_within}
use Rattle.geo_poly.proofs.MonomialOrder.{exponent-product}

module _ (v : Var) where
  abbrev AtMost : ℕ → Powers → Type 0
  AtMost e m = exponent v m ≤ e

  -- the greatest exponent is the least bound of all
  pub least : (e : ℕ) (p : Summands) → AllKeys (λ m. exponent v m ≤ e) p → greatest_exponent v p ≤ e
  least e [] h = omega arith
  least e (t ∷ ts) h = omega (arith, h.0, least e ts h.1)

  multiples-most : (t : Powers × ℤ) (q : Summands) (e : ℕ) → exponent v t.0 + greatest_exponent v q ≤ e → AllKeys (AtMost e) (multiples t q)
  multiples-most t [] e h = tt
  multiples-most t (u ∷ us) e h = (omega (arith, h, exponent-product v t.0 u.0), multiples-most t us e (omega (arith, h)))

  products-most : (p q : Summands) (e : ℕ) → greatest_exponent v p + greatest_exponent v q ≤ e → AllKeys (AtMost e) (products p q)
  products-most [] q e h = tt
  products-most (t ∷ ts) q e h =
      AllKeys-append (AtMost e) (multiples t q) (products ts q) (multiples-most t q e (omega (arith, h))) (products-most ts q e (omega (arith, h)))

  product-le : (p q : Summands) → greatest_exponent v (product_of p q) ≤ greatest_exponent v p + greatest_exponent v q
  product-le p q =
      let e = greatest_exponent v p + greatest_exponent v q in
      least e (product_of p q) (AllKeys-canonical term_cmp coefficients (AtMost e) (products p q) (products-most p q e (omega arith)))

  pub times_pieces-le : (qs : List Piece) (p : Summands) → greatest_exponent v (times_pieces qs p) ≤ exponent_with v qs (greatest_exponent v p)
  times_pieces-le [] p = omega arith
  times_pieces-le (q ∷ qs) p = omega (arith, product-le (times_pieces qs p) q.poly, times_pieces-le qs p)

  pub with-append : (qs rs : List Piece) (e : ℕ) → exponent_with v (qs ++ rs) e ≡ exponent_with v qs (exponent_with v rs e)
  with-append [] rs e = refl
  with-append (q ∷ qs) rs e = ap (λ x. x + greatest_exponent v q.poly) (with-append qs rs e)

  pub with-grows : (qs : List Piece) (e : ℕ) → e ≤ exponent_with v qs e
  with-grows [] e = omega arith
  with-grows (q ∷ qs) e = omega (arith, with-grows qs e)

  pub with-is : (qs : List Piece) (e : ℕ) → exponent_with v qs e ≡ e + exponent_with v qs 0
  with-is [] e = omega arith
  with-is (q ∷ qs) e = omega (arith, with-is qs e)

  pub all_at_most : (p : Summands) (e : ℕ) → greatest_exponent v p ≤ e → AllKeys (λ m. exponent v m ≤ e) p
  all_at_most [] e h = tt
  all_at_most (t ∷ ts) e h = (omega (arith, h), all_at_most ts e (omega (arith, h)))

-- the later pieces alone have less
pub later_reach : (vars : List Var) (keys : Keys) (qs rs : List Piece) (p : Summands) → ArePiecesInReach vars keys (qs ++ rs) p → ArePiecesInReach vars keys rs p
later_reach vars keys qs rs p h =
    less_within vars keys keys (λ v. exponent_with v (qs ++ rs) (greatest_exponent v p)) (λ v. exponent_with v rs (greatest_exponent v p)) refl
    (λ v. omega (arith, with-append v qs rs (greatest_exponent v p), with-grows v qs (exponent_with v rs (greatest_exponent v p)))) h

-- one more piece may be multiplied in
pub piece_in_reach : (vars : List Var) (keys : Keys) (q : Piece) (qs : List Piece) (p : Summands) → ArePiecesInReach vars keys (q ∷ qs) p
    → AreInReach vars keys (times_pieces qs p) q.poly
piece_in_reach vars keys q qs p h =
    less_within vars keys keys (λ v. exponent_with v (q ∷ qs) (greatest_exponent v p)) (λ v. greatest_exponent v (times_pieces qs p) + greatest_exponent v q.poly) refl
    (λ v. omega (arith, times_pieces-le v qs p)) h
