-- The norm, the number of monomials and the degree of sums, products, constants and variables.
use Rattle.std.proofs.Common.{◌≡◌, ℕ, ◌+◌, ◌*◌, ◌≤◌, max, Bool, true, false, cond, eqb, ℤ, Some, None, [], ◌∷◌, ◌++◌, refl, ap, unsigned_abs, length, arith}
use Rattle.std.proofs.Math.Nat.{mul-le-mul}
use Rattle.std.proofs.lemmas.List.Sums.{sum_by-cons}
use Rattle.geo_points.specs.declared.ids.PointId.{PointId}
use Rattle.sparse_lists.specs.SparseLists.{AllKeys}
use Rattle.sparse_lists.proofs.Sums.{AllKeys-canonical, AllKeys-append}
use Rattle.geo_poly.specs.declared.canonical.Canon.{Canon}
use Rattle.geo_poly.specs.declared.variables.Var.{Var}
use Rattle.geo_poly.specs.Canonical.{canonical_area, canonical_difference, canonical_ratio}
use Rattle.geo_poly.specs.Monomials.{Powers, degree_of}
use Rattle.sparse_lists.specs.Coefficients.{coefficients}
use Rattle.geo_poly.specs.Polynomials.{Summands, term_cmp, norm_of, total_degree, constant_of, sum_of, negated, difference_of, product_of}
use Rattle.geo_poly.proofs.Lengths.{length-negated, length-product_of-le, length-sum_of-le}
use Rattle.geo_poly.proofs.Negated.{norm_of-negated}
use Rattle.geo_poly.proofs.PolynomialLaws.{norm_of-sum_of-le}
use Rattle.geo_poly.proofs.ProductLaws.{norm_of-product_of-le}
use Rattle.geo_poly.proofs.ReplaceBounds.{total_degree-product_of-le}
use Rattle.fraction_poly.specs.Inner.Drafts.{HasSign}
use Rattle.fraction_poly.specs.MultipliedOut.{variable_polynomial, canon_polynomial}
use Rattle.fraction_poly.proofs.Signs.{HasSign-area, HasSign-difference, HasSign-ratio}

-- w, k and g bound the norm, the number of monomials and the degree
pub record IsWithin (p : Summands) (w k g : ℕ) : Type 0 where
  pub norm : norm_of p ≤ w
  pub count : length p ≤ k
  pub degree : total_degree p ≤ g

-- DEGREES
-- the degree is at most d where that of each monomial is
UpTo : ℕ → Powers → Type 0
UpTo d m = degree_of m ≤ d

up_to : (p : Summands) (d : ℕ) → total_degree p ≤ d → AllKeys (UpTo d) p
unfolding UpTo
up_to [] d h = tt
up_to (t ∷ ts) d h = (omega arith, up_to ts d (omega arith))

from_up_to : (p : Summands) (d : ℕ) → AllKeys (UpTo d) p → total_degree p ≤ d
unfolding UpTo
from_up_to [] d h = omega arith
from_up_to (t ∷ ts) d h = omega (arith, h.0, from_up_to ts d h.1)

total_degree-sum_of-le : (p q : Summands) → total_degree (sum_of p q) ≤ max (total_degree p) (total_degree q)
total_degree-sum_of-le p q =
    let d = max (total_degree p) (total_degree q) in
    from_up_to (sum_of p q) d (AllKeys-canonical term_cmp coefficients (UpTo d) (p ++ q) (AllKeys-append (UpTo d) p q (up_to p d (omega arith)) (up_to q d (omega arith))))

total_degree-negated : (p : Summands) → total_degree (negated p) ≡ total_degree p
total_degree-negated [] = refl
total_degree-negated (t ∷ ts) = ap (max (degree_of t.0)) (total_degree-negated ts)

-- SUMS AND PRODUCTS
pub IsWithin-negated : (p : Summands) (w k g : ℕ) → IsWithin p w k g → IsWithin (negated p) w k g
IsWithin-negated p w k g h = record {
  norm = omega (arith, norm_of-negated p, h.norm);
  count = omega (arith, length-negated p, h.count);
  degree = omega (arith, total_degree-negated p, h.degree);
}

pub IsWithin-sum : (p q : Summands) (w k g v j f : ℕ) → IsWithin p w k g → IsWithin q v j f → IsWithin (sum_of p q) (w + v) (k + j) (max g f)
IsWithin-sum p q w k g v j f h i = record {
  norm = omega (arith, norm_of-sum_of-le p q, h.norm, i.norm);
  count = omega (arith, length-sum_of-le p q, h.count, i.count);
  degree = omega (arith, total_degree-sum_of-le p q, h.degree, i.degree);
}

pub IsWithin-difference : (p q : Summands) (w k g v j f : ℕ) → IsWithin p w k g → IsWithin q v j f → IsWithin (difference_of p q) (w + v) (k + j) (max g f)
IsWithin-difference p q w k g v j f h i = IsWithin-sum p (negated q) w k g v j f h (IsWithin-negated q v j f i)

pub IsWithin-product : (p q : Summands) (w k g v j f : ℕ) → IsWithin p w k g → IsWithin q v j f → IsWithin (product_of p q) (w * v) (k * j) (g + f)
IsWithin-product p q w k g v j f h i = record {
  norm = omega (arith, norm_of-product_of-le p q, mul-le-mul h.norm i.norm);
  count = omega (arith, length-product_of-le p q, mul-le-mul h.count i.count);
  degree = omega (arith, total_degree-product_of-le p q, h.degree, i.degree);
}

-- CONSTANTS AND VARIABLES
pub IsWithin-constant : (z : ℤ) → IsWithin (constant_of z) (max 1 (unsigned_abs z)) 1 0
IsWithin-constant z = go (eqb (unsigned_abs z) 0)
  where
    go : (b : Bool) → IsWithin (cond b [] (([], z) ∷ [])) (max 1 (unsigned_abs z)) 1 0
    go true = record { norm = omega arith; count = omega arith; degree = omega arith }
    go false = record { norm = omega (arith, sum_by-cons (λ (t : Powers × ℤ). unsigned_abs t.1) ([], z) []); count = omega arith; degree = omega arith }

pub IsWithin-variable : (sign : ℤ) (v : Var) → unsigned_abs sign ≤ 1 → IsWithin (variable_polynomial sign v) 1 1 1
IsWithin-variable sign v h = record {
  norm = omega (arith, sum_by-cons (λ (t : Powers × ℤ). unsigned_abs t.1) ((v, 1) ∷ [], sign) [], h);
  count = omega arith;
  degree = omega (arith, sum_by-cons (λ (p : Var × ℕ). p.1) (v, 1) []);
}

-- a sign times a variable, or a number that is a sign
IsWithin-canon : (c : Canon) → HasSign c → IsWithin (canon_polynomial c) 1 1 1
IsWithin-canon c h = elim c.var as (λ v. IsWithin (canon_polynomial (record { sign = c.sign; var = v })) 1 1 1) [
  | None ↦
      let w = IsWithin-constant c.sign in
      record { norm = omega (arith, w.norm, h.0); count = omega (arith, w.count); degree = omega (arith, w.degree) }
  | Some v ↦ IsWithin-variable c.sign v h.0
]

pub IsWithin-area : (a b c : PointId) → IsWithin (canon_polynomial (canonical_area a b c)) 1 1 1
IsWithin-area a b c = IsWithin-canon (canonical_area a b c) (HasSign-area a b c)

pub IsWithin-pythagoras : (a b c : PointId) → IsWithin (canon_polynomial (canonical_difference a b c)) 1 1 1
IsWithin-pythagoras a b c = IsWithin-canon (canonical_difference a b c) (HasSign-difference a b c)

pub IsWithin-ratio : (a b c d : PointId) → IsWithin (canon_polynomial (canonical_ratio a b c d)) 1 1 1
IsWithin-ratio a b c d = IsWithin-canon (canonical_ratio a b c d) (HasSign-ratio a b c d)
