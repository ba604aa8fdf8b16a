-- Factors: how one grows, that it is unique, that it divides, and its value.
use Rattle.std.proofs.Common.{◌≡◌, ℕ, ◌+◌, ◌≤◌, eqb, false, ℤ, [], ◌∷◌, ◌++◌, sym, ap, ◌∙◌, unsigned_abs, All, arith}
use Rattle.std.specs.declared.cmp.Ordering.TheVariants.{Less}
use Rattle.std.proofs.lemmas.Bool.Decides.{nat_tests}
use Rattle.std.proofs.lemmas.List.Elements.{All-head, All-tail}
use Rattle.std.proofs.lemmas.List.Sums.{sum_by-append, sum_by-cons}
use Rattle.geo_poly.specs.declared.variables.Var.{Var}
use Rattle.geo_poly.specs.Variables.{var_cmp}
use Rattle.sparse_lists.specs.SparseLists.{AllKeys, IsCanonical}
use Rattle.geo_poly.specs.Monomials.{Powers, exponents, degree_of, IsMonomial}
use Rattle.sparse_lists.specs.Coefficients.{coefficients}
use Rattle.geo_poly.specs.Polynomials.{Summands, term_cmp, multiples, product_of}
use Rattle.geo_poly.proofs.Orders.{var_order, exponents_add, term_order}
use Rattle.sparse_lists.proofs.Coefficients.{coefficients_add}
use Rattle.geo_poly.proofs.ProductLaws.{IsCanonical-multiples}
use Rattle.sparse_lists.proofs.Canonical.{IsBefore-append, canonical_self}
use Rattle.std.proofs.lemmas.List.{append-nil}

-- GROWTH
nonzero : (e : ℕ) → 1 ≤ e → eqb e 0 ≡ false
nonzero e h = grind (arith, nat_tests)

IsCanonical-push : (m : Powers) (v : Var) (e : ℕ) → 1 ≤ e → All (λ (p : Var × ℕ). var_cmp p.0 v ≡ Less) m → IsCanonical var_cmp exponents m → IsCanonical var_cmp exponents (m ++ (v, e) ∷ [])
IsCanonical-push [] v e h l c = (nonzero e h, tt, tt)
IsCanonical-push (p ∷ m) v e h l c =
    let less : var_cmp p.0 v ≡ Less = All-head (λ (p : Var × ℕ). var_cmp p.0 v ≡ Less) p m l in (
      c.0,
      IsBefore-append var_cmp exponents var_order exponents_add p.0 m ((v, e) ∷ []) c.1 (less, tt),
      IsCanonical-push m v e h (All-tail (λ (p : Var × ℕ). var_cmp p.0 v ≡ Less) p m l) c.2,
    )

pub IsMonomial-push : (m : Powers) (v : Var) (e : ℕ) → IsMonomial m → 1 ≤ e → All (λ (p : Var × ℕ). var_cmp p.0 v ≡ Less) m → degree_of m + e ≤ 65535 → IsMonomial (m ++ (v, e) ∷ [])
IsMonomial-push m v e h some later fits = record {
  in_order = IsCanonical-push m v e some later h.in_order;
  degree_fits = omega (arith, sum_by-append (λ (p : Var × ℕ). p.1) m ((v, e) ∷ []), sum_by-cons (λ (p : Var × ℕ). p.1) (v, e) [], fits);
}

-- PRODUCTS BY ONE TERM
-- the multiples of a polynomial by a term that is not 0 are the product
pub multiples-product : (t : Powers × ℤ) (q : Summands) → (unsigned_abs t.1 ≡ 0 → ⊥) → AllKeys IsMonomial q → IsCanonical term_cmp coefficients q → multiples t q ≡ product_of (t ∷ []) q
multiples-product t q n g h =
    sym (canonical_self term_cmp coefficients term_order coefficients_add (multiples t q) (IsCanonical-multiples t q (nonzero (unsigned_abs t.1) (omega (arith, n))) g h))
    ∙ ap (Rattle.sparse_lists.specs.SparseLists.canonical term_cmp coefficients) (sym (append-nil (multiples t q)))
