-- What is known of a polynomial that may be replaced, at one of its terms.
use Rattle.std.proofs.Common.{◌≡◌, ◌<◌, ◌≤◌, ℕ, zero, suc, eqb, false, ℤ, List, [], ◌∷◌, get_or, length, sym, ap, subst, ◌∙◌, unsigned_abs, arith}
use Rattle.std.specs.Prelude.{Contains, ◌≢◌}
use Rattle.std.proofs.lemmas.Bool.{false≢true}
use Rattle.sparse_lists.specs.SparseLists.{AllKeys, IsCanonical}
use Rattle.sparse_lists.proofs.Sums.{AllKeys-at}
use Rattle.geo_poly.specs.declared.rows.Piece.{Piece}
use Rattle.geo_poly.specs.declared.rows.Row.{Row}
use Rattle.geo_poly.specs.declared.settings.Setting.{Setting}
use Rattle.geo_poly.specs.declared.shared.Shared.{Shared}
use Rattle.geo_poly.specs.declared.variables.Var.{Var}
use Rattle.geo_poly.specs.Monomials.{IsMonomial, Powers}
use Rattle.geo_poly.specs.PolynomialVariables.{AllVariables}
use Rattle.sparse_lists.specs.Coefficients.{coefficients}
use Rattle.geo_poly.specs.Polynomials.{Summands, term_cmp}
use Rattle.geo_poly.specs.Replace.{CanReplace, degree_bound, denominators, most_denominators, term_degree}
use Rattle.geo_poly.specs.Shared.{told, told_term}
use Rattle.geo_poly.specs.Inner.ReplacedExponents.{exponent_bound, term_exponent}
use Rattle.geo_poly.proofs.Told.{item, told-is, told-within}

-- the term may be replaced, and does not vanish by its coefficient
pub record IsReplaceable (setting : Setting) (q : Summands) (t : Powers × ℤ) : Type 0 where
  pub monomial : IsMonomial t.0
  pub known : AllKeys (Contains setting.vars.now) t.0
  pub nonzero : unsigned_abs t.1 ≢ 0
  pub top : denominators setting.rows.now t.0 ≤ setting.top
  pub degree : term_degree setting.rows.now setting.den.piece.now setting.top t ≤ 65535
  pub exponents : (v : Var) → term_exponent v setting.rows.now setting.den.piece.now setting.top t ≤ exponent_bound v setting.rows.now setting.den.piece.now setting.top q

top_at : (rows : List Row) (top : ℕ) (q : Summands) (i : ℕ) (t : Powers × ℤ) → i < length q → t ≡ get_or q i t → most_denominators rows q ≤ top → denominators rows t.0 ≤ top
top_at rows top [] i t within at h = absurd (omega arith)
top_at rows top (u ∷ q) zero t within at h = subst (λ (x : Powers × ℤ). denominators rows x.0 ≤ top) (sym at) (omega (arith, h))
top_at rows top (u ∷ q) (suc i) t within at h = top_at rows top q i t (omega arith) at (omega (arith, h))

degree_at : (rows : List Row) (den : Piece) (top : ℕ) (q : Summands) (i : ℕ) (t : Powers × ℤ) → i < length q → t ≡ get_or q i t
    → degree_bound rows den top q ≤ 65535 → term_degree rows den top t ≤ 65535
degree_at rows den top [] i t within at h = absurd (omega arith)
degree_at rows den top (u ∷ q) zero t within at h = subst (λ (x : Powers × ℤ). term_degree rows den top x ≤ 65535) (sym at) (omega (arith, h))
degree_at rows den top (u ∷ q) (suc i) t within at h = degree_at rows den top q i t (omega arith) at (omega (arith, h))

counts_at : (q : Summands) (i : ℕ) (t : Powers × ℤ) → i < length q → t ≡ get_or q i t → IsCanonical term_cmp coefficients q → eqb (unsigned_abs t.1) 0 ≡ false
counts_at [] i t within at h = absurd (omega arith)
counts_at (u ∷ q) zero t within at h = subst (λ (x : Powers × ℤ). eqb (unsigned_abs x.1) 0 ≡ false) (sym at) h.0
counts_at (u ∷ q) (suc i) t within at h = counts_at q i t (omega arith) at h.2

-- no term has a greater exponent than the polynomial
exponent_at : (x : Var) (rows : List Row) (den : Piece) (top : ℕ) (q : Summands) (i : ℕ) (t : Powers × ℤ) → i < length q → t ≡ get_or q i t
    → term_exponent x rows den top t ≤ exponent_bound x rows den top q
exponent_at x rows den top [] i t within at = absurd (omega arith)
exponent_at x rows den top (u ∷ q) zero t within at =
    subst (λ (y : Powers × ℤ). term_exponent x rows den top y ≤ exponent_bound x rows den top (u ∷ q)) (sym at) (omega arith)
exponent_at x rows den top (u ∷ q) (suc i) t within at = omega (arith, exponent_at x rows den top q i t (omega arith) at)

pub replaceable_at : (setting : Setting) (p : Shared) (i : ℕ) → i < length p.list.now → AllVariables (Contains setting.vars.now) (told p)
    → CanReplace setting.rows.now setting.den.piece.now setting.top (told p) → IsReplaceable setting (told p) (told_term p (item p.list.now i))
replaceable_at setting p i within known can =
    let t = told_term p (item p.list.now i) in
    let there = told-within p i within in
    let at = told-is p i within in
    record {
      monomial = AllKeys-at IsMonomial (told p) i t there at can.monomials;
      known = AllKeys-at (λ (m : Powers). AllKeys (Contains setting.vars.now) m) (told p) i t there at known;
      nonzero = λ e. false≢true (sym (counts_at (told p) i t there at can.in_order) ∙ ap (λ (n : ℕ). eqb n 0) e);
      top = top_at setting.rows.now setting.top (told p) i t there at can.top_fits;
      degree = degree_at setting.rows.now setting.den.piece.now setting.top (told p) i t there at can.degree_fits;
      exponents = λ v. exponent_at v setting.rows.now setting.den.piece.now setting.top (told p) i t there at;
    }
