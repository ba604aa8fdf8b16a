-- What becomes of a polynomial when a number is put for a variable.
use Rattle.std.specs.Prelude.{◌≡◌, ◌≢◌, ℕ, ◌*◌, ◌^◌, ◌≤◌, max, not, ℤ, pos, ◌*ℤ◌, List, [], ◌∷◌, length, map, filter, sum_by, unsigned_abs, All, AllPairs}
use Rattle.std.specs.Int.{int_pow}
use Rattle.std.specs.Ordering.{is_eq}
use Rattle.ring_laws.proofs.Fractions.{fractions}
use Rattle.ring_laws.specs.Fraction.{Fraction, Same, whole}
use Rattle.sparse_lists.specs.SparseLists.{AllKeys, IsCanonical}
use Rattle.geo_poly.specs.declared.variables.Var.{Var}
use Rattle.geo_poly.specs.Variables.{var_cmp}
use Rattle.geo_poly.specs.Monomials.{Powers, exponent, exponents}
use Rattle.sparse_lists.specs.Coefficients.{coefficients}
use Rattle.geo_poly.specs.Polynomials.{Summands, norm_of, polynomial_of, term_cmp, total_degree}
use Rattle.geo_poly.specs.Values.{value}

-- the powers of the other variables
abbrev pub without : Var → Powers → Powers
without v m = filter (λ p. not (is_eq (var_cmp v p.0))) m

-- a term with the number z for v
abbrev pub specialised_term : Var → ℤ → Powers × ℤ → Powers × ℤ
specialised_term v z t = (without v t.0, t.1 *ℤ int_pow z (exponent v t.0))

-- the polynomial with the number z for v: terms that become alike add up
abbrev pub specialised : Var → ℤ → Summands → Summands
specialised v z p = polynomial_of (map (specialised_term v z) p)

-- what bounds the norm with z for v: each absolute coefficient times that of z to the exponent of v, where 0 to the power 0 is 1
abbrev pub specialised_weight : Var → ℤ → Summands → ℕ
specialised_weight v z p = sum_by (λ t. unsigned_abs t.1 * unsigned_abs z ^ exponent v t.0) p

-- the greatest exponent of v, 0 where no monomial has it
abbrev pub degree_in : Var → Summands → ℕ
degree_in v [] = 0
degree_in v (t ∷ ts) = max (exponent v t.0) (degree_in v ts)

-- the monomials in order, each with a coefficient that is not 0, and each of its powers in order and not 0: a polynomial of any norm and degree
pub record IsCollected (p : Summands) : Type 0 where
  pub in_order : IsCanonical term_cmp coefficients p
  pub monomials : AllKeys (IsCanonical var_cmp exponents) p

-- none of the polynomials is zero
abbrev pub NoneZero : List Summands → Type 0
NoneZero ps = All (λ p. p ≢ []) ps

-- LAWS
-- with the number z for v, the value is the same wherever v has the value z
abbrev pub SpecialisedKeepsValue : Type 0
SpecialisedKeepsValue =
    (x : Var → Fraction) (v : Var) (z : ℤ) (p : Summands) → Same (x v) (whole z)
    → Same (value fractions x (specialised v z p)) (value fractions x p)

-- what becomes of a polynomial lacks v, and nothing grows but the norm, which the weight bounds
pub record IsSmaller (v : Var) (z : ℤ) (p : Summands) : Type 0 where
  pub collected : IsCollected p → IsCollected (specialised v z p)
  pub gone : degree_in v (specialised v z p) ≡ 0
  pub exponents : (w : Var) → degree_in w (specialised v z p) ≤ degree_in w p
  pub degree : total_degree (specialised v z p) ≤ total_degree p
  pub monomials : length (specialised v z p) ≤ length p
  pub norm : norm_of (specialised v z p) ≤ specialised_weight v z p

-- this holds of every number and variable
abbrev pub SpecialisedIsSmaller : Type 0
SpecialisedIsSmaller = (v : Var) (z : ℤ) (p : Summands) → IsSmaller v z p

-- 0, 1 and -1 are never refused: the weight is at most the norm
abbrev pub SmallNumbersKeepTheNorm : Type 0
SmallNumbersKeepTheNorm = (v : Var) (z : ℤ) (p : Summands) → unsigned_abs z ≤ 1 → specialised_weight v z p ≤ norm_of p

-- a polynomial that is not zero becomes zero at no more numbers than its degree in the variable
abbrev pub ZerosAreFew : Type 0
ZerosAreFew =
    (v : Var) (p : Summands) (zs : List ℤ) → IsCollected p → p ≢ [] → AllPairs (λ a b. a ≢ b) zs → All (λ z. specialised v z p ≡ []) zs
    → length zs ≤ degree_in v p

-- for polynomials none of which is zero, some number from 0 to the sum of their degrees in the variable makes none zero
abbrev pub SomeNumberKeepsAll : Type 0
SomeNumberKeepsAll =
    (v : Var) (ps : List Summands) → All IsCollected ps → NoneZero ps
    → (k : ℕ) × (k ≤ sum_by (degree_in v) ps) × NoneZero (map (specialised v (pos k)) ps)
