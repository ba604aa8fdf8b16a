-- Terms with the factors that they are still to get.
use Rattle.std.specs.Prelude.{◌≡◌, ℕ, zero, suc, ◌≢◌, ◌+◌, ◌*◌, ◌-◌, ◌^◌, ◌≤◌, All, Contains, ℤ, List, [], ◌∷◌, ◌++◌, drop, map, replicate, sum_by, take, unsigned_abs}
use Rattle.sparse_lists.specs.SparseLists.{AllKeys}
use Rattle.mono_store.specs.declared.links.MonoId.{MonoId}
use Rattle.geo_poly.specs.declared.pending.FactorPower.{FactorPower}
use Rattle.geo_poly.specs.declared.pending.Listed.{Listed}
use Rattle.geo_poly.specs.declared.pending.Pending.{Pending}
use Rattle.geo_poly.specs.declared.rows.Piece.{Piece}
use Rattle.geo_poly.specs.declared.rows.Row.{Row}
use Rattle.geo_poly.specs.declared.settings.Setting.{Setting}
use Rattle.geo_poly.specs.declared.shared.Shared.{Shared}
use Rattle.geo_poly.specs.declared.variables.Var.{Var}
use Rattle.geo_poly.specs.Monomials.{IsMonomial, Powers, degree_of, exponent}
use Rattle.geo_poly.specs.Polynomials.{Summands, polynomial_of, product_of}
use Rattle.geo_poly.specs.Counted.{products_of_terms, term_products}
use Rattle.geo_poly.specs.Inner.Accumulated.{accumulated_terms, times_power, times_rows}
use Rattle.geo_poly.specs.Inner.Keyed.{exponent_with, greatest_exponent}
use Rattle.geo_poly.specs.Inner.ReplacedExponents.{exponent_bound, exponent_in_rows}
use Rattle.geo_poly.specs.Replace.{degree_rows, denominators, others, weight_of, weight_rows}
use Rattle.geo_poly.specs.Shared.{IsIndexOf, told, told_powers}

-- the numerator of the row at a place; past the end, the denominator
abbrev pub numerator_at : List Row → Piece → ℕ → Piece
numerator_at [] den i = den
numerator_at (r ∷ rows) den zero = r.num
numerator_at (r ∷ rows) den (suc i) = numerator_at rows den i

-- the piece that a number names: 0 the denominator, one more than its place a row
abbrev pub piece_of : List Row → Piece → ℕ → Piece
piece_of rows den zero = den
piece_of rows den (suc i) = numerator_at rows den i

-- the pieces that numbers name
abbrev pub pieces_of : List Row → Piece → List ℕ → List Piece
pieces_of rows den ks = map (piece_of rows den) ks

-- p times the pieces, the last one first
abbrev pub times_pieces : List Piece → Summands → Summands
times_pieces [] p = p
times_pieces (q ∷ qs) p = product_of (times_pieces qs p) q.poly

-- w times the weights of the pieces
abbrev pub weight_with : List Piece → ℕ → ℕ
weight_with [] w = w
weight_with (q ∷ qs) w = weight_with qs w * q.weight

-- d plus the degrees of the pieces
abbrev pub degree_with : List Piece → ℕ → ℕ
degree_with [] d = d
degree_with (q ∷ qs) d = degree_with qs d + q.degree

-- n times the counts of the pieces
abbrev pub count_with : List Piece → ℕ → ℕ
count_with [] n = n
count_with (q ∷ qs) n = count_with qs n * q.count

-- how many products of monomials are formed where n monomials are multiplied by the pieces
abbrev pub products_with : List Piece → ℕ → ℕ
products_with [] n = 0
products_with (q ∷ qs) n = products_with qs n + count_with qs n * q.count

-- a term with the pieces that it is to get
abbrev pub Factored : Type 0
Factored = List Piece × (Powers × ℤ)

-- what becomes of the terms, one after another
abbrev pub factored_terms : List Factored → Summands
factored_terms [] = []
factored_terms (f ∷ fs) = times_pieces f.0 (f.1 ∷ []) ++ factored_terms fs

-- the sum of their weights
abbrev pub factored_weight : List Factored → ℕ
factored_weight fs = sum_by (λ f. weight_with f.0 (unsigned_abs f.1.1)) fs

-- the products of monomials where each is multiplied out for itself
abbrev pub factored_products : List Factored → ℕ
factored_products fs = sum_by (λ f. products_with f.0 1) fs

-- the numbers of the factors that a term is to get, and its index with its coefficient
abbrev pub Numbered : Type 0
Numbered = List ℕ × (MonoId × ℤ)

abbrev pub numbered_of : Pending → Numbered
numbered_of e = (e.factors.now, (e.id, e.coefficient))

-- the terms, each with so many of the numbers as it counts
abbrev pub numbered_terms : List ℕ → List Listed → List Numbered
numbered_terms ks [] = []
numbered_terms ks (t ∷ ts) = (take t.count ks, (t.id, t.coefficient)) ∷ numbered_terms (drop t.count ks) ts

-- a term of the polynomial, with the factors that it is to get from a place on
abbrev pub told_numbered : Setting → Shared → ℕ → Numbered → Factored
told_numbered setting p depth t =
    (pieces_of setting.rows.now setting.den.piece.now (drop depth t.0), (others setting.rows.now (told_powers p t.1.0), t.1.1))

abbrev pub told_pending : Setting → Shared → ℕ → Pending → Factored
told_pending setting p depth e = told_numbered setting p depth (numbered_of e)

-- the term is one of the polynomial, and within the bounds
pub record IsNumbered (setting : Setting) (p : Shared) (depth : ℕ) (t : Numbered) : Type 0 where
  pub index : IsIndexOf p t.1.0
  pub monomial : IsMonomial (told_powers p t.1.0)
  pub known : AllKeys (Contains setting.vars.now) (told_powers p t.1.0)
  pub nonzero : unsigned_abs t.1.1 ≢ 0
  pub degree : degree_with (pieces_of setting.rows.now setting.den.piece.now (drop depth t.0)) (degree_of (others setting.rows.now (told_powers p t.1.0))) ≤ 65535
  pub exponents : (v : Var) → exponent_with v (pieces_of setting.rows.now setting.den.piece.now (drop depth t.0)) (exponent v (others setting.rows.now (told_powers p t.1.0)))
      ≤ exponent_bound v setting.rows.now setting.den.piece.now setting.top (told p)

abbrev pub IsPending : Setting → Shared → ℕ → Pending → Type 0
IsPending setting p depth e = IsNumbered setting p depth (numbered_of e)

-- the factors, each as often as is said
abbrev pub factors_listed : List FactorPower → List ℕ
factors_listed [] = []
factors_listed (f ∷ fs) = replicate f.exponent f.factor ++ factors_listed fs

-- these factors make of a term what becomes of it
pub record AreFactors (setting : Setting) (m : Powers) (ks : List ℕ) : Type 0 where
  pub terms : (p : Summands) → times_pieces (pieces_of setting.rows.now setting.den.piece.now ks) p
      ≡ times_power (times_rows setting.rows.now m p) setting.den.piece.now.poly (setting.top - denominators setting.rows.now m)
  pub weight : (w : ℕ) → weight_with (pieces_of setting.rows.now setting.den.piece.now ks) w
      ≡ weight_rows setting.rows.now m w * setting.den.piece.now.weight ^ (setting.top - denominators setting.rows.now m)
  pub degree : (d : ℕ) → degree_with (pieces_of setting.rows.now setting.den.piece.now ks) d
      ≡ degree_rows setting.rows.now m d + setting.den.piece.now.degree * (setting.top - denominators setting.rows.now m)
  pub exponents : (v : Var) (e : ℕ) → exponent_with v (pieces_of setting.rows.now setting.den.piece.now ks) e
      ≡ exponent_in_rows v setting.rows.now m e + greatest_exponent v setting.den.piece.now.poly * (setting.top - denominators setting.rows.now m)
  pub products : products_with (pieces_of setting.rows.now setting.den.piece.now ks) 1 ≤ term_products setting.rows.now setting.den.piece.now setting.top m

-- the terms with their factors become what the polynomial q becomes, with no more weight and no more products
pub record ArePending (setting : Setting) (p : Shared) (q : Summands) (ts : List Numbered) : Type 0 where
  pub terms : polynomial_of (factored_terms (map (told_numbered setting p 0) ts))
      ≡ polynomial_of (accumulated_terms setting.rows.now setting.den.piece.now.poly setting.top q)
  pub weight : factored_weight (map (told_numbered setting p 0) ts) ≤ weight_of setting.rows.now setting.den.piece.now setting.top q
  pub products : factored_products (map (told_numbered setting p 0) ts) ≤ products_of_terms setting.rows.now setting.den.piece.now setting.top q
  pub pending : All (IsNumbered setting p 0) ts
