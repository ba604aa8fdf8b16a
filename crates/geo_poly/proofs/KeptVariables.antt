-- What holds of each variable is kept by sums, differences, products, replacements, cuts and numbers put for variables.
use Rattle.std.proofs.Common.{◌≡◌, ℕ, Bool, true, false, cond, ℤ, Option, Some, None, List, [], ◌∷◌, ◌++◌, map, refl}
use Rattle.std.specs.Prelude.{not}
use Rattle.std.specs.Ordering.{is_eq}
use Rattle.sparse_lists.specs.SparseLists.{AllKeys}
use Rattle.geo_poly.specs.declared.rows.Row.{Row}
use Rattle.geo_poly.specs.declared.variables.Var.{Var}
use Rattle.geo_poly.specs.KeptVariables.{AllNumerators, KeepsVariables}
use Rattle.geo_poly.specs.Monomials.{Powers}
use Rattle.geo_poly.specs.Polynomials.{Summands, difference_of, negated, sum_of}
use Rattle.geo_poly.specs.PolynomialVariables.{AllVariables}
use Rattle.geo_poly.specs.Replace.{kept, most_denominators, others, replaced_by, replaced_term, replaced_terms, row_of}
use Rattle.geo_poly.specs.Specialise.{specialised, specialised_term, without}
use Rattle.geo_poly.specs.Variables.{var_cmp}
use Rattle.geo_poly.proofs.EachVariable.{OfNumerators, of-append, of-cut, of-polynomial_of, of-product_of, of-term}

module _ (Holds : Var → Type 0) where
  pub of-sum_of : (p q : Summands) → AllVariables Holds p → AllVariables Holds q → AllVariables Holds (sum_of p q)
  of-sum_of p q h g = of-polynomial_of Holds (p ++ q) (of-append Holds p q h g)

  pub of-negated : (p : Summands) → AllVariables Holds p → AllVariables Holds (negated p)
  of-negated [] h = tt
  of-negated (t ∷ ts) h = (h.0, of-negated ts h.1)

  pub of-difference_of : (p q : Summands) → AllVariables Holds p → AllVariables Holds q → AllVariables Holds (difference_of p q)
  of-difference_of p q h g = of-sum_of p (negated q) h (of-negated q g)

  -- REPLACEMENTS
  numerators : (rows : List Row) → AllNumerators Holds rows → OfNumerators Holds rows
  numerators [] h = tt
  numerators (r ∷ rs) h = (h.0, numerators rs h.1)

  -- the variables that stay
  abbrev Stays : List Row → Var → Type 0
  Stays rows v = row_of rows v ≡ None → Holds v

  of-others : (rows : List Row) (m : Powers) → AllKeys (Stays rows) m → AllKeys Holds (others rows m)
  of-others rows [] h = tt
  of-others rows (v ∷ m) h = go (row_of rows v.0) refl (of-others rows m h.1)
    where
      go : (o : Option Row) → row_of rows v.0 ≡ o → AllKeys Holds (others rows m) → AllKeys Holds (kept o v (others rows m))
      go None e rest = (h.0 e, rest)
      go (Some r) e rest = rest

  of-terms : (rows : List Row) (den : Summands) (top : ℕ) (p : Summands) → OfNumerators Holds rows → AllVariables Holds den → AllVariables (Stays rows) p
      → AllVariables Holds (replaced_terms rows den top p)
  of-terms rows den top [] g d h = tt
  of-terms rows den top (t ∷ ts) g d h =
      of-append Holds (replaced_term rows den top t) (replaced_terms rows den top ts)
      (of-term Holds rows den top t g d (of-others rows t.0 h.0)) (of-terms rows den top ts g d h.1)

  pub of-replacement : (rows : List Row) (den p : Summands) → AllNumerators Holds rows → AllVariables Holds den → AllVariables (Stays rows) p
      → AllVariables Holds (replaced_by rows den p)
  of-replacement rows den p g d h =
      of-polynomial_of Holds (replaced_terms rows den (most_denominators rows p) p) (of-terms rows den (most_denominators rows p) p (numerators rows g) d h)

  -- NUMBERS FOR VARIABLES
  of-without : (v : Var) (m : Powers) → AllKeys Holds m → AllKeys Holds (without v m)
  of-without v [] h = tt
  of-without v (p ∷ m) h = go (not (is_eq (var_cmp v p.0))) (of-without v m h.1)
    where
      go : (b : Bool) → AllKeys Holds (without v m) → AllKeys Holds (cond b (p ∷ without v m) (without v m))
      go true rest = (h.0, rest)
      go false rest = rest

  of-specialised_terms : (v : Var) (z : ℤ) (p : Summands) → AllVariables Holds p → AllVariables Holds (map (specialised_term v z) p)
  of-specialised_terms v z [] h = tt
  of-specialised_terms v z (t ∷ ts) h = (of-without v t.0 h.0, of-specialised_terms v z ts h.1)

  pub of-specialised : (v : Var) (z : ℤ) (p : Summands) → AllVariables Holds p → AllVariables Holds (specialised v z p)
  of-specialised v z p h = of-polynomial_of Holds (map (specialised_term v z) p) (of-specialised_terms v z p h)

-- every property is kept
pub kept_property : (Holds : Var → Type 0) → KeepsVariables Holds
kept_property Holds = record {
  sum = of-sum_of Holds;
  difference = of-difference_of Holds;
  product = of-product_of Holds;
  replacement = of-replacement Holds;
  cut = of-cut Holds;
  specialisation = of-specialised Holds;
}
