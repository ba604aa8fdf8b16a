-- How many products of monomials a replacement may form, by the counts of its pieces.
use Rattle.std.specs.Prelude.{ℕ, ◌+◌, ◌-◌, ◌*◌, ◌^◌, Option, Some, None, List, [], ◌∷◌, sum_by}
use Rattle.geo_poly.specs.declared.rows.Piece.{Piece}
use Rattle.geo_poly.specs.declared.rows.Row.{Row}
use Rattle.geo_poly.specs.Monomials.{Powers}
use Rattle.geo_poly.specs.Polynomials.{Summands}
use Rattle.geo_poly.specs.Replace.{denominators, most_denominators, row_of}

-- k times the count of the numerator to the power e, where there is a row
abbrev pub count_row : Option Row → ℕ → ℕ → ℕ
count_row None e k = k
count_row (Some r) e k = k * r.num.count ^ e

-- k times the counts of the numerators, each to its exponent
abbrev pub count_rows : List Row → Powers → ℕ → ℕ
count_rows rows [] k = k
count_rows rows (v ∷ m) k = count_rows rows m (count_row (row_of rows v.0) v.1 k)

-- the exponent, where there is a row
abbrev pub exponent_row : Option Row → ℕ → ℕ
exponent_row None e = 0
exponent_row (Some r) e = e

-- the sum of the exponents of the replaced variables
abbrev pub replaced_exponents : List Row → Powers → ℕ
replaced_exponents rows [] = 0
replaced_exponents rows (v ∷ m) = exponent_row (row_of rows v.0) v.1 + replaced_exponents rows m

-- for a term that gets `top` denominators: one more than the number of factors, times the counts of the factors
abbrev pub term_products : List Row → Piece → ℕ → Powers → ℕ
term_products rows den top m =
    let lacking = top - denominators rows m in
    (replaced_exponents rows m + lacking + 1) * count_rows rows m (den.count ^ lacking)

-- for all terms
abbrev pub products_of_terms : List Row → Piece → ℕ → Summands → ℕ
products_of_terms rows den top p = sum_by (λ t. term_products rows den top t.0) p

-- for the whole replacement
abbrev pub replacement_products : List Row → Piece → Summands → ℕ
replacement_products rows den p = products_of_terms rows den (most_denominators rows p) p
