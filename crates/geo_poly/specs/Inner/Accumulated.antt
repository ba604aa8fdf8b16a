-- What a replacement makes when factor after factor is multiplied into what is made so far. For polynomials it is what `replaced_term`
-- and `replaced_terms` say.
use Rattle.std.specs.Prelude.{ℕ, zero, suc, ◌-◌, ℤ, Option, Some, None, List, [], ◌∷◌, ◌++◌}
use Rattle.geo_poly.specs.declared.rows.Row.{Row}
use Rattle.geo_poly.specs.Monomials.{Powers}
use Rattle.geo_poly.specs.Polynomials.{Summands, product_of}
use Rattle.geo_poly.specs.Replace.{denominators, others, row_of}

-- p times q, n times
abbrev pub times_power : Summands → Summands → ℕ → Summands
times_power p q zero = p
times_power p q (suc n) = product_of (times_power p q n) q

-- p times the row's numerator, n times
abbrev pub times_row : Option Row → ℕ → Summands → Summands
times_row None n p = p
times_row (Some r) n p = times_power p r.num.poly n

-- p times the numerators of the replaced variables, each as often as its exponent says
abbrev pub times_rows : List Row → Powers → Summands → Summands
times_rows rows [] p = p
times_rows rows (v ∷ m) p = times_rows rows m (times_row (row_of rows v.0) v.1 p)

-- a term times its numerators, and then times the denominators that it lacks
abbrev pub accumulated_term : List Row → Summands → ℕ → Powers × ℤ → Summands
accumulated_term rows den top t = times_power (times_rows rows t.0 ((others rows t.0, t.1) ∷ [])) den (top - denominators rows t.0)

-- all terms, one after another
abbrev pub accumulated_terms : List Row → Summands → ℕ → Summands → Summands
accumulated_terms rows den top [] = []
accumulated_terms rows den top (t ∷ ts) = accumulated_term rows den top t ++ accumulated_terms rows den top ts
