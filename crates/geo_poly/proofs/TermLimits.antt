-- Limits of what becomes of each term, and the greatest ones of several limits.
use Rattle.std.proofs.Common.{◌≡◌, ℕ, zero, suc, ◌+◌, ◌-◌, ◌*◌, ◌^◌, ◌<◌, ◌≤◌, max, min, inl, inr, ℤ, Option, Some, None}
use Rattle.std.proofs.Common.{List, [], ◌∷◌, ◌++◌, length, get_or, take, refl, sym, ap, subst, ◌∙◌, arith}
use Rattle.std.specs.Prelude.{slice_get, slice_index_or}
use Rattle.std.proofs.Math.Nat.{mul-le-mul_left, mul-le-mul_right}
use Rattle.std.proofs.lemmas.Bool.{cases_lt}
use Rattle.geo_poly.specs.declared.rows.Piece.{Piece}
use Rattle.geo_poly.specs.declared.rows.Row.{Row}
use Rattle.geo_poly.specs.declared.term_limits.ExponentLimits.{ExponentLimits}
use Rattle.geo_poly.specs.declared.variables.Var.{Var}
use Rattle.geo_poly.specs.Inner.Keyed.{greatest_exponent, greatest_of_rows}
use Rattle.geo_poly.specs.Inner.Limits.{AreLimits, AreLimitsOfRows}
use Rattle.geo_poly.specs.Inner.ReplacedExponents.{exponent_bound, exponent_in_row, exponent_in_rows, term_exponent}
use Rattle.geo_poly.specs.Monomials.{Powers, exponent}
use Rattle.geo_poly.specs.Polynomials.{Summands}
use Rattle.geo_poly.specs.Replace.{kept, others, row_of}
use Rattle.geo_poly.specs.Shared.{var_at}
use Rattle.geo_poly.proofs.Told.{take_more}

-- anything is a limit of 0
pub AreLimits-any : (vars : List Var) (limits : List ℕ) → length limits ≡ length vars → AreLimits vars (λ _. 0) limits
AreLimits-any vars limits whole = record { whole = whole; each = λ i known. omega arith }

take_front : (xs ys : List ℕ) → take (length xs) (xs ++ ys) ≡ xs
take_front [] ys = refl
take_front (x ∷ xs) ys = ap (λ (zs : List ℕ). x ∷ zs) (take_front xs ys)

-- limits that were written over others
pub AreLimits-taken : (vars : List Var) (bound : Var → ℕ) (count : ℕ) (new old : List ℕ) → count ≡ length new → AreLimits vars bound new
    → AreLimits vars bound (take count (new ++ old))
AreLimits-taken vars bound count new old same h =
    subst (λ (ns : List ℕ). AreLimits vars bound ns)
    (sym (ap (λ (n : ℕ). take n (new ++ old)) same ∙ take_front new old)) h

-- THE GREATER ONES

-- limits that were made no less than others
pub AreLimits-max : (vars : List Var) (bound more : Var → ℕ) (old others new : List ℕ) → length new ≡ length old
    → ((i : ℕ) → i < length old → slice_index_or others i 0 ≤ slice_index_or new i 0)
    → ((i : ℕ) → slice_index_or old i 0 ≤ slice_index_or new i 0)
    → AreLimits vars bound old → AreLimits vars more others → AreLimits vars (λ v. max (more v) (bound v)) new
AreLimits-max vars bound more old others new whole seen kept h g = record {
  whole = whole ∙ h.whole;
  each = λ i known. omega (arith, h.each i known, g.each i known, seen i (omega (arith, known, h.whole)), kept i);
}

-- SUMS

-- a sum with a capped product is capped as that with the product
capped_sum : (b m o e times : ℕ) → min b (2 ^ 32 - 1) ≤ o → min m (2 ^ 32 - 1) ≤ e
    → min (b + m * times) (2 ^ 32 - 1) ≤ min (o + min (e * times) (2 ^ 32 - 1)) (2 ^ 32 - 1)
capped_sum b m o e zero h g = omega (arith, h)
capped_sum b m o e (suc t) h g =
    elim (cases_lt (2 ^ 32 - 1) m) [
      | inl big ↦
          let once : e * 1 ≤ e * suc t = mul-le-mul_left e (let one : 1 ≤ suc t = omega arith in one) in
          omega (arith, g, big, once)
      | inr small ↦
          let within : m ≤ e = omega (arith, g, small) in
          let more : m * suc t ≤ e * suc t = mul-le-mul_right (suc t) within in
          omega (arith, h, more)
    ]

-- limits to which others were added, so many times
pub AreLimits-times : (vars : List Var) (bound more : Var → ℕ) (old others new : List ℕ) (times : ℕ) → length new ≡ length old
    → ((i : ℕ) → i < length old
    → slice_index_or new i 0 ≡ min (slice_index_or old i 0 + min (slice_index_or others i 0 * times) (2 ^ 32 - 1)) (2 ^ 32 - 1))
    → AreLimits vars bound old → AreLimits vars more others → AreLimits vars (λ v. bound v + more v * times) new
AreLimits-times vars bound more old others new times whole sums h g = record {
  whole = whole ∙ h.whole;
  each = λ i known.
      let v = var_at vars i in
      omega (
        arith,
        sums i (omega (arith, known, h.whole)),
        capped_sum (bound v) (more v) (slice_index_or old i 0) (slice_index_or others i 0) times (h.each i known) (g.each i known),
      );
}

-- limits to which others were added once
pub AreLimits-plus : (vars : List Var) (bound more : Var → ℕ) (old others new : List ℕ) → length new ≡ length old
    → ((i : ℕ) → i < length old → slice_index_or new i 0 ≡ min (slice_index_or old i 0 + slice_index_or others i 0) (2 ^ 32 - 1))
    → AreLimits vars bound old → AreLimits vars more others → AreLimits vars (λ v. bound v + more v * 1) new
AreLimits-plus vars bound more old others new whole sums h g = record {
  whole = whole ∙ h.whole;
  each = λ i known. omega (arith, sums i (omega (arith, known, h.whole)), h.each i known, g.each i known);
}

-- NUMERATORS

-- the row whose limits stand at a place
pub record RowAt (vars : List Var) (rows : List Row) (i : ℕ) (num : ExponentLimits) : Type 0 where
  pub row : Row
  pub within : i < length rows
  pub at : slice_get rows i ≡ Some row
  pub is : row ≡ get_or rows i row
  pub limits : AreLimits vars (λ v. greatest_exponent v row.num.poly) num.items.items

pub row_at : (vars : List Var) (rows : List Row) (nums : List ExponentLimits) (i : ℕ) (num : ExponentLimits) → i < length nums
    → num ≡ get_or nums i num → AreLimitsOfRows vars rows nums → RowAt vars rows i num
row_at vars [] [] i num within is h = absurd (omega arith)
row_at vars [] (first ∷ nums) i num within is h = absurd h
row_at vars (row ∷ rows) [] i num within is h = absurd h
row_at vars (row ∷ rows) (first ∷ nums) zero num within is h = record {
  row = row;
  within = omega arith;
  at = refl;
  is = refl;
  limits = subst (λ (n : ExponentLimits). AreLimits vars (λ v. greatest_exponent v row.num.poly) n.items.items) (sym is) h.0;
}
row_at vars (row ∷ rows) (first ∷ nums) (suc i) num within is h =
    let found = row_at vars rows nums i num (omega arith) is h.1 in
    record { row = found.row; within = omega (arith, found.within); at = found.at; is = found.is; limits = found.limits }

pub AreLimitsOfRows-count : (vars : List Var) (rows : List Row) (nums : List ExponentLimits) → AreLimitsOfRows vars rows nums
    → length nums ≡ length rows
AreLimitsOfRows-count vars [] [] h = refl
AreLimitsOfRows-count vars [] (num ∷ nums) h = absurd h
AreLimitsOfRows-count vars (row ∷ rows) [] h = absurd h
AreLimitsOfRows-count vars (row ∷ rows) (num ∷ nums) h = omega (arith, AreLimitsOfRows-count vars rows nums h.1)

pub AreLimitsOfRows-push : (vars : List Var) (rows : List Row) (nums : List ExponentLimits) (row : Row) (num : ExponentLimits)
    → AreLimitsOfRows vars rows nums → AreLimits vars (λ v. greatest_exponent v row.num.poly) num.items.items
    → AreLimitsOfRows vars (rows ++ row ∷ []) (nums ++ num ∷ [])
AreLimitsOfRows-push vars [] [] row num h g = (g, tt)
AreLimitsOfRows-push vars [] (other ∷ nums) row num h g = absurd h
AreLimitsOfRows-push vars (other ∷ rows) [] row num h g = absurd h
AreLimitsOfRows-push vars (other ∷ rows) (first ∷ nums) row num h g = (h.0, AreLimitsOfRows-push vars rows nums row num h.1 g)

-- the greatest exponent in the first rows, and in one more
pub greatest_of_rows-take : (v : Var) (rows : List Row) (i : ℕ) (r : Row) → i < length rows → r ≡ get_or rows i r
    → greatest_of_rows v (take (i + 1) rows) ≡ max (greatest_exponent v r.num.poly) (greatest_of_rows v (take i rows))
greatest_of_rows-take v rows i r within at = ap (greatest_of_rows v) (take_more rows i r within at) ∙ joined (take i rows)
  where
    joined : (rs : List Row) → greatest_of_rows v (rs ++ r ∷ []) ≡ max (greatest_exponent v r.num.poly) (greatest_of_rows v rs)
    joined [] = omega arith
    joined (s ∷ rs) = omega (arith, joined rs)

-- TERMS

-- the greatest exponent in the first terms, and in one more
pub exponent_bound-more : (v : Var) (rows : List Row) (den : Piece) (top : ℕ) (ts : Summands) (t : Powers × ℤ)
    → exponent_bound v rows den top (ts ++ t ∷ []) ≡ max (term_exponent v rows den top t) (exponent_bound v rows den top ts)
exponent_bound-more v rows den top [] t = omega arith
exponent_bound-more v rows den top (s ∷ ts) t = omega (arith, exponent_bound-more v rows den top ts t)

-- POWERS

-- the exponent of the variable in what becomes of the first power, and of the others
pub powers_step : (v : Var) (rows : List Row) (w : Var) (e : ℕ) (m : Powers) (b : ℕ)
    → exponent_in_rows v rows ((w, e) ∷ m) (b + exponent v (others rows ((w, e) ∷ m)))
    ≡ exponent_in_rows v rows m (exponent_in_row v (row_of rows w) e (b + exponent v (others rows ((w, e) ∷ []))) + exponent v (others rows m))
powers_step v rows w e m b = go (row_of rows w)
  where
    go : (o : Option Row)
        → exponent_in_rows v rows m (exponent_in_row v o e (b + exponent v (kept o (w, e) (others rows m))))
        ≡ exponent_in_rows v rows m (exponent_in_row v o e (b + exponent v (kept o (w, e) [])) + exponent v (others rows m))
    go None = ap (exponent_in_rows v rows m) (omega arith)
    go (Some r) = ap (exponent_in_rows v rows m) (omega arith)

-- limits that a row adds to, and limits that a power adds to which stays
pub AreLimits-replaced : (vars : List Var) (rows : List Row) (w : Var) (e : ℕ) (row : Row) (bound : Var → ℕ) (limits : List ℕ) → row_of rows w ≡ Some row
    → AreLimits vars (λ v. bound v + greatest_exponent v row.num.poly * e) limits
    → AreLimits vars (λ v. exponent_in_row v (row_of rows w) e (bound v + exponent v (others rows ((w, e) ∷ [])))) limits
AreLimits-replaced vars rows w e row bound limits is h = record {
  whole = h.whole;
  each = λ i known.
      let v = var_at vars i in
      let more : exponent_in_row v (row_of rows w) e (bound v + exponent v (kept (row_of rows w) (w, e) [])) ≡ bound v + 0 + greatest_exponent v row.num.poly * e =
      ap (λ (o : Option Row). exponent_in_row v o e (bound v + exponent v (kept o (w, e) []))) is in
      omega (arith, h.each i known, more);
}

pub AreLimits-kept : (vars : List Var) (rows : List Row) (w : Var) (e : ℕ) (bound : Var → ℕ) (limits : List ℕ) → row_of rows w ≡ None
    → AreLimits vars (λ v. bound v + exponent v ((w, e) ∷ []) * 1) limits
    → AreLimits vars (λ v. exponent_in_row v (row_of rows w) e (bound v + exponent v (others rows ((w, e) ∷ [])))) limits
AreLimits-kept vars rows w e bound limits is h = record {
  whole = h.whole;
  each = λ i known.
      let v = var_at vars i in
      let more : exponent_in_row v (row_of rows w) e (bound v + exponent v (kept (row_of rows w) (w, e) [])) ≡ bound v + exponent v ((w, e) ∷ []) =
      ap (λ (o : Option Row). exponent_in_row v o e (bound v + exponent v (kept o (w, e) []))) is in
      omega (arith, h.each i known, more);
}

-- what becomes of a monomial is added to the limits, but for its last powers
pub record AreLeft (vars : List Var) (rows : List Row) (m left : Powers) (bound : Var → ℕ) (limits : List ℕ) : Type 0 where
  pub so_far : Var → ℕ
  pub bounded : AreLimits vars so_far limits
  pub sum : (v : Var) → exponent_in_rows v rows left (so_far v + exponent v (others rows left))
      ≡ exponent_in_rows v rows m (bound v + exponent v (others rows m))

pub AreLeft-all : (vars : List Var) (rows : List Row) (m : Powers) (bound : Var → ℕ) (limits : List ℕ) → AreLimits vars bound limits
    → AreLeft vars rows m m bound limits
AreLeft-all vars rows m bound limits h = record { so_far = bound; bounded = h; sum = λ v. refl }

-- one power more
pub AreLeft-next : (vars : List Var) (rows : List Row) (m left rest : Powers) (w : Var) (e : ℕ) (bound : Var → ℕ) (old new : List ℕ)
    → left ≡ (w, e) ∷ rest
    → ((b : Var → ℕ) → AreLimits vars b old
    → AreLimits vars (λ v. exponent_in_row v (row_of rows w) e (b v + exponent v (others rows ((w, e) ∷ [])))) new)
    → AreLeft vars rows m left bound old → AreLeft vars rows m rest bound new
AreLeft-next vars rows m left rest w e bound old new is added h = record {
  so_far = λ v. exponent_in_row v (row_of rows w) e (h.so_far v + exponent v (others rows ((w, e) ∷ [])));
  bounded = added h.so_far h.bounded;
  sum = λ v. sym (powers_step v rows w e rest (h.so_far v))
      ∙ ap (λ (ps : Powers). exponent_in_rows v rows ps (h.so_far v + exponent v (others rows ps))) (sym is) ∙ h.sum v;
}

-- none is left
pub AreLeft-none : (vars : List Var) (rows : List Row) (m left : Powers) (bound : Var → ℕ) (limits : List ℕ) → left ≡ []
    → AreLeft vars rows m left bound limits
    → AreLimits vars (λ v. exponent_in_rows v rows m (bound v + exponent v (others rows m))) limits
AreLeft-none vars rows m left bound limits is h = record {
  whole = h.bounded.whole;
  each = λ i known.
      let v = var_at vars i in
      let none : exponent_in_rows v rows left (h.so_far v + exponent v (others rows left)) ≡ h.so_far v + 0 =
      ap (λ (ps : Powers). exponent_in_rows v rows ps (h.so_far v + exponent v (others rows ps))) is in
      omega (arith, h.bounded.each i known, h.sum v, none);
}
