-- Products of monomials whose exponents stay within the limits of the keys.
use Rattle.std.proofs.Common.{◌≡◌, ℕ, zero, suc, ◌+◌, ◌<◌, ◌≤◌, Option, Some, None, List, [], ◌∷◌, cond, drop, get_or, length, take, ap, refl, sym, subst, ◌∙◌, inl, inr, arith}
use Rattle.std.specs.Prelude.{IfSome, ℤ}
use Rattle.std.specs.List.Sorted.{IsStrictlySortedBy}
use Rattle.std.specs.Ordering.{is_eq, nat_cmp}
use Rattle.std.specs.declared.cmp.Ordering.{Ordering}
use Rattle.std.specs.declared.cmp.Ordering.TheVariants.{Less, Equal, Greater}
use Rattle.std.proofs.lemmas.Bool.{cases_lt}
use Rattle.std.proofs.lemmas.Cmp.{ranked}
use Rattle.sparse_lists.specs.SparseLists.{AllKeys}
use Rattle.mono_store.specs.Monomials.{Powers as NumberedPowers, exponent as numbered_exponent}
use Rattle.geo_poly.specs.declared.rows.Piece.{Piece}
use Rattle.geo_poly.specs.declared.rows.Row.{Row}
use Rattle.geo_poly.specs.declared.variables.Var.{Var}
use Rattle.geo_poly.specs.Inner.Keyed.{AreInReach, AreWithinLimits, HasRoom, IsInReach, IsWithinLimits, greatest_exponent, greatest_of_rows}
use Rattle.geo_poly.specs.Inner.ReplacedExponents.{IsReplacedInReach, exponent_bound}
use Rattle.geo_poly.specs.Keys.{Keys}
use Rattle.geo_poly.specs.Monomials.{Powers, exponent, exponents}
use Rattle.geo_poly.specs.Polynomials.{Summands}
use Rattle.geo_poly.specs.Shared.{AllPlaces, named, var_at}
use Rattle.geo_poly.specs.Variables.{var_cmp}
use Rattle.geo_poly.proofs.Naming.{amount-rename, var_at-keeps}

-- EXPONENTS

-- a variable past those of the monomial has no exponent
past : (n v : ℕ) (m : NumberedPowers) → AllKeys (λ k. k < n) m → n ≤ v → numbered_exponent v m ≡ 0
past n v [] h le = refl
past n v (t ∷ m) h le = here (nat_cmp v t.0) refl ∙ past n v m h.1 le
  where
    here : (o : Ordering) → nat_cmp v t.0 ≡ o → cond (is_eq o) t.1 0 + numbered_exponent v m ≡ numbered_exponent v m
    here Less e = omega arith
    here Equal e = let same : v ≡ t.0 = ranked v t.0 Equal (sym e) in absurd (omega (arith, same, h.0))
    here Greater e = omega arith

-- the exponent of a number is that of its variable
pub exponent-named : (vars : List Var) → IsStrictlySortedBy var_cmp vars → (i : ℕ) (m : NumberedPowers) → i < length vars → AllPlaces (length vars) m
    → exponent (var_at vars i) (named vars m) ≡ numbered_exponent i m
exponent-named vars rising i m within places = amount-rename nat_cmp var_cmp exponents (var_at vars) (λ k. k < length vars) (var_at-keeps vars rising) i m within places

-- THE GREATEST EXPONENT

pub exponent_at-le : (v : Var) (p : Summands) (i : ℕ) (t : Powers × ℤ) → i < length p → t ≡ get_or p i t → exponent v t.0 ≤ greatest_exponent v p
exponent_at-le v [] i t h e = absurd (omega arith)
exponent_at-le v (u ∷ us) zero t h e = let same : exponent v t.0 ≡ exponent v u.0 = ap (λ (x : Powers × ℤ). exponent v x.0) e in omega (arith, same)
exponent_at-le v (u ∷ us) (suc i) t h e = omega (arith, exponent_at-le v us i t (omega arith) e)

take-le : (v : Var) (n : ℕ) (p : Summands) → greatest_exponent v (take n p) ≤ greatest_exponent v p
take-le v zero p = omega arith
take-le v (suc n) [] = omega arith
take-le v (suc n) (t ∷ ts) = omega (arith, take-le v n ts)

drop-le : (v : Var) (n : ℕ) (p : Summands) → greatest_exponent v (drop n p) ≤ greatest_exponent v p
drop-le v zero p = omega arith
drop-le v (suc n) [] = omega arith
drop-le v (suc n) (t ∷ ts) = omega (arith, drop-le v n ts)

-- what is less is within the limits too, also of other keys with the same ones
pub less_within : (vars : List Var) (old new : Keys) (most few : Var → ℕ) → new.limits ≡ old.limits → ((v : Var) → few v ≤ most v)
    → IfSome old.limits (λ limit. (i : ℕ) → i < length vars → most (var_at vars i) ≤ limit i)
    → IfSome new.limits (λ limit. (i : ℕ) → i < length vars → few (var_at vars i) ≤ limit i)
less_within vars old new most few same less h =
    subst (λ (o : Option (ℕ → ℕ)). IfSome o (λ limit. (i : ℕ) → i < length vars → few (var_at vars i) ≤ limit i)) (sym same) (go old.limits h)
  where
    go : (o : Option (ℕ → ℕ)) → IfSome o (λ limit. (i : ℕ) → i < length vars → most (var_at vars i) ≤ limit i)
        → IfSome o (λ limit. (i : ℕ) → i < length vars → few (var_at vars i) ≤ limit i)
    go None g = tt
    go (Some limit) g = λ i within. omega (arith, g i within, less (var_at vars i))

-- IN REACH

pub IsReplacedInReach-kept : (vars : List Var) (old new : Keys) (rows : List Row) (den : Piece) (top : ℕ) (p : Summands) → new.limits ≡ old.limits
    → IsReplacedInReach vars old rows den top p → IsReplacedInReach vars new rows den top p
IsReplacedInReach-kept vars old new rows den top p same h =
    less_within vars old new (λ v. exponent_bound v rows den top p) (λ v. exponent_bound v rows den top p) same (λ v. omega arith) h

-- what is at most the exponent of a variable is within its limit
pub room_for : (vars : List Var) (old new : Keys) (m : Powers) (k e : ℕ) → k < length vars → new.limits ≡ old.limits → e ≤ exponent (var_at vars k) m → HasRoom vars old m
    → IfSome new.limits (λ limit. e ≤ limit k)
room_for vars old new m k e within same few h = subst (λ (o : Option (ℕ → ℕ)). IfSome o (λ limit. e ≤ limit k)) (sym same) (go old.limits h)
  where
    go : (o : Option (ℕ → ℕ)) → IfSome o (λ limit. (i : ℕ) → i < length vars → exponent (var_at vars i) m ≤ limit i) → IfSome o (λ limit. e ≤ limit k)
    go None g = tt
    go (Some limit) g = omega (arith, g k within, few)

pub IsWithinLimits-kept : (vars : List Var) (old new : Keys) (p : Summands) → new.limits ≡ old.limits → IsWithinLimits vars old p → IsWithinLimits vars new p
IsWithinLimits-kept vars old new p same h = less_within vars old new (λ v. greatest_exponent v p) (λ v. greatest_exponent v p) same (λ v. omega arith) h

-- no monomial of a polynomial has more than it
pub room_at : (vars : List Var) (old new : Keys) (p : Summands) (i : ℕ) (t : Powers × ℤ) → i < length p → t ≡ get_or p i t → new.limits ≡ old.limits
    → IsWithinLimits vars old p → HasRoom vars new t.0
room_at vars old new p i t within is same h =
    less_within vars old new (λ v. greatest_exponent v p) (λ v. exponent v t.0) same (λ v. exponent_at-le v p i t within is) h

module _ (vars : List Var) (keys : Keys) (p q : Summands) (reach : AreInReach vars keys p q) where
  fewer : (p2 q2 : Summands) → ((v : Var) → greatest_exponent v p2 ≤ greatest_exponent v p) → ((v : Var) → greatest_exponent v q2 ≤ greatest_exponent v q) → AreInReach vars keys p2 q2
  fewer p2 q2 left right =
      less_within vars keys keys (λ v. greatest_exponent v p + greatest_exponent v q) (λ v. greatest_exponent v p2 + greatest_exponent v q2) refl
      (λ v. omega (arith, left v, right v)) reach

  pub AreInReach-take : (n : ℕ) → AreInReach vars keys (take n p) q
  AreInReach-take n = fewer (take n p) q (λ v. take-le v n p) (λ v. omega arith)

  pub AreInReach-drop : (n : ℕ) → AreInReach vars keys (drop n p) q
  AreInReach-drop n = fewer (drop n p) q (λ v. drop-le v n p) (λ v. omega arith)

  pub AreInReach-flip : AreInReach vars keys q p
  AreInReach-flip =
      less_within vars keys keys (λ v. greatest_exponent v p + greatest_exponent v q) (λ v. greatest_exponent v q + greatest_exponent v p) refl (λ v. omega arith) reach

  -- a monomial of each
  pub in_reach : IsStrictlySortedBy var_cmp vars → (m n : NumberedPowers) → AllPlaces (length vars) m → AllPlaces (length vars) n
      → ((v : Var) → exponent v (named vars m) ≤ greatest_exponent v p) → ((v : Var) → exponent v (named vars n) ≤ greatest_exponent v q) → IsInReach keys m n
  in_reach rising m n m_in n_in left right = go keys.limits reach
    where
      go : (o : Option (ℕ → ℕ))
          → IfSome o (λ limit. (i : ℕ) → i < length vars → greatest_exponent (var_at vars i) p + greatest_exponent (var_at vars i) q ≤ limit i)
          → IfSome o (λ limit. (v : ℕ) → numbered_exponent v m + numbered_exponent v n ≤ limit v)
      go None h = tt
      go (Some limit) h = λ i. elim (cases_lt i (length vars)) [
        | inl within ↦
            omega (
              arith,
              h i within,
              exponent-named vars rising i m within m_in,
              exponent-named vars rising i n within n_in,
              left (var_at vars i),
              right (var_at vars i),
            )
        | inr over ↦ omega (arith, past (length vars) i m m_in over, past (length vars) i n n_in over)
      ]

pub AreInReach-kept : (vars : List Var) (old new : Keys) (p q : Summands) → new.limits ≡ old.limits → AreInReach vars old p q → AreInReach vars new p q
AreInReach-kept vars old new p q same h =
    let sum = λ (v : Var). greatest_exponent v p + greatest_exponent v q in less_within vars old new sum sum same (λ v. omega arith) h

pub IsInReach-kept : (old new : Keys) (m n : NumberedPowers) → new.limits ≡ old.limits → IsInReach old m n → IsInReach new m n
IsInReach-kept old new m n same h =
    subst (λ (o : Option (ℕ → ℕ)). IfSome o (λ limit. (v : ℕ) → numbered_exponent v m + numbered_exponent v n ≤ limit v)) (sym same) h

-- THE NUMERATORS

row_at-le : (v : Var) (rows : List Row) (i : ℕ) (row : Row) → i < length rows → row ≡ get_or rows i row → greatest_exponent v row.num.poly ≤ greatest_of_rows v rows
row_at-le v [] i row h e = absurd (omega arith)
row_at-le v (r ∷ rows) zero row h e =
    let same : greatest_exponent v row.num.poly ≡ greatest_exponent v r.num.poly = ap (λ (x : Row). greatest_exponent v x.num.poly) e in omega (arith, same)
row_at-le v (r ∷ rows) (suc i) row h e = omega (arith, row_at-le v rows i row (omega arith) e)

pub row_within : (vars : List Var) (old new : Keys) (rows : List Row) (i : ℕ) (row : Row) → i < length rows → row ≡ get_or rows i row → new.limits ≡ old.limits
    → AreWithinLimits vars old rows → IsWithinLimits vars new row.num.poly
row_within vars old new rows i row below is same h =
    less_within vars old new (λ v. greatest_of_rows v rows) (λ v. greatest_exponent v row.num.poly) same (λ v. row_at-le v rows i row below is) h
