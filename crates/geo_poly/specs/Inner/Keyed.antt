-- Keys that products and sums of chains go over: their order, what stays where keys are added, and the terms of lists of them.
use Rattle.std.specs.Prelude.{◌≡◌, ℕ, ◌+◌, ◌^◌, ◌<◌, ◌≤◌, max, IfSome, ℤ, List, [], ◌∷◌, length, map}
use Rattle.std.specs.declared.cmp.Ordering.{Ordering}
use Rattle.mono_store.specs.declared.links.MonoId.{MonoId}
use Rattle.mono_store.specs.Monomials.{ComesFirst, Powers as NumberedPowers, exponent as numbered_exponent, monomial_cmp, product as numbered_product}
use Rattle.geo_poly.specs.declared.rows.Piece.{Piece}
use Rattle.geo_poly.specs.declared.rows.Row.{Row}
use Rattle.geo_poly.specs.declared.variables.Var.{Var}
use Rattle.geo_poly.specs.Keys.{IsKeyUnder, Keys}
use Rattle.geo_poly.specs.Monomials.{Powers, exponent}
use Rattle.geo_poly.specs.Polynomials.{Summands}
use Rattle.geo_poly.specs.Shared.{Indices, named, var_at}

-- `Greater` at the key of the earlier monomial
abbrev pub key_cmp : Keys → ℕ → ℕ → Ordering
key_cmp keys a b = monomial_cmp (keys.powers a) (keys.powers b)

-- the old keys are among the new ones, with their monomials
pub record KeepsKeys (old new : Keys) : Type 0 where
  pub longer : old.count ≤ new.count
  pub powers : (k : ℕ) → k < old.count → new.powers k ≡ old.powers k
  pub limits : new.limits ≡ old.limits

-- the product of both has no exponent above its limit
abbrev pub IsInReach : Keys → NumberedPowers → NumberedPowers → Type 0
IsInReach keys m n = IfSome keys.limits (λ limit. (v : ℕ) → numbered_exponent v m + numbered_exponent v n ≤ limit v)

-- the greatest exponent of the variable in a monomial, 0 where there is none
abbrev pub greatest_exponent : Var → Summands → ℕ
greatest_exponent v [] = 0
greatest_exponent v (t ∷ ts) = max (exponent v t.0) (greatest_exponent v ts)

-- no product of their monomials has an exponent above its limit
abbrev pub AreInReach : List Var → Keys → Summands → Summands → Type 0
AreInReach vars keys p q =
    IfSome keys.limits (λ limit. (i : ℕ) → i < length vars → greatest_exponent (var_at vars i) p + greatest_exponent (var_at vars i) q ≤ limit i)

-- so much more is the key of the monomial that has the power before those of a key
abbrev pub IsAmount : Keys → ℕ → ℕ → ℕ → Type 0
IsAmount keys var exp amount =
    (next : ℕ) → next < keys.count → 1 ≤ exp → ComesFirst var (keys.powers next)
    → (next + amount < keys.count) × (keys.powers (next + amount) ≡ (var, exp) ∷ keys.powers next)

-- the key of a product is the sum of both keys, and no key passes 64 bits
pub record AddsUp (keys : Keys) : Type 0 where
  pub few : keys.count ≤ 2 ^ 64
  pub sums : (a b : ℕ) → a < keys.count → b < keys.count → IsInReach keys (keys.powers a) (keys.powers b)
      → (a + b < keys.count) × (keys.powers (a + b) ≡ numbered_product (keys.powers a) (keys.powers b))

-- no exponent of the monomial is above its limit
abbrev pub HasRoom : List Var → Keys → Powers → Type 0
HasRoom vars keys m = IfSome keys.limits (λ limit. (i : ℕ) → i < length vars → exponent (var_at vars i) m ≤ limit i)

-- no monomial has an exponent above its limit
abbrev pub IsWithinLimits : List Var → Keys → Summands → Type 0
IsWithinLimits vars keys p = IfSome keys.limits (λ limit. (i : ℕ) → i < length vars → greatest_exponent (var_at vars i) p ≤ limit i)

-- the greatest exponent of the variable in the numerators, 0 where there is none
abbrev pub greatest_of_rows : Var → List Row → ℕ
greatest_of_rows v [] = 0
greatest_of_rows v (row ∷ rows) = max (greatest_exponent v row.num.poly) (greatest_of_rows v rows)

-- no monomial of the numerators has an exponent above its limit
abbrev pub AreWithinLimits : List Var → Keys → List Row → Type 0
AreWithinLimits vars keys rows = IfSome keys.limits (λ limit. (i : ℕ) → i < length vars → greatest_of_rows (var_at vars i) rows ≤ limit i)

-- e plus the greatest exponents of the variable in the pieces
abbrev pub exponent_with : Var → List Piece → ℕ → ℕ
exponent_with v [] e = e
exponent_with v (q ∷ qs) e = exponent_with v qs e + greatest_exponent v q.poly

-- p times the pieces has no exponent above its limit
abbrev pub ArePiecesInReach : List Var → Keys → List Piece → Summands → Type 0
ArePiecesInReach vars keys qs p =
    IfSome keys.limits (λ limit. (i : ℕ) → i < length vars → exponent_with (var_at vars i) qs (greatest_exponent (var_at vars i) p) ≤ limit i)

-- the entry of a list is a key, which stands there as an index does
abbrev pub IsIndexUnder : List Var → Keys → MonoId → Type 0
IsIndexUnder vars keys id = IsKeyUnder vars keys id.0

-- the term that an entry of a list stands for
abbrev pub term_under : List Var → Keys → MonoId × ℤ → Powers × ℤ
term_under vars keys t = (named vars (keys.powers t.0.0), t.1)

-- the terms that a list stands for
abbrev pub terms_under : List Var → Keys → Indices → Summands
terms_under vars keys list = map (term_under vars keys) list
