-- Chains that stand for polynomials: their keys are the indices of monomials in a store.
use Rattle.std.specs.Prelude.{◌≡◌, ◌≢◌, ℕ, ℤ, List, map, None}
use Rattle.sparse_lists.specs.SparseLists.{AllKeys}
use Rattle.mono_store.specs.declared.links.MonoId.{MonoId}
use Rattle.mono_store.specs.Stores.{Store}
use Rattle.sparse_lists.specs.Coefficients.{Pairs}
use Rattle.poly_arena.specs.Chains.{Chains, IsLive, list_of, pairs_of}
use Rattle.geo_poly.specs.declared.variables.Var.{Var}
use Rattle.geo_poly.specs.Monomials.{Powers}
use Rattle.geo_poly.specs.Polynomials.{Summands}
use Rattle.geo_poly.specs.Keys.{IsKeyUnder, Keys, store_keys}
use Rattle.geo_poly.specs.Shared.{named}

-- the number is the index of a monomial, whose variables are in the list
abbrev pub IsKey : List Var → Store → ℕ → Type 0
IsKey vars store k = IsKeyUnder vars (store_keys store) k

-- a key with a coefficient as an index with that coefficient
abbrev pub indexed_pair : ℕ × ℤ → MonoId × ℤ
indexed_pair t = (record { 0 = t.0 }, t.1)

-- the term that a key with a coefficient stands for
abbrev pub keyed_term_under : List Var → Keys → ℕ × ℤ → Powers × ℤ
keyed_term_under vars keys t = (named vars (keys.powers t.0), t.1)

-- the terms that a list of them stands for
abbrev pub keyed_terms_under : List Var → Keys → Pairs → Summands
keyed_terms_under vars keys pairs = map (keyed_term_under vars keys) pairs

-- the same under the indices of a store
abbrev pub keyed_term : List Var → Store → ℕ × ℤ → Powers × ℤ
keyed_term vars store = keyed_term_under vars (store_keys store)

abbrev pub keyed_terms : List Var → Store → Pairs → Summands
keyed_terms vars store = keyed_terms_under vars (store_keys store)

-- a live chain has the terms p, each under the key of its monomial
pub record StandsUnder (vars : List Var) (under : Keys) (arena : Chains) (number : ℕ) (p : Summands) : Type 0 where
  pub live : IsLive arena number
  pub keys : AllKeys (IsKeyUnder vars under) (pairs_of arena number)
  pub terms : keyed_terms_under vars under (pairs_of arena number) ≡ p

-- a live chain has the terms p, each under the index of its monomial
abbrev pub StandsFor : List Var → Store → Chains → ℕ → Summands → Type 0
StandsFor vars store arena number p = StandsUnder vars (store_keys store) arena number p

-- a number that no chain had has one, and all other chains have what they had
pub record AddsChain (old new : Chains) (number : ℕ) : Type 0 where
  pub unused : list_of old number ≡ None
  pub others : (other : ℕ) → other ≢ number → list_of new other ≡ list_of old other

-- all chains have what they had, and no other is live
pub record SameChains (old new : Chains) : Type 0 where
  pub lists : (number : ℕ) → list_of new number ≡ list_of old number
