-- What a replacement by chains is made with, and what its steps do to the chains.
use Rattle.std.specs.Prelude.{◌≡◌, ◌≢◌, ℕ, None, List, [], ◌∷◌}
use Rattle.std.specs.List.Sorted.{IsStrictlySortedBy}
use Rattle.sparse_lists.specs.SparseLists.{AllKeys}
use Rattle.mono_store.specs.Stores.{Store}
use Rattle.poly_arena.specs.Chains.{Chains, list_of}
use Rattle.geo_poly.specs.declared.rows.Row.{Row}
use Rattle.geo_poly.specs.declared.settings.Setting.{Setting}
use Rattle.geo_poly.specs.declared.shared.Shared.{Shared}
use Rattle.geo_poly.specs.declared.variables.Var.{Var}
use Rattle.geo_poly.specs.Polynomials.{IsPolynomial, Summands}
use Rattle.geo_poly.specs.Replace.{AllBounded, IsBounded}
use Rattle.geo_poly.specs.Inner.Keyed.{IsIndexUnder, terms_under}
use Rattle.geo_poly.specs.Keys.{Keys, store_keys}
use Rattle.geo_poly.specs.Shared.{Indices, terms_of}
use Rattle.geo_poly.specs.Variables.{var_cmp}

-- the terms that some indices of a polynomial's store stand for
abbrev pub told_list : Shared → Indices → Summands
told_list p list = terms_of p.vars.now p.monos.now list

-- the list stands for the polynomial under these keys
pub record IsStoredUnder (vars : List Var) (keys : Keys) (list : Indices) (p : Summands) : Type 0 where
  pub indices : AllKeys (IsIndexUnder vars keys) list
  pub terms : terms_under vars keys list ≡ p
  pub polynomial : IsPolynomial p

-- each list stands for the numerator of its row
abbrev pub AreStoredUnder : List Var → Keys → List Row → List Indices → Type 0
AreStoredUnder vars keys [] [] = Unit {0}
AreStoredUnder vars keys [] (list ∷ lists) = ⊥
AreStoredUnder vars keys (row ∷ rows) [] = ⊥
AreStoredUnder vars keys (row ∷ rows) (list ∷ lists) = IsStoredUnder vars keys list row.num.poly × AreStoredUnder vars keys rows lists

-- the pieces keep their bounds, and their lists stand for them
pub record IsSetUnder (setting : Setting) (keys : Keys) : Type 0 where
  pub rising : IsStrictlySortedBy var_cmp setting.vars.now
  pub rows_bounded : AllBounded setting.rows.now
  pub den_bounded : IsBounded setting.den.piece.now
  pub rows_stored : AreStoredUnder setting.vars.now keys setting.rows.now setting.nums.now
  pub den_stored : IsStoredUnder setting.vars.now keys setting.den.list.now setting.den.piece.now.poly

-- the same under the indices of a store
abbrev pub IsStoredAs : List Var → Store → Indices → Summands → Type 0
IsStoredAs vars store = IsStoredUnder vars (store_keys store)

abbrev pub AreStored : List Var → Store → List Row → List Indices → Type 0
AreStored vars store = AreStoredUnder vars (store_keys store)

abbrev pub IsSet : Setting → Store → Type 0
IsSet setting store = IsSetUnder setting (store_keys store)

-- one chain is spent and another one made, which may have its number; all others have what they had
pub record Swaps (old new : Chains) (gone made : ℕ) : Type 0 where
  pub others : (n : ℕ) → n ≢ gone → n ≢ made → list_of new n ≡ list_of old n
  pub spent : gone ≢ made → list_of new gone ≡ None
  pub unused : made ≢ gone → list_of old made ≡ None
