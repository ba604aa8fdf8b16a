-- Keys that stand for monomials in numbered variables. The indices of a store are such keys.
use Rattle.std.specs.Prelude.{ℕ, ◌<◌, Option, None, List, length}
use Rattle.sparse_lists.specs.SparseLists.{AllKeys}
use Rattle.mono_store.specs.Monomials.{Powers as NumberedPowers}
use Rattle.mono_store.specs.Stores.{Store, count, monomial_of}
use Rattle.geo_poly.specs.declared.variables.Var.{Var}

-- the keys are the numbers below `count`, each with its monomial; `limits` are the greatest exponents of the variables, where there are such
pub record Keys : Type 0 where
  pub count : ℕ
  pub powers : ℕ → NumberedPowers
  pub limits : Option (ℕ → ℕ)

-- the indices of a store
abbrev pub store_keys : Store → Keys
store_keys store = record { count = count store; powers = λ k. monomial_of store (record { 0 = k }); limits = None }

-- the number is a key, and the variables of its monomial are in the list
pub record IsKeyUnder (vars : List Var) (keys : Keys) (k : ℕ) : Type 0 where
  pub within : k < keys.count
  pub places : AllKeys (λ v. v < length vars) (keys.powers k)
