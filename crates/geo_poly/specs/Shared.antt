-- A polynomial over a store of monomials in numbered variables: the number of a variable is its place in a list of variables.
use Rattle.std.specs.Prelude.{ℕ, ◌<◌, ℤ, List, map, slice_index_or}
use Rattle.std.specs.List.Sorted.{IsStrictlySortedBy}
use Rattle.sparse_lists.specs.SparseLists.{AllKeys}
use Rattle.mono_store.specs.declared.links.MonoId.{MonoId}
use Rattle.mono_store.specs.Monomials.{Powers as NumberedPowers}
use Rattle.mono_store.specs.Stores.{Store, monomial_of}
use Rattle.geo_poly.specs.declared.shared.Shared.{Shared}
use Rattle.geo_poly.specs.declared.variables.Var.{Var}
use Rattle.geo_poly.specs.declared.variables.Var.TheVariants.{R}
use Rattle.geo_poly.specs.Keys.{IsKeyUnder, store_keys}
use Rattle.geo_poly.specs.Variables.{var_cmp}
use Rattle.geo_poly.specs.Monomials.{Powers}
use Rattle.geo_poly.specs.Polynomials.{Summands, IsPolynomial}

-- the variable of a number, which is its place in the list; past the end, one that says nothing
abbrev pub var_at : List Var → ℕ → Var
var_at vars k = slice_index_or vars k (R (record { 0 = 0 }) (record { 0 = 0 }) (record { 0 = 0 }) (record { 0 = 0 }))

-- the monomial with the variables in place of their numbers
abbrev pub named : List Var → NumberedPowers → Powers
named vars m = map (λ p. (var_at vars p.0, p.1)) m

-- the monomial at an index, with the variables in place of their numbers
abbrev pub powers_at : List Var → Store → MonoId → Powers
powers_at vars store id = named vars (monomial_of store id)

-- the number of each variable is a place in a list of n variables
abbrev pub AllPlaces : ℕ → NumberedPowers → Type 0
AllPlaces n m = AllKeys (λ k. k < n) m

-- the index is one of the store, and the variables of its monomial are in the list
abbrev pub IsIndex : List Var → Store → MonoId → Type 0
IsIndex vars store id = IsKeyUnder vars (store_keys store) id.0

-- indices of monomials, with coefficients
abbrev pub Indices : Type 0
Indices = List (MonoId × ℤ)

-- the term that an index with a coefficient stands for
abbrev pub term_of : List Var → Store → MonoId × ℤ → Powers × ℤ
term_of vars store t = (powers_at vars store t.0, t.1)

-- the terms that a list of them stands for
abbrev pub terms_of : List Var → Store → Indices → Summands
terms_of vars store list = map (term_of vars store) list

-- the variables rise, the indices are such, and the terms that they stand for are a polynomial
pub record IsShared (vars : List Var) (store : Store) (list : Indices) : Type 0 where
  pub rising : IsStrictlySortedBy var_cmp vars
  pub indices : AllKeys (IsIndex vars store) list
  pub polynomial : IsPolynomial (terms_of vars store list)

-- the terms that the parts of a polynomial tell
abbrev pub told : Shared → Summands
told p = terms_of p.vars.now p.monos.now p.list.now

-- these are the parts of a polynomial
abbrev pub AreParts : Shared → Type 0
AreParts p = IsShared p.vars.now p.monos.now p.list.now

-- the powers of the monomial at an index
abbrev pub told_powers : Shared → MonoId → Powers
told_powers p id = powers_at p.vars.now p.monos.now id

-- the term of an index with its coefficient
abbrev pub told_term : Shared → MonoId × ℤ → Powers × ℤ
told_term p t = term_of p.vars.now p.monos.now t

-- the index is one of the polynomial's store
abbrev pub IsIndexOf : Shared → MonoId → Type 0
IsIndexOf p id = IsIndex p.vars.now p.monos.now id
