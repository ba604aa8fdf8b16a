-- The polynomials in some variables over one store of monomials: a ring as contracts see it, and its elements.
use Rattle.std.specs.Prelude.{◌≡◌, List}
use Rattle.mono_store.specs.Stores.{Keeps, Store}
use Rattle.geo_poly.specs.declared.variables.Var.{Var}
use Rattle.geo_poly.specs.Polynomials.{Summands}
use Rattle.geo_poly.specs.Shared.{Indices, IsShared, terms_of}

-- the variables, and the store
pub record RingValue : Type 0 where
  pub vars : List Var
  pub store : Store

-- the polynomial that an element is
abbrev pub polynomial_in : RingValue → Indices → Summands
polynomial_in r element = terms_of r.vars r.store element

-- indices of the ring's store with coefficients, which are a polynomial
abbrev pub IsElement : RingValue → Indices → Type 0
IsElement r element = IsShared r.vars r.store element

-- an element of the ring that is this polynomial
pub record IsElementFor (r : RingValue) (p : Summands) (element : Indices) : Type 0 where
  pub element_of : IsElement r element
  pub polynomial : polynomial_in r element ≡ p

-- the variables stay, and each element stays the polynomial that it was
pub record Grows (old new : RingValue) : Type 0 where
  pub vars : new.vars ≡ old.vars
  pub kept : Keeps old.store new.store
