-- Marks that a walk over the monomials of a store leaves: of the links that were visited, and of the variables, by their numbers.
use Rattle.std.specs.Prelude.{◌≡◌, ℕ, ◌+◌, Bool, true, false, cond, List, [], ◌∷◌, Contains, length, slice_index_or}
use Rattle.sparse_lists.specs.SparseLists.{AllKeys}
use Rattle.mono_store.specs.Monomials.{Powers as NumberedPowers}
use Rattle.mono_store.specs.Stores.{Store, monomial_of, words}
use Rattle.geo_poly.specs.declared.shared.Shared.{Shared}
use Rattle.geo_poly.specs.declared.variables.Var.{Var}
use Rattle.geo_poly.specs.PolynomialVariables.{variables_of}
use Rattle.geo_poly.specs.Shared.{told, var_at}

-- the place is marked
abbrev pub IsMarked : List Bool → ℕ → Type 0
IsMarked marks k = slice_index_or marks k false ≡ true

-- the number of each variable of the monomial is marked
abbrev pub AreMarked : List Bool → NumberedPowers → Type 0
AreMarked known m = AllKeys (IsMarked known) m

-- what is marked stays marked
abbrev pub Extends : List Bool → List Bool → Type 0
Extends old new = (k : ℕ) → IsMarked old k → IsMarked new k

-- the variables of each link that is marked are marked
abbrev pub AreVisited : Store → List Bool → List Bool → Type 0
AreVisited store visited known = (k : ℕ) → IsMarked visited k → AreMarked known (monomial_of store (record { 0 = words store + k }))

-- each variable whose number is marked is among these
abbrev pub AreKnown : List Var → List Bool → List Var → Type 0
AreKnown vars known keys = (k : ℕ) → IsMarked known k → Contains keys (var_at vars k)

-- the marked numbers are those of the variables that occur
pub record AreNumbersOf (p : Shared) (known : List Bool) : Type 0 where
  pub room : length known ≡ length p.vars.now
  pub all : AllKeys (λ id. AreMarked known (monomial_of p.monos.now id)) p.list.now
  pub only : AreKnown p.vars.now known (variables_of (told p))

-- the variables whose numbers are marked
abbrev pub marked : List Var → List Bool → List Var
marked [] known = []
marked (v ∷ vars) [] = []
marked (v ∷ vars) (b ∷ known) = cond b (v ∷ marked vars known) (marked vars known)
