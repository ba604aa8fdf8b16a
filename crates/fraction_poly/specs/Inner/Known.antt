-- What is known of the terms of a store.
use Rattle.std.specs.Prelude.{◌≡◌, pos, Option, Some, IsSome, nat_eq}
use Rattle.std.specs.HashMap.{get}
use Rattle.fraction_poly.specs.declared.known_numbers.KnownNumbers.{KnownNumbers}
use Rattle.fraction_poly.specs.declared.numbers.Numbers.{Numbers}
use Rattle.fraction_poly.specs.declared.step_numbers.StepNumber.{StepNumber}
use Rattle.fraction_poly.specs.Forms.{step_number}
use Rattle.fraction_poly.specs.Measures.{capped, numbers_of}
use Rattle.geo_points.specs.declared.ids.TermId.{TermId}
use Rattle.geo_terms.specs.Stores.{Store, tree_of}
use Rattle.geo_terms.specs.Trees.{integer_leaf}

-- what is known is true of the terms of the store
pub record IsKnownOf (nodes : Store) (known : KnownNumbers) : Type 0 where
  pub measured : (r : TermId) (n : Numbers) → get nat_eq known.measured r.0 ≡ Some n → n ≡ capped (numbers_of (tree_of nodes r))
  pub made : (r : TermId) (n : StepNumber) → get nat_eq known.made r.0 ≡ Some n → n ≡ step_number (tree_of nodes r)
  pub one : known.one ≡ step_number (integer_leaf (pos 1))

-- the number is multiplied out already
abbrev pub IsMade : KnownNumbers → Option TermId → Type 0
IsMade known number = (r : TermId) → number ≡ Some r → IsSome (get nat_eq known.made r.0)
