-- What the code knows, while it works on a node, of the nodes before it.
use Rattle.std.specs.Prelude.{◌≡◌, ℕ, ◌+◌, ◌*◌, ◌^◌, ◌<◌, ◌≤◌, ◌⊎◌, List, Option, Some, length, nat_eq, slice_get, sum_by}
use Rattle.std.specs.HashMap.{HashMap, get}
use Rattle.std.specs.Option.{unwrap_or}
use Rattle.geo_points.specs.declared.ids.TermId.{TermId}
use Rattle.geo_poly.specs.Polynomials.{Summands, norm_of, total_degree}
use Rattle.geo_terms.specs.declared.nodes.Node.{Node}
use Rattle.geo_terms.specs.declared.nodes.Node.TheVariants.{Neg, Add, Sub, Mul, Div}
use Rattle.geo_terms.specs.Stores.{Store, tree_at, tree_of}
use Rattle.geo_terms.specs.Trees.{Tree}
use Rattle.fraction_poly.specs.declared.numbers.Numbers.{Numbers}
use Rattle.fraction_poly.specs.Measures.{HasRoom, capped, numbers_of}
use Rattle.fraction_poly.specs.MultipliedOut.{multiplied_out}
use Rattle.fraction_poly.specs.Inner.Charges.{own_charge_at}

-- NUMBERS
-- the list has the numbers of the first trees
pub record AreNumbersOf (trees : List Tree) (numbers : List Numbers) : Type 0 where
  pub each : (e : TermId) → e.0 < length numbers → slice_get numbers e.0 ≡ Some (capped (numbers_of (tree_at trees e)))

-- these are the numbers of two trees
abbrev pub AreNumbersOfTrees : Tree → Tree → Numbers → Numbers → Type 0
AreNumbersOfTrees e f left right = (left ≡ capped (numbers_of e)) × (right ≡ capped (numbers_of f))

-- these are the numbers of the two parts of a node
abbrev pub AreNumbersOfParts : List Tree → Node → Numbers → Numbers → Type 0
AreNumbersOfParts trees (Add e f) left right = AreNumbersOfTrees (tree_at trees e) (tree_at trees f) left right
AreNumbersOfParts trees (Sub e f) left right = AreNumbersOfTrees (tree_at trees e) (tree_at trees f) left right
AreNumbersOfParts trees (Mul e f) left right = AreNumbersOfTrees (tree_at trees e) (tree_at trees f) left right
AreNumbersOfParts trees (Div e f) left right = AreNumbersOfTrees (tree_at trees e) (tree_at trees f) left right
AreNumbersOfParts trees _ left right = ⊥

-- BOUNDS
-- the term may be multiplied out: its numbers have room
pub record CanMultiplyOut (e : Tree) : Type 0 where
  pub room : HasRoom e

-- the product of the polynomials is within the bounds of one
pub record ProductFits (p q : Summands) : Type 0 where
  pub norm : norm_of p * norm_of q < 2 ^ 127
  pub degree : total_degree p + total_degree q ≤ 65535

-- the sum of two numerators over denominators is, and the difference
pub record SumFits (a b : Summands × Summands) : Type 0 where
  pub left : ProductFits a.0 b.1
  pub right : ProductFits b.0 a.1
  pub both : norm_of a.0 * norm_of b.1 + norm_of b.0 * norm_of a.1 < 2 ^ 127
  pub denominator : ProductFits a.1 b.1

-- PARTS
-- the node is made of the term at the index, and maybe another
abbrev pub IsPart : Node → TermId → Type 0
IsPart (Neg e) c = c ≡ e
IsPart (Add e f) c = (c ≡ e) ⊎ (c ≡ f)
IsPart (Sub e f) c = (c ≡ e) ⊎ (c ≡ f)
IsPart (Mul e f) c = (c ≡ e) ⊎ (c ≡ f)
IsPart (Div e f) c = (c ≡ e) ⊎ (c ≡ f)
IsPart _ c = ⊥

-- each part of the node at the index stands in the list, multiplied out
pub record HasParts (nodes : Store) (fractions : List (Summands × Summands)) (id : TermId) : Type 0 where
  pub each : (node : Node) (c : TermId) → slice_get nodes id.0 ≡ Some node → IsPart node c
      → slice_get fractions c.0 ≡ Some (multiplied_out (tree_of nodes c))

-- each term of the store may be multiplied out
pub record DoAllFit (nodes : Store) : Type 0 where
  pub each : (c : TermId) → c.0 < length nodes → CanMultiplyOut (tree_of nodes c)

-- REACHED
-- the index stands in the list, at the place k or after it
abbrev pub StandsFrom : ℕ → List TermId → TermId → Type 0
StandsFrom k order c = (j : ℕ) × (k ≤ j) × (slice_get order j ≡ Some c)

-- the list has the term's index, and after each of its indices those of the parts of the node there; they are no more than the nodes,
-- all may be multiplied out where the term may, and what they cost is within the term's charge
pub record AreReached (nodes : Store) (id : TermId) (order : List TermId) : Type 0 where
  pub own : StandsFrom 0 order id
  pub parts : (k : ℕ) (c d : TermId) (node : Node) → slice_get order k ≡ Some c → slice_get nodes c.0 ≡ Some node
      → IsPart node d → StandsFrom (k + 1) order d
  pub stored : (k : ℕ) (c : TermId) → slice_get order k ≡ Some c → c.0 < length nodes
  pub fit : CanMultiplyOut (tree_of nodes id) → (k : ℕ) (c : TermId) → slice_get order k ≡ Some c → CanMultiplyOut (tree_of nodes c)
  pub few : length order ≤ length nodes
  pub charges : sum_by (λ c. own_charge_at nodes c.0) order ≤ (numbers_of (tree_of nodes id)).charge

-- MOVED
-- where the map says that the index stands
abbrev pub place_at : {S : Type 0} → HashMap ℕ TermId S → TermId → Option TermId
place_at places c = get nat_eq places c.0

-- the same, and 0 where it says nothing
abbrev pub place_in : {S : Type 0} → HashMap ℕ TermId S → TermId → TermId
place_in places c = unwrap_or (place_at places c) (record { 0 = 0 })

-- the node over other indices of its parts
abbrev pub over_parts : (TermId → TermId) → Node → Node
over_parts f (Neg e) = Neg (f e)
over_parts f (Add e g) = Add (f e) (f g)
over_parts f (Sub e g) = Sub (f e) (f g)
over_parts f (Mul e g) = Mul (f e) (f g)
over_parts f (Div e g) = Div (f e) (f g)
over_parts f node = node
