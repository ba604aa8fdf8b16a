-- Terms that are looked at as trees, and not over a list of their nodes.
use Rattle.std.proofs.Common.{◌≡◌, ◌<◌, List, [], Some, length, slice_get, refl, sym, ap, ap₂, subst, ◌∙◌, arith}
use Rattle.std.proofs.lemmas.Option.{slice_get_within}
use Rattle.geo_points.specs.declared.ids.TermId.{TermId}
use Rattle.geo_poly.specs.Polynomials.{Summands, negated}
use Rattle.geo_terms.specs.declared.nodes.Node.{Node}
use Rattle.geo_terms.specs.declared.nodes.Node.TheVariants.{Int, Param, S, P, R, Neg, Add, Sub, Mul, Div}
use Rattle.geo_terms.specs.Stores.{Store, IsStore, node_tree, tree_at, trees_of, tree_of}
use Rattle.geo_terms.specs.Trees.{Tree}
use Rattle.geo_terms.proofs.Trees.{tree_of-node}
use Rattle.fraction_poly.specs.declared.numbers.Numbers.{Numbers}
use Rattle.fraction_poly.specs.Inner.Parts.{AreNumbersOfParts, AreNumbersOfTrees, HasParts, IsPart}
use Rattle.fraction_poly.specs.Measures.{capped, numbers_of, product_numbers, sum_numbers, turned_numbers}
use Rattle.fraction_poly.specs.MultipliedOut.{multiplied_out}
use Rattle.fraction_poly.proofs.CappedNumbers.{capped-sum, capped-product}
use Rattle.fraction_poly.proofs.ReachedParts.{part_below}

module _ (nodes : Store) (store : IsStore nodes) (id : TermId) (node : Node) (at : slice_get nodes id.0 ≡ Some node) where
  -- what is reckoned of the node is reckoned of the index
  pub numbers_are : (n : Numbers) → n ≡ capped (numbers_of (node_tree (trees_of nodes) node)) → n ≡ capped (numbers_of (tree_of nodes id))
  numbers_are n is = is ∙ sym (ap (λ (e : Tree). capped (numbers_of e)) (tree_of-node nodes id node store at))

  -- a part stands in the store
  pub part_stored : (c : TermId) → IsPart node c → c.0 < length nodes
  part_stored c part =
      let below : c.0 < id.0 = part_below id.0 node c (store.children id.0 node at) part in
      let within : id.0 < length nodes = slice_get_within nodes id.0 node at in
      omega arith

  -- a node without parts wants none
  pub no_parts : ((c : TermId) → IsPart node c → ⊥) → HasParts nodes [] id
  no_parts none = record {
    each = λ other c here part. absurd (none c (let same : other ≡ node = cc in subst (λ (n : Node). IsPart n c) same part));
  }

-- the numbers of two parts put together
module _ (e f : Tree) (a b : Numbers) (left : a ≡ capped (numbers_of e)) (right : b ≡ capped (numbers_of f)) where
  pub sum_is : capped (sum_numbers a b) ≡ capped (sum_numbers (numbers_of e) (numbers_of f))
  sum_is = ap₂ (λ x y. capped (sum_numbers x y)) left right ∙ capped-sum (numbers_of e) (numbers_of f)

  pub product_is : capped (product_numbers a b) ≡ capped (product_numbers (numbers_of e) (numbers_of f))
  product_is = ap₂ (λ x y. capped (product_numbers x y)) left right ∙ capped-product (numbers_of e) (numbers_of f)

  pub quotient_is : capped (product_numbers a (turned_numbers b)) ≡ capped (product_numbers (numbers_of e) (turned_numbers (numbers_of f)))
  quotient_is = ap₂ (λ x y. capped (product_numbers x (turned_numbers y))) left right ∙ capped-product (numbers_of e) (turned_numbers (numbers_of f))

-- THE NUMBERS OF A NODE OVER THOSE OF ITS TWO PARTS
-- the node has these two parts
abbrev pub AreParts : Node → TermId → TermId → Type 0
AreParts (Add a b) e f = (a ≡ e) × (b ≡ f)
AreParts (Sub a b) e f = (a ≡ e) × (b ≡ f)
AreParts (Mul a b) e f = (a ≡ e) × (b ≡ f)
AreParts (Div a b) e f = (a ≡ e) × (b ≡ f)
AreParts _ e f = ⊥

module _ (trees : List Tree) (a b : Numbers) where
  over : (e f c d : TermId) → (c ≡ e) × (d ≡ f) → a ≡ capped (numbers_of (tree_at trees e)) → b ≡ capped (numbers_of (tree_at trees f))
      → AreNumbersOfTrees (tree_at trees c) (tree_at trees d) a b
  over e f c d parts left right = (
    left ∙ sym (ap (λ (k : TermId). capped (numbers_of (tree_at trees k))) parts.0),
    right ∙ sym (ap (λ (k : TermId). capped (numbers_of (tree_at trees k))) parts.1),
  )

  pub numbers_of_parts : (node : Node) (e f : TermId) → AreParts node e f → a ≡ capped (numbers_of (tree_at trees e))
      → b ≡ capped (numbers_of (tree_at trees f)) → AreNumbersOfParts trees node a b
  numbers_of_parts (Int m) e f parts left right = absurd parts
  numbers_of_parts (Param t) e f parts left right = absurd parts
  numbers_of_parts (S x y z) e f parts left right = absurd parts
  numbers_of_parts (P x y z) e f parts left right = absurd parts
  numbers_of_parts (R x y z w) e f parts left right = absurd parts
  numbers_of_parts (Neg c) e f parts left right = absurd parts
  numbers_of_parts (Add c d) e f parts left right = over e f c d parts left right
  numbers_of_parts (Sub c d) e f parts left right = over e f c d parts left right
  numbers_of_parts (Mul c d) e f parts left right = over e f c d parts left right
  numbers_of_parts (Div c d) e f parts left right = over e f c d parts left right

  pub numbers_multiplied : (node : Node) (e f : TermId) (n : Numbers) → node ≡ Mul e f → AreNumbersOfParts trees node a b
      → n ≡ capped (product_numbers a b) → n ≡ capped (numbers_of (node_tree trees node))
  numbers_multiplied node e f n is h made =
      let both = subst (λ (m : Node). AreNumbersOfParts trees m a b) is h in
      made ∙ product_is (tree_at trees e) (tree_at trees f) a b both.0 both.1 ∙ sym (ap (λ (m : Node). capped (numbers_of (node_tree trees m))) is)

  pub numbers_divided : (node : Node) (e f : TermId) (n : Numbers) → node ≡ Div e f → AreNumbersOfParts trees node a b
      → n ≡ capped (product_numbers a (turned_numbers b)) → n ≡ capped (numbers_of (node_tree trees node))
  numbers_divided node e f n is h made =
      let both = subst (λ (m : Node). AreNumbersOfParts trees m a b) is h in
      made ∙ quotient_is (tree_at trees e) (tree_at trees f) a b both.0 both.1 ∙ sym (ap (λ (m : Node). capped (numbers_of (node_tree trees m))) is)

  pub numbers_summed : (node : Node) (n : Numbers) → ((e f : TermId) → node ≡ Mul e f → ⊥) → ((e f : TermId) → node ≡ Div e f → ⊥)
      → AreNumbersOfParts trees node a b → n ≡ capped (sum_numbers a b) → n ≡ capped (numbers_of (node_tree trees node))
  numbers_summed (Int m) n times over h made = absurd h
  numbers_summed (Param t) n times over h made = absurd h
  numbers_summed (S x y z) n times over h made = absurd h
  numbers_summed (P x y z) n times over h made = absurd h
  numbers_summed (R x y z w) n times over h made = absurd h
  numbers_summed (Neg c) n times over h made = absurd h
  numbers_summed (Add e f) n times over h made = made ∙ sum_is (tree_at trees e) (tree_at trees f) a b h.0 h.1
  numbers_summed (Sub e f) n times over h made = made ∙ sum_is (tree_at trees e) (tree_at trees f) a b h.0 h.1
  numbers_summed (Mul e f) n times over h made = absurd (times e f refl)
  numbers_summed (Div e f) n times over h made = absurd (over e f refl)

-- a node that is the opposite of another
pub opposite_is : (nodes : Store) → IsStore nodes → (id e : TermId) → slice_get nodes id.0 ≡ Some (Neg e) → (x : Summands × Summands)
    → x ≡ multiplied_out (tree_of nodes e) → (negated x.0, x.1) ≡ multiplied_out (tree_of nodes id)
opposite_is nodes store id e at x is =
    ap (λ (f : Summands × Summands). (negated f.0, f.1)) is ∙ sym (ap multiplied_out (tree_of-node nodes id (Neg e) store at))
