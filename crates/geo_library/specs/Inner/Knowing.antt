-- Known variables as the code finds them: by the texts of conditions.
use Rattle.std.specs.Prelude.{◌≡◌, ℕ, ◌<◌, ◌⊎◌, codes, Option, None, List, [], ◌∷◌, ◌++◌, length}
use Rattle.geo_poly.specs.declared.variables.Var.{Var}
use Rattle.geo_poly.specs.Canonical.{canonical_area, canonical_difference}
use Rattle.geo_poly.specs.PolynomialVariables.{variables_of}
use Rattle.geo_terms.specs.declared.nodes.Node.{Node}
use Rattle.geo_terms.specs.declared.nodes.Node.TheVariants.{S, P}
use Rattle.geo_terms.specs.Stores.{Store, tree_of}
use Rattle.geo_terms.specs.Trees.{Tree, area_leaf, pythagoras_leaf}
use Rattle.geo_conditions.specs.declared.items.Item.{Item}
use Rattle.geo_logs.specs.Starts.{start_of}

-- the text is that of a condition that says that a single quantity is not 0
abbrev pub TellsText : List ℕ → Type 0
TellsText text = ((rest : List ℕ) × (text ≡ codes "different " ++ rest)) ⊎ ((rest : List ℕ) × (text ≡ codes "not_collinear " ++ rest))

-- the term is an area or a Pythagoras difference
abbrev pub IsQuantity : Tree → Type 0
IsQuantity (area_leaf a b c) = Unit {0}
IsQuantity (pythagoras_leaf a b c) = Unit {0}
IsQuantity _ = ⊥

-- the variable of such a node, if it is no number
abbrev pub node_variable : Node → Option Var
node_variable (P a b c) = (canonical_difference a b c).var
node_variable (S a b c) = (canonical_area a b c).var
node_variable _ = None

-- the item's term stands in the store, and is a quantity where its text says so
pub record IsReadyItem (nodes : Store) (i : Item) : Type 0 where
  pub stored : i.term.0 < length nodes
  pub quantity : TellsText i.text → IsQuantity (tree_of nodes i.term)

-- the item makes these variables known
abbrev pub IsKnownBy : Store → Item → List Var → Type 0
IsKnownBy nodes i vars =
    (TellsText i.text × (vars ≡ variables_of (start_of (tree_of nodes i.term)))) ⊎ ((TellsText i.text → ⊥) × (vars ≡ []))

-- the items make these variables known, one after another
abbrev pub AreKnown : Store → List Item → List Var → Type 0
AreKnown nodes [] vars = vars ≡ []
AreKnown nodes (i ∷ more) vars = (one : List Var) × (others : List Var) × IsKnownBy nodes i one × AreKnown nodes more others × (vars ≡ one ++ others)
