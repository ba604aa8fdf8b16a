-- The variables that conditions make known.
use Rattle.std.proofs.Common.{◌≡◌, ◌==◌, Bool, true, false, cond, unsigned_abs, ℕ, zero, suc, ◌+◌, ◌<◌, inl, inr, ℤ, Option, Some, None}
use Rattle.std.proofs.Common.{List, [], ◌∷◌, ◌++◌, drop, get_or, length, refl, sym, ◌∙◌, ap, subst, drop-cons, add-one, append-nil}
use Rattle.std.proofs.Common.{append_assoc, slice_get}
use Rattle.std.specs.Prelude.{codes}
use Rattle.std.specs.Option.{option_to_list}
use Rattle.geo_points.specs.declared.ids.TermId.{TermId}
use Rattle.geo_poly.specs.declared.canonical.Canon.{Canon}
use Rattle.geo_poly.specs.declared.variables.Var.{Var}
use Rattle.geo_poly.specs.Canonical.{canonical_area, canonical_difference}
use Rattle.geo_poly.specs.PolynomialVariables.{variables_of}
use Rattle.geo_poly.specs.Polynomials.{constant_of}
use Rattle.geo_terms.specs.declared.nodes.Node.{Node}
use Rattle.geo_terms.specs.declared.nodes.Node.TheVariants as node
use Rattle.geo_terms.specs.Stores.{IsStore, Store, node_tree, tree_of, trees_of}
use Rattle.geo_terms.specs.Trees.{Tree}
use Rattle.geo_terms.proofs.Trees.{tree_of-node}
use Rattle.fraction_poly.specs.MultipliedOut.{canon_polynomial}
use Rattle.geo_conditions.specs.declared.items.Item.{Item}
use Rattle.geo_logs.specs.Starts.{start_of}
use Rattle.geo_library.specs.Inner.Knowing.{AreKnown, IsKnownBy, IsQuantity, IsReadyItem, TellsText, node_variable}

-- a number has no variable
number_alone : (z : ℤ) → variables_of (constant_of z) ≡ []
number_alone z = by (unsigned_abs z == 0)
  where
    by : (b : Bool) → variables_of (cond b [] (([], z) ∷ [])) ≡ []
    by true = refl
    by false = refl

-- a sign times a variable has this one
one_variable : (c : Canon) → variables_of (canon_polynomial c) ≡ option_to_list c.var
one_variable c = by c.var
  where
    by : (v : Option Var) → variables_of (canon_polynomial (record { sign = c.sign; var = v })) ≡ option_to_list v
    by None = number_alone c.sign
    by (Some v) = refl

of_node : (trees : List Tree) (n : Node) → IsQuantity (node_tree trees n) → variables_of (start_of (node_tree trees n)) ≡ option_to_list (node_variable n)
of_node trees (node.P a b c) h = one_variable (canonical_difference a b c)
of_node trees (node.S a b c) h = one_variable (canonical_area a b c)
of_node trees (node.Int z) h = absurd h
of_node trees (node.Param t) h = absurd h
of_node trees (node.R a b c d) h = absurd h
of_node trees (node.Neg e) h = absurd h
of_node trees (node.Add e f) h = absurd h
of_node trees (node.Sub e f) h = absurd h
of_node trees (node.Mul e f) h = absurd h
of_node trees (node.Div e f) h = absurd h

-- a text that begins in neither of the two ways
pub tells_neither : (text : List ℕ) → ((rest : List ℕ) → text ≡ codes "different " ++ rest → ⊥) → ((rest : List ℕ) → text ≡ codes "not_collinear " ++ rest → ⊥) → TellsText text → ⊥
tells_neither text f g (inl t) = f t.0 t.1
tells_neither text f g (inr t) = g t.0 t.1

module _ (nodes : Store) (store : IsStore nodes) where
  -- the variable of an item whose text says so
  pub known_here : (i : Item) (n : Node) (v : Option Var) → IsReadyItem nodes i → slice_get nodes i.term.0 ≡ Some n → v ≡ node_variable n → TellsText i.text → IsKnownBy nodes i (option_to_list v)
  known_here i n v h at e t =
      let tree = tree_of-node nodes i.term n store at in
      inl (t, ap (λ (w : Option Var). option_to_list w) e ∙ sym (of_node (trees_of nodes) n (subst IsQuantity tree (h.quantity t))) ∙ ap (λ (u : Tree). variables_of (start_of u)) (sym tree))

-- ONE AFTER ANOTHER
-- the variables so far: with those of the items from here on they are all
pub record AreKnownSoFar (nodes : Store) (all left : List Item) (vars : List Var) : Type 0 where
  pub goes : (more : List Var) → AreKnown nodes left more → AreKnown nodes all (vars ++ more)

pub begins : (nodes : Store) (all : List Item) (vars : List Var) → vars ≡ [] → AreKnownSoFar nodes all all vars
begins nodes all vars e = record { goes = λ more h. subst (λ vs. AreKnown nodes all (vs ++ more)) (sym e) h }

pub goes_on : (nodes : Store) (all : List Item) (k : ℕ) (i : Item) (vars now : List Var) (v : Option Var) → k < length all → i ≡ get_or all k i → AreKnownSoFar nodes all (drop k all) vars
    → IsKnownBy nodes i (option_to_list v) → now ≡ vars ++ option_to_list v → AreKnownSoFar nodes all (drop (k + 1) all) now
goes_on nodes all k i vars now v b is h known e =
    subst (λ m. AreKnownSoFar nodes all (drop m all) now) (sym (add-one k))
    (subst (AreKnownSoFar nodes all (drop (suc k) all)) (sym e)
    (record {
      goes = λ more g.
          subst (AreKnown nodes all) (sym (append_assoc vars (option_to_list v) more))
          (h.goes (option_to_list v ++ more)
          (subst (λ xs. AreKnown nodes xs (option_to_list v ++ more)) (sym (drop-cons all k i b ∙ ap (λ x. x ∷ drop (suc k) all) (sym is))) (option_to_list v, more, known, g, refl)));
    }))

pub all_known : (nodes : Store) (all left : List Item) (vars : List Var) → left ≡ [] → AreKnownSoFar nodes all left vars → AreKnown nodes all vars
all_known nodes all left vars e h =
    subst (AreKnown nodes all) (append-nil vars) (h.goes [] (subst (λ xs. AreKnown nodes xs []) (sym e) refl))
