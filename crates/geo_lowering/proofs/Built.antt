-- Every short program has a lowered form: its steps over a store that is built from their numbers.
use Rattle.std.proofs.Common.{◌≡◌, ℕ, zero, suc, ◌+◌, ◌<◌, ◌≤◌, true, Some, List, [], ◌∷◌, ◌++◌, length, refl, ◌∙◌, ap, ap₂, subst, rules, arith}
use Rattle.std.specs.Prelude.{◌^◌, slice_get, unsigned_abs}
use Rattle.std.specs.List.{AllByRecursion}
use Rattle.std.proofs.lemmas.Option.{slice_get-get_or, slice_get_within}
use Rattle.geo_points.specs.declared.ids.TermId.{TermId}
use Rattle.geo_terms.specs.contracts.nodes.NodePartialEq.TheImpl.{eq-value}
use Rattle.geo_terms.specs.declared.nodes.Node.{Node}
use Rattle.geo_terms.specs.declared.nodes.Node.TheVariants as node
use Rattle.geo_terms.specs.declared.steps.Step.{Step}
use Rattle.geo_terms.specs.declared.steps.Step.TheVariants as step
use Rattle.geo_terms.specs.Constructions.{IsStep}
use Rattle.geo_terms.specs.Stores.{Store, HasChildrenBelow, HasShortInteger, IsStore, node_tree, tree_of, trees_of}
use Rattle.geo_terms.specs.Trees.{Tree, integer_leaf, parameter_leaf, area_leaf, pythagoras_leaf, ratio_leaf, negation, addition, subtraction, multiplication, division}
use Rattle.geo_terms.proofs.Interning.{IsInterned, interned, known, added, IsStore-interned, longer-interned, one_more-interned, others-interned, tree_of-interned}
use Rattle.geo_lowering.specs.StepForms.{StepForm, free, crossing_of, foot_of, along, turned_along, weighted}
use Rattle.geo_lowering.specs.Inner.StepLists.{AreStepsFrom, HaveForms}
use Rattle.geo_lowering.specs.Inner.StepNumbers.{IsTerm}

-- the derived `==` is equality
same : (x y : Node) → (eq-value).it x y ≡ true → x ≡ y
same x y e = search rules

self : (x : Node) → (eq-value).it x x ≡ true
self x = search rules

-- how many nodes a tree has
abbrev pub size : Tree → ℕ
size (negation e) = suc (size e)
size (addition e f) = suc (size e + size f)
size (subtraction e f) = suc (size e + size f)
size (multiplication e f) = suc (size e + size f)
size (division e f) = suc (size e + size f)
size _ = 1

-- its integers are within 127 bits
abbrev pub HasShortIntegers : Tree → Type 0
HasShortIntegers (integer_leaf n) = unsigned_abs n < 2 ^ 127
HasShortIntegers (negation e) = HasShortIntegers e
HasShortIntegers (addition e f) = HasShortIntegers e × HasShortIntegers f
HasShortIntegers (subtraction e f) = HasShortIntegers e × HasShortIntegers f
HasShortIntegers (multiplication e f) = HasShortIntegers e × HasShortIntegers f
HasShortIntegers (division e f) = HasShortIntegers e × HasShortIntegers f
HasShortIntegers _ = Unit {0}

-- a store that has grown by at most so many nodes
pub record HasGrown (old new : Store) (more : ℕ) : Type 0 where
  pub store : IsStore new
  pub longer : length old ≤ length new
  pub few : length new ≤ length old + more
  pub trees : (id : TermId) → id.0 < length old → tree_of new id ≡ tree_of old id

grown_trans : (a b c : Store) (x y : ℕ) → HasGrown a b x → HasGrown b c y → HasGrown a c (x + y)
grown_trans a b c x y h k =
    let h1 : length a ≤ length b = h.longer in let h2 : length b ≤ length a + x = h.few in
    let k1 : length b ≤ length c = k.longer in let k2 : length c ≤ length b + y = k.few in record {
      store = k.store;
      longer = omega arith;
      few = omega arith;
      trees = λ id w. k.trees id (omega arith) ∙ h.trees id w;
    }

grown_term : (a b : Store) (x : ℕ) → HasGrown a b x → (e : Tree) (id : TermId) → IsTerm a e id → IsTerm b e id
grown_term a b x h e id t = record {
  stored = let h1 : length a ≤ length b = h.longer in let w : id.0 < length a = t.stored in omega arith;
  tree = h.trees id t.stored ∙ t.tree;
}

grown_zero : (a b : Store) (x : ℕ) → HasGrown a b x → HasGrown a b (0 + x)
grown_zero a b x h = subst (λ n. HasGrown a b n) (let q : x ≡ 0 + x = omega arith in q) h

-- a store with the tree
pub record Stores (old : Store) (e : Tree) (more : ℕ) : Type 0 where
  pub nodes : Store
  pub grown : HasGrown old nodes more
  pub id : TermId
  pub term : IsTerm nodes e id

-- a node is interned
with_node : (old : Store) (n : Node) → IsStore old → HasChildrenBelow (length old) n → HasShortInteger n → length old < 4294967295 → Stores old (node_tree (trees_of old) n) 1
with_node old n s below short room =
    let i = interned (eq-value).it same self old n in
    let at = index i in record {
      nodes = _;
      grown = record { store = IsStore-interned i s below short room; longer = longer-interned i; few = one_more-interned i; trees = others-interned i };
      id = record { 0 = at.0 };
      term = record { stored = slice_get_within _ at.0 n at.1; tree = tree_of-interned i s (record { 0 = at.0 }) at.1 };
    }
  where
    at_end : (old : Store) (n : Node) → slice_get (old ++ n ∷ []) (length old) ≡ Some n
    at_end [] n = refl
    at_end (x ∷ xs) n = at_end xs n

    index : {old new : Store} {n : Node} → IsInterned old n new → (k : ℕ) × (slice_get new k ≡ Some n)
    index {old} {new} {n} (known found) = (found.0, slice_get-get_or old found.0 n found.1 ∙ ap Some found.2)
    index {old} {new} {n} (added unknown) = (length old, at_end old n)

-- a node of two terms is interned
with_two : (make : TermId → TermId → Node) (tree : Tree → Tree → Tree)
    → ((nodes : Store) (a b : TermId) → node_tree (trees_of nodes) (make a b) ≡ tree (tree_of nodes a) (tree_of nodes b))
    → ((k : ℕ) (a b : TermId) → a.0 < k → b.0 < k → HasChildrenBelow k (make a b)) → ((a b : TermId) → HasShortInteger (make a b))
    → (old : Store) (e f : Tree) (x y : ℕ) (g : Stores old e x) (k : Stores g.nodes f y) → length k.nodes < 4294967295 → Stores old (tree e f) (suc (x + y))
with_two make tree is below short old e f x y g k room =
    let left = grown_term g.nodes k.nodes y k.grown e g.id g.term in
    let w = with_node k.nodes (make g.id k.id) k.grown.store (below (length k.nodes) g.id k.id left.stored k.term.stored) (short g.id k.id) room in
    let all = grown_trans old k.nodes w.nodes (x + y) 1 (grown_trans old g.nodes k.nodes x y g.grown k.grown) w.grown in record {
      nodes = w.nodes;
      grown = subst (λ n. HasGrown old w.nodes n) (let q : x + y + 1 ≡ suc (x + y) = omega arith in q) all;
      id = w.id;
      term = record { stored = w.term.stored; tree = w.term.tree ∙ is k.nodes g.id k.id ∙ ap₂ tree left.tree k.term.tree };
    }

-- a tree is interned
with_tree : (e : Tree) → HasShortIntegers e → (old : Store) → IsStore old → length old + size e ≤ 4294967295 → Stores old e (size e)
with_tree (integer_leaf n) h old s room = with_node old (node.Int n) s tt h (omega arith)
with_tree (parameter_leaf t) h old s room = with_node old (node.Param t) s tt tt (omega arith)
with_tree (area_leaf a b c) h old s room = with_node old (node.S a b c) s tt tt (omega arith)
with_tree (pythagoras_leaf a b c) h old s room = with_node old (node.P a b c) s tt tt (omega arith)
with_tree (ratio_leaf a b c d) h old s room = with_node old (node.R a b c d) s tt tt (omega arith)
with_tree (negation e) h old s room =
    let g = with_tree e h old s (omega arith) in
    let few : length g.nodes ≤ length old + size e = g.grown.few in
    let w = with_node g.nodes (node.Neg g.id) g.grown.store g.term.stored tt (omega arith) in record {
      nodes = w.nodes;
      grown = subst (λ n. HasGrown old w.nodes n) (let q : size e + 1 ≡ suc (size e) = omega arith in q) (grown_trans old g.nodes w.nodes (size e) 1 g.grown w.grown);
      id = w.id;
      term = record { stored = w.term.stored; tree = w.term.tree ∙ ap negation g.term.tree };
    }
with_tree (addition e f) h old s room =
    let g = with_tree e h.0 old s (omega arith) in
    let few : length g.nodes ≤ length old + size e = g.grown.few in
    let k = with_tree f h.1 g.nodes g.grown.store (omega arith) in
    let more : length k.nodes ≤ length g.nodes + size f = k.grown.few in
    with_two node.Add addition (λ nodes a b. refl) (λ k a b i j. (i, j)) (λ a b. tt) old e f (size e) (size f) g k (omega arith)
with_tree (subtraction e f) h old s room =
    let g = with_tree e h.0 old s (omega arith) in
    let few : length g.nodes ≤ length old + size e = g.grown.few in
    let k = with_tree f h.1 g.nodes g.grown.store (omega arith) in
    let more : length k.nodes ≤ length g.nodes + size f = k.grown.few in
    with_two node.Sub subtraction (λ nodes a b. refl) (λ k a b i j. (i, j)) (λ a b. tt) old e f (size e) (size f) g k (omega arith)
with_tree (multiplication e f) h old s room =
    let g = with_tree e h.0 old s (omega arith) in
    let few : length g.nodes ≤ length old + size e = g.grown.few in
    let k = with_tree f h.1 g.nodes g.grown.store (omega arith) in
    let more : length k.nodes ≤ length g.nodes + size f = k.grown.few in
    with_two node.Mul multiplication (λ nodes a b. refl) (λ k a b i j. (i, j)) (λ a b. tt) old e f (size e) (size f) g k (omega arith)
with_tree (division e f) h old s room =
    let g = with_tree e h.0 old s (omega arith) in
    let few : length g.nodes ≤ length old + size e = g.grown.few in
    let k = with_tree f h.1 g.nodes g.grown.store (omega arith) in
    let more : length k.nodes ≤ length g.nodes + size f = k.grown.few in
    with_two node.Div division (λ nodes a b. refl) (λ k a b i j. (i, j)) (λ a b. tt) old e f (size e) (size f) g k (omega arith)

-- LISTS OF STEPS

-- how many nodes the numbers of the steps have
abbrev pub form_size : StepForm → ℕ
form_size (along w u v e) = size e
form_size (turned_along u v e) = size e
form_size (weighted o u v e f) = size e + size f
form_size _ = 0

abbrev pub forms_size : List StepForm → ℕ
forms_size [] = 0
forms_size (f ∷ fs) = form_size f + forms_size fs

-- their integers are within 127 bits
abbrev pub IsShortForm : StepForm → Type 0
IsShortForm (along w u v e) = HasShortIntegers e
IsShortForm (turned_along u v e) = HasShortIntegers e
IsShortForm (weighted o u v e f) = HasShortIntegers e × HasShortIntegers f
IsShortForm _ = Unit {0}

-- a store with the numbers of the steps, and the steps
pub record Listed (old : Store) (fs : List StepForm) : Type 0 where
  pub nodes : Store
  pub grown : HasGrown old nodes (forms_size fs)
  pub steps : List Step
  pub forms : HaveForms nodes fs steps

pub list_forms : (fs : List StepForm) → AllByRecursion IsShortForm fs → (old : Store) → IsStore old → length old + forms_size fs ≤ 4294967295 → Listed old fs
list_forms [] h old s room = record {
  nodes = old;
  grown = record { store = s; longer = omega arith; few = omega arith; trees = λ id w. refl };
  steps = [];
  forms = record { formed = refl; stored = tt };
}
list_forms (free ∷ fs) h old s room =
    let r = list_forms fs h.1 old s (omega arith) in
    record {
      nodes = r.nodes;
      grown = grown_zero old r.nodes (forms_size fs) r.grown;
      steps = step.Point ∷ r.steps;
      forms = record { formed = ap (λ xs. free ∷ xs) r.forms.formed; stored = (tt, r.forms.stored) };
    }
list_forms (crossing_of u v p q ∷ fs) h old s room =
    let r = list_forms fs h.1 old s (omega arith) in record {
      nodes = r.nodes;
      grown = grown_zero old r.nodes (forms_size fs) r.grown;
      steps = step.Inter (record { 0 = u }) (record { 0 = v }) (record { 0 = p }) (record { 0 = q }) ∷ r.steps;
      forms = record { formed = ap (λ xs. crossing_of u v p q ∷ xs) r.forms.formed; stored = (tt, r.forms.stored) };
    }
list_forms (foot_of p u v ∷ fs) h old s room =
    let r = list_forms fs h.1 old s (omega arith) in record {
      nodes = r.nodes;
      grown = grown_zero old r.nodes (forms_size fs) r.grown;
      steps = step.Foot (record { 0 = p }) (record { 0 = u }) (record { 0 = v }) ∷ r.steps;
      forms = record { formed = ap (λ xs. foot_of p u v ∷ xs) r.forms.formed; stored = (tt, r.forms.stored) };
    }
list_forms (along w u v e ∷ fs) h old s room =
    let g = with_tree e h.0 old s (omega arith) in
    let few : length g.nodes ≤ length old + size e = g.grown.few in
    let r = list_forms fs h.1 g.nodes g.grown.store (omega arith) in
    let t = grown_term g.nodes r.nodes (forms_size fs) r.grown e g.id g.term in record {
      nodes = r.nodes;
      grown = grown_trans old g.nodes r.nodes (size e) (forms_size fs) g.grown r.grown;
      steps = step.Pratio (record { 0 = w }) (record { 0 = u }) (record { 0 = v }) g.id ∷ r.steps;
      forms = record { formed = ap₂ (λ (x : Tree) (xs : List StepForm). along w u v x ∷ xs) t.tree r.forms.formed; stored = (t.stored, r.forms.stored) };
    }
list_forms (turned_along u v e ∷ fs) h old s room =
    let g = with_tree e h.0 old s (omega arith) in
    let few : length g.nodes ≤ length old + size e = g.grown.few in
    let r = list_forms fs h.1 g.nodes g.grown.store (omega arith) in
    let t = grown_term g.nodes r.nodes (forms_size fs) r.grown e g.id g.term in record {
      nodes = r.nodes;
      grown = grown_trans old g.nodes r.nodes (size e) (forms_size fs) g.grown r.grown;
      steps = step.Tratio (record { 0 = u }) (record { 0 = v }) g.id ∷ r.steps;
      forms = record { formed = ap₂ (λ (x : Tree) (xs : List StepForm). turned_along u v x ∷ xs) t.tree r.forms.formed; stored = (t.stored, r.forms.stored) };
    }
list_forms (weighted o u v e f ∷ fs) h old s room =
    let g = with_tree e h.0.0 old s (omega arith) in
    let few : length g.nodes ≤ length old + size e = g.grown.few in
    let k = with_tree f h.0.1 g.nodes g.grown.store (omega arith) in
    let more : length k.nodes ≤ length g.nodes + size f = k.grown.few in
    let r = list_forms fs h.1 k.nodes k.grown.store (omega arith) in
    let first = grown_term k.nodes r.nodes (forms_size fs) r.grown e g.id (grown_term g.nodes k.nodes (size f) k.grown e g.id g.term) in
    let second = grown_term k.nodes r.nodes (forms_size fs) r.grown f k.id k.term in record {
      nodes = r.nodes;
      grown = grown_trans old k.nodes r.nodes (size e + size f) (forms_size fs) (grown_trans old g.nodes k.nodes (size e) (size f) g.grown k.grown) r.grown;
      steps = step.Weights (record { 0 = o }) (record { 0 = u }) (record { 0 = v }) g.id k.id ∷ r.steps;
      forms = record {
        formed = λ i. weighted o u v (first.tree i) (second.tree i) ∷ r.forms.formed i;
        stored = ((first.stored, second.stored), r.forms.stored);
      };
    }

-- steps over the points before them, each
pub steps_at : (nodes : Store) (m n : ℕ) (steps : List Step) → AreStepsFrom nodes n m steps → (k : ℕ) (s : Step) → slice_get steps k ≡ Some s → IsStep nodes (n + k) m s
steps_at nodes m n [] h k s e = cc
steps_at nodes m n (t ∷ steps) h zero s e =
    let q : t ≡ s = cc in subst (λ i. IsStep nodes i m s) (let p : n ≡ n + 0 = omega arith in p) (subst (λ (x : Step). IsStep nodes n m x) q h.0)
steps_at nodes m n (t ∷ steps) h (suc k) s e =
    subst (λ i. IsStep nodes i m s) (let q : suc n + k ≡ n + suc k = omega arith in q) (steps_at nodes m (suc n) steps h.1 k s e)

pub empty_store : IsStore []
empty_store = record { once = λ i j n e f. cc; children = λ k n e. cc; integers = λ k n e. cc; few = omega arith }
