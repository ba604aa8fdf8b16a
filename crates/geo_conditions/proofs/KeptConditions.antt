-- Conditions that are kept by index: equal conditions are equal by their trees, and what a listed condition does to the list.
use Rattle.std.proofs.Common.{◌≡◌, ℕ, Bool, true, false, ◌<◌, ◌≤◌, suc, Contains, List, [], ◌∷◌, ◌++◌, length, map, Some, slice_get, slice_index_or, refl, sym, ap, subst, ◌∙◌, if◌then◌else◌, true≢false, arith}
use Rattle.std.specs.Prelude.{max}
use Rattle.std.specs.List.{AllByRecursion, list_any}
use Rattle.std.proofs.lemmas.List.{map-append, map_push}
use Rattle.std.proofs.lemmas.List.Folds.{list_any_at}
use Rattle.first_seen.specs.Keys.{with_key}
use Rattle.first_seen.proofs.Members.{Contains-list_any}
use Rattle.geo_points.specs.declared.ids.PointId.{PointId}
use Rattle.geo_points.specs.declared.ids.TermId.{TermId}
use Rattle.geo_program.specs.Expressions.{nesting}
use Rattle.geo_terms.specs.declared.nodes.Node.{Node}
use Rattle.geo_terms.specs.declared.nodes.Node.TheVariants.{Int, Param, S, P, R, Neg, Add, Sub, Mul, Div}
use Rattle.geo_terms.specs.Stores.{Store, IsStore, node_tree, tree_of, trees_of}
use Rattle.geo_terms.specs.Trees.{Tree}
use Rattle.geo_terms.proofs.EqualTrees.{equal_indices}
use Rattle.geo_terms.proofs.Inductions.{parts_within}
use Rattle.geo_terms.proofs.Trees.{tree_of-node}
use Rattle.geo_lowering.specs.Conditions.{Condition, different, not_collinear, not_parallel, crossing, nonzero, expression_conditions}
use Rattle.geo_lowering.proofs.ConditionValues.{each_append}
use Rattle.geo_conditions.specs.declared.condition_list.ConditionList.{ConditionList}
use Rattle.geo_conditions.specs.declared.conditions.Condition.{Condition as KeptCondition}
use Rattle.geo_conditions.specs.declared.conditions.Condition.TheVariants.{Different, NotCollinear, NotParallel, Crossing, Nonzero}
use Rattle.geo_conditions.specs.declared.conditions.ListedCondition.{ListedCondition}
use Rattle.geo_conditions.specs.Inner.ConditionLists.{AreListed, HasBraces, IsConditionList, IsKept, IsMarked, Lists, condition_of, found_of}
use Rattle.geo_conditions.specs.Lists.{Found, found_at}
use Rattle.geo_conditions.proofs.Marks.{marked_more}
use Rattle.geo_conditions.proofs.Listings.{Leads, held, leads_both, leads_contain, leads_keep, leads_known, leads_new, leads_none, own_keys, unmapped}

-- a number that tells the kind of a condition
abbrev kind_number : Condition → ℕ
kind_number (different a b) = 0
kind_number (not_collinear a b c) = 1
kind_number (not_parallel a b c d) = 2
kind_number (crossing a b) = 3
kind_number (nonzero e) = 4

-- the condition of a listed one
abbrev pub kept : ListedCondition → KeptCondition
kept i = i.condition

abbrev pub key : Found → Condition
key f = f.condition

module _ (nodes : Store) where
  abbrev pub found : List ListedCondition → List Found
  found items = map (found_of nodes) items

  -- kept conditions are the same where their trees are
  pub same_condition : IsStore nodes → (c d : KeptCondition) → IsKept nodes c → IsKept nodes d → condition_of nodes c ≡ condition_of nodes d → c ≡ d
  same_condition h (Different a b) (Different p q) k l e = let x : a ≡ p = cc in let y : b ≡ q = cc in λ i. Different (x i) (y i)
  same_condition h (NotCollinear a b c) (NotCollinear p q r) k l e = let x : a ≡ p = cc in let y : b ≡ q = cc in let z : c ≡ r = cc in λ i. NotCollinear (x i) (y i) (z i)
  same_condition h (NotParallel a b c d) (NotParallel p q r s) k l e =
      let x : a ≡ p = cc in let y : b ≡ q = cc in let z : c ≡ r = cc in let w : d ≡ s = cc in λ i. NotParallel (x i) (y i) (z i) (w i)
  same_condition h (Crossing a b) (Crossing p q) k l e = let x : a ≡ p = cc in let y : b ≡ q = cc in λ i. Crossing (x i) (y i)
  same_condition h (Nonzero a) (Nonzero b) k l e = let t : tree_of nodes a ≡ tree_of nodes b = cc in ap Nonzero (equal_indices nodes a b h k.0 l.0 t)
  same_condition h c d k l e = let kinds : kind_number (condition_of nodes c) ≡ kind_number (condition_of nodes d) = ap kind_number e in absurd (omega arith)

  -- what the look-up has is listed
  pub listed_of_known : (items : List ListedCondition) (c : KeptCondition) → Contains (map kept items) c → Contains (map key (found items)) (condition_of nodes c)
  listed_of_known items c h =
      held kept (λ d. Contains (map key (found items)) (condition_of nodes d)) items c
      (unmapped (found_of nodes) (λ f. Contains (map key (found items)) f.condition) items (own_keys key (found items))) h

  each_known : IsStore nodes → (c : KeptCondition) → IsKept nodes c → (all : List KeptCondition) (items : List ListedCondition)
      → AllByRecursion (λ i. Contains all (kept i)) items → AllByRecursion (λ i. IsKept nodes i.condition) items
      → AllByRecursion (λ f. f.condition ≡ condition_of nodes c → Contains all c) (found items)
  each_known h c k all [] own keeps = tt
  each_known h c k all (i ∷ items) own keeps = (λ e. subst (Contains all) (same_condition h i.condition c keeps.0 k e) own.0, each_known h c k all items own.1 keeps.1)

  -- and what is listed is in the look-up
  pub known_of_listed : IsStore nodes → (items : List ListedCondition) (c : KeptCondition) → IsKept nodes c → AllByRecursion (λ i. IsKept nodes i.condition) items
      → Contains (map key (found items)) (condition_of nodes c) → Contains (map kept items) c
  known_of_listed h items c k keeps there =
      held key (λ d. d ≡ condition_of nodes c → Contains (map kept items) c) (found items) (condition_of nodes c)
      (each_known h c k (map kept items) items (own_keys kept items) keeps) there refl

  -- conditions that are listed stay so
  still_listed : (old new : List ListedCondition) → ((c : Condition) → Contains (map key (found old)) c → Contains (map key (found new)) c)
      → (cs : List Condition) → AreListed nodes old cs → AreListed nodes new cs
  still_listed old new f [] h = tt
  still_listed old new f (c ∷ cs) h = (f c h.0, still_listed old new f cs h.1)

  abbrev IsWalked : List ListedCondition → TermId → Type 0
  IsWalked items e = AreListed nodes items (expression_conditions (tree_of nodes e))

  still_walked : (old new : List ListedCondition) → ((c : Condition) → Contains (map key (found old)) c → Contains (map key (found new)) c)
      → (marks : List Bool) → ((e : TermId) → IsMarked marks e → IsWalked old e) → (e : TermId) → IsMarked marks e → IsWalked new e
  still_walked old new f marks h e marked = still_listed old new f (expression_conditions (tree_of nodes e)) (h e marked)

  -- the parts of a step of the list
  pub lists_by : (old new : ConditionList) (xs : List Found) → IsConditionList nodes old → Leads key (found old.items.items) xs (found new.items.items)
      → new.known ≡ map kept new.items.items → AllByRecursion (λ i. IsKept nodes i.condition) new.items.items → new.walked ≡ old.walked → Lists nodes old new xs
  lists_by old new xs h leads known keeps walked = record {
    valid = record {
      store = h.store;
      known = known;
      kept = keeps;
      walked = subst (λ marks. (e : TermId) → IsMarked marks e → IsWalked new.items.items e) (sym walked)
          (still_walked old.items.items new.items.items (leads_keep key (found old.items.items) xs (found new.items.items) leads) old.walked h.walked);
    };
    leads = leads;
  }

  pub lists_none : (list : ConditionList) → IsConditionList nodes list → Lists nodes list list []
  lists_none list h = record { valid = h; leads = leads_none key (found list.items.items) }

  pub lists_both : (one two three : ConditionList) (xs ys : List Found) → Lists nodes one two xs → Lists nodes two three ys → Lists nodes one three (xs ++ ys)
  lists_both one two three xs ys f g = record {
    valid = g.valid;
    leads = leads_both key (found one.items.items) xs (found two.items.items) ys (found three.items.items) f.leads g.leads;
  }

  -- conditions of one line, one after another
  pub lists_at : (one two three : ConditionList) (line : ℕ) (xs ys : List Condition) → Lists nodes one two (found_at line xs) → Lists nodes two three (found_at line ys)
      → Lists nodes one three (found_at line (xs ++ ys))
  lists_at one two three line xs ys f g =
      subst (Lists nodes one three) (sym (map-append (λ c. record { condition = c; line = line }) xs ys)) (lists_both one two three (found_at line xs) (found_at line ys) f g)

  -- the conditions of a term are those of its tree
  pub lists_tree : (old new : ConditionList) (line : ℕ) (e : TermId) (t : Tree) → tree_of nodes e ≡ t → Lists nodes old new (found_at line (expression_conditions t))
      → Lists nodes old new (found_at line (expression_conditions (tree_of nodes e)))
  lists_tree old new line e t is h = subst (λ u. Lists nodes old new (found_at line (expression_conditions u))) (sym is) h

  -- by an `==` that is equality
  module _ (eq : KeptCondition → KeptCondition → Bool) (same : (x y : KeptCondition) → eq x y ≡ true → x ≡ y) (self : (x : KeptCondition) → eq x x ≡ true) where
    absent : (all : List KeptCondition) (c : KeptCondition) → list_any (eq c) all ≡ false → Contains all c → ⊥
    absent all c none there = true≢false (sym (list_any_at (eq c) all there.0 c there.1 (ap (eq c) there.2 ∙ self c)) ∙ none)

    pub adds_new : (old new : ConditionList) (c : KeptCondition) (line : ℕ) → IsConditionList nodes old → IsKept nodes c → list_any (eq c) old.known ≡ false
        → new.known ≡ with_key eq old.known c → new.items.items ≡ old.items.items ++ record { condition = c; line = line } ∷ [] → new.walked ≡ old.walked
        → Lists nodes old new (found_at line (condition_of nodes c ∷ []))
    adds_new old new c line h k none keys items walked =
        let i : ListedCondition = record { condition = c; line = line } in
        let items_before = old.items.items in
        let unlisted : Contains (map key (found items_before)) (condition_of nodes c) → ⊥ =
        λ u. absent (map kept items_before) c (subst (λ all. list_any (eq c) all ≡ false) h.known none) (known_of_listed h.store items_before c k h.kept u) in
        let longer : found new.items.items ≡ found items_before ++ found_of nodes i ∷ [] = ap found items ∙ map_push (found_of nodes) items_before i in
        let known : new.known ≡ map kept new.items.items =
        keys ∙ ap (λ b. if b then old.known else old.known ++ c ∷ []) none ∙ ap (λ all. all ++ c ∷ []) h.known ∙ sym (map_push kept items_before i) ∙ ap (map kept) (sym items) in
        lists_by old new (found_of nodes i ∷ []) h
        (subst (Leads key (found items_before) (found_of nodes i ∷ [])) (sym longer) (leads_new key (found items_before) (found_of nodes i) unlisted)) known
        (subst (λ all. AllByRecursion (λ j. IsKept nodes j.condition) all) (sym items) (each_append (λ j. IsKept nodes j.condition) items_before (i ∷ []) h.kept (k, tt))) walked

    pub adds_known : (old new : ConditionList) (c : KeptCondition) (line : ℕ) → IsConditionList nodes old → list_any (eq c) old.known ≡ true
        → new.known ≡ with_key eq old.known c → new.items.items ≡ old.items.items → new.walked ≡ old.walked
        → Lists nodes old new (found_at line (condition_of nodes c ∷ []))
    adds_known old new c line h there keys items walked =
        let items_before = old.items.items in
        let listed : Contains (map key (found items_before)) (condition_of nodes c) =
        listed_of_known items_before c (subst (λ all. Contains all c) h.known (Contains-list_any eq same old.known c there)) in
        let xs = found_at line (condition_of nodes c ∷ []) in
        lists_by old new xs h
        (subst (λ all. Leads key (found items_before) xs (found all)) (sym items) (leads_known key (found items_before) xs (listed, tt)))
        (keys ∙ ap (λ b. if b then old.known else old.known ++ c ∷ []) there ∙ h.known ∙ ap (map kept) (sym items))
        (subst (λ all. AllByRecursion (λ j. IsKept nodes j.condition) all) (sym items) h.kept) walked

  -- WALKED TERMS
  at_line : (line : ℕ) (Q : Condition → Type 0) (cs : List Condition) → AllByRecursion Q cs → AllByRecursion (λ f. Q f.condition) (found_at line cs)
  at_line line Q [] h = tt
  at_line line Q (c ∷ cs) h = (h.0, at_line line Q cs h.1)

  abbrev conditions_at : ℕ → TermId → List Found
  conditions_at line e = found_at line (expression_conditions (tree_of nodes e))

  -- a term that was walked gives no more
  pub walked_before : (list : ConditionList) (e : TermId) (line : ℕ) → IsConditionList nodes list → IsMarked list.walked e → Lists nodes list list (conditions_at line e)
  walked_before list e line h marked =
      let items = list.items.items in
      record {
        valid = h;
        leads = leads_known key (found items) (conditions_at line e)
            (at_line line (Contains (map key (found items))) (expression_conditions (tree_of nodes e)) (h.walked e marked));
      }

  -- a term whose conditions are listed is marked
  pub walked_now : (old mid new : ConditionList) (e : TermId) (line : ℕ) → Lists nodes old mid (conditions_at line e) → new.items.items ≡ mid.items.items → new.known ≡ mid.known
      → ((i : ℕ) → (i ≡ e.0 → ⊥) → slice_index_or new.walked i false ≡ slice_index_or mid.walked i false) → Lists nodes old new (conditions_at line e)
  walked_now old mid new e line f items known others =
      let done : IsWalked mid.items.items e =
      unmapped (λ c. record { condition = c; line = line }) (λ g. Contains (map key (found mid.items.items)) g.condition) (expression_conditions (tree_of nodes e))
      (leads_contain key (found old.items.items) (conditions_at line e) (found mid.items.items) f.leads).1 in
      record {
        valid = record {
          store = f.valid.store;
          known = known ∙ f.valid.known ∙ ap (map kept) (sym items);
          kept = subst (λ all. AllByRecursion (λ j. IsKept nodes j.condition) all) (sym items) f.valid.kept;
          walked = subst (λ all. (t : TermId) → IsMarked new.walked t → IsWalked all t) (sym items)
              (marked_more (IsWalked mid.items.items) mid.walked new.walked e others f.valid.walked done);
        };
        leads = subst (λ all. Leads key (found old.items.items) (conditions_at line e) (found all)) (sym items) f.leads;
      }

  -- PARTS OF TERMS
  -- a term without parts that is no ratio gives no condition
  pub leaf_conditions : (trees : List Tree) (node : Node) → ((a b c d : PointId) → node ≡ R a b c d → ⊥) → ((e : TermId) → node ≡ Neg e → ⊥) → ((e f : TermId) → node ≡ Add e f → ⊥)
      → ((e f : TermId) → node ≡ Sub e f → ⊥) → ((e f : TermId) → node ≡ Mul e f → ⊥) → ((e f : TermId) → node ≡ Div e f → ⊥) → expression_conditions (node_tree trees node) ≡ []
  leaf_conditions trees (Int n) r g a s m d = refl
  leaf_conditions trees (Param t) r g a s m d = refl
  leaf_conditions trees (S x y z) r g a s m d = refl
  leaf_conditions trees (P x y z) r g a s m d = refl
  leaf_conditions trees (R x y z w) r g a s m d = absurd (r x y z w refl)
  leaf_conditions trees (Neg e) r g a s m d = absurd (g e refl)
  leaf_conditions trees (Add e f) r g a s m d = absurd (a e f refl)
  leaf_conditions trees (Sub e f) r g a s m d = absurd (s e f refl)
  leaf_conditions trees (Mul e f) r g a s m d = absurd (m e f refl)
  leaf_conditions trees (Div e f) r g a s m d = absurd (d e f refl)

  pub record HasParts (e f g : TermId) : Type 0 where
    pub first : HasBraces nodes f
    pub second : HasBraces nodes g
    pub falls : max (nesting (tree_of nodes f)) (nesting (tree_of nodes g)) < nesting (tree_of nodes e)

  two_parts : (e f g : TermId) → HasBraces nodes e → (f.0 < length nodes) × (g.0 < length nodes)
      → nesting (tree_of nodes e) ≡ suc (max (nesting (tree_of nodes f)) (nesting (tree_of nodes g))) → HasParts e f g
  two_parts e f g h within is =
      let shallow : nesting (tree_of nodes e) ≤ 128 = h.1 in
      record { first = (within.0, omega arith); second = (within.1, omega arith); falls = omega arith }

  module _ (store : IsStore nodes) (e : TermId) (h : HasBraces nodes e) where
    pub unfolds : (node : Node) → slice_get nodes e.0 ≡ Some node → tree_of nodes e ≡ node_tree (trees_of nodes) node
    unfolds node at = tree_of-node nodes e node store at

    pub negation_part : (f : TermId) → slice_get nodes e.0 ≡ Some (Neg f) → HasParts e f f
    negation_part f at =
        let within = parts_within nodes store e.0 (Neg f) at in
        let is : nesting (tree_of nodes e) ≡ suc (nesting (tree_of nodes f)) = ap nesting (unfolds (Neg f) at) in
        let shallow : nesting (tree_of nodes e) ≤ 128 = h.1 in
        record { first = (within, omega arith); second = (within, omega arith); falls = omega arith }

    pub addition_parts : (f g : TermId) → slice_get nodes e.0 ≡ Some (Add f g) → HasParts e f g
    addition_parts f g at = two_parts e f g h (parts_within nodes store e.0 (Add f g) at) (ap nesting (unfolds (Add f g) at))

    pub subtraction_parts : (f g : TermId) → slice_get nodes e.0 ≡ Some (Sub f g) → HasParts e f g
    subtraction_parts f g at = two_parts e f g h (parts_within nodes store e.0 (Sub f g) at) (ap nesting (unfolds (Sub f g) at))

    pub multiplication_parts : (f g : TermId) → slice_get nodes e.0 ≡ Some (Mul f g) → HasParts e f g
    multiplication_parts f g at = two_parts e f g h (parts_within nodes store e.0 (Mul f g) at) (ap nesting (unfolds (Mul f g) at))

    pub division_parts : (f g : TermId) → slice_get nodes e.0 ≡ Some (Div f g) → HasParts e f g
    division_parts f g at = two_parts e f g h (parts_within nodes store e.0 (Div f g) at) (ap nesting (unfolds (Div f g) at))
