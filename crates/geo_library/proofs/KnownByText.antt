-- The variables that texts make known are those that the conditions make known.
use Rattle.std.proofs.Common.{◌≡◌, ℕ, suc, ◌<◌, inl, inr, Bool, true, false, List, [], ◌∷◌, ◌++◌, get_or, length, map, arith, refl, sym, ◌∙◌, ap, ap₂, subst}
use Rattle.std.specs.Prelude.{codes, if◌then◌else◌}
use Rattle.std.specs.List.{AllByRecursion}
use Rattle.geo_poly.specs.declared.variables.Var.{Var}
use Rattle.geo_poly.specs.PolynomialVariables.{variables_of}
use Rattle.geo_terms.specs.Stores.{Store, tree_of}
use Rattle.geo_terms.specs.Trees.{Tree}
use Rattle.geo_program.specs.WellFormed.{Source}
use Rattle.geo_program.specs.FormTexts.{form_text}
use Rattle.geo_lowering.specs.Conditions.{Condition, different, not_collinear, not_parallel, crossing, nonzero}
use Rattle.geo_lowering.specs.Lowering.{layout_of}
use Rattle.geo_lowering.specs.declared.version.Version.TheVariants.{Two}
use Rattle.geo_conditions.specs.declared.items.Item.{Item}
use Rattle.geo_conditions.specs.Lists.{Found, ItemForm, condition_form, condition_item, item_form}
use Rattle.geo_conditions.specs.Terms.{condition_term}
use Rattle.geo_logs.specs.Starts.{start_of}
use Rattle.geo_library.specs.Figures.{known_variables, tells_quantity}
use Rattle.geo_library.specs.Inner.Knowing.{AreKnown, IsKnownBy, IsQuantity, IsReadyItem, TellsText}

false_true : false ≡ true → ⊥
false_true e = cc

module _ (q : Source) where
  abbrev text : Condition → List ℕ
  text c = form_text q.names (condition_form c)

  abbrev variables : Condition → List Var
  variables c = if tells_quantity c then variables_of (start_of (condition_term (layout_of Two q.commands) c)) else []

  -- a condition's text tells whether it says that a single quantity is not 0
  told : (c : Condition) → tells_quantity c ≡ true → TellsText (text c)
  told (different a b) e = inl (_, refl)
  told (not_collinear a b c) e = inr (_, refl)
  told (not_parallel a b c d) e = absurd (false_true e)
  told (crossing a b) e = absurd (false_true e)
  told (nonzero t) e = absurd (false_true e)

  not_told : (c : Condition) → tells_quantity c ≡ false → TellsText (text c) → ⊥
  not_told (different a b) e h = false_true (sym e)
  not_told (not_collinear a b c) e h = false_true (sym e)
  not_told (not_parallel a b c d) e (inl h) = let k : ◌≡◌ {A = ℕ} 110 100 = ap (λ (xs : List ℕ). get_or xs 0 0) h.1 in omega (arith, k)
  not_told (not_parallel a b c d) e (inr h) = let k : ◌≡◌ {A = ℕ} 112 99 = ap (λ (xs : List ℕ). get_or xs 4 0) h.1 in omega (arith, k)
  not_told (crossing a b) e (inl h) = let k : ◌≡◌ {A = ℕ} 99 100 = ap (λ (xs : List ℕ). get_or xs 0 0) h.1 in omega (arith, k)
  not_told (crossing a b) e (inr h) = let k : ◌≡◌ {A = ℕ} 99 110 = ap (λ (xs : List ℕ). get_or xs 0 0) h.1 in omega (arith, k)
  not_told (nonzero t) e (inl h) = let k : ◌≡◌ {A = ℕ} 110 100 = ap (λ (xs : List ℕ). get_or xs 0 0) h.1 in omega (arith, k)
  not_told (nonzero t) e (inr h) = let k : ◌≡◌ {A = ℕ} 110 116 = ap (λ (xs : List ℕ). get_or xs 2 0) h.1 in omega (arith, k)

  -- its term is then a quantity
  is_quantity : (c : Condition) → tells_quantity c ≡ true → IsQuantity (condition_term (layout_of Two q.commands) c)
  is_quantity (different a b) e = tt
  is_quantity (not_collinear a b c) e = tt
  is_quantity (not_parallel a b c d) e = absurd (false_true e)
  is_quantity (crossing a b) e = absurd (false_true e)
  is_quantity (nonzero t) e = absurd (false_true e)

  -- ONE ITEM
  one_known : (nodes : Store) (i : Item) (c : Condition) (vars : List Var) → i.text ≡ text c
      → tree_of nodes i.term ≡ condition_term (layout_of Two q.commands) c → IsKnownBy nodes i vars → vars ≡ variables c
  one_known nodes i c vars t is h = by (tells_quantity c) refl h
    where
      chosen : (b : Bool) → tells_quantity c ≡ b → (if b then variables_of (start_of (condition_term (layout_of Two q.commands) c)) else []) ≡ variables c
      chosen b e = ap (λ (b : Bool). if b then variables_of (start_of (condition_term (layout_of Two q.commands) c)) else []) (sym e)

      by : (b : Bool) → tells_quantity c ≡ b → IsKnownBy nodes i vars → vars ≡ variables c
      by true e (inl g) = g.1 ∙ ap (λ (u : Tree). variables_of (start_of u)) is ∙ chosen true e
      by true e (inr g) = absurd (g.0 (subst TellsText (sym t) (told c e)))
      by false e (inl g) = absurd (not_told c e (subst TellsText t g.0))
      by false e (inr g) = g.1 ∙ chosen false e

  one_ready : (nodes : Store) (i : Item) (c : Condition) → i.text ≡ text c → tree_of nodes i.term ≡ condition_term (layout_of Two q.commands) c → i.term.0 < length nodes → IsReadyItem nodes i
  one_ready nodes i c t is b = record { stored = b; quantity = λ h. subst IsQuantity (sym is) (by (tells_quantity c) refl (subst TellsText t h)) }
    where
      by : (b : Bool) → tells_quantity c ≡ b → TellsText (text c) → IsQuantity (condition_term (layout_of Two q.commands) c)
      by true e h = is_quantity c e
      by false e h = absurd (not_told c e h)

  -- ALL OF THEM
  pub all_alike : (nodes : Store) (items : List Item) (fs : List Found) (vars : List Var)
      → map (item_form nodes) items ≡ map (condition_item Two q) fs → AreKnown nodes items vars → vars ≡ known_variables q fs
  all_alike nodes [] [] vars e h = h
  all_alike nodes [] (f ∷ fs) vars e h = absurd (let l : ◌≡◌ {A = ℕ} 0 (suc (length (map (condition_item Two q) fs))) = ap length e in omega (arith, l))
  all_alike nodes (i ∷ items) [] vars e h = absurd (let l : ◌≡◌ {A = ℕ} (suc (length (map (item_form nodes) items))) 0 = ap length e in omega (arith, l))
  all_alike nodes (i ∷ items) (f ∷ fs) vars e h =
      let heads : item_form nodes i ≡ condition_item Two q f = cc in
      let tails : map (item_form nodes) items ≡ map (condition_item Two q) fs = cc in
      h.4 ∙ ap₂ (λ (xs ys : List Var). xs ++ ys)
      (one_known nodes i f.condition h.0 (ap (λ (x : ItemForm). x.text) heads) (ap (λ (x : ItemForm). x.term) heads) h.2)
      (all_alike nodes items fs h.1 tails h.3)

  pub all_ready : (nodes : Store) (items : List Item) (fs : List Found) → map (item_form nodes) items ≡ map (condition_item Two q) fs
      → AllByRecursion (λ i. i.term.0 < length nodes) items → AllByRecursion (IsReadyItem nodes) items
  all_ready nodes [] fs e h = tt
  all_ready nodes (i ∷ items) [] e h = absurd (let l : ◌≡◌ {A = ℕ} (suc (length (map (item_form nodes) items))) 0 = ap length e in omega (arith, l))
  all_ready nodes (i ∷ items) (f ∷ fs) e h =
      let heads : item_form nodes i ≡ condition_item Two q f = cc in
      let tails : map (item_form nodes) items ≡ map (condition_item Two q) fs = cc in
      (one_ready nodes i f.condition (ap (λ (x : ItemForm). x.text) heads) (ap (λ (x : ItemForm). x.term) heads) h.0, all_ready nodes items fs tails h.1)
