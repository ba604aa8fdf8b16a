-- The list of a program's conditions has the same texts as all that the program gives.
use Rattle.std.proofs.Common.{◌≡◌, ℕ, zero, suc, ◌<◌, inl, inr, Option, Some, None, List, [], ◌∷◌, ◌++◌, length, map, refl, sym, ◌∙◌, ap, subst, append-nil, append_assoc, arith}
use Rattle.std.specs.Prelude.{◌⊎◌, Contains}
use Rattle.geo_terms.specs.Stores.{Store}
use Rattle.geo_program.specs.declared.names.Name.{Name}
use Rattle.geo_program.specs.FormTexts.{form_text}
use Rattle.geo_program.specs.WellFormed.{Source}
use Rattle.geo_lowering.specs.Conditions.{Condition}
use Rattle.geo_lowering.specs.declared.version.Version.TheVariants.{Two}
use Rattle.geo_conditions.specs.declared.items.Item.{Item}
use Rattle.geo_conditions.specs.Lists.{AreConditions, Found, IsListed, ItemForm, all_found, condition_form, condition_item, item_form}
use Rattle.geo_library.specs.Inner.Missing.{IsFirstNotFound, IsFound}
use Rattle.geo_library.specs.Instances.{condition_texts}

later : (x t : List ℕ) (xs : List (List ℕ)) → Contains xs t → Contains (x ∷ xs) t
later x t xs (k, within, is) = (suc k, (let w = within in omega (arith, w)), is)

module _ (names : List Name) where
  abbrev text : Condition → List ℕ
  text c = form_text names (condition_form c)

  abbrev texts : List Found → List (List ℕ)
  texts fs = map (λ f. text f.condition) fs

  abbrev conditions : List Found → List Condition
  conditions fs = map (λ f. f.condition) fs

  grown : (ls : List Found) (x : Found) (xs : List Found) (t : List ℕ) → Contains (texts (ls ++ xs)) t → Contains (texts (ls ++ x ∷ xs)) t
  grown [] x xs t c = later (text x.condition) t (texts xs) c
  grown (l ∷ ls) x xs t (zero, within, is) = (zero, omega arith, is)
  grown (l ∷ ls) x xs t (suc k, within, is) = later (text l.condition) t (texts (ls ++ x ∷ xs)) (grown ls x xs t (k, (let w = within in omega (arith, w)), is))

  member : (ls xs : List Found) (c : Condition) → Contains (conditions ls) c → Contains (texts (ls ++ xs)) (text c)
  member [] xs c (k, within, is) = absurd (let w = within in omega (arith, w))
  member (l ∷ ls) xs c (zero, within, is) = (zero, omega arith, ap text is)
  member (l ∷ ls) xs c (suc k, within, is) = later (text l.condition) (text c) (texts (ls ++ xs)) (member ls xs c (k, (let w = within in omega (arith, w)), is))

  parted : (ls : List Found) (x : Found) (xs : List Found) (t : List ℕ) → Contains (texts (ls ++ x ∷ xs)) t → Contains (texts (ls ++ xs)) t ⊎ (text x.condition ≡ t)
  parted [] x xs t (zero, within, is) = inr is
  parted [] x xs t (suc k, within, is) = inl (k, (let w = within in omega (arith, w)), is)
  parted (l ∷ ls) x xs t (zero, within, is) = inl (zero, omega arith, is)
  parted (l ∷ ls) x xs t (suc k, within, is) =
      elim (parted ls x xs t (k, (let w = within in omega (arith, w)), is)) [ inl c ↦ inl (later (text l.condition) t (texts (ls ++ xs)) c) | inr e ↦ inr e ]

  shrunk : (ls : List Found) (x : Found) (xs : List Found) (t : List ℕ) → Contains (conditions ls) x.condition → Contains (texts (ls ++ x ∷ xs)) t → Contains (texts (ls ++ xs)) t
  shrunk ls x xs t c h = elim (parted ls x xs t h) [ inl k ↦ k | inr e ↦ subst (Contains (texts (ls ++ xs))) e (member ls xs x.condition c) ]

  listed_goes : (before xs result : List Found) (t : List ℕ) → IsListed (λ f. f.condition) before xs result → Contains (texts result) t → Contains (texts (before ++ xs)) t
  listed_goes before [] result t e h = subst (λ (fs : List Found). Contains (texts fs) t) (e ∙ sym (append-nil before)) h
  listed_goes before (x ∷ xs) result t (inl k) h = grown before x xs t (listed_goes before xs result t k.1 h)
  listed_goes before (x ∷ xs) result t (inr k) h = subst (λ (fs : List Found). Contains (texts fs) t) (append_assoc before (x ∷ []) xs) (listed_goes (before ++ x ∷ []) xs result t k.1 h)

  listed_back : (before xs result : List Found) (t : List ℕ) → IsListed (λ f. f.condition) before xs result → Contains (texts (before ++ xs)) t → Contains (texts result) t
  listed_back before [] result t e h = subst (λ (fs : List Found). Contains (texts fs) t) (append-nil before ∙ sym e) h
  listed_back before (x ∷ xs) result t (inl k) h = listed_back before xs result t k.1 (shrunk before x xs t k.0 h)
  listed_back before (x ∷ xs) result t (inr k) h =
      listed_back (before ++ x ∷ []) xs result t k.1 (subst (λ (fs : List Found). Contains (texts fs) t) (sym (append_assoc before (x ∷ []) xs)) h)

-- lists with the same texts miss the same condition first
first_alike : (one other : List (List ℕ)) (given : List Name) → ((t : List ℕ) → Contains one t → Contains other t) → ((t : List ℕ) → Contains other t → Contains one t)
    → (fs : List Found) (missing : Option ℕ) → IsFirstNotFound one given fs missing → IsFirstNotFound other given fs missing
first_alike one other given goes back [] missing h = h
first_alike one other given goes back (f ∷ fs) missing (inl h) = inl (goes _ h.0, first_alike one other given goes back fs missing h.1)
first_alike one other given goes back (f ∷ fs) missing (inr h) = inr ((λ c. h.0 (back _ c)), h.1)

item_texts : (nodes : Store) (items : List Item) → map (λ i. i.text) items ≡ map (λ (x : ItemForm). x.text) (map (item_form nodes) items)
item_texts nodes [] = refl
item_texts nodes (i ∷ items) = ap (λ (ts : List (List ℕ)). i.text ∷ ts) (item_texts nodes items)

found_texts : (q : Source) (fs : List Found) → map (λ (x : ItemForm). x.text) (map (condition_item Two q) fs) ≡ texts q.names fs
found_texts q [] = refl
found_texts q (f ∷ fs) = ap (λ (ts : List (List ℕ)). text q.names f.condition ∷ ts) (found_texts q fs)

-- what the items of the citing program miss first, all that it gives misses first
pub first_of_program : (q : Source) (nodes : Store) (items : List Item) (fs : List Found) (given : List Name) (wanted : List Found) (missing : Option ℕ) → AreConditions q fs
    → map (item_form nodes) items ≡ map (condition_item Two q) fs → IsFirstNotFound (map (λ i. i.text) items) given wanted missing → IsFirstNotFound (condition_texts q) given wanted missing
first_of_program q nodes items fs given wanted missing k e h =
    first_alike (texts q.names fs) (condition_texts q) given (λ t c. listed_goes q.names [] (all_found q) fs t k c) (λ t c. listed_back q.names [] (all_found q) fs t k c) wanted missing
    (subst (λ (ts : List (List ℕ)). IsFirstNotFound ts given wanted missing) (item_texts nodes items ∙ ap (map (λ (x : ItemForm). x.text)) e ∙ found_texts q fs) h)
