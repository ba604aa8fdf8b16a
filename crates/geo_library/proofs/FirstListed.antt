-- A condition that is given again changes nothing: the first that is missing in the list is the first that is missing of all.
use Rattle.std.proofs.Common.{◌≡◌, ℕ, zero, suc, ◌<◌, inl, inr, Option, Some, None, List, [], ◌∷◌, ◌++◌, length, map, refl, sym, ◌∙◌, subst, append-nil, append_assoc, arith}
use Rattle.std.specs.Prelude.{Contains}
use Rattle.geo_terms.specs.Stores.{Store}
use Rattle.geo_program.specs.declared.names.Name.{Name}
use Rattle.geo_program.specs.FormTexts.{form_text}
use Rattle.geo_program.specs.WellFormed.{Source}
use Rattle.geo_lowering.specs.Conditions.{Condition}
use Rattle.geo_conditions.specs.declared.conditions.ListedCondition.{ListedCondition}
use Rattle.geo_conditions.specs.declared.items.Item.{Item}
use Rattle.geo_conditions.specs.Inner.ConditionLists.{found_of}
use Rattle.geo_conditions.specs.Lists.{AreConditions, Found, IsListed, all_found, condition_form}
use Rattle.geo_library.specs.Inner.Listing.{IsFirstMissing, asked_text}
use Rattle.geo_library.specs.Inner.Missing.{IsFirstNotFound, IsFound}

module _ (listed : List (List ℕ)) (given : List Name) where
  abbrev First : List Found → Option ℕ → Type 0
  First fs missing = IsFirstNotFound listed given fs missing

  -- as the code looks for it
  first_of_items : (nodes : Store) (items : List ListedCondition) (missing : Option ℕ) → IsFirstMissing listed (asked_text given nodes) items missing → First (map (found_of nodes) items) missing
  first_of_items nodes [] missing h = h
  first_of_items nodes (i ∷ items) missing (inl h) = inl (h.0, first_of_items nodes items missing h.1)
  first_of_items nodes (i ∷ items) missing (inr h) = inr h

  -- one that is found may stand anywhere
  found_between : (missing : Option ℕ) (ls : List Found) (x : Found) (xs : List Found) → IsFound listed given x → First (ls ++ xs) missing → First (ls ++ x ∷ xs) missing
  found_between missing [] x xs f h = inl (f, h)
  found_between missing (l ∷ ls) x xs f (inl h) = inl (h.0, found_between missing ls x xs f h.1)
  found_between missing (l ∷ ls) x xs f (inr h) = inr h

  -- and so may one that is among those before it
  known_between : (missing : Option ℕ) (ls : List Found) (x : Found) (xs : List Found) → Contains (map (λ f. f.condition) ls) x.condition → First (ls ++ xs) missing → First (ls ++ x ∷ xs) missing
  known_between missing [] x xs (k, within, is) h = absurd (let w = within in omega (arith, w))
  known_between missing (l ∷ ls) x xs (zero, within, is) (inl h) =
      inl (h.0, found_between missing ls x xs (subst (λ (c : Condition). Contains listed (form_text given (condition_form c))) is h.0) h.1)
  known_between missing (l ∷ ls) x xs (suc k, within, is) (inl h) = inl (h.0, known_between missing ls x xs (k, (let w = within in omega (arith, w)), is) h.1)
  known_between missing (l ∷ ls) x xs c (inr h) = inr h

  first_of_list : (missing : Option ℕ) (before xs result : List Found) → IsListed (λ f. f.condition) before xs result → First result missing → First (before ++ xs) missing
  first_of_list missing before [] result e h = subst (λ (fs : List Found). First fs missing) (e ∙ sym (append-nil before)) h
  first_of_list missing before (x ∷ xs) result (inl k) h = known_between missing before x xs k.0 (first_of_list missing before xs result k.1 h)
  first_of_list missing before (x ∷ xs) result (inr k) h =
      subst (λ (fs : List Found). First fs missing) (append_assoc before (x ∷ []) xs) (first_of_list missing (before ++ x ∷ []) xs result k.1 h)

  -- the first that the code finds missing in the list of a program is the first that the program gives
  pub first_of_all : (p : Source) (items : List ListedCondition) (missing : Option ℕ) → AreConditions p (map (found_of p.nodes) items)
      → IsFirstMissing listed (asked_text given p.nodes) items missing → First (all_found p) missing
  first_of_all p items missing k h = first_of_list missing [] (all_found p) (map (found_of p.nodes) items) k (first_of_items p.nodes items missing h)

-- so it is by other names for the same lists
pub listed_missing : (p : Source) (given names : List Name) → names ≡ given → (listed items : List Item) → items ≡ listed → (conditions rows : List ListedCondition) → rows ≡ conditions
    → AreConditions p (map (found_of p.nodes) conditions) → (missing : Option ℕ) → IsFirstMissing (map (λ i. i.text) items) (asked_text names p.nodes) rows missing
    → IsFirstNotFound (map (λ i. i.text) listed) given (all_found p) missing
listed_missing p given names x listed items y conditions rows z are missing h =
    first_of_all (map (λ i. i.text) listed) given p conditions missing are
    (subst (λ (ns : List Name). IsFirstMissing (map (λ i. i.text) listed) (asked_text ns p.nodes) conditions missing) x
    (subst (λ (is : List Item). IsFirstMissing (map (λ i. i.text) is) (asked_text names p.nodes) conditions missing) y
    (subst (λ (rs : List ListedCondition). IsFirstMissing (map (λ i. i.text) items) (asked_text names p.nodes) rs missing) z h)))
