-- Conditions are looked up one after another.
use Rattle.std.proofs.Common.{◌≡◌, ℕ, zero, suc, ◌+◌, ◌<◌, inl, inr, Option, Some, None, List, [], ◌∷◌, drop, get_or, length, map, refl, sym, ◌∙◌, ap, subst, drop-cons, add-one, arith}
use Rattle.std.specs.Prelude.{Contains}
use Rattle.geo_conditions.specs.declared.items.Item.{Item}
use Rattle.geo_conditions.specs.declared.conditions.ListedCondition.{ListedCondition}
use Rattle.geo_library.specs.Inner.Listing.{IsFirstMissing}

-- whichever is the first among these is the first of all
pub record AreListedSoFar (listed : List (List ℕ)) (text : ListedCondition → List ℕ) (all left : List ListedCondition) : Type 0 where
  pub goes : (found : Option ℕ) → IsFirstMissing listed text left found → IsFirstMissing listed text all found

pub begins : (listed : List (List ℕ)) (text : ListedCondition → List ℕ) (all : List ListedCondition) → AreListedSoFar listed text all all
begins listed text all = record { goes = λ found h. h }

module _ (listed : List (List ℕ)) (text : ListedCondition → List ℕ) (all more : List ListedCondition) (i : ListedCondition) (h : AreListedSoFar listed text all (i ∷ more)) where
  pub goes_on : Contains listed (text i) → AreListedSoFar listed text all more
  goes_on c = record { goes = λ found k. h.goes found (inl (c, k)) }

  pub missing : (Contains listed (text i) → ⊥) → IsFirstMissing listed text all (Some i.line)
  missing n = h.goes (Some i.line) (inr (n, refl))

-- LOOKING UP
contains_later : (x t : List ℕ) (xs : List (List ℕ)) → Contains xs t → Contains (x ∷ xs) t
contains_later x t xs (k, within, is) = (suc k, (let w = within in omega (arith, w)), is)

contains_cases : (x t : List ℕ) (xs : List (List ℕ)) → (x ≡ t → ⊥) → Contains (x ∷ xs) t → Contains xs t
contains_cases x t xs n (zero, within, is) = absurd (n is)
contains_cases x t xs n (suc k, within, is) = (k, (let w = within in omega (arith, w)), is)

-- none of those before has the text
pub record AreOthersSoFar (text : List ℕ) (all left : List Item) : Type 0 where
  pub goes : Contains (map (λ i. i.text) left) text → Contains (map (λ i. i.text) all) text
  pub back : Contains (map (λ i. i.text) all) text → Contains (map (λ i. i.text) left) text

pub no_others : (text : List ℕ) (all : List Item) → AreOthersSoFar text all all
no_others text all = record { goes = λ h. h; back = λ h. h }

module _ (text : List ℕ) (all : List Item) (k : ℕ) (i : Item) (b : k < length all) (h : AreOthersSoFar text all (drop k all)) where
  abbrev texts : List Item → List (List ℕ)
  texts items = map (λ i. i.text) items

  at_front : i ≡ get_or all k i → drop k all ≡ i ∷ drop (suc k) all
  at_front e = drop-cons all k i b ∙ ap (λ x. x ∷ drop (suc k) all) (sym e)

  pub another : i ≡ get_or all k i → (i.text ≡ text → ⊥) → AreOthersSoFar text all (drop (k + 1) all)
  another e n = subst (λ m. AreOthersSoFar text all (drop m all)) (sym (add-one k)) (record {
    goes = λ c. h.goes (subst (λ xs. Contains (texts xs) text) (sym (at_front e)) (contains_later i.text text (texts (drop (suc k) all)) c));
    back = λ c. contains_cases i.text text (texts (drop (suc k) all)) n (subst (λ xs. Contains (texts xs) text) (at_front e) (h.back c));
  })

  pub found : i ≡ get_or all k i → i.text ≡ text → Contains (texts all) text
  found e is = h.goes (subst (λ xs. Contains (texts xs) text) (sym (at_front e)) (0, omega arith, is))
