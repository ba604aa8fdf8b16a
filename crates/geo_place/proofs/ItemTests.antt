-- What the number of an item's term tells.
use Rattle.std.proofs.Common.{◌≡◌, ◌⊎◌, ⊎_elim, ℕ, suc, ◌+◌, ◌<◌, Bool, true, false, pos, List, ◌∷◌, ◌++◌, length, get_or, refl, sym, ◌∙◌, ap, subst, arith}
use Rattle.std.specs.Prelude.{◌≢◌, IfErr, IsErrAnd, Result, Ok, Err, take, drop}
use Rattle.std.specs.Bool.{MatchBool}
use Rattle.std.specs.List.{AllByRecursion}
use Rattle.std.proofs.lemmas.List.{drop_more, length-take-le, take-append-drop}
use Rattle.ring_laws.specs.Fraction.{IsNonzero, Same, whole}
use Rattle.ring_laws.proofs.Fractions.{fractions}
use Rattle.ring_laws.proofs.Quotients.{same_of_zero}
use Rattle.frac_laws.specs.declared.frac.Frac.{Frac}
use Rattle.frac_laws.specs.Numbers.{fraction_of}
use Rattle.geo_terms.specs.Stores.{Store}
use Rattle.geo_conditions.specs.declared.items.Item.{Item}
use Rattle.geo_place.specs.declared.errors.PlaceError.{PlaceError}
use Rattle.geo_place.specs.declared.errors.PlaceError.TheVariants.{NoMemory, TooLarge, Unmet}
use Rattle.geo_place.specs.declared.sketch.Sketch.{Sketch}
use Rattle.geo_place.specs.Inner.{FailsItem, FirstFails, GoalsCome, IsItemMet, IsItemNull, StopsGoals, item_reckoned}
use Rattle.geo_place.specs.Reckonings.{Overflows, IsResult, Reckoning, number}
use Rattle.geo_place.proofs.Inverses.{nonzero_same}
use Rattle.geo_place.proofs.ResultLaws.{same_of}

pub null_item : (r : Frac) (e : Reckoning) → IsResult r e → r.num ≡ pos 0 → (Overflows e → ⊥) × Same (number e) (whole (pos 0))
unfolding fraction_of
null_item r e h z = (h.kept, fractions.same_trans _ _ _ (fractions.same_sym _ _ (same_of r (number e) h.is)) (same_of_zero (fraction_of r) z))

pub met_item : (r : Frac) (e : Reckoning) → IsResult r e → (r.num ≡ pos 0 → ⊥) → (Overflows e → ⊥) × IsNonzero (number e)
unfolding fraction_of
met_item r e h n = (h.kept, nonzero_same (fraction_of r) (number e) (same_of r (number e) h.is) n)

pub unmet_item : (sketch : Sketch) (nodes : Store) (item : Item) (k : ℕ) (e : PlaceError) → (e ≡ NoMemory) ⊎ (e ≡ Unmet k) → IsItemNull sketch nodes item → FailsItem sketch nodes item k e
unmet_item sketch nodes item k e h n =
    ⊎_elim (λ (q : e ≡ NoMemory). subst (λ (f : PlaceError). FailsItem sketch nodes item k f) (sym q) tt)
    (λ (q : e ≡ Unmet k). subst (λ (f : PlaceError). FailsItem sketch nodes item k f) (sym q) (refl, n)) h

pub null_or_met : (r : Frac) (e : Reckoning) (b : Bool) → IsResult r e → MatchBool b (r.num ≡ pos 0) (r.num ≢ pos 0)
    → MatchBool b ((Overflows e → ⊥) × Same (number e) (whole (pos 0))) ((Overflows e → ⊥) × IsNonzero (number e))
null_or_met r e true h z = null_item r e h z
null_or_met r e false h z = met_item r e h z

-- an error that is passed on
pub passed_on : {T E : Type 0} (r : Result T E) (x : E) (P : E → Type 0) → IsErrAnd r (λ e. e ≡ x) → P x → IfErr r P
passed_on (Ok t) x P h p = tt
passed_on (Err e) x P h p = subst P (sym h) p

-- the item at a place, with those before it
pub parted : {A : Type 0} (xs : List A) (k : ℕ) (x : A) → k < length xs → x ≡ get_or xs k x → xs ≡ take k xs ++ x ∷ drop (suc k) xs
parted xs k x l e =
    sym (take-append-drop k xs) ∙ ap (λ ys. take k xs ++ ys)
    (drop_more xs k x l ∙ ap (λ y. y ∷ drop (k + 1) xs) (sym e) ∙ (let q : k + 1 ≡ suc k = omega arith in ap (λ (i : ℕ). x ∷ drop i xs) q))

module _ (sketch : Sketch) (nodes : Store) (items : List Item) (k : ℕ) (item : Item) (l : k < length items) (at : item ≡ get_or items k item) where
  pub first_fails : (earlier : ℕ) (e : PlaceError) → AllByRecursion (IsItemMet sketch nodes) (take k items) → FailsItem sketch nodes item (earlier + k + 1) e → FirstFails sketch nodes items earlier e
  first_fails earlier e m f = record {
    before = take k items;
    item = item;
    after = drop (suc k) items;
    parts = parted items k item l at;
    met = m;
    fails = subst (λ (i : ℕ). FailsItem sketch nodes item i e)
        (let q = length-take-le k items (omega arith) in
        let r : earlier + k + 1 ≡ suc (earlier + length (take k items)) = omega (arith, q) in r) f;
  }

  pub stops_goals : (Q : Item → Type 0) → AllByRecursion (IsItemNull sketch nodes) (take k items) → Q item → StopsGoals sketch nodes items Q
  stops_goals Q m q = record { before = take k items; item = item; after = drop (suc k) items; parts = parted items k item l at; null = m; stops = q }

  pub goals_refused : (r : Result Bool PlaceError) (x : PlaceError) → IsErrAnd r (λ e. e ≡ x) → (x ≡ TooLarge item.line) × Overflows (item_reckoned sketch nodes item)
      → AllByRecursion (IsItemNull sketch nodes) (take k items) → GoalsCome sketch nodes items r
  goals_refused (Ok b) x h q m = absurd h
  goals_refused (Err e) x h q m =
      subst (λ (f : PlaceError). GoalsCome sketch nodes items (Err f)) (sym (h ∙ q.0))
      (stops_goals (λ i. (item.line ≡ i.line) × Overflows (item_reckoned sketch nodes i)) m (refl, q.1))
