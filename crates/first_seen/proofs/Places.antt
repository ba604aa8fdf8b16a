-- What a look-up tells of keys, also when one comes last.
use Rattle.std.proofs.Common.{◌≡◌, ℕ, zero, suc, ◌+◌, ◌<◌, ◌≤◌, Bool, true, false, cond, ◌||◌, List, [], ◌∷◌, ◌++◌, if◌then◌else◌, Option, Some, None, is_some, unwrap_or, length, take, get_or, slice_get, refl, sym, ap, ap₂, subst, ◌∙◌, arith}
use Rattle.std.specs.Cmp.{IsEquivalence}
use Rattle.std.specs.List.{list_any}
use Rattle.std.proofs.Math.Seq.{take-suc}
use Rattle.std.proofs.lemmas.List.{length-take-le, take_all}
use Rattle.std.proofs.lemmas.List.Folds.{list_any-append, list_any_at}
use Rattle.std.proofs.lemmas.Option.{get_or_from_slice_get, slice_get_within}
use Rattle.first_seen.specs.Inner.{ArePlaces, Tells}
use Rattle.first_seen.specs.Keys.{with_key}

-- keys stand where they stood when one is added, which stands last
at_push : {K : Type 0} (keys : List K) (last : K) (i : ℕ) (k : K) → slice_get keys i ≡ Some k → slice_get (keys ++ last ∷ []) i ≡ Some k
at_push [] last i k at = absurd (cc)
at_push (first ∷ keys) last zero k at = at
at_push (first ∷ keys) last (suc i) k at = at_push keys last i k at

pub last_push : {K : Type 0} (keys : List K) (last : K) → slice_get (keys ++ last ∷ []) (length keys) ≡ Some last
last_push [] last = refl
last_push (first ∷ keys) last = last_push keys last

module _ {K : Type 0} (eq : K → K → Bool) where
  -- there is an equal key where a look-up tells a place
  pub told : (keys : List K) (k : K) (o : Option ℕ) → Tells eq keys k o → list_any (eq k) keys ≡ is_some o
  told keys k None t = t
  told keys k (Some i) t =
      list_any_at (eq k) keys i t.0 (slice_get_within keys i t.0 t.1) (ap (eq k) (get_or_from_slice_get keys i t.0 t.0 t.1) ∙ t.2)

  -- a key with an equal one changes nothing, and another goes last
  pub with_known : (keys : List K) (k : K) (i : ℕ) → Tells eq keys k (Some i) → keys ≡ with_key eq keys k
  with_known keys k i t = sym (ap (λ b. if b then keys else keys ++ k ∷ []) (told keys k (Some i) t))

  pub with_new : (keys : List K) (k : K) → Tells eq keys k None → keys ++ k ∷ [] ≡ with_key eq keys k
  with_new keys k t = sym (ap (λ b. if b then keys else keys ++ k ∷ []) t)

  -- a look-up that tells the last key too
  pub ArePlaces_push : IsEquivalence eq → (keys : List K) (last : K) (place : ℕ) (f g : K → Option ℕ) → place ≡ length keys
      → ((q : K) → g q ≡ cond (eq last q) (Some place) (f q)) → ArePlaces eq keys f → ArePlaces eq (keys ++ last ∷ []) g
  ArePlaces_push laws keys last place f g next update all q =
      subst (Tells eq (keys ++ last ∷ []) q) (sym (update q)) (by (eq last q) refl (f q) (all q))
    where
      by : (b : Bool) → eq last q ≡ b → (o : Option ℕ) → Tells eq keys q o → Tells eq (keys ++ last ∷ []) q (cond b (Some place) o)
      by true e o t = (last, subst (λ n. slice_get (keys ++ last ∷ []) n ≡ Some last) (sym next) (last_push keys last), laws.symm q last ∙ e)
      by false e (Some i) t = (t.0, at_push keys last i t.0 t.1, t.2)
      by false e None t = list_any-append (eq q) keys (last ∷ []) ∙ ap₂ (λ a b. a || (b || false)) t (laws.symm q last ∙ e)

  -- one search tells the place of an equal key, or the next one
  pub known_there : (keys : List K) (k : K) (o : Option ℕ) (place next : ℕ) → Tells eq keys k o → next ≡ length keys → place ≡ unwrap_or o next
      → (place ≡ next → ⊥) → Tells eq keys k (Some place)
  known_there keys k None place next t end is apart = absurd (apart is)
  known_there keys k (Some i) place next t end is apart = (t.0, subst (λ n. slice_get keys n ≡ Some t.0) (sym is) t.1, t.2)

  pub none_there : (keys : List K) (k : K) (o : Option ℕ) (place next : ℕ) → Tells eq keys k o → next ≡ length keys → place ≡ unwrap_or o next
      → place ≡ next → Tells eq keys k None
  none_there keys k None place next t end is last = t
  none_there keys k (Some i) place next t end is last =
      let within : i < length keys = slice_get_within keys i t.0 t.1 in absurd (omega (arith, within, end, is, last))

  -- the place of one key more
  pub next_place : IsEquivalence eq → (keys : List K) (i : ℕ) (k : K) (f g : K → Option ℕ) → i < length keys → get_or keys i k ≡ k
      → ((q : K) → g q ≡ cond (eq k q) (Some i) (f q)) → ArePlaces eq (take i keys) f → ArePlaces eq (take (i + 1) keys) g
  next_place laws keys i k f g within at update all =
      let low : i ≤ length keys = omega (arith, within) in
      let next : i + 1 ≡ suc i = omega arith in
      let more : take (i + 1) keys ≡ take i keys ++ k ∷ [] =
      ap (λ n. take n keys) next ∙ take-suc keys i k within ∙ ap (λ (x : K). take i keys ++ x ∷ []) at in
      subst (λ (ks : List K). ArePlaces eq ks g) (sym more)
      (ArePlaces_push laws (take i keys) k i f g (sym (length-take-le i keys low)) update all)

  -- the places of all keys
  pub all_places : (keys : List K) (i : ℕ) (f : K → Option ℕ) → length keys ≤ i → ArePlaces eq (take i keys) f → ArePlaces eq keys f
  all_places keys i f end all = subst (λ (ks : List K). ArePlaces eq ks f) (take_all i keys end) all
