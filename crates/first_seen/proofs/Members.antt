-- Where the comparison is equality, an equal key is one of the keys.
use Rattle.std.proofs.Common.{◌≡◌, Bool, true, false, ◌||◌, List, [], ◌∷◌, Contains, refl, sym, ap, subst, ◌∙◌, true≢false, arith}
use Rattle.std.specs.List.{list_any}
use Rattle.std.proofs.lemmas.List.Elements.{Contains-append_right, Contains-get_or}

module _ {K : Type 0} (eq : K → K → Bool) (same : (x y : K) → eq x y ≡ true → x ≡ y) where
  pub Contains-list_any : (keys : List K) (k : K) → list_any (eq k) keys ≡ true → Contains keys k
  Contains-list_any [] k h = absurd (true≢false (sym h))
  Contains-list_any (x ∷ keys) k h = by (eq k x) refl (λ e. Contains-list_any keys k (sym (ap (λ c. c || list_any (eq k) keys) e) ∙ h))
    where
      by : (b : Bool) → eq k x ≡ b → (eq k x ≡ false → Contains keys k) → Contains (x ∷ keys) k
      by true e rest = subst (Contains (x ∷ keys)) (sym (same k x e)) (Contains-get_or (x ∷ keys) 0 x (omega arith))
      by false e rest = Contains-append_right (x ∷ []) keys k (rest e)
