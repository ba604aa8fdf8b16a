-- Lists without repeats: what holds of their items holds of all, and there is one at most.
use Rattle.std.proofs.Common.{◌≡◌, Contains, List, [], ◌∷◌, ◌++◌, map, refl, sym, ◌∙◌, subst, ⊎_elim, inl, inr, append_assoc, arith}
use Rattle.std.specs.List.{AllByRecursion}
use Rattle.std.proofs.lemmas.List.Elements.{All-from_recursion, Contains-append_right, Contains-get_or}
use Rattle.geo_lowering.proofs.ConditionValues.{each_front, each_back, each_append}
use Rattle.geo_conditions.specs.Lists.{IsListed}

module _ {A B : Type 0} (key : A → B) (P : B → Type 0) where
  abbrev Each : List A → Type 0
  Each xs = AllByRecursion (λ a. P (key a)) xs

  mapped : (xs : List A) → Each xs → AllByRecursion P (map key xs)
  mapped [] h = tt
  mapped (x ∷ xs) h = (h.0, mapped xs h.1)

  pub held : (xs : List A) (b : B) → Each xs → Contains (map key xs) b → P b
  held xs b h c = subst P c.2 (All-from_recursion P (map key xs) (mapped xs h) c.0 b c.1)

  -- what holds of all holds of those that are listed
  pub listed_hold : (xs listed result : List A) → IsListed key listed xs result → Each listed → Each xs → Each result
  listed_hold [] listed result e h k = subst Each (sym e) h
  listed_hold (x ∷ xs) listed result e h k =
      ⊎_elim (λ (c : Contains (map key listed) (key x) × IsListed key listed xs result). listed_hold xs listed result c.1 h k.1)
      (λ (c : (Contains (map key listed) (key x) → ⊥) × IsListed key (listed ++ x ∷ []) xs result). listed_hold xs
      (listed ++ x ∷ []) result c.1 (each_append (λ a. P (key a)) listed (x ∷ []) h (k.0, tt)) k.1) e

  -- and what holds of those that are listed holds of all
  pub all_hold : (xs listed result : List A) → IsListed key listed xs result → Each result → Each listed × Each xs
  all_hold [] listed result e h = (subst Each e h, tt)
  all_hold (x ∷ xs) listed result e h =
      ⊎_elim (λ (c : Contains (map key listed) (key x) × IsListed key listed xs result). let k = all_hold xs listed result c.1 h in (k.0, (held listed (key x) k.0 c.0, k.1)))
      (λ (c : (Contains (map key listed) (key x) → ⊥) × IsListed key (listed ++ x ∷ []) xs result).
      let k = all_hold xs (listed ++ x ∷ []) result c.1 h in
      (each_front (λ a. P (key a)) listed (x ∷ []) k.0, ((each_back (λ a. P (key a)) listed (x ∷ []) k.0).0, k.1))) e

module _ {A B : Type 0} (key : A → B) where
  -- there is one such list at most
  pub listed_once : (xs listed one other : List A) → IsListed key listed xs one → IsListed key listed xs other → one ≡ other
  listed_once [] listed one other e f = e ∙ sym f
  listed_once (x ∷ xs) listed one other e f =
      ⊎_elim
      (λ (c : Contains (map key listed) (key x) × IsListed key listed xs one).
      ⊎_elim (λ (d : Contains (map key listed) (key x) × IsListed key listed xs other). listed_once xs listed one other c.1 d.1)
      (λ (d : (Contains (map key listed) (key x) → ⊥) × IsListed key (listed ++ x ∷ []) xs other). absurd (d.0 c.0)) f)
      (λ (c : (Contains (map key listed) (key x) → ⊥) × IsListed key (listed ++ x ∷ []) xs one).
      ⊎_elim (λ (d : Contains (map key listed) (key x) × IsListed key listed xs other). absurd (c.0 d.0))
      (λ (d : (Contains (map key listed) (key x) → ⊥) × IsListed key (listed ++ x ∷ []) xs other). listed_once xs (listed ++ x ∷ []) one other c.1 d.1) f) e

-- what holds of the images holds of the items by their images
pub unmapped : {A B : Type 0} (f : A → B) (P : B → Type 0) (xs : List A) → AllByRecursion P (map f xs) → AllByRecursion (λ a. P (f a)) xs
unmapped f P [] h = tt
unmapped f P (x ∷ xs) h = (h.0, unmapped f P xs h.1)

module _ {A B : Type 0} (key : A → B) where
  -- where these items come next, one list leads to the other
  abbrev pub Leads : List A → List A → List A → Type 0
  Leads old xs new = (rest result : List A) → IsListed key new rest result → IsListed key old (xs ++ rest) result

  pub leads_none : (old : List A) → Leads old [] old
  leads_none old rest result h = h

  pub leads_both : (old xs new ys last : List A) → Leads old xs new → Leads new ys last → Leads old (xs ++ ys) last
  leads_both old xs new ys last f g rest result h =
      subst (λ zs. IsListed key old zs result) (sym (append_assoc xs ys rest)) (f (ys ++ rest) result (g rest result h))

  pub leads_known : (old xs : List A) → AllByRecursion (λ x. Contains (map key old) (key x)) xs → Leads old xs old
  leads_known old [] h rest result k = k
  leads_known old (x ∷ xs) h rest result k = inl (h.0, leads_known old xs h.1 rest result k)

  pub leads_new : (old : List A) (x : A) → (Contains (map key old) (key x) → ⊥) → Leads old (x ∷ []) (old ++ x ∷ [])
  leads_new old x h rest result k = inr (h, k)

  -- where what is left comes next, all that was to come is listed from the start
  abbrev pub Ahead : List A → List A → List A → List A → Type 0
  Ahead start all now left = (rest result : List A) → IsListed key now (left ++ rest) result → IsListed key start (all ++ rest) result

  pub ahead_next : (start all one xs two left : List A) → Ahead start all one (xs ++ left) → Leads one xs two → Ahead start all two left
  ahead_next start all one xs two left f g rest result h =
      f rest result (subst (λ zs. IsListed key one zs result) (sym (append_assoc xs left rest)) (g (left ++ rest) result h))

  weaken : (b : B) (bs : List B) (xs : List A) → AllByRecursion (λ a. Contains bs (key a)) xs → AllByRecursion (λ a. Contains (b ∷ bs) (key a)) xs
  weaken b bs [] h = tt
  weaken b bs (x ∷ xs) h = (Contains-append_right (b ∷ []) bs (key x) h.0, weaken b bs xs h.1)

  -- each item's key is among the keys
  pub own_keys : (xs : List A) → AllByRecursion (λ a. Contains (map key xs) (key a)) xs
  own_keys [] = tt
  own_keys (x ∷ xs) = (Contains-get_or (key x ∷ map key xs) 0 (key x) (omega arith), weaken (key x) (map key xs) xs (own_keys xs))

  -- what was listed stays listed, and what comes is listed
  pub leads_contain : (old xs new : List A) → Leads old xs new
      → AllByRecursion (λ a. Contains (map key new) (key a)) old × AllByRecursion (λ a. Contains (map key new) (key a)) xs
  leads_contain old xs new f =
      let all = all_hold key (Contains (map key new)) (xs ++ []) old new (f [] new refl) (own_keys new) in
      (all.0, each_front (λ a. Contains (map key new) (key a)) xs [] all.1)

  pub leads_keep : (old xs new : List A) → Leads old xs new → (b : B) → Contains (map key old) b → Contains (map key new) b
  leads_keep old xs new f b c = held key (Contains (map key new)) old b (leads_contain old xs new f).0 c
