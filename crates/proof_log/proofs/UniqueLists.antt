-- Items of one form, one after another.
use Rattle.std.proofs.Common.{◌≡◌, ℕ, Bool, true, false, List, [], ◌∷◌, ◌++◌, refl, sym, ap, ◌∙◌, subst, append_assoc}
use Rattle.std.specs.List.{flat_map}
use Rattle.std.proofs.lemmas.List.{flat_map_more}
use Rattle.proof_log.specs.Inner.Reading.{Begins, Form, NoneBegins, StopsAt}
use Rattle.proof_log.proofs.Runs.{Unique}
use Rattle.proof_log.proofs.Unique.{not_stopped}

module _ {T : Type 0} (F : Form T) (more : ℕ → Bool) (Whole : List T → Type 0) where
  -- what may stand behind these items
  abbrev pub after : List T → Form (List T)
  after done = record { text = flat_map F.text; fits = λ xs. Whole (done ++ xs); more = more }

  -- items that are read uniquely, each with the same first byte, by which it is known whether a further one follows
  pub record AreListed : Type 0 where
    pub unique : Unique F
    pub lead : ℕ
    pub body : T → List ℕ
    pub begins : (x : T) → F.text x ≡ lead ∷ body x
    pub lead_more : more lead ≡ true
    pub lead_stops : F.more lead ≡ false
    pub weaker : (r : List ℕ) → StopsAt more r → StopsAt F.more r
    pub item : (done : List T) (x : T) (xs : List T) → Whole (done ++ x ∷ xs) → F.fits x

  module _ (L : AreListed) where
    -- the bytes of the first item are that byte and others
    leads : (bytes : List ℕ) (x : T) (r : List ℕ) → bytes ≡ F.text x ++ r → bytes ≡ L.lead ∷ (L.body x ++ r)
    leads bytes x r e = e ∙ ap (λ l. l ++ r) (L.begins x)

    pub items_stop : (xs : List T) (r : List ℕ) → StopsAt more r → StopsAt F.more (flat_map F.text xs ++ r)
    items_stop [] r h = L.weaker r h
    items_stop (x ∷ xs) r h =
        let e = leads ((F.text x ++ flat_map F.text xs) ++ r) x (flat_map F.text xs ++ r) (append_assoc (F.text x) (flat_map F.text xs) r) in
        subst (StopsAt F.more) (sym e) L.lead_stops

    pub item_begins : (done : List T) (bytes : List ℕ) (x : T) (xs : List T) (r : List ℕ) → Begins (after done) bytes (x ∷ xs) r → Begins F bytes x (flat_map F.text xs ++ r)
    item_begins done bytes x xs r h = record {
      spelt = h.spelt ∙ append_assoc (F.text x) (flat_map F.text xs) r;
      fits = L.item done x xs h.fits;
      stops = items_stop xs r h.stops;
    }

    pub rest_begins : (done : List T) (bytes : List ℕ) (x : T) (xs : List T) (r : List ℕ) → Begins (after done) bytes (x ∷ xs) r → Begins (after (done ++ x ∷ [])) (flat_map F.text xs ++ r) xs r
    rest_begins done bytes x xs r h = record { spelt = refl; fits = subst Whole (sym (append_assoc done (x ∷ []) xs)) h.fits; stops = h.stops }

    no_end : (bytes : List ℕ) (x : T) (mid r : List ℕ) → bytes ≡ F.text x ++ mid → bytes ≡ r → StopsAt more r → ⊥
    no_end bytes x mid r e f h = not_stopped more L.lead (L.body x ++ mid) r L.lead_more h (sym f ∙ leads bytes x mid e)

    -- an item is read, and what follows is refused
    pub refuse_rest : (done : List T) (bytes mid : List ℕ) (x : T) → Begins F bytes x mid → NoneBegins (after (done ++ x ∷ [])) mid → NoneBegins (after done) bytes
    refuse_rest done bytes mid x h none [] r k = no_end bytes x mid r h.spelt k.spelt k.stops
    refuse_rest done bytes mid x h none (y ∷ ys) r k =
        let one = L.unique bytes x y mid (flat_map F.text ys ++ r) h (item_begins done bytes y ys r k) in
        let rest = rest_begins done bytes y ys r k in
        let P : T → Type 0 = λ z. Begins (after (done ++ z ∷ [])) (flat_map F.text ys ++ r) ys r in
        let Q : List ℕ → Type 0 = λ l. Begins (after (done ++ x ∷ [])) l ys r in
        none ys r (subst Q (sym one.1) (subst P (sym one.0) rest))

    -- an item is due, and there is none
    pub refuse_item : (done : List T) (bytes tail : List ℕ) (b : ℕ) → bytes ≡ b ∷ tail → more b ≡ true → NoneBegins F bytes → NoneBegins (after done) bytes
    refuse_item done bytes tail b e m none [] r k = not_stopped more b tail r m k.stops (sym k.spelt ∙ e)
    refuse_item done bytes tail b e m none (y ∷ ys) r k = none y (flat_map F.text ys ++ r) (item_begins done bytes y ys r k)

    -- an item is read that may not stand behind the others
    pub refuse_place : (done : List T) (bytes mid : List ℕ) (x : T) → Begins F bytes x mid → ((xs : List T) → Whole (done ++ x ∷ xs) → ⊥) → NoneBegins (after done) bytes
    refuse_place done bytes mid x h none [] r k = no_end bytes x mid r h.spelt k.spelt k.stops
    refuse_place done bytes mid x h none (y ∷ ys) r k =
        let one = L.unique bytes x y mid (flat_map F.text ys ++ r) h (item_begins done bytes y ys r k) in
        let P : T → Type 0 = λ z. Whole (done ++ z ∷ ys) in
        none ys (subst P (sym one.0) k.fits)

    -- a byte follows that may not
    pub refuse_byte : (done : List T) (bytes tail : List ℕ) (b : ℕ) → bytes ≡ b ∷ tail → more b ≡ true → (b ≡ L.lead → ⊥) → NoneBegins (after done) bytes
    refuse_byte done bytes tail b e m other [] r k = not_stopped more b tail r m k.stops (sym k.spelt ∙ e)
    refuse_byte done bytes tail b e m other (y ∷ ys) r k =
        let item = item_begins done bytes y ys r k in
        let both : b ∷ tail ≡ L.lead ∷ (L.body y ++ (flat_map F.text ys ++ r)) = sym e ∙ leads bytes y (flat_map F.text ys ++ r) item.spelt in
        let same : b ≡ L.lead = cc in
        other same

    -- the bytes begin with such a list in one way
    pub list_unique : (done xs ys : List T) (bytes r s : List ℕ) → Begins (after done) bytes xs r → Begins (after done) bytes ys s → (xs ≡ ys) × (r ≡ s)
    list_unique done [] [] bytes r s h k = (refl, sym h.spelt ∙ k.spelt)
    list_unique done [] (y ∷ ys) bytes r s h k = absurd (no_end bytes y (flat_map F.text ys ++ s) r (item_begins done bytes y ys s k).spelt h.spelt h.stops)
    list_unique done (x ∷ xs) [] bytes r s h k = absurd (no_end bytes x (flat_map F.text xs ++ r) s (item_begins done bytes x xs r h).spelt k.spelt k.stops)
    list_unique done (x ∷ xs) (y ∷ ys) bytes r s h k =
        let one = L.unique bytes x y (flat_map F.text xs ++ r) (flat_map F.text ys ++ s) (item_begins done bytes x xs r h) (item_begins done bytes y ys s k) in
        let other = rest_begins done bytes y ys s k in
        let P : T → Type 0 = λ z. Begins (after (done ++ z ∷ [])) (flat_map F.text ys ++ s) ys s in
        let Q : List ℕ → Type 0 = λ l. Begins (after (done ++ x ∷ [])) l ys s in
        let rest = list_unique (done ++ x ∷ []) xs ys (flat_map F.text xs ++ r) r s (rest_begins done bytes x xs r h) (subst Q (sym one.1) (subst P (sym one.0) other)) in
        (λ i. one.0 i ∷ rest.0 i, rest.1)

  -- one more item is read
  pub text_more : (bytes now mid : List ℕ) (done : List T) (x : T) → bytes ≡ flat_map F.text done ++ now → now ≡ F.text x ++ mid → bytes ≡ flat_map F.text (done ++ x ∷ []) ++ mid
  text_more bytes now mid done x e f =
      e ∙ ap (λ l. flat_map F.text done ++ l) f ∙ sym (append_assoc (flat_map F.text done) (F.text x) mid) ∙ ap (λ l. l ++ mid) (flat_map_more F.text [] done x)
