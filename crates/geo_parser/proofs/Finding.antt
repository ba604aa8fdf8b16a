-- The first entry of a table, and what texts are the same.
use Rattle.std.proofs.Common.{◌≡◌, ℕ, Bor, is_some, ◌||◌, ◌+◌, ◌<◌, ◌≤◌, Bool, true, false, cond, eqb, ◌&&◌, List, [], ◌∷◌, length, get_or, drop, map, Some, None, refl, sym, ap, ◌∙◌}
use Rattle.std.specs.List.{AllByRecursion, list_any}
use Rattle.std.specs.Prelude.{IfSome, find, option_map}
use Rattle.std.specs.Str.{bytes_eq}
use Rattle.std.proofs.lemmas.List.{drop_all, drop_more}
use Rattle.std.proofs.lemmas.Slice.Eq.{bytes_eq-Decides}
use Rattle.std.proofs.lemmas.Bool.Decides.{same_from_decides}
use Rattle.geo_parser.specs.Forms.{Due, Slot, due_behind}
use Rattle.geo_parser.specs.Texts.{found, is_text}

-- `is_text` is what `==` computes
pub is_text_lem : (a b : List ℕ) → is_text a b ≡ bytes_eq a b
is_text_lem [] [] = refl
is_text_lem [] (b ∷ bs) = refl
is_text_lem (a ∷ as') [] = refl
is_text_lem (a ∷ as') (b ∷ bs) = ap (λ r. eqb a b && r) (is_text_lem as' bs)

-- texts that pass are the same
pub same_text : (a b : List ℕ) → is_text a b ≡ true → a ≡ b
same_text a b h = (bytes_eq-Decides a b).0 (sym (is_text_lem a b) ∙ h)

-- a text is the same as itself
pub is_text_self : (a : List ℕ) → is_text a a ≡ true
is_text_self a = is_text_lem a a ∙ (bytes_eq-Decides a a).1 refl

-- the order of two texts is no matter
pub is_text_sym : (a b : List ℕ) → is_text a b ≡ is_text b a
is_text_sym a b =
    let e : bytes_eq a b ≡ bytes_eq b a = same_from_decides (bytes_eq a b) (bytes_eq b a) (bytes_eq-Decides a b) ((λ h. sym ((bytes_eq-Decides b a).0 h)), (λ h. (bytes_eq-Decides b a).1 (sym h))) in
    is_text_lem a b ∙ e ∙ sym (is_text_lem b a)

-- a search goes on behind an entry that fails
module _ {X : Type 0} (p : X → Bool) where
  pub find-drop : (xs : List X) (i : ℕ) (d : X) → i < length xs → find p (drop i xs) ≡ cond (p (get_or xs i d)) (Some (get_or xs i d)) (find p (drop (i + 1) xs))
  find-drop xs i d h = ap (find p) (drop_more xs i d h)

  pub find_here : (xs : List X) (i : ℕ) (x : X) → i < length xs → x ≡ get_or xs i x → p x ≡ true → find p (drop i xs) ≡ Some x
  find_here xs i x h is passed =
      find-drop xs i x h ∙ ap (λ b. cond b (Some (get_or xs i x)) (find p (drop (i + 1) xs))) (ap p (sym is) ∙ passed) ∙ ap Some (sym is)

  pub find_later : (xs : List X) (i : ℕ) (x : X) → i < length xs → x ≡ get_or xs i x → p x ≡ false → find p (drop (i + 1) xs) ≡ find p (drop i xs)
  find_later xs i x h is failed =
      sym (find-drop xs i x h ∙ ap (λ b. cond b (Some (get_or xs i x)) (find p (drop (i + 1) xs))) (ap p (sym is) ∙ failed))

  pub find_none : (xs : List X) (i : ℕ) → length xs ≤ i → find p (drop i xs) ≡ None
  find_none xs i h = ap (find p) (drop_all i xs h)

-- A TABLE OF WORDS

-- a table, seen through its references
pub found-map : {W : Type 0} (table : List (Bor (List ℕ) × W)) (word : List ℕ) → found (map (λ e. (e.0.now, e.1)) table) word ≡ option_map (λ e. e.1) (find (λ e. is_text e.0.now word) table)
found-map [] word = refl
found-map {W} (e ∷ es) word = by (is_text e.0.now word) (found-map es word)
  where
    by : (b : Bool) → found (map (λ (d : Bor (List ℕ) × W). (d.0.now, d.1)) es) word ≡ option_map (λ (d : Bor (List ℕ) × W). d.1) (find (λ d. is_text d.0.now word) es)
        → option_map (λ (d : List ℕ × W). d.1) (cond b (Some (e.0.now, e.1)) (find (λ d. is_text d.0 word) (map (λ (d : Bor (List ℕ) × W). (d.0.now, d.1)) es)))
        ≡ option_map (λ (d : Bor (List ℕ) × W). d.1) (cond b (Some e) (find (λ d. is_text d.0.now word) es))
    by true h = refl
    by false h = h

-- the words of a table, each with what is due behind it
abbrev pub dues : {W : Type 0} → (W → List Slot) → List (List ℕ × W) → List Due
dues due table = map (λ e. (e.0, due e.1)) table

pub due_behind-dues : {W : Type 0} (due : W → List Slot) (table : List (List ℕ × W)) (word : List ℕ) → option_map due (found table word) ≡ due_behind word (dues due table)
due_behind-dues due [] word = refl
due_behind-dues due (e ∷ es) word = by (is_text e.0 word) (due_behind-dues due es word)
  where
    by : (b : Bool) → option_map due (found es word) ≡ due_behind word (dues due es)
        → option_map due (option_map (λ d. d.1) (cond b (Some e) (find (λ d. is_text d.0 word) es)))
        ≡ option_map (λ d. d.1) (cond b (Some (e.0, due e.1)) (find (λ d. is_text d.0 word) (dues due es)))
    by true h = refl
    by false h = h

-- an entry that is found stands beside the word
pub text_found : {W : Type 0} (text : W → List ℕ) (table : List (List ℕ × W)) (word : List ℕ) → map (λ e. text e.1) table ≡ map (λ e. e.0) table → IfSome (found table word) (λ w. text w ≡ word)
text_found text [] word h = tt
text_found text (e ∷ es) word h = by (is_text e.0 word) refl (text_found text es word cc)
  where
    by : (b : Bool) → is_text e.0 word ≡ b → IfSome (found es word) (λ w. text w ≡ word)
        → IfSome (option_map (λ d. d.1) (cond b (Some e) (find (λ d. is_text d.0 word) es))) (λ w. text w ≡ word)
    by true passed rest = let same : text e.1 ≡ e.0 = cc in same ∙ same_text e.0 word passed
    by false failed rest = rest

-- what holds of all that a table has holds of what is found
pub found_passes : {W : Type 0} (P : W → Type 0) (table : List (List ℕ × W)) (word : List ℕ) → AllByRecursion (λ e. P e.1) table → IfSome (found table word) P
found_passes P [] word h = tt
found_passes P (e ∷ es) word h = by (is_text e.0 word) (found_passes P es word h.1)
  where
    by : (b : Bool) → IfSome (found es word) P → IfSome (option_map (λ d. d.1) (cond b (Some e) (find (λ d. is_text d.0 word) es))) P
    by true rest = h.0
    by false rest = rest

-- whether a table has a word
pub is_some-found : {W : Type 0} (table : List (List ℕ × W)) (word : List ℕ) → is_some (found table word) ≡ list_any (is_text word) (map (λ e. e.0) table)
is_some-found [] word = refl
is_some-found (e ∷ es) word = by (is_text e.0 word) (is_text word e.0) (is_text_sym e.0 word) (is_some-found es word)
  where
    by : (b c : Bool) → b ≡ c → is_some (found es word) ≡ list_any (is_text word) (map (λ d. d.0) es)
        → is_some (option_map (λ d. d.1) (cond b (Some e) (find (λ d. is_text d.0 word) es))) ≡ (c || list_any (is_text word) (map (λ d. d.0) es))
    by true true h rest = refl
    by false false h rest = rest
    by true false h rest = cc
    by false true h rest = cc

-- whether something is due behind a word
pub is_some-due_behind : (table : List Due) (word : List ℕ) → is_some (due_behind word table) ≡ list_any (is_text word) (map (λ e. e.0) table)
is_some-due_behind table word = is_some-found table word
