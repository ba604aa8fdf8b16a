-- The names of a well-formed program, one by one.
use Rattle.std.proofs.Common.{◌≡◌, ℕ, zero, suc, ◌<◌, Bool, true, false, ◌||◌, cond, List, [], ◌∷◌, ◌++◌, length, get_or, map, Some, None, true≢false, refl, sym, ap, ◌∙◌, subst, arith}
use Rattle.std.specs.Prelude.{All, Contains, if◌then◌else◌}
use Rattle.std.specs.List.{cons_option, list_any}
use Rattle.std.proofs.lemmas.List.Elements.{All-head, All-tail}
use Rattle.geo_program.specs.WellFormed.{AllDiffer}
use Rattle.geo_program.specs.Words.{IsNameText, reserved_words}
use Rattle.geo_program.specs.declared.names.Name.{Name}
use Rattle.geo_program.specs.declared.names.NameKind.{NameKind}
use Rattle.geo_program.specs.Names.{is_kind, name_text, names_of}
use Rattle.geo_parser.specs.Inner.Dictionaries.{name_of}
use Rattle.geo_parser.specs.Slots.{is_reserved}
use Rattle.geo_parser.specs.Texts.{is_text}
use Rattle.geo_parser.proofs.Finding.{is_text_self, same_text}

-- a list that passes the test has the word
contains_text : (word : List ℕ) (words : List (List ℕ)) → list_any (is_text word) words ≡ true → Contains words word
contains_text word [] h = absurd (true≢false (sym h))
contains_text word (w ∷ ws) h = by (is_text word w) refl h (contains_text word ws)
  where
    by : (b : Bool) → is_text word w ≡ b → b || list_any (is_text word) ws ≡ true → (list_any (is_text word) ws ≡ true → Contains ws word) → Contains (w ∷ ws) word
    by true same h' rest = (0, omega arith, sym (same_text word w same))
    by false same h' rest = let c = rest h' in (suc c.0, omega (arith, c.1), c.2)

-- a name's text is not reserved
pub free_text : (text : List ℕ) → IsNameText text → is_reserved text ≡ false
free_text text h = by (is_reserved text) refl
  where
    by : (b : Bool) → is_reserved text ≡ b → is_reserved text ≡ false
    by true e = absurd (h.free (contains_text text reserved_words e))
    by false e = e

-- a name that is found has the word, and stands among the names
pub record IsAmong (names : List Name) (word : List ℕ) (name : Name) : Type 0 where
  pub text : name.text ≡ word
  pub among : Contains (map (λ n. n.text) names) word

among_first : (n : Name) (names : List Name) (word : List ℕ) → n.text ≡ word → Contains (map (λ m. m.text) (n ∷ names)) word
among_first n names word same = (0, omega arith, same)

among_later : (n : Name) (names : List Name) (word : List ℕ) → Contains (map (λ m. m.text) names) word → Contains (map (λ m. m.text) (n ∷ names)) word
among_later n names word c = (suc c.0, omega (arith, c.1), c.2)

pub found_among : (names : List Name) (word : List ℕ) (name : Name) → name_of names word ≡ Some name → IsAmong names word name
found_among [] word name h = cc
found_among (n ∷ names) word name h = by (is_text n.text word) refl h (found_among names word name)
  where
    by : (b : Bool) → is_text n.text word ≡ b → cond b (Some n) (name_of names word) ≡ Some name → (name_of names word ≡ Some name → IsAmong names word name) → IsAmong (n ∷ names) word name
    by true same h' rest =
        let here : n ≡ name = cc in
        let text = same_text n.text word same in
        record { text = ap (λ m. m.text) (sym here) ∙ text; among = among_first n names word text }
    by false same h' rest = let found = rest h' in record { text = found.text; among = among_later n names word found.among }

-- the word is a declared name of this kind
pub record IsKnown (names : List Name) (kind : NameKind) (word : List ℕ) : Type 0 where
  pub name : Name
  pub named : name_of names word ≡ Some name
  pub kind_is : is_kind name.kind kind ≡ true
  pub free : is_reserved word ≡ false

-- a word that is known stays so behind another name
IsKnown-later : (n : Name) (names : List Name) (kind : NameKind) (word : List ℕ) → (Contains (map (λ m. m.text) names) n.text → ⊥) → IsKnown names kind word → IsKnown (n ∷ names) kind word
IsKnown-later n names kind word new h = record { name = h.name; named = by (is_text n.text word) refl; kind_is = h.kind_is; free = h.free }
  where
    by : (b : Bool) → is_text n.text word ≡ b → name_of (n ∷ names) word ≡ Some h.name
    by true same =
        let text = same_text n.text word same in
        let among = (found_among names word h.name h.named).among in
        absurd (new (subst (Contains (map (λ m. m.text) names)) (sym text) among))
    by false same = ap (λ b. cond b (Some n) (name_of names word)) same ∙ h.named

-- the name of this kind and number is known
pub known : (kind : NameKind) (names : List Name) (k : ℕ) → All (λ n. IsNameText n.text) names → AllDiffer names → k < length (names_of kind names) → IsKnown names kind (name_text kind names k)
known kind [] k texts differ within = absurd (omega arith)
known kind (n ∷ names) k texts differ within = by (is_kind n.kind kind) refl k within (λ j lt. known kind names j (All-tail (λ m. IsNameText m.text) n names texts) differ.1 lt)
  where
    by : (b : Bool) → is_kind n.kind kind ≡ b → (k' : ℕ) → k' < length (cons_option (if b then Some n.text else None) (names_of kind names))
        → ((j : ℕ) → j < length (names_of kind names) → IsKnown names kind (name_text kind names j))
        → IsKnown (n ∷ names) kind (get_or (cons_option (if b then Some n.text else None) (names_of kind names)) k' [])
    by true same zero lt rest = record {
      name = n;
      named = ap (λ b. cond b (Some n) (name_of names n.text)) (is_text_self n.text);
      kind_is = same;
      free = free_text n.text (All-head (λ m. IsNameText m.text) n names texts);
    }
    by true same (suc j) lt rest = IsKnown-later n names kind (name_text kind names j) differ.0 (rest j (omega arith))
    by false same j lt rest = IsKnown-later n names kind (name_text kind names j) differ.0 (rest j lt)

-- a name that differs from those before it is new
pub differ_none : (before : List Name) (name : Name) (after : List Name) → AllDiffer (before ++ name ∷ after) → name_of before name.text ≡ None
differ_none [] name after differ = refl
differ_none (n ∷ before) name after differ = by (is_text n.text name.text) refl (differ_none before name after differ.1)
  where
    later : (ns : List Name) → Contains (map (λ m. m.text) (ns ++ name ∷ after)) name.text
    later [] = (0, omega arith, refl)
    later (m ∷ ns) = among_later m (ns ++ name ∷ after) name.text (later ns)

    by : (b : Bool) → is_text n.text name.text ≡ b → name_of before name.text ≡ None → cond b (Some n) (name_of before name.text) ≡ None
    by true same rest =
        let text = same_text n.text name.text same in
        absurd (differ.0 (subst (Contains (map (λ m. m.text) (before ++ name ∷ after))) (sym text) (later before)))
    by false same rest = rest
