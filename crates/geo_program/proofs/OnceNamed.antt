-- Names of a kind differ, so a name's text tells its number.
use Rattle.std.proofs.Common.{◌≡◌, ℕ, zero, suc, ◌<◌, Bool, true, false, List, [], ◌∷◌, ◌++◌, map, length, refl, sym, ap, subst, arith}
use Rattle.std.specs.Prelude.{All, Contains}
use Rattle.std.proofs.lemmas.List.{map-append}
use Rattle.std.proofs.lemmas.List.Elements.{All-cons, All-head, All-nil, All-tail, Contains-append_left, Contains-append_right}
use Rattle.geo_program.specs.declared.names.Name.{Name}
use Rattle.geo_program.specs.declared.names.NameKind.{NameKind}
use Rattle.geo_program.specs.Names.{is_kind, name_text, names_of}
use Rattle.geo_program.specs.WellFormed.{AllDiffer}

-- the texts of all names
abbrev texts_of : List Name → List (List ℕ)
texts_of names = map (λ n. n.text) names

later_contained : (name : Name) (names : List Name) (text : List ℕ) → Contains (texts_of names) text → Contains (texts_of (name ∷ names)) text
later_contained name names text found = Contains-append_right (name.text ∷ []) (texts_of names) text found

-- the text of a name of a kind is one of all
text_contained : (kind : NameKind) (names : List Name) (k : ℕ) → k < length (names_of kind names) → Contains (texts_of names) (name_text kind names k)
text_contained kind [] k within = absurd (omega arith)
text_contained kind (name ∷ names) k within = by_test (is_kind name.kind kind) refl k within (text_contained kind names)
  where
    by_test : (b : Bool) → is_kind name.kind kind ≡ b → (j : ℕ) → j < length (names_of kind (name ∷ names))
        → ((i : ℕ) → i < length (names_of kind names) → Contains (texts_of names) (name_text kind names i))
        → Contains (texts_of (name ∷ names)) (name_text kind (name ∷ names) j)
    by_test true e zero h rest = rw e (0, omega arith, refl)
    by_test true e (suc j) h rest =
        let below : suc j < suc (length (names_of kind names)) = rw e at h in
        rw e (later_contained name names (name_text kind names j) (rest j (omega arith)))
    by_test false e j h rest = rw e (later_contained name names (name_text kind names j) (rest j (rw e at h)))

-- equal texts are those of one number
pub same_number : (kind : NameKind) (names : List Name) (i j : ℕ) → AllDiffer names → i < length (names_of kind names)
    → j < length (names_of kind names) → name_text kind names i ≡ name_text kind names j → i ≡ j
same_number kind [] i j differ hi hj same = absurd (omega arith)
same_number kind (name ∷ names) i j differ hi hj same =
    by_test (is_kind name.kind kind) refl i j hi hj same (λ x y. same_number kind names x y differ.1)
  where
    by_test : (b : Bool) → is_kind name.kind kind ≡ b → (x y : ℕ) → x < length (names_of kind (name ∷ names))
        → y < length (names_of kind (name ∷ names)) → name_text kind (name ∷ names) x ≡ name_text kind (name ∷ names) y
        → ((u v : ℕ) → u < length (names_of kind names) → v < length (names_of kind names) → name_text kind names u ≡ name_text kind names v → u ≡ v) → x ≡ y
    by_test true e zero zero hx hy is rest = refl
    by_test true e zero (suc y) hx hy is rest =
        let below : suc y < suc (length (names_of kind names)) = rw e at hy in
        let text : name.text ≡ name_text kind names y = rw e at is in
        absurd (differ.0 (subst (Contains (texts_of names)) (sym text) (text_contained kind names y (omega arith))))
    by_test true e (suc x) zero hx hy is rest =
        let below : suc x < suc (length (names_of kind names)) = rw e at hx in
        let text : name_text kind names x ≡ name.text = rw e at is in
        absurd (differ.0 (subst (Contains (texts_of names)) text (text_contained kind names x (omega arith))))
    by_test true e (suc x) (suc y) hx hy is rest =
        let below_x : suc x < suc (length (names_of kind names)) = rw e at hx in
        let below_y : suc y < suc (length (names_of kind names)) = rw e at hy in
        ap suc (rest x y (omega arith) (omega arith) (rw e at is))
    by_test false e x y hx hy is rest = rest x y (rw e at hx) (rw e at hy) (rw e at is)

-- the first of names that differ
pub AllDiffer-front : (names more : List Name) → AllDiffer (names ++ more) → AllDiffer names
AllDiffer-front [] more h = tt
AllDiffer-front (name ∷ names) more h = (
  λ found. h.0 (subst (λ (texts : List (List ℕ)). Contains texts name.text) (sym (map-append (λ (n : Name). n.text) names more))
      (Contains-append_left (texts_of names) (texts_of more) name.text found)),
  AllDiffer-front names more h.1,
)

pub All-front : {A : Type 0} (P : A → Type 0) (xs ys : List A) → All P (xs ++ ys) → All P xs
All-front P [] ys h = All-nil P
All-front P (x ∷ xs) ys h = All-cons P x xs (All-head P x (xs ++ ys) h) (All-front P xs ys (All-tail P x (xs ++ ys) h))

pub All-back : {A : Type 0} (P : A → Type 0) (xs ys : List A) → All P (xs ++ ys) → All P ys
All-back P [] ys h = h
All-back P (x ∷ xs) ys h = All-back P xs ys (All-tail P x (xs ++ ys) h)
