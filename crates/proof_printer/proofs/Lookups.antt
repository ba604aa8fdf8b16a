-- Names by place.
use Rattle.std.proofs.Common.{◌≡◌, ◌≢◌, ◌⊎◌, ℕ, zero, suc, ◌+◌, ◌<◌, ◌≤◌, Bool, true, false, cond, eqb, eq-eqb, Option, Some, None, List, [], ◌∷◌, ◌++◌, length}
use Rattle.std.proofs.Common.{get_or, refl, sym, ◌∙◌, ap, subst, arith, drop, take, add-one, inl, inr, below_more, length-append, ltb}
use Rattle.std.specs.Prelude.{All, IfSome, is_some, slice_get, unwrap_or}
use Rattle.std.specs.Borrow.{Bor}
use Rattle.std.specs.Fmt.{decimal}
use Rattle.std.specs.Option.{option_map}
use Rattle.std.proofs.lemmas.Bool.{cases_eq, cases_lt, ltb-false, ltb-true}
use Rattle.std.proofs.lemmas.Bool.Decides.{nat_tests}
use Rattle.std.proofs.lemmas.List.{drop_all, get_or_append_left, get_or_past, get_or_push}
use Rattle.std.proofs.lemmas.Option.{slice_get_past, slice_get_read, unwrap_or-slice_get}
use Rattle.proof_log.specs.Writable.{HasNoLineFeed}
use Rattle.proof_printer.specs.Inner.Names.{AreFirstPlaces}
use Rattle.proof_printer.specs.Naming.{name_at, name_or_number}

-- numbers that differ
eqb-other : (m n : ℕ) → (m ≡ n → ⊥) → eqb m n ≡ false
eqb-other m n h = grind (arith, nat_tests)

-- a number that is no place has no name
pub name_at-none : (places : List ℕ) (names : List (List ℕ)) (n : ℕ) → ((j : ℕ) → j < length places → get_or places j 0 ≡ n → ⊥) → name_at places names n ≡ None
name_at-none [] names n others = refl
name_at-none (p ∷ places) [] n others = refl
name_at-none (p ∷ places) (name ∷ names) n others =
    ap (λ b. cond b (Some name) (name_at places names n)) (eqb-other p n (others 0 (omega arith)))
    ∙ name_at-none places names n (λ j lt. others (suc j) (omega arith))

-- so has a number past all places
pub name_at-past : (places : List ℕ) (names : List (List ℕ)) (n m : ℕ) → All (λ place. place < m) places → m ≤ n → name_at places names n ≡ None
name_at-past places names n m below past = name_at-none places names n (λ j lt is. omega (arith, below j 0 lt))

-- FIRST PLACES
-- where there are no names
no_name : (places : List ℕ) (n : ℕ) → name_at places [] n ≡ None
no_name [] n = refl
no_name (p ∷ places) n = refl

none_both : (b : Bool) (o r : Option (List ℕ)) → o ≡ None → r ≡ None → cond b o r ≡ None
none_both true o r h i = h
none_both false o r h i = i

-- the name of a number among those from a place on
name_at-front : (places : List ℕ) (texts : List (List ℕ)) (k n : ℕ) → k < length places
    → name_at (drop k places) (drop k texts) n ≡ cond (eqb (get_or places k 0) n) (slice_get texts k) (name_at (drop (suc k) places) (drop (suc k) texts) n)
name_at-front [] texts k n within = absurd (omega (arith, within))
name_at-front (p ∷ places) [] zero n within =
    sym (none_both (eqb p n) (slice_get [] 0) (name_at places [] n) (slice_get_past {X = List ℕ} [] 0 (omega arith)) (no_name places n))
name_at-front (p ∷ places) [] (suc k) n within =
    no_name (drop k places) n
    ∙ sym (none_both (eqb (get_or places k 0) n) (slice_get [] (suc k)) (name_at (drop (suc k) places) [] n) (slice_get_past {X = List ℕ} [] (suc k) (omega arith)) (no_name (drop (suc k) places) n))
name_at-front (p ∷ places) (t ∷ texts) zero n within = refl
name_at-front (p ∷ places) (t ∷ texts) (suc k) n within = name_at-front places texts k n (omega (arith, within))

-- of each number where it first stands from the k-th place on
pub record AreFirstFrom (places : List ℕ) (none k : ℕ) (firsts : List ℕ) : Type 0 where
  pub names : (texts : List (List ℕ)) → length texts ≤ none → (n : ℕ) → n < length firsts → slice_get texts (get_or firsts n 0) ≡ name_at (drop k places) (drop k texts) n

-- past the last place each stands nowhere
pub none_placed : (places : List ℕ) (none k : ℕ) (firsts : List ℕ) → length places ≤ k → ((n : ℕ) → n < length firsts → get_or firsts n 0 ≡ none) → AreFirstFrom places none k firsts
none_placed places none k firsts past same = record {
  names = λ texts small n below.
      ap (slice_get texts) (same n below) ∙ slice_get_past {X = List ℕ} texts none small ∙ sym (ap (λ (ps : List ℕ). name_at ps (drop k texts) n) (drop_all k places past));
}

-- one more place in front
pub placed : (places : List ℕ) (none k n : ℕ) (old new : List ℕ) → k < length places → n ≡ k + 1 → length new ≡ length old → get_or new (get_or places k 0) 0 ≡ k
    → ((i : ℕ) → i ≢ get_or places k 0 → get_or new i 0 ≡ get_or old i 0) → AreFirstFrom places none n old → AreFirstFrom places none k new
placed places none k n old new within next whole here others h = record {
  names = λ texts small m below.
      by texts small m (omega (arith, below, whole)) (cases_eq m (get_or places k 0)) ∙ sym (name_at-front places texts k m within);
}
  where
    by : (texts : List (List ℕ)) → length texts ≤ none → (m : ℕ) → m < length old → (m ≡ get_or places k 0) ⊎ (m ≡ get_or places k 0 → ⊥)
        → slice_get texts (get_or new m 0) ≡ cond (eqb (get_or places k 0) m) (slice_get texts k) (name_at (drop (suc k) places) (drop (suc k) texts) m)
    by texts small m below (inl same) =
        ap (λ (i : ℕ). slice_get texts (get_or new i 0)) same ∙ ap (slice_get texts) here
        ∙ sym (ap (λ (b : Bool). cond b (slice_get texts k) (name_at (drop (suc k) places) (drop (suc k) texts) m)) (eq-eqb (get_or places k 0) m (sym same)))
    by texts small m below (inr other) =
        ap (slice_get texts) (others m other) ∙ h.names texts small m below ∙ ap (λ (i : ℕ). name_at (drop i places) (drop i texts) m) (next ∙ add-one k)
        ∙ sym (ap (λ (b : Bool). cond b (slice_get texts k) (name_at (drop (suc k) places) (drop (suc k) texts) m)) (eqb-other (get_or places k 0) m (λ e. other (sym e))))

-- from the first place on they are the first of all
pub first_of_all : (places : List ℕ) (none k : ℕ) (firsts : List ℕ) → k ≡ 0 → AreFirstFrom places none k firsts → AreFirstPlaces places none firsts
first_of_all places none k firsts e h =
    let all : AreFirstFrom places none 0 firsts = subst (λ (i : ℕ). AreFirstFrom places none i firsts) e h in
    record { names = λ texts small n below. all.names texts small n below }

-- LINE FEEDS
-- one more byte that is none
pub no_line_feed-next : (bytes : List ℕ) (i : ℕ) → HasNoLineFeed (take i bytes) → i < length bytes → (get_or bytes i 0 ≡ 10 → ⊥) → HasNoLineFeed (take (i + 1) bytes)
no_line_feed-next [] i h lt other = absurd (omega (arith, lt))
no_line_feed-next (b ∷ bytes) zero h lt other = (other, tt)
no_line_feed-next (b ∷ bytes) (suc i) h lt other = rw (add-one (suc i)) (h.0, rw add-one at (no_line_feed-next bytes i h.1 (omega arith) other))

-- TABLES OF NAMES
-- the list has the names of the numbers below n
pub record NamedBelow (name : ℕ → List ℕ) (list : List (List ℕ)) (n : ℕ) : Type 0 where
  pub count : length list ≡ n
  pub each : (k : ℕ) → k < n → (d : List ℕ) → get_or list k d ≡ name k

pub named-more : (name : ℕ → List ℕ) (list : List (List ℕ)) (n : ℕ) → NamedBelow name list n → NamedBelow name (list ++ name n ∷ []) (n + 1)
named-more name list n h = record {
  count = omega (arith, length-append list (name n ∷ []), h.count);
  each = below_more (λ k. (d : List ℕ) → get_or (list ++ name n ∷ []) k d ≡ name k) n
      (λ k lt d. get_or_append_left list (name n ∷ []) d k (omega (arith, lt, h.count)) ∙ h.each k lt d)
      (λ d. get_or_push list (name n) d n h.count);
}

-- a table of all names, where those past it are made of the mark
pub names_are : (name : ℕ → List ℕ) (mark : List ℕ) (list : List (List ℕ)) (n : ℕ) → NamedBelow name list n → ((k : ℕ) → n ≤ k → name k ≡ mark ++ decimal k)
    → ◌≡◌ {A = ℕ → List ℕ} (λ k. unwrap_or (slice_get list k) (mark ++ decimal k)) name
names_are name mark list n h past = λ i k. each k i
  where
    each : (k : ℕ) → unwrap_or (slice_get list k) (mark ++ decimal k) ≡ name k
    each k = unwrap_or-slice_get list k (mark ++ decimal k) ∙ elim (cases_lt k n) [
      | inl lt ↦ h.each k lt (mark ++ decimal k)
      | inr le ↦ get_or_past list k (mark ++ decimal k) (omega (arith, h.count, le)) ∙ sym (past k le)
    ]

-- the names that stand at places, with a mark for all others, are past all places made of the mark
pub marked_past : (mark : List ℕ) (places : List ℕ) (names : List (List ℕ)) (m : ℕ) → All (λ place. place < m) places
    → (k : ℕ) → m ≤ k → name_or_number mark places names k ≡ mark ++ decimal k
marked_past mark places names m below k le = ap (λ o. unwrap_or o (mark ++ decimal k)) (name_at-past places names k m below le)

-- READS
-- what a look-up in a list gives
pub looked_up : {A : Type 0} (o : Option (Bor A)) (xs : List A) (k : ℕ) → is_some o ≡ ltb k (length xs) → IfSome o (λ x. x.now ≡ get_or xs k x.now)
    → option_map (λ x. x.now) o ≡ slice_get xs k
looked_up None xs k test is = sym (slice_get_past xs k (ltb-false k (length xs) (sym test)))
looked_up (Some x) xs k test is = sym (slice_get_read xs (length xs) k x.now refl (ltb-true k (length xs) (sym test)) is)
