-- The parts of an input are there, or they are not: its log, the line of names, the renaming that the names give.
use Rattle.std.proofs.Common.{◌≡◌, ℕ, zero, suc, ◌-◌, ◌<◌, ◌≤◌, ◌⊎◌, inl, inr, ⊎_elim, Bool, true, false, codes, Contains, Option, Some, None, length, take, drop, map, List, [], ◌∷◌, ◌++◌}
use Rattle.std.proofs.Common.{get_or, refl, ap, subst, arith}
use Rattle.std.specs.Prelude.{IsTrue, position, slice_index, ◌==◌}
use Rattle.std.specs.List.{prefix_len}
use Rattle.std.proofs.lemmas.Bool.{cases_lt}
use Rattle.std.proofs.lemmas.Bool.Decides.{eqb_tells}
use Rattle.std.proofs.lemmas.List.{length-drop}
use Rattle.std.proofs.lemmas.List.Elements.{All-cons, All-head, All-nil, All-tail, Contains-append_right, Contains-get_or}
use Rattle.geo_lexer.specs.Bytes.{is_letter, is_word_byte}
use Rattle.geo_lexer.specs.Lexemes.{IsWord}
use Rattle.geo_program.specs.declared.names.Name.{Name}
use Rattle.geo_program.specs.declared.names.NameKind.{NameKind}
use Rattle.geo_program.specs.declared.names.NameKind.TheVariants.{Param, Point}
use Rattle.geo_program.specs.Names.{name_text, names_of}
use Rattle.log_checker.proofs.FirstFeeds.{feed_found}
use Rattle.geo_library.specs.Inner.Names.{HasNoNames}
use Rattle.geo_library.specs.Inner.Naming.{HasNoNumbers, HasNoRenaming}
use Rattle.geo_library.specs.Inputs.{BeginsWithLog, BeginsWithNames, BeginsWithVerdict}
use Rattle.geo_library.specs.Renamings.{AreNamesOf, IsRenaming, Renaming, given_names}
use Rattle.geo_library.proofs.CuttingLogs.{Continues, begins, ends, goes_on, never_ends}
use Rattle.geo_library.proofs.ReadingNames.{AreReadSoFar, all_word_bytes, done, no_with, no_word, undone}
use Rattle.geo_library.proofs.ReadingNames as Reading

-- BYTES
pub same_byte : (a b : ℕ) → (a ≡ b) ⊎ (a ≡ b → ⊥)
same_byte a b = ⊎_elim (λ h. inl h.1) (λ h. inr h.1) (eqb_tells a b)

pub same_bytes : (xs ys : List ℕ) → (xs ≡ ys) ⊎ (xs ≡ ys → ⊥)
same_bytes [] [] = inl refl
same_bytes [] (y ∷ ys) = inr (λ e. cc)
same_bytes (x ∷ xs) [] = inr (λ e. cc)
same_bytes (x ∷ xs) (y ∷ ys) = by (same_byte x y) (same_bytes xs ys)
  where
    by : (x ≡ y) ⊎ (x ≡ y → ⊥) → (xs ≡ ys) ⊎ (xs ≡ ys → ⊥) → (x ∷ xs ≡ y ∷ ys) ⊎ (x ∷ xs ≡ y ∷ ys → ⊥)
    by (inl e) (inl f) = inl (λ i. e i ∷ f i)
    by (inl e) (inr n) = inr (λ f. let tails : xs ≡ ys = cc in n tails)
    by (inr n) d = inr (λ f. let heads : x ≡ y = cc in n heads)

-- a list of texts has this one, or not
pub has_or_not : (texts : List (List ℕ)) (text : List ℕ) → Contains texts text ⊎ (Contains texts text → ⊥)
has_or_not [] text = inr (λ h. let b : h.0 < 0 = h.1 in omega (arith, b))
has_or_not (t ∷ ts) text = by (same_bytes t text) (has_or_not ts text)
  where
    by : (t ≡ text) ⊎ (t ≡ text → ⊥) → Contains ts text ⊎ (Contains ts text → ⊥) → Contains (t ∷ ts) text ⊎ (Contains (t ∷ ts) text → ⊥)
    by (inl e) d = inl (subst (Contains (t ∷ ts)) e (Contains-get_or (t ∷ ts) 0 t (omega arith)))
    by (inr n) (inl h) = inl (Contains-append_right (t ∷ []) ts text h)
    by (inr n) (inr m) = inr (λ h. at h.0 h.1 h.2)
      where
        at : (k : ℕ) → k < length (t ∷ ts) → get_or (t ∷ ts) k text ≡ text → ⊥
        at zero h e = n e
        at (suc k) h e = m (k, omega (arith, h), e)

-- the bytes begin with this text, or not
prefix_or_not : (front bytes : List ℕ) → ((rest : List ℕ) × (bytes ≡ front ++ rest)) ⊎ ((rest : List ℕ) → bytes ≡ front ++ rest → ⊥)
prefix_or_not [] bytes = inl (bytes, refl)
prefix_or_not (x ∷ xs) [] = inr (λ rest e. cc)
prefix_or_not (x ∷ xs) (b ∷ bs) = by (same_byte b x) (prefix_or_not xs bs)
  where
    by : (b ≡ x) ⊎ (b ≡ x → ⊥) → ((rest : List ℕ) × (bs ≡ xs ++ rest)) ⊎ ((rest : List ℕ) → bs ≡ xs ++ rest → ⊥)
        → ((rest : List ℕ) × (b ∷ bs ≡ (x ∷ xs) ++ rest)) ⊎ ((rest : List ℕ) → b ∷ bs ≡ (x ∷ xs) ++ rest → ⊥)
    by (inl e) (inl (rest, f)) = inl (rest, λ i. e i ∷ f i)
    by (inl e) (inr n) = inr (λ rest f. let tails : bs ≡ xs ++ rest = cc in n rest tails)
    by (inr n) d = inr (λ rest f. let heads : b ≡ x = cc in n heads)

-- THE LOG
abbrev pub SomeLog : List ℕ → Type 0
SomeLog bytes = (log : List ℕ) × (rest : List ℕ) × BeginsWithLog bytes log rest

-- up to the next line feed, and on behind it
module _ (bytes rest : List ℕ) (k : Continues bytes rest) (on : (r : List ℕ) → length r < length rest → Continues bytes r → SomeLog bytes) where
  line_cut : (at : ℕ) → position (λ b. b == 10) rest ≡ Some at
      → BeginsWithVerdict (take at rest) ⊎ ((r : List ℕ) → take at rest ≡ codes "verdict " ++ r → ⊥) → SomeLog bytes
  line_cut at e (inl v) = let s = ends bytes rest at k e v in (s.log, drop (suc at) rest, s.begins)
  line_cut at e (inr n) =
      let within = (feed_found rest at e).1 in
      let size : length (drop (suc at) rest) ≡ length rest - suc at = length-drop (suc at) rest in
      on (drop (suc at) rest) (omega (arith, within, size)) (goes_on bytes rest at k e (λ v. n v.0 v.1))

  next_cut : (o : Option ℕ) → position (λ b. b == 10) rest ≡ o → SomeLog bytes
  next_cut None e = let s = never_ends bytes rest k e in (s.log, [], s.begins)
  next_cut (Some at) e = line_cut at e (prefix_or_not (codes "verdict ") (take at rest))

cut_from : (fuel : ℕ) (bytes rest : List ℕ) → length rest ≤ fuel → Continues bytes rest → SomeLog bytes
cut_from zero bytes rest few k = next_cut bytes rest k (λ r less c. absurd (omega (arith, few, less))) (position (λ b. b == 10) rest) refl
cut_from (suc fuel) bytes rest few k =
    next_cut bytes rest k (λ r less c. cut_from fuel bytes r (omega (arith, few, less)) c) (position (λ b. b == 10) rest) refl

pub some_log : (bytes : List ℕ) → SomeLog bytes
some_log bytes = cut_from (length bytes) bytes bytes (omega arith) (begins bytes)

-- THE NAMES
abbrev pub NamesOrNone : List ℕ → Type 0
NamesOrNone rest = ((texts : List (List ℕ)) × (written : List ℕ) × BeginsWithNames rest texts written) ⊎ HasNoNames rest

true_or_not : (b : Bool) → IsTrue b ⊎ (IsTrue b → ⊥)
true_or_not true = inl refl
true_or_not false = inr (λ e. let q : false ≡ true = e in cc)

-- the bytes of words that stand next are a word, or not
word_or_not : (next : List ℕ) → IsWord (take (prefix_len is_word_byte next) next) ⊎ (IsWord (take (prefix_len is_word_byte next) next) → ⊥)
word_or_not next = by (true_or_not (is_letter (slice_index word 0))) (cases_lt 64 (length word))
  where
    word : List ℕ
    word = take (prefix_len is_word_byte next) next

    by : IsTrue (is_letter (slice_index word 0)) ⊎ (IsTrue (is_letter (slice_index word 0)) → ⊥) → (64 < length word) ⊎ (length word ≤ 64) → IsWord word ⊎ (IsWord word → ⊥)
    by (inl first) (inr short) = inl (record { first = first; all = all_word_bytes next; short = short })
    by (inl first) (inl long) = inr (λ w. let short = w.short in omega (arith, long, short))
    by (inr n) d = inr (λ w. n w.first)

names_from : (fuel : ℕ) (rest : List ℕ) (texts : List (List ℕ)) (left : List ℕ) → length left ≤ fuel → AreReadSoFar rest texts left → NamesOrNone rest
names_from fuel rest texts [] few k = inr (undone rest texts [] k (λ more e. cc) (λ more e. cc))
names_from zero rest texts (b ∷ next) few k = absurd (omega (arith, few))
names_from (suc fuel) rest texts (b ∷ next) few k =
    by (same_byte b 32) (same_byte b 10) (word_or_not next)
    (λ h.
    let size : length (drop (prefix_len is_word_byte next) next) ≡ length next - prefix_len is_word_byte next = length-drop (prefix_len is_word_byte next) next in
    names_from fuel rest (texts ++ take (prefix_len is_word_byte next) next ∷ []) (drop (prefix_len is_word_byte next) next) (omega (arith, few, size)) h)
  where
    by : (b ≡ 32) ⊎ (b ≡ 32 → ⊥) → (b ≡ 10) ⊎ (b ≡ 10 → ⊥)
        → IsWord (take (prefix_len is_word_byte next) next) ⊎ (IsWord (take (prefix_len is_word_byte next) next) → ⊥)
        → (AreReadSoFar rest (texts ++ take (prefix_len is_word_byte next) next ∷ []) (drop (prefix_len is_word_byte next) next) → NamesOrNone rest) → NamesOrNone rest
    by (inl e) d (inl w) on = on (Reading.goes_on rest texts (b ∷ next) next k (ap (λ (c : ℕ). c ∷ next) e) w)
    by (inl e) d (inr n) on = inr (no_word rest texts (b ∷ next) next k (ap (λ (c : ℕ). c ∷ next) e) n)
    by (inr n) (inl e) d on = inl (texts, next, done rest texts (b ∷ next) k next (ap (λ (c : ℕ). c ∷ next) e))
    by (inr n) (inr m) d on =
        inr (undone rest texts (b ∷ next) k (λ more e. let heads : b ≡ 32 = cc in n heads) (λ more e. let heads : b ≡ 10 = cc in m heads))

pub names_or_none : (rest : List ℕ) → NamesOrNone rest
names_or_none rest = by (prefix_or_not (codes "with") rest)
  where
    by : ((left : List ℕ) × (rest ≡ codes "with" ++ left)) ⊎ ((left : List ℕ) → rest ≡ codes "with" ++ left → ⊥) → NamesOrNone rest
    by (inl (left, e)) = names_from (length left) rest [] left (omega arith) (Reading.begins rest left e)
    by (inr n) = inr (no_with rest n)

-- THE RENAMING
module _ (kind : NameKind) (names : List Name) where
  abbrev IsNumberOf : List ℕ → ℕ → Type 0
  IsNumberOf text n = (n < length (names_of kind names)) × (name_text kind names n ≡ text)

  -- a name below the number k has the text, or none has
  number_below : (text : List ℕ) (k : ℕ) → k ≤ length (names_of kind names)
      → ((n : ℕ) × IsNumberOf text n) ⊎ ((n : ℕ) → n < k → name_text kind names n ≡ text → ⊥)
  number_below text zero up = inr (λ n b e. omega (arith, b))
  number_below text (suc k) up = by (same_bytes (name_text kind names k) text) (number_below text k (omega (arith, up)))
    where
      by : (name_text kind names k ≡ text) ⊎ (name_text kind names k ≡ text → ⊥)
          → ((n : ℕ) × IsNumberOf text n) ⊎ ((n : ℕ) → n < k → name_text kind names n ≡ text → ⊥)
          → ((n : ℕ) × IsNumberOf text n) ⊎ ((n : ℕ) → n < suc k → name_text kind names n ≡ text → ⊥)
      by (inl e) d = inl (k, (omega (arith, up), e))
      by (inr n) (inl h) = inl h
      by (inr n) (inr none) =
          inr (λ m b e. ⊎_elim (λ (l : m < k). none m l e) (λ (l : k ≤ m). let same : m ≡ k = omega (arith, b, l) in n (subst (λ (i : ℕ). name_text kind names i ≡ text) same e)) (cases_lt m k))

  numbers_or_none : (texts : List (List ℕ)) → ((numbers : List ℕ) × AreNamesOf kind names texts numbers) ⊎ HasNoNumbers kind names texts
  numbers_or_none [] = inl ([], record { declared = All-nil (λ (a : ℕ). a < length (names_of kind names)); named = refl })
  numbers_or_none (t ∷ ts) = by (number_below t (length (names_of kind names)) (omega arith)) (numbers_or_none ts)
    where
      no_first : ((n : ℕ) → n < length (names_of kind names) → name_text kind names n ≡ t → ⊥) → (numbers : List ℕ) → AreNamesOf kind names (t ∷ ts) numbers → ⊥
      no_first none [] h = let e : ◌≡◌ {A = List (List ℕ)} [] (t ∷ ts) = h.named in cc
      no_first none (n ∷ ns) h =
          let e : ◌≡◌ {A = List (List ℕ)} (name_text kind names n ∷ map (name_text kind names) ns) (t ∷ ts) = h.named in
          let heads : name_text kind names n ≡ t = cc in
          none n (All-head (λ (a : ℕ). a < length (names_of kind names)) n ns h.declared) heads

      no_others : HasNoNumbers kind names ts → (numbers : List ℕ) → AreNamesOf kind names (t ∷ ts) numbers → ⊥
      no_others none [] h = let e : ◌≡◌ {A = List (List ℕ)} [] (t ∷ ts) = h.named in cc
      no_others none (n ∷ ns) h =
          let e : ◌≡◌ {A = List (List ℕ)} (name_text kind names n ∷ map (name_text kind names) ns) (t ∷ ts) = h.named in
          let tails : map (name_text kind names) ns ≡ ts = cc in
          none ns (record { declared = All-tail (λ (a : ℕ). a < length (names_of kind names)) n ns h.declared; named = tails })

      by : ((n : ℕ) × IsNumberOf t n) ⊎ ((n : ℕ) → n < length (names_of kind names) → name_text kind names n ≡ t → ⊥)
          → ((numbers : List ℕ) × AreNamesOf kind names ts numbers) ⊎ HasNoNumbers kind names ts
          → ((numbers : List ℕ) × AreNamesOf kind names (t ∷ ts) numbers) ⊎ HasNoNumbers kind names (t ∷ ts)
      by (inl (n, is)) (inl (ns, h)) =
          inl (n ∷ ns, record { declared = All-cons (λ (a : ℕ). a < length (names_of kind names)) n ns is.0 h.declared; named = λ i. is.1 i ∷ h.named i })
      by (inl h) (inr none) = inr (no_others none)
      by (inr none) d = inr (no_first none)

pub renaming_or_none : (cited citing : List Name) (texts : List (List ℕ)) → ((r : Renaming) × IsRenaming cited citing texts r) ⊎ HasNoRenaming cited citing texts
renaming_or_none cited citing texts =
    by (same_byte (length texts) (length cited)) (numbers_or_none Point citing (names_of Point (given_names cited texts)))
    (numbers_or_none Param citing (names_of Param (given_names cited texts)))
  where
    by : (length texts ≡ length cited) ⊎ (length texts ≡ length cited → ⊥)
        → ((numbers : List ℕ) × AreNamesOf Point citing (names_of Point (given_names cited texts)) numbers) ⊎ HasNoNumbers Point citing (names_of Point (given_names cited texts))
        → ((numbers : List ℕ) × AreNamesOf Param citing (names_of Param (given_names cited texts)) numbers) ⊎ HasNoNumbers Param citing (names_of Param (given_names cited texts))
        → ((r : Renaming) × IsRenaming cited citing texts r) ⊎ HasNoRenaming cited citing texts
    by (inl e) (inl (ns, h)) (inl (ms, k)) = inl (record { points = ns; params = ms }, record { counted = e; points = h; params = k })
    by (inl e) (inl h) (inr none) = inr (λ r is. none r.params is.params)
    by (inl e) (inr none) d = inr (λ r is. none r.points is.points)
    by (inr n) c d = inr (λ r is. n is.counted)
