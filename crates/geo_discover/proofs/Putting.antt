-- Lines that are put one after another.
use Rattle.std.proofs.Common.{◌≡◌, ℕ, ◌+◌, ◌<◌, ◌≤◌, inl, inr, Option, Some, None, List, [], ◌∷◌, ◌++◌, append-nil, append_assoc}
use Rattle.std.proofs.Common.{drop, length, take, refl, sym, ◌∙◌, ap, subst, arith}
use Rattle.std.specs.Prelude.{◌==◌, Err, IfErr, IsErrAnd, Ok, OnOk, Result}
use Rattle.std.specs.List.{AllByRecursion, position}
use Rattle.std.proofs.lemmas.List.{drop_at, length-append, take_at}
use Rattle.std.proofs.lemmas.List.Concat.{flat_map-append}
use Rattle.std.proofs.lemmas.Result.{err_from_is_err_and}
use Rattle.geo_base.specs.Devices.{Grows, HasRisen}
use Rattle.geo_base.proofs.DeviceLemmas.{Grows-append, Grows-nothing}
use Rattle.proof_log.specs.Writable.{HasNoLineFeed}
use Rattle.geo_chain.proofs.FirstLines.{feed_at}
use Rattle.geo_discover.specs.declared.errors.DiscoverError.{DiscoverError}
use Rattle.geo_discover.specs.declared.errors.DiscoverError.TheVariants.{Impossible, Spent, TooLarge, TooLong, WriteFault, NoMemory}
use Rattle.geo_discover.specs.Inner.Puts.{BreaksOff, IsPieceOf, IsTextCut, IsUnput, PutsLines}
use Rattle.log_checker.specs.Checkers.{with_feeds}

-- TEXTS
pub text_append : (xs ys : List (List ℕ)) → with_feeds (xs ++ ys) ≡ with_feeds xs ++ with_feeds ys
text_append xs ys = flat_map-append (λ (line : List ℕ). line ++ 10 ∷ []) xs ys

pub text_length-append : (xs ys : List (List ℕ)) → length (with_feeds (xs ++ ys)) ≡ length (with_feeds xs) + length (with_feeds ys)
text_length-append xs ys = ap length (text_append xs ys) ∙ length-append (with_feeds xs) (with_feeds ys)

pub text_one : (l : List ℕ) → with_feeds (l ∷ []) ≡ l ++ 10 ∷ []
text_one l = append-nil (l ++ 10 ∷ [])

-- WHAT IS PUT
pub puts_none : (n : ℕ) (h : Option (List ℕ)) → n ≤ 67108864 → PutsLines [] n n h h
puts_none n h fits = record { measured = omega arith; fits = fits; written = Grows-nothing h }

pub puts_both : (xs ys : List (List ℕ)) (a b d : ℕ) (h m k : Option (List ℕ)) → PutsLines xs a b h m → PutsLines ys b d m k
    → PutsLines (xs ++ ys) a d h k
puts_both xs ys a b d h m k p q = record {
  measured =
      let e = text_length-append xs ys in
      let p1 = p.measured in
      let q1 = q.measured in
      omega (arith, e, p1, q1);
  fits = q.fits;
  written = subst (λ (t : List ℕ). Grows h t k) (sym (text_append xs ys))
      (Grows-append h m k (with_feeds xs) (with_feeds ys) p.written q.written);
}

pub puts_one : (l line : List ℕ) (a b : ℕ) (h k : Option (List ℕ)) → line ≡ l ++ 10 ∷ [] → b ≡ a + length line → b ≤ 67108864
    → Grows h line k → PutsLines (l ∷ []) a b h k
puts_one l line a b h k e n fits g =
    let same : line ≡ with_feeds (l ∷ []) = e ∙ sym (text_one l) in
    record {
      measured = n ∙ ap (λ (t : List ℕ). a + length t) same;
      fits = fits;
      written = subst (λ (t : List ℕ). Grows h t k) same g;
    }

-- WHERE IT STOPS
pub rises : (a b d : ℕ) → a ≤ b → HasRisen b d → HasRisen a d
rises a b d le (inl h) = inl (omega (arith, le, h))
rises a b d le (inr h) = inr h

piece_front : (xs ys : List (List ℕ)) (a : ℕ) (h k : Option (List ℕ)) → IsPieceOf xs a h k → IsPieceOf (xs ++ ys) a h k
piece_front xs ys a h k (inl e) = inl e
piece_front xs ys a h k (inr (line, more, count, e, fits, g)) = inr (line, more ++ ys, count, ap (λ (zs : List (List ℕ)). zs ++ ys) e, fits, g)

unput_front : (xs ys : List (List ℕ)) (a : ℕ) (h k : Option (List ℕ)) (f g : ℕ) (e : DiscoverError) → IsUnput xs a h k f g e
    → IsUnput (xs ++ ys) a h k f g e
unput_front xs ys a h k f g (Impossible n) u = u
unput_front xs ys a h k f g (Spent n) u = u
unput_front xs ys a h k f g (TooLarge n which) u = u
unput_front xs ys a h k f g TooLong (line, more, e, long, same) = (line, more ++ ys, ap (λ (zs : List (List ℕ)). zs ++ ys) e, long, same)
unput_front xs ys a h k f g WriteFault u = (piece_front xs ys a h k u.0, u.1)
unput_front xs ys a h k f g NoMemory u = piece_front xs ys a h k u

-- in a longer list
pub breaks_front : (xs ys : List (List ℕ)) (a : ℕ) (h k : Option (List ℕ)) (f g : ℕ) (e : DiscoverError) → BreaksOff xs a h k f g e
    → BreaksOff (xs ++ ys) a h k f g e
breaks_front xs ys a h k f g e b = record {
  done = b.done;
  left = b.left ++ ys;
  split = ap (λ (zs : List (List ℕ)). zs ++ ys) b.split ∙ append_assoc b.done b.left ys;
  bytes = b.bytes;
  middle = b.middle;
  put = b.put;
  last = unput_front b.left ys b.bytes b.middle k f g e b.last;
}

unput_later : (xs : List (List ℕ)) (a : ℕ) (h k : Option (List ℕ)) (f g n : ℕ) (e : DiscoverError) → f ≤ g → IsUnput xs a h k g n e
    → IsUnput xs a h k f n e
unput_later xs a h k f g n (Impossible i) le u = u
unput_later xs a h k f g n (Spent i) le u = u
unput_later xs a h k f g n (TooLarge i which) le u = u
unput_later xs a h k f g n TooLong le u = u
unput_later xs a h k f g n WriteFault le u = (u.0, rises f g n le u.1)
unput_later xs a h k f g n NoMemory le u = u

-- behind lines that were put
pub breaks_behind : (xs ys : List (List ℕ)) (a b : ℕ) (h m k : Option (List ℕ)) (f g n : ℕ) (e : DiscoverError) → PutsLines xs a b h m → f ≤ g
    → BreaksOff ys b m k g n e → BreaksOff (xs ++ ys) a h k f n e
breaks_behind xs ys a b h m k f g n e p le w = record {
  done = xs ++ w.done;
  left = w.left;
  split = ap (λ (zs : List (List ℕ)). xs ++ zs) w.split ∙ sym (append_assoc xs w.done w.left);
  bytes = w.bytes;
  middle = w.middle;
  put = puts_both xs w.done a b w.bytes h m w.middle p w.put;
  last = unput_later w.left w.bytes w.middle k f g n e le w.last;
}

-- at once
pub breaks_there : (xs : List (List ℕ)) (a : ℕ) (h k : Option (List ℕ)) (f g : ℕ) (e : DiscoverError) → a ≤ 67108864
    → IsUnput xs a h k f g e → BreaksOff xs a h k f g e
breaks_there xs a h k f g e fits u = record {
  done = [];
  left = xs;
  split = refl;
  bytes = a;
  middle = h;
  put = puts_none a h fits;
  last = u;
}

pub no_memory : (xs : List (List ℕ)) (a : ℕ) (h : Option (List ℕ)) (f g : ℕ) → a ≤ 67108864 → BreaksOff xs a h h f g NoMemory
no_memory xs a h f g fits = breaks_there xs a h h f g NoMemory fits (inl refl)

-- ONE LINE
module _ (l line : List ℕ) (a : ℕ) (h k : Option (List ℕ)) (f g : ℕ) (e : line ≡ l ++ 10 ∷ []) (within : a ≤ 67108864) where
  -- it is past the limit
  pub too_long : (x : DiscoverError) → (x ≡ TooLong) × (67108864 < a + length line) → BreaksOff (l ∷ []) a h h f g x
  too_long x (is, long) =
      let n : length line ≡ length (l ++ 10 ∷ []) = ap length e in
      subst (λ (y : DiscoverError). BreaksOff (l ∷ []) a h h f g y) (sym is)
      (breaks_there (l ∷ []) a h h f g TooLong within (l, [], refl, omega (arith, n, long), refl))

  piece : (n : ℕ) → a + length line ≤ 67108864 → Grows h (take n line) k → IsPieceOf (l ∷ []) a h k
  piece n fits w =
      let m : length line ≡ length (l ++ 10 ∷ []) = ap length e in
      inr (l, [], n, refl, omega (arith, m, fits), subst (λ (t : List ℕ). Grows h (take n t) k) e w)

  -- it is not written whole
  pub cut_off : (x : DiscoverError) → a + length line ≤ 67108864 → IsTextCut line h k f g x → BreaksOff (l ∷ []) a h k f g x
  cut_off (Impossible i) fits c = absurd c
  cut_off (Spent i) fits c = absurd c
  cut_off (TooLarge i which) fits c = absurd c
  cut_off TooLong fits c = absurd c
  cut_off WriteFault fits ((n, w), r) = breaks_there (l ∷ []) a h k f g WriteFault within (piece n fits w, r)
  cut_off NoMemory fits (n, w) = breaks_there (l ∷ []) a h k f g NoMemory within (piece n fits w)

-- LINES OF A TEXT
-- some lines were put, and the text that is left is that of the others
pub record IsMidway (lines : List (List ℕ)) (rest : List ℕ) (a b : ℕ) (h k : Option (List ℕ)) : Type 0 where
  pub done : List (List ℕ)
  pub left : List (List ℕ)
  pub split : lines ≡ done ++ left
  pub rest_is : rest ≡ with_feeds left
  pub one_line : AllByRecursion HasNoLineFeed left
  pub put : PutsLines done a b h k

-- the next line, and what is left behind it
record IsNextLine (left : List (List ℕ)) (rest : List ℕ) (n : ℕ) : Type 0 where
  line : List ℕ
  later : List (List ℕ)
  split : left ≡ line ∷ later
  front : take (n + 1) rest ≡ line ++ 10 ∷ []
  behind : drop (n + 1) rest ≡ with_feeds later
  one_line : AllByRecursion HasNoLineFeed later

next_line : (left : List (List ℕ)) (rest : List ℕ) (n : ℕ) → rest ≡ with_feeds left → AllByRecursion HasNoLineFeed left
    → position (λ b. b == 10) rest ≡ Some n → IsNextLine left rest n
next_line [] rest n e h p = let q : None ≡ Some n = ap (λ (xs : List ℕ). position (λ b. b == 10) xs) (sym e) ∙ p in absurd (let f : ⊥ = cc in f)
next_line (l ∷ ls) rest n e h p =
    let own = l ++ 10 ∷ [] in
    let flat : rest ≡ l ++ 10 ∷ with_feeds ls = e ∙ append_assoc l (10 ∷ []) (with_feeds ls) in
    let q : Some (length l) ≡ Some n = sym (feed_at l (with_feeds ls) h.0) ∙ ap (λ (xs : List ℕ). position (λ b. b == 10) xs) (sym flat) ∙ p in
    let is : length l ≡ n = cc in
    let m : length own ≡ n + 1 = let k : length own ≡ length l + 1 = length-append l (10 ∷ []) in omega (arith, k, is) in
    record {
      line = l;
      later = ls;
      split = refl;
      front = ap (λ (xs : List ℕ). take (n + 1) xs) e ∙ take_at own (with_feeds ls) (n + 1) m;
      behind = ap (λ (xs : List ℕ). drop (n + 1) xs) e ∙ drop_at own (with_feeds ls) (n + 1) m;
      one_line = h.1;
    }

none_left : (left : List (List ℕ)) (rest : List ℕ) → rest ≡ with_feeds left → AllByRecursion HasNoLineFeed left
    → position (λ b. b == 10) rest ≡ None → left ≡ []
none_left [] rest e h p = refl
none_left (l ∷ ls) rest e h p =
    let flat : rest ≡ l ++ 10 ∷ with_feeds ls = e ∙ append_assoc l (10 ∷ []) (with_feeds ls) in
    let q : Some (length l) ≡ None = sym (feed_at l (with_feeds ls) h.0) ∙ ap (λ (xs : List ℕ). position (λ b. b == 10) xs) (sym flat) ∙ p in
    absurd (let f : ⊥ = cc in f)

module _ (lines : List (List ℕ)) (rest : List ℕ) (a b : ℕ) (h m : Option (List ℕ)) (w : IsMidway lines rest a b h m) where
  -- the next line is put
  pub one_more : (n d : ℕ) (k : Option (List ℕ)) → position (λ b. b == 10) rest ≡ Some n
      → ((l : List ℕ) → take (n + 1) rest ≡ l ++ 10 ∷ [] → PutsLines (l ∷ []) b d m k)
      → IsMidway lines (drop (n + 1) rest) a d h k
  one_more n d k p put =
      let x = next_line w.left rest n w.rest_is w.one_line p in
      record {
        done = w.done ++ x.line ∷ [];
        left = x.later;
        split = w.split ∙ ap (λ (zs : List (List ℕ)). w.done ++ zs) x.split ∙ sym (append_assoc w.done (x.line ∷ []) x.later);
        rest_is = x.behind;
        one_line = x.one_line;
        put = puts_both w.done (x.line ∷ []) a b d h m k w.put (put x.line x.front);
      }

  -- the next line is not put
  pub one_breaks : (n : ℕ) (k : Option (List ℕ)) (f g i : ℕ) (e : DiscoverError) → position (λ b. b == 10) rest ≡ Some n → f ≤ g
      → ((l : List ℕ) → take (n + 1) rest ≡ l ++ 10 ∷ [] → BreaksOff (l ∷ []) b m k g i e)
      → BreaksOff lines a h k f i e
  one_breaks n k f g i e p le breaks =
      let x = next_line w.left rest n w.rest_is w.one_line p in
      subst (λ (zs : List (List ℕ)). BreaksOff zs a h k f i e) (sym (w.split ∙ ap (λ (zs : List (List ℕ)). w.done ++ zs) x.split))
      (breaks_behind w.done (x.line ∷ x.later) a b h m k f g i e w.put le
      (breaks_front (x.line ∷ []) x.later b m k g i e (breaks x.line x.front)))

  -- all are put
  pub at_last : position (λ b. b == 10) rest ≡ None → PutsLines lines a b h m
  at_last p =
      let none = none_left w.left rest w.rest_is w.one_line p in
      let all : lines ≡ w.done = w.split ∙ ap (λ (zs : List (List ℕ)). w.done ++ zs) none ∙ append-nil w.done in
      subst (λ (zs : List (List ℕ)). PutsLines zs a b h m) (sym all) w.put

-- nothing is put yet
pub at_first : (lines : List (List ℕ)) (text : List ℕ) (a : ℕ) (h : Option (List ℕ)) → a ≤ 67108864 → text ≡ with_feeds lines
    → AllByRecursion HasNoLineFeed lines → IsMidway lines text a a h h
at_first lines text a h fits e one = record {
  done = [];
  left = lines;
  split = refl;
  rest_is = e;
  one_line = one;
  put = puts_none a h fits;
}

-- THE ERROR THAT `?` HANDS ON
pub if_err : {T : Type 0} (P : DiscoverError → Type 0) (r : Result T DiscoverError) (x : DiscoverError) → IsErrAnd r (λ e. e ≡ x) → P x
    → IfErr r P
if_err {T} P r x h p =
    let q = err_from_is_err_and r h in
    let Q : Result T DiscoverError → Type 0 = λ s. IfErr s P in subst Q (sym q.1) (subst P (sym q.2) p)

-- what is so is so where there is a value
pub on_ok : {T : Type 0} (P : Type 0) (r : Result T DiscoverError) → P → OnOk r P
on_ok P (Ok x) h = h
on_ok P (Err e) h = tt

-- a sum that is within the limit
pub fits_by : (n m : ℕ) → n ≡ m → n ≤ 67108864 → m ≤ 67108864
fits_by n m e le = omega (arith, e, le)
