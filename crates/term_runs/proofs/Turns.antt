-- The turns of a sum of two runs, in the place of the second.
use Rattle.std.proofs.Common.{◌≡◌, ◌≢◌, ℕ, zero, suc, ◌+◌, ◌-◌, ◌<◌, ◌≤◌, Bool, true, false, ℤ, pos, ◌+ℤ◌, List, [], ◌∷◌, ◌++◌, inl, inr}
use Rattle.std.proofs.Common.{length, get_or, map, take, drop, set, refl, sym, ap, subst, ◌∙◌, unsigned_abs, arith}
use Rattle.std.specs.Ordering.{MatchOrdering, flip_args, nat_cmp}
use Rattle.std.specs.declared.cmp.Ordering.{Ordering}
use Rattle.std.specs.declared.cmp.Ordering.TheVariants.{Less, Equal, Greater}
use Rattle.std.proofs.lemmas.Cmp.{ranked}
use Rattle.std.proofs.lemmas.List.{append-nil, drop-drop, drop-map, drop-set-lt, drop_all, drop_more, get_or-drop, get_or-map, length-drop, length-map}
use Rattle.std.proofs.lemmas.List.{map-append, map_push, take-set, take_more_set}
use Rattle.sparse_lists.proofs.Merging.{IsCanonical-at, kept_cancel, kept_equal, kept_greater, kept_less, rest_left, rest_right}
use Rattle.sparse_lists.proofs.NaturalAmounts.{natural_order}
use Rattle.sparse_lists.specs.Coefficients.{coefficients, Pairs}
use Rattle.sparse_lists.proofs.Coefficients.{coefficients_add, zero_is}
use Rattle.term_runs.specs.Inner.{CountsAs, IsTurn}
use Rattle.term_runs.specs.Runs.{IsRun, norm_of, run_of}
use Rattle.term_runs.proofs.Order.{coefficient-le, falling}

-- WHAT IS WRITTEN
-- the term behind the others, where it counts
abbrev pub with_term : Pairs → ℕ × ℤ → ℕ → Pairs
with_term out p zero = out
with_term out p (suc n) = out ++ p ∷ []

pub written : {X : Type 0} (f : X → ℕ × ℤ) (room : List X) (k n : ℕ) (x : X) → k < length room → CountsAs (f x).1 n
    → map f (take (k + n) (set room k x)) ≡ with_term (map f (take k room)) (f x) n
written f room k n x h (inl (none, e)) =
    let same : k + n ≡ k = omega arith in
    ap (λ m. map f (take m (set room k x))) same ∙ ap (map f) (take-set room k x) ∙ ap (with_term (map f (take k room)) (f x)) (sym e)
written f room k n x h (inr (some, e)) =
    ap (λ m. map f (take (k + m) (set room k x))) e ∙ ap (map f) (take_more_set room k x h) ∙ map_push f (take k room) x
    ∙ ap (with_term (map f (take k room)) (f x)) (sym e)

-- WHAT IS NOT READ YET
pub unread_more : {X : Type 0} (room old : List X) (n m : ℕ) → n ≤ m → drop n room ≡ drop n old → drop m room ≡ drop m old
unread_more room old n m h e =
    let is : n + (m - n) ≡ m = omega arith in
    ap (λ a. drop a room) (sym is) ∙ sym (drop-drop (m - n) n room) ∙ ap (drop (m - n)) e ∙ drop-drop (m - n) n old ∙ ap (λ a. drop a old) is

pub unread_past : {X : Type 0} (room old : List X) (k n m : ℕ) (x : X) → k < m → n ≤ m → drop n room ≡ drop n old → drop m (set room k x) ≡ drop m old
unread_past room old k n m x below h e = drop-set-lt m room k x below ∙ unread_more room old n m h e

pub read_right : {X : Type 0} (f : X → ℕ × ℤ) (room old : List X) (gap j : ℕ) (u : X) → gap + j < length room → length room ≡ length old
    → drop (gap + j) room ≡ drop (gap + j) old → u ≡ get_or room (gap + j) u → f u ≡ get_or (map f (drop gap old)) j (f u)
read_right f room old gap j u within same unread is =
    let there : gap + j < length old = omega arith in
    let right : j < length (drop gap old) = omega (arith, length-drop gap old) in
    let heads : get_or room (gap + j) u ≡ get_or old (gap + j) u =
    ap (λ (l : List _). get_or l 0 u) (sym (drop_more room (gap + j) u within) ∙ unread ∙ drop_more old (gap + j) u there) in
    sym (get_or-map f (drop gap old) j u (f u) right ∙ ap f (get_or-drop gap old j u ∙ sym heads ∙ sym is))

pub read_left : {X : Type 0} (f : X → ℕ × ℤ) (left : List X) (i : ℕ) (t : X) → i < length left → t ≡ get_or left i t → f t ≡ get_or (map f left) i (f t)
read_left f left i t within is = sym (get_or-map f left i t (f t) within ∙ ap f (sym is))

-- A TURN
pub record Steps (left right n : ℕ) : Type 0 where
  pub left_one : left ≤ 1
  pub right_one : right ≤ 1
  pub some : 1 ≤ left + right
  pub count_one : n ≤ 1

counts_one : (c : ℤ) (n : ℕ) → CountsAs c n → n ≤ 1
counts_one c n (inl h) = omega (arith, h.1)
counts_one c n (inr h) = omega (arith, h.1)

pub steps_of : (t u p : ℕ × ℤ) (left right n : ℕ) → IsTurn t u p left right → CountsAs p.1 n → Steps left right n
steps_of t u p left right n turn counts = go (nat_cmp t.0 u.0) (ranked t.0 u.0 (nat_cmp t.0 u.0) refl)
  where
    go : (o : Ordering) → MatchOrdering o (t.0 < u.0) (t.0 ≡ u.0) (u.0 < t.0) → Steps left right n
    go Less h = let r = turn.right_first h in
        record { left_one = omega (arith, r.1); right_one = omega (arith, r.2); some = omega (arith, r.1, r.2); count_one = counts_one p.1 n counts }
    go Equal h = let r = turn.both h in
        record { left_one = omega (arith, r.1); right_one = omega (arith, r.2); some = omega (arith, r.1, r.2); count_one = counts_one p.1 n counts }
    go Greater h = let r = turn.left_first h in
        record { left_one = omega (arith, r.1); right_one = omega (arith, r.2); some = omega (arith, r.1, r.2); count_one = counts_one p.1 n counts }

not_both : {P : Type 0} (b : Bool) → b ≡ true → b ≡ false → P
not_both b p q = let e : true ≡ false = sym p ∙ q in cc

-- a coefficient that is not 0 counts
counted : (c : ℤ) (n : ℕ) → coefficients.is_zero c ≡ false → CountsAs c n → n ≡ 1
counted c n some (inl h) = not_both (coefficients.is_zero c) (ap coefficients.is_zero h.0) some
counted c n some (inr h) = h.1

pub nonzero : (c : ℤ) → c ≢ pos 0 → coefficients.is_zero c ≡ false
nonzero c some = go (coefficients.is_zero c) refl
  where
    go : (b : Bool) → coefficients.is_zero c ≡ b → b ≡ false
    go true e = absurd (some (zero_is c e))
    go false e = refl

module _ (ls rs : Pairs) (left : IsRun ls) (right : IsRun rs) (i j : ℕ) (t u : ℕ × ℤ) (left_in : i < length ls) (right_in : j < length rs)
    (t-is : t ≡ get_or ls i t) (u-is : u ≡ get_or rs j u) where
  -- what may be added up fits
  pub sum_fits : (size : ℕ) → norm_of ls + norm_of rs < size → unsigned_abs t.1 + unsigned_abs u.1 < size
  sum_fits size fits = omega (arith, coefficient-le ls i t left_in t-is, coefficient-le rs j u right_in u-is)

  module _ (out goal : Pairs) (p : ℕ × ℤ) (dl dr n : ℕ) (turn : IsTurn t u p dl dr) (counts : CountsAs p.1 n)
      (kept : out ++ run_of (drop i ls ++ drop j rs) ≡ goal) where
    -- what is written, and the sum of what is left
    parts : ℕ × ℤ → ℕ → ℕ → ℕ → Pairs
    parts q m a b = with_term out q m ++ run_of (drop a ls ++ drop b rs)

    alike : (q : ℕ × ℤ) (m a b : ℕ) → p ≡ q → n ≡ m → i + dl ≡ a → j + dr ≡ b → parts p n (i + dl) (j + dr) ≡ parts q m a b
    unfolding parts
    alike q m a b p-is n-is a-is b-is =
        ap (λ (x : ℕ × ℤ). parts x n (i + dl) (j + dr)) p-is ∙ ap (λ (x : ℕ). parts q x (i + dl) (j + dr)) n-is
        ∙ ap (λ (x : ℕ). parts q m x (j + dr)) a-is ∙ ap (λ (x : ℕ). parts q m a x) b-is

    t-some : coefficients.is_zero t.1 ≡ false
    t-some = (IsCanonical-at (flip_args nat_cmp) coefficients falling coefficients_add ls i t left_in t-is left).0

    u-some : coefficients.is_zero u.1 ≡ false
    u-some = (IsCanonical-at (flip_args nat_cmp) coefficients falling coefficients_add rs j u right_in u-is right).0

    from_left : u.0 < t.0 → nat_cmp t.0 u.0 ≡ Greater → parts p n (i + dl) (j + dr) ≡ goal
    unfolding parts
    from_left h e =
        let r = turn.left_first h in
        let n-is : n ≡ 1 = counted p.1 n (subst (λ (q : ℕ × ℤ). coefficients.is_zero q.1 ≡ false) (sym r.0) t-some) counts in
        let a-is : i + dl ≡ i + 1 = omega (arith, r.1) in
        let b-is : j + dr ≡ j = omega (arith, r.2) in
        alike t 1 (i + 1) j r.0 n-is a-is b-is
        ∙ kept_less (flip_args nat_cmp) coefficients falling coefficients_add ls rs i j t u left_in right_in t-is u-is left right out goal
        (natural_order.flip_back t.0 u.0 e) kept

    from_right : t.0 < u.0 → nat_cmp t.0 u.0 ≡ Less → parts p n (i + dl) (j + dr) ≡ goal
    unfolding parts
    from_right h e =
        let r = turn.right_first h in
        let n-is : n ≡ 1 = counted p.1 n (subst (λ (q : ℕ × ℤ). coefficients.is_zero q.1 ≡ false) (sym r.0) u-some) counts in
        let a-is : i + dl ≡ i = omega (arith, r.1) in
        let b-is : j + dr ≡ j + 1 = omega (arith, r.2) in
        alike u 1 i (j + 1) r.0 n-is a-is b-is
        ∙ kept_greater (flip_args nat_cmp) coefficients falling coefficients_add ls rs i j t u left_in right_in t-is u-is left right out goal
        (natural_order.flip t.0 u.0 e) kept

    from_both : t.0 ≡ u.0 → CountsAs p.1 n → parts p n (i + dl) (j + dr) ≡ goal
    unfolding parts
    from_both h (inl (none, n-is)) =
        let r = turn.both h in
        let e : nat_cmp u.0 t.0 ≡ Equal = ap (nat_cmp u.0) h ∙ natural_order.self u.0 in
        let a-is : i + dl ≡ i + 1 = omega (arith, r.1) in
        let b-is : j + dr ≡ j + 1 = omega (arith, r.2) in
        let gone : coefficients.is_zero (t.1 +ℤ u.1) ≡ true = ap (λ (q : ℕ × ℤ). coefficients.is_zero q.1) (sym r.0) ∙ ap coefficients.is_zero none in
        alike p 0 (i + 1) (j + 1) refl n-is a-is b-is
        ∙ kept_cancel (flip_args nat_cmp) coefficients falling coefficients_add ls rs i j t u left_in right_in t-is u-is left right out goal e gone kept
    from_both h (inr (some, n-is)) =
        let r = turn.both h in
        let e : nat_cmp u.0 t.0 ≡ Equal = ap (nat_cmp u.0) h ∙ natural_order.self u.0 in
        let a-is : i + dl ≡ i + 1 = omega (arith, r.1) in
        let b-is : j + dr ≡ j + 1 = omega (arith, r.2) in
        let there : coefficients.is_zero (t.1 +ℤ u.1) ≡ false =
        ap (λ (q : ℕ × ℤ). coefficients.is_zero q.1) (sym r.0) ∙ nonzero p.1 some in
        alike (t.0, t.1 +ℤ u.1) 1 (i + 1) (j + 1) r.0 n-is a-is b-is
        ∙ kept_equal (flip_args nat_cmp) coefficients falling coefficients_add ls rs i j t u left_in right_in t-is u-is left right out goal e there kept

    pub turned : with_term out p n ++ run_of (drop (i + dl) ls ++ drop (j + dr) rs) ≡ goal
    unfolding parts
    turned = go (nat_cmp t.0 u.0) refl (ranked t.0 u.0 (nat_cmp t.0 u.0) refl)
      where
        go : (o : Ordering) → nat_cmp t.0 u.0 ≡ o → MatchOrdering o (t.0 < u.0) (t.0 ≡ u.0) (u.0 < t.0) → parts p n (i + dl) (j + dr) ≡ goal
        go Less e h = from_right h e
        go Equal e h = from_both h counts
        go Greater e h = from_left h e

-- IN THE ROOM
module _ {X : Type 0} (f : X → ℕ × ℤ) (left room old : List X) (i j k : ℕ) (t u : X) (left_in : i < length left) (right_in : length left + j < length room)
    (same : length room ≡ length old) (unread : drop (length left + j) room ≡ drop (length left + j) old) (t-is : t ≡ get_or left i t)
    (u-is : u ≡ get_or room (length left + j) u) (left_run : IsRun (map f left)) (right_run : IsRun (map f (drop (length left) old))) where
  abbrev ls : Pairs
  ls = map f left

  abbrev rs : Pairs
  rs = map f (drop (length left) old)

  ls_in : i < length ls
  ls_in = omega (arith, length-map left f)

  rs_in : j < length rs
  rs_in = omega (arith, length-map (drop (length left) old) f, length-drop (length left) old)

  ts : f t ≡ get_or ls i (f t)
  ts = read_left f left i t left_in t-is

  us : f u ≡ get_or rs j (f u)
  us = read_right f room old (length left) j u right_in same unread u-is

  pub room_fits : (size : ℕ) → norm_of ls + norm_of rs < size → unsigned_abs (f t).1 + unsigned_abs (f u).1 < size
  room_fits size fits = sum_fits ls rs left_run right_run i j (f t) (f u) ls_in rs_in ts us size fits

  module _ (x : X) (dl dr n : ℕ) (turn : IsTurn (f t) (f u) (f x) dl dr) (counts : CountsAs (f x).1 n) (few : k ≤ i + j) where
    pub room_steps : Steps dl dr n
    room_steps = steps_of (f t) (f u) (f x) dl dr n turn counts

    pub room_unread : drop (length left + (j + dr)) (set room k x) ≡ drop (length left + (j + dr)) old
    room_unread = unread_past room old k (length left + j) (length left + (j + dr)) x (omega arith) (omega arith) unread

    pub room_turned : (goal : Pairs) → map f (take k room) ++ run_of (drop i ls ++ drop j rs) ≡ goal
        → map f (take (k + n) (set room k x)) ++ run_of (drop (i + dl) ls ++ drop (j + dr) rs) ≡ goal
    room_turned goal kept =
        ap (λ (ps : Pairs). ps ++ run_of (drop (i + dl) ls ++ drop (j + dr) rs)) (written f room k n x (omega arith) counts)
        ∙ turned ls rs left_run right_run i j (f t) (f u) ls_in rs_in ts us (map f (take k room)) goal (f x) dl dr n turn counts kept

-- THE REST
module _ {X : Type 0} (f : X → ℕ × ℤ) (left old : List X) (i j : ℕ) (left_run : IsRun (map f left)) (right_run : IsRun (map f (drop (length left) old))) (goal : Pairs) where
  -- of the left run, where the right one has run out
  pub left_rest : (out : List X) → length old ≤ length left + j
      → map f out ++ run_of (drop i (map f left) ++ drop j (map f (drop (length left) old))) ≡ goal → map f (out ++ drop i left) ≡ goal
  left_rest out past kept =
      let none : length (map f (drop (length left) old)) ≤ j = omega (arith, length-map (drop (length left) old) f, length-drop (length left) old) in
      map-append f out (drop i left) ∙ ap (λ (ps : Pairs). map f out ++ ps)
      (sym (drop-map f i left) ∙ sym (append-nil (drop i (map f left)))
      ∙ ap (λ (ps : Pairs). drop i (map f left) ++ ps) (sym (drop_all j (map f (drop (length left) old)) none))
      ∙ sym (rest_left (flip_args nat_cmp) coefficients falling coefficients_add (map f left) (map f (drop (length left) old)) i j left_run none)) ∙ kept

  -- of the right run, where the left one has run out
  pub right_rest : (out : List X) → length left ≤ i
      → map f out ++ run_of (drop i (map f left) ++ drop j (map f (drop (length left) old))) ≡ goal → map f (out ++ drop (length left + j) old) ≡ goal
  right_rest out past kept =
      let none : length (map f left) ≤ i = omega (arith, length-map left f) in
      map-append f out (drop (length left + j) old) ∙ ap (λ (ps : Pairs). map f out ++ ps)
      (ap (map f) (sym (drop-drop j (length left) old)) ∙ sym (drop-map f j (drop (length left) old))
      ∙ ap (λ (ps : Pairs). ps ++ drop j (map f (drop (length left) old))) (sym (drop_all i (map f left) none))
      ∙ sym (rest_right (flip_args nat_cmp) coefficients falling coefficients_add (map f left) (map f (drop (length left) old)) i j right_run none)) ∙ kept
