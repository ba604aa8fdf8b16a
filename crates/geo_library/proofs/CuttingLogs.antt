-- The log of an input is cut off line by line.
use Rattle.std.proofs.Common.{◌≡◌, ℕ, zero, suc, ◌-◌, ◌+◌, ◌<◌, inl, inr, length, take, drop, List, [], ◌∷◌, ◌++◌, refl, sym, ◌∙◌, ap, subst, append_assoc, append-nil, length-append, ap₂, ◌≤◌, arith}
use Rattle.std.specs.List.{AllByRecursion}
use Rattle.std.specs.Prelude.{All, position, Some, None, ◌==◌}
use Rattle.std.proofs.lemmas.List.{take_rest}
use Rattle.std.proofs.lemmas.List.Elements.{All-from_recursion, recursion_from_All}
use Rattle.proof_log.specs.Writable.{HasNoLineFeed}
use Rattle.log_checker.proofs.FirstFeeds.{feed_absent, feed_found}
use Rattle.geo_library.specs.Inputs.{BeginsWithLog, BeginsWithVerdict, EndsAtVerdict, HasNoVerdict}
use Rattle.log_checker.specs.Checkers.{with_feeds}
use Rattle.geo_library.specs.Inner.Names.{BeginsWithSome}
use Rattle.geo_library.proofs.Cutting.{first_line, one_line}

-- behind a line that does not end the log it goes on
skip : (line more : List ℕ) → HasNoLineFeed line → (BeginsWithVerdict line → ⊥) → (log rest : List ℕ) → BeginsWithLog more log rest → BeginsWithLog (line ++ 10 ∷ more) (line ++ 10 ∷ log) rest
skip line more one other log rest (inl a) = inl (record {
  lines = line ∷ a.lines;
  last = a.last;
  one_line = All-from_recursion HasNoLineFeed (line ∷ a.lines ++ a.last ∷ []) (one, recursion_from_All HasNoLineFeed (a.lines ++ a.last ∷ []) a.one_line);
  before = All-from_recursion (λ (l : List ℕ). BeginsWithVerdict l → ⊥) (line ∷ a.lines) (other, recursion_from_All (λ (l : List ℕ). BeginsWithVerdict l → ⊥) a.lines a.before);
  verdict = a.verdict;
  written = ap (λ (l : List ℕ). line ++ 10 ∷ l) a.written ∙ sym (append_assoc line (10 ∷ []) (with_feeds (a.lines ++ a.last ∷ [])));
  split = ap (λ (l : List ℕ). line ++ 10 ∷ l) a.split ∙ sym (append_assoc line (10 ∷ log) rest);
})
skip line more one other log rest (inr a) = inr (record {
  none = λ x y e. by x y e.lines e.last (recursion_from_All HasNoLineFeed (e.lines ++ e.last ∷ []) e.one_line) (recursion_from_All (λ (l : List ℕ). BeginsWithVerdict l → ⊥) e.lines e.before) e.verdict
      (e.split ∙ ap (λ (l : List ℕ). l ++ y) e.written);
  whole = ap (λ (l : List ℕ). line ++ 10 ∷ l) a.whole;
  nothing = a.nothing;
})
  where
    by : (x y : List ℕ) (lines : List (List ℕ)) (last : List ℕ) → AllByRecursion HasNoLineFeed (lines ++ last ∷ []) → AllByRecursion (λ l. BeginsWithVerdict l → ⊥) lines → BeginsWithVerdict last
        → line ++ 10 ∷ more ≡ with_feeds (lines ++ last ∷ []) ++ y → ⊥
    by x y [] last h k v e = let r = one_line line last more y one h.0 (e ∙ first_line last [] y) in other (subst BeginsWithVerdict (sym r.0) v)
    by x y (l ∷ ls) last h k v e =
        let r = one_line line l more (with_feeds (ls ++ last ∷ []) ++ y) one h.0 (e ∙ first_line l (ls ++ last ∷ []) y) in
        a.none (with_feeds (ls ++ last ∷ [])) y (record {
          lines = ls;
          last = last;
          one_line = All-from_recursion HasNoLineFeed (ls ++ last ∷ []) h.1;
          before = All-from_recursion (λ (l : List ℕ). BeginsWithVerdict l → ⊥) ls k.1;
          verdict = v;
          written = refl;
          split = r.1;
        })

-- a line that ends it
found_here : (line more : List ℕ) → HasNoLineFeed line → BeginsWithVerdict line → BeginsWithLog (line ++ 10 ∷ more) (line ++ 10 ∷ []) more
found_here line more one v = inl (record {
  lines = [];
  last = line;
  one_line = All-from_recursion HasNoLineFeed (line ∷ []) (one, tt);
  before = All-from_recursion (λ (l : List ℕ). BeginsWithVerdict l → ⊥) [] tt;
  verdict = v;
  written = sym (append-nil (line ++ 10 ∷ []));
  split = sym (append_assoc line (10 ∷ []) more);
})

-- without a line feed there is no line
no_feed : (line rest xs : List ℕ) → HasNoLineFeed xs → xs ≡ line ++ 10 ∷ rest → ⊥
no_feed [] rest [] h e = let z : ◌≡◌ {A = ℕ} 0 (suc (length rest)) = ap length e in omega (arith, z)
no_feed [] rest (x ∷ xs) h e = let z : x ≡ 10 = cc in h.0 z
no_feed (l ∷ line) rest [] h e = let z : ◌≡◌ {A = ℕ} 0 (suc (length (line ++ 10 ∷ rest))) = ap length e in omega (arith, z)
no_feed (l ∷ line) rest (x ∷ xs) h e = let tails : xs ≡ line ++ 10 ∷ rest = cc in no_feed line rest xs h.1 tails

nothing_ends : (xs : List ℕ) → HasNoLineFeed xs → BeginsWithLog xs xs []
nothing_ends xs h = inr (record { none = λ a b e. by b e.lines e.last (e.split ∙ ap (λ (l : List ℕ). l ++ b) e.written); whole = refl; nothing = refl })
  where
    by : (b : List ℕ) (lines : List (List ℕ)) (last : List ℕ) → xs ≡ with_feeds (lines ++ last ∷ []) ++ b → ⊥
    by b [] last e = no_feed last b xs h (e ∙ first_line last [] b)
    by b (l ∷ ls) last e = no_feed l (with_feeds (ls ++ last ∷ []) ++ b) xs h (e ∙ first_line l (ls ++ last ∷ []) b)

-- the bytes, as far as they are read, do not end the log
pub record Continues (bytes rest : List ℕ) : Type 0 where
  pub before : List ℕ
  pub goes : (log more : List ℕ) → BeginsWithLog rest log more → BeginsWithLog bytes (before ++ log) more

pub begins : (bytes : List ℕ) → Continues bytes bytes
begins bytes = record { before = []; goes = λ log more h. h }

drop_one : (xs : List ℕ) (at : ℕ) → drop 1 (drop at xs) ≡ drop (suc at) xs
drop_one xs zero = refl
drop_one [] (suc at) = refl
drop_one (x ∷ xs) (suc at) = drop_one xs at

-- what stands behind the line feed
pub behind_feed : (xs r : List ℕ) (at : ℕ) → r ≡ drop at xs → take (length r - 1) (drop 1 r) ≡ drop (suc at) xs
behind_feed xs r at e = take_rest r 1 ∙ ap (drop 1) e ∙ drop_one xs at

module _ (bytes rest : List ℕ) (at : ℕ) (k : Continues bytes rest) (found : position (λ b. b == 10) rest ≡ Some at) where
  -- another line
  pub goes_on : (BeginsWithVerdict (take at rest) → ⊥) → Continues bytes (drop (suc at) rest)
  goes_on other =
      let first = (feed_found rest at found).0 in
      record {
        before = k.before ++ (take at rest ++ 10 ∷ []);
        goes = λ log more h.
            subst (λ (l : List ℕ). BeginsWithLog bytes l more) (longer log)
            (k.goes (take at rest ++ 10 ∷ log) more
            (subst (λ (l : List ℕ). BeginsWithLog l (take at rest ++ 10 ∷ log) more) (sym first.split) (skip (take at rest) (drop (suc at) rest) first.one_line other log more h)));
      }
    where
      longer : (log : List ℕ) → k.before ++ (take at rest ++ 10 ∷ log) ≡ (k.before ++ (take at rest ++ 10 ∷ [])) ++ log
      longer log =
          ap (λ (l : List ℕ). k.before ++ l) (sym (append_assoc (take at rest) (10 ∷ []) log))
          ∙ sym (append_assoc k.before (take at rest ++ 10 ∷ []) log)

  -- the last line of the log
  pub ends : BeginsWithVerdict (take at rest) → BeginsWithSome bytes (drop (suc at) rest)
  ends v =
      let first = (feed_found rest at found).0 in
      record {
        log = k.before ++ (take at rest ++ 10 ∷ []);
        begins = k.goes (take at rest ++ 10 ∷ []) (drop (suc at) rest)
            (subst (λ (l : List ℕ). BeginsWithLog l (take at rest ++ 10 ∷ []) (drop (suc at) rest)) (sym first.split) (found_here (take at rest) (drop (suc at) rest) first.one_line v));
      }

-- there is no further line
pub never_ends : (bytes rest : List ℕ) → Continues bytes rest → position (λ b. b == 10) rest ≡ None → BeginsWithSome bytes []
never_ends bytes rest k none = record { log = k.before ++ rest; begins = k.goes rest [] (nothing_ends rest (feed_absent rest none)) }

-- the log is what stands before the rest
pub log_before : (bytes log rest : List ℕ) → BeginsWithLog bytes log rest → bytes ≡ log ++ rest
log_before bytes log rest (inl a) = a.split
log_before bytes log rest (inr a) = sym a.whole ∙ sym (append-nil log) ∙ ap (λ (l : List ℕ). log ++ l) (sym a.nothing)

-- the log is as long as the input without the rest
pub rest_short : (bytes rest : List ℕ) → BeginsWithSome bytes rest → length rest ≤ length bytes
rest_short bytes rest h =
    let e : length bytes ≡ length h.log + length rest = ap length (log_before bytes h.log rest h.begins) ∙ length-append h.log rest in omega (arith, e)

front_of : (xs ys : List ℕ) → take (length xs) (xs ++ ys) ≡ xs
front_of [] ys = refl
front_of (x ∷ xs) ys = ap (λ zs. x ∷ zs) (front_of xs ys)

back_of : (xs ys : List ℕ) → drop (length xs) (xs ++ ys) ≡ ys
back_of [] ys = refl
back_of (x ∷ xs) ys = back_of xs ys

-- so it is cut off there
pub cut_there : (bytes rest front back : List ℕ) (n : ℕ) → BeginsWithSome bytes rest → n ≡ length bytes - length rest → front ≡ take n bytes → back ≡ drop n bytes → BeginsWithLog bytes front back
cut_there bytes rest front back n h is f b =
    let e = log_before bytes h.log rest h.begins in
    let l : length bytes ≡ length h.log + length rest = ap length e ∙ length-append h.log rest in
    let at : n ≡ length h.log = omega (arith, l, is) in
    let front_is : front ≡ h.log = f ∙ ap₂ (λ (k : ℕ) (xs : List ℕ). take k xs) at e ∙ front_of h.log rest in
    let back_is : back ≡ rest = b ∙ ap₂ (λ (k : ℕ) (xs : List ℕ). drop k xs) at e ∙ back_of h.log rest in
    subst (λ (x : List ℕ). BeginsWithLog bytes x back) (sym front_is) (subst (λ (x : List ℕ). BeginsWithLog bytes h.log x) (sym back_is) h.begins)
