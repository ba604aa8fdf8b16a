-- The lines of a program in its text.
use Rattle.std.proofs.Common.{◌≡◌, ℕ, suc, ◌+◌, ◌<◌, ◌≤◌, Bool, true, false, not, cond, inl, inr, Some, None, List, [], ◌∷◌, ◌++◌, map}
use Rattle.std.proofs.Common.{length, take, drop, append-nil, append_assoc, refl, sym, ◌∙◌, ap, subst, arith}
use Rattle.std.specs.Prelude.{◌==◌, nat_lt}
use Rattle.std.specs.List.{AllByRecursion, flat_map, position, prefix_len}
use Rattle.std.proofs.lemmas.Bool.{eqb-false, lt-ltb, ltb-true, ne_eqb}
use Rattle.std.proofs.lemmas.List.{length-append, map-append}
use Rattle.geo_base.specs.Devices.{HasRisen}
use Rattle.geo_lexer.specs.Lexemes.{Lexeme}
use Rattle.geo_program.specs.CanonicalText.{canonical_text, line_lexemes, line_text, no_sketches}
use Rattle.geo_program.specs.WellFormed.{Source}
use Rattle.geo_logs.specs.Ends.{text_length}
use Rattle.proof_log.specs.declared.log.Line.{Line}
use Rattle.proof_log.specs.declared.log.Line.TheVariants.{Program as ProgramLine}
use Rattle.proof_log.specs.Lines.{log_text}
use Rattle.proof_log.specs.Writable.{HasNoLineFeed}
use Rattle.geo_chain.specs.declared.errors.ProveError.{ProveError}
use Rattle.geo_chain.specs.declared.errors.ProveError.TheVariants.{TooLarge, Spent, TooLong, WriteFault, NoMemory}
use Rattle.geo_chain.specs.FirstLines.{IsBrokenOffAmong, IsPartAmong, IsTooLongAmong, text_lines}
use Rattle.geo_chain.specs.Inner.Texts.{with_ends}
use Rattle.geo_chain.specs.Sizes.{Fits, HoldsText, IsPastLimit, with_text}
use Rattle.geo_chain.specs.Written.{IsCutOff, IsUnwritten, State, Writes}
use Rattle.geo_chain.proofs.Passing.{fits_behind, held_on, log_text-append, past_behind, writes_more}
use Rattle.geo_chain.proofs.Sizing.{fits_none, holds_nothing}

-- THE FIRST LINE FEED
abbrev passes : ℕ → Bool
passes b = not (b == 10)

front_length : (text more : List ℕ) → HasNoLineFeed text → prefix_len passes (text ++ 10 ∷ more) ≡ length text
front_length [] more h = refl
front_length (b ∷ bs) more h =
    let e : (b == 10) ≡ false = ne_eqb b 10 h.0 in
    let r = front_length bs more h.1 in
    ap (λ (q : Bool). cond (not q) (1 + prefix_len passes (bs ++ 10 ∷ more)) 0) e
    ∙ (let f : 1 + prefix_len passes (bs ++ 10 ∷ more) ≡ suc (length bs) = omega (arith, r) in f)

-- behind a text without one
pub feed_at : (text more : List ℕ) → HasNoLineFeed text → position (λ b. b == 10) (text ++ 10 ∷ more) ≡ Some (length text)
feed_at text more h =
    let lt : length text < length (text ++ 10 ∷ more) = let l : length (text ++ 10 ∷ more) ≡ length text + suc
    (length more) = length-append text (10 ∷ more) in omega (arith, l) in
    ap (λ n. cond (nat_lt n (length (text ++ 10 ∷ more))) (Some n) None) (front_length text more h)
    ∙ ap (λ (q : Bool). cond q (Some (length text)) None) (lt-ltb (length text) (length (text ++ 10 ∷ more)) lt)

front_clean : (text : List ℕ) → HasNoLineFeed (take (prefix_len passes text) text)
front_clean [] = tt
front_clean (b ∷ bs) = go (b == 10) refl (front_clean bs)
  where
    go : (q : Bool) → (b == 10) ≡ q → HasNoLineFeed (take (prefix_len passes bs) bs)
        → HasNoLineFeed (take (cond (not q) (1 + prefix_len passes bs) 0) (b ∷ bs))
    go true e h = tt
    go false e h =
        let n : suc (prefix_len passes bs) ≡ 1 + prefix_len passes bs = omega arith in
        subst (λ k. HasNoLineFeed (take k (b ∷ bs))) n (eqb-false b 10 e, h)

-- the bytes before it have none
pub record IsFirstFeed (text : List ℕ) (n : ℕ) : Type 0 where
  pub inside : n < length text
  pub clean : HasNoLineFeed (take n text)

pub first_feed : (text : List ℕ) (n : ℕ) → position (λ b. b == 10) text ≡ Some n → IsFirstFeed text n
first_feed text n e = go (nat_lt (prefix_len passes text) (length text)) refl e
  where
    go : (q : Bool) → nat_lt (prefix_len passes text) (length text) ≡ q → cond q (Some (prefix_len passes text)) None ≡ Some n
        → IsFirstFeed text n
    go true t s =
        let m = prefix_len passes text in
        let is : m ≡ n = cc in subst (IsFirstFeed text) is (record { inside = ltb-true m (length text) t; clean = front_clean text })
    go false t s = absurd (let f : ⊥ = cc in f)

-- LINES FROM THE TEXT
-- the canonical text has the program's lines
lines_pieces : (lines : List (List Lexeme)) → flat_map (λ line. line_text line ++ 10 ∷ []) lines ≡ with_ends (map line_text lines)
lines_pieces [] = refl
lines_pieces (l ∷ ls) = ap (λ text. (line_text l ++ 10 ∷ []) ++ text) (lines_pieces ls)

pub program_pieces : (p : Source) → canonical_text p ≡ with_ends (text_lines p)
program_pieces p = lines_pieces (line_lexemes (no_sketches p.commands) p)

-- some lines were written, and the text that is left is that of the others
pub record IsBetween (lines : List (List ℕ)) (rest : List ℕ) (s t : State) : Type 0 where
  pub done : List (List ℕ)
  pub left : List (List ℕ)
  pub split : lines ≡ done ++ left
  pub rest_is : rest ≡ with_ends left
  pub one_line : AllByRecursion HasNoLineFeed left
  pub written : Writes (map ProgramLine done) s t

take_front : (xs ys : List ℕ) → take (length xs) (xs ++ ys) ≡ xs
take_front [] ys = refl
take_front (x ∷ xs) ys = ap (λ zs. x ∷ zs) (take_front xs ys)

drop_front : (xs ys : List ℕ) (y : ℕ) → drop (suc (length xs)) (xs ++ y ∷ ys) ≡ ys
drop_front [] ys y = refl
drop_front (x ∷ xs) ys y = drop_front xs ys y

-- the next line, and what is left behind it
pub record IsNextPiece (left : List (List ℕ)) (rest : List ℕ) (n : ℕ) : Type 0 where
  pub later : List (List ℕ)
  pub split : left ≡ take n rest ∷ later
  pub rest_is : drop (n + 1) rest ≡ with_ends later
  pub one_line : AllByRecursion HasNoLineFeed later

next_piece : (left : List (List ℕ)) (rest : List ℕ) (n : ℕ) → rest ≡ with_ends left → AllByRecursion HasNoLineFeed left
    → position (λ b. b == 10) rest ≡ Some n → IsNextPiece left rest n
next_piece [] rest n e h p = let q : None ≡ Some n = ap (λ xs. position (λ b. b == 10) xs) (sym e) ∙ p in absurd (let f : ⊥ = cc in f)
next_piece (t ∷ ts) rest n e h p =
    let whole : rest ≡ t ++ 10 ∷ with_ends ts = e ∙ append_assoc t (10 ∷ []) (with_ends ts) in
    let same : Some (length t) ≡ Some n = sym (feed_at t (with_ends ts) h.0) ∙ ap (λ xs. position (λ b. b == 10) xs) (sym whole) ∙ p in
    let is : length t ≡ n = cc in
    record {
      later = ts;
      split = ap (λ x. x ∷ ts) (sym (ap (λ xs. take n xs) whole ∙ ap (λ k. take k (t ++ 10 ∷ with_ends ts)) (sym is) ∙ take_front t
          (10 ∷ with_ends ts)));
      rest_is = ap (λ xs. drop (n + 1) xs) whole ∙ ap (λ k. drop k (t ++ 10 ∷ with_ends ts))
          (let f : n + 1 ≡ suc (length t) = omega (arith, is) in f) ∙ drop_front t (with_ends ts) 10;
      one_line = h.1;
    }

no_piece : (left : List (List ℕ)) (rest : List ℕ) → rest ≡ with_ends left → AllByRecursion HasNoLineFeed left
    → position (λ b. b == 10) rest ≡ None → left ≡ []
no_piece [] rest e h p = refl
no_piece (t ∷ ts) rest e h p =
    let whole : rest ≡ t ++ 10 ∷ with_ends ts = e ∙ append_assoc t (10 ∷ []) (with_ends ts) in
    let same : Some (length t) ≡ None = sym (feed_at t (with_ends ts) h.0) ∙ ap (λ xs. position (λ b. b == 10) xs) (sym whole) ∙ p in absurd
    (let f : ⊥ = cc in f)

module _ (lines : List (List ℕ)) (rest : List ℕ) (s t : State) (b : IsBetween lines rest s t) where
  -- the next line is written
  pub one_more : (n : ℕ) (u : State) → position (λ b. b == 10) rest ≡ Some n → Writes (ProgramLine (take n rest) ∷ []) t u
      → IsBetween lines (drop (n + 1) rest) s u
  one_more n u p w =
      let next = next_piece b.left rest n b.rest_is b.one_line p in
      record {
        done = b.done ++ take n rest ∷ [];
        left = next.later;
        split = b.split ∙ ap (λ xs. b.done ++ xs) next.split ∙ sym (append_assoc b.done (take n rest ∷ []) next.later);
        rest_is = next.rest_is;
        one_line = next.one_line;
        written =
            subst (λ xs. Writes xs s u) (sym (map-append ProgramLine b.done (take n rest ∷ [])))
            (writes_more (map ProgramLine b.done) (ProgramLine (take n rest) ∷ []) s t u b.written w);
      }

  -- all are written
  pub at_last : position (λ b. b == 10) rest ≡ None → Writes (map ProgramLine lines) s t
  at_last p =
      let all : lines ≡ b.done = b.split ∙ ap (λ xs. b.done ++ xs) (no_piece b.left rest b.rest_is b.one_line p) ∙ append-nil b.done in
      subst (λ xs. Writes (map ProgramLine xs) s t) (sym all) b.written

-- BREAKING OFF
-- what is told of the lines behind some that were written
module _ (front : List Line) (s t u : State) (w : Writes front s t) where
  fits_on : (before : List Line) → Fits (with_text t.size (text_length before)) → Fits (with_text s.size (text_length (front ++ before)))
  fits_on before fits = fits_behind front s t w before fits

  faults_on : t.faults ≤ u.faults → s.faults ≤ u.faults
  faults_on g = let f = w.faults in omega (arith, f, g)

  sound_on : u.faults ≡ t.faults → u.faults ≡ s.faults
  sound_on g = g ∙ w.faults

  -- what was written of a text behind another
  taken : (xs ys : List ℕ) (n : ℕ) → take (length xs + n) (xs ++ ys) ≡ xs ++ take n ys
  taken [] ys n = let e : 0 + n ≡ n = omega arith in ap (λ k. take k ys) e
  taken (x ∷ xs) ys n =
      let e : suc (length xs) + n ≡ suc (length xs + n) = omega arith in
      ap (λ k. take k (x ∷ xs ++ ys)) e ∙ ap (λ zs. x ∷ zs) (taken xs ys n)

  left_out_on : (all : List Line) → IsTooLongAmong all t u → IsTooLongAmong (front ++ all) s u
  left_out_on all g = record {
    before = front ++ g.before;
    line = g.line;
    rest = g.rest;
    split = ap (λ xs. front ++ xs) g.split ∙ sym (append_assoc front g.before (g.line ∷ g.rest));
    fits = fits_on g.before g.fits;
    long =
        let same : text_length (front ++ (g.before ++ g.line ∷ [])) ≡ text_length ((front ++ g.before) ++ g.line ∷ []) = ap text_length
        (sym (append_assoc front g.before (g.line ∷ []))) in
        subst (λ (n : ℕ). IsPastLimit (with_text s.size n)) same (past_behind front s t w (g.before ++ g.line ∷ []) g.long);
    written = subst (λ text. HoldsText s.size s.held text u.held) (sym (log_text-append front g.before))
        (held_on front s t u w (log_text g.before) g.written);
    faults = sound_on g.faults;
  }

  part_on : (all : List Line) → IsPartAmong all t u → IsPartAmong (front ++ all) s u
  part_on all g = record {
    before = front ++ g.before;
    rest = g.rest;
    count = length (log_text front) + g.count;
    split = ap (λ xs. front ++ xs) g.split ∙ sym (append_assoc front g.before g.rest);
    fits = fits_on g.before g.fits;
    written =
        subst (λ text. HoldsText s.size s.held text u.held)
        (sym (taken (log_text front) (log_text g.before) g.count) ∙ ap (λ text. take (length (log_text front) + g.count) text)
        (sym (log_text-append front g.before)))
        (held_on front s t u w (take g.count (log_text g.before)) g.written);
    faults = faults_on g.faults;
  }

  pub broken_on : (all : List Line) (e : ProveError) → IsBrokenOffAmong all t u e → IsBrokenOffAmong (front ++ all) s u e
  broken_on all (TooLarge n which) g = g
  broken_on all (Spent n) g = g
  broken_on all TooLong g = left_out_on all g
  broken_on all WriteFault g = (part_on all g.0, subst (λ n. HasRisen n u.faults) w.faults g.1)
  broken_on all NoMemory g = (part_on all g.0, sound_on g.1)

-- at once
module _ (s t : State) (fits : Fits s.size) where
  nothing_among : (all : List Line) → t.held ≡ s.held → s.faults ≤ t.faults → IsPartAmong all s t
  nothing_among all same faults = record {
    before = [];
    rest = all;
    count = 0;
    split = refl;
    fits = fits_none s.size fits;
    written = subst (λ held. HoldsText s.size s.held [] held) (sym same) (holds_nothing s.size s.held);
    faults = faults;
  }

  cut_off : (line : Line) (rest : List Line) → IsCutOff line s t → IsPartAmong (line ∷ rest) s t
  cut_off line rest
      (inl h) = record {
        before = line ∷ [];
        rest = rest;
        count = h.1.count;
        split = refl;
        fits = h.0;
        written = h.1.written;
        faults = h.1.faults;
      }
  cut_off line rest (inr h) = nothing_among (line ∷ rest) h.0 h.1

  pub unwritten_first : (line : Line) (rest : List Line) (e : ProveError) → IsUnwritten line s t e → IsBrokenOffAmong (line ∷ rest) s t e
  unwritten_first line rest (TooLarge n which) h = h
  unwritten_first line rest (Spent n) h = h
  unwritten_first line rest TooLong h = record {
    before = [];
    line = line;
    rest = rest;
    split = refl;
    fits = fits_none s.size fits;
    long = h.long;
    written = subst (λ held. HoldsText s.size s.held [] held) (sym h.kept) (holds_nothing s.size s.held);
    faults = h.faults;
  }
  unwritten_first line rest WriteFault h = (cut_off line rest h.0, h.1)
  unwritten_first line rest NoMemory h = (cut_off line rest h.0, h.1)

  pub memory_first : (all : List Line) → t.held ≡ s.held → t.faults ≡ s.faults → IsBrokenOffAmong all s t NoMemory
  memory_first all same faults = (nothing_among all same (omega (arith, faults)), faults)

-- a line of the program is not written
pub piece_breaks : (lines : List (List ℕ)) (rest : List ℕ) (s t u : State) (n : ℕ) (e : ProveError) → IsBetween lines rest s t → Fits t.size
    → position (λ b. b == 10) rest ≡ Some n
    → IsUnwritten (ProgramLine (take n rest)) t u e → IsBrokenOffAmong (map ProgramLine lines) s u e
piece_breaks lines rest s t u n e b fits p h =
    let next = next_piece b.left rest n b.rest_is b.one_line p in
    subst (λ xs. IsBrokenOffAmong xs s u e)
    (sym (ap (λ xs. map ProgramLine xs) (b.split ∙ ap (λ xs. b.done ++ xs) next.split) ∙ map-append ProgramLine b.done
    (take n rest ∷ next.later)))
    (broken_on (map ProgramLine b.done) s t u b.written (ProgramLine (take n rest) ∷ map ProgramLine next.later) e
    (unwritten_first t u fits (ProgramLine (take n rest)) (map ProgramLine next.later) e h))

-- memory runs out between two lines
pub memory_between : (lines : List (List ℕ)) (rest : List ℕ) (s t : State) → IsBetween lines rest s t → Fits t.size
    → IsBrokenOffAmong (map ProgramLine lines) s t NoMemory
memory_between lines rest s t b fits =
    subst (λ xs. IsBrokenOffAmong xs s t NoMemory) (sym (ap (λ xs. map ProgramLine xs) b.split ∙ map-append ProgramLine b.done b.left))
    (broken_on (map ProgramLine b.done) s t t b.written (map ProgramLine b.left) NoMemory
    (memory_first t t fits (map ProgramLine b.left) refl refl))
