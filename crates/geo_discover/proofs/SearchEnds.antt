-- From the steps of a search to what it answers.
use Rattle.std.proofs.Common.{◌≡◌, ℕ, zero, suc, ◌+◌, ◌<◌, ◌≤◌, All, Bool, true, false, inl, inr, Option, Some, None, List, [], ◌∷◌, ◌++◌}
use Rattle.std.proofs.Common.{append-nil, append_assoc, length, refl, sym, ◌∙◌, ap, ap₂, subst, take, arith}
use Rattle.std.specs.Prelude.{nat_lt}
use Rattle.std.proofs.lemmas.Bool.{ltb-false, ltb-true}
use Rattle.std.proofs.lemmas.List.Elements.{All-head, All-tail}
use Rattle.geo_base.specs.Devices.{Grows}
use Rattle.geo_base.proofs.DeviceLemmas.{Grows-append}
use Rattle.geo_lowering.specs.declared.version.Version.TheVariants.{Two}
use Rattle.geo_program.specs.declared.statements.Statement.{Statement}
use Rattle.geo_program.specs.CanonicalText.{canonical_text}
use Rattle.geo_program.specs.Relations.{IsRelation, with_statement}
use Rattle.geo_program.specs.WellFormed.{IsWellFormed, Source}
use Rattle.geo_program.proofs.Restated.{relations_may_be_stated}
use Rattle.geo_logs.specs.Ends.{ends_by, too_long}
use Rattle.geo_logs.specs.Moves.{spent, too_large}
use Rattle.log_checker.proofs.AcceptedBytes.{programs_have_defined_logs}
use Rattle.geo_chain.specs.declared.errors.ProveError.{ProveError}
use Rattle.geo_chain.specs.declared.errors.ProveError.TheVariants as stopped
use Rattle.geo_discover.specs.declared.errors.DiscoverError.{DiscoverError}
use Rattle.geo_discover.specs.declared.errors.DiscoverError.TheVariants.{Impossible, Spent, TooLarge, TooLong, WriteFault, NoMemory}
use Rattle.geo_discover.specs.Candidates.{candidates}
use Rattle.geo_discover.specs.FoundTexts.{AreFindings, Finding, IsSearched, CandidateOutcome, SearchEnd, WritesFound, WritesFoundPart}
use Rattle.geo_discover.specs.FoundTexts.{cut, open_end_at, end_with, first_impossible, first_open, found, found_lines, impossible, impossible_in}
use Rattle.geo_discover.specs.FoundTexts.{lines_with, nothing, open_by, open_still, opens, outcome_of, relation, relations}
use Rattle.geo_discover.specs.FoundTexts.{whole_end}
use Rattle.geo_discover.specs.Inner.Puts.{BreaksOff, IsPieceOf, IsUnput, PutsLines}
use Rattle.geo_discover.specs.Inner.Searching.{BreaksSearch, EndsSo, Examines, IfOpen, IsAnswer, IsBroken, IsUnsettled, Progress, TellsFirst}
use Rattle.geo_discover.specs.Inner.Searching.{answer_of, counts_line, impossible_line, lines_behind, lines_due, lines_of}
use Rattle.log_checker.specs.Checkers.{with_feeds}
use Rattle.geo_discover.proofs.Putting.{breaks_behind, puts_both, text_append, text_length-append, text_one}
use Rattle.geo_discover.proofs.SearchSteps.{are_both, lines_both, none_broken}

-- TEXTS
take_front : (xs ys : List ℕ) → take (length xs) (xs ++ ys) ≡ xs
take_front [] ys = refl
take_front (x ∷ xs) ys = ap (λ (zs : List ℕ). x ∷ zs) (take_front xs ys)

take_all : (n : ℕ) (xs : List ℕ) → (rest : List ℕ) × (xs ≡ take n xs ++ rest)
take_all zero xs = (xs, refl)
take_all (suc n) [] = ([], refl)
take_all (suc n) (x ∷ xs) = let r = take_all n xs in (r.0, ap (λ (ys : List ℕ). x ∷ ys) r.1)

-- ALL FINDINGS
-- the lines of findings begin those of all
front_lines : (p : Source) (fs gs : List Finding) → (more : List (List ℕ)) × (found_lines p (fs ++ gs) ≡ lines_behind 0 p fs ++ more)
front_lines p [] gs = (found_lines p gs, refl)
front_lines p (f ∷ fs) gs = go (impossible_in f.ending)
  where
    go : (o : Option ℕ) → (more : List (List ℕ)) × (lines_with o p (f ∷ (fs ++ gs)) ≡ lines_due o p (f ∷ fs) ++ more)
    go (Some k) = ([], refl)
    go None =
        let counts = counts_line (relations (f ∷ (fs ++ gs))) (opens (f ∷ (fs ++ gs))) ∷ [] in (
          lines_of p gs ++ counts,
          ap (λ (ls : List (List ℕ)). ls ++ counts) (lines_both p (f ∷ fs) gs)
              ∙ append_assoc (lines_of p (f ∷ fs)) (lines_of p gs) counts,
        )

module _ (p : Source) (steps : ℕ) (w : IsWellFormed p) (short : length (canonical_text p) ≤ 67108864) where
  -- each candidate has a finding
  some_finding : (s : Statement) → IsRelation s → IsWellFormed (with_statement p s) → (f : Finding) × AreFindings p steps (s ∷ []) (f ∷ [])
  some_finding s r v =
      let stated = relations_may_be_stated p s r v short in
      let d = programs_have_defined_logs Two (with_statement p s) steps (record { well_formed = v; short = stated.short }) in
      let f : Finding = record { statement = s; lines = d.3.0; ending = d.3.1 } in
      (f, (refl, record { subject = d.0; about = d.1; version = d.2; defined = d.3.2 }, tt))

  pub some_findings : (ss : List Statement) → All (λ s. IsRelation s) ss → All (λ s. IsWellFormed (with_statement p s)) ss
      → (fs : List Finding) × AreFindings p steps ss fs
  some_findings [] r v = ([], tt)
  some_findings (s ∷ ss) r v =
      let one = some_finding s (All-head (λ x. IsRelation x) s ss r) (All-head (λ x. IsWellFormed (with_statement p x)) s ss v) in
      let more = some_findings ss (All-tail (λ x. IsRelation x) s ss r) (All-tail (λ x. IsWellFormed (with_statement p x)) s ss v) in
      (one.0 ∷ more.0, (one.1.0, one.1.1, more.1))

  -- THE TEXT, WHOLE OR CUT
  module _ (fs : List Finding) (are : AreFindings p steps (candidates p) fs) where
    searched_whole : (pre : List (List ℕ)) → found_lines p fs ≡ pre → length (with_feeds pre) ≤ 67108864
        → IsSearched p steps pre (whole_end fs)
    searched_whole pre e fits = record { findings = fs; found = are; written = inl (sym e, fits, refl) }

    searched_cut : (pre : List (List ℕ)) (line : List ℕ) (more : List (List ℕ)) → found_lines p fs ≡ pre ++ line ∷ more
        → length (with_feeds pre) ≤ 67108864 → 67108864 < length (with_feeds (pre ++ line ∷ [])) → IsSearched p steps pre cut
    searched_cut pre line more e fits long = record { findings = fs; found = are; written = inr (line, more, e, fits, long, refl) }

    -- lines within the limit begin what is written
    pub searched_on : (pre post : List (List ℕ)) → found_lines p fs ≡ pre ++ post → length (with_feeds pre) ≤ 67108864
        → (more : List (List ℕ)) × (end : SearchEnd) × IsSearched p steps (pre ++ more) end
    searched_on pre [] e fits = (
      [],
      whole_end fs,
      subst (λ (ls : List (List ℕ)). IsSearched p steps ls (whole_end fs)) (sym (append-nil pre))
          (searched_whole pre (e ∙ append-nil pre) fits),
    )
    searched_on pre (l ∷ ls) e fits =
        go (nat_lt 67108864 (length (with_feeds (pre ++ l ∷ [])))) refl (λ split small. searched_on (pre ++ l ∷ []) ls split small)
      where
        go : (b : Bool) → nat_lt 67108864 (length (with_feeds (pre ++ l ∷ []))) ≡ b
            → (found_lines p fs ≡ (pre ++ l ∷ []) ++ ls → length (with_feeds (pre ++ l ∷ [])) ≤ 67108864
            → (more : List (List ℕ)) × (end : SearchEnd) × IsSearched p steps ((pre ++ l ∷ []) ++ more) end)
            → (more : List (List ℕ)) × (end : SearchEnd) × IsSearched p steps (pre ++ more) end
        go true t on = (
          [],
          cut,
          subst (λ (xs : List (List ℕ)). IsSearched p steps xs cut) (sym (append-nil pre))
              (searched_cut pre l ls e fits (ltb-true 67108864 (length (with_feeds (pre ++ l ∷ []))) t)),
        )
        go false t on =
            let small = ltb-false 67108864 (length (with_feeds (pre ++ l ∷ []))) t in
            let r = on (e ∙ sym (append_assoc pre (l ∷ []) ls)) (omega (arith, small)) in
            (l ∷ r.0, r.1, subst (λ (xs : List (List ℕ)). IsSearched p steps xs r.1) (append_assoc pre (l ∷ []) r.0) r.2)

    -- a text that begins the text of lines
    part_of : (lines : List (List ℕ)) (end : SearchEnd) (text rest : List ℕ) (h k : Option (List ℕ)) → IsSearched p steps lines end
        → with_feeds lines ≡ text ++ rest → Grows h text k → WritesFoundPart p steps h k
    part_of lines end text rest h k s e g = record {
      lines = lines;
      end = end;
      searched = s;
      count = length text;
      written = subst (λ (t : List ℕ). Grows h t k) (sym (ap (λ (t : List ℕ). take (length text) t) e ∙ take_front text rest)) g;
    }

    -- lines that were put, and a piece of the next
    module _ (pre post : List (List ℕ)) (e : found_lines p fs ≡ pre ++ post) (b : ℕ) (h m k : Option (List ℕ)) (put : PutsLines pre 0 b h m) where
      fits : length (with_feeds pre) ≤ 67108864
      fits = let q = put.measured in let f = put.fits in omega (arith, q, f)

      pub piece_put : IsPieceOf post b m k → WritesFoundPart p steps h k
      piece_put (inl same) =
          let s = searched_on pre post e fits in
          part_of (pre ++ s.0) s.1 (with_feeds pre) (with_feeds s.0) h k s.2 (text_append pre s.0)
          (subst (λ (x : Option (List ℕ)). Grows h (with_feeds pre) x) (sym same) put.written)
      piece_put (inr (line, more, count, is, small, g)) =
          let own = line ++ 10 ∷ [] in
          let one = pre ++ line ∷ [] in
          let n : length (with_feeds one) ≡ length (with_feeds pre) + length own =
          text_length-append pre (line ∷ []) ∙ ap (λ (t : List ℕ). length (with_feeds pre) + length t) (text_one line) in
          let q = put.measured in
          let s = searched_on one more (e ∙ ap (λ (ls : List (List ℕ)). pre ++ ls) is ∙ sym (append_assoc pre (line ∷ []) more))
          (omega (arith, n, q, small)) in
          let r = take_all count own in
          let text = with_feeds pre ++ take count own in
          let rest = r.0 ++ with_feeds s.0 in
          let split : with_feeds (one ++ s.0) ≡ text ++ rest =
          text_append one s.0 ∙ ap (λ (t : List ℕ). t ++ with_feeds s.0)
          (text_append pre (line ∷ []) ∙ ap (λ (t : List ℕ). with_feeds pre ++ t) (text_one line ∙ r.1)
          ∙ sym (append_assoc (with_feeds pre) (take count own) r.0))
          ∙ append_assoc text r.0 (with_feeds s.0) in
          part_of (one ++ s.0) s.1 text rest h k s.2 split (Grows-append h m k (with_feeds pre) (take count own) put.written g)

      pub cut_here : (line : List ℕ) (more : List (List ℕ)) → post ≡ line ∷ more → 67108864 < b + length (line ++ 10 ∷ []) → k ≡ m
          → WritesFound p steps h k cut
      cut_here line more is long same =
          let n : length (with_feeds (pre ++ line ∷ [])) ≡ length (with_feeds pre) + length (line ++ 10 ∷ []) =
          text_length-append pre (line ∷ []) ∙ ap (λ (t : List ℕ). length (with_feeds pre) + length t) (text_one line) in
          let q = put.measured in
          record {
            lines = pre;
            searched = searched_cut pre line more (e ∙ ap (λ (ls : List (List ℕ)). pre ++ ls) is) fits (omega (arith, n, q, long));
            written = subst (λ (x : Option (List ℕ)). Grows h (with_feeds pre) x) (sym same) put.written;
          }

    -- where the lines of all are broken off
    pub broken_answer : (front more : List (List ℕ)) → found_lines p fs ≡ front ++ more → (h k : Option (List ℕ)) (n m : ℕ) (e : DiscoverError)
        → BreaksOff front 0 h k n m e → IsAnswer p steps h k n m e
    broken_answer front more all h k n m e w = go e w.last
      where
        split : found_lines p fs ≡ w.done ++ (w.left ++ more)
        split = all ∙ ap (λ (ls : List (List ℕ)). ls ++ more) w.split ∙ append_assoc w.done w.left more

        piece_on : IsPieceOf w.left w.bytes w.middle k → IsPieceOf (w.left ++ more) w.bytes w.middle k
        piece_on (inl same) = inl same
        piece_on (inr (line, others, count, is, small, g)) =
            inr (line, others ++ more, count, ap (λ (ls : List (List ℕ)). ls ++ more) is, small, g)

        go : (x : DiscoverError) → IsUnput w.left w.bytes w.middle k n m x → IsAnswer p steps h k n m x
        go (Impossible i) u = absurd u
        go (Spent i) u = absurd u
        go (TooLarge i which) u = absurd u
        go TooLong (line, others, is, long, same) =
            inl (cut_here w.done (w.left ++ more) split w.bytes h w.middle k w.put line (others ++ more)
            (ap (λ (ls : List (List ℕ)). ls ++ more) is) long same)
        go WriteFault u = (u.1, piece_put w.done (w.left ++ more) split w.bytes h w.middle k w.put (piece_on u.0))
        go NoMemory u = piece_put w.done (w.left ++ more) split w.bytes h w.middle k w.put (piece_on u)

    -- where all of the lines were written
    pub written_whole : (lines : List (List ℕ)) → found_lines p fs ≡ lines → (b : ℕ) (h k : Option (List ℕ)) → PutsLines lines 0 b h k
        → (end : SearchEnd) → whole_end fs ≡ end → WritesFound p steps h k end
    written_whole lines e b h k put end is = record {
      lines = lines;
      searched = subst (λ (x : SearchEnd). IsSearched p steps lines x) is
          (searched_whole lines e (let q = put.measured in let f = put.fits in omega (arith, q, f)));
      written = put.written;
    }

  -- ANSWERS
  module _ (relations_all : All (λ s. IsRelation s) (candidates p)) (formed : All (λ s. IsWellFormed (with_statement p s)) (candidates p))
      (s : Progress) (none : s.examined ≡ 0) (empty : s.bytes ≡ 0) (related : s.related ≡ 0) (unsettled : s.unsettled ≡ 0)
      (first : s.first ≡ None) where
    -- with findings of all others the front's are those of all
    module _ (k : Option (List ℕ)) (n m : ℕ) (front : List Finding) (others : List Finding)
        (are : AreFindings p steps (candidates p) (front ++ others)) where
      broken_so : (x : DiscoverError) → BreaksOff (lines_behind s.examined p front) s.bytes s.held k n m x → IsAnswer p steps s.held k n m x
      broken_so x w =
          let lines = front_lines p front others in
          broken_answer (front ++ others) are (lines_behind 0 p front) lines.0 lines.1 s.held k n m x
          (subst (λ (i : ℕ). BreaksOff (lines_behind 0 p front) i s.held k n m x) empty
          (subst (λ (i : ℕ). BreaksOff (lines_behind i p front) s.bytes s.held k n m x) none w))

      -- the first one says that a condition is never met
      told : (gs : List Finding) (i : ℕ) → first_impossible gs ≡ Some i → first_impossible (gs ++ others) ≡ Some i
      told [] i is = absurd (let q : None ≡ Some i = is in cc)
      told (g ∷ gs) i is = is

      answers_so : (x : DiscoverError) → IsBroken p front s k n m x → IsAnswer p steps s.held k n m x
      answers_so (Impossible i) (zero_there, is, after, put) =
          let one : first_impossible (front ++ others) ≡ Some i = told front i is in
          written_whole (front ++ others) are (impossible_line i ∷ []) (ap (λ (o : Option ℕ). lines_with o p (front ++ others)) one) after s.held k
          (subst (λ (j : ℕ). PutsLines (impossible_line i ∷ []) j after s.held k) empty put)
          (impossible i) (ap (λ (o : Option ℕ). end_with o (front ++ others)) one)
      answers_so (Spent i) u = absurd u
      answers_so (TooLarge i which) u = absurd u
      answers_so TooLong u = broken_so TooLong u
      answers_so WriteFault u = broken_so WriteFault u
      answers_so NoMemory u = broken_so NoMemory u

    rest_of : (P : Statement → Type 0) (xs ys : List Statement) → All P (xs ++ ys) → All P ys
    rest_of P [] ys h = h
    rest_of P (x ∷ xs) ys h = rest_of P xs ys (All-tail P x (xs ++ ys) h)

    -- some were examined, and then it stopped
    pub stops_so : (k : Option (List ℕ)) (n m : ℕ) (e : DiscoverError) → BreaksSearch p steps (candidates p) s k n m e
        → IsAnswer p steps s.held k n m e
    stops_so k n m e b =
        let others = some_findings b.rest
        (rest_of (λ x. IsRelation x) b.front b.rest (subst (λ (xs : List Statement). All (λ x. IsRelation x) xs) b.split relations_all))
        (rest_of (λ x. IsWellFormed (with_statement p x)) b.front b.rest
        (subst (λ (xs : List Statement). All (λ x. IsWellFormed (with_statement p x)) xs) b.split formed)) in
        answers_so k n m b.findings others.0
        (subst (λ (xs : List Statement). AreFindings p steps xs (b.findings ++ others.0)) (sym b.split)
        (are_both p steps b.front b.rest b.findings others.0 b.found others.1)) e b.last

    -- ALL WERE EXAMINED
    module _ (t : Progress) (x : Examines p steps (candidates p) s t) where
      abbrev fs : List Finding
      fs = x.findings

      possible : first_impossible fs ≡ None
      possible = x.possible none

      abbrev counts : List ℕ
      counts = counts_line t.related t.unsettled

      all_lines : found_lines p fs ≡ lines_of p fs ++ counts ∷ []
      all_lines =
          let r : t.related ≡ relations fs = let q = x.related in omega (arith, q, related) in
          let o : t.unsettled ≡ opens fs = let q = x.unsettled in omega (arith, q, unsettled) in
          ap (λ (i : Option ℕ). lines_with i p fs) possible
          ∙ ap₂ (λ (i j : ℕ). lines_of p fs ++ counts_line i j ∷ []) (sym r) (sym o)

      both_put : (after : ℕ) (k : Option (List ℕ)) → PutsLines (counts ∷ []) t.bytes after t.held k
          → PutsLines (lines_of p fs ++ counts ∷ []) 0 after s.held k
      both_put after k put =
          subst (λ (i : ℕ). PutsLines (lines_of p fs ++ counts ∷ []) i after s.held k) empty
          (puts_both (lines_of p fs) (counts ∷ []) s.bytes t.bytes after s.held t.held k x.put put)

      tells : TellsFirst None fs t.first
      tells = subst (λ (o : Option ProveError). TellsFirst o fs t.first) first x.first

      none_open : (gs : List Finding) (o : Option ProveError) (end : SearchEnd) → TellsFirst None gs o → o ≡ None → first_open end gs ≡ end
      none_open [] o end h e = refl
      none_open (g ∷ gs) o end h e = go (outcome_of g.ending) (λ r. none_open gs o end r e) h
        where
          go : (q : CandidateOutcome) → (TellsFirst None gs o → first_open end gs ≡ end) → IfOpen q ((i : ProveError) × EndsSo g i × (o ≡ Some i)) (TellsFirst None gs o)
              → open_end_at q g (first_open end gs) ≡ end
          go open_still on (i, ends, is) = absurd (let r : None ≡ Some i = sym e ∙ is in cc)
          go relation on r = on r
          go nothing on r = on r

      -- the end of the first open one's log
      abbrev OpensSo : SearchEnd → ProveError → Type 0
      OpensSo end i = (f : Finding) × EndsSo f i × (end ≡ open_by f.ending (length f.lines))

      one_open_end : (gs : List Finding) (o : Option ProveError) (end : SearchEnd) (i : ProveError) → TellsFirst None gs o → o ≡ Some i
          → OpensSo (first_open end gs) i
      one_open_end [] o end i h e = absurd (let r : None ≡ Some i = sym h ∙ e in cc)
      one_open_end (g ∷ gs) o end i h e = go (outcome_of g.ending) (λ r. one_open_end gs o end i r e) h
        where
          go : (q : CandidateOutcome) → (TellsFirst None gs o → OpensSo (first_open end gs) i) → IfOpen q ((j : ProveError) × EndsSo g j × (o ≡ Some j)) (TellsFirst None gs o)
              → OpensSo (open_end_at q g (first_open end gs)) i
          go open_still on (j, ends, is) = (g, subst (λ (y : ProveError). EndsSo g y) (let r : Some j ≡ Some i = sym is ∙ e in cc) ends, refl)
          go relation on r = on r
          go nothing on r = on r

      whole : whole_end fs ≡ first_open (found (relations fs)) fs
      whole = ap (λ (o : Option ℕ). end_with o fs) possible

      -- none is open
      pub all_settled : (after count : ℕ) (k : Option (List ℕ)) → t.first ≡ None → count ≡ t.related
          → PutsLines (counts ∷ []) t.bytes after t.held k → WritesFound p steps s.held k (found count)
      all_settled after count k closed same put =
          let r : relations fs ≡ count = let q = x.related in omega (arith, q, related, same) in
          written_whole fs x.found (lines_of p fs ++ counts ∷ []) all_lines after s.held k (both_put after k put) (found count)
          (whole ∙ none_open fs t.first (found (relations fs)) tells closed ∙ ap found r)

      answered : (i : ProveError) (k : Option (List ℕ)) (n m : ℕ) → ((end : SearchEnd) → whole_end fs ≡ end → WritesFound p steps s.held k end)
          → OpensSo (whole_end fs) i → IsAnswer p steps s.held k n m (answer_of i)
      answered (stopped.Spent line) k n m wrote (f, ends, is) = wrote (open_by (ends_by spent) line) (is ∙ ap₂ open_by ends.0 (sym ends.1))
      answered (stopped.TooLarge line which) k n m wrote (f, ends, is) =
          wrote (open_by (ends_by (too_large which)) line) (is ∙ ap₂ open_by ends.0 (sym ends.1))
      answered stopped.TooLong k n m wrote (f, ends, is) =
          inr (length f.lines, wrote (open_by too_long (length f.lines)) (is ∙ ap (λ e. open_by e (length f.lines)) ends))
      answered stopped.WriteFault k n m wrote (f, ends, is) = absurd ends
      answered stopped.NoMemory k n m wrote (f, ends, is) = absurd ends

      -- some are open, or the line of the counts is not written
      pub unsettled_so : (k : Option (List ℕ)) (n i m : ℕ) (e : DiscoverError) → n ≤ i → IsUnsettled t k i m e → IsAnswer p steps s.held k n m e
      unsettled_so k n i m e le (inl (error, after, is, same, put)) =
          subst (λ (y : DiscoverError). IsAnswer p steps s.held k n m y) (sym same)
          (answered error k n m
          (λ end ends. written_whole fs x.found (lines_of p fs ++ counts ∷ []) all_lines after s.held k (both_put after k put) end ends)
          (subst (λ (end : SearchEnd). OpensSo end error) (sym whole) (one_open_end fs t.first (found (relations fs)) error tells is)))
      unsettled_so k n i m e le (inr w) =
          broken_answer fs x.found (lines_of p fs ++ counts ∷ []) [] (all_lines ∙ sym (append-nil (lines_of p fs ++ counts ∷ []))) s.held k n m e
          (breaks_behind (lines_of p fs) (counts ∷ []) 0 t.bytes s.held t.held k n i m e
          (subst (λ (j : ℕ). PutsLines (lines_of p fs) j t.bytes s.held t.held) empty x.put) le w)

-- where nothing is written and memory runs out
pub nothing_written : (p : Source) (steps : ℕ) (held : Option (List ℕ)) (n m : ℕ) → IsWellFormed p → length (canonical_text p) ≤ 67108864
    → All (λ s. IsRelation s) (candidates p) → All (λ s. IsWellFormed (with_statement p s)) (candidates p)
    → IsAnswer p steps held held n m NoMemory
nothing_written p steps held n m w short related formed =
    let s : Progress = record { examined = 0; related = 0; unsettled = 0; first = None; bytes = 0; held = held } in
    stops_so p steps w short related formed s refl refl refl refl refl held n m NoMemory
    (none_broken p steps (candidates p) s n m (omega arith))
