-- Steps of a search, one after another.
use Rattle.std.proofs.Common.{◌≡◌, ℕ, zero, suc, ◌+◌, ◌≤◌, Option, Some, None, List, [], ◌∷◌, ◌++◌, append-nil, append_assoc}
use Rattle.std.proofs.Common.{length, refl, sym, ◌∙◌, ap, subst, arith}
use Rattle.std.proofs.lemmas.List.{length-append}
use Rattle.std.proofs.lemmas.List.Concat.{flat_map-append}
use Rattle.std.proofs.lemmas.List.Sums.{sum_by-append}
use Rattle.geo_program.specs.declared.statements.Statement.{Statement}
use Rattle.geo_program.specs.WellFormed.{Source}
use Rattle.geo_chain.specs.declared.errors.ProveError.{ProveError}
use Rattle.geo_chain.specs.declared.errors.ProveError.TheVariants as stopped
use Rattle.geo_discover.specs.declared.errors.DiscoverError.{DiscoverError}
use Rattle.geo_discover.specs.declared.errors.DiscoverError.TheVariants.{Impossible, Spent, TooLarge, TooLong, WriteFault, NoMemory}
use Rattle.geo_discover.specs.FoundTexts.{AreFindings, Finding, IsFinding, CandidateOutcome, candidate_lines, first_impossible, impossible_in, nothing}
use Rattle.geo_discover.specs.FoundTexts.{one_open, one_relation, open_still, opens, outcome_of, relation, relations, candidate_text}
use Rattle.geo_discover.specs.Inner.Puts.{BreaksOff, PutsLines}
use Rattle.geo_discover.specs.Inner.Searching.{Adds, BreaksSearch, EndsSo, Examines, IfOpen, IsBroken, Progress, TellsFirst, first_of}
use Rattle.geo_discover.specs.Inner.Searching.{impossible_line, lines_behind, lines_due, lines_of}
use Rattle.geo_discover.proofs.Putting.{breaks_behind, no_memory, puts_both, puts_none}

-- FINDINGS
module _ (p : Source) (steps : ℕ) where
  pub are_both : (ss us : List Statement) (fs gs : List Finding) → AreFindings p steps ss fs → AreFindings p steps us gs
      → AreFindings p steps (ss ++ us) (fs ++ gs)
  are_both [] us [] gs a b = b
  are_both [] us (f ∷ fs) gs a b = absurd a
  are_both (s ∷ ss) us [] gs a b = absurd a
  are_both (s ∷ ss) us (f ∷ fs) gs a b = (a.0, a.1, are_both ss us fs gs a.2 b)

  pub as_many : (ss : List Statement) (fs : List Finding) → AreFindings p steps ss fs → length ss ≡ length fs
  as_many [] [] a = refl
  as_many [] (f ∷ fs) a = absurd a
  as_many (s ∷ ss) [] a = absurd a
  as_many (s ∷ ss) (f ∷ fs) a = ap suc (as_many ss fs a.2)

  pub none_found : (ss : List Statement) (fs : List Finding) → AreFindings p steps ss fs → length ss ≡ 0 → fs ≡ []
  none_found ss [] a e = refl
  none_found [] (f ∷ fs) a e = absurd a
  none_found (s ∷ ss) (f ∷ fs) a e = absurd (let q : suc (length ss) ≡ 0 = e in omega (arith, q))

pub lines_both : (p : Source) (fs gs : List Finding) → lines_of p (fs ++ gs) ≡ lines_of p fs ++ lines_of p gs
lines_both p fs gs = flat_map-append (λ (f : Finding). candidate_lines (outcome_of f.ending) (candidate_text p f.statement) f.lines) fs gs

-- the lines that are due behind some findings
pub behind_both : (p : Source) (n m : ℕ) (fs gs : List Finding) → m ≡ n + length fs → (n ≡ 0 → first_impossible fs ≡ None)
    → lines_behind n p (fs ++ gs) ≡ lines_of p fs ++ lines_behind m p gs
behind_both p (suc n) m fs gs e possible =
    let k : m ≡ suc (n + length fs) = omega (arith, e) in
    lines_both p fs gs ∙ ap (λ (i : ℕ). lines_of p fs ++ lines_behind i p gs) (sym k)
behind_both p zero m [] gs e possible =
    let k : m ≡ zero = e in
    ap (λ (i : ℕ). lines_behind i p gs) (sym k)
behind_both p zero m (f ∷ fs) gs e possible =
    let k : m ≡ suc (length fs) = omega (arith, e) in
    ap (λ (o : Option ℕ). lines_due o p (f ∷ (fs ++ gs))) (possible refl) ∙ lines_both p (f ∷ fs) gs
    ∙ ap (λ (i : ℕ). lines_of p (f ∷ fs) ++ lines_behind i p gs) (sym k)

-- where the first one's condition can be met, the lines are those of the findings
pub behind_none : (p : Source) (n : ℕ) (fs : List Finding) → (n ≡ 0 → first_impossible fs ≡ None) → lines_behind n p fs ≡ lines_of p fs
behind_none p (suc n) fs possible = refl
behind_none p zero fs possible = ap (λ (o : Option ℕ). lines_due o p fs) (possible refl)

-- THE FIRST OPEN ONE
pub first_none : (o : Option ProveError) → TellsFirst o [] o
first_none None = refl
first_none (Some e) = refl

first_both : (a b d : Option ProveError) (fs gs : List Finding) → TellsFirst a fs b → TellsFirst b gs d → TellsFirst a (fs ++ gs) d
first_both (Some e) b d fs gs h k = subst (λ (x : Option ProveError). TellsFirst x gs d) h k
first_both None b d [] gs h k = subst (λ (x : Option ProveError). TellsFirst x gs d) h k
first_both None b d (f ∷ fs) gs h k = go (outcome_of f.ending) (λ r. first_both None b d fs gs r k) h
  where
    go : (o : CandidateOutcome) → (TellsFirst None fs b → TellsFirst None (fs ++ gs) d) → IfOpen o ((e : ProveError) × EndsSo f e × (b ≡ Some e)) (TellsFirst None fs b)
        → IfOpen o ((e : ProveError) × EndsSo f e × (d ≡ Some e)) (TellsFirst None (fs ++ gs) d)
    go open_still on (e, ends, is) = (e, ends, subst (λ (x : Option ProveError). TellsFirst x gs d) is k)
    go relation on r = on r
    go nothing on r = on r

-- ONE CANDIDATE
pub open_ends : (f : Finding) (e : ProveError) → EndsSo f e → outcome_of f.ending ≡ open_still
open_ends f (stopped.Spent n) h = ap outcome_of h.0
open_ends f (stopped.TooLarge n which) h = ap outcome_of h.0
open_ends f stopped.TooLong h = ap outcome_of h
open_ends f stopped.WriteFault h = absurd h
open_ends f stopped.NoMemory h = absurd h

-- no open one more
pub first_kept : (a : Option ProveError) (f : Finding) (o : CandidateOutcome) → outcome_of f.ending ≡ o → (o ≡ open_still → ⊥) → TellsFirst a (f ∷ []) a
first_kept (Some e) f o is closed = refl
first_kept None f o is closed = go (outcome_of f.ending) is
  where
    go : (q : CandidateOutcome) → q ≡ o → IfOpen q ((e : ProveError) × EndsSo f e × (◌≡◌ {A = Option ProveError} None (Some e)))
        (◌≡◌ {A = Option ProveError} None None)
    go open_still same = absurd (closed (sym same))
    go relation same = refl
    go nothing same = refl

-- an open one more
pub first_added : (a : Option ProveError) (f : Finding) (e : ProveError) → EndsSo f e → TellsFirst a (f ∷ []) (first_of a e)
first_added (Some e') f e ends = refl
first_added None f e ends =
    subst (λ (o : CandidateOutcome). IfOpen o ((x : ProveError) × EndsSo f x × (◌≡◌ {A = Option ProveError} (Some e) (Some x)))
    (◌≡◌ {A = Option ProveError} (Some e) None)) (sym (open_ends f e ends)) (e, ends, refl)

-- its lines
pub lines_one : (p : Source) (s : Statement) (f : Finding) (o : CandidateOutcome) → f.statement ≡ s → outcome_of f.ending ≡ o
    → candidate_lines o (candidate_text p s) f.lines ≡ lines_of p (f ∷ [])
lines_one p s f o own is =
    ap (λ (x : CandidateOutcome). candidate_lines x (candidate_text p s) f.lines) (sym is)
    ∙ ap (λ (x : Statement). candidate_lines (outcome_of f.ending) (candidate_text p x) f.lines) (sym own)
    ∙ sym (append-nil (candidate_lines (outcome_of f.ending) (candidate_text p f.statement) f.lines))

pub one_examined : (p : Source) (steps : ℕ) (statement : Statement) (f : Finding) (o : CandidateOutcome) (first : Option ProveError) (s t : Progress)
    → f.statement ≡ statement → IsFinding p steps f → outcome_of f.ending ≡ o → (s.examined ≡ 0 → impossible_in f.ending ≡ None)
    → TellsFirst s.first (f ∷ []) first → Adds o (candidate_lines o (candidate_text p statement) f.lines) first s t
    → Examines p steps (statement ∷ []) s t
one_examined p steps statement f o first s t own is outcome possible tells a = record {
  findings = f ∷ [];
  found = (own, is, tt);
  possible = possible;
  examined = a.examined;
  related =
      let e : one_relation (outcome_of f.ending) ≡ one_relation o = ap one_relation outcome in
      let r : relations (f ∷ []) ≡ one_relation (outcome_of f.ending) = omega arith in
      let q = a.related in omega (arith, e, r, q);
  unsettled =
      let e : one_open (outcome_of f.ending) ≡ one_open o = ap one_open outcome in
      let r : opens (f ∷ []) ≡ one_open (outcome_of f.ending) = omega arith in
      let q = a.unsettled in omega (arith, e, r, q);
  first = subst (λ (x : Option ProveError). TellsFirst s.first (f ∷ []) x) (sym a.first) tells;
  put = subst (λ (ls : List (List ℕ)). PutsLines ls s.bytes t.bytes s.held t.held) (lines_one p statement f o own outcome) a.put;
}

-- its lines are not all put
pub one_broken : (p : Source) (steps : ℕ) (statement : Statement) (f : Finding) (o : CandidateOutcome) (s : Progress) (k : Option (List ℕ)) (n m : ℕ)
    (e : DiscoverError) → f.statement ≡ statement → IsFinding p steps f → outcome_of f.ending ≡ o
    → (s.examined ≡ 0 → impossible_in f.ending ≡ None)
    → BreaksOff (candidate_lines o (candidate_text p statement) f.lines) s.bytes s.held k n m e → BreaksSearch p steps (statement ∷ []) s k n m e
one_broken p steps statement f o s k n m e own is outcome possible b = record {
  front = statement ∷ [];
  rest = [];
  split = refl;
  findings = f ∷ [];
  found = (own, is, tt);
  last = broken_by p (f ∷ []) s k n m e
      (subst (λ (ls : List (List ℕ)). BreaksOff ls s.bytes s.held k n m e)
      (lines_one p statement f o own outcome ∙ sym (behind_none p s.examined (f ∷ []) possible)) b);
}
  where
    broken_by : (p : Source) (fs : List Finding) (s : Progress) (k : Option (List ℕ)) (n m : ℕ) (e : DiscoverError)
        → BreaksOff (lines_behind s.examined p fs) s.bytes s.held k n m e → IsBroken p fs s k n m e
    broken_by p fs s k n m (Impossible i) b = absurd b.last
    broken_by p fs s k n m (Spent i) b = b.last
    broken_by p fs s k n m (TooLarge i which) b = b.last
    broken_by p fs s k n m TooLong b = b
    broken_by p fs s k n m WriteFault b = b
    broken_by p fs s k n m NoMemory b = b

-- memory runs out before it is judged
pub none_broken : (p : Source) (steps : ℕ) (ss : List Statement) (s : Progress) (n m : ℕ) → s.bytes ≤ 67108864
    → BreaksSearch p steps ss s s.held n m NoMemory
none_broken p steps ss s n m fits = record {
  front = [];
  rest = ss;
  split = refl;
  findings = [];
  found = tt;
  last = no_memory (lines_behind s.examined p []) s.bytes s.held n m fits;
}

-- SEVERAL CANDIDATES
pub examines_none : (p : Source) (steps : ℕ) (s : Progress) → s.bytes ≤ 67108864 → Examines p steps [] s s
examines_none p steps s fits = record {
  findings = [];
  found = tt;
  possible = λ e. refl;
  examined = omega arith;
  related = omega arith;
  unsettled = omega arith;
  first = first_none s.first;
  put = puts_none s.bytes s.held fits;
}

-- whether the first one says that a condition is never met
still_possible : (fs gs : List Finding) (n m : ℕ) → m ≡ n + length fs → (n ≡ 0 → first_impossible fs ≡ None)
    → (m ≡ 0 → first_impossible gs ≡ None) → n ≡ 0 → first_impossible (fs ++ gs) ≡ None
still_possible [] gs n m e h k z = k (omega (arith, e, z))
still_possible (f ∷ fs) gs n m e h k z = h z

pub examines_both : (p : Source) (steps : ℕ) (ss us : List Statement) (s t v : Progress) → Examines p steps ss s t → Examines p steps us t v
    → Examines p steps (ss ++ us) s v
examines_both p steps ss us s t v a b =
    let many : length ss ≡ length a.findings = as_many p steps ss a.findings a.found in
    let ea = a.examined in
    let eb = b.examined in
    record {
      findings = a.findings ++ b.findings;
      found = are_both p steps ss us a.findings b.findings a.found b.found;
      possible = still_possible a.findings b.findings s.examined t.examined (omega (arith, ea, many)) a.possible b.possible;
      examined = let l : length (ss ++ us) ≡ length ss + length us = length-append ss us in omega (arith, ea, eb, l);
      related =
          let l : relations (a.findings ++ b.findings) ≡ relations a.findings + relations b.findings =
          sum_by-append (λ (f : Finding). one_relation (outcome_of f.ending)) a.findings b.findings in
          let ra = a.related in
          let rb = b.related in
          omega (arith, ra, rb, l);
      unsettled =
          let l : opens (a.findings ++ b.findings) ≡ opens a.findings + opens b.findings =
          sum_by-append (λ (f : Finding). one_open (outcome_of f.ending)) a.findings b.findings in
          let ra = a.unsettled in
          let rb = b.unsettled in
          omega (arith, ra, rb, l);
      first = first_both s.first t.first v.first a.findings b.findings a.first b.first;
      put = subst (λ (ls : List (List ℕ)). PutsLines ls s.bytes v.bytes s.held v.held) (sym (lines_both p a.findings b.findings))
          (puts_both (lines_of p a.findings) (lines_of p b.findings) s.bytes t.bytes v.bytes s.held t.held v.held a.put b.put);
    }

-- a search that stops goes no further
pub breaks_early : (p : Source) (steps : ℕ) (ss us : List Statement) (s : Progress) (k : Option (List ℕ)) (n m : ℕ) (e : DiscoverError)
    → BreaksSearch p steps ss s k n m e → BreaksSearch p steps (ss ++ us) s k n m e
breaks_early p steps ss us s k n m e b = record {
  front = b.front;
  rest = b.rest ++ us;
  split = ap (λ (xs : List Statement). xs ++ us) b.split ∙ append_assoc b.front b.rest us;
  findings = b.findings;
  found = b.found;
  last = b.last;
}

-- behind candidates that were examined
pub breaks_later : (p : Source) (steps : ℕ) (ss us : List Statement) (s t : Progress) (k : Option (List ℕ)) (n i m : ℕ) (e : DiscoverError)
    → Examines p steps ss s t → n ≤ i → BreaksSearch p steps us t k i m e → BreaksSearch p steps (ss ++ us) s k n m e
breaks_later p steps ss us s t k n i m e a le b = record {
  front = ss ++ b.front;
  rest = b.rest;
  split = ap (λ (xs : List Statement). ss ++ xs) b.split ∙ sym (append_assoc ss b.front b.rest);
  findings = a.findings ++ b.findings;
  found = are_both p steps ss b.front a.findings b.findings a.found b.found;
  last = go e b.last;
}
  where
    many : length ss ≡ length a.findings
    many = as_many p steps ss a.findings a.found

    counted : t.examined ≡ s.examined + length a.findings
    counted = let q = a.examined in omega (arith, q, many)

    behind : (x : DiscoverError) → BreaksOff (lines_behind t.examined p b.findings) t.bytes t.held k i m x
        → BreaksOff (lines_behind s.examined p (a.findings ++ b.findings)) s.bytes s.held k n m x
    behind x w =
        subst (λ (ls : List (List ℕ)). BreaksOff ls s.bytes s.held k n m x)
        (sym (behind_both p s.examined t.examined a.findings b.findings counted a.possible))
        (breaks_behind (lines_of p a.findings) (lines_behind t.examined p b.findings) s.bytes t.bytes s.held t.held k n i m x a.put le w)

    go : (x : DiscoverError) → IsBroken p b.findings t k i m x → IsBroken p (a.findings ++ b.findings) s k n m x
    go (Impossible j) (first, is, after, put) =
        let zero_there : s.examined ≡ 0 = omega (arith, first, counted) in
        let none : a.findings ≡ [] = none_found p steps ss a.findings a.found (omega (arith, first, counted, many)) in (
          zero_there,
          ap (λ (xs : List Finding). first_impossible (xs ++ b.findings)) none ∙ is,
          after,
          puts_both [] (impossible_line j ∷ []) s.bytes t.bytes after s.held t.held k
              (subst (λ (xs : List Finding). PutsLines (lines_of p xs) s.bytes t.bytes s.held t.held) none a.put) put,
        )
    go (Spent j) w = w
    go (TooLarge j which) w = w
    go TooLong w = behind TooLong w
    go WriteFault w = behind WriteFault w
    go NoMemory w = behind NoMemory w

-- A WALK
-- the first of the candidates are examined, and these are left
pub record IsWalked (p : Source) (steps : ℕ) (all left : List Statement) (s t : Progress) : Type 0 where
  pub front : List Statement
  pub split : front ++ left ≡ all
  pub examined : Examines p steps front s t

pub walk_begins : (p : Source) (steps : ℕ) (all : List Statement) (s : Progress) → s.bytes ≤ 67108864 → IsWalked p steps all all s s
walk_begins p steps all s fits = record { front = []; split = refl; examined = examines_none p steps s fits }

pub walk_on : (p : Source) (steps : ℕ) (all left rest : List Statement) (x : Statement) (s t u : Progress) → left ≡ x ∷ rest
    → IsWalked p steps all left s t → Examines p steps (x ∷ []) t u → IsWalked p steps all rest s u
walk_on p steps all left rest x s t u e h one = record {
  front = h.front ++ x ∷ [];
  split = append_assoc h.front (x ∷ []) rest ∙ ap (λ (xs : List Statement). h.front ++ xs) (sym e) ∙ h.split;
  examined = examines_both p steps h.front (x ∷ []) s t u h.examined one;
}

pub walk_ends : (p : Source) (steps : ℕ) (all left : List Statement) (s t : Progress) → left ≡ [] → IsWalked p steps all left s t
    → Examines p steps all s t
walk_ends p steps all left s t e h =
    subst (λ (xs : List Statement). Examines p steps xs s t)
    (sym (append-nil h.front) ∙ ap (λ (xs : List Statement). h.front ++ xs) (sym e) ∙ h.split) h.examined

pub walk_breaks : (p : Source) (steps : ℕ) (all left rest : List Statement) (x : Statement) (s t : Progress) (held : Option (List ℕ)) (n i m : ℕ)
    (e : DiscoverError) → left ≡ x ∷ rest → IsWalked p steps all left s t → n ≤ i
    → BreaksSearch p steps (x ∷ []) t held i m e → BreaksSearch p steps all s held n m e
walk_breaks p steps all left rest x s t held n i m e is h le b =
    let one = x ∷ [] in
    subst (λ (xs : List Statement). BreaksSearch p steps xs s held n m e)
    (append_assoc h.front one rest ∙ ap (λ (xs : List Statement). h.front ++ xs) (sym is) ∙ h.split)
    (breaks_early p steps (h.front ++ one) rest s held n m e (breaks_later p steps h.front one s t held n i m e h.examined le b))

-- OTHER NAMES OF THE STEPS
pub examines_with : {p : Source} {n m : ℕ} {ss : List Statement} {s t : Progress} → n ≡ m → Examines p n ss s t → Examines p m ss s t
examines_with {p} {n} {m} {ss} {s} {t} e h = subst (λ (k : ℕ). Examines p k ss s t) e h

pub breaks_with : {p : Source} {n m : ℕ} {ss : List Statement} {s : Progress} {held : Option (List ℕ)} {a b : ℕ} {e : DiscoverError} → n ≡ m
    → BreaksSearch p n ss s held a b e → BreaksSearch p m ss s held a b e
breaks_with {p} {n} {m} {ss} {s} {held} {a} {b} {e} same h = subst (λ (k : ℕ). BreaksSearch p k ss s held a b e) same h

-- WHERE THERE IS NO CANDIDATE
pub is_none : {A : Type 0} (o : Option A) → ((x : A) → o ≡ Some x → ⊥) → o ≡ None
is_none None n = refl
is_none (Some x) n = absurd (n x refl)
