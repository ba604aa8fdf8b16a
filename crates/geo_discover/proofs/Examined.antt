-- From what is added for a candidate to what a search has examined.
use Rattle.std.proofs.Common.{◌≡◌, ◌≢◌, ◌⊎◌, ℕ, ◌<◌, ◌^◌, inl, inr, Option, Some, None, List, [], ◌∷◌, map, refl, sym, ◌∙◌, ap, subst}
use Rattle.std.specs.List.{AllByRecursion}
use Rattle.geo_program.specs.declared.statements.Statement.{Statement}
use Rattle.geo_program.specs.Relations.{with_statement}
use Rattle.geo_program.specs.WellFormed.{IsWellFormed, Source}
use Rattle.proof_log.specs.declared.log.Line.{Line}
use Rattle.proof_log.specs.Lines.{line_text, log_text}
use Rattle.proof_log.specs.Writable.{HasNoLineFeed}
use Rattle.geo_chain.specs.declared.errors.ProveError.{ProveError}
use Rattle.geo_chain.specs.declared.errors.ProveError.TheVariants as stopped
use Rattle.geo_discover.specs.declared.errors.DiscoverError.{DiscoverError}
use Rattle.geo_discover.specs.declared.errors.DiscoverError.TheVariants as error
use Rattle.geo_discover.specs.declared.examining.Judgement.{Judgement}
use Rattle.geo_discover.specs.declared.examining.Judgement.TheVariants as judged
use Rattle.geo_discover.specs.FoundTexts.{candidate_lines, first_impossible, impossible_in, nothing, open_still, outcome_of, relation, candidate_text}
use Rattle.geo_discover.specs.Inner.Puts.{BreaksOff, PutsLines}
use Rattle.geo_discover.specs.Inner.Searching.{Adds, BreaksSearch, EndsSo, Examines, IsBroken, IsCandidate, IsJudged, IsNeverMet, Progress}
use Rattle.geo_discover.specs.Inner.Searching.{Tells, first_of, impossible_line, lines_behind, lines_due}
use Rattle.geo_discover.proofs.CandidateForms.{candidate_formed}
use Rattle.geo_discover.proofs.Judging.{finding_lines}
use Rattle.geo_discover.proofs.SearchSteps.{first_added, first_kept, one_broken, one_examined, open_ends}

module _ (p : Source) (steps : ℕ) (statement : Statement) where
  -- RELATIONS
  abbrev T : List ℕ
  T = candidate_text p statement

  -- what is told of a judgement that is known
  told : (given : Judgement) (j : IsJudged p steps statement given) (known : Judgement) → given ≡ known → Tells j.finding known
  told given j known is = subst (λ (x : Judgement). Tells j.finding x) is j.tells

  module _ (w : IsWellFormed p) (few : steps < 2 ^ 127) (candidate : IsCandidate p statement) (given : Judgement)
      (j : IsJudged p steps statement given) where
    one_line : AllByRecursion HasNoLineFeed (map line_text j.finding.lines)
    one_line =
        finding_lines p steps j.finding
        (subst (λ (x : Statement). IsWellFormed (with_statement p x)) (sym j.own) (candidate_formed p statement w candidate)) few j.is

  pub relation_examined : (log : List ℕ) (given : Judgement) (s t : Progress) → IsWellFormed p → steps < 2 ^ 127 → IsCandidate p statement
      → (j : IsJudged p steps statement given) → given ≡ judged.Relation log
      → ((lines : List Line) → log ≡ log_text lines → AllByRecursion HasNoLineFeed (map line_text lines)
      → Adds relation (candidate_lines relation T lines) s.first s t)
      → Examines p steps (statement ∷ []) s t
  relation_examined log given s t w few candidate j is adds =
      let h = told given j (judged.Relation log) is in
      let f = j.finding in
      let outcome : outcome_of f.ending ≡ relation = ap outcome_of h.1 in
      one_examined p steps statement f relation s.first s t j.own j.is outcome (λ z. ap impossible_in h.1)
      (first_kept s.first f relation outcome (λ e. let q : relation ≡ open_still = e in cc))
      (adds f.lines h.2 (one_line w few candidate given j))

  pub relation_broken : (log : List ℕ) (given : Judgement) (s : Progress) (k : Option (List ℕ)) (n m : ℕ) (e : DiscoverError) → IsWellFormed p
      → steps < 2 ^ 127 → IsCandidate p statement → (j : IsJudged p steps statement given) → given ≡ judged.Relation log
      → ((lines : List Line) → log ≡ log_text lines → AllByRecursion HasNoLineFeed (map line_text lines)
      → BreaksOff (candidate_lines relation T lines) s.bytes s.held k n m e)
      → BreaksSearch p steps (statement ∷ []) s k n m e
  relation_broken log given s k n m e w few candidate j is broken =
      let h = told given j (judged.Relation log) is in
      let f = j.finding in
      one_broken p steps statement f relation s k n m e j.own j.is (ap outcome_of h.1) (λ z. ap impossible_in h.1)
      (broken f.lines h.2 (one_line w few candidate given j))

  -- OPEN ONES
  no_verdict : (o : ProveError) (given : Judgement) (j : IsJudged p steps statement given) → EndsSo j.finding o
      → impossible_in j.finding.ending ≡ None
  no_verdict (stopped.Spent n) given j h = ap impossible_in h.0
  no_verdict (stopped.TooLarge n which) given j h = ap impossible_in h.0
  no_verdict stopped.TooLong given j h = ap impossible_in h
  no_verdict stopped.WriteFault given j h = absurd h
  no_verdict stopped.NoMemory given j h = absurd h

  pub open_examined : (o : ProveError) (given : Judgement) (s t : Progress) → (j : IsJudged p steps statement given) → given ≡ judged.Open o
      → ((lines : List Line) → Adds open_still (candidate_lines open_still T lines) (first_of s.first o) s t)
      → Examines p steps (statement ∷ []) s t
  open_examined o given s t j is adds =
      let h = told given j (judged.Open o) is in
      let f = j.finding in
      one_examined p steps statement f open_still (first_of s.first o) s t j.own j.is (open_ends f o h) (λ z. no_verdict o given j h)
      (first_added s.first f o h) (adds f.lines)

  pub open_broken : (o : ProveError) (given : Judgement) (s : Progress) (k : Option (List ℕ)) (n m : ℕ) (e : DiscoverError)
      → (j : IsJudged p steps statement given) → given ≡ judged.Open o
      → ((lines : List Line) → BreaksOff (candidate_lines open_still T lines) s.bytes s.held k n m e)
      → BreaksSearch p steps (statement ∷ []) s k n m e
  open_broken o given s k n m e j is broken =
      let h = told given j (judged.Open o) is in
      let f = j.finding in
      one_broken p steps statement f open_still s k n m e j.own j.is (open_ends f o h) (λ z. no_verdict o given j h) (broken f.lines)

  -- OF WHICH NOTHING IS WRITTEN
  pub fails_examined : (given : Judgement) (s t : Progress) → (j : IsJudged p steps statement given) → given ≡ judged.Fails
      → Adds nothing [] s.first s t → Examines p steps (statement ∷ []) s t
  fails_examined given s t j is adds =
      let h = told given j judged.Fails is in
      let f = j.finding in
      let outcome : outcome_of f.ending ≡ nothing = ap outcome_of h.2 in
      one_examined p steps statement f nothing s.first s t j.own j.is outcome (λ z. ap impossible_in h.2)
      (first_kept s.first f nothing outcome (λ e. let q : nothing ≡ open_still = e in cc)) adds

  pub impossible_examined : (i : ℕ) (given : Judgement) (s t : Progress) → (j : IsJudged p steps statement given) → given ≡ judged.Impossible i
      → (s.examined ≢ 0) × Adds nothing [] s.first s t → Examines p steps (statement ∷ []) s t
  impossible_examined i given s t j is (later, adds) =
      let h = told given j (judged.Impossible i) is in
      let f = j.finding in
      let outcome : outcome_of f.ending ≡ nothing = ap outcome_of h.1 in
      one_examined p steps statement f nothing s.first s t j.own j.is outcome (λ z. absurd (later z))
      (first_kept s.first f nothing outcome (λ e. let q : nothing ≡ open_still = e in cc)) adds

  -- the first candidate says that a condition is never met
  pub impossible_broken : (i : ℕ) (given : Judgement) (s : Progress) (k : Option (List ℕ)) (n m : ℕ) (e : DiscoverError)
      → (j : IsJudged p steps statement given) → given ≡ judged.Impossible i → IsNeverMet i s k n m e
      → BreaksSearch p steps (statement ∷ []) s k n m e
  impossible_broken i given s k n m e j is (zero_there, broken) = record {
    front = statement ∷ [];
    rest = [];
    split = refl;
    findings = j.finding ∷ [];
    found = (j.own, j.is, tt);
    last = go broken;
  }
    where
      one : first_impossible (j.finding ∷ []) ≡ Some i
      one = ap impossible_in (told given j (judged.Impossible i) is).1

      due : lines_behind s.examined p (j.finding ∷ []) ≡ impossible_line i ∷ []
      due = ap (λ (x : ℕ). lines_behind x p (j.finding ∷ [])) zero_there ∙ ap (λ (o : Option ℕ). lines_due o p (j.finding ∷ [])) one

      broken_by : (x : DiscoverError) → BreaksOff (impossible_line i ∷ []) s.bytes s.held k n m x
          → IsBroken p (j.finding ∷ []) s k n m x
      broken_by (error.Impossible y) b = absurd b.last
      broken_by (error.Spent y) b = b.last
      broken_by (error.TooLarge y which) b = b.last
      broken_by error.TooLong b = subst (λ (ls : List (List ℕ)). BreaksOff ls s.bytes s.held k n m error.TooLong) (sym due) b
      broken_by error.WriteFault b = subst (λ (ls : List (List ℕ)). BreaksOff ls s.bytes s.held k n m error.WriteFault) (sym due) b
      broken_by error.NoMemory b = subst (λ (ls : List (List ℕ)). BreaksOff ls s.bytes s.held k n m error.NoMemory) (sym due) b

      go : ((e ≡ error.Impossible i) × (after : ℕ) × PutsLines (impossible_line i ∷ []) s.bytes after s.held k)
          ⊎ BreaksOff (impossible_line i ∷ []) s.bytes s.held k n m e → IsBroken p (j.finding ∷ []) s k n m e
      go (inl (same, after, put)) =
          subst (λ (x : DiscoverError). IsBroken p (j.finding ∷ []) s k n m x) (sym same) (zero_there, one, after, put)
      go (inr b) = broken_by e b
