-- Where a search ends with a condition that is never met, no placement meets the commands.
use Rattle.std.proofs.Common.{◌≡◌, ℕ, suc, ◌^◌, ◌<◌, ◌≤◌, ◌⊎◌, All, inl, inr, not, Option, Some, None, List, [], ◌∷◌, ◌++◌, filter, length, map}
use Rattle.std.proofs.Common.{append-nil, refl, sym, ap, ◌∙◌, subst}
use Rattle.std.proofs.lemmas.List.Elements.{All-append, All-cons, All-head, All-map, All-nil, All-same, All-weaker}
use Rattle.geo_points.specs.declared.ids.PointId.{PointId}
use Rattle.geo_points.specs.Placements.{Placement}
use Rattle.geo_points.specs.Points.{Point as Triple}
use Rattle.ring_laws.specs.Fraction.{Fraction}
use Rattle.geo_program.specs.declared.commands.Command.{Command}
use Rattle.geo_program.specs.declared.names.NameKind.TheVariants as kind
use Rattle.geo_program.specs.declared.statements.Statement.{Statement}
use Rattle.geo_program.specs.declared.statements.Statement.TheVariants.{Collinear, Concyclic, Parallel, Perpendicular, SameLength}
use Rattle.geo_program.specs.Relations.{with_statement}
use Rattle.geo_program.specs.WellFormed.{IsWellFormed, Source}
use Rattle.geo_program.proofs.OnceNamed.{All-front}
use Rattle.geo_terms.specs.Stores.{Store}
use Rattle.geo_lowering.specs.CommandsMet.{AreCommandsMet, IsCommandMet}
use Rattle.geo_lowering.specs.Conditions.{Condition, IsConditionMet, crossing, different, nonzero, not_collinear, not_parallel}
use Rattle.geo_lowering.specs.Counting.{counted, named, next_number}
use Rattle.geo_conditions.specs.Lists.{Found, all_found, found_at, found_from}
use Rattle.geo_conditions.specs.Statements.{statement_conditions}
use Rattle.geo_conditions.specs.Truth.{IsImpossible, Meets}
use Rattle.geo_logs.specs.Ends.{Ending, ends_by, ends_with, too_long}
use Rattle.log_checker.proofs.Decision.{defined_verdicts_decide}
use Rattle.log_checker.proofs.DefinedBytes.{defined_bytes_are_accepted}
use Rattle.proof_log.specs.declared.log.Verdict.{Verdict}
use Rattle.proof_log.specs.declared.log.Verdict.TheVariants.{False, Impossible, Proved}
use Rattle.proof_log.specs.Lines.{verdict_text}
use Rattle.log_checker.specs.ProgramLogs.{IsLogOf}
use Rattle.geo_discover.specs.Candidates.{candidates, candidates_over, points_of, quadruples, segments_over, share_point, triples}
use Rattle.geo_discover.specs.FoundTexts.{AreFindings, Finding, FirstIsAccepted, ImpossibleSearchesTell, IsSearched, CandidateOutcome, cut, open_end_at}
use Rattle.geo_discover.specs.FoundTexts.{end_with, lines_with}
use Rattle.geo_discover.specs.FoundTexts.{first_impossible, first_open, found, found_lines, impossible, impossible_in, nothing, open_by, open_still}
use Rattle.geo_discover.specs.FoundTexts.{outcome_of, relation, relations, whole_end}
use Rattle.log_checker.specs.Checkers.{with_feeds}
use Rattle.geo_discover.proofs.CandidateLaws.{candidates_are_well_formed}

-- A STATEMENT IN THE PLACE OF ANOTHER
module _ (p : Source) (s t : Statement) (placed : Placement) where
  -- what meets a command with one statement meets it with the other
  command_met : (X : Triple) (n : Fraction) (c : Command) → IsCommandMet (with_statement p s) placed X n c → IsCommandMet (with_statement p t) placed X n c
  command_met X n _ h = h

  commands_met : (x m : ℕ) (cs : List Command) → AreCommandsMet (with_statement p s) placed x m cs → AreCommandsMet (with_statement p t) placed x m cs
  commands_met x m [] h = tt
  commands_met x m (c ∷ cs) h =
      (command_met (placed.point x) (placed.number m) c h.0, commands_met (counted kind.Point (named c) x) (next_number m c) cs h.1)

  condition_met : (c : Condition) → IsConditionMet (with_statement p s) placed c → IsConditionMet (with_statement p t) placed c
  condition_met (different a b) h = h
  condition_met (not_collinear a b c) h = h
  condition_met (not_parallel a b c d) h = h
  condition_met (crossing a b) h = h
  condition_met (nonzero e) h = h

  abbrev Had : Found → Type 0
  Had f = IsConditionMet (with_statement p s) placed f.condition

  abbrev Met : Found → Type 0
  Met f = IsConditionMet (with_statement p t) placed f.condition

  -- where the other statement gives no condition, what meets the program meets it with that
  meets_other : statement_conditions p.nodes t ≡ [] → Meets (with_statement p s) placed → Meets (with_statement p t) placed
  meets_other none h =
      let given : List Found = found_from p.nodes 0 1 p.commands in
      let all_given : all_found (with_statement p t) ≡ given =
      ap (λ (cs : List Condition). given ++ found_at (suc (length p.commands)) cs) none ∙ append-nil given in
      let had : All Had given = All-front Had given (found_at (suc (length p.commands)) (statement_conditions p.nodes s)) h.conditions in
      record {
        commands = commands_met 0 0 p.commands h.commands;
        conditions = All-same Met (all_found (with_statement p t)) given all_given (All-weaker Had Met (λ f. condition_met f.condition) given had);
      }

-- CANDIDATES GIVE NO CONDITION
all_of : {A : Type 0} (P : A → Type 0) → ((x : A) → P x) → (xs : List A) → All P xs
all_of P h [] = All-nil P
all_of P h (x ∷ xs) = All-cons P x xs (h x) (all_of P h xs)

module _ (nodes : Store) where
  abbrev GivesNone : Statement → Type 0
  GivesNone s = statement_conditions nodes s ≡ []

  candidates_give_none : (points : List PointId) → All GivesNone (candidates_over points)
  candidates_give_none points =
      let none : ◌≡◌ {A = List Condition} [] [] = refl in
      let segments = segments_over points in
      let distinct = filter (λ s. not (share_point s)) segments in
      let A : List Statement = map (λ t. Collinear t.0 t.1 t.2) (triples points) in
      let B : List Statement = map (λ s. Parallel s.0.0 s.0.1 s.1.0 s.1.1) distinct in
      let C : List Statement = map (λ s. Perpendicular s.0.0 s.0.1 s.1.0 s.1.1) segments in
      let D : List Statement = map (λ s. SameLength s.0.0 s.0.1 s.1.0 s.1.1) segments in
      let E : List Statement = map (λ q. Concyclic q.0 q.1 q.2 q.3) (quadruples points) in
      let a : All GivesNone A = All-map GivesNone (λ t. Collinear t.0 t.1 t.2) (triples points)
      (all_of (λ t. GivesNone (Collinear t.0 t.1 t.2)) (λ t. none) (triples points)) in
      let b : All GivesNone B = All-map GivesNone (λ s. Parallel s.0.0 s.0.1 s.1.0 s.1.1) distinct
      (all_of (λ s. GivesNone (Parallel s.0.0 s.0.1 s.1.0 s.1.1)) (λ s. none) distinct) in
      let d : All GivesNone C = All-map GivesNone (λ s. Perpendicular s.0.0 s.0.1 s.1.0 s.1.1) segments
      (all_of (λ s. GivesNone (Perpendicular s.0.0 s.0.1 s.1.0 s.1.1)) (λ s. none) segments) in
      let e : All GivesNone D = All-map GivesNone (λ s. SameLength s.0.0 s.0.1 s.1.0 s.1.1) segments
      (all_of (λ s. GivesNone (SameLength s.0.0 s.0.1 s.1.0 s.1.1)) (λ s. none) segments) in
      let f : All GivesNone E = All-map GivesNone (λ q. Concyclic q.0 q.1 q.2 q.3) (quadruples points)
      (all_of (λ q. GivesNone (Concyclic q.0 q.1 q.2 q.3)) (λ q. none) (quadruples points)) in
      All-append GivesNone (A ++ B ++ C ++ D) E
      (All-append GivesNone (A ++ B ++ C) D (All-append GivesNone (A ++ B) C (All-append GivesNone A B a b) d) e) f

-- THE END OF THE SEARCH
-- the search ends so only where the first log says it
not_open : (r k : ℕ) (fs : List Finding) → first_open (found r) fs ≡ impossible k → ⊥
not_open r k [] e = let q : found r ≡ impossible k = e in cc
not_open r k (f ∷ fs) e = go (outcome_of f.ending) e (not_open r k fs)
  where
    go : (o : CandidateOutcome) → open_end_at o f (first_open (found r) fs) ≡ impossible k → (first_open (found r) fs ≡ impossible k → ⊥) → ⊥
    go relation is rest = rest is
    go nothing is rest = rest is
    go open_still is rest = let q : open_by f.ending (length f.lines) ≡ impossible k = is in cc

said_first : (k : ℕ) (o : Option ℕ) (fs : List Finding) → end_with o fs ≡ impossible k → o ≡ Some k
said_first k (Some j) fs e = let q : impossible j ≡ impossible k = e in cc
said_first k None fs e = absurd (not_open (relations fs) k fs e)

-- the log that says it ends with that verdict
says_so : (k : ℕ) (ending : Ending) → impossible_in ending ≡ Some k → (left : ℕ) × (ending ≡ ends_with (Impossible k) left)
says_so k (ends_with Proved left) e = absurd (let q : ◌≡◌ {A = Option ℕ} None (Some k) = e in cc)
says_so k (ends_with (False g) left) e = absurd (let q : ◌≡◌ {A = Option ℕ} None (Some k) = e in cc)
says_so k (ends_with (Impossible j) left) e =
    let same : j ≡ k = (let q : ◌≡◌ {A = Option ℕ} (Some j) (Some k) = e in cc) in
    (left, ap (λ (i : ℕ). ends_with (Impossible i) left) same)
says_so k (ends_by stop) e = absurd (let q : ◌≡◌ {A = Option ℕ} None (Some k) = e in cc)
says_so k too_long e = absurd (let q : ◌≡◌ {A = Option ℕ} None (Some k) = e in cc)

module _ (p : Source) (steps k : ℕ) (few : steps < 2 ^ 127) where
  abbrev Formed : Statement → Type 0
  Formed s = IsWellFormed (with_statement p s)

  abbrev NeverMet : Type 0
  NeverMet = FirstIsAccepted p steps (Impossible k) × ((statement : Statement) → IsImpossible (with_statement p statement))

  of_log : (s : Statement) (rest : List Statement) (f : Finding) → candidates p ≡ s ∷ rest → Formed s → GivesNone p.nodes s → f.statement ≡ s
      → IsLogOf (with_statement p f.statement) steps f.lines f.ending → (left : ℕ) × (f.ending ≡ ends_with (Impossible k) left) → NeverMet
  of_log s rest f split formed none own log (left, ends) =
      let q = with_statement p s in
      let here : IsLogOf q steps f.lines (ends_with (Impossible k) left) =
      subst (λ (e : Ending). IsLogOf q steps f.lines e) ends (subst (λ (x : Statement). IsLogOf (with_statement p x) steps f.lines f.ending) own log) in
      let decided = defined_verdicts_decide q here.subject steps left f.lines (Impossible k) formed here.about few here.defined in (
        record {
          statement = s;
          rest = rest;
          first = split;
          lines = f.lines;
          accepted = defined_bytes_are_accepted q here.subject steps left f.lines (Impossible k) formed here.about few here.defined;
        },
        λ other placed meets. decided.impossible.0 (k, refl) placed (meets_other p other s placed none meets),
      )

  of_findings : (ss : List Statement) (fs : List Finding) → candidates p ≡ ss → All Formed ss → All (GivesNone p.nodes) ss → AreFindings p steps ss fs
      → first_impossible fs ≡ Some k → NeverMet
  of_findings [] [] split formed none are says = absurd (let q : ◌≡◌ {A = Option ℕ} None (Some k) = says in cc)
  of_findings [] (f ∷ fs) split formed none are says = absurd are
  of_findings (s ∷ ss) [] split formed none are says = absurd are
  of_findings (s ∷ ss) (f ∷ fs) split formed none are says =
      of_log s ss f split (All-head Formed s ss formed) (All-head (GivesNone p.nodes) s ss none) are.0 are.1 (says_so k f.ending says)

pub impossible_searches_tell : ImpossibleSearchesTell
impossible_searches_tell p steps k lines w few h =
    of_findings p steps k few (candidates p) h.findings refl (candidates_are_well_formed p w) (candidates_give_none p.nodes (points_of p)) h.found
    (says h.written)
  where
    says : ((lines ≡ found_lines p h.findings) × (length (with_feeds lines) ≤ 67108864) × (impossible k ≡ whole_end h.findings))
        ⊎ ((line : List ℕ) × (more : List (List ℕ)) × (found_lines p h.findings ≡ lines ++ line ∷ more) × (length (with_feeds lines) ≤ 67108864)
        × (67108864 < length (with_feeds (lines ++ line ∷ []))) × (impossible k ≡ cut))
        → first_impossible h.findings ≡ Some k
    says (inl all) = said_first k (first_impossible h.findings) h.findings (sym all.2)
    says (inr part) = absurd (let q : impossible k ≡ cut = part.5 in cc)

-- what is written then is that line
pub impossible_lines : (p : Source) (steps k : ℕ) (lines : List (List ℕ)) → IsSearched p steps lines (impossible k)
    → lines ≡ verdict_text (Impossible k) ∷ []
impossible_lines p steps k lines h = is h.written
  where
    is : ((lines ≡ found_lines p h.findings) × (length (with_feeds lines) ≤ 67108864) × (impossible k ≡ whole_end h.findings))
        ⊎ ((line : List ℕ) × (more : List (List ℕ)) × (found_lines p h.findings ≡ lines ++ line ∷ more) × (length (with_feeds lines) ≤ 67108864)
        × (67108864 < length (with_feeds (lines ++ line ∷ []))) × (impossible k ≡ cut))
        → lines ≡ verdict_text (Impossible k) ∷ []
    is (inl all) =
        all.0 ∙ ap (λ (o : Option ℕ). lines_with o p h.findings) (said_first k (first_impossible h.findings) h.findings (sym all.2))
    is (inr part) = absurd (let q : impossible k ≡ cut = part.5 in cc)

-- OPEN CANDIDATES
-- where a search ends with an open candidate, its log does not end with a verdict
open_there : (r n : ℕ) (ending : Ending) (fs : List Finding) → first_open (found r) fs ≡ open_by ending n → outcome_of ending ≡ open_still
open_there r n ending [] e = absurd (let q : found r ≡ open_by ending n = e in cc)
open_there r n ending (f ∷ fs) e = go (outcome_of f.ending) refl e (open_there r n ending fs)
  where
    go : (o : CandidateOutcome) → outcome_of f.ending ≡ o → open_end_at o f (first_open (found r) fs) ≡ open_by ending n
        → (first_open (found r) fs ≡ open_by ending n → outcome_of ending ≡ open_still) → outcome_of ending ≡ open_still
    go relation own is rest = rest is
    go nothing own is rest = rest is
    go open_still own is rest =
        let same : f.ending ≡ ending = (let q : open_by f.ending (length f.lines) ≡ open_by ending n = is in cc) in
        ap outcome_of (sym same) ∙ own

open_first : (n : ℕ) (ending : Ending) (o : Option ℕ) (fs : List Finding) → end_with o fs ≡ open_by ending n → outcome_of ending ≡ open_still
open_first n ending (Some k) fs e = absurd (let q : impossible k ≡ open_by ending n = e in cc)
open_first n ending None fs e = open_there (relations fs) n ending fs e

no_verdict_open : (v : Verdict) (l : ℕ) → outcome_of (ends_with v l) ≡ open_still → ⊥
no_verdict_open Proved l e = let q : relation ≡ open_still = e in cc
no_verdict_open (False g) l e = let q : nothing ≡ open_still = e in cc
no_verdict_open (Impossible k) l e = let q : nothing ≡ open_still = e in cc

pub open_ends : (p : Source) (steps n : ℕ) (lines : List (List ℕ)) (ending : Ending) → IsSearched p steps lines (open_by ending n)
    → (v : Verdict) (l : ℕ) → ending ≡ ends_with v l → ⊥
open_ends p steps n lines ending h v l e = no_verdict_open v l (ap outcome_of (sym e) ∙ is h.written)
  where
    is : ((lines ≡ found_lines p h.findings) × (length (with_feeds lines) ≤ 67108864) × (open_by ending n ≡ whole_end h.findings))
        ⊎ ((line : List ℕ) × (more : List (List ℕ)) × (found_lines p h.findings ≡ lines ++ line ∷ more) × (length (with_feeds lines) ≤ 67108864)
        × (67108864 < length (with_feeds (lines ++ line ∷ []))) × (open_by ending n ≡ cut))
        → outcome_of ending ≡ open_still
    is (inl all) = open_first n ending (first_impossible h.findings) h.findings (sym all.2)
    is (inr part) = absurd (let q : open_by ending n ≡ cut = part.5 in cc)
