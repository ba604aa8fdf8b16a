-- The prover's log goes on line by line to its end.
use Rattle.std.proofs.Common.{◌≡◌, ℕ, zero, suc, ◌+◌, ◌-◌, ◌<◌, ◌≤◌, ◌⊎◌, inl, inr, ⊎_elim, ℤ, Option, Some, None, List, [], ◌∷◌, ◌++◌, length, append-nil, refl, sym, ◌∙◌, ap, subst, arith, lit≤}
use Rattle.std.specs.Prelude.{slice_get, take}
use Rattle.std.specs.List.{AllByRecursion, flat_map}
use Rattle.std.proofs.lemmas.List.{append_assoc, length-append}
use Rattle.std.proofs.lemmas.Grind.{flat_map-append}
use Rattle.geo_poly.specs.declared.variables.Var.{Var}
use Rattle.geo_poly.specs.Polynomials.{Summands}
use Rattle.geo_terms.specs.Constructions.{Construction}
use Rattle.geo_terms.specs.Trees.{Tree}
use Rattle.proof_log.specs.declared.log.Line.{Line}
use Rattle.proof_log.specs.declared.log.Line.TheVariants.{Header}
use Rattle.proof_log.specs.declared.log.Verdict.{Verdict}
use Rattle.proof_log.specs.Lines.{line_text}
use Rattle.geo_logs.specs.Chains.{Chain, ChainStep, moves, cuts, IsEnd}
use Rattle.geo_logs.specs.Starts.{IsStarted, start_charge, start_of}
use Rattle.geo_logs.specs.Defined.{IsDefinedChain, IsLogOfProver, LeadsBySteps, NoCutDue}
use Rattle.geo_logs.specs.Ends.{Ending, IsDefinedLog, IsNext, Next, comes, ends_by, ends_with, stop_line, stops, text_length, too_long}
use Rattle.geo_logs.specs.Logs.{AreConditionsWorked, Subject}
use Rattle.geo_logs.specs.Moves.{Stop, Table, move_charge, replacement}
use Rattle.geo_logs.specs.Places.{AreConditionsBegun, IsBegun, Place, before_line, before_sample, before_start, first_lines, in_chain}
use Rattle.geo_logs.specs.Samples.{IsLeastSample}
use Rattle.log_checker.proofs.Onwards.{AreClosed, Comes, conditions_on, conditions_start}

-- at each place that the prover's log reaches, a line or a stop comes next
abbrev pub GoesOnEverywhere : Table → Subject → ℕ → Type 0
GoesOnEverywhere table subject steps =
    let c = subject.construction in
    (lines : List Line) (place : Place) → IsBegun (LeadsBySteps table c) (IsDefinedChain table c) (IsLeastSample c) subject steps lines place → (next : Next) × IsNext table c place next

pub at_most : (a b : ℕ) → (a ≤ b) ⊎ (b < a)
at_most zero b = inl (omega arith)
at_most (suc a) zero = inr (omega arith)
at_most (suc a) (suc b) = ⊎_elim (λ (h : a ≤ b). inl (omega (arith, h))) (λ (h : b < a). inr (omega (arith, h))) (at_most a b)

-- the line that is due comes
due : (line other : Line) → comes line ≡ comes other → line ≡ other
due line other e = cc

module _ (table : Table) (c : Construction) where
  abbrev Leads : List Var → ℕ → Summands → List ChainStep → ℕ → Summands → Type 0
  Leads = LeadsBySteps table c

  abbrev Works : List Var → ℕ → Tree → Chain → ℕ → Type 0
  Works = IsDefinedChain table c

  abbrev Chosen : List Summands → ℕ → List (Var × ℤ) → ℕ → Type 0
  Chosen = IsLeastSample c

  -- the prover ends a chain where no cut is due and no quantity of points is left
  abbrev Ends : List Var → Summands → Type 0
  Ends known q = NoCutDue known q × IsEnd q

  -- one step more
  one_more : (known : List Var) (left : ℕ) (q : Summands) (steps : List ChainStep) (after : ℕ) (last : Summands) (step : ChainStep) (left' : ℕ) (r : Summands)
      → Leads known left q steps after last → Leads known after last (step ∷ []) left' r → Leads known left q (steps ++ step ∷ []) left' r
  one_more known left q [] after last step left' r h g =
      subst (λ k. Leads known k q (step ∷ []) left' r) (sym h.0) (subst (λ t. Leads known after t (step ∷ []) left' r) (sym h.1) g)
  one_more known left q (moves m s ∷ steps) after last step left' r h g =
      (h.0, h.1, h.2, one_more known (left - move_charge (replacement table c m q) q) s steps after last step left' r h.3 g)
  one_more known left q (cuts f s ∷ steps) after last step left' r h g = (h.0, h.1, one_more known left s steps after last step left' r h.2 g)

  finished : (known : List Var) (left : ℕ) (e : Tree) (steps : List ChainStep) (after : ℕ) (last : Summands) → IsStarted left e → Leads known (left - start_charge e) (start_of e) steps after last
      → Ends known last → Works known left e (record { steps = steps; end = last }) after
  finished known left e steps after last s h end = record { started = s; leads = h; no_cut = end.0; ended = end.1 }

  closed : AreClosed Leads Works Ends
  closed = record { none = λ known left q. (refl, refl); more = one_more; whole = finished }

  -- what comes next in the prover's log
  pub comes_next : (place : Place) (line : Line) → IsNext table c place (comes line) → Comes Leads Works Chosen Ends place line
  comes_next (before_line other) line n = due line other n
  comes_next (before_start left e) line n = n
  comes_next (in_chain known left q) line (inl n) = inl n
  comes_next (in_chain known left q) line (inr n) = inr (n.2, (n.0, n.1))
  comes_next (before_sample listed left) line n = n

-- THE FIRST LINES
one_line_more : {A : Type 0} (fs : List A) (k : ℕ) (x : A) → slice_get fs k ≡ Some x
    → ((y : A) × (slice_get fs (suc k) ≡ Some y) × (take k fs ++ x ∷ [] ≡ take (suc k) fs)) ⊎ (take k fs ++ x ∷ [] ≡ fs)
one_line_more {A} [] k x e = absurd (let q : ◌≡◌ {A = Option A} None (Some x) = e in cc)
one_line_more {A} (f ∷ []) zero x e = let q : ◌≡◌ {A = Option A} (Some f) (Some x) = e in let same : x ≡ f = cc in inr (ap (λ y. y ∷ []) same)
one_line_more {A} (f ∷ g ∷ fs) zero x e = let q : ◌≡◌ {A = Option A} (Some f) (Some x) = e in let same : x ≡ f = cc in inl (g, refl, ap (λ y. y ∷ []) same)
one_line_more {A} (f ∷ fs) (suc k) x e =
    ⊎_elim (λ (h : (y : A) × (slice_get fs (suc k) ≡ Some y) × (take k fs ++ x ∷ [] ≡ take (suc k) fs)). inl (h.0, h.1, ap (λ ys. f ∷ ys) h.2))
    (λ (h : take k fs ++ x ∷ [] ≡ fs). inr (ap (λ ys. f ∷ ys) h)) (one_line_more fs k x e)

-- WHOLE LOGS
module _ (table : Table) (subject : Subject) (steps : ℕ) where
  abbrev C : Construction
  C = subject.construction

  abbrev Begun : List Line → Place → Type 0
  Begun xs place = IsBegun (LeadsBySteps table C) (IsDefinedChain table C) (IsLeastSample C) subject steps xs place

  abbrev BegunRest : List Line → Place → Type 0
  BegunRest xs place = AreConditionsBegun (LeadsBySteps table C) (IsDefinedChain table C) (IsLeastSample C) subject.goals [] [] 1 steps subject.conditions xs place

  abbrev WorkedRest : List Line → Verdict → ℕ → Type 0
  WorkedRest xs verdict l = AreConditionsWorked (IsDefinedChain table C) (IsLeastSample C) subject.goals [] [] 1 steps subject.conditions xs verdict l

  pub log_on : (xs : List Line) (place : Place) (line : Line) → Begun xs place → IsNext table C place (comes line)
      → ((place' : Place) × Begun (xs ++ line ∷ []) place') ⊎ ((verdict : Verdict) × (l : ℕ) × IsLogOfProver table subject steps (xs ++ line ∷ []) verdict l)
  log_on xs place line (inl (k, first, at, taken, stands)) n =
      let is : line ≡ first = comes_next table C (before_line first) line (subst (λ p. IsNext table C p (comes line)) stands n) in
      let F = first_lines subject in
      let here : xs ++ line ∷ [] ≡ take k F ++ first ∷ [] = λ i. taken i ++ is i ∷ [] in
      ⊎_elim (λ (h : (y : Line) × (slice_get F (suc k) ≡ Some y) × (take k F ++ first ∷ [] ≡ take (suc k) F)). inl (before_line h.0, inl (suc k, h.0, h.1, here ∙ h.2, refl)))
      (λ (h : take k F ++ first ∷ [] ≡ F).
      let start = conditions_start (LeadsBySteps table C) (IsDefinedChain table C) (IsLeastSample C) (Ends table C) (closed table C) subject.goals [] [] 1 steps subject.conditions in
      inl (start.0, inr ([], here ∙ h ∙ sym (append-nil F), start.1))) (one_line_more F k first at)
  log_on xs place line (inr (rest, split, h)) n =
      let F = first_lines subject in
      let here : xs ++ line ∷ [] ≡ F ++ (rest ++ line ∷ []) = ap (λ ys. ys ++ line ∷ []) split ∙ append_assoc F rest (line ∷ []) in
      ⊎_elim (λ (r : (place' : Place) × BegunRest (rest ++ line ∷ []) place'). inl (r.0, inr (rest ++ line ∷ [], here, r.1)))
      (λ (r : (verdict : Verdict) × (l : ℕ) × WorkedRest (rest ++ line ∷ []) verdict l).
      inr (r.0, r.1, record { rest = rest ++ line ∷ []; split = here; worked = r.2 }))
      (conditions_on (LeadsBySteps table C) (IsDefinedChain table C) (IsLeastSample C) (Ends table C) (closed table C) subject.goals []
      [] 1 steps subject.conditions rest place line h (comes_next table C place line n))

  text-more : (xs : List Line) (line : Line) → text_length xs < text_length (xs ++ line ∷ [])
  text-more xs line =
      let f : Line → List ℕ = λ l. line_text l ++ 10 ∷ [] in
      let a : text_length (xs ++ line ∷ []) ≡ length (flat_map f xs ++ flat_map f (line ∷ [])) = ap length (flat_map-append f xs (line ∷ [])) in
      let b : length (flat_map f xs ++ flat_map f (line ∷ [])) ≡ text_length xs + length (flat_map f (line ∷ [])) = length-append (flat_map f xs) (flat_map f (line ∷ [])) in
      let d : length (flat_map f (line ∷ [])) ≡ length (f line) = ap length (append-nil (f line)) in
      let e : length (f line) ≡ length (line_text line) + 1 = length-append (line_text line) (10 ∷ []) in
      omega (arith, a, b, d, e)

  -- the lines begin a defined log, and its further lines have the property
  pub record IsContinued (Holds : Line → Type 0) (xs : List Line) : Type 0 where
    pub rest : List Line
    pub ending : Ending
    pub defined : IsDefinedLog table subject steps (xs ++ rest) ending
    pub hold : AllByRecursion Holds rest

  module _ (Holds : Line → Type 0) (everywhere : GoesOnEverywhere table subject steps)
      (next_holds : (xs : List Line) (place : Place) (line : Line) → Begun xs place → text_length xs ≤ 67108864 → IsNext table C place (comes line) → Holds line)
      (stop_holds : (xs : List Line) (stop : Stop) → text_length xs ≤ 67108864 → Holds (stop_line (suc (length xs)) stop)) where
    abbrev Continued : List Line → Type 0
    Continued xs = IsContinued Holds xs

    -- where the list with the line goes on, so does the list
    one_before : (xs : List Line) (line : Line) → Holds line → Continued (xs ++ line ∷ []) → Continued xs
    one_before xs line h g = record {
      rest = line ∷ g.rest;
      ending = g.ending;
      defined = subst (λ ls. IsDefinedLog table subject steps ls g.ending) (append_assoc xs (line ∷ []) g.rest) g.defined;
      hold = (h, g.hold);
    }

    -- where longer beginnings have an end, so has one that goes on
    one_on : (fuel : ℕ) (xs : List Line) (place : Place) → Begun xs place → text_length xs ≤ 67108864 → 67108864 < suc fuel + text_length xs
        → ((ys : List Line) (p : Place) → Begun ys p → text_length ys ≤ 67108864 → 67108864 < fuel + text_length ys → Continued ys)
        → (next : Next) → IsNext table C place next → Continued xs
    one_on fuel xs place h fits enough again (stops stop) n =
        record { rest = stop_line (suc (length xs)) stop ∷ []; ending = ends_by stop; defined = (xs, refl, (place, h, n), fits); hold = (stop_holds xs stop fits, tt) }
    one_on fuel xs place h fits enough again (comes line) n =
        let own = next_holds xs place line h fits n in
        ⊎_elim
        (λ (small : text_length (xs ++ line ∷ []) ≤ 67108864).
        ⊎_elim
        (λ (r : (place' : Place) × Begun (xs ++ line ∷ []) place').
        one_before xs line own (again (xs ++ line ∷ []) r.0 r.1 small (let u : text_length xs < text_length (xs ++ line ∷ []) = text-more xs line in omega (arith, u, enough))))
        (λ (r : (verdict : Verdict) × (l : ℕ) × IsLogOfProver table subject steps (xs ++ line ∷ []) verdict l).
        let found : Continued xs = record { rest = line ∷ []; ending = ends_with r.0 r.1; defined = (r.2, small); hold = (own, tt) } in found)
        (log_on xs place line h n))
        (λ (big : 67108864 < text_length (xs ++ line ∷ [])).
        let found : Continued xs = record {
          rest = [];
          ending = too_long;
          defined = subst (λ ls. IsDefinedLog table subject steps ls too_long) (sym (append-nil xs)) (line, (place, h, n), fits, big);
          hold = tt;
        } in found)
        (at_most (text_length (xs ++ line ∷ [])) 67108864)

    -- a beginning goes on to an end: each line takes some of the text that is left
    continued_from : (fuel : ℕ) (xs : List Line) (place : Place) → Begun xs place → text_length xs ≤ 67108864 → 67108864 < fuel + text_length xs → Continued xs
    continued_from zero xs place h fits enough = absurd (omega (arith, fits, enough))
    continued_from (suc fuel) xs place h fits enough =
        let next = everywhere xs place h in one_on fuel xs place h fits enough (λ ys p b f e. continued_from fuel ys p b f e) next.0 next.1

    pub continued : (xs : List Line) (place : Place) → Begun xs place → text_length xs ≤ 67108864 → Continued xs
    continued xs place h fits = continued_from 67108865 xs place h fits (omega arith)

  -- the header is due first
  pub begun_first : Begun [] (before_line (Header subject.version))
  begun_first = inl (0, Header subject.version, refl, refl, refl)

  pub none_fits : text_length [] ≤ 67108864
  none_fits = lit≤ tt
