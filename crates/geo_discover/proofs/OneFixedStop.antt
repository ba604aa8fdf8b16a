-- A log in the fixed frame that is stopped is the only one, and where one is, none ends with a verdict.
use Rattle.std.proofs.Common.{◌≡◌, ℕ, suc, ◌-◌, inl, inr, ℤ, List, [], ◌∷◌, ◌++◌, map, refl, sym, ap, ap₂, ◌∙◌, subst}
use Rattle.geo_poly.specs.declared.variables.Var.{Var}
use Rattle.geo_poly.specs.Polynomials.{Summands}
use Rattle.geo_sample.specs.Tries.{EndIn, search_tries}
use Rattle.geo_sample.proofs.LeastSamples.{exists_one}
use Rattle.geo_terms.specs.Constructions.{Construction}
use Rattle.geo_terms.specs.Trees.{Tree}
use Rattle.proof_log.specs.declared.log.Line.{Line}
use Rattle.proof_log.specs.declared.log.Line.TheVariants.{Condition, Goal, Start, Verdict as VerdictLine}
use Rattle.proof_log.specs.declared.log.Verdict.{Verdict}
use Rattle.proof_log.specs.declared.log.Verdict.TheVariants.{False, Impossible, Proved}
use Rattle.geo_logs.specs.Chains.{Chain, ChainStep, IsEnd, chain_lines, line_of}
use Rattle.geo_logs.specs.Defined.{LeadsBySteps, NoCutDue}
use Rattle.geo_logs.specs.Ends.{Ending, IsAfterPolynomial, comes, ends_by, ends_with, stops, too_long}
use Rattle.geo_logs.specs.Logs.{AreConditionsWorked, AreGoalsWorked, BeginsWithChain, IsConcluded, Item, Subject, known_by}
use Rattle.geo_logs.specs.Moves.{Stop, Table}
use Rattle.geo_logs.specs.Places.{AreConditionsBegun, AreGoalsBegun, IsBegun, IsBegunChain, IsBegunEnd, Place, before_line, before_sample}
use Rattle.geo_logs.specs.Places.{before_start, first_lines, in_chain}
use Rattle.geo_logs.specs.Samples.{error_of}
use Rattle.geo_logs.specs.Starts.{start_charge, start_of}
use Rattle.geo_logs.proofs.OneEnd.{made_not_stopped, one_stop}
use Rattle.geo_logs.proofs.OneNext.{one_next, one_start_stop, start_not_stopped}
use Rattle.geo_logs.proofs.OneStep.{no_move}
use Rattle.geo_chain.specs.FixedLogs.{IsFixedChain, IsFixedLog, IsFixedSample, IsStopInFrame, LeadsInFrame}
use Rattle.geo_chain.specs.Frames.{after_step, framed, framed_variables}
use Rattle.geo_discover.proofs.OneFixedLog.{fixed_verdict_unique, not_over, one_after, one_due, one_fixed_chain}
use Rattle.geo_discover.specs.Laws.{FixedLogIsUnique}

no_line : {A : Type 0} (l : Line) (s : Stop) → stops s ≡ comes l → A
no_line l s e = absurd (let q : stops s ≡ comes l = e in cc)

same_stop : (s s' : Stop) → stops s ≡ stops s' → s ≡ s'
same_stop s s' e = cc

-- CHAINS
module _ (table : Table) (c : Construction) (known : List Var) where
  -- the stop is due after the polynomial
  abbrev Stopped : ℕ → Summands → Stop → Type 0
  Stopped left q s = IsAfterPolynomial table c known left q (stops s)

  stopped_from : (left k : ℕ) (q r : Summands) (s : Stop) → left ≡ k → q ≡ r → Stopped k r s → Stopped left q s
  stopped_from left k q r s e f h =
      subst (λ (x : Summands). Stopped left x s) (sym f) (subst (λ (j : ℕ). Stopped j r s) (sym e) h)

  -- where a step is due, no stop is
  due_not_stopped : {A : Type 0} (left : ℕ) (q : Summands) (x : ChainStep) (l : ℕ) (r : Summands) (s : Stop)
      → LeadsBySteps table c known left q (x ∷ []) l r → Stopped left q s → A
  due_not_stopped left q x l r s h stopped =
      no_line (line_of x) s (one_next table c known left q (stops s) (comes (line_of x)) stopped (inl (x, l, r, h, refl)))

  -- where two paths begin with a step, it is the same, and they go on from it
  abbrev GoesOnWith : ℕ → Summands → ChainStep → ChainStep → List ChainStep → ℕ → Summands → ℕ → Type 0
  GoesOnWith left q x y ys l r after = (x ≡ y) × LeadsInFrame table c known after (after_step x) ys l r

  same_step : (left : ℕ) (q : Summands) (x y : ChainStep) (ys : List ChainStep) (l : ℕ) (r : Summands) (own : ChainStep) (after : ℕ)
      → LeadsBySteps table c known left q (own ∷ []) after (after_step own) → x ≡ framed own → LeadsInFrame table c known left q (y ∷ ys) l r
      → GoesOnWith left q x y ys l r after
  same_step left q x y ys l r own after leads is (own', after', leads', is', rest) =
      let same : own ≡ own' = one_due table c known left q own own' after after' (after_step own) (after_step own') leads leads' in
      let moved : LeadsBySteps table c known left q (own ∷ []) after' (after_step own) =
      subst (λ (o : ChainStep). LeadsBySteps table c known left q (o ∷ []) after' (after_step o)) (sym same) leads' in
      let kept : after ≡ after' = one_after table c known left q own after after' (after_step own) (after_step own) leads moved in
      let step : x ≡ y = is ∙ ap framed same ∙ sym is' in (
        step,
        subst (λ (k : ℕ). LeadsInFrame table c known k (after_step x) ys l r) (sym kept)
            (subst (λ (z : ChainStep). LeadsInFrame table c known after' (after_step z) ys l r) (sym step) rest),
      )

  stopped_paths : (left : ℕ) (q : Summands) (xs ys : List ChainStep) (l l' : ℕ) (r r' : Summands) (s s' : Stop)
      → LeadsInFrame table c known left q xs l r → Stopped l r s → LeadsInFrame table c known left q ys l' r' → Stopped l' r' s'
      → (xs ≡ ys) × (s ≡ s')
  stopped_paths left q [] [] l l' r r' s s' h a g b =
      let here = stopped_from left l q r s h.0 h.1 a in
      (refl, same_stop s s' (one_next table c known left q (stops s) (stops s') here (stopped_from left l' q r' s' g.0 g.1 b)))
  stopped_paths left q [] (y ∷ ys) l l' r r' s s' h a (own, after, leads, is, rest) b =
      due_not_stopped left q own after (after_step own) s leads (stopped_from left l q r s h.0 h.1 a)
  stopped_paths left q (x ∷ xs) [] l l' r r' s s' (own, after, leads, is, rest) a g b =
      due_not_stopped left q own after (after_step own) s' leads (stopped_from left l' q r' s' g.0 g.1 b)
  stopped_paths left q (x ∷ xs) (y ∷ ys) l l' r r' s s' (own, after, leads, is, rest) a g b =
      let same = same_step left q x y ys l' r' own after leads is g in
      let found = stopped_paths after (after_step x) xs ys l l' r r' s s' rest a same.1 b in
      (ap₂ (λ (z : ChainStep) (zs : List ChainStep). z ∷ zs) same.0 found.0, found.1)

  path_not_stopped : {A : Type 0} (left : ℕ) (q : Summands) (xs ys : List ChainStep) (l l' : ℕ) (r r' : Summands) (s : Stop)
      → LeadsInFrame table c known left q xs l r → Stopped l r s → LeadsInFrame table c known left q ys l' r' → NoCutDue known r' → IsEnd r' → A
  path_not_stopped left q [] [] l l' r r' s h a g none end = over (stopped_from left l q r s h.0 h.1 a)
    where
      over : {A : Type 0} → Stopped left q s → A
      over (m, no_cut, next, stopped) = absurd (no_move table c q m (subst IsEnd (sym g.1) end) next)
  path_not_stopped left q [] (y ∷ ys) l l' r r' s h a (own, after, leads, is, rest) none end =
      due_not_stopped left q own after (after_step own) s leads (stopped_from left l q r s h.0 h.1 a)
  path_not_stopped left q (x ∷ xs) [] l l' r r' s (own, after, leads, is, rest) a g none end =
      absurd (not_over table c known left q own after (after_step own) leads (subst (NoCutDue known) (sym g.1) none) (subst IsEnd (sym g.1) end))
  path_not_stopped left q (x ∷ xs) (y ∷ ys) l l' r r' s (own, after, leads, is, rest) a g none end =
      let same = same_step left q x y ys l' r' own after leads is g in
      path_not_stopped after (after_step x) xs ys l l' r r' s rest a same.1 none end

-- BEGINNINGS
module _ (table : Table) (c : Construction) where
  abbrev ChainBegun : Line → List Var → ℕ → Tree → List Line → Place → Type 0
  ChainBegun = IsBegunChain (LeadsInFrame table c) (IsFixedChain table c) (IsFixedSample c)

  abbrev EndBegun : List Summands → Verdict → ℕ → List Line → Place → Type 0
  EndBegun = IsBegunEnd (LeadsInFrame table c) (IsFixedChain table c) (IsFixedSample c)

  abbrev GoalsBegun : List Var → List Summands → ℕ → ℕ → List Item → List Line → Place → Type 0
  GoalsBegun = AreGoalsBegun (LeadsInFrame table c) (IsFixedChain table c) (IsFixedSample c)

  abbrev ConditionsBegun : List Item → List Var → List Summands → ℕ → ℕ → List Item → List Line → Place → Type 0
  ConditionsBegun = AreConditionsBegun (LeadsInFrame table c) (IsFixedChain table c) (IsFixedSample c)

  abbrev First : Line → List Var → ℕ → Item → List Line → Type 0
  First = BeginsWithChain (IsFixedChain table c) (IsFixedSample c)

  stopped_as : (place place' : Place) (s : Stop) → place ≡ place' → IsStopInFrame table c place s → IsStopInFrame table c place' s
  stopped_as place place' s e h = subst (λ (p : Place). IsStopInFrame table c p s) e h

  line_not_stopped : {A : Type 0} (place : Place) (l : Line) (s : Stop) → place ≡ before_line l → IsStopInFrame table c place s → A
  line_not_stopped place l s e h = no_line l s (stopped_as place (before_line l) s e h)

  module _ (header : Line) (known : List Var) (left : ℕ) (e : Tree) where
    chains_stopped : (xs ys : List Line) (place place' : Place) (s s' : Stop) → ChainBegun header known left e xs place → IsStopInFrame table c place s
        → ChainBegun header known left e ys place' → IsStopInFrame table c place' s' → (xs ≡ ys) × (s ≡ s')
    chains_stopped xs ys place place' s s' (inl h) a g b = line_not_stopped place header s h.1 a
    chains_stopped xs ys place place' s s' (inr h) a (inl g) b = line_not_stopped place' header s' g.1 b
    chains_stopped xs ys place place' s s' (inr (inl h)) a (inr (inl g)) b =
        let here = stopped_as place (before_start left e) s h.1 a in
        (h.0 ∙ sym g.0, one_start_stop left e s s' here (stopped_as place' (before_start left e) s' g.1 b))
    chains_stopped xs ys place place' s s' (inr (inl h)) a (inr (inr g)) b =
        absurd (start_not_stopped left e s g.started (stopped_as place (before_start left e) s h.1 a))
    chains_stopped xs ys place place' s s' (inr (inr h)) a (inr (inl g)) b =
        absurd (start_not_stopped left e s' h.started (stopped_as place' (before_start left e) s' g.1 b))
    chains_stopped xs ys place place' s s' (inr (inr h)) a (inr (inr g)) b =
        let found = stopped_paths table c known (left - start_charge e) (start_of e) h.steps g.steps h.after g.after h.last g.last s s' h.leads
        (stopped_as place (in_chain known h.after h.last) s h.stands a) g.leads (stopped_as place' (in_chain known g.after g.last) s' g.stands b) in
        (h.split ∙ ap (λ (zs : List ChainStep). header ∷ Start (start_of e) ∷ map line_of zs) found.0 ∙ sym g.split, found.1)

    chain_not_stopped : {A : Type 0} (xs : List Line) (place : Place) (s : Stop) (chain : Chain) (after : ℕ) → ChainBegun header known left e xs place
        → IsStopInFrame table c place s → IsFixedChain table c known left e chain after → A
    chain_not_stopped xs place s chain after (inl h) a g = line_not_stopped place header s h.1 a
    chain_not_stopped xs place s chain after (inr (inl h)) a g =
        absurd (start_not_stopped left e s g.started (stopped_as place (before_start left e) s h.1 a))
    chain_not_stopped xs place s chain after (inr (inr h)) a g =
        path_not_stopped table c known (left - start_charge e) (start_of e) h.steps chain.steps h.after after h.last chain.end s h.leads
        (stopped_as place (in_chain known h.after h.last) s h.stands a) g.leads g.no_cut g.ended

  -- THE SAMPLE
  module _ (listed : List Summands) (left : ℕ) where
    abbrev SampleStopped : Stop → Type 0
    SampleStopped s = IsStopInFrame table c (before_sample listed left) s

    samples_stopped : (s s' : Stop) → SampleStopped s → SampleStopped s' → s ≡ s'
    samples_stopped s s' (rest, (xs, least, ended)) (rest', (ys, least', ended')) =
        let same : xs ≡ ys = exists_one.unique (framed_variables c) listed xs ys least least' in
        one_stop left (search_tries ys listed) rest rest' s s'
        (subst (λ (zs : List (Var × ℤ)). EndIn (error_of s) left (search_tries zs listed) rest) same ended) ended'

    sample_not_stopped : {A : Type 0} (values : List (Var × ℤ)) (left' : ℕ) (s : Stop) → IsFixedSample c listed left values left' → SampleStopped s → A
    sample_not_stopped values left' s h (rest, (xs, least, ended)) =
        let same : xs ≡ values = exists_one.unique (framed_variables c) listed xs values least h.least in
        absurd (made_not_stopped left (search_tries values listed) left' rest s h.made
        (subst (λ (ys : List (Var × ℤ)). EndIn (error_of s) left (search_tries ys listed) rest) same ended))

    ends_stopped : (verdict : Verdict) (xs ys : List Line) (place place' : Place) (s s' : Stop) → EndBegun listed verdict left xs place
        → IsStopInFrame table c place s → EndBegun listed verdict left ys place' → IsStopInFrame table c place' s' → (xs ≡ ys) × (s ≡ s')
    ends_stopped verdict xs ys place place' s s' (inl h) a (inl g) b =
        let here = stopped_as place (before_sample listed left) s h.1 a in
        (h.0 ∙ sym g.0, samples_stopped s s' here (stopped_as place' (before_sample listed left) s' g.1 b))
    ends_stopped verdict xs ys place place' s s' (inr (values, left', chosen, split, e)) a g b = line_not_stopped place (VerdictLine verdict) s e a
    ends_stopped verdict xs ys place place' s s' (inl h) a (inr (values, left', chosen, split, e)) b =
        line_not_stopped place' (VerdictLine verdict) s' e b

    end_not_stopped : {A : Type 0} (verdict : Verdict) (xs ys : List Line) (place : Place) (s : Stop) (left' : ℕ) → EndBegun listed verdict left xs place
        → IsStopInFrame table c place s → IsConcluded (IsFixedChain table c) (IsFixedSample c) listed left ys verdict left' → A
    end_not_stopped verdict xs ys place s left' (inl h) a g =
        sample_not_stopped g.values left' s g.chosen (stopped_as place (before_sample listed left) s h.1 a)
    end_not_stopped verdict xs ys place s left' (inr (values, after, chosen, split, e)) a g = line_not_stopped place (VerdictLine verdict) s e a

  -- WHAT IS THE SAME BEHIND A CHAIN
  record AreSameFirst (head : Line) (known : List Var) (left : ℕ) (item : Item) (xs ys : List Line) (first : First head known left item xs)
      (second : First head known left item ys)
      : Type 0 where
    chain : first.chain ≡ second.chain
    after : first.after ≡ second.after
    lines : first.rest ≡ second.rest → xs ≡ ys

  same_first : (head : Line) (known : List Var) (left : ℕ) (item : Item) (xs ys : List Line) (first : First head known left item xs)
      (second : First head known left item ys)
      → AreSameFirst head known left item xs ys first second
  same_first head known left item xs ys first second =
      let same = one_fixed_chain table c known left item.term first.chain second.chain first.after second.after first.works second.works in
      record {
        chain = same.0;
        after = same.1;
        lines = λ rest. first.split ∙ ap₂ (λ (x : Chain) (zs : List Line). chain_lines head item.term x ++ zs) same.0 rest ∙ sym second.split;
      }

  -- GOALS
  goals_stopped : (known : List Var) (listed : List Summands) (k left : ℕ) (items : List Item) (xs ys : List Line) (place place' : Place) (s s' : Stop)
      → GoalsBegun known listed k left items xs place → IsStopInFrame table c place s → GoalsBegun known listed k left items ys place'
      → IsStopInFrame table c place' s' → (xs ≡ ys) × (s ≡ s')
  goals_stopped known listed k left [] xs ys place place' s s' h a g b = ends_stopped listed left Proved xs ys place place' s s' h a g b
  goals_stopped known listed k left (item ∷ items) xs ys place place' s s' (inl h) a (inl g) b =
      chains_stopped (Goal k item.text) known left item.term xs ys place place' s s' h a g b
  goals_stopped known listed k left (item ∷ items) xs ys place place' s s' (inl h) a (inr (second, g)) b =
      chain_not_stopped (Goal k item.text) known left item.term xs place s second.chain second.after h a second.works
  goals_stopped known listed k left (item ∷ items) xs ys place place' s s' (inr (first, h)) a (inl g) b =
      chain_not_stopped (Goal k item.text) known left item.term ys place' s' first.chain first.after g b first.works
  goals_stopped known listed k left (item ∷ items) xs ys place place' s s' (inr (first, inl h)) a (inr (second, inl g)) b =
      let same = same_first (Goal k item.text) known left item xs ys first second in
      let goes = subst (λ (j : ℕ). GoalsBegun known listed (suc k) j items first.rest place) same.after h.1 in
      let found = goals_stopped known listed (suc k) second.after items first.rest second.rest place place' s s' goes a g.1 b in
      (same.lines found.0, found.1)
  goals_stopped known listed k left (item ∷ items) xs ys place place' s s' (inr (first, inl h)) a (inr (second, inr g)) b =
      let same = same_first (Goal k item.text) known left item xs ys first second in
      absurd (g.0 (ap (λ (x : Chain). x.end) (sym same.chain) ∙ h.0))
  goals_stopped known listed k left (item ∷ items) xs ys place place' s s' (inr (first, inr h)) a (inr (second, inl g)) b =
      let same = same_first (Goal k item.text) known left item xs ys first second in
      absurd (h.0 (ap (λ (x : Chain). x.end) same.chain ∙ g.0))
  goals_stopped known listed k left (item ∷ items) xs ys place place' s s' (inr (first, inr h)) a (inr (second, inr g)) b =
      let same = same_first (Goal k item.text) known left item xs ys first second in
      let goes = subst (λ (x : Chain). EndBegun (listed ++ x.end ∷ []) (False k) second.after first.rest place) same.chain
      (subst (λ (j : ℕ). EndBegun (listed ++ first.chain.end ∷ []) (False k) j first.rest place) same.after h.1) in
      let found = ends_stopped (listed ++ second.chain.end ∷ []) second.after (False k) first.rest second.rest place place' s s' goes a g.1 b in
      (same.lines found.0, found.1)

  goals_not_stopped : {A : Type 0} (known : List Var) (listed : List Summands) (k left : ℕ) (items : List Item) (xs ys : List Line) (place : Place)
      (s : Stop) (verdict : Verdict) (left' : ℕ)
      → GoalsBegun known listed k left items xs place → IsStopInFrame table c place s
      → AreGoalsWorked (IsFixedChain table c) (IsFixedSample c) known listed k left items ys verdict left' → A
  goals_not_stopped known listed k left [] xs ys place s verdict left' h a g = end_not_stopped listed left Proved xs ys place s left' h a g.1
  goals_not_stopped known listed k left (item ∷ items) xs ys place s verdict left' (inl h) a (second, g) =
      chain_not_stopped (Goal k item.text) known left item.term xs place s second.chain second.after h a second.works
  goals_not_stopped known listed k left (item ∷ items) xs ys place s verdict left' (inr (first, inl h)) a (second, inl g) =
      let same = same_first (Goal k item.text) known left item xs ys first second in
      let goes = subst (λ (j : ℕ). GoalsBegun known listed (suc k) j items first.rest place) same.after h.1 in
      goals_not_stopped known listed (suc k) second.after items first.rest second.rest place s verdict left' goes a g.1
  goals_not_stopped known listed k left (item ∷ items) xs ys place s verdict left' (inr (first, inl h)) a (second, inr g) =
      let same = same_first (Goal k item.text) known left item xs ys first second in
      absurd (g.0 (ap (λ (x : Chain). x.end) (sym same.chain) ∙ h.0))
  goals_not_stopped known listed k left (item ∷ items) xs ys place s verdict left' (inr (first, inr h)) a (second, inl g) =
      let same = same_first (Goal k item.text) known left item xs ys first second in
      absurd (h.0 (ap (λ (x : Chain). x.end) same.chain ∙ g.0))
  goals_not_stopped known listed k left (item ∷ items) xs ys place s verdict left' (inr (first, inr h)) a (second, inr g) =
      let same = same_first (Goal k item.text) known left item xs ys first second in
      let goes = subst (λ (x : Chain). EndBegun (listed ++ x.end ∷ []) (False k) second.after first.rest place) same.chain
      (subst (λ (j : ℕ). EndBegun (listed ++ first.chain.end ∷ []) (False k) j first.rest place) same.after h.1) in
      end_not_stopped (listed ++ second.chain.end ∷ []) second.after (False k) first.rest second.rest place s left' goes a g.2

  -- CONDITIONS
  module _ (goals : List Item) where
    conditions_stopped : (known : List Var) (listed : List Summands) (k left : ℕ) (items : List Item) (xs ys : List Line) (place place' : Place)
        (s s' : Stop)
        → ConditionsBegun goals known listed k left items xs place → IsStopInFrame table c place s
        → ConditionsBegun goals known listed k left items ys place' → IsStopInFrame table c place' s' → (xs ≡ ys) × (s ≡ s')
    conditions_stopped known listed k left [] xs ys place place' s s' h a g b =
        goals_stopped known listed 1 left goals xs ys place place' s s' h a g b
    conditions_stopped known listed k left (item ∷ items) xs ys place place' s s' (inl h) a (inl g) b =
        chains_stopped (Condition k item.text) known left item.term xs ys place place' s s' h a g b
    conditions_stopped known listed k left (item ∷ items) xs ys place place' s s' (inl h) a (inr (second, g)) b =
        chain_not_stopped (Condition k item.text) known left item.term xs place s second.chain second.after h a second.works
    conditions_stopped known listed k left (item ∷ items) xs ys place place' s s' (inr (first, h)) a (inl g) b =
        chain_not_stopped (Condition k item.text) known left item.term ys place' s' first.chain first.after g b first.works
    conditions_stopped known listed k left (item ∷ items) xs ys place place' s s' (inr (first, inl h)) a (inr (second, g)) b =
        line_not_stopped place (VerdictLine (Impossible k)) s h.2 a
    conditions_stopped known listed k left (item ∷ items) xs ys place place' s s' (inr (first, inr h)) a (inr (second, inl g)) b =
        line_not_stopped place' (VerdictLine (Impossible k)) s' g.2 b
    conditions_stopped known listed k left (item ∷ items) xs ys place place' s s' (inr (first, inr h)) a (inr (second, inr g)) b =
        let same = same_first (Condition k item.text) known left item xs ys first second in
        let more : List Var = known ++ known_by (item ∷ []) in
        let goes = subst (λ (x : Chain). ConditionsBegun goals more (listed ++ x.end ∷ []) (suc k) second.after items first.rest place) same.chain
        (subst (λ (j : ℕ). ConditionsBegun goals more (listed ++ first.chain.end ∷ []) (suc k) j items first.rest place) same.after h.1) in
        let found = conditions_stopped more (listed ++ second.chain.end ∷ []) (suc k) second.after items first.rest second.rest place place' s s'
        goes a g.1 b in
        (same.lines found.0, found.1)

    conditions_not_stopped : {A : Type 0} (known : List Var) (listed : List Summands) (k left : ℕ) (items : List Item) (xs ys : List Line) (place : Place)
        (s : Stop) (verdict : Verdict) (left' : ℕ)
        → ConditionsBegun goals known listed k left items xs place → IsStopInFrame table c place s
        → AreConditionsWorked (IsFixedChain table c) (IsFixedSample c) goals known listed k left items ys verdict left' → A
    conditions_not_stopped known listed k left [] xs ys place s verdict left' h a g =
        goals_not_stopped known listed 1 left goals xs ys place s verdict left' h a g
    conditions_not_stopped known listed k left (item ∷ items) xs ys place s verdict left' (inl h) a (second, g) =
        chain_not_stopped (Condition k item.text) known left item.term xs place s second.chain second.after h a second.works
    conditions_not_stopped known listed k left (item ∷ items) xs ys place s verdict left' (inr (first, inl h)) a (second, g) =
        line_not_stopped place (VerdictLine (Impossible k)) s h.2 a
    conditions_not_stopped known listed k left (item ∷ items) xs ys place s verdict left' (inr (first, inr h)) a (second, inl g) =
        let same = same_first (Condition k item.text) known left item xs ys first second in
        absurd (h.0 (ap (λ (x : Chain). x.end) same.chain ∙ g.0))
    conditions_not_stopped known listed k left (item ∷ items) xs ys place s verdict left' (inr (first, inr h)) a (second, inr g) =
        let same = same_first (Condition k item.text) known left item xs ys first second in
        let more : List Var = known ++ known_by (item ∷ []) in
        let goes = subst (λ (x : Chain). ConditionsBegun goals more (listed ++ x.end ∷ []) (suc k) second.after items first.rest place) same.chain
        (subst (λ (j : ℕ). ConditionsBegun goals more (listed ++ first.chain.end ∷ []) (suc k) j items first.rest place) same.after h.1) in
        conditions_not_stopped more (listed ++ second.chain.end ∷ []) (suc k) second.after items first.rest second.rest place s verdict left' goes a g.1

-- WHOLE LOGS
module _ (table : Table) (subject : Subject) (steps : ℕ) where
  abbrev c : Construction
  c = subject.construction

  abbrev Begun : List Line → Place → Type 0
  Begun = IsBegun (LeadsInFrame table c) (IsFixedChain table c) (IsFixedSample c) subject steps

  logs_stopped : (xs ys : List Line) (place place' : Place) (s s' : Stop) → Begun xs place → IsStopInFrame table c place s → Begun ys place'
      → IsStopInFrame table c place' s' → (xs ≡ ys) × (s ≡ s')
  logs_stopped xs ys place place' s s' (inl (k, line, at, split, e)) a g b = line_not_stopped table c place line s e a
  logs_stopped xs ys place place' s s' (inr h) a (inl (k, line, at, split, e)) b = line_not_stopped table c place' line s' e b
  logs_stopped xs ys place place' s s' (inr (rest, split, h)) a (inr (rest', split', g)) b =
      let found = conditions_stopped table c subject.goals [] [] 1 steps subject.conditions rest rest' place place' s s' h a g b in
      (split ∙ ap (λ (zs : List Line). first_lines subject ++ zs) found.0 ∙ sym split', found.1)

  log_not_stopped : {A : Type 0} (xs ys : List Line) (place : Place) (s : Stop) (verdict : Verdict) (left : ℕ) → Begun xs place → IsStopInFrame table c place s
      → IsFixedLog table subject steps ys (ends_with verdict left) → A
  log_not_stopped xs ys place s verdict left (inl (k, line, at, split, e)) a g = line_not_stopped table c place line s e a
  log_not_stopped xs ys place s verdict left (inr (rest, split, h)) a g =
      conditions_not_stopped table c subject.goals [] [] 1 steps subject.conditions rest g.rest place s verdict left h a g.worked

  one_log : (xs ys : List Line) (e f : Ending) → IsFixedLog table subject steps xs e → IsFixedLog table subject steps ys f → (xs ≡ ys) × (e ≡ f)
  one_log xs ys (ends_with v l) (ends_with w l') h g =
      let same = fixed_verdict_unique table subject steps l l' xs ys v w h g in
      (same.0, ap₂ ends_with same.1 same.2)
  one_log xs ys (ends_with v l) (ends_by s) h (place, begun, stopped) = log_not_stopped ys xs place s v l begun stopped h
  one_log xs ys (ends_by s) (ends_with v l) (place, begun, stopped) g = log_not_stopped xs ys place s v l begun stopped g
  one_log xs ys (ends_by s) (ends_by s') (place, begun, stopped) (place', begun', stopped') =
      let same = logs_stopped xs ys place place' s s' begun stopped begun' stopped' in (same.0, ap ends_by same.1)
  one_log xs ys (ends_with v l) too_long h g = absurd g
  one_log xs ys (ends_by s) too_long h g = absurd g
  one_log xs ys too_long f h g = absurd h

pub fixed_log_unique : FixedLogIsUnique
fixed_log_unique table subject steps lines other ending ending' h g = one_log table subject steps lines other ending ending' h g
