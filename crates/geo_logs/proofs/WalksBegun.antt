-- What is walked to a place begins a log by its chains there.
use Rattle.std.proofs.Common.{◌≡◌, ℕ, zero, suc, ◌-◌, ◌⊎◌, inl, inr, ℤ, Option, Some, List, [], ◌∷◌, ◌++◌, length, map, drop, refl, sym, ap, ap₂, ◌∙◌, subst, arith}
use Rattle.std.specs.Prelude.{slice_get}
use Rattle.std.proofs.lemmas.List.{length-drop}
use Rattle.std.specs.List.{cons_option}
use Rattle.geo_poly.specs.declared.variables.Var.{Var}
use Rattle.geo_poly.specs.Polynomials.{Summands}
use Rattle.proof_log.specs.Steps.{polynomial_on}
use Rattle.proof_log.specs.declared.log.Line.{Line}
use Rattle.proof_log.specs.declared.log.Line.TheVariants.{Start, Sample, Verdict as VerdictLine}
use Rattle.proof_log.specs.declared.log.Verdict.{Verdict}
use Rattle.proof_log.specs.declared.log.Verdict.TheVariants.{False, Impossible}
use Rattle.geo_logs.specs.Behind.{behind, behind_chain, behind_start, behind_step, condition_due, goal_due}
use Rattle.geo_logs.specs.Chains.{ChainStep, chain_lines, line_of}
use Rattle.geo_logs.specs.Logs.{Item, Subject, only_variable}
use Rattle.geo_logs.specs.Places.{AreConditionsBegun, AreGoalsBegun, IsBegunEnd, IsOpenChain, Place, before_line, before_start, in_chain}
use Rattle.geo_logs.specs.Starts.{IsStarted, start_charge, start_of}
use Rattle.geo_logs.specs.WalkLaws.{Follow}
use Rattle.geo_logs.specs.Walks.{AllowsWhere, Rules, StandsAt, StandsWhere, Walks, first_walk, header_of, item_of, result_of}
use Rattle.geo_logs.specs.declared.walk.DueLine.{DueLine}
use Rattle.geo_logs.specs.declared.walk.DueLine.TheVariants as due
use Rattle.geo_logs.specs.declared.walk.Task.{Task}
use Rattle.geo_logs.specs.declared.walk.Task.TheVariants as task
use Rattle.geo_logs.specs.declared.walk.Walk.{Walk}
use Rattle.geo_logs.proofs.ChainsWalked.{IsChainBy}
use Rattle.geo_logs.proofs.ClosedChains.{IsClosed, chain_split, closed_end, closed_step}
use Rattle.geo_logs.proofs.WalkPlaces.{IsCounted, counted_due, drop_item, empty_list, line_polynomial, no_item, one_item, some_terms}

module _ (rules : Rules) (subject : Subject) where
  -- the lines begin the chains of these conditions, those of these goals, the end of the log
  abbrev pub Conditions : List Var → List Summands → ℕ → ℕ → List Item → List Line → Place → Type 0
  Conditions known ends k left items lines place =
      AreConditionsBegun (Follow rules) (IsChainBy rules) rules.samples subject.goals known ends k left items lines place

  abbrev pub Goals : List Var → List Summands → ℕ → ℕ → List Item → List Line → Place → Type 0
  Goals known ends k left items lines place =
      AreGoalsBegun (Follow rules) (IsChainBy rules) rules.samples known ends k left items lines place

  -- behind a chain with this end
  abbrev pub BehindBegun : List Var → List Summands → ℕ → Task → Option Var → Summands → List Line → Place → Type 0
  BehindBegun known ends left (task.Condition k) own [] lines place = (lines ≡ []) × (place ≡ before_line (VerdictLine (Impossible k)))
  BehindBegun known ends left (task.Condition k) own (x ∷ q) lines place =
      Conditions (known ++ cons_option own []) (ends ++ (x ∷ q) ∷ []) (suc k) left (drop k subject.conditions) lines place
  BehindBegun known ends left (task.Goal k) own [] lines place = Goals known ends (suc k) left (drop k subject.goals) lines place
  BehindBegun known ends left (task.Goal k) own (x ∷ q) lines place =
      IsBegunEnd (Follow rules) (IsChainBy rules) rules.samples (ends ++ (x ∷ q) ∷ []) (False k) left lines place

  -- steps of a chain alone
  pub record IsOpen (known : List Var) (left : ℕ) (q : Summands) (lines : List Line) (place : Place) : Type 0 where
    pub steps : List ChainStep
    pub after : ℕ
    pub last : Summands
    pub follow : Follow rules known left q steps after last
    pub split : lines ≡ map line_of steps
    pub stands : place ≡ in_chain known after last

  -- the rest of a chain, and what is begun behind it
  abbrev pub ClosedBegun : List Var → List Summands → ℕ → Task → Option Var → Summands → List Line → Place → Type 0
  ClosedBegun known ends left t own q lines place =
      IsClosed rules (λ after last rest. BehindBegun known ends after t own last rest place) known left q lines

  abbrev pub StepBegun : List Var → List Summands → ℕ → Task → Option Var → Summands → List Line → Place → Type 0
  StepBegun known ends left t own q lines place = IsOpen known left q lines place ⊎ ClosedBegun known ends left t own q lines place

  -- the start, and what is begun behind it
  pub record IsStartedChain (known : List Var) (ends : List Summands) (left : ℕ) (t : Task) (item : Item) (lines : List Line)
      (place : Place) : Type 0 where
    pub started : IsStarted left item.term
    pub tail : List Line
    pub split : lines ≡ Start (start_of item.term) ∷ tail
    pub steps : StepBegun known ends (left - start_charge item.term) t (only_variable (start_of item.term)) (start_of item.term) tail place

  abbrev pub StartBegun : List Var → List Summands → ℕ → Task → Item → List Line → Place → Type 0
  StartBegun known ends left t item lines place =
      ((lines ≡ []) × (place ≡ before_start left item.term)) ⊎ IsStartedChain known ends left t item lines place

  -- what the lines begin where this is due
  abbrev pub Begun : List Var → List Summands → ℕ → DueLine → List Line → Place → Type 0
  Begun known ends left (due.Header (task.Condition zero)) lines place = ⊥
  Begun known ends left (due.Header (task.Condition (suc i))) lines place =
      Conditions known ends (suc i) left (drop i subject.conditions) lines place
  Begun known ends left (due.Header (task.Goal zero)) lines place = ⊥
  Begun known ends left (due.Header (task.Goal (suc i))) lines place = Goals known ends (suc i) left (drop i subject.goals) lines place
  Begun known ends left (due.Start t) lines place =
      (item : Item) × (item_of subject t ≡ Some item) × StartBegun known ends left t item lines place
  Begun known ends left (due.Step t own q) lines place = StepBegun known ends left t own q lines place
  Begun known ends left (due.Sample v) lines place =
      IsBegunEnd (Follow rules) (IsChainBy rules) rules.samples ends v left lines place
  Begun known ends left (due.Verdict v) lines place = (lines ≡ []) × (place ≡ before_line (VerdictLine v))
  Begun known ends left (due.Nothing v) lines place = ⊥

  abbrev pub here : ℕ → ℕ → List Var → List Summands → ℕ → DueLine → Walk
  here c g known ends left d = record {
    conditions = c;
    goals = g;
    known = known;
    ends = ends;
    budget = record { left = left };
    due = d;
  }

  abbrev pub whole : List Var → List Summands → ℕ → DueLine → Walk
  whole known ends left d = here (length subject.conditions) (length subject.goals) known ends left d

  -- no line
  none_begun : (known : List Var) (ends : List Summands) (left : ℕ) (d : DueLine) (place : Place)
      → StandsWhere subject (whole known ends left d) d place → Begun known ends left d [] place
  none_begun known ends left (due.Header (task.Condition zero)) place (item, is, at) = no_item item is
  none_begun known ends left (due.Header (task.Condition (suc i))) place (item, is, at) =
      subst (λ (xs : List Item). Conditions known ends (suc i) left xs [] place) (sym (drop_item subject.conditions i item is))
      (inl (inl (refl, at)))
  none_begun known ends left (due.Header (task.Goal zero)) place (item, is, at) = no_item item is
  none_begun known ends left (due.Header (task.Goal (suc i))) place (item, is, at) =
      subst (λ (xs : List Item). Goals known ends (suc i) left xs [] place) (sym (drop_item subject.goals i item is))
      (inl (inl (refl, at)))
  none_begun known ends left (due.Start t) place (item, is, at) = (item, is, inl (refl, at))
  none_begun known ends left (due.Step t own q) place at =
      inl (record { steps = []; after = left; last = q; follow = (refl, refl); split = refl; stands = at })
  none_begun known ends left (due.Sample v) place at = inl (refl, at)
  none_begun known ends left (due.Verdict v) place at = (refl, at)
  none_begun known ends left (due.Nothing v) place at = absurd at

  -- behind the goals before number k + 1
  goals_left : (known : List Var) (ends : List Summands) (left k : ℕ) (lines : List Line) (place : Place) (n : ℕ)
      → length subject.goals - k ≡ n → Begun known ends left (goal_due k n) lines place
      → Goals known ends (suc k) left (drop k subject.goals) lines place
  goals_left known ends left k lines place zero e h =
      subst (λ (xs : List Item). Goals known ends (suc k) left xs lines place)
      (sym (empty_list (drop k subject.goals) (length-drop k subject.goals ∙ e))) h
  goals_left known ends left k lines place (suc n) e h = h

  conditions_left : (known : List Var) (ends : List Summands) (left k : ℕ) (lines : List Line) (place : Place) (n : ℕ)
      → length subject.conditions - k ≡ n → Begun known ends left (condition_due (length subject.goals) k n) lines place
      → Conditions known ends (suc k) left (drop k subject.conditions) lines place
  conditions_left known ends left k lines place zero e h =
      subst (λ (xs : List Item). Conditions known ends (suc k) left xs lines place)
      (sym (empty_list (drop k subject.conditions) (length-drop k subject.conditions ∙ e)))
      (goals_left known ends left 0 lines place (length subject.goals) (omega arith) h)
  conditions_left known ends left k lines place (suc n) e h = h

  -- behind the end of a chain
  chain_left : (known : List Var) (ends : List Summands) (left : ℕ) (t : Task) (own : Option Var) (q : Summands) (d : DueLine)
      (lines : List Line) (place : Place) → let v = behind_chain (whole known ends left d) t own q in
      Begun v.known v.ends v.budget.left v.due lines place → BehindBegun known ends left t own q lines place
  chain_left known ends left (task.Condition k) own [] d lines place h = h
  chain_left known ends left (task.Condition k) own (x ∷ q) d lines place h =
      conditions_left (known ++ cons_option own []) (ends ++ (x ∷ q) ∷ []) left k lines place (length subject.conditions - k) refl h
  chain_left known ends left (task.Goal k) own [] d lines place h = goals_left known ends left k lines place (length subject.goals - k) refl h
  chain_left known ends left (task.Goal k) own (x ∷ q) d lines place h = h

  -- A CHAIN WHOSE HEADER IS DUE
  -- a chain that is open
  chain_open : (known : List Var) (left : ℕ) (header : Line) (item : Item) (lines tail : List Line) (place : Place)
      → lines ≡ Start (start_of item.term) ∷ tail → IsStarted left item.term
      → IsOpen known (left - start_charge item.term) (start_of item.term) tail place
      → IsOpenChain (Follow rules) (IsChainBy rules) rules.samples header known left item.term (header ∷ lines) place
  chain_open known left header item lines tail place split started h = record {
    steps = h.steps;
    after = h.after;
    last = h.last;
    started = started;
    leads = h.follow;
    split = ap (λ (ls : List Line). header ∷ ls) (split ∙ ap (λ (ls : List Line). Start (start_of item.term) ∷ ls) h.split);
    stands = h.stands;
  }

  condition_with : (known : List Var) (ends : List Summands) (left i : ℕ) (item : Item) (lines : List Line) (place : Place)
      (steps : List ChainStep) (last : Summands) (after : ℕ) (rest : List Line)
      → lines ≡ chain_lines (header_of (task.Condition (suc i)) item) item.term (record { steps = steps; end = last }) ++ rest
      → IsChainBy rules known left item.term (record { steps = steps; end = last }) after
      → BehindBegun known ends after (task.Condition (suc i)) (only_variable (start_of item.term)) last rest place
      → Conditions known ends (suc i) left (item ∷ drop (suc i) subject.conditions) lines place
  condition_with known ends left i item lines place steps [] after rest split works h =
      inr (
        record { chain = record { steps = steps; end = [] }; after = after; rest = rest; split = split; works = works },
        inl (refl, h.0, h.1),
      )
  condition_with known ends left i item lines place steps (x ∷ q) after rest split works h =
      inr (
        record { chain = record { steps = steps; end = x ∷ q }; after = after; rest = rest; split = split; works = works },
        inr (some_terms x q, h),
      )

  goal_with : (known : List Var) (ends : List Summands) (left i : ℕ) (item : Item) (lines : List Line) (place : Place)
      (own : Option Var) (steps : List ChainStep) (last : Summands) (after : ℕ) (rest : List Line)
      → lines ≡ chain_lines (header_of (task.Goal (suc i)) item) item.term (record { steps = steps; end = last }) ++ rest
      → IsChainBy rules known left item.term (record { steps = steps; end = last }) after
      → BehindBegun known ends after (task.Goal (suc i)) own last rest place
      → Goals known ends (suc i) left (item ∷ drop (suc i) subject.goals) lines place
  goal_with known ends left i item lines place own steps [] after rest split works h =
      inr (record { chain = record { steps = steps; end = [] }; after = after; rest = rest; split = split; works = works }, inl (refl, h))
  goal_with known ends left i item lines place own steps (x ∷ q) after rest split works h =
      inr (
        record { chain = record { steps = steps; end = x ∷ q }; after = after; rest = rest; split = split; works = works },
        inr (some_terms x q, h),
      )

  header_condition : (known : List Var) (ends : List Summands) (left i : ℕ) (item : Item) (lines : List Line) (place : Place)
      → StartBegun known ends left (task.Condition (suc i)) item lines place
      → Conditions known ends (suc i) left (item ∷ drop (suc i) subject.conditions) (header_of (task.Condition (suc i)) item ∷ lines) place
  header_condition known ends left i item lines place (inl (none, at)) =
      inl (inr (inl (ap (λ (ls : List Line). header_of (task.Condition (suc i)) item ∷ ls) none, at)))
  header_condition known ends left i item lines place (inr h) = go h.steps
    where
      go : StepBegun known ends (left - start_charge item.term) (task.Condition (suc i)) (only_variable (start_of item.term))
          (start_of item.term) h.tail place
          → Conditions known ends (suc i) left (item ∷ drop (suc i) subject.conditions) (header_of (task.Condition (suc i)) item ∷ lines) place
      go (inl o) = inl (inr (inr (chain_open known left (header_of (task.Condition (suc i)) item) item lines h.tail place h.split h.started o)))
      go (inr k) =
          condition_with known ends left i item (header_of (task.Condition (suc i)) item ∷ lines) place k.steps k.last k.after k.rest
          (chain_split (header_of (task.Condition (suc i)) item) item lines h.tail k.rest k.steps k.last h.split k.split)
          (record { started = h.started; follow = k.follow; ended = k.ended }) k.behind

  header_goal : (known : List Var) (ends : List Summands) (left i : ℕ) (item : Item) (lines : List Line) (place : Place)
      → StartBegun known ends left (task.Goal (suc i)) item lines place
      → Goals known ends (suc i) left (item ∷ drop (suc i) subject.goals) (header_of (task.Goal (suc i)) item ∷ lines) place
  header_goal known ends left i item lines place (inl (none, at)) =
      inl (inr (inl (ap (λ (ls : List Line). header_of (task.Goal (suc i)) item ∷ ls) none, at)))
  header_goal known ends left i item lines place (inr h) = go h.steps
    where
      go : StepBegun known ends (left - start_charge item.term) (task.Goal (suc i)) (only_variable (start_of item.term))
          (start_of item.term) h.tail place
          → Goals known ends (suc i) left (item ∷ drop (suc i) subject.goals) (header_of (task.Goal (suc i)) item ∷ lines) place
      go (inl o) = inl (inr (inr (chain_open known left (header_of (task.Goal (suc i)) item) item lines h.tail place h.split h.started o)))
      go (inr k) =
          goal_with known ends left i item (header_of (task.Goal (suc i)) item ∷ lines) place (only_variable (start_of item.term))
          k.steps k.last k.after k.rest
          (chain_split (header_of (task.Goal (suc i)) item) item lines h.tail k.rest k.steps k.last h.split k.split)
          (record { started = h.started; follow = k.follow; ended = k.ended }) k.behind

  -- ONE LINE
  -- a step before what is begun
  step_before : (known : List Var) (ends : List Summands) (before left : ℕ) (t : Task) (own : Option Var) (q : Summands) (step : ChainStep)
      (line : Line) (lines : List Line) (place : Place) → rules.steps known before q step left → line ≡ line_of step
      → StepBegun known ends left t own (result_of step) lines place → StepBegun known ends before t own q (line ∷ lines) place
  step_before known ends before left t own q step line lines place goes same (inl h) = inl (record {
    steps = step ∷ h.steps;
    after = h.after;
    last = h.last;
    follow = (left, goes, h.follow);
    split = ap₂ (λ (l : Line) (ls : List Line). l ∷ ls) same h.split;
    stands = h.stands;
  })
  step_before known ends before left t own q step line lines place goes same (inr h) =
      inr (closed_step rules (λ after last rest. BehindBegun known ends after t own last rest place) known before left q step line lines
      goes same h)

  sample_before : (ends : List Summands) (v : Verdict) (before left : ℕ) (values : List (Var × ℤ)) (line : Line) (lines : List Line)
      (place : Place) → rules.samples ends before values left → line ≡ Sample values
      → (lines ≡ []) × (place ≡ before_line (VerdictLine v))
      → IsBegunEnd (Follow rules) (IsChainBy rules) rules.samples ends v before (line ∷ lines) place
  sample_before ends v before left values line lines place chosen same h =
      inr (values, left, chosen, ap₂ (λ (l : Line) (ls : List Line). l ∷ ls) same h.0, h.1)

  one_back : (known : List Var) (ends : List Summands) (before : ℕ) (d : DueLine) (line : Line) (left : ℕ) (lines : List Line)
      (place : Place) → AllowsWhere rules subject (whole known ends before d) d line left
      → let v = behind (whole known ends left d) line in Begun v.known v.ends v.budget.left v.due lines place
      → Begun known ends before d (line ∷ lines) place
  one_back known ends before (due.Header (task.Condition zero)) line left lines place (item, is, same, spent) h = no_item item is
  one_back known ends before (due.Header (task.Condition (suc i))) line left lines place (item, is, same, spent) (other, at, h) =
      subst (λ (l : Line). Begun known ends before (due.Header (task.Condition (suc i))) (l ∷ lines) place) (sym same)
      (subst (λ (xs : List Item). Conditions known ends (suc i) before xs (header_of (task.Condition (suc i)) item ∷ lines) place)
      (sym (drop_item subject.conditions i item is))
      (header_condition known ends before i item lines place
      (subst (λ (n : ℕ). StartBegun known ends n (task.Condition (suc i)) item lines place) spent
      (subst (λ (x : Item). StartBegun known ends left (task.Condition (suc i)) x lines place)
      (one_item other item (slice_get subject.conditions i) at is) h))))
  one_back known ends before (due.Header (task.Goal zero)) line left lines place (item, is, same, spent) h = no_item item is
  one_back known ends before (due.Header (task.Goal (suc i))) line left lines place (item, is, same, spent) (other, at, h) =
      subst (λ (l : Line). Begun known ends before (due.Header (task.Goal (suc i))) (l ∷ lines) place) (sym same)
      (subst (λ (xs : List Item). Goals known ends (suc i) before xs (header_of (task.Goal (suc i)) item ∷ lines) place)
      (sym (drop_item subject.goals i item is))
      (header_goal known ends before i item lines place
      (subst (λ (n : ℕ). StartBegun known ends n (task.Goal (suc i)) item lines place) spent
      (subst (λ (x : Item). StartBegun known ends left (task.Goal (suc i)) x lines place)
      (one_item other item (slice_get subject.goals i) at is) h))))
  one_back known ends before (due.Start t) line left lines place (item, is, started, same, spent) h =
      let start : Summands = start_of item.term in (
        item,
        is,
        inr (record {
          started = started;
          tail = lines;
          split = ap (λ (l : Line). l ∷ lines) same;
          steps = subst (λ (n : ℕ). StepBegun known ends n t (only_variable start) start lines place) spent
              (subst (λ (o : Option Summands). let v = behind_start (whole known ends left (due.Start t)) t o in
              Begun v.known v.ends v.budget.left v.due lines place) (ap polynomial_on same) h);
        }),
      )
  one_back known ends before (due.Step t own q) line left lines place (inl (step, goes, same)) h =
      step_before known ends before left t own q step line lines place goes same
      (subst (λ (o : Option Summands). let v = behind_step (whole known ends left (due.Step t own q)) t own q o in
      Begun v.known v.ends v.budget.left v.due lines place) (ap polynomial_on same ∙ line_polynomial step) h)
  one_back known ends before (due.Step t own q) line left lines place (inr (ended, same, spent)) h =
      inr (closed_end rules (λ after last rest. BehindBegun known ends after t own last rest place) known before left q line lines ended same
      spent (chain_left known ends left t own q (due.Step t own q) lines place
      (subst (λ (o : Option Summands). let v = behind_step (whole known ends left (due.Step t own q)) t own q o in
      Begun v.known v.ends v.budget.left v.due lines place) (ap polynomial_on same) h)))
  one_back known ends before (due.Sample v) line left lines place (values, chosen, same) h =
      sample_before ends v before left values line lines place chosen same h
  one_back known ends before (due.Verdict v) line left lines place (same, spent) h = absurd h
  one_back known ends before (due.Nothing v) line left lines place x h = absurd x

  one_back_here : (c g : ℕ) (known : List Var) (ends : List Summands) (before : ℕ) (d : DueLine) (line : Line) (left : ℕ)
      (lines : List Line) (place : Place) → c ≡ length subject.conditions → g ≡ length subject.goals
      → AllowsWhere rules subject (here c g known ends before d) d line left
      → let v = behind (here c g known ends left d) line in Begun v.known v.ends v.budget.left v.due lines place
      → Begun known ends before d (line ∷ lines) place
  one_back_here c g known ends before d line left lines place ec eg allows h =
      one_back known ends before d line left lines place
      (subst (λ (n : ℕ). AllowsWhere rules subject (here n (length subject.goals) known ends before d) d line left) ec
      (subst (λ (n : ℕ). AllowsWhere rules subject (here c n known ends before d) d line left) eg allows))
      (subst (λ (n : ℕ). let v = behind (here n (length subject.goals) known ends left d) line in
      Begun v.known v.ends v.budget.left v.due lines place) ec
      (subst (λ (n : ℕ). let v = behind (here c n known ends left d) line in Begun v.known v.ends v.budget.left v.due lines place) eg h))

  none_here : (c g : ℕ) (known : List Var) (ends : List Summands) (left : ℕ) (d : DueLine) (place : Place)
      → c ≡ length subject.conditions → g ≡ length subject.goals → StandsWhere subject (here c g known ends left d) d place
      → Begun known ends left d [] place
  none_here c g known ends left d place ec eg stands =
      none_begun known ends left d place
      (subst (λ (n : ℕ). StandsWhere subject (here n (length subject.goals) known ends left d) d place) ec
      (subst (λ (n : ℕ). StandsWhere subject (here c n known ends left d) d place) eg stands))

  -- WALKS
  begun : (w last : Walk) (lines : List Line) (place : Place) → IsCounted subject w → Walks rules subject w lines last
      → StandsAt subject last place → Begun w.known w.ends w.budget.left w.due lines place
  begun w last [] place counted same stands =
      none_here w.conditions w.goals w.known w.ends w.budget.left w.due place counted.conditions counted.goals
      (subst (λ (x : Walk). StandsAt subject x place) (sym same) stands)
  begun w last (line ∷ lines) place counted (v, goes, walks) stands =
      let at : Walk = record w { budget = record { left = goes.left } } in
      let counts : IsCounted subject (behind at line) =
      counted_due subject at w.due line (record { conditions = counted.conditions; goals = counted.goals }) in
      let next : Begun v.known v.ends v.budget.left v.due lines place =
      begun v last lines place (subst (IsCounted subject) (sym goes.stands) counts) walks stands in
      one_back_here w.conditions w.goals w.known w.ends w.budget.left w.due line goes.left lines place
      counted.conditions counted.goals goes.allows
      (subst (λ (x : Walk). Begun x.known x.ends x.budget.left x.due lines place) goes.stands next)

  -- what is walked from the first place
  pub log_begun : (steps : ℕ) (lines : List Line) (w : Walk) (place : Place) → Walks rules subject (first_walk subject steps) lines w
      → StandsAt subject w place → Conditions [] [] 1 steps subject.conditions lines place
  log_begun steps lines w place walks stands =
      conditions_left [] [] steps 0 lines place (length subject.conditions) (omega arith)
      (begun (first_walk subject steps) w lines place (record { conditions = refl; goals = refl }) walks stands)
