-- What is walked to a verdict is a log by its chains.
use Rattle.std.proofs.Common.{◌≡◌, ℕ, zero, suc, ◌-◌, inl, inr, Option, Some, List, [], ◌∷◌, ◌++◌, length, drop, refl, sym, ap, ap₂, ◌∙◌, subst, arith}
use Rattle.std.specs.Prelude.{slice_get}
use Rattle.std.proofs.lemmas.List.{length-drop}
use Rattle.std.specs.List.{cons_option}
use Rattle.geo_poly.specs.declared.variables.Var.{Var}
use Rattle.geo_poly.specs.Polynomials.{Summands}
use Rattle.proof_log.specs.declared.log.Line.{Line}
use Rattle.proof_log.specs.declared.log.Line.TheVariants.{Start, Verdict as VerdictLine}
use Rattle.proof_log.specs.declared.log.Verdict.{Verdict}
use Rattle.proof_log.specs.declared.log.Verdict.TheVariants.{False, Impossible}
use Rattle.geo_logs.specs.Chains.{ChainStep, chain_lines}
use Rattle.geo_logs.specs.Logs.{AreConditionsWorked, AreGoalsWorked, IsConcluded, Item, Subject, only_variable}
use Rattle.geo_logs.specs.Starts.{IsStarted, start_charge, start_of}
use Rattle.geo_logs.specs.declared.walk.Walk.{Walk}
use Rattle.geo_logs.specs.declared.walk.Task.{Task}
use Rattle.geo_logs.specs.declared.walk.Task.TheVariants as task
use Rattle.geo_logs.specs.declared.walk.DueLine.{DueLine}
use Rattle.geo_logs.specs.declared.walk.DueLine.TheVariants as due
use Rattle.proof_log.specs.Steps.{polynomial_on}
use Rattle.geo_logs.specs.Behind.{behind, behind_chain, behind_start, behind_step, condition_due, goal_due}
use Rattle.geo_logs.specs.Walks.{AllowsWhere, first_walk, header_of, IsWalked, item_of, result_of, Rules, Walks}
use Rattle.geo_logs.proofs.ChainsWalked.{IsChainBy}
use Rattle.geo_logs.proofs.ClosedChains.{IsClosed, chain_split, closed_end, closed_step}
use Rattle.geo_logs.proofs.WalkPlaces.{IsCounted, counted_due, drop_item, empty_list, line_polynomial, no_item, one_item, some_terms}

module _ (rules : Rules) (subject : Subject) where
  -- what is left, behind a chain with this end
  abbrev pub BehindRemains : List Var → List Summands → ℕ → Task → Option Var → Summands → List Line → Verdict → ℕ → Type 0
  BehindRemains known ends left (task.Condition k) own [] lines verdict left' = (verdict ≡ Impossible k) × (lines ≡ VerdictLine (Impossible k) ∷ []) × (left ≡ left')
  BehindRemains known ends left (task.Condition k) own (x ∷ q) lines verdict left' =
      AreConditionsWorked (IsChainBy rules) rules.samples subject.goals (known ++ cons_option own []) (ends ++ (x ∷ q) ∷ []) (suc k) left (drop k subject.conditions) lines verdict left'
  BehindRemains known ends left (task.Goal k) own [] lines verdict left' =
      AreGoalsWorked (IsChainBy rules) rules.samples known ends (suc k) left (drop k subject.goals) lines verdict left'
  BehindRemains known ends left (task.Goal k) own (x ∷ q) lines verdict left' =
      (verdict ≡ False k) × IsConcluded (IsChainBy rules) rules.samples (ends ++ (x ∷ q) ∷ []) left lines (False k) left'

  -- the rest of a chain, and what is left behind it
  abbrev pub StepRemains : List Var → List Summands → ℕ → Task → Option Var → Summands → List Line → Verdict → ℕ → Type 0
  StepRemains known ends left t own q lines verdict left' =
      IsClosed rules (λ after last rest. BehindRemains known ends after t own last rest verdict left') known left q lines

  -- the start, the rest of the chain, and what is left behind it
  pub record StartRemains (known : List Var) (ends : List Summands) (left : ℕ) (t : Task) (lines : List Line) (verdict : Verdict) (left' : ℕ) : Type 0 where
    pub item : Item
    pub is : item_of subject t ≡ Some item
    pub started : IsStarted left item.term
    pub tail : List Line
    pub split : lines ≡ Start (start_of item.term) ∷ tail
    pub steps : StepRemains known ends (left - start_charge item.term) t (only_variable (start_of item.term)) (start_of item.term) tail verdict left'

  -- what is left where this is due
  abbrev pub Remains : List Var → List Summands → ℕ → DueLine → List Line → Verdict → ℕ → Type 0
  Remains known ends left (due.Header (task.Condition zero)) lines verdict left' = ⊥
  Remains known ends left (due.Header (task.Condition (suc i))) lines verdict left' =
      AreConditionsWorked (IsChainBy rules) rules.samples subject.goals known ends (suc i) left (drop i subject.conditions) lines verdict left'
  Remains known ends left (due.Header (task.Goal zero)) lines verdict left' = ⊥
  Remains known ends left (due.Header (task.Goal (suc i))) lines verdict left' =
      AreGoalsWorked (IsChainBy rules) rules.samples known ends (suc i) left (drop i subject.goals) lines verdict left'
  Remains known ends left (due.Start t) lines verdict left' = StartRemains known ends left t lines verdict left'
  Remains known ends left (due.Step t own q) lines verdict left' = StepRemains known ends left t own q lines verdict left'
  Remains known ends left (due.Sample v) lines verdict left' = (verdict ≡ v) × IsConcluded (IsChainBy rules) rules.samples ends left lines v left'
  Remains known ends left (due.Verdict v) lines verdict left' = (verdict ≡ v) × (lines ≡ VerdictLine v ∷ []) × (left ≡ left')
  Remains known ends left (due.Nothing v) lines verdict left' = (verdict ≡ v) × (lines ≡ []) × (left ≡ left')

  abbrev pub place : ℕ → ℕ → List Var → List Summands → ℕ → DueLine → Walk
  place c g known ends left d = record { conditions = c; goals = g; known = known; ends = ends; budget = record { left = left }; due = d }

  -- behind the goals before number k + 1
  goals_left : (known : List Var) (ends : List Summands) (left k : ℕ) (lines : List Line) (verdict : Verdict) (left' : ℕ) (n : ℕ) → length subject.goals - k ≡ n
      → Remains known ends left (goal_due k n) lines verdict left'
      → AreGoalsWorked (IsChainBy rules) rules.samples known ends (suc k) left (drop k subject.goals) lines verdict left'
  goals_left known ends left k lines verdict left' zero e h =
      subst (λ (xs : List Item). AreGoalsWorked (IsChainBy rules) rules.samples known ends (suc k) left xs lines verdict left')
      (sym (empty_list (drop k subject.goals) (length-drop k subject.goals ∙ e)))
      (h.0, h.1)
  goals_left known ends left k lines verdict left' (suc n) e h = h

  conditions_left : (known : List Var) (ends : List Summands) (left k : ℕ) (lines : List Line) (verdict : Verdict) (left' : ℕ) (n : ℕ) → length subject.conditions - k ≡ n
      → Remains known ends left (condition_due (length subject.goals) k n) lines verdict left'
      → AreConditionsWorked (IsChainBy rules) rules.samples subject.goals known ends (suc k) left (drop k subject.conditions) lines verdict left'
  conditions_left known ends left k lines verdict left' zero e h =
      subst (λ (xs : List Item). AreConditionsWorked (IsChainBy rules) rules.samples subject.goals known ends (suc k) left xs lines verdict left')
      (sym (empty_list (drop k subject.conditions) (length-drop k subject.conditions ∙ e)))
      (goals_left known ends left 0 lines verdict left' (length subject.goals) (omega arith) h)
  conditions_left known ends left k lines verdict left' (suc n) e h = h

  -- behind the end of a chain
  chain_left : (known : List Var) (ends : List Summands) (left : ℕ) (t : Task) (own : Option Var) (q : Summands) (d : DueLine) (lines : List Line) (verdict : Verdict) (left' : ℕ)
      → let v = behind_chain (place (length subject.conditions) (length subject.goals) known ends left d) t own q in
      Remains v.known v.ends v.budget.left v.due lines verdict left'
      → BehindRemains known ends left t own q lines verdict left'
  chain_left known ends left (task.Condition k) own [] d lines verdict left' h = h
  chain_left known ends left (task.Condition k) own (x ∷ q) d lines verdict left' h =
      conditions_left (known ++ cons_option own []) (ends ++ (x ∷ q) ∷ []) left k lines verdict left' (length subject.conditions - k) refl h
  chain_left known ends left (task.Goal k) own [] d lines verdict left' h = goals_left known ends left k lines verdict left' (length subject.goals - k) refl h
  chain_left known ends left (task.Goal k) own (x ∷ q) d lines verdict left' h = h

  condition_with : (known : List Var) (ends : List Summands) (left i : ℕ) (item : Item) (lines : List Line) (verdict : Verdict) (left' : ℕ)
      (steps : List ChainStep) (last : Summands) (after : ℕ) (rest : List Line)
      → lines ≡ chain_lines (header_of (task.Condition (suc i)) item) item.term (record { steps = steps; end = last }) ++ rest
      → IsChainBy rules known left item.term (record { steps = steps; end = last }) after
      → BehindRemains known ends after (task.Condition (suc i)) (only_variable (start_of item.term)) last rest verdict left'
      → AreConditionsWorked (IsChainBy rules) rules.samples subject.goals known ends (suc i) left (item ∷ drop (suc i) subject.conditions) lines verdict left'
  condition_with known ends left i item lines verdict left' steps [] after rest split works h =
      (record { chain = record { steps = steps; end = [] }; after = after; rest = rest; split = split; works = works }, inl (refl, h.0, h.1, h.2))
  condition_with known ends left i item lines verdict left' steps (x ∷ q) after rest split works h =
      (record { chain = record { steps = steps; end = x ∷ q }; after = after; rest = rest; split = split; works = works }, inr (some_terms x q, h))

  goal_with : (known : List Var) (ends : List Summands) (left i : ℕ) (item : Item) (lines : List Line) (verdict : Verdict) (left' : ℕ) (own : Option Var)
      (steps : List ChainStep) (last : Summands) (after : ℕ) (rest : List Line)
      → lines ≡ chain_lines (header_of (task.Goal (suc i)) item) item.term (record { steps = steps; end = last }) ++ rest
      → IsChainBy rules known left item.term (record { steps = steps; end = last }) after
      → BehindRemains known ends after (task.Goal (suc i)) own last rest verdict left'
      → AreGoalsWorked (IsChainBy rules) rules.samples known ends (suc i) left (item ∷ drop (suc i) subject.goals) lines verdict left'
  goal_with known ends left i item lines verdict left' own steps [] after rest split works h =
      (record { chain = record { steps = steps; end = [] }; after = after; rest = rest; split = split; works = works }, inl (refl, h))
  goal_with known ends left i item lines verdict left' own steps (x ∷ q) after rest split works h =
      (record { chain = record { steps = steps; end = x ∷ q }; after = after; rest = rest; split = split; works = works }, inr (some_terms x q, h.0, h.1))

  -- a chain whose header is due
  header_condition : (known : List Var) (ends : List Summands) (left i : ℕ) (item : Item) (lines : List Line) (verdict : Verdict) (left' : ℕ)
      → slice_get subject.conditions i ≡ Some item → StartRemains known ends left (task.Condition (suc i)) lines verdict left'
      → AreConditionsWorked (IsChainBy rules) rules.samples subject.goals known ends (suc i) left (drop i subject.conditions) (header_of (task.Condition (suc i)) item ∷ lines) verdict left'
  header_condition known ends left i item lines verdict left' at h =
      let same : h.item ≡ item = one_item h.item item (slice_get subject.conditions i) h.is at in
      let split : header_of (task.Condition (suc i)) item ∷ lines ≡ chain_lines (header_of (task.Condition (suc i)) item) h.item.term (record { steps = h.steps.steps; end = h.steps.last }) ++ h.steps.rest =
      chain_split (header_of (task.Condition (suc i)) item) h.item lines h.tail h.steps.rest h.steps.steps h.steps.last h.split h.steps.split in
      let works : IsChainBy rules known left h.item.term (record { steps = h.steps.steps; end = h.steps.last }) h.steps.after =
      record { started = h.started; follow = h.steps.follow; ended = h.steps.ended } in
      subst (λ (xs : List Item). AreConditionsWorked (IsChainBy rules) rules.samples subject.goals known ends (suc i) left xs (header_of (task.Condition (suc i)) item ∷ lines) verdict left')
      (sym (drop_item subject.conditions i item at))
      (condition_with known ends left i item (header_of (task.Condition (suc i)) item ∷ lines) verdict left' h.steps.steps h.steps.last h.steps.after h.steps.rest
      (subst (λ (x : Item). header_of (task.Condition (suc i)) item ∷ lines ≡ chain_lines (header_of (task.Condition (suc i)) item) x.term (record { steps = h.steps.steps; end = h.steps.last }) ++ h.steps.rest) same split)
      (subst (λ (x : Item). IsChainBy rules known left x.term (record { steps = h.steps.steps; end = h.steps.last }) h.steps.after) same works)
      (subst (λ (x : Item). BehindRemains known ends h.steps.after (task.Condition (suc i)) (only_variable (start_of x.term)) h.steps.last h.steps.rest verdict left') same h.steps.behind))

  header_goal : (known : List Var) (ends : List Summands) (left i : ℕ) (item : Item) (lines : List Line) (verdict : Verdict) (left' : ℕ)
      → slice_get subject.goals i ≡ Some item → StartRemains known ends left (task.Goal (suc i)) lines verdict left'
      → AreGoalsWorked (IsChainBy rules) rules.samples known ends (suc i) left (drop i subject.goals) (header_of (task.Goal (suc i)) item ∷ lines) verdict left'
  header_goal known ends left i item lines verdict left' at h =
      let same : h.item ≡ item = one_item h.item item (slice_get subject.goals i) h.is at in
      let split : header_of (task.Goal (suc i)) item ∷ lines ≡ chain_lines (header_of (task.Goal (suc i)) item) h.item.term (record { steps = h.steps.steps; end = h.steps.last }) ++ h.steps.rest =
      chain_split (header_of (task.Goal (suc i)) item) h.item lines h.tail h.steps.rest h.steps.steps h.steps.last h.split h.steps.split in
      let works : IsChainBy rules known left h.item.term (record { steps = h.steps.steps; end = h.steps.last }) h.steps.after =
      record { started = h.started; follow = h.steps.follow; ended = h.steps.ended } in
      subst (λ (xs : List Item). AreGoalsWorked (IsChainBy rules) rules.samples known ends (suc i) left xs (header_of (task.Goal (suc i)) item ∷ lines) verdict left')
      (sym (drop_item subject.goals i item at))
      (goal_with known ends left i item (header_of (task.Goal (suc i)) item ∷ lines) verdict left' (only_variable (start_of h.item.term)) h.steps.steps h.steps.last h.steps.after h.steps.rest
      (subst (λ (x : Item). header_of (task.Goal (suc i)) item ∷ lines ≡ chain_lines (header_of (task.Goal (suc i)) item) x.term (record { steps = h.steps.steps; end = h.steps.last }) ++ h.steps.rest) same split)
      (subst (λ (x : Item). IsChainBy rules known left x.term (record { steps = h.steps.steps; end = h.steps.last }) h.steps.after) same works)
      h.steps.behind)

  -- one line
  pub one_back : (known : List Var) (ends : List Summands) (before : ℕ) (d : DueLine) (line : Line) (left : ℕ) (lines : List Line) (verdict : Verdict) (left' : ℕ)
      → AllowsWhere rules subject (place (length subject.conditions) (length subject.goals) known ends before d) d line left
      → let v = behind (place (length subject.conditions) (length subject.goals) known ends left d) line in
      Remains v.known v.ends v.budget.left v.due lines verdict left'
      → Remains known ends before d (line ∷ lines) verdict left'
  one_back known ends before (due.Header (task.Condition zero)) line left lines verdict left' (item, is, same, spent) h = no_item item is
  one_back known ends before (due.Header (task.Condition (suc i))) line left lines verdict left' (item, is, same, spent) h =
      subst (λ (l : Line). AreConditionsWorked (IsChainBy rules) rules.samples subject.goals known ends (suc i) before (drop i subject.conditions) (l ∷ lines) verdict left') (sym same)
      (header_condition known ends before i item lines verdict left' is
      (subst (λ (n : ℕ). StartRemains known ends n (task.Condition (suc i)) lines verdict left') spent h))
  one_back known ends before (due.Header (task.Goal zero)) line left lines verdict left' (item, is, same, spent) h = no_item item is
  one_back known ends before (due.Header (task.Goal (suc i))) line left lines verdict left' (item, is, same, spent) h =
      subst (λ (l : Line). AreGoalsWorked (IsChainBy rules) rules.samples known ends (suc i) before (drop i subject.goals) (l ∷ lines) verdict left') (sym same)
      (header_goal known ends before i item lines verdict left' is
      (subst (λ (n : ℕ). StartRemains known ends n (task.Goal (suc i)) lines verdict left') spent h))
  one_back known ends before (due.Start t) line left lines verdict left' (item, is, started, same, spent) h =
      let start : Summands = start_of item.term in
      record {
        item = item;
        is = is;
        started = started;
        tail = lines;
        split = ap (λ (l : Line). l ∷ lines) same;
        steps = subst (λ (n : ℕ). StepRemains known ends n t (only_variable start) start lines verdict left') spent
            (subst (λ (o : Option Summands). let v = behind_start (place (length subject.conditions) (length subject.goals) known ends left (due.Start t)) t o in
            Remains v.known v.ends v.budget.left v.due lines verdict left') (ap polynomial_on same) h);
      }
  one_back known ends before (due.Step t own q) line left lines verdict left' (inl (step, goes, same)) h =
      let next : StepRemains known ends left t own (result_of step) lines verdict left' =
      subst (λ (o : Option Summands). let v = behind_step (place (length subject.conditions) (length subject.goals) known ends left (due.Step t own q)) t own q o in
      Remains v.known v.ends v.budget.left v.due lines verdict left') (ap polynomial_on same ∙ line_polynomial step) h in
      closed_step rules (λ after last rest. BehindRemains known ends after t own last rest verdict left') known before left q step line lines goes same next
  one_back known ends before (due.Step t own q) line left lines verdict left' (inr (ended, same, spent)) h =
      closed_end rules (λ after last rest. BehindRemains known ends after t own last rest verdict left') known before left q line lines ended same spent
      (chain_left known ends left t own q (due.Step t own q) lines verdict left'
      (subst (λ (o : Option Summands). let v = behind_step (place (length subject.conditions) (length subject.goals) known ends left (due.Step t own q)) t own q o in
      Remains v.known v.ends v.budget.left v.due lines verdict left') (ap polynomial_on same) h))
  one_back known ends before (due.Sample v) line left lines verdict left' (values, chosen, same) h =
      (h.0, record { values = values; chosen = subst (λ (n : ℕ). rules.samples ends before values n) h.2 chosen; split = ap₂ (λ (l : Line) (ls : List Line). l ∷ ls) same h.1 })
  one_back known ends before (due.Verdict v) line left lines verdict left' (same, spent) h =
      (h.0, ap₂ (λ (l : Line) (ls : List Line). l ∷ ls) same h.1, sym spent ∙ h.2)
  one_back known ends before (due.Nothing v) line left lines verdict left' x h = absurd x

  one_back_here : (c g : ℕ) (known : List Var) (ends : List Summands) (before : ℕ) (d : DueLine) (line : Line) (left : ℕ) (lines : List Line) (verdict : Verdict) (left' : ℕ)
      → c ≡ length subject.conditions → g ≡ length subject.goals
      → AllowsWhere rules subject (place c g known ends before d) d line left
      → let v = behind (place c g known ends left d) line in Remains v.known v.ends v.budget.left v.due lines verdict left'
      → Remains known ends before d (line ∷ lines) verdict left'
  one_back_here c g known ends before d line left lines verdict left' ec eg allows h =
      one_back known ends before d line left lines verdict left'
      (subst (λ (n : ℕ). AllowsWhere rules subject (place n (length subject.goals) known ends before d) d line left) ec
      (subst (λ (n : ℕ). AllowsWhere rules subject (place c n known ends before d) d line left) eg allows))
      (subst (λ (n : ℕ). let v = behind (place n (length subject.goals) known ends left d) line in Remains v.known v.ends v.budget.left v.due lines verdict left') ec
      (subst (λ (n : ℕ). let v = behind (place c n known ends left d) line in Remains v.known v.ends v.budget.left v.due lines verdict left') eg h))

  pub back : (w last : Walk) (lines : List Line) (verdict : Verdict) (left' : ℕ) → IsCounted subject w → Walks rules subject w lines last → last.due ≡ due.Nothing verdict → last.budget.left ≡ left'
      → Remains w.known w.ends w.budget.left w.due lines verdict left'
  back w last [] verdict left' counted same over leaves =
      subst (λ (d : DueLine). Remains w.known w.ends w.budget.left d [] verdict left') (sym (ap (λ (x : Walk). x.due) same ∙ over))
      (refl, refl, ap (λ (x : Walk). x.budget.left) same ∙ leaves)
  back w last (line ∷ lines) verdict left' counted (v, goes, walks) over leaves =
      let here : Walk = record w { budget = record { left = goes.left } } in
      let counts : IsCounted subject (behind here line) = counted_due subject here w.due line (record { conditions = counted.conditions; goals = counted.goals }) in
      let next : Remains v.known v.ends v.budget.left v.due lines verdict left' =
      back v last lines verdict left' (subst (IsCounted subject) (sym goes.stands) counts) walks over leaves in
      one_back_here w.conditions w.goals w.known w.ends w.budget.left w.due line goes.left lines verdict left' counted.conditions counted.goals goes.allows
      (subst (λ (x : Walk). Remains x.known x.ends x.budget.left x.due lines verdict left') goes.stands next)

  -- a walked log is one by its chains
  pub log_back : (steps : ℕ) (lines : List Line) (verdict : Verdict) (left : ℕ) → IsWalked rules subject steps lines verdict left
      → AreConditionsWorked (IsChainBy rules) rules.samples subject.goals [] [] 1 steps subject.conditions lines verdict left
  log_back steps lines verdict left h =
      conditions_left [] [] steps 0 lines verdict left (length subject.conditions) (omega arith)
      (back (first_walk subject steps) h.last lines verdict left (record { conditions = refl; goals = refl }) h.walks h.over h.leaves)
