-- Chains, conditions and goals, walked line by line.
use Rattle.std.proofs.Common.{◌≡◌, ◌≢◌, ℕ, zero, suc, ◌+◌, ◌-◌, inl, inr, Option, Some, List, [], ◌∷◌, ◌++◌, length, map, drop, refl, sym, ap, ap₂, ◌∙◌, subst, arith}
use Rattle.std.specs.Prelude.{slice_get}
use Rattle.std.proofs.lemmas.List.{length-append, length-drop}
use Rattle.std.specs.List.{cons_option}
use Rattle.geo_poly.proofs.Told.{dropped_get}
use Rattle.geo_poly.specs.declared.variables.Var.{Var}
use Rattle.geo_poly.specs.Polynomials.{Summands}
use Rattle.geo_terms.specs.Trees.{Tree}
use Rattle.proof_log.specs.declared.log.Line.{Line}
use Rattle.proof_log.specs.declared.log.Line.TheVariants.{End, Sample, Verdict as VerdictLine}
use Rattle.proof_log.specs.declared.log.Verdict.{Verdict}
use Rattle.proof_log.specs.declared.log.Verdict.TheVariants.{Proved, False, Impossible}
use Rattle.geo_logs.specs.Chains.{Chain, ChainStep, chain_lines, line_of}
use Rattle.geo_logs.specs.Logs.{AreConditionsWorked, AreGoalsWorked, BeginsWithChain, IsConcluded, Item, Subject, known_by, only_variable}
use Rattle.geo_logs.specs.Starts.{IsStarted, start_charge, start_of}
use Rattle.geo_logs.specs.declared.walk.Walk.{Walk}
use Rattle.geo_logs.specs.declared.walk.Task.{Task}
use Rattle.geo_logs.specs.declared.walk.Task.TheVariants as task
use Rattle.geo_logs.specs.declared.walk.DueLine.{DueLine}
use Rattle.geo_logs.specs.declared.walk.DueLine.TheVariants as due
use Rattle.geo_logs.specs.Behind.{behind_chain, behind_step, condition_due, goal_due}
use Rattle.geo_logs.specs.Walks.{Goes, header_of, IsWalked, item_of, result_of, Rules, Walks}
use Rattle.geo_logs.specs.WalkLaws.{Follow}
use Rattle.geo_logs.proofs.WalkPlaces.{line_polynomial, standing}

-- a chain by these rules
pub record IsChainBy (rules : Rules) (known : List Var) (left : ℕ) (e : Tree) (chain : Chain) (left' : ℕ) : Type 0 where
  pub started : IsStarted left e
  pub follow : Follow rules known (left - start_charge e) (start_of e) chain.steps left' chain.end
  pub ended : rules.ends known chain.end

minus_none : (n : ℕ) → n - 0 ≡ n
minus_none n = omega arith

-- the rest of a list
abbrev tail : {A : Type 0} → List A → List A
tail [] = []
tail (x ∷ xs) = xs

drop_tail : {A : Type 0} (xs : List A) (i : ℕ) → drop (suc i) xs ≡ tail (drop i xs)
drop_tail [] zero = refl
drop_tail [] (suc i) = refl
drop_tail (x ∷ xs) zero = refl
drop_tail (x ∷ xs) (suc i) = drop_tail xs i

drop_next : {A : Type 0} (xs : List A) (i : ℕ) (x : A) (rest : List A) → drop i xs ≡ x ∷ rest → drop (suc i) xs ≡ rest
drop_next xs i x rest e = drop_tail xs i ∙ ap tail e

module _ (rules : Rules) (subject : Subject) where
  -- one walk behind another
  pub walks_join : (w v u : Walk) (xs ys : List Line) → Walks rules subject w xs v → Walks rules subject v ys u → Walks rules subject w (xs ++ ys) u
  walks_join w v u [] ys same rest = subst (λ (x : Walk). Walks rules subject x ys u) (sym same) rest
  walks_join w v u (x ∷ xs) ys (next, goes, walks) rest = (next, goes, walks_join next v u xs ys walks rest)

  -- a line more
  pub goes_further : (w v u : Walk) (count n : ℕ) → ((lines : List Line) × Walks rules subject w lines v × (count ≡ n + length lines))
      → ((line : Line) × Goes rules subject v line u) → (lines : List Line) × Walks rules subject w lines u × (count + 1 ≡ n + length lines)
  goes_further w v u count n (lines, walks, counted) (line, goes) =
      (lines ++ line ∷ [], walks_join w v u lines (line ∷ []) walks (u, goes, refl), omega (arith, counted, length-append lines (line ∷ [])))

  -- the steps of a chain
  pub steps_walk : (w : Walk) (t : Task) (own : Option Var) (left : ℕ) (q : Summands) (steps : List ChainStep) (left' : ℕ) (e : Summands)
      → Follow rules w.known left q steps left' e
      → Walks rules subject (standing w left (due.Step t own q)) (map line_of steps) (standing w left' (due.Step t own e))
  steps_walk w t own left q [] left' e h = ap₂ (λ (n : ℕ) (x : Summands). standing w n (due.Step t own x)) h.0 h.1
  steps_walk w t own left q (step ∷ steps) left' e (after, goes, rest) =
      let v : Walk = standing w after (due.Step t own (result_of step)) in
      let here : Walk = standing w after (due.Step t own q) in (
        v,
        record {
          left = after;
          allows = inl (step, goes, refl);
          stands = ap (λ (o : Option Summands). behind_step here t own q o) (sym (line_polynomial step));
        },
        steps_walk w t own after (result_of step) steps left' e rest,
      )

  -- a chain
  pub chain_walk : (w : Walk) (t : Task) (item : Item) (left : ℕ) (chain : Chain) (left' : ℕ) → item_of subject t ≡ Some item
      → IsChainBy rules w.known left item.term chain left'
      → Walks rules subject (standing w left (due.Header t)) (chain_lines (header_of t item) item.term chain)
      (behind_chain (standing w left' (due.Step t (only_variable (start_of item.term)) chain.end)) t (only_variable (start_of item.term)) chain.end)
  chain_walk w t item left chain left' at h =
      let own : Option Var = only_variable (start_of item.term) in
      let first : ℕ = left - start_charge item.term in
      let last : Walk = standing w left' (due.Step t own chain.end) in (
        standing w left (due.Start t),
        record { left = left; allows = (item, at, refl, refl); stands = refl },
        (
          standing w first (due.Step t own (start_of item.term)),
          record { left = first; allows = (item, at, h.started, refl, refl); stands = refl },
          walks_join (standing w first (due.Step t own (start_of item.term))) last (behind_chain last t own chain.end) (map line_of chain.steps) (End ∷ [])
              (steps_walk w t own first (start_of item.term) chain.steps left' chain.end h.follow)
              (behind_chain last t own chain.end, record { left = left'; allows = inr (h.ended, refl, refl); stands = refl }, refl),
        ),
      )

  -- to the verdict
  pub record Reaches (w : Walk) (lines : List Line) (verdict : Verdict) (left : ℕ) : Type 0 where
    pub last : Walk
    pub walks : Walks rules subject w lines last
    pub over : last.due ≡ due.Nothing verdict
    pub leaves : last.budget.left ≡ left

  reaches_behind : (w v : Walk) (xs ys lines : List Line) (verdict : Verdict) (left : ℕ) → lines ≡ xs ++ ys → Walks rules subject w xs v → Reaches v ys verdict left
      → Reaches w lines verdict left
  reaches_behind w v xs ys lines verdict left split walks h = record {
    last = h.last;
    walks = subst (λ (ls : List Line). Walks rules subject w ls h.last) (sym split) (walks_join w v h.last xs ys walks h.walks);
    over = h.over;
    leaves = h.leaves;
  }

  -- the verdict alone
  verdict_walk : (w : Walk) (left : ℕ) (verdict : Verdict) (lines : List Line) → lines ≡ VerdictLine verdict ∷ []
      → Reaches (standing w left (due.Verdict verdict)) lines verdict left
  verdict_walk w left verdict lines split = record {
    last = standing w left (due.Nothing verdict);
    walks = subst (λ (ls : List Line). Walks rules subject (standing w left (due.Verdict verdict)) ls (standing w left (due.Nothing verdict))) (sym split)
        (standing w left (due.Nothing verdict), record { left = left; allows = (refl, refl); stands = refl }, refl);
    over = refl;
    leaves = refl;
  }

  -- the sample and the verdict
  end_walk : (w : Walk) (left : ℕ) (verdict : Verdict) (lines : List Line) (left' : ℕ)
      → IsConcluded (IsChainBy rules) rules.samples w.ends left lines verdict left'
      → Reaches (standing w left (due.Sample verdict)) lines verdict left'
  end_walk w left verdict lines left' h =
      reaches_behind (standing w left (due.Sample verdict)) (standing w left' (due.Verdict verdict)) (Sample h.values ∷ []) (VerdictLine verdict ∷ []) lines verdict left' h.split
      (standing w left' (due.Verdict verdict), record { left = left'; allows = (h.values, h.chosen, refl); stands = refl }, refl)
      (verdict_walk w left' verdict (VerdictLine verdict ∷ []) refl)

  -- behind the conditions or goals before: so much is known and listed
  abbrev pub at : List Var → List Summands → ℕ → DueLine → Walk
  at known listed left d = record {
    conditions = length subject.conditions;
    goals = length subject.goals;
    known = known;
    ends = listed;
    budget = record { left = left };
    due = d;
  }

  -- behind a chain that does not end in 0
  goal_fails : (w : Walk) (k : ℕ) (own : Option Var) (e : Summands) → e ≢ []
      → behind_chain w (task.Goal k) own e ≡ record w { ends = w.ends ++ e ∷ []; due = due.Sample (False k) }
  goal_fails w k own [] n = absurd (n refl)
  goal_fails w k own (x ∷ e) n = refl

  condition_holds : (w : Walk) (k : ℕ) (own : Option Var) (e : Summands) → e ≢ []
      → behind_chain w (task.Condition k) own e
      ≡ record w { known = w.known ++ cons_option own []; ends = w.ends ++ e ∷ []; due = condition_due w.goals k (w.conditions - k) }
  condition_holds w k own [] n = absurd (n refl)
  condition_holds w k own (x ∷ e) n = refl

  -- a chain, and then to the verdict
  chain_reaches : (known : List Var) (listed : List Summands) (t : Task) (item : Item) (left : ℕ) (lines : List Line) (verdict : Verdict) (left' : ℕ) (next : Walk)
      → item_of subject t ≡ Some item → (first : BeginsWithChain (IsChainBy rules) rules.samples (header_of t item) known left item lines)
      → behind_chain (at known listed first.after (due.Step t (only_variable (start_of item.term)) first.chain.end)) t (only_variable (start_of item.term)) first.chain.end ≡ next
      → Reaches next first.rest verdict left'
      → Reaches (at known listed left (due.Header t)) lines verdict left'
  chain_reaches known listed t item left lines verdict left' next is first same rest =
      let own : Option Var = only_variable (start_of item.term) in
      let last : Walk = at known listed first.after (due.Step t own first.chain.end) in
      reaches_behind (at known listed left (due.Header t)) (behind_chain last t own first.chain.end) (chain_lines (header_of t item) item.term first.chain) first.rest lines verdict left'
      first.split (chain_walk (at known listed left (due.Header t)) t item left first.chain first.after is first.works)
      (subst (λ (v : Walk). Reaches v first.rest verdict left') (sym same) rest)

  goals_walk : (i : ℕ) (items : List Item) (known : List Var) (listed : List Summands) (left : ℕ) (lines : List Line) (verdict : Verdict) (left' : ℕ)
      → drop i subject.goals ≡ items → AreGoalsWorked (IsChainBy rules) rules.samples known listed (suc i) left items lines verdict left'
      → Reaches (at known listed left (goal_due i (length subject.goals - i))) lines verdict left'
  goals_walk i [] known listed left lines verdict left' e h =
      let count : length subject.goals - i ≡ 0 = sym (length-drop i subject.goals) ∙ ap (λ (xs : List Item). length xs) e in
      subst (λ (n : ℕ). Reaches (at known listed left (goal_due i n)) lines verdict left') (sym count)
      (subst (λ (v : Verdict). Reaches (at known listed left (due.Sample Proved)) lines v left') (sym h.0)
      (end_walk (at known listed left (due.Sample Proved)) left Proved lines left' h.1))
  goals_walk i (item ∷ items) known listed left lines verdict left' e (first, inl h) =
      let count : length subject.goals - i ≡ suc (length items) = sym (length-drop i subject.goals) ∙ ap (λ (xs : List Item). length xs) e in
      let is : slice_get subject.goals i ≡ Some item = dropped_get subject.goals i item items e in
      let t : Task = task.Goal (suc i) in
      let own : Option Var = only_variable (start_of item.term) in
      let last : Walk = at known listed first.after (due.Step t own first.chain.end) in
      subst (λ (n : ℕ). Reaches (at known listed left (goal_due i n)) lines verdict left') (sym count)
      (chain_reaches known listed t item left lines verdict left' (at known listed first.after (goal_due (suc i) (length subject.goals - suc i))) is first
      (ap (λ (x : Summands). behind_chain last t own x) h.0)
      (goals_walk (suc i) items known listed first.after first.rest verdict left' (drop_next subject.goals i item items e) h.1))
  goals_walk i (item ∷ items) known listed left lines verdict left' e (first, inr h) =
      let count : length subject.goals - i ≡ suc (length items) = sym (length-drop i subject.goals) ∙ ap (λ (xs : List Item). length xs) e in
      let is : slice_get subject.goals i ≡ Some item = dropped_get subject.goals i item items e in
      let t : Task = task.Goal (suc i) in
      let own : Option Var = only_variable (start_of item.term) in
      let last : Walk = at known listed first.after (due.Step t own first.chain.end) in
      let ends : List Summands = listed ++ first.chain.end ∷ [] in
      subst (λ (n : ℕ). Reaches (at known listed left (goal_due i n)) lines verdict left') (sym count)
      (chain_reaches known listed t item left lines verdict left' (at known ends first.after (due.Sample (False (suc i)))) is first
      (goal_fails last (suc i) own first.chain.end h.0)
      (subst (λ (v : Verdict). Reaches (at known ends first.after (due.Sample (False (suc i)))) first.rest v left') (sym h.1)
      (end_walk (at known ends first.after (due.Sample (False (suc i)))) first.after (False (suc i)) first.rest left' h.2)))

  conditions_walk : (i : ℕ) (items : List Item) (known : List Var) (listed : List Summands) (left : ℕ) (lines : List Line) (verdict : Verdict) (left' : ℕ)
      → drop i subject.conditions ≡ items
      → AreConditionsWorked (IsChainBy rules) rules.samples subject.goals known listed (suc i) left items lines verdict left'
      → Reaches (at known listed left (condition_due (length subject.goals) i (length subject.conditions - i))) lines verdict left'
  conditions_walk i [] known listed left lines verdict left' e h =
      let count : length subject.conditions - i ≡ 0 = sym (length-drop i subject.conditions) ∙ ap (λ (xs : List Item). length xs) e in
      subst (λ (n : ℕ). Reaches (at known listed left (condition_due (length subject.goals) i n)) lines verdict left') (sym count)
      (subst (λ (n : ℕ). Reaches (at known listed left (goal_due 0 n)) lines verdict left') (minus_none (length subject.goals))
      (goals_walk 0 subject.goals known listed left lines verdict left' refl h))
  conditions_walk i (item ∷ items) known listed left lines verdict left' e (first, inl h) =
      let count : length subject.conditions - i ≡ suc (length items) = sym (length-drop i subject.conditions) ∙ ap (λ (xs : List Item). length xs) e in
      let is : slice_get subject.conditions i ≡ Some item = dropped_get subject.conditions i item items e in
      let t : Task = task.Condition (suc i) in
      let own : Option Var = only_variable (start_of item.term) in
      let last : Walk = at known listed first.after (due.Step t own first.chain.end) in
      let v : Walk = at known listed first.after (due.Verdict (Impossible (suc i))) in
      subst (λ (n : ℕ). Reaches (at known listed left (condition_due (length subject.goals) i n)) lines verdict left') (sym count)
      (chain_reaches known listed t item left lines verdict left' v is first (ap (λ (x : Summands). behind_chain last t own x) h.0)
      (subst (λ (x : Verdict). Reaches v first.rest x left') (sym h.1)
      (subst (λ (n : ℕ). Reaches v first.rest (Impossible (suc i)) n) h.3 (verdict_walk v first.after (Impossible (suc i)) first.rest h.2))))
  conditions_walk i (item ∷ items) known listed left lines verdict left' e (first, inr h) =
      let count : length subject.conditions - i ≡ suc (length items) = sym (length-drop i subject.conditions) ∙ ap (λ (xs : List Item). length xs) e in
      let is : slice_get subject.conditions i ≡ Some item = dropped_get subject.conditions i item items e in
      let t : Task = task.Condition (suc i) in
      let own : Option Var = only_variable (start_of item.term) in
      let last : Walk = at known listed first.after (due.Step t own first.chain.end) in
      let ends : List Summands = listed ++ first.chain.end ∷ [] in
      let vars : List Var = known ++ known_by (item ∷ []) in
      subst (λ (n : ℕ). Reaches (at known listed left (condition_due (length subject.goals) i n)) lines verdict left') (sym count)
      (chain_reaches known listed t item left lines verdict left' (at vars ends first.after (condition_due (length subject.goals) (suc i) (length subject.conditions - suc i))) is first
      (condition_holds last (suc i) own first.chain.end h.0)
      (conditions_walk (suc i) items vars ends first.after first.rest verdict left' (drop_next subject.conditions i item items e) h.1))

  -- a whole log
  pub log_walk : (steps : ℕ) (lines : List Line) (verdict : Verdict) (left : ℕ)
      → AreConditionsWorked (IsChainBy rules) rules.samples subject.goals [] [] 1 steps subject.conditions lines verdict left
      → IsWalked rules subject steps lines verdict left
  log_walk steps lines verdict left h =
      let r = subst (λ (n : ℕ). Reaches (at [] [] steps (condition_due (length subject.goals) 0 n)) lines verdict left) (minus_none (length subject.conditions))
      (conditions_walk 0 subject.conditions [] [] steps lines verdict left refl h) in
      record { last = r.last; walks = r.walks; over = r.over; leaves = r.leaves }
