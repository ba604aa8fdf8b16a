-- What is due behind good lines, line by line.
use Rattle.std.proofs.Common.{◌≡◌, ◌≢◌, ℕ, zero, suc, ◌-◌, ◌<◌, ◌⊎◌, inl, inr, ℤ, Option, Some, None, List, [], ◌∷◌, ◌++◌, map, length}
use Rattle.std.proofs.Common.{drop, append-nil, append_assoc, refl, sym, ◌∙◌, ap, subst, arith}
use Rattle.std.specs.List.{cons_option}
use Rattle.std.specs.Option.{option_to_list}
use Rattle.geo_poly.specs.declared.variables.Var.{Var}
use Rattle.geo_poly.specs.Polynomials.{Summands}
use Rattle.geo_terms.specs.Constructions.{Construction}
use Rattle.geo_terms.specs.Trees.{Tree}
use Rattle.proof_log.specs.declared.log.Line.{Line}
use Rattle.proof_log.specs.declared.log.Line.TheVariants.{Condition as ConditionLine, Goal as GoalLine, Start, End, Sample, Verdict as VerdictLine}
use Rattle.proof_log.specs.declared.log.Verdict.{Verdict}
use Rattle.proof_log.specs.declared.log.Verdict.TheVariants.{False, Impossible}
use Rattle.elim_apply.specs.LemmaTable.{lemma_table}
use Rattle.geo_logs.specs.Chains.{Chain, ChainStep, IsAcceptedChain, IsEnd, LeadsTo, chain_lines, cuts, line_of, moves}
use Rattle.geo_logs.specs.Judging.{IsGoodSoFar, IsGoodToEnd}
use Rattle.geo_logs.specs.Logs.{AreConditionsWorked, AreGoalsWorked, BeginsWithChain, IsConcluded, Item, Subject, known_by, only_variable}
use Rattle.geo_logs.specs.Moves.{move_charge, replacement}
use Rattle.geo_logs.specs.Places.{AreConditionsBegun, AreGoalsBegun, IsBegunChain, IsBegunEnd, IsOpenChain, Place, before_line, before_sample, before_start, in_chain}
use Rattle.geo_logs.specs.Samples.{IsAcceptedSample}
use Rattle.geo_logs.specs.Starts.{IsStarted, start_charge, start_of}
use Rattle.log_checker.specs.Checkers.{AreConditionsDue, AreGoalsDue, IsDue, IsSampleDue, IsStartDue, IsStepDue, IsTaskDue, IsVerdictDue, IsWhole, header_of}
use Rattle.log_checker.specs.declared.due.Due.{Due}
use Rattle.log_checker.specs.declared.due.Due.TheVariants as due
use Rattle.log_checker.specs.declared.due.Task.{Task}
use Rattle.log_checker.specs.declared.due.Task.TheVariants as task
use Rattle.log_checker.specs.declared.evidence.Evidence.{Evidence}
use Rattle.log_checker.proofs.Places.{At, first, none}

-- the items from a place on begin with the one there
drop_item : {A : Type 0} (xs : List A) (i : ℕ) (x : A) → At xs i x → drop i xs ≡ x ∷ drop (suc i) xs
drop_item [] i x e = none i x e
drop_item (y ∷ xs) zero x e = ap (λ z. z ∷ xs) (first y x xs e)
drop_item (y ∷ xs) (suc i) x e = drop_item xs i x e

-- the variable that a start makes known, if any
own_list : (o : Option Var) → cons_option o [] ≡ option_to_list o
own_list None = refl
own_list (Some v) = refl

known_own_by : (o : Option Var) (item : Item) → o ≡ only_variable (start_of item.term) → known_by (item ∷ []) ≡ option_to_list o
known_own_by o item e = own_list (only_variable (start_of item.term)) ∙ ap option_to_list (sym e)

-- the item at a place of the list
item_at : {A : Type 0} (xs : List A) (i : ℕ) → i < length xs → (x : A) × At xs i x
item_at [] i l = absurd (omega (arith, l))
item_at (x ∷ xs) zero l = (x, refl)
item_at (x ∷ xs) (suc i) l = item_at xs i (omega (arith, l))

module _ (subject : Subject) (steps : ℕ) where
  abbrev C : Construction
  C = subject.construction

  abbrev Leads : List Var → ℕ → Summands → List ChainStep → ℕ → Summands → Type 0
  Leads = LeadsTo lemma_table C

  abbrev Works : List Var → ℕ → Tree → Chain → ℕ → Type 0
  Works = IsAcceptedChain lemma_table C

  abbrev Chosen : List Summands → ℕ → List (Var × ℤ) → ℕ → Type 0
  Chosen = IsAcceptedSample C

  abbrev Good : List Line → Place → Type 0
  Good = IsGoodSoFar lemma_table subject steps

  abbrev Open : Line → List Var → ℕ → Tree → List Line → Place → Type 0
  Open = IsOpenChain Leads Works Chosen

  abbrev Begun : Line → List Var → ℕ → Tree → List Line → Place → Type 0
  Begun = IsBegunChain Leads Works Chosen

  -- JUNCTIONS
  pub all_due : AreConditionsDue subject steps [] [] [] steps 0
  all_due = record { begun = λ more place h. h; worked = λ more verdict left h. h }

  -- CHAINS
  chain_stands : (good : List Line) (known : List Var) (listed : List Summands) (left : ℕ) (t : Task) (item : Item) (lines : List Line) (place : Place)
      → IsTaskDue subject steps good known listed left t item → Begun (header_of subject steps t item) known left item.term lines place → Good (good ++ lines) place
  chain_stands good known listed left (task.Condition k) item lines place (index, e, at, d) h =
      d.begun lines place (subst (λ items. AreConditionsBegun Leads Works Chosen subject.goals known listed (suc index) left items lines place) (sym (drop_item subject.conditions index item at))
      (inl (subst (λ n. Begun (ConditionLine n item.text) known left item.term lines place) e h)))
  chain_stands good known listed left (task.Goal k) item lines place (index, e, at, d) h =
      d.begun lines place (subst (λ items. AreGoalsBegun Leads Works Chosen known listed (suc index) left items lines place) (sym (drop_item subject.goals index item at))
      (inl (subst (λ n. Begun (GoalLine n item.text) known left item.term lines place) e h)))

  pub header_stands : (good : List Line) (known : List Var) (listed : List Summands) (left : ℕ) (t : Task) (item : Item) → IsTaskDue subject steps good known listed left t item
      → Good good (before_line (header_of subject steps t item))
  header_stands good known listed left t item d =
      subst (λ ls. Good ls (before_line (header_of subject steps t item))) (append-nil good)
      (chain_stands good known listed left t item [] (before_line (header_of subject steps t item)) d (inl (refl, refl)))

  pub start_stands : (good : List Line) (known : List Var) (listed : List Summands) (left : ℕ) (t : Task) (d : IsStartDue subject steps good known listed left t)
      → Good good (before_start left d.item.term)
  start_stands good known listed left t d =
      subst (λ ls. Good ls (before_start left d.item.term)) (sym d.split)
      (chain_stands d.before known listed left t d.item (header_of subject steps t d.item ∷ []) (before_start left d.item.term) d.due (inr (inl (refl, refl))))

  pub step_stands : (good : List Line) (known : List Var) (listed : List Summands) (left : ℕ) (t : Task) (own : Option Var) (q : Summands)
      → IsStepDue subject steps good known listed left t own q → Good good (in_chain known left q)
  step_stands good known listed left t own q d =
      subst (λ ls. Good ls (in_chain known left q)) (sym d.split)
      (chain_stands d.before known listed d.first t d.item d.lines (in_chain known left q) d.due (inr (inr d.open_chain)))

  -- the header
  abbrev pub start_due : (good : List Line) (known : List Var) (listed : List Summands) (left : ℕ) (t : Task) (item : Item) → IsTaskDue subject steps good known listed left t item
      → IsStartDue subject steps (good ++ header_of subject steps t item ∷ []) known listed left t
  start_due good known listed left t item d = record { before = good; item = item; due = d; split = refl }

  -- the start
  pub first_step_due : (good : List Line) (known : List Var) (listed : List Summands) (left left' : ℕ) (t : Task) (own : Option Var)
      (q : Summands) (d : IsStartDue subject steps good known listed left t)
      → IsStarted left d.item.term → q ≡ start_of d.item.term → left' ≡ left - start_charge d.item.term → own ≡ only_variable q
      → IsStepDue subject steps (good ++ Start q ∷ []) known listed left' t own q
  first_step_due good known listed left left' t own q d started is charged alone =
      let header = header_of subject steps t d.item in
      record {
        before = d.before;
        lines = header ∷ Start q ∷ [];
        item = d.item;
        first = left;
        due = d.due;
        open_chain = record {
          steps = [];
          after = left';
          last = q;
          started = started;
          leads = (sym charged, sym is);
          split = λ i. header ∷ Start (is i) ∷ [];
          stands = refl;
        };
        split = ap (λ ls. ls ++ Start q ∷ []) d.split ∙ append_assoc d.before (header ∷ []) (Start q ∷ []);
        alone = alone ∙ ap only_variable is;
      }

  -- one step more
  one_more : (known : List Var) (left : ℕ) (q : Summands) (front : List ChainStep) (after : ℕ) (last : Summands) (step : ChainStep) (left' : ℕ) (r : Summands)
      → Leads known left q front after last → Leads known after last (step ∷ []) left' r → Leads known left q (front ++ step ∷ []) left' r
  one_more known left q [] after last step left' r h g =
      subst (λ k. Leads known k q (step ∷ []) left' r) (sym h.0) (subst (λ t. Leads known after t (step ∷ []) left' r) (sym h.1) g)
  one_more known left q (moves m s ∷ front) after last step left' r h g =
      (h.0, one_more known (left - move_charge (replacement lemma_table C m q) q) s front after last step left' r h.1 g)
  one_more known left q (cuts f s ∷ front) after last step left' r h g = (h.0, one_more known left s front after last step left' r h.1 g)

  map-last : (front : List ChainStep) (step : ChainStep) → map line_of (front ++ step ∷ []) ≡ map line_of front ++ line_of step ∷ []
  map-last [] step = refl
  map-last (s ∷ front) step = ap (λ ys. line_of s ∷ ys) (map-last front step)

  -- what an open chain at this place has worked
  pub record HasWorked (header : Line) (known : List Var) (first : ℕ) (e : Tree) (lines : List Line) (left : ℕ) (q : Summands) : Type 0 where
    pub front : List ChainStep
    pub started : IsStarted first e
    pub leads : Leads known (first - start_charge e) (start_of e) front left q
    pub split : lines ≡ header ∷ Start (start_of e) ∷ map line_of front

  pub worked_there : (header : Line) (known : List Var) (first : ℕ) (e : Tree) (lines : List Line) (left : ℕ) (q : Summands) → Open header known first e lines (in_chain known left q)
      → HasWorked header known first e lines left q
  worked_there header known first e lines left q h =
      let same : in_chain known left q ≡ in_chain known h.after h.last = h.stands in
      let lefts : h.after ≡ left = cc in
      let lasts : h.last ≡ q = cc in
      record {
        front = h.steps;
        started = h.started;
        leads = subst (λ n. Leads known (first - start_charge e) (start_of e) h.steps n q) lefts (subst (λ r. Leads known (first - start_charge e) (start_of e) h.steps h.after r) lasts h.leads);
        split = h.split;
      }

  pub next_step_due : (good : List Line) (known : List Var) (listed : List Summands) (left left' : ℕ) (t : Task) (own : Option Var) (q r : Summands) (step : ChainStep)
      → IsStepDue subject steps good known listed left t own q → Leads known left q (step ∷ []) left' r
      → IsStepDue subject steps (good ++ line_of step ∷ []) known listed left' t own r
  next_step_due good known listed left left' t own q r step d g =
      let header = header_of subject steps t d.item in
      let e = d.item.term in
      let w = worked_there header known d.first e d.lines left q d.open_chain in
      record {
        before = d.before;
        lines = d.lines ++ line_of step ∷ [];
        item = d.item;
        first = d.first;
        due = d.due;
        open_chain = record {
          steps = w.front ++ step ∷ [];
          after = left';
          last = r;
          started = w.started;
          leads = one_more known (d.first - start_charge e) (start_of e) w.front left q step left' r w.leads g;
          split = ap (λ ls. ls ++ line_of step ∷ []) w.split ∙ ap (λ ys. header ∷ Start (start_of e) ∷ ys) (sym (map-last w.front step));
          stands = refl;
        };
        split = ap (λ ls. ls ++ line_of step ∷ []) d.split ∙ append_assoc d.before d.lines (line_of step ∷ []);
        alone = d.alone;
      }

  -- THE END OF A CHAIN
  -- the chain with its end line
  record IsDone (good : List Line) (known : List Var) (listed : List Summands) (left : ℕ) (t : Task) (own : Option Var) (q : Summands) : Type 0 where
    before : List Line
    item : Item
    first : ℕ
    due : IsTaskDue subject steps before known listed first t item
    chain : Chain
    works : Works known first item.term chain left
    ends : chain.end ≡ q
    split : good ++ End ∷ [] ≡ before ++ chain_lines (header_of subject steps t item) item.term chain
    alone : own ≡ only_variable (start_of item.term)

  done : (good : List Line) (known : List Var) (listed : List Summands) (left : ℕ) (t : Task) (own : Option Var) (q : Summands) → IsStepDue subject steps good known listed left t own q → IsEnd q
      → IsDone good known listed left t own q
  done good known listed left t own q d end =
      let header = header_of subject steps t d.item in
      let e = d.item.term in
      let w = worked_there header known d.first e d.lines left q d.open_chain in
      record {
        before = d.before;
        item = d.item;
        first = d.first;
        due = d.due;
        chain = record { steps = w.front; end = q };
        works = record { started = w.started; leads = w.leads; ended = end };
        ends = refl;
        split = ap (λ ls. ls ++ End ∷ []) (d.split ∙ ap (λ ls. d.before ++ ls) w.split) ∙ append_assoc d.before (header ∷ Start (start_of e) ∷ map line_of w.front) (End ∷ []);
        alone = d.alone;
      }

  -- the chain, and what follows it
  abbrev begins : (header : Line) (known : List Var) (first left : ℕ) (item : Item) (chain : Chain) (more : List Line) → Works known first item.term chain left
      → BeginsWithChain Works Chosen header known first item (chain_lines header item.term chain ++ more)
  begins header known first left item chain more w = record { chain = chain; after = left; rest = more; split = refl; works = w }

  -- lines behind the chain stand behind what was before it
  behind : (good before lines more : List Line) → good ++ End ∷ [] ≡ before ++ lines → before ++ (lines ++ more) ≡ (good ++ End ∷ []) ++ more
  behind good before lines more e = sym (append_assoc before lines more) ∙ ap (λ ls. ls ++ more) (sym e)

  pub condition_done : (good : List Line) (known : List Var) (listed : List Summands) (left k : ℕ) (own : Option Var) (q : Summands)
      → IsStepDue subject steps good known listed left (task.Condition k) own q → IsEnd q → q ≢ []
      → AreConditionsDue subject steps (good ++ End ∷ []) (known ++ option_to_list own) (listed ++ q ∷ []) left k
  condition_done good known listed left k own q d end nonzero = go (done good known listed left (task.Condition k) own q d end)
    where
      go : IsDone good known listed left (task.Condition k) own q → AreConditionsDue subject steps (good ++ End ∷ []) (known ++ option_to_list own) (listed ++ q ∷ []) left k
      go w = subst (λ n. AreConditionsDue subject steps (good ++ End ∷ []) (known ++ option_to_list own) (listed ++ q ∷ []) left n) (sym w.due.1) here
        where
          index : ℕ
          index = w.due.0

          header : Line
          header = ConditionLine (suc index) w.item.text

          tail : List Item
          tail = drop (suc index) subject.conditions

          same_split : good ++ End ∷ [] ≡ w.before ++ chain_lines header w.item.term w.chain
          same_split = w.split ∙ ap (λ n. w.before ++ chain_lines (ConditionLine n w.item.text) w.item.term w.chain) w.due.1

          known_more : known ++ option_to_list own ≡ known ++ known_by (w.item ∷ [])
          known_more = ap (λ vs. known ++ vs) (sym (known_own_by own w.item w.alone))

          listed_more : listed ++ q ∷ [] ≡ listed ++ w.chain.end ∷ []
          listed_more = ap (λ r. listed ++ r ∷ []) (sym w.ends)

          apart : w.chain.end ≢ []
          apart = subst (λ r. r ≢ []) (sym w.ends) nonzero

          here : AreConditionsDue subject steps (good ++ End ∷ []) (known ++ option_to_list own) (listed ++ q ∷ []) left (suc index)
          here = record {
            begun = λ more place h.
                subst (λ ls. Good ls place) (behind good w.before (chain_lines header w.item.term w.chain) more same_split)
                (w.due.3.begun (chain_lines header w.item.term w.chain ++ more) place
                (subst (λ items. AreConditionsBegun Leads Works Chosen subject.goals known listed (suc index) w.first items (chain_lines header w.item.term w.chain ++ more) place)
                (sym (drop_item subject.conditions index w.item w.due.2))
                (inr (
                  begins header known w.first left w.item w.chain more w.works,
                  inr (
                    apart,
                    subst (λ ts. AreConditionsBegun Leads Works Chosen subject.goals (known ++ known_by (w.item ∷ [])) ts (suc (suc index)) left tail more place) listed_more
                        (subst (λ vs. AreConditionsBegun Leads Works Chosen subject.goals vs (listed ++ q ∷ []) (suc (suc index)) left tail more place) known_more h),
                  ),
                ))));
            worked = λ more verdict left' h.
                subst (λ ls. IsWhole subject steps ls verdict left') (behind good w.before (chain_lines header w.item.term w.chain) more same_split)
                (w.due.3.worked (chain_lines header w.item.term w.chain ++ more) verdict left'
                (subst (λ items. AreConditionsWorked Works Chosen subject.goals known listed (suc index) w.first items (chain_lines header w.item.term w.chain ++ more) verdict left')
                (sym (drop_item subject.conditions index w.item w.due.2)) (
                  begins header known w.first left w.item w.chain more w.works,
                  inr (
                    apart,
                    subst (λ ts. AreConditionsWorked Works Chosen subject.goals (known ++ known_by (w.item ∷ [])) ts (suc (suc index)) left tail more verdict left') listed_more
                        (subst (λ vs. AreConditionsWorked Works Chosen subject.goals vs (listed ++ q ∷ []) (suc (suc index)) left tail more verdict left') known_more h),
                  ),
                )));
          }

  pub impossible_due : (good : List Line) (known : List Var) (listed : List Summands) (left k : ℕ) (own : Option Var) (q : Summands)
      → IsStepDue subject steps good known listed left (task.Condition k) own q → IsEnd q → q ≡ []
      → IsVerdictDue subject steps (good ++ End ∷ []) (Impossible k) left
  impossible_due good known listed left k own q d end none_left = go (done good known listed left (task.Condition k) own q d end)
    where
      go : IsDone good known listed left (task.Condition k) own q → IsVerdictDue subject steps (good ++ End ∷ []) (Impossible k) left
      go w = subst (λ n. IsVerdictDue subject steps (good ++ End ∷ []) (Impossible n) left) (sym w.due.1) here
        where
          index : ℕ
          index = w.due.0

          header : Line
          header = ConditionLine (suc index) w.item.text

          same_split : good ++ End ∷ [] ≡ w.before ++ chain_lines header w.item.term w.chain
          same_split = w.split ∙ ap (λ n. w.before ++ chain_lines (ConditionLine n w.item.text) w.item.term w.chain) w.due.1

          here : IsVerdictDue subject steps (good ++ End ∷ []) (Impossible (suc index)) left
          here = record {
            stands =
                subst (λ ls. Good ls (before_line (VerdictLine (Impossible (suc index))))) (behind good w.before (chain_lines header w.item.term w.chain) [] same_split ∙ append-nil (good ++ End ∷ []))
                (w.due.3.begun (chain_lines header w.item.term w.chain ++ []) (before_line (VerdictLine (Impossible (suc index))))
                (subst (λ items. AreConditionsBegun Leads Works Chosen subject.goals known listed (suc index) w.first items
                (chain_lines header w.item.term w.chain ++ []) (before_line (VerdictLine (Impossible (suc index)))))
                (sym (drop_item subject.conditions index w.item w.due.2))
                (inr (begins header known w.first left w.item w.chain [] w.works, inl (w.ends ∙ none_left, refl, refl)))));
            whole =
                subst (λ ls. IsWhole subject steps ls (Impossible (suc index)) left)
                (behind good w.before (chain_lines header w.item.term w.chain) (VerdictLine (Impossible (suc index)) ∷ []) same_split)
                (w.due.3.worked (chain_lines header w.item.term w.chain ++ VerdictLine (Impossible (suc index)) ∷ []) (Impossible (suc index)) left
                (subst (λ items. AreConditionsWorked Works Chosen subject.goals known listed (suc index) w.first items
                (chain_lines header w.item.term w.chain ++ VerdictLine (Impossible (suc index)) ∷ []) (Impossible (suc index)) left)
                (sym (drop_item subject.conditions index w.item w.due.2))
                (begins header known w.first left w.item w.chain (VerdictLine (Impossible (suc index)) ∷ []) w.works, inl (w.ends ∙ none_left, refl, refl, refl))));
          }

  pub goal_zero : (good : List Line) (known : List Var) (listed : List Summands) (left k : ℕ) (own : Option Var) (q : Summands)
      → IsStepDue subject steps good known listed left (task.Goal k) own q → IsEnd q → q ≡ []
      → AreGoalsDue subject steps (good ++ End ∷ []) known listed left k
  goal_zero good known listed left k own q d end none_left = go (done good known listed left (task.Goal k) own q d end)
    where
      go : IsDone good known listed left (task.Goal k) own q → AreGoalsDue subject steps (good ++ End ∷ []) known listed left k
      go w = subst (λ n. AreGoalsDue subject steps (good ++ End ∷ []) known listed left n) (sym w.due.1) here
        where
          index : ℕ
          index = w.due.0

          header : Line
          header = GoalLine (suc index) w.item.text

          same_split : good ++ End ∷ [] ≡ w.before ++ chain_lines header w.item.term w.chain
          same_split = w.split ∙ ap (λ n. w.before ++ chain_lines (GoalLine n w.item.text) w.item.term w.chain) w.due.1

          here : AreGoalsDue subject steps (good ++ End ∷ []) known listed left (suc index)
          here = record {
            begun = λ more place h.
                subst (λ ls. Good ls place) (behind good w.before (chain_lines header w.item.term w.chain) more same_split)
                (w.due.3.begun (chain_lines header w.item.term w.chain ++ more) place
                (subst (λ items. AreGoalsBegun Leads Works Chosen known listed (suc index) w.first items (chain_lines header w.item.term w.chain ++ more) place)
                (sym (drop_item subject.goals index w.item w.due.2))
                (inr (begins header known w.first left w.item w.chain more w.works, inl (w.ends ∙ none_left, h)))));
            worked = λ more verdict left' h.
                subst (λ ls. IsWhole subject steps ls verdict left') (behind good w.before (chain_lines header w.item.term w.chain) more same_split)
                (w.due.3.worked (chain_lines header w.item.term w.chain ++ more) verdict left'
                (subst (λ items. AreGoalsWorked Works Chosen known listed (suc index) w.first items (chain_lines header w.item.term w.chain ++ more) verdict left')
                (sym (drop_item subject.goals index w.item w.due.2))
                (begins header known w.first left w.item w.chain more w.works, inl (w.ends ∙ none_left, h))));
          }

  pub goal_fails : (good : List Line) (known : List Var) (listed : List Summands) (left k : ℕ) (own : Option Var) (q : Summands)
      → IsStepDue subject steps good known listed left (task.Goal k) own q → IsEnd q → q ≢ []
      → IsSampleDue subject steps (good ++ End ∷ []) (listed ++ q ∷ []) (False k) left
  goal_fails good known listed left k own q d end nonzero = go (done good known listed left (task.Goal k) own q d end)
    where
      go : IsDone good known listed left (task.Goal k) own q → IsSampleDue subject steps (good ++ End ∷ []) (listed ++ q ∷ []) (False k) left
      go w = subst (λ n. IsSampleDue subject steps (good ++ End ∷ []) (listed ++ q ∷ []) (False n) left) (sym w.due.1) here
        where
          index : ℕ
          index = w.due.0

          header : Line
          header = GoalLine (suc index) w.item.text

          same_split : good ++ End ∷ [] ≡ w.before ++ chain_lines header w.item.term w.chain
          same_split = w.split ∙ ap (λ n. w.before ++ chain_lines (GoalLine n w.item.text) w.item.term w.chain) w.due.1

          listed_more : listed ++ q ∷ [] ≡ listed ++ w.chain.end ∷ []
          listed_more = ap (λ r. listed ++ r ∷ []) (sym w.ends)

          apart : w.chain.end ≢ []
          apart = subst (λ r. r ≢ []) (sym w.ends) nonzero

          here : IsSampleDue subject steps (good ++ End ∷ []) (listed ++ q ∷ []) (False (suc index)) left
          here = record {
            begun = λ more place h.
                subst (λ ls. Good ls place) (behind good w.before (chain_lines header w.item.term w.chain) more same_split)
                (w.due.3.begun (chain_lines header w.item.term w.chain ++ more) place
                (subst (λ items. AreGoalsBegun Leads Works Chosen known listed (suc index) w.first items (chain_lines header w.item.term w.chain ++ more) place)
                (sym (drop_item subject.goals index w.item w.due.2))
                (inr (
                  begins header known w.first left w.item w.chain more w.works,
                  inr (
                    apart,
                    subst (λ ts. IsBegunEnd Leads Works Chosen ts (False (suc index)) left more place) listed_more h,
                  ),
                ))));
            worked = λ more left' h.
                subst (λ ls. IsWhole subject steps ls (False (suc index)) left') (behind good w.before (chain_lines header w.item.term w.chain) more same_split)
                (w.due.3.worked (chain_lines header w.item.term w.chain ++ more) (False (suc index)) left'
                (subst (λ items. AreGoalsWorked Works Chosen known listed (suc index) w.first items (chain_lines header w.item.term w.chain ++ more) (False (suc index)) left')
                (sym (drop_item subject.goals index w.item w.due.2)) (
                  begins header known w.first left w.item w.chain more w.works,
                  inr (
                    apart,
                    refl,
                    subst (λ ts. IsConcluded Works Chosen ts left more (False (suc index)) left') listed_more h,
                  ),
                )));
          }

  -- THE SAMPLE
  pub sample_stands : (good : List Line) (listed : List Summands) (verdict : Verdict) (left : ℕ) → IsSampleDue subject steps good listed verdict left → Good good (before_sample listed left)
  sample_stands good listed verdict left d = subst (λ ls. Good ls (before_sample listed left)) (append-nil good) (d.begun [] (before_sample listed left) (inl (refl, refl)))

  -- WHERE THE LOG STANDS
  -- before the verdict the log stands at a place
  pub stands_open : (e : Evidence) (d : Due) (good : List Line) → ((v : Verdict) → d ≢ due.Nothing v) → IsDue subject steps e d good → (place : Place) × Good good place
  stands_open e (due.Condition index) good n h =
      let at = item_at subject.conditions index h.0 in (
        before_line (ConditionLine (suc index) at.0.text),
        header_stands good e.known e.ends e.budget.left (task.Condition (suc index)) at.0 (index, refl, at.1, h.1),
      )
  stands_open e (due.Goal index) good n h =
      let at = item_at subject.goals index h.0 in (
        before_line (GoalLine (suc index) at.0.text),
        header_stands good e.known e.ends e.budget.left (task.Goal (suc index)) at.0 (index, refl, at.1, h.1),
      )
  stands_open e (due.Start t term) good n h = (before_start e.budget.left h.0.item.term, start_stands good e.known e.ends e.budget.left t h.0)
  stands_open e (due.Step t own q) good n h = (in_chain e.known e.budget.left q, step_stands good e.known e.ends e.budget.left t own q h)
  stands_open e (due.Sample verdict) good n h = (before_sample e.ends e.budget.left, sample_stands good e.ends verdict e.budget.left h)
  stands_open e (due.Verdict verdict) good n h = (before_line (VerdictLine verdict), h.stands)
  stands_open e (due.Nothing verdict) good n h = absurd (n verdict refl)

  is_nothing : (d : Due) → ((v : Verdict) × (d ≡ due.Nothing v)) ⊎ ((v : Verdict) → d ≢ due.Nothing v)
  is_nothing (due.Nothing v) = inl (v, refl)
  is_nothing (due.Condition index) = inr (λ v (e : due.Condition index ≡ due.Nothing v). cc)
  is_nothing (due.Goal index) = inr (λ v (e : due.Goal index ≡ due.Nothing v). cc)
  is_nothing (due.Start t term) = inr (λ v (e : due.Start t term ≡ due.Nothing v). cc)
  is_nothing (due.Step t own q) = inr (λ v (e : due.Step t own q ≡ due.Nothing v). cc)
  is_nothing (due.Sample w) = inr (λ v (e : due.Sample w ≡ due.Nothing v). cc)
  is_nothing (due.Verdict w) = inr (λ v (e : due.Verdict w ≡ due.Nothing v). cc)

  -- at a place, or behind the verdict
  pub stands : (e : Evidence) (d : Due) (good : List Line) → IsDue subject steps e d good → ((place : Place) × Good good place) ⊎ IsGoodToEnd lemma_table subject steps good
  stands e d good h = go (is_nothing d)
    where
      go : ((v : Verdict) × (d ≡ due.Nothing v)) ⊎ ((v : Verdict) → d ≢ due.Nothing v) → ((place : Place) × Good good place) ⊎ IsGoodToEnd lemma_table subject steps good
      go (inl (v, is)) = inr (v, e.budget.left, subst (λ x. IsDue subject steps e x good) is h)
      go (inr n) = inl (stands_open e d good n h)
