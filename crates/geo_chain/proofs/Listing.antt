-- The chains of conditions and goals, one after another.
use Rattle.std.proofs.Common.{◌≡◌, ◌≢◌, ℕ, zero, suc, ◌+◌, ◌<◌, ◌≤◌, inl, inr, Option, Some, None, List, [], ◌∷◌, ◌++◌, length}
use Rattle.std.proofs.Common.{append-nil, append_assoc, add-one, refl, sym, ◌∙◌, ap, subst, take, drop, ℤ, arith}
use Rattle.std.specs.Prelude.{All, IfNone, IfSome, slice_get}
use Rattle.std.specs.List.{cons_option}
use Rattle.std.proofs.lemmas.List.Elements.{All-get_or}
use Rattle.std.proofs.lemmas.Option.{get_or_from_slice_get, slice_get_within}
use Rattle.std.proofs.Math.Seq.{take-append_seam, take-length}
use Rattle.geo_conditions.specs.declared.items.Item.{Item as ListedItem}
use Rattle.geo_conditions.specs.declared.problem.Problem.{Problem}
use Rattle.geo_poly.specs.declared.variables.Var.{Var}
use Rattle.geo_points.specs.declared.ids.TermId.{TermId}
use Rattle.geo_poly.specs.Polynomials.{Summands}
use Rattle.geo_poly.specs.Specialise.{NoneZero}
use Rattle.geo_terms.specs.Constructions.{Construction}
use Rattle.geo_terms.specs.Stores.{Store, tree_of}
use Rattle.geo_terms.specs.Trees.{Tree}
use Rattle.proof_log.specs.declared.log.Line.{Line}
use Rattle.proof_log.specs.declared.log.Line.TheVariants.{Condition, Goal, Sample, Verdict as VerdictLine}
use Rattle.proof_log.specs.declared.log.Verdict.{Verdict}
use Rattle.proof_log.specs.declared.log.Verdict.TheVariants.{Proved, False, Impossible}
use Rattle.geo_logs.specs.Chains.{chain_lines}
use Rattle.geo_logs.specs.Logs.{Item, known_by}
use Rattle.geo_logs.specs.Places.{Place, before_line, before_sample}
use Rattle.geo_logs.proofs.AcceptedProvers.{All-push}
use Rattle.geo_chain.specs.declared.errors.ProveError.TheVariants.{NoMemory}
use Rattle.geo_chain.specs.declared.frame.Frame.{Frame}
use Rattle.geo_chain.specs.InFrame.{chosen_in}
use Rattle.geo_chain.specs.Sizes.{Fits}
use Rattle.geo_chain.specs.Halting.{Finishes, Halts, IsImpossibleAt, Passes, WorksChain}
use Rattle.geo_chain.specs.Parts.{IsInside, Part, chain_part, conditions_part, end_part, goals_part, here_part, item_of, items_of}
use Rattle.geo_chain.specs.Tasks.{IsConditionTask, IsGoalTask, IsItemReady, conditions_before, conditions_from, goals_from}
use Rattle.geo_chain.specs.Written.{State, Writes}
use Rattle.geo_chain.proofs.Passing.{memory_in, passes_at_once, reaches, writes_more, writes_nothing}

-- PLACES
pub at_drop : {A : Type 0} (xs : List A) (i : ℕ) (x : A) → slice_get xs i ≡ Some x → drop i xs ≡ x ∷ drop (suc i) xs
at_drop [] i x e = absurd (let f : ⊥ = cc in f)
at_drop (y ∷ ys) zero x e = let same : y ≡ x = cc in ap (λ z. z ∷ ys) same
at_drop (y ∷ ys) (suc i) x e = at_drop ys i x e

past_end : {A : Type 0} (xs : List A) (i : ℕ) → length xs ≤ i → drop i xs ≡ []
past_end [] zero h = refl
past_end [] (suc i) h = refl
past_end (x ∷ xs) zero h = absurd (omega (arith, h))
past_end (x ∷ xs) (suc i) h = past_end xs i (omega (arith, h))

some_at : {A : Type 0} (xs : List A) (i : ℕ) → i < length xs → (x : A) × (slice_get xs i ≡ Some x)
some_at [] i h = absurd (omega (arith, h))
some_at (x ∷ xs) zero h = (x, refl)
some_at (x ∷ xs) (suc i) h = some_at xs i (omega (arith, h))

-- what is due first
module _ (frame : Frame) (c : Construction) where
  goals_start : (known : List Var) (listed : List Summands) (k left : ℕ) (goals : List Item)
      → (place : Place) × (goals_part frame c known listed k left goals).begun [] place
  goals_start known listed k left [] = (before_sample listed left, inl (refl, refl))
  goals_start known listed k left (item ∷ items) = (before_line (Goal k item.text), inl (inl (refl, refl)))

  pub conditions_start : (goals : List Item) (known : List Var) (listed : List Summands) (k left : ℕ) (items : List Item)
      → (place : Place) × (conditions_part frame c goals known listed k left items).begun [] place
  conditions_start goals known listed k left [] = goals_start known listed 1 left goals
  conditions_start goals known listed k left (item ∷ items) = (before_line (Condition k item.text), inl (inl (refl, refl)))

module _ (frame : Frame) (c : Construction) (nodes : Store) (list : List ListedItem) where
  abbrev term : ListedItem → Tree
  term item = tree_of nodes item.term

  items_at : (items : List ListedItem) (i : ℕ) (item : ListedItem) → slice_get items i ≡ Some item
      → items_of nodes (drop i items) ≡ item_of nodes item ∷ items_of nodes (drop (suc i) items)
  items_at items i item at = ap (λ xs. items_of nodes xs) (at_drop items i item at)

  -- CONDITIONS, whatever goals stand behind them
  module _ (goals : List Item) (i : ℕ) (known : List Var) (listed : List Summands) (left : ℕ) where
    abbrev Conditions : List Item → Part
    Conditions items = conditions_part frame c goals known listed (suc i) left items

    -- a list of conditions begins with the chain of the first
    pub condition_chain : (item : ListedItem) (s : State) → slice_get list i ≡ Some item
        → Passes (conditions_before frame c nodes list goals i known listed left)
        (chain_part frame c (Condition (suc i) item.text) known left (term item)) s s
    condition_chain item s at =
        passes_at_once (conditions_before frame c nodes list goals i known listed left)
        (chain_part frame c (Condition (suc i) item.text) known left (term item)) s
        (λ lines place h. subst (λ items. (Conditions items).begun lines place) (sym (items_at list i item at)) (inl h))
        (λ lines verdict l w. absurd w)

    module _ (item : ListedItem) (left' : ℕ) (s t : State) (end : Summands) (variable : Option Var) (at : slice_get list i ≡ Some item)
        (h : WorksChain frame c (Condition (suc i) item.text) known left (term item) left' s t end variable) where
      abbrev header : Line
      header = Condition (suc i) item.text

      abbrev own : Item
      own = item_of nodes item

      abbrev rest : List Item
      rest = items_of nodes (drop (suc i) list)

      abbrev lines : List Line
      lines = chain_lines header (term item) h.chain

      -- where it does not end in 0, the next condition follows
      pub condition_passes : end ≢ []
          → Passes (conditions_before frame c nodes list goals i known listed left)
          (conditions_before frame c nodes list goals (suc i) (known ++ cons_option variable []) (listed ++ end ∷ []) left') s t
      condition_passes nonzero = record {
        lines = chain_lines header (term item) h.chain;
        continues = record {
          begun = λ more place b. subst (λ items. (Conditions items).begun (chain_lines header (term item) h.chain ++ more) place)
              (sym (items_at list i item at))
              (inr (
                record { chain = h.chain; after = left'; rest = more; split = refl; works = h.works },
                inr (
                  (λ e. nonzero (h.ended ∙ e)),
                  subst (λ q. (conditions_part frame c goals (known ++ known_by (own ∷ [])) (listed ++ q ∷ [])
                      (suc (suc i)) left' rest).begun more place) h.ended
                      (subst (λ v. (conditions_part frame c goals (known ++ cons_option v []) (listed ++ end ∷ [])
                      (suc (suc i)) left' rest).begun more place) h.told b),
                ),
              ));
          whole = λ more verdict l w. subst (λ items. (Conditions items).whole (chain_lines header (term item) h.chain ++ more) verdict l)
              (sym (items_at list i item at)) (
                record { chain = h.chain; after = left'; rest = more; split = refl; works = h.works },
                inr (
                  (λ e. nonzero (h.ended ∙ e)),
                  subst (λ q. (conditions_part frame c goals (known ++ known_by (own ∷ [])) (listed ++ q ∷ [])
                      (suc (suc i)) left' rest).whole more verdict l) h.ended
                      (subst (λ v. (conditions_part frame c goals (known ++ cons_option v []) (listed ++ end ∷ [])
                      (suc (suc i)) left' rest).whole more verdict l) h.told w),
                ),
              );
        };
        written = h.written;
      }

      -- where it does, it is impossible
      pub condition_impossible : end ≡ [] → IsImpossibleAt (conditions_before frame c nodes list goals i known listed left) left' s t
          (suc i)
      condition_impossible zero_end = record {
        lines = lines;
        begun =
            subst (λ items. (Conditions items).begun lines (before_line (VerdictLine (Impossible (suc i))))) (sym (items_at list i item at))
            (inr (
              record { chain = h.chain; after = left'; rest = []; split = sym (append-nil lines); works = h.works },
              inl (sym h.ended ∙ zero_end, refl, refl),
            ));
        whole =
            subst (λ items. (Conditions items).whole (lines ++ VerdictLine (Impossible (suc i)) ∷ []) (Impossible (suc i)) left')
            (sym (items_at list i item at)) (
              record { chain = h.chain; after = left'; rest = VerdictLine (Impossible (suc i)) ∷ []; split = refl; works = h.works },
              inl (sym h.ended ∙ zero_end, refl, refl, refl),
            );
        written = h.written;
      }

    -- behind all conditions come the goals
    pub conditions_over : (s : State) → length list ≤ i
        → Passes (conditions_before frame c nodes list goals i known listed left) (goals_part frame c known listed 1 left goals) s s
    conditions_over s over =
        let none = ap (λ xs. items_of nodes xs) (past_end list i over) in
        passes_at_once (conditions_before frame c nodes list goals i known listed left) (goals_part frame c known listed 1 left goals) s
        (λ lines place h. subst (λ items. (Conditions items).begun lines place) (sym none) h)
        (λ lines verdict l w. subst (λ items. (Conditions items).whole lines verdict l) (sym none) w)

    -- memory runs out
    pub conditions_halt : (s : State) → Fits s.size → Halts frame c
        (conditions_before frame c nodes list goals i known listed left) s s NoMemory
    conditions_halt s fits =
        let start = conditions_start frame c goals known listed (suc i) left (items_of nodes (drop i list)) in
        memory_in frame c (conditions_before frame c nodes list goals i known listed left) start.0 s start.1 fits

    -- tasks
    module _ (header : Line) (id : TermId) where
      pub task_chain : (s : State) → IsConditionTask list i header id
          → Passes (conditions_before frame c nodes list goals i known listed left)
          (chain_part frame c header known left (tree_of nodes id)) s s
      task_chain s task =
          subst (λ h. Passes (conditions_before frame c nodes list goals i known listed left)
          (chain_part frame c h known left (tree_of nodes id)) s s) (sym task.header_is)
          (subst (λ t. Passes (conditions_before frame c nodes list goals i known listed left)
          (chain_part frame c (Condition (suc i) task.item.text) known left (tree_of nodes t)) s s) (sym task.term_is)
          (condition_chain task.item s task.at))

      module _ (left' : ℕ) (s t : State) (end : Summands) (variable : Option Var)
          (h : WorksChain frame c header known left (tree_of nodes id) left' s t end variable) where
        works_condition : (task : IsConditionTask list i header id)
            → WorksChain frame c (Condition (suc i) task.item.text) known left (term task.item) left' s t end variable
        works_condition task =
            subst (λ x. WorksChain frame c (Condition (suc i) task.item.text) known left
            (tree_of nodes x) left' s t end variable) task.term_is
            (subst (λ l. WorksChain frame c l known left (tree_of nodes id) left' s t end variable) task.header_is h)

        -- a condition whose chain does not end in 0
        pub task_passes : (known' : List Var) (listed' : List Summands) → IsConditionTask list i header id → end ≢ []
            → known' ≡ known ++ cons_option variable [] → listed' ≡ listed ++ end ∷ []
            → Passes (conditions_before frame c nodes list goals i known listed left)
            (conditions_before frame c nodes list goals (i + 1) known' listed' left') s t
        task_passes known' listed' task nonzero k l =
            subst (λ n. Passes (conditions_before frame c nodes list goals i known listed left)
            (conditions_before frame c nodes list goals n known' listed' left') s t) (sym (add-one i))
            (subst (λ ks. Passes (conditions_before frame c nodes list goals i known listed left)
            (conditions_before frame c nodes list goals (suc i) ks listed' left') s t) (sym k)
            (subst (λ ls. Passes (conditions_before frame c nodes list goals i known listed left)
            (conditions_before frame c nodes list goals (suc i) (known ++ cons_option variable []) ls left') s t) (sym l)
            (condition_passes task.item left' s t end variable task.at (works_condition task) nonzero)))

        -- one whose chain does
        pub task_impossible : IsConditionTask list i header id → end ≡ []
            → IsImpossibleAt (conditions_before frame c nodes list goals i known listed left) left' s t (i + 1)
        task_impossible task zero_end =
            subst (λ n. IsImpossibleAt (conditions_before frame c nodes list goals i known listed left) left' s t n) (sym (add-one i))
            (condition_impossible task.item left' s t end variable task.at (works_condition task) zero_end)

  -- GOALS
  module _ (i : ℕ) (known : List Var) (listed : List Summands) (left : ℕ) where
    abbrev Goals : List Item → Part
    Goals items = goals_part frame c known listed (suc i) left items

    pub goal_chain : (item : ListedItem) (s : State) → slice_get list i ≡ Some item
        → Passes (goals_from frame c nodes list i known listed left)
        (chain_part frame c (Goal (suc i) item.text) known left (term item)) s s
    goal_chain item s at =
        passes_at_once (goals_from frame c nodes list i known listed left)
        (chain_part frame c (Goal (suc i) item.text) known left (term item)) s
        (λ lines place h. subst (λ items. (Goals items).begun lines place) (sym (items_at list i item at)) (inl h))
        (λ lines verdict l w. absurd w)

    module _ (item : ListedItem) (left' : ℕ) (s t : State) (end : Summands) (variable : Option Var) (at : slice_get list i ≡ Some item)
        (h : WorksChain frame c (Goal (suc i) item.text) known left (term item) left' s t end variable) where
      abbrev goal_lines : List Line
      goal_lines = chain_lines (Goal (suc i) item.text) (term item) h.chain

      -- where it ends in 0, the next goal follows
      pub goal_passes : end ≡ [] → Passes (goals_from frame c nodes list i known listed left)
          (goals_from frame c nodes list (suc i) known listed left') s t
      goal_passes zero_end = record {
        lines = goal_lines;
        continues = record {
          begun = λ more place b. subst (λ items. (Goals items).begun (goal_lines ++ more) place) (sym (items_at list i item at))
              (inr (
                record { chain = h.chain; after = left'; rest = more; split = refl; works = h.works },
                inl
                    (sym h.ended ∙ zero_end, b),
              ));
          whole = λ more verdict l w. subst (λ items. (Goals items).whole (goal_lines ++ more) verdict l) (sym (items_at list i item at))
              (record { chain = h.chain; after = left'; rest = more; split = refl; works = h.works }, inl (sym h.ended ∙ zero_end, w));
        };
        written = h.written;
      }

      -- where it does not, the end of the log follows
      pub goal_fails : end ≢ [] → Passes (goals_from frame c nodes list i known listed left)
          (end_part frame c (listed ++ end ∷ []) (False (suc i)) left') s t
      goal_fails nonzero = record {
        lines = goal_lines;
        continues = record {
          begun = λ more place b. subst (λ items. (Goals items).begun (goal_lines ++ more) place) (sym (items_at list i item at))
              (inr (
                record { chain = h.chain; after = left'; rest = more; split = refl; works = h.works },
                inr (
                  (λ e. nonzero (h.ended ∙ e)),
                  subst (λ q. (end_part frame c (listed ++ q ∷ [])
                      (False (suc i)) left').begun more place) h.ended b,
                ),
              ));
          whole = λ more verdict l w. subst (λ items. (Goals items).whole (goal_lines ++ more) verdict l) (sym (items_at list i item at)) (
            record { chain = h.chain; after = left'; rest = more; split = refl; works = h.works },
            inr (
              (λ e. nonzero (h.ended ∙ e)),
              (subst (λ q. (end_part frame c (listed ++ q ∷ []) (False (suc i)) left').whole more verdict l) h.ended w).0,
              (subst (λ q. (end_part frame c (listed ++ q ∷ []) (False (suc i)) left').whole more verdict l) h.ended w).1,
            ),
          );
        };
        written = h.written;
      }

    -- behind all goals comes the end of a proof
    pub goals_over : (s : State) → length list ≤ i → Passes (goals_from frame c nodes list i known listed left)
        (end_part frame c listed Proved left) s s
    goals_over s over =
        let none = ap (λ xs. items_of nodes xs) (past_end list i over) in
        passes_at_once (goals_from frame c nodes list i known listed left) (end_part frame c listed Proved left) s
        (λ lines place h. subst (λ items. (Goals items).begun lines place) (sym none) h)
        (λ lines verdict l w. subst (λ items. (Goals items).whole lines verdict l) (sym none) w)

    -- memory runs out
    pub goals_halt : (s : State) → Fits s.size → Halts frame c (goals_from frame c nodes list i known listed left) s s NoMemory
    goals_halt s fits =
        let start = goals_start frame c known listed (suc i) left (items_of nodes (drop i list)) in
        memory_in frame c (goals_from frame c nodes list i known listed left) start.0 s start.1 fits

    -- tasks
    module _ (header : Line) (id : TermId) where
      pub goal_task_chain : (s : State) → IsGoalTask list i header id
          → Passes (goals_from frame c nodes list i known listed left) (chain_part frame c header known left (tree_of nodes id)) s s
      goal_task_chain s task =
          subst (λ h. Passes (goals_from frame c nodes list i known listed left) (chain_part frame c h known left (tree_of nodes id)) s s)
          (sym task.header_is)
          (subst (λ t. Passes (goals_from frame c nodes list i known listed left)
          (chain_part frame c (Goal (suc i) task.item.text) known left (tree_of nodes t)) s s) (sym task.term_is)
          (goal_chain task.item s task.at))

      module _ (left' : ℕ) (s t : State) (end : Summands) (variable : Option Var)
          (h : WorksChain frame c header known left (tree_of nodes id) left' s t end variable) where
        works_goal : (task : IsGoalTask list i header id) → WorksChain frame c (Goal (suc i) task.item.text) known left
            (term task.item) left' s t end variable
        works_goal task =
            subst (λ x. WorksChain frame c (Goal (suc i) task.item.text) known left (tree_of nodes x) left' s t end variable) task.term_is
            (subst (λ l. WorksChain frame c l known left (tree_of nodes id) left' s t end variable) task.header_is h)

        -- a goal whose chain ends in 0
        pub goal_task_passes : IsGoalTask list i header id → end ≡ []
            → Passes (goals_from frame c nodes list i known listed left) (goals_from frame c nodes list (i + 1) known listed left') s t
        goal_task_passes task zero_end =
            subst (λ n. Passes (goals_from frame c nodes list i known listed left) (goals_from frame c nodes list n known listed left') s t)
            (sym (add-one i)) (goal_passes task.item left' s t end variable task.at (works_goal task) zero_end)

        -- one whose chain does not
        pub goal_task_fails : (listed' : List Summands) → IsGoalTask list i header id → end ≢ [] → listed' ≡ listed ++ end ∷ []
            → Passes (goals_from frame c nodes list i known listed left) (end_part frame c listed' (False (i + 1)) left') s t
        goal_task_fails listed' task nonzero l =
            subst (λ n. Passes (goals_from frame c nodes list i known listed left) (end_part frame c listed' (False n) left') s t)
            (sym (add-one i))
            (subst (λ ls. Passes (goals_from frame c nodes list i known listed left) (end_part frame c ls (False (suc i)) left') s t)
            (sym l) (goal_fails task.item left' s t end variable task.at (works_goal task) nonzero))

  -- READY ITEMS
  ready_at : (i : ℕ) (item : ListedItem) → All (IsItemReady c nodes) list → slice_get list i ≡ Some item → IsItemReady c nodes item
  ready_at i item ready at =
      subst (IsItemReady c nodes) (get_or_from_slice_get list i item item at)
      (All-get_or (IsItemReady c nodes) list i item (slice_get_within list i item at) ready)

  pub condition_ready : (i : ℕ) (head : Line) (id : TermId) → All (IsItemReady c nodes) list → IsConditionTask list i head id
      → (id.0 < length nodes) × IsInside c (tree_of nodes id)
  condition_ready i head id ready task =
      let own = ready_at i task.item ready task.at in
      subst (λ (t : TermId). (t.0 < length nodes) × IsInside c (tree_of nodes t)) (sym task.term_is) (own.stored, own.inside)

  pub goal_ready : (i : ℕ) (head : Line) (id : TermId) → All (IsItemReady c nodes) list → IsGoalTask list i head id
      → (id.0 < length nodes) × IsInside c (tree_of nodes id)
  goal_ready i head id ready task =
      let own = ready_at i task.item ready task.at in
      subst (λ (t : TermId). (t.0 < length nodes) × IsInside c (tree_of nodes t)) (sym task.term_is) (own.stored, own.inside)

-- NONE ZERO
pub nonzero_more : (listed listed' : List Summands) (end : Summands) → NoneZero listed → end ≢ [] → listed' ≡ listed ++ end ∷ []
    → NoneZero listed'
nonzero_more listed listed' end h n e = subst NoneZero (sym e) (All-push (λ r. r ≢ []) listed end h n)

-- ENDS THAT ARE ONLY ADDED
pub ends_stay : (listed listed' : List Summands) → listed' ≡ listed → take (length listed) listed' ≡ listed
ends_stay listed listed' e = ap (λ ls. take (length listed) ls) e ∙ take-length listed

pub ends_grow : (listed listed' more : List Summands) → listed' ≡ listed ++ more → take (length listed) listed' ≡ listed
ends_grow listed listed' more e = ap (λ ls. take (length listed) ls) e ∙ take-append_seam listed more

-- THE END
module _ (frame : Frame) (c : Construction) (listed : List Summands) (verdict : Verdict) (left : ℕ) where
  pub at_sample : (s : State) → Passes (end_part frame c listed verdict left) (here_part (before_sample listed left)) s s
  at_sample s = reaches (end_part frame c listed verdict left) [] (before_sample listed left) s s (inl (refl, refl)) (writes_nothing s)

  module _ (values : List (Var × ℤ)) (left' : ℕ) (chosen : chosen_in frame c listed left values left') (s t : State)
      (w : Writes (Sample values ∷ []) s t) where
    pub at_verdict : Passes (end_part frame c listed verdict left) (here_part (before_line (VerdictLine verdict))) s t
    at_verdict = reaches (end_part frame c listed verdict left) (Sample values ∷ []) (before_line (VerdictLine verdict)) s t
        (inr (values, left', chosen, refl, refl)) w

    pub concludes : (u : State) → Writes (VerdictLine verdict ∷ []) t u → Finishes (end_part frame c listed verdict left) s u verdict left'
    concludes u v = record {
      lines = Sample values ∷ VerdictLine verdict ∷ [];
      whole = (refl, record { values = values; chosen = chosen; split = refl });
      written = writes_more (Sample values ∷ []) (VerdictLine verdict ∷ []) s t u w v;
    }

-- what is told of the conditions, where nothing is known yet
pub at_nothing : (R : Part → Type 0) (frame : Frame) (problem : Problem) (known : List Var) (listed : List Summands) (left : ℕ) → known ≡ []
    → listed ≡ [] → R (conditions_from frame problem 0 known listed left) → R (conditions_from frame problem 0 [] [] left)
at_nothing R frame problem known listed left k l h = subst (λ ks. R (conditions_from frame problem 0 ks [] left)) k
    (subst (λ ls. R (conditions_from frame problem 0 known ls left)) l h)

-- the number, if there is one
pub at_none : {A : Type 0} (P : Type 0) (o : Option A) → ((x : A) → o ≡ Some x → ⊥) → IfNone o P → P
at_none P None n h = h
at_none P (Some x) n h = absurd (n x refl)

pub at_some : {A : Type 0} (P : A → Type 0) (o : Option A) (x : A) → o ≡ Some x → IfSome o P → P x
at_some P o x e h = let Q : Option _ → Type 0 = λ q. IfSome q P in subst Q e h

-- IMPOSSIBLE
pub impossible_on : (P Q : Part) (s t u : State) (left k : ℕ) → Passes P Q s t → IsImpossibleAt Q left t u k → IsImpossibleAt P left s u k
impossible_on P Q s t u left k h g = record {
  lines = h.lines ++ g.lines;
  begun = h.continues.begun g.lines (before_line (VerdictLine (Impossible k))) g.begun;
  whole =
      subst (λ lines. P.whole lines (Impossible k) left) (sym (append_assoc h.lines g.lines (VerdictLine (Impossible k) ∷ [])))
      (h.continues.whole (g.lines ++ VerdictLine (Impossible k) ∷ []) (Impossible k) left g.whole);
  written = writes_more h.lines g.lines s t u h.written g.written;
}

-- the verdict is due there
pub at_impossible : (P : Part) (s t : State) (left k : ℕ) → IsImpossibleAt P left s t k
    → Passes P (here_part (before_line (VerdictLine (Impossible k)))) s t
at_impossible P s t left k h = reaches P h.lines (before_line (VerdictLine (Impossible k))) s t h.begun h.written

pub ends_impossible : (P : Part) (s t u : State) (left k : ℕ) → IsImpossibleAt P left s t k → Writes (VerdictLine (Impossible k) ∷ []) t u
    → Finishes P s u (Impossible k) left
ends_impossible P s t u left k h w = record {
  lines = h.lines ++ VerdictLine (Impossible k) ∷ [];
  whole = h.whole;
  written = writes_more h.lines (VerdictLine (Impossible k) ∷ []) s t u h.written w;
}
