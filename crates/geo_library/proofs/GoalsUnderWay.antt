-- Goals are worked one after another.
use Rattle.std.proofs.Common.{◌≡◌, ℕ, suc, ◌+◌, ◌<◌, inl, inr, Option, Some, None, List, [], ◌∷◌, drop, get_or, length, map, refl, sym, ◌∙◌, ap, subst, drop-cons, add-one}
use Rattle.geo_poly.specs.declared.variables.Var.{Var}
use Rattle.geo_poly.specs.Polynomials.{Summands}
use Rattle.geo_terms.specs.Constructions.{Construction}
use Rattle.geo_terms.specs.Stores.{Store}
use Rattle.geo_logs.specs.Moves.{Stop, spent, too_large}
use Rattle.geo_library.specs.declared.asking.AskedGoal.{AskedGoal}
use Rattle.geo_library.specs.declared.errors.CiteError.{CiteError}
use Rattle.geo_library.specs.declared.errors.CiteError.TheVariants as cite
use Rattle.geo_library.specs.Inner.Asking.{GoalForm, asked_form}
use Rattle.geo_library.specs.Inner.Counting.{IsChainHalted, IsChainWorked, TellsStop}
use Rattle.geo_library.specs.Inner.GoalsWorked.{AreGoalsZero, IsBefore, IsFirstGoalMiss, IsGoalMissed, IsMissing, TellsMiss}
use Rattle.geo_library.specs.Working.{Miss, no_instance, stopped_at}

-- TOLD MISSES
-- what is so of each miss is so of the one that the error tells
pub miss_weaker : (One Other : Miss → Type 0) → ((miss : Miss) → One miss → Other miss) → (error : CiteError) → TellsMiss One error → TellsMiss Other error
miss_weaker One Other f (cite.Spent number) h = f (stopped_at number spent) h
miss_weaker One Other f (cite.TooLarge number which) h = f (stopped_at number (too_large which)) h
miss_weaker One Other f cite.NoMemory h = tt
miss_weaker One Other f (cite.Rejected number reason) h = h
miss_weaker One Other f (cite.Syntax fault) h = h
miss_weaker One Other f (cite.NotInstance line) h = f (no_instance line) h

-- want of memory tells nothing
pub no_memory_missed : (One : Miss → Type 0) (error : CiteError) → error ≡ cite.NoMemory → TellsMiss One error
no_memory_missed One error e = subst (TellsMiss One) (sym e) tt

-- a stop is a miss
pub stop_missed : (IsStop : ℕ → Stop → Type 0) (One : Miss → Type 0)
    → ((number : ℕ) (stop : Stop) → IsStop number stop → One (stopped_at number stop)) → (error : CiteError) → TellsStop IsStop error
    → TellsMiss One error
stop_missed IsStop One f (cite.Spent number) h = f number spent h
stop_missed IsStop One f (cite.TooLarge number which) h = f number (too_large which) h
stop_missed IsStop One f cite.NoMemory h = tt
stop_missed IsStop One f (cite.Rejected number reason) h = h
stop_missed IsStop One f (cite.Syntax fault) h = h
stop_missed IsStop One f (cite.NotInstance line) h = absurd h

-- a missing condition is a miss
pub missing_told : (missing : Option ℕ) (One : Miss → Type 0) → ((miss : Miss) → IsMissing missing miss → One miss) → (error : CiteError)
    → (line : ℕ) × (missing ≡ Some line) × (error ≡ cite.NotInstance line) → TellsMiss One error
missing_told missing One f error h = subst (TellsMiss One) (sym h.2) (f (no_instance h.0) (h.0, h.1, refl))

-- the goal at a place
abbrev pub goal_at : List AskedGoal → ℕ → AskedGoal
goal_at goals k = get_or goals k (record { line = 0; term = record { 0 = 0 } })

module _ (c : Construction) (known : List Var) where
  -- ONE GOAL
  -- its chain stops
  pub halted : (lines left : ℕ) (g : GoalForm) (error : CiteError) → TellsStop (IsChainHalted c known lines left g.term) error → TellsMiss (IsGoalMissed c known lines left g) error
  halted lines left g error h =
      stop_missed (IsChainHalted c known lines left g.term) (IsGoalMissed c known lines left g) (λ number stop k. inr (number, stop, k, refl)) error h

  -- it ends in another polynomial
  pub not_zero : (lines left : ℕ) (g : GoalForm) (lines' left' : ℕ) (end : Summands)
      → IsChainWorked c known lines left g.term lines' left' end → (end ≡ [] → ⊥) → IsGoalMissed c known lines left g (no_instance g.line)
  not_zero lines left g lines' left' end h n = inl (lines', left', end, h, n, refl)

  -- ONE AFTER ANOTHER
  -- what is so of the goals that are left, counted from here, is so of all
  pub record AreGoalsUnderWay (missing : Option ℕ) (forms left : List GoalForm) (start steps lines rest : ℕ) : Type 0 where
    pub zero : AreGoalsZero c known lines rest left → AreGoalsZero c known start steps forms
    pub missed : (miss : Miss) → IsFirstGoalMiss c known missing lines rest left miss → IsFirstGoalMiss c known missing start steps forms miss

  pub begins : (missing : Option ℕ) (forms : List GoalForm) (start steps : ℕ) → AreGoalsUnderWay missing forms forms start steps start steps
  begins missing forms start steps = record { zero = λ h. h; missed = λ miss h. h }

  module _ (missing : Option ℕ) (nodes : Store) (goals : List AskedGoal) (k : ℕ) (start steps lines rest : ℕ) (b : k < length goals)
      (h : AreGoalsUnderWay missing (map (asked_form nodes) goals) (map (asked_form nodes) (drop k goals)) start steps lines rest) where
    abbrev goal : AskedGoal
    goal = goal_at goals k

    abbrev forms : List AskedGoal → List GoalForm
    forms gs = map (asked_form nodes) gs

    at_front : forms (drop k goals) ≡ asked_form nodes goal ∷ forms (drop (suc k) goals)
    at_front = ap forms (drop-cons goals k (record { line = 0; term = record { 0 = 0 } }) b)

    abbrev Missed : Miss → Type 0
    Missed miss = IsFirstGoalMiss c known missing start steps (forms goals) miss

    from_here : (miss : Miss) → IsFirstGoalMiss c known missing lines rest (asked_form nodes goal ∷ forms (drop (suc k) goals)) miss → Missed miss
    from_here miss g = h.missed miss (subst (λ (fs : List GoalForm). IsFirstGoalMiss c known missing lines rest fs miss) (sym at_front) g)

    -- a condition is missing
    pub stops_before : (IsBefore missing goal.line → ⊥) → (miss : Miss) → IsMissing missing miss → Missed miss
    stops_before n miss m = from_here miss (inl (n, m))

    -- the goal is not so
    pub stops_here : IsBefore missing goal.line → (miss : Miss) → IsGoalMissed c known lines rest (asked_form nodes goal) miss → Missed miss
    stops_here y miss m = from_here miss (inr (y, inl m))

    -- it is
    pub goes_on : IsBefore missing goal.line → (lines' rest' : ℕ) → IsChainWorked c known lines rest (asked_form nodes goal).term lines' rest' []
        → AreGoalsUnderWay missing (forms goals) (forms (drop (k + 1) goals)) start steps lines' rest'
    goes_on y lines' rest' w = subst (λ (m : ℕ). AreGoalsUnderWay missing (forms goals) (forms (drop m goals)) start steps lines' rest') (sym (add-one k)) (record {
      zero = λ g. h.zero (subst (AreGoalsZero c known lines rest) (sym at_front) (lines', rest', w, g));
      missed = λ miss g. from_here miss (inr (y, inr (lines', rest', w, g)));
    })

  -- all are worked
  pub ends_missing : (missing : Option ℕ) (forms left : List GoalForm) (start steps lines rest : ℕ) → left ≡ [] → AreGoalsUnderWay missing forms left start steps lines rest
      → (miss : Miss) → IsMissing missing miss → IsFirstGoalMiss c known missing start steps forms miss
  ends_missing missing forms left start steps lines rest e h miss m = h.missed miss (subst (λ (fs : List GoalForm). IsFirstGoalMiss c known missing lines rest fs miss) (sym e) m)

  pub ends_zero : (missing : Option ℕ) (forms left : List GoalForm) (start steps lines rest : ℕ) → left ≡ [] → AreGoalsUnderWay missing forms left start steps lines rest
      → AreGoalsZero c known start steps forms
  ends_zero missing forms left start steps lines rest e h = h.zero (subst (AreGoalsZero c known lines rest) (sym e) tt)
