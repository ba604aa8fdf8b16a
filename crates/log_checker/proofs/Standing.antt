-- What is known of the places that logs reach, the prover's and others.
use Rattle.std.proofs.Common.{◌≡◌, ◌≢◌, ℕ, suc, ◌+◌, ◌-◌, ◌==◌, ◌≤◌, inl, inr, All, Bool, true, false, cond, Some, None, List, [], ◌∷◌, ◌++◌, length, sym, ap, subst, arith}
use Rattle.std.specs.List.{AllByRecursion, cons_option}
use Rattle.std.proofs.lemmas.List.{length-append}
use Rattle.std.proofs.lemmas.List.Elements.{All-nil}
use Rattle.geo_poly.specs.declared.variables.Var.{Var}
use Rattle.geo_poly.specs.PolynomialVariables.{AllVariables}
use Rattle.geo_poly.specs.Polynomials.{IsPolynomial, Summands}
use Rattle.geo_poly.specs.Specialise.{NoneZero}
use Rattle.geo_program.specs.WellFormed.{IsWellFormed, Source}
use Rattle.geo_terms.specs.Constructions.{Construction, IsConstruction}
use Rattle.geo_terms.specs.TermBounds.{IsTermBelow}
use Rattle.geo_terms.specs.Trees.{Tree}
use Rattle.geo_lowering.proofs.ConditionValues.{each_append}
use Rattle.proof_log.specs.declared.log.Line.{Line}
use Rattle.proof_log.specs.declared.log.Line.TheVariants.{Condition, Goal, Verdict as VerdictLine}
use Rattle.proof_log.specs.declared.log.Verdict.{Verdict}
use Rattle.proof_log.specs.declared.log.Verdict.TheVariants.{Proved, False, Impossible}
use Rattle.proof_log.specs.Writable.{IsVariable}
use Rattle.elim_apply.specs.LemmaTable.{lemma_table}
use Rattle.geo_logs.specs.Chains.{Chain, ChainStep, IsAcceptedChain, LeadsTo, chain_lines}
use Rattle.geo_logs.specs.Defined.{IsDefinedChain, LeadsBySteps}
use Rattle.geo_logs.specs.Logs.{Chains, Item, Samples, Subject, known_by, only_variable}
use Rattle.geo_logs.specs.Places.{AreConditionsBegun, AreGoalsBegun, IsBegunChain, IsBegunEnd, Paths, Place, before_line, before_sample, before_start, in_chain}
use Rattle.geo_logs.specs.Starts.{start_charge, start_of}
use Rattle.geo_logs.proofs.AcceptedProvers.{All-push, chain_accepted, leads}
use Rattle.geo_logs.proofs.Charges.{chain_spent}
use Rattle.log_checker.specs.Subjects.{IsSubjectOf}
use Rattle.log_checker.proofs.Places.{At, each_of}
use Rattle.log_checker.proofs.Realised.{conditions_named, goals_named}
use Rattle.log_checker.proofs.Verdicts.{parts_of, valid}
use Rattle.log_checker.proofs.Writing.{IsOwn, path_own, start_own, written}

-- paths and chains that may stand in accepted logs
pub record AreAccepted (c : Construction) (Leads : Paths) (Works : Chains) : Type 0 where
  pub path : (known : List Var) (left : ℕ) (q : Summands) (steps : List ChainStep) (left' : ℕ) (e : Summands) → Leads known left q steps left' e → LeadsTo lemma_table c known left q steps left' e
  pub chain : (known : List Var) (left : ℕ) (e : Tree) (chain : Chain) (left' : ℕ) → Works known left e chain left' → IsAcceptedChain lemma_table c known left e chain left'

-- the variable of which a polynomial is a multiple stands in it
only_has : (P : Var → Type 0) (q : Summands) → AllVariables P q → AllByRecursion P (cons_option (only_variable q) [])
only_has P [] h = tt
only_has P (([], z) ∷ []) h = tt
only_has P ((p ∷ [], z) ∷ []) h = go (p.1 == 1)
  where
    go : (b : Bool) → AllByRecursion P (cons_option (cond b (Some p.0) None) [])
    go true = (h.0.0, tt)
    go false = tt
only_has P ((p ∷ r ∷ m, z) ∷ []) h = tt
only_has P (t ∷ u ∷ ts) h = tt

some_lines : (head : Line) (e : Tree) (chain : Chain) → 1 ≤ length (chain_lines head e chain)
some_lines head e chain = omega arith

-- the texts of conditions and goals have a property, and the steps have a limit
module _ (c : Construction) (construction : IsConstruction c) (Fits : List ℕ → Type 0) (limit : ℕ) where
  -- an item over the construction, with such a text
  pub record IsItem (item : Item) : Type 0 where
    pub text : Fits item.text
    pub below : IsTermBelow (length c.steps) c.params item.term

  -- a header of a chain with such a text, or a verdict, with a number up to n
  abbrev pub IsDue : ℕ → Line → Type 0
  IsDue n (Condition k text) = (1 ≤ k) × (k ≤ n) × Fits text
  IsDue n (Goal k text) = (1 ≤ k) × (k ≤ n) × Fits text
  IsDue n (VerdictLine Proved) = Unit {0}
  IsDue n (VerdictLine (False k)) = k ≤ n
  IsDue n (VerdictLine (Impossible k)) = k ≤ n
  IsDue n _ = ⊥

  abbrev pub AreListed : List Summands → Type 0
  AreListed listed = All IsPolynomial listed × NoneZero listed

  -- what is known of a place, by the number of the line that is due there behind the program
  abbrev pub IsGood : ℕ → Place → Type 0
  IsGood n (before_line line) = IsDue n line
  IsGood n (before_start left e) = IsTermBelow (length c.steps) c.params e
  IsGood n (in_chain known left q) = IsOwn c construction q × AllByRecursion IsVariable known
  IsGood n (before_sample listed left) = AreListed listed × (left ≤ limit)

  due_up : (n m : ℕ) → n ≤ m → (line : Line) → IsDue n line → IsDue m line
  due_up n m up (Condition k text) h = (h.0, (let b = h.1 in omega (arith, b, up)), h.2)
  due_up n m up (Goal k text) h = (h.0, (let b = h.1 in omega (arith, b, up)), h.2)
  due_up n m up (VerdictLine Proved) h = tt
  due_up n m up (VerdictLine (False k)) h = omega (arith, h, up)
  due_up n m up (VerdictLine (Impossible k)) h = omega (arith, h, up)
  due_up n m up _ h = absurd h

  good_up : (n m : ℕ) → n ≤ m → (place : Place) → IsGood n place → IsGood m place
  good_up n m up (before_line line) h = due_up n m up line h
  good_up n m up (before_start left e) h = h
  good_up n m up (in_chain known left q) h = h
  good_up n m up (before_sample listed left) h = h

  good_at : (n : ℕ) (place other : Place) → place ≡ other → IsGood n other → IsGood n place
  good_at n place other e h = subst (IsGood n) (sym e) h

  -- behind a chain
  good_behind : (before : ℕ) (xs hs rest : List Line) (place : Place) → xs ≡ hs ++ rest → IsGood (suc ((before + length hs) + length rest)) place → IsGood (suc (before + length xs)) place
  good_behind before xs hs rest place e h =
      let a : length xs ≡ length (hs ++ rest) = ap length e in
      let b = length-append hs rest in
      good_up (suc ((before + length hs) + length rest)) (suc (before + length xs)) (omega (arith, a, b)) place h

  module _ (Leads : Paths) (Works : Chains) (Chosen : Samples) (accepted : AreAccepted c Leads Works) where
    -- CHAINS
    chain_good : (head : Line) (known : List Var) (left before : ℕ) (e : Tree) (xs : List Line) (place : Place) → IsDue (suc before) head → AllByRecursion IsVariable known
        → IsTermBelow (length c.steps) c.params e → IsBegunChain Leads Works Chosen head known left e xs place → IsGood (suc (before + length xs)) place
    chain_good head known left before e xs place due v b (inl h) =
        good_at (suc (before + length xs)) place (before_line head) h.1 (due_up (suc before) (suc (before + length xs)) (omega arith) head due)
    chain_good head known left before e xs place due v b (inr (inl h)) = good_at (suc (before + length xs)) place (before_start left e) h.1 b
    chain_good head known left before e xs place due v b (inr (inr h)) =
        good_at (suc (before + length xs)) place (in_chain known h.after h.last) h.stands (
          path_own c construction known (left - start_charge e) (start_of e) h.steps h.after h.last (start_own c construction left e b h.started)
              (accepted.path known (left - start_charge e) (start_of e) h.steps h.after h.last h.leads),
          v,
        )

    ended_own : (known : List Var) (left : ℕ) (e : Tree) (chain : Chain) (after : ℕ) → IsTermBelow (length c.steps) c.params e → Works known left e chain after → IsOwn c construction chain.end
    ended_own known left e chain after b w =
        let h = accepted.chain known left e chain after w in
        path_own c construction known (left - start_charge e) (start_of e) chain.steps after chain.end (start_own c construction left e b h.started) h.leads

    -- fewer steps are left
    fewer : (known : List Var) (left : ℕ) (e : Tree) (chain : Chain) (after : ℕ) → Works known left e chain after → left ≤ limit → after ≤ limit
    fewer known left e chain after w l = let s = chain_spent lemma_table c known left e chain after (accepted.chain known left e chain after w) in omega (arith, s, l)

    listed_more : (listed : List Summands) (q : Summands) → AreListed listed → IsPolynomial q → q ≢ [] → AreListed (listed ++ q ∷ [])
    listed_more listed q h p n = (All-push IsPolynomial listed q h.0 p, All-push (λ r. r ≢ []) listed q h.1 n)

    known_more : (known : List Var) (left : ℕ) (item : Item) (chain : Chain) (after : ℕ) → IsItem item → AllByRecursion IsVariable known → Works known left item.term chain after
        → AllByRecursion IsVariable (known ++ known_by (item ∷ []))
    known_more known left item chain after i v w =
        let started = (accepted.chain known left item.term chain after w).started in
        let own = written c construction (start_of item.term) (start_own c construction left item.term i.below started) in
        each_append IsVariable known (known_by (item ∷ [])) v (only_has IsVariable (start_of item.term) own.variables)

    -- THE END
    end_good : (listed : List Summands) (verdict : Verdict) (left before : ℕ) (xs : List Line) (place : Place) → AreListed listed → left ≤ limit → IsDue (suc before) (VerdictLine verdict)
        → IsBegunEnd Leads Works Chosen listed verdict left xs place → IsGood (suc (before + length xs)) place
    end_good listed verdict left before xs place l s due (inl h) = good_at (suc (before + length xs)) place (before_sample listed left) h.1 (l, s)
    end_good listed verdict left before xs place l s due (inr h) =
        good_at (suc (before + length xs)) place (before_line (VerdictLine verdict)) h.4 (due_up (suc before) (suc (before + length xs)) (omega arith) (VerdictLine verdict) due)

    -- GOALS AND CONDITIONS
    goals_good : (known : List Var) (listed : List Summands) (k left before : ℕ) (items : List Item) (xs : List Line) (place : Place) → AllByRecursion IsItem items → AllByRecursion IsVariable known
        → AreListed listed → left ≤ limit → 1 ≤ k → k ≤ suc before → AreGoalsBegun Leads Works Chosen known listed k left items xs place → IsGood (suc (before + length xs)) place
    goals_good known listed k left before [] xs place i v l s one up h = end_good listed Proved left before xs place l s tt h
    goals_good known listed k left before (item ∷ items) xs place i v l s one up (inl h) =
        chain_good (Goal k item.text) known left before item.term xs place (one, up, i.0.text) v i.0.below h
    goals_good known listed k left before (item ∷ items) xs place i v l s one up (inr (first, inl h)) =
        let lines = chain_lines (Goal k item.text) item.term first.chain in
        let some = some_lines (Goal k item.text) item.term first.chain in
        good_behind before xs lines first.rest place first.split
        (goals_good known listed (suc k) first.after (before + length lines) items first.rest place i.1 v l (fewer known left item.term first.chain first.after first.works s) (omega arith)
        (omega (arith, up, some)) h.1)
    goals_good known listed k left before (item ∷ items) xs place i v l s one up (inr (first, inr h)) =
        let lines = chain_lines (Goal k item.text) item.term first.chain in
        good_behind before xs lines first.rest place first.split
        (end_good (listed ++ first.chain.end ∷ []) (False k) first.after (before + length lines) first.rest place
        (listed_more listed first.chain.end l (ended_own known left item.term first.chain first.after i.0.below first.works).polynomial h.0)
        (fewer known left item.term first.chain first.after first.works s) (omega (arith, up)) h.1)

    pub conditions_good : (goals : List Item) (known : List Var) (listed : List Summands) (k left before : ℕ) (items : List Item) (xs : List Line) (place : Place) → AllByRecursion IsItem goals
        → AllByRecursion IsItem items → AllByRecursion IsVariable known → AreListed listed → left ≤ limit → 1 ≤ k → k ≤ suc before
        → AreConditionsBegun Leads Works Chosen goals known listed k left items xs place → IsGood (suc (before + length xs)) place
    conditions_good goals known listed k left before [] xs place g i v l s one up h = goals_good known listed 1 left before goals xs place g v l s (omega arith) (omega arith) h
    conditions_good goals known listed k left before (item ∷ items) xs place g i v l s one up (inl h) =
        chain_good (Condition k item.text) known left before item.term xs place (one, up, i.0.text) v i.0.below h
    conditions_good goals known listed k left before (item ∷ items) xs place g i v l s one up (inr (first, inl h)) =
        good_at (suc (before + length xs)) place (before_line (VerdictLine (Impossible k))) h.2
        (due_up (suc before) (suc (before + length xs)) (omega arith) (VerdictLine (Impossible k)) up)
    conditions_good goals known listed k left before (item ∷ items) xs place g i v l s one up (inr (first, inr h)) =
        let lines = chain_lines (Condition k item.text) item.term first.chain in
        let some = some_lines (Condition k item.text) item.term first.chain in
        good_behind before xs lines first.rest place first.split
        (conditions_good goals (known ++ known_by (item ∷ [])) (listed ++ first.chain.end ∷ []) (suc k) first.after (before + length lines) items first.rest place g i.1
        (known_more known left item first.chain first.after i.0 v first.works)
        (listed_more listed first.chain.end l (ended_own known left item.term first.chain first.after i.0.below first.works).polynomial h.0)
        (fewer known left item.term first.chain first.after first.works s) (omega arith) (omega (arith, up, some)) h.1)

-- PROGRAMS
module _ (p : Source) (subject : Subject) (w : IsWellFormed p) (s : IsSubjectOf p subject) (Fits : List ℕ → Type 0) (steps : ℕ) where
  abbrev pub construction_of : IsConstruction subject.construction
  construction_of = valid p subject w (parts_of p subject s)

  abbrev IsOwnItem : Item → Type 0
  IsOwnItem item = IsItem subject.construction construction_of Fits steps item

  -- the texts of the items
  abbrev pub HaveTexts : List Item → Type 0
  HaveTexts items = (i : ℕ) (item : Item) → At items i item → Fits item.text

  goals_are : HaveTexts subject.goals → AllByRecursion IsOwnItem subject.goals
  goals_are texts = each_of IsOwnItem subject.goals (λ i item at. record { text = texts i item at; below = (goals_named p subject w (parts_of p subject s) i item at).0 })

  conditions_are : HaveTexts subject.conditions → AllByRecursion IsOwnItem subject.conditions
  conditions_are texts = each_of IsOwnItem subject.conditions (λ i item at. record { text = texts i item at; below = (conditions_named p subject w (parts_of p subject s) i item at).0 })

  -- what is known of a place behind the lines of the program
  pub place_good : (Leads : Paths) (Works : Chains) (Chosen : Samples) → AreAccepted subject.construction Leads Works → HaveTexts subject.goals → HaveTexts subject.conditions
      → (xs : List Line) (place : Place) → AreConditionsBegun Leads Works Chosen subject.goals [] [] 1 steps subject.conditions xs place
      → IsGood subject.construction construction_of Fits steps (suc (length xs)) place
  place_good Leads Works Chosen accepted goals conditions xs place h =
      good_up subject.construction construction_of Fits steps (suc (0 + length xs)) (suc (length xs)) (omega arith) place
      (conditions_good subject.construction construction_of Fits steps Leads Works Chosen accepted subject.goals [] [] 1 steps 0 subject.conditions xs place
      (goals_are goals) (conditions_are conditions) tt (All-nil IsPolynomial, All-nil (λ q. q ≢ [])) (omega arith) (omega arith) (omega arith) h)

-- the prover's paths and chains, and those of accepted logs
pub prover_accepted : (c : Construction) → AreAccepted c (LeadsBySteps lemma_table c) (IsDefinedChain lemma_table c)
prover_accepted c = record { path = leads lemma_table c; chain = chain_accepted lemma_table c }

pub any_accepted : (c : Construction) → AreAccepted c (LeadsTo lemma_table c) (IsAcceptedChain lemma_table c)
any_accepted c = record { path = λ known left q steps left' e h. h; chain = λ known left e chain left' h. h }
