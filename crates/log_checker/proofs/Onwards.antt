-- A log goes on line by line, whichever chains and samples may stand in it.
use Rattle.std.proofs.Common.{◌≡◌, ◌≢◌, ℕ, suc, ◌-◌, ◌⊎◌, inl, inr, ⊎_elim, ℤ, List, [], ◌∷◌, ◌++◌, map, append-nil, refl, sym, ◌∙◌, ap, subst}
use Rattle.std.proofs.lemmas.List.{append_assoc}
use Rattle.geo_poly.specs.declared.variables.Var.{Var}
use Rattle.geo_poly.specs.Polynomials.{Summands}
use Rattle.geo_terms.specs.Trees.{Tree}
use Rattle.proof_log.specs.declared.log.Line.{Line}
use Rattle.proof_log.specs.declared.log.Line.TheVariants.{Condition, End, Goal, Sample, Start, Verdict as VerdictLine}
use Rattle.proof_log.specs.declared.log.Verdict.{Verdict}
use Rattle.proof_log.specs.declared.log.Verdict.TheVariants.{Proved, False, Impossible}
use Rattle.geo_logs.specs.Chains.{Chain, ChainStep, chain_lines, line_of}
use Rattle.geo_logs.specs.Starts.{IsStarted, start_charge, start_of}
use Rattle.geo_logs.specs.Logs.{AreConditionsWorked, AreGoalsWorked, BeginsWithChain, Chains, IsConcluded, Item, Samples, known_by}
use Rattle.geo_logs.specs.Places.{AreConditionsBegun, AreGoalsBegun, IsBegunChain, IsBegunEnd, Paths, Place, before_line, before_sample, before_start, in_chain}

-- which polynomials may end a chain, with these variables known
abbrev pub Endings : Type 1
Endings = List Var → Summands → Type 0

-- paths that go on step by step, and are whole where they end
pub record AreClosed (Leads : Paths) (Works : Chains) (Ends : Endings) : Type 0 where
  pub none : (known : List Var) (left : ℕ) (q : Summands) → Leads known left q [] left q
  pub more : (known : List Var) (left : ℕ) (q : Summands) (steps : List ChainStep) (after : ℕ) (last : Summands) (step : ChainStep) (left' : ℕ) (r : Summands) → Leads known left q steps after last
      → Leads known after last (step ∷ []) left' r → Leads known left q (steps ++ step ∷ []) left' r
  pub whole : (known : List Var) (left : ℕ) (e : Tree) (steps : List ChainStep) (after : ℕ) (last : Summands) → IsStarted left e
      → Leads known (left - start_charge e) (start_of e) steps after last → Ends known last → Works known left e (record { steps = steps; end = last }) after

module _ (Leads : Paths) (Works : Chains) (Chosen : Samples) (Ends : Endings) where
  -- the line comes at the place
  abbrev pub Comes : Place → Line → Type 0
  Comes (before_line line') line = line ≡ line'
  Comes (before_start left e) line = (line ≡ Start (start_of e)) × IsStarted left e
  Comes (in_chain known left q) line =
      ((step : ChainStep) × (left' : ℕ) × (r : Summands) × Leads known left q (step ∷ []) left' r × (line ≡ line_of step)) ⊎ ((line ≡ End) × Ends known q)
  Comes (before_sample listed left) line = (values : List (Var × ℤ)) × (left' : ℕ) × Chosen listed left values left' × (line ≡ Sample values)

map-last : (steps : List ChainStep) (step : ChainStep) → map line_of (steps ++ step ∷ []) ≡ map line_of steps ++ line_of step ∷ []
map-last [] step = refl
map-last (s ∷ steps) step = ap (λ ys. line_of s ∷ ys) (map-last steps step)

module _ (Leads : Paths) (Works : Chains) (Chosen : Samples) (Ends : Endings) (closed : AreClosed Leads Works Ends) where
  abbrev ComesHere : Place → Line → Type 0
  ComesHere place line = Comes Leads Works Chosen Ends place line

  comes_at : (place other : Place) (line : Line) → place ≡ other → ComesHere place line → ComesHere other line
  comes_at place other line e n = subst (λ p. ComesHere p line) e n

  -- CHAINS
  abbrev BegunChain : Line → List Var → ℕ → Tree → List Line → Place → Type 0
  BegunChain head known left e xs place = IsBegunChain Leads Works Chosen head known left e xs place

  pub record IsFinished (head : Line) (known : List Var) (left : ℕ) (e : Tree) (xs : List Line) : Type 0 where
    pub chain : Chain
    pub after : ℕ
    pub works : Works known left e chain after
    pub lines : xs ≡ chain_lines head e chain

  chain_on : (head : Line) (known : List Var) (left : ℕ) (e : Tree) (xs : List Line) (place : Place) (line : Line) → BegunChain head known left e xs place → ComesHere place line
      → ((place' : Place) × BegunChain head known left e (xs ++ line ∷ []) place') ⊎ IsFinished head known left e (xs ++ line ∷ [])
  chain_on head known left e xs place line (inl h) n =
      let is : line ≡ head = comes_at place (before_line head) line h.1 n in
      inl (before_start left e, inr (inl ((λ i. h.0 i ++ is i ∷ []), refl)))
  chain_on head known left e xs place line (inr (inl h)) n =
      let is = comes_at place (before_start left e) line h.1 n in
      inl (
        in_chain known (left - start_charge e) (start_of e),
        inr (inr (record {
          steps = [];
          after = left - start_charge e;
          last = start_of e;
          started = is.1;
          leads = closed.none known (left - start_charge e) (start_of e);
          split = λ i. h.0 i ++ is.0 i ∷ [];
          stands = refl;
        })),
      )
  chain_on head known left e xs place line (inr (inr h)) n = go (comes_at place (in_chain known h.after h.last) line h.stands n)
    where
      go : ComesHere (in_chain known h.after h.last) line
          → ((place' : Place) × BegunChain head known left e (xs ++ line ∷ []) place') ⊎ IsFinished head known left e (xs ++ line ∷ [])
      go (inl (step, left', r, leads, is)) =
          inl (
            in_chain known left' r,
            inr (inr (record {
              steps = h.steps ++ step ∷ [];
              after = left';
              last = r;
              started = h.started;
              leads = closed.more known (left - start_charge e) (start_of e) h.steps h.after h.last step left' r h.leads leads;
              split = (λ i. h.split i ++ is i ∷ []) ∙ ap (λ ys. head ∷ Start (start_of e) ∷ ys) (sym (map-last h.steps step));
              stands = refl;
            })),
          )
      go (inr (is, end)) =
          inr (record {
            chain = record { steps = h.steps; end = h.last };
            after = h.after;
            works = closed.whole known left e h.steps h.after h.last h.started h.leads end;
            lines = λ i. h.split i ++ is i ∷ [];
          })

  -- THE END
  abbrev BegunEnd : List Summands → Verdict → ℕ → List Line → Place → Type 0
  BegunEnd listed verdict left xs place = IsBegunEnd Leads Works Chosen listed verdict left xs place

  abbrev Concluded : List Summands → ℕ → List Line → Verdict → ℕ → Type 0
  Concluded listed left xs verdict l = IsConcluded Works Chosen listed left xs verdict l

  end_on : (listed : List Summands) (verdict : Verdict) (left : ℕ) (xs : List Line) (place : Place) (line : Line) → BegunEnd listed verdict left xs place → ComesHere place line
      → ((place' : Place) × BegunEnd listed verdict left (xs ++ line ∷ []) place') ⊎ ((l : ℕ) × Concluded listed left (xs ++ line ∷ []) verdict l)
  end_on listed verdict left xs place line (inl h) n =
      let s = comes_at place (before_sample listed left) line h.1 n in
      inl (before_line (VerdictLine verdict), inr (s.0, s.1, s.2, (λ i. h.0 i ++ s.3 i ∷ []), refl))
  end_on listed verdict left xs place line (inr h) n =
      let is : line ≡ VerdictLine verdict = comes_at place (before_line (VerdictLine verdict)) line h.4 n in
      inr (h.1, record { values = h.0; chosen = h.2; split = λ i. h.3 i ++ is i ∷ [] })

  -- a finished chain, and what follows it
  abbrev begins : (head : Line) (known : List Var) (left : ℕ) (item : Item) (xs : List Line) → IsFinished head known left item.term xs → BeginsWithChain Works Chosen head known left item xs
  begins head known left item xs h =
      record { chain = h.chain; after = h.after; rest = []; split = h.lines ∙ sym (append-nil (chain_lines head item.term h.chain)); works = h.works }

  abbrev longer : (head : Line) (known : List Var) (left : ℕ) (item : Item) (xs : List Line) (line : Line) → BeginsWithChain Works Chosen head known left item xs
      → BeginsWithChain Works Chosen head known left item (xs ++ line ∷ [])
  longer head known left item xs line h =
      record {
        chain = h.chain;
        after = h.after;
        rest = h.rest ++ line ∷ [];
        split = ap (λ ys. ys ++ line ∷ []) h.split
            ∙ append_assoc (chain_lines head item.term h.chain) h.rest (line ∷ []);
        works = h.works;
      }

  is_zero : (q : Summands) → (q ≡ []) ⊎ (q ≢ [])
  is_zero [] = inl refl
  is_zero (t ∷ ts) = inr (λ e. let q : ◌≡◌ {A = Summands} (t ∷ ts) [] = e in cc)

  -- GOALS
  abbrev BegunGoals : List Var → List Summands → ℕ → ℕ → List Item → List Line → Place → Type 0
  BegunGoals known listed k left items xs place = AreGoalsBegun Leads Works Chosen known listed k left items xs place

  abbrev WorkedGoals : List Var → List Summands → ℕ → ℕ → List Item → List Line → Verdict → ℕ → Type 0
  WorkedGoals known listed k left items xs verdict l = AreGoalsWorked Works Chosen known listed k left items xs verdict l

  goals_start : (known : List Var) (listed : List Summands) (k left : ℕ) (items : List Item) → (place : Place) × BegunGoals known listed k left items [] place
  goals_start known listed k left [] = (before_sample listed left, inl (refl, refl))
  goals_start known listed k left (item ∷ items) = (before_line (Goal k item.text), inl (inl (refl, refl)))

  goals_on : (known : List Var) (listed : List Summands) (k left : ℕ) (items : List Item) (xs : List Line) (place : Place) (line : Line) → BegunGoals known listed k left items xs place
      → ComesHere place line
      → ((place' : Place) × BegunGoals known listed k left items (xs ++ line ∷ []) place') ⊎ ((verdict : Verdict) × (l : ℕ) × WorkedGoals known listed k left items (xs ++ line ∷ []) verdict l)
  goals_on known listed k left [] xs place line h n =
      ⊎_elim (λ (r : (place' : Place) × BegunEnd listed Proved left (xs ++ line ∷ []) place'). inl r)
      (λ (r : (l : ℕ) × Concluded listed left (xs ++ line ∷ []) Proved l). inr (Proved, r.0, (refl, r.1))) (end_on listed Proved left xs place line h n)
  goals_on known listed k left (item ∷ items) xs place line (inl h) n =
      ⊎_elim (λ (r : (place' : Place) × BegunChain (Goal k item.text) known left item.term (xs ++ line ∷ []) place'). inl (r.0, inl r.1))
      (λ (r : IsFinished (Goal k item.text) known left item.term (xs ++ line ∷ [])).
      let first = begins (Goal k item.text) known left item (xs ++ line ∷ []) r in
      let start = goals_start known listed (suc k) r.after items in
      ⊎_elim (λ (e : r.chain.end ≡ []). inl (start.0, inr (first, inl (e, start.1))))
      (λ (e : r.chain.end ≢ []). inl (before_sample (listed ++ r.chain.end ∷ []) r.after, inr (first, inr (e, inl (refl, refl))))) (is_zero r.chain.end))
      (chain_on (Goal k item.text) known left item.term xs place line h n)
  goals_on known listed k left (item ∷ items) xs place line (inr (first, inl h)) n =
      let more = longer (Goal k item.text) known left item xs line first in
      ⊎_elim (λ (r : (place' : Place) × BegunGoals known listed (suc k) first.after items (first.rest ++ line ∷ []) place'). inl (r.0, inr (more, inl (h.0, r.1))))
      (λ (r : (verdict : Verdict) × (l : ℕ) × WorkedGoals known listed (suc k) first.after items (first.rest ++ line ∷ []) verdict l). inr (r.0, r.1, (more, inl (h.0, r.2))))
      (goals_on known listed (suc k) first.after items first.rest place line h.1 n)
  goals_on known listed k left (item ∷ items) xs place line (inr (first, inr h)) n =
      let more = longer (Goal k item.text) known left item xs line first in
      ⊎_elim (λ (r : (place' : Place) × BegunEnd (listed ++ first.chain.end ∷ []) (False k) first.after (first.rest ++ line ∷ []) place'). inl (r.0, inr (more, inr (h.0, r.1))))
      (λ (r : (l : ℕ) × Concluded (listed ++ first.chain.end ∷ []) first.after (first.rest ++ line ∷ []) (False k) l). inr (False k, r.0, (more, inr (h.0, refl, r.1))))
      (end_on (listed ++ first.chain.end ∷ []) (False k) first.after first.rest place line h.1 n)

  -- CONDITIONS
  module _ (goals : List Item) where
    abbrev BegunAll : List Var → List Summands → ℕ → ℕ → List Item → List Line → Place → Type 0
    BegunAll known listed k left items xs place = AreConditionsBegun Leads Works Chosen goals known listed k left items xs place

    abbrev WorkedAll : List Var → List Summands → ℕ → ℕ → List Item → List Line → Verdict → ℕ → Type 0
    WorkedAll known listed k left items xs verdict l = AreConditionsWorked Works Chosen goals known listed k left items xs verdict l

    pub conditions_start : (known : List Var) (listed : List Summands) (k left : ℕ) (items : List Item) → (place : Place) × BegunAll known listed k left items [] place
    conditions_start known listed k left [] = goals_start known listed 1 left goals
    conditions_start known listed k left (item ∷ items) = (before_line (Condition k item.text), inl (inl (refl, refl)))

    pub conditions_on : (known : List Var) (listed : List Summands) (k left : ℕ) (items : List Item) (xs : List Line) (place : Place) (line : Line) → BegunAll known listed k left items xs place
        → ComesHere place line
        → ((place' : Place) × BegunAll known listed k left items (xs ++ line ∷ []) place') ⊎ ((verdict : Verdict) × (l : ℕ) × WorkedAll known listed k left items (xs ++ line ∷ []) verdict l)
    conditions_on known listed k left [] xs place line h n = goals_on known listed 1 left goals xs place line h n
    conditions_on known listed k left (item ∷ items) xs place line (inl h) n =
        ⊎_elim (λ (r : (place' : Place) × BegunChain (Condition k item.text) known left item.term (xs ++ line ∷ []) place'). inl (r.0, inl r.1))
        (λ (r : IsFinished (Condition k item.text) known left item.term (xs ++ line ∷ [])).
        let first = begins (Condition k item.text) known left item (xs ++ line ∷ []) r in
        let start = conditions_start (known ++ known_by (item ∷ [])) (listed ++ r.chain.end ∷ []) (suc k) r.after items in
        ⊎_elim (λ (e : r.chain.end ≡ []). inl (before_line (VerdictLine (Impossible k)), inr (first, inl (e, refl, refl))))
        (λ (e : r.chain.end ≢ []). inl (start.0, inr (first, inr (e, start.1)))) (is_zero r.chain.end))
        (chain_on (Condition k item.text) known left item.term xs place line h n)
    conditions_on known listed k left (item ∷ items) xs place line (inr (first, inl h)) n =
        let more = longer (Condition k item.text) known left item xs line first in
        let is : line ≡ VerdictLine (Impossible k) = comes_at place (before_line (VerdictLine (Impossible k))) line h.2 n in
        inr (Impossible k, first.after, (more, inl (h.0, refl, (λ i. h.1 i ++ is i ∷ []), refl)))
    conditions_on known listed k left (item ∷ items) xs place line (inr (first, inr h)) n =
        let more = longer (Condition k item.text) known left item xs line first in
        let known' = known ++ known_by (item ∷ []) in let listed' = listed ++ first.chain.end ∷ [] in
        ⊎_elim (λ (r : (place' : Place) × BegunAll known' listed' (suc k) first.after items (first.rest ++ line ∷ []) place'). inl (r.0, inr (more, inr (h.0, r.1))))
        (λ (r : (verdict : Verdict) × (l : ℕ) × WorkedAll known' listed' (suc k) first.after items (first.rest ++ line ∷ []) verdict l). inr (r.0, r.1, (more, inr (h.0, r.2))))
        (conditions_on known' listed' (suc k) first.after items first.rest place line h.1 n)
