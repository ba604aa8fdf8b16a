-- The prover's chain of a term is the only one, and so are the least sample and the prover's log.
use Rattle.std.proofs.Common.{◌≡◌, ℕ, suc, ◌-◌, ◌⊎◌, inl, inr, ℤ, List, [], ◌∷◌, ◌++◌, map, refl, sym, ap, ap₂, ◌∙◌, subst}
use Rattle.geo_poly.specs.declared.variables.Var.{Var}
use Rattle.geo_poly.specs.Monomials.{Powers}
use Rattle.geo_poly.specs.Polynomials.{Summands}
use Rattle.geo_terms.specs.Constructions.{Construction}
use Rattle.geo_terms.specs.Trees.{Tree}
use Rattle.proof_log.specs.declared.log.Line.{Line}
use Rattle.proof_log.specs.declared.log.Line.TheVariants.{Header, Program as ProgramLine, Condition, Goal, Sample, Verdict as VerdictLine}
use Rattle.proof_log.specs.declared.log.Verdict.{Verdict}
use Rattle.proof_log.specs.declared.log.Verdict.TheVariants.{Proved, False, Impossible}
use Rattle.geo_logs.specs.declared.moves.Move.{Move}
use Rattle.geo_logs.specs.Chains.{Chain, ChainStep, moves, cuts, IsEnd, chain_lines}
use Rattle.geo_poly.specs.Cuts.{IsCut}
use Rattle.geo_logs.specs.Starts.{start_charge, start_of}
use Rattle.geo_logs.specs.Defined.{IsDefinedChain, LeadsBySteps, NoCutDue}
use Rattle.geo_logs.specs.Laws.{ProversLogIsUnique}
use Rattle.geo_logs.specs.Logs.{AreConditionsWorked, AreGoalsWorked, IsConcluded, Item, known_by}
use Rattle.geo_logs.specs.Moves.{IsMoved, Table, move_charge, replacement}
use Rattle.geo_logs.specs.Samples.{IsLeastSample, sample_variables}
use Rattle.geo_sample.specs.Tries.{AreMade, search_tries}
use Rattle.geo_sample.proofs.LeastSamples.{exists_one}
use Rattle.geo_sample.proofs.TryEnds.{ends_exclude}
use Rattle.geo_logs.proofs.OneStep.{no_cut, no_move, one_cut, one_factor, one_move, one_result}

module _ (table : Table) (c : Construction) (known : List Var) where
  -- nothing more is due
  pub record IsOver (q : Summands) : Type 0 where
    pub no_cut : NoCutDue known q
    pub ended : IsEnd q

  over_as : (q e : Summands) → q ≡ e → IsOver e → IsOver q
  over_as q e same h = subst IsOver (sym same) h

  one_path : (left : ℕ) (q : Summands) (steps other : List ChainStep) (l l' : ℕ) (e e' : Summands)
      → LeadsBySteps table c known left q steps l e → IsOver e → LeadsBySteps table c known left q other l' e' → IsOver e' → (steps ≡ other) × (l ≡ l') × (e ≡ e')
  one_path left q [] [] l l' e e' h over g over' = (refl, sym h.0 ∙ g.0, sym h.1 ∙ g.1)
  one_path left q [] (moves m r ∷ other) l l' e e' h over g over' = absurd (no_move table c q m (over_as q e h.1 over).ended g.1)
  one_path left q [] (cuts f r ∷ other) l l' e e' h over g over' = absurd (no_cut known q f (over_as q e h.1 over).no_cut g.0)
  one_path left q (moves m r ∷ steps) [] l l' e e' h over g over' = absurd (no_move table c q m (over_as q e' g.1 over').ended h.1)
  one_path left q (cuts f r ∷ steps) [] l l' e e' h over g over' = absurd (no_cut known q f (over_as q e' g.1 over').no_cut h.0)
  one_path left q (moves m r ∷ steps) (cuts f s ∷ other) l l' e e' h over g over' = absurd (no_cut known q f h.0 g.0)
  one_path left q (cuts f r ∷ steps) (moves m s ∷ other) l l' e e' h over g over' = absurd (no_cut known q f g.0 h.0)
  one_path left q (moves m r ∷ steps) (moves n s ∷ other) l l' e e' h over g over' =
      let move : n ≡ m = one_move table c q n m g.1 h.1 in
      let result : s ≡ r = one_result table c left q s r m (subst (λ (x : Move). IsMoved (replacement table c x q) left q s) move g.2) h.2 in
      let after : ℕ = left - move_charge (replacement table c m q) q in
      let goes : LeadsBySteps table c known after s other l' e' = subst (λ (x : Move). LeadsBySteps table c known (left - move_charge (replacement table c x q) q) s other l' e') move g.3 in
      let rest = one_path after r steps other l l' e e' h.3 over (subst (λ (x : Summands). LeadsBySteps table c known after x other l' e') result goes) over' in
      (ap₂ (λ (x : ChainStep) (xs : List ChainStep). x ∷ xs) (ap₂ moves (sym move) (sym result)) rest.0, rest.1, rest.2)
  one_path left q (cuts f r ∷ steps) (cuts k s ∷ other) l l' e e' h over g over' =
      let factor : k ≡ f = one_factor known q k f g.0 h.0 in
      let result : s ≡ r = one_cut known f q s r (subst (λ (x : Powers × ℤ). IsCut known x q s) factor g.1) h.1 in
      let rest = one_path left r steps other l l' e e' h.2 over (subst (λ (x : Summands). LeadsBySteps table c known left x other l' e') result g.2) over' in
      (ap₂ (λ (x : ChainStep) (xs : List ChainStep). x ∷ xs) (ap₂ cuts (sym factor) (sym result)) rest.0, rest.1, rest.2)

  pub one_chain : (left : ℕ) (e : Tree) (chain other : Chain) (l l' : ℕ) → IsDefinedChain table c known left e chain l → IsDefinedChain table c known left e other l'
      → (chain ≡ other) × (l ≡ l')
  one_chain left e chain other l l' h g =
      let same = one_path (left - start_charge e) (start_of e) chain.steps other.steps l l' chain.end other.end h.leads (record { no_cut = h.no_cut; ended = h.ended }) g.leads
      (record { no_cut = g.no_cut; ended = g.ended }) in
      ((λ i. record { steps = same.0 i; end = same.2 i }), same.1)

-- THE LEAST SAMPLE
pub one_sample : (c : Construction) (listed : List Summands) (left : ℕ) (values other : List (Var × ℤ)) (l l' : ℕ) → IsLeastSample c listed left values l → IsLeastSample c listed left other l'
    → (values ≡ other) × (l ≡ l')
one_sample c listed left values other l l' h g =
    let same : values ≡ other = exists_one.unique (sample_variables c) listed values other h.least g.least in
    let made : AreMade left (search_tries values listed) l' = subst (λ (xs : List (Var × ℤ)). AreMade left (search_tries xs listed) l') (sym same) g.made in
    (same, (ends_exclude left (search_tries values listed) l l').one_made h.made made)

-- WHOLE LOGS
module _ (table : Table) (c : Construction) where
  one_conclusion : (listed : List Summands) (left : ℕ) (lines other : List Line) (v : Verdict) (l l' : ℕ)
      → IsConcluded (IsDefinedChain table c) (IsLeastSample c) listed left lines v l → IsConcluded (IsDefinedChain table c) (IsLeastSample c) listed left other v l'
      → (lines ≡ other) × (l ≡ l')
  one_conclusion listed left lines other v l l' h g =
      let same = one_sample c listed left h.values g.values l l' h.chosen g.chosen in
      (h.split ∙ ap (λ (values : List (Var × ℤ)). Sample values ∷ VerdictLine v ∷ []) same.0 ∙ sym g.split, same.1)

  one_goals : (known : List Var) (listed : List Summands) (k left : ℕ) (items : List Item) (lines other : List Line) (v w : Verdict) (l l' : ℕ)
      → AreGoalsWorked (IsDefinedChain table c) (IsLeastSample c) known listed k left items lines v l → AreGoalsWorked (IsDefinedChain table c) (IsLeastSample c) known listed k left items other w l'
      → (lines ≡ other) × (v ≡ w) × (l ≡ l')
  one_goals known listed k left [] lines other v w l l' h g =
      let same = one_conclusion listed left lines other Proved l l' h.1 g.1 in (same.0, h.0 ∙ sym g.0, same.1)
  one_goals known listed k left (item ∷ items) lines other v w l l' (first, more) (first', more') =
      let same = one_chain table c known left item.term first.chain first'.chain first.after first'.after first.works first'.works in
      go (λ after rest rest' h g. one_goals known listed (suc k) after items rest rest' v w l l' h g) first.chain first'.chain first.after
      first'.after same.0 same.1 first.rest first'.rest first.split first'.split more more'
    where
      go : ((after : ℕ) (rest rest' : List Line)
          → AreGoalsWorked (IsDefinedChain table c) (IsLeastSample c) known listed (suc k) after items rest v l
          → AreGoalsWorked (IsDefinedChain table c) (IsLeastSample c) known listed (suc k) after items rest' w l' → (rest ≡ rest') × (v ≡ w)
          × (l ≡ l'))
          → (chain chain' : Chain) (after after' : ℕ) → chain ≡ chain' → after ≡ after' → (rest rest' : List Line)
          → lines ≡ chain_lines (Goal k item.text) item.term chain ++ rest → other ≡ chain_lines (Goal k item.text) item.term chain' ++ rest'
          → ((chain.end ≡ []) × AreGoalsWorked (IsDefinedChain table c) (IsLeastSample c) known listed (suc k) after items rest v l
          ⊎ ((chain.end ≡ []) → ⊥) × (v ≡ False k) × IsConcluded (IsDefinedChain table c) (IsLeastSample c) (listed ++ chain.end ∷ []) after rest (False k) l)
          → ((chain'.end ≡ []) × AreGoalsWorked (IsDefinedChain table c) (IsLeastSample c) known listed (suc k) after' items rest' w l'
          ⊎ ((chain'.end ≡ []) → ⊥) × (w ≡ False k) × IsConcluded (IsDefinedChain table c) (IsLeastSample c) (listed ++ chain'.end ∷ []) after' rest' (False k) l')
          → (lines ≡ other) × (v ≡ w) × (l ≡ l')
      go again chain chain' after after' same_chain same_after rest rest' split split' (inl ended) (inl ended') =
          let goes = subst (λ n. AreGoalsWorked (IsDefinedChain table c) (IsLeastSample c) known listed (suc k) n items rest' w l') (sym same_after) ended'.1 in
          let tail = again after rest rest' ended.1 goes in
          (split ∙ ap₂ (λ (x : Chain) (xs : List Line). chain_lines (Goal k item.text) item.term x ++ xs) same_chain tail.0 ∙ sym split', tail.1, tail.2)
      go again chain chain' after after' same_chain same_after rest rest' split split' (inl ended) (inr failed) = absurd (failed.0 (ap (λ (x : Chain). x.end) (sym same_chain) ∙ ended.0))
      go again chain chain' after after' same_chain same_after rest rest' split split' (inr failed) (inl ended) = absurd (failed.0 (ap (λ (x : Chain). x.end) same_chain ∙ ended.0))
      go again chain chain' after after' same_chain same_after rest rest' split split' (inr failed) (inr failed') =
          let goes = subst (λ n. IsConcluded (IsDefinedChain table c) (IsLeastSample c) (listed ++ chain.end ∷ []) n rest' (False k) l') (sym same_after)
          (subst (λ (x : Chain). IsConcluded (IsDefinedChain table c) (IsLeastSample c) (listed ++ x.end ∷ []) after' rest' (False k) l') (sym same_chain) failed'.2) in
          let tail = one_conclusion (listed ++ chain.end ∷ []) after rest rest' (False k) l l' failed.2 goes in
          (split ∙ ap₂ (λ (x : Chain) (xs : List Line). chain_lines (Goal k item.text) item.term x ++ xs) same_chain tail.0 ∙ sym split', failed.1 ∙ sym failed'.1, tail.1)

  one_conditions : (goals : List Item) (known : List Var) (listed : List Summands) (k left : ℕ) (items : List Item) (lines other : List Line) (v w : Verdict) (l l' : ℕ)
      → AreConditionsWorked (IsDefinedChain table c) (IsLeastSample c) goals known listed k left items lines v l
      → AreConditionsWorked (IsDefinedChain table c) (IsLeastSample c) goals known listed k left items other w l'
      → (lines ≡ other) × (v ≡ w) × (l ≡ l')
  one_conditions goals known listed k left [] lines other v w l l' h g = one_goals known listed 1 left goals lines other v w l l' h g
  one_conditions goals known listed k left (item ∷ items) lines other v w l l' (first, more) (first', more') =
      let same = one_chain table c known left item.term first.chain first'.chain first.after first'.after first.works first'.works in
      go (λ end after rest rest' h g. one_conditions goals (known ++ known_by (item ∷ [])) (listed ++ end ∷ [])
      (suc k) after items rest rest' v w l l' h g) first.chain first'.chain first.after first'.after same.0 same.1 first.rest
      first'.rest first.split first'.split more more'
    where
      go : ((end : Summands) (after : ℕ) (rest rest' : List Line)
          → AreConditionsWorked (IsDefinedChain table c) (IsLeastSample c) goals (known ++ known_by (item ∷ [])) (listed ++ end ∷ [])
          (suc k) after items rest v l → AreConditionsWorked (IsDefinedChain table c) (IsLeastSample c) goals
          (known ++ known_by (item ∷ [])) (listed ++ end ∷ []) (suc k) after items rest' w l' → (rest ≡ rest') × (v ≡ w) × (l ≡ l'))
          → (chain chain' : Chain) (after after' : ℕ) → chain ≡ chain' → after ≡ after' → (rest rest' : List Line)
          → lines ≡ chain_lines (Condition k item.text) item.term chain ++ rest → other ≡ chain_lines (Condition k item.text) item.term chain' ++ rest'
          → ((chain.end ≡ []) × (v ≡ Impossible k) × (rest ≡ VerdictLine (Impossible k) ∷ []) × (after ≡ l)
          ⊎ ((chain.end ≡ []) → ⊥)
          × AreConditionsWorked (IsDefinedChain table c) (IsLeastSample c) goals (known ++ known_by (item ∷ [])) (listed ++ chain.end ∷ []) (suc k) after items rest v l)
          → ((chain'.end ≡ []) × (w ≡ Impossible k) × (rest' ≡ VerdictLine (Impossible k) ∷ []) × (after' ≡ l')
          ⊎ ((chain'.end ≡ []) → ⊥)
          × AreConditionsWorked (IsDefinedChain table c) (IsLeastSample c) goals (known ++ known_by (item ∷ [])) (listed ++ chain'.end ∷ []) (suc k) after' items rest' w l')
          → (lines ≡ other) × (v ≡ w) × (l ≡ l')
      go again chain chain' after after' same_chain same_after rest rest' split split' (inl ended) (inl ended') = (
        split ∙ ap₂ (λ (x : Chain) (xs : List Line). chain_lines (Condition k item.text) item.term x ++ xs) same_chain (ended.2 ∙ sym ended'.2) ∙ sym split',
        ended.1 ∙ sym ended'.1,
        sym ended.3 ∙ same_after ∙ ended'.3,
      )
      go again chain chain' after after' same_chain same_after rest rest' split split' (inl ended) (inr more) = absurd (more.0 (ap (λ (x : Chain). x.end) (sym same_chain) ∙ ended.0))
      go again chain chain' after after' same_chain same_after rest rest' split split' (inr more) (inl ended) = absurd (more.0 (ap (λ (x : Chain). x.end) same_chain ∙ ended.0))
      go again chain chain' after after' same_chain same_after rest rest' split split' (inr more) (inr more') =
          let goes = subst (λ n. AreConditionsWorked (IsDefinedChain table c) (IsLeastSample c) goals (known ++ known_by (item ∷ []))
          (listed ++ chain.end ∷ []) (suc k) n items rest' w l') (sym same_after)
          (subst (λ (x : Chain). AreConditionsWorked (IsDefinedChain table c) (IsLeastSample c) goals (known ++ known_by (item ∷ []))
          (listed ++ x.end ∷ []) (suc k) after' items rest' w l') (sym same_chain) more'.1) in
          let tail = again chain.end after rest rest' more.1 goes in
          (split ∙ ap₂ (λ (x : Chain) (xs : List Line). chain_lines (Condition k item.text) item.term x ++ xs) same_chain tail.0 ∙ sym split', tail.1, tail.2)

pub provers_log_unique : ProversLogIsUnique
provers_log_unique table subject steps left left' lines other verdict verdict' h g =
    let c = subject.construction in
    let same = one_conditions table c subject.goals [] [] 1 steps subject.conditions h.rest g.rest verdict verdict' left left' h.worked g.worked in
    let head : List Line = Header subject.version ∷ map ProgramLine subject.program in
    (h.split ∙ ap (λ (xs : List Line). head ++ xs) same.0 ∙ sym g.split, same.1, same.2)
