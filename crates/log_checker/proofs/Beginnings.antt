-- What stands in an accepted log behind a beginning of it fits there.
use Rattle.std.proofs.Common.{◌≡◌, ℕ, suc, ◌-◌, inl, inr, Option, Some, List, [], ◌∷◌, ◌++◌, map, append-nil, refl, sym, ◌∙◌, ap, subst}
use Rattle.std.proofs.lemmas.List.{append_assoc}
use Rattle.geo_poly.specs.declared.variables.Var.{Var}
use Rattle.geo_poly.specs.Polynomials.{Summands}
use Rattle.geo_terms.specs.Constructions.{Construction}
use Rattle.geo_terms.specs.Trees.{Tree}
use Rattle.proof_log.specs.declared.log.Line.{Line}
use Rattle.proof_log.specs.declared.log.Line.TheVariants.{Condition, Goal, Start, Cut, End, Sample, Verdict as VerdictLine}
use Rattle.proof_log.specs.declared.log.Verdict.{Verdict}
use Rattle.proof_log.specs.declared.log.Verdict.TheVariants.{Proved, False, Impossible}
use Rattle.geo_logs.specs.Starts.{start_charge, start_of}
use Rattle.geo_logs.specs.Chains.{ChainStep, moves, cuts, IsAcceptedChain, IsEnd, LeadsTo, line_of}
use Rattle.geo_logs.specs.Judging.{IsFirstRefusal, IsGoodSoFar, IsGoodToEnd, IsRefused, Refusal}
use Rattle.elim_apply.specs.LemmaTable.{lemma_table}
use Rattle.geo_logs.specs.Logs.{AreConditionsWorked, AreGoalsWorked, BeginsWithChain, IsConcluded, Item, Subject, known_by}
use Rattle.geo_logs.specs.Moves.{move_charge, replacement}
use Rattle.geo_logs.specs.Places.{AreConditionsBegun, AreGoalsBegun, IsBegunChain, IsBegunEnd, Place, before_line, before_sample, before_start, in_chain}
use Rattle.geo_logs.specs.Samples.{IsAcceptedSample}
use Rattle.log_checker.proofs.Refusals.{Fits, not_cut, not_end, not_refused, same_move}

-- LISTS
module _ {A : Type 0} where
  pub head_of : (x y : A) (xs ys : List A) → x ∷ xs ≡ y ∷ ys → x ≡ y
  head_of x y xs ys e = cc

  pub tail_of : (x y : A) (xs ys : List A) → x ∷ xs ≡ y ∷ ys → xs ≡ ys
  tail_of x y xs ys e = cc

  pub cancelled : (hs xs ys : List A) → hs ++ xs ≡ hs ++ ys → xs ≡ ys
  cancelled [] xs ys e = e
  cancelled (h ∷ hs) xs ys e = cancelled hs xs ys (tail_of h h (hs ++ xs) (hs ++ ys) e)

  -- a read list that begins with good lines
  pub read_split : (xs good : List A) (more : List (Option A)) → map Some xs ≡ map Some good ++ more → (ys : List A) × (xs ≡ good ++ ys) × (map Some ys ≡ more)
  read_split xs [] more e = (xs, refl, e)
  read_split [] (g ∷ good) more e = absurd (let q : ◌≡◌ {A = List (Option A)} [] (Some g ∷ (map Some good ++ more)) = e in cc)
  read_split (x ∷ xs) (g ∷ good) more e =
      let q : ◌≡◌ {A = List (Option A)} (Some x ∷ map Some xs) (Some g ∷ (map Some good ++ more)) = e in
      let s : ◌≡◌ {A = Option A} (Some x) (Some g) = cc in
      let same : x ≡ g = cc in
      let rest : map Some xs ≡ map Some good ++ more = cc in
      let h = read_split xs good more rest in (h.0, (λ i. same i ∷ h.1 i), h.2)

module _ (c : Construction) where
  -- what follows at the place begins with a line that fits there
  abbrev pub Goes : Place → List Line → Type 0
  Goes place zs = (line : Line) × (more : List Line) × (zs ≡ line ∷ more) × Fits c place line

  pub goes_at : (place other : Place) (zs : List Line) → place ≡ other → Goes other zs → Goes place zs
  goes_at place other zs e h = subst (λ p. Goes p zs) (sym e) h

  -- CHAINS
  module _ (known : List Var) where
    abbrev Leads : ℕ → Summands → List ChainStep → ℕ → Summands → Type 0
    Leads left q steps left' e = LeadsTo lemma_table c known left q steps left' e

    pub record IsRest (after : ℕ) (last : Summands) (l : ℕ) (e : Summands) (lines : List Line) (tail : List Line) : Type 0 where
      pub steps : List ChainStep
      pub leads : Leads after last steps l e
      pub same : map line_of steps ++ End ∷ tail ≡ lines

    -- a path over the same lines goes on from where another stands
    path_rest : (left : ℕ) (q : Summands) (zs : List ChainStep) (l : ℕ) (e : Summands) (xs : List ChainStep) (after : ℕ) (last : Summands) (tail more : List Line)
        → Leads left q zs l e → Leads left q xs after last → map line_of zs ++ End ∷ tail ≡ map line_of xs ++ more → IsRest after last l e more tail
    path_rest left q zs l e [] after last tail more h g same =
        record { steps = zs; leads = subst (λ k. Leads k last zs l e) g.0 (subst (λ r. Leads left r zs l e) g.1 h); same = same }
    path_rest left q [] l e (x ∷ xs) after last tail more h g same = not_end c x (sym (head_of End (line_of x) tail (map line_of xs ++ more) same))
    path_rest left q (moves m r ∷ zs) l e (cuts f s ∷ xs) after last tail more h g same =
        not_cut c m r f s (head_of (line_of (moves m r)) (Cut f s) (map line_of zs ++ End ∷ tail) (map line_of xs ++ more) same)
    path_rest left q (cuts f s ∷ zs) l e (moves m r ∷ xs) after last tail more h g same =
        not_cut c m r f s (sym (head_of (Cut f s) (line_of (moves m r)) (map line_of zs ++ End ∷ tail) (map line_of xs ++ more) same))
    path_rest left q (moves m r ∷ zs) l e (moves n s ∷ xs) after last tail more h g same =
        let one = same_move c q m n r s (head_of (line_of (moves m r)) (line_of (moves n s)) (map line_of zs ++ End ∷ tail) (map line_of xs ++ more) same) in
        let goes : Leads (left - move_charge (replacement lemma_table c n q) q) s zs l e =
        subst (λ x. Leads (left - move_charge x q) s zs l e) one.0 (subst (λ t. Leads (left - move_charge (replacement lemma_table c m q) q) t zs l e) one.1 h.1) in
        path_rest (left - move_charge (replacement lemma_table c n q) q) s zs l e xs after last tail more goes g.1
        (tail_of (line_of (moves m r)) (line_of (moves n s)) (map line_of zs ++ End ∷ tail) (map line_of xs ++ more) same)
    path_rest left q (cuts f r ∷ zs) l e (cuts k s ∷ xs) after last tail more h g same =
        let n : Cut f r ≡ Cut k s = head_of (Cut f r) (Cut k s) (map line_of zs ++ End ∷ tail) (map line_of xs ++ more) same in
        let result : r ≡ s = cc in
        path_rest left s zs l e xs after last tail more (subst (λ t. Leads left t zs l e) result h.1) g.1
        (tail_of (Cut f r) (Cut k s) (map line_of zs ++ End ∷ tail) (map line_of xs ++ more) same)

    open_goes : (after : ℕ) (last : Summands) (l : ℕ) (e : Summands) (more tail : List Line) → IsEnd e → IsRest after last l e more tail → Goes (in_chain known after last) more
    open_goes after last l e more tail end h = go h.steps h.leads h.same
      where
        go : (steps : List ChainStep) → Leads after last steps l e → map line_of steps ++ End ∷ tail ≡ more → Goes (in_chain known after last) more
        go [] g same = (End, tail, sym same, inr (refl, subst IsEnd (sym g.1) end))
        go (moves m r ∷ steps) g same =
            (line_of (moves m r), map line_of steps ++ End ∷ tail, sym same, inl (moves m r, after - move_charge (replacement lemma_table c m last) last, r, (g.0, (refl, refl)), refl))
        go (cuts f r ∷ steps) g same = (Cut f r, map line_of steps ++ End ∷ tail, sym same, inl (cuts f r, after, r, (g.0, (refl, refl)), refl))

    pub record AreEnded (after : ℕ) (last : Summands) (l : ℕ) (e : Summands) (tail other : List Line) : Type 0 where
      pub left : l ≡ after
      pub end : e ≡ last
      pub tails : tail ≡ other

    full_ends : (after : ℕ) (last : Summands) (l : ℕ) (e : Summands) (tail other : List Line) → IsRest after last l e (End ∷ other) tail → AreEnded after last l e tail other
    full_ends after last l e tail other h = go h.steps h.leads h.same
      where
        go : (steps : List ChainStep) → Leads after last steps l e → map line_of steps ++ End ∷ tail ≡ End ∷ other → AreEnded after last l e tail other
        go [] g same = record { left = sym g.0; end = sym g.1; tails = tail_of End End tail other same }
        go (x ∷ steps) g same = not_end c x (head_of (line_of x) End (map line_of steps ++ End ∷ tail) other same)

    module _ (head : Line) (left : ℕ) (item : Item) (ws : List Line) (first : BeginsWithChain (IsAcceptedChain lemma_table c) (IsAcceptedSample c) head known left item ws) where
      abbrev e : Tree
      e = item.term

      inner : List Line
      inner = map line_of first.chain.steps ++ End ∷ first.rest

      all_lines : ws ≡ head ∷ Start (start_of e) ∷ (map line_of first.chain.steps ++ End ∷ first.rest)
      all_lines = first.split ∙ ap (λ zs. head ∷ Start (start_of e) ∷ zs) (append_assoc (map line_of first.chain.steps) (End ∷ []) first.rest)

      -- a chain that is begun goes on
      pub chain_goes : (xs zs : List Line) (place : Place) → ws ≡ xs ++ zs
          → IsBegunChain (LeadsTo lemma_table c) (IsAcceptedChain lemma_table c) (IsAcceptedSample c) head known left e xs place
          → Goes place zs
      chain_goes xs zs place same (inl h) =
          goes_at place (before_line head) zs h.1
          (head, Start (start_of e) ∷ (map line_of first.chain.steps ++ End ∷ first.rest), ap (λ ys. ys ++ zs) (sym h.0) ∙ sym same ∙ all_lines, refl)
      chain_goes xs zs place same (inr (inl h)) =
          let both : head ∷ zs ≡ head ∷ Start (start_of e) ∷ (map line_of first.chain.steps ++ End ∷ first.rest) = ap (λ ys. ys ++ zs) (sym h.0) ∙ sym same ∙ all_lines in
          goes_at place (before_start left e) zs h.1 (
            Start (start_of e),
            map line_of first.chain.steps ++ End ∷ first.rest,
            tail_of head head zs (Start (start_of e) ∷ (map line_of first.chain.steps ++ End ∷ first.rest)) both,
            (refl, first.works.started),
          )
      chain_goes xs zs place same (inr (inr h)) =
          let both : head ∷ Start (start_of e) ∷ (map line_of first.chain.steps ++ End ∷ first.rest) ≡ head ∷ Start (start_of e) ∷ (map line_of h.steps ++ zs) =
          sym all_lines ∙ same ∙ ap (λ ys. ys ++ zs) h.split in
          let lines = cancelled (head ∷ Start (start_of e) ∷ []) (map line_of first.chain.steps ++ End ∷ first.rest) (map line_of h.steps ++ zs) both in
          goes_at place (in_chain known h.after h.last) zs h.stands
          (open_goes h.after h.last first.after first.chain.end zs first.rest first.works.ended
          (path_rest (left - start_charge e) (start_of e) first.chain.steps first.after first.chain.end h.steps h.after h.last first.rest zs first.works.leads h.leads lines))

      -- a chain that is finished is the same one
      pub chain_done : (xs zs : List Line) → ws ≡ xs ++ zs → (done : BeginsWithChain (IsAcceptedChain lemma_table c) (IsAcceptedSample c) head known left item xs)
          → AreEnded done.after done.chain.end first.after first.chain.end first.rest (done.rest ++ zs)
      chain_done xs zs same done =
          let other : xs ++ zs ≡ head ∷ Start (start_of e) ∷ (map line_of done.chain.steps ++ End ∷ (done.rest ++ zs)) =
          ap (λ ys. ys ++ zs) (done.split ∙ ap (λ ys. head ∷ Start (start_of e) ∷ ys) (append_assoc (map line_of done.chain.steps) (End ∷ []) done.rest))
          ∙ ap (λ ys. head ∷ Start (start_of e) ∷ ys) (append_assoc (map line_of done.chain.steps) (End ∷ done.rest) zs) in
          let lines = cancelled (head ∷ Start (start_of e) ∷ []) (map line_of first.chain.steps ++ End ∷ first.rest) (map line_of done.chain.steps ++ End ∷ (done.rest ++ zs))
          (sym all_lines ∙ same ∙ other) in
          full_ends done.after done.chain.end first.after first.chain.end first.rest (done.rest ++ zs)
          (path_rest (left - start_charge e)
          (start_of e) first.chain.steps first.after first.chain.end done.chain.steps done.after done.chain.end first.rest
          (End ∷ (done.rest ++ zs)) first.works.leads done.works.leads lines)

  -- THE END
  module _ (listed : List Summands) (left : ℕ) where
    end_goes : (ws xs zs : List Line) (verdict : Verdict) (l : ℕ) (place : Place) → IsConcluded (IsAcceptedChain lemma_table c) (IsAcceptedSample c) listed left ws verdict l → ws ≡ xs ++ zs
        → IsBegunEnd (LeadsTo lemma_table c) (IsAcceptedChain lemma_table c) (IsAcceptedSample c) listed verdict left xs place → Goes place zs
    end_goes ws xs zs verdict l place h same (inl g) =
        goes_at place (before_sample listed left) zs g.1
        (Sample h.values, VerdictLine verdict ∷ [], ap (λ ys. ys ++ zs) (sym g.0) ∙ sym same ∙ h.split, (h.values, l, h.chosen, refl))
    end_goes ws xs zs verdict l place h same (inr g) =
        let both : Sample g.0 ∷ zs ≡ Sample h.values ∷ VerdictLine verdict ∷ [] = ap (λ ys. ys ++ zs) (sym g.3) ∙ sym same ∙ h.split in
        goes_at place (before_line (VerdictLine verdict)) zs g.4
        (VerdictLine verdict, [], tail_of (Sample g.0) (Sample h.values) zs (VerdictLine verdict ∷ []) both, refl)

    end_done : (ws xs zs : List Line) (verdict other : Verdict) (l l' : ℕ) → IsConcluded (IsAcceptedChain lemma_table c) (IsAcceptedSample c) listed left ws verdict l → ws ≡ xs ++ zs
        → IsConcluded (IsAcceptedChain lemma_table c) (IsAcceptedSample c) listed left xs other l' → zs ≡ []
    end_done ws xs zs verdict other l l' h same g =
        let both : Sample g.values ∷ VerdictLine other ∷ zs ≡ Sample h.values ∷ VerdictLine verdict ∷ [] = ap (λ ys. ys ++ zs) (sym g.split) ∙ sym same ∙ h.split in
        tail_of (VerdictLine other) (VerdictLine verdict) zs [] (tail_of (Sample g.values) (Sample h.values) (VerdictLine other ∷ zs) (VerdictLine verdict ∷ []) both)

  abbrev Worked : List Var → List Summands → ℕ → ℕ → List Item → List Line → Verdict → ℕ → Type 0
  Worked known listed k left items ws verdict l = AreGoalsWorked (IsAcceptedChain lemma_table c) (IsAcceptedSample c) known listed k left items ws verdict l

  abbrev Concluded : List Summands → ℕ → List Line → Verdict → ℕ → Type 0
  Concluded listed left ws verdict l = IsConcluded (IsAcceptedChain lemma_table c) (IsAcceptedSample c) listed left ws verdict l

  -- GOALS
  goals_go : (known : List Var) (listed : List Summands) (k left : ℕ) (items : List Item) (ws xs zs : List Line) (verdict : Verdict) (l : ℕ) (place : Place)
      → Worked known listed k left items ws verdict l → ws ≡ xs ++ zs
      → AreGoalsBegun (LeadsTo lemma_table c) (IsAcceptedChain lemma_table c) (IsAcceptedSample c) known listed k left items xs place → Goes place zs
  goals_go known listed k left [] ws xs zs verdict l place h same g = end_goes listed left ws xs zs Proved l place h.1 same g
  goals_go known listed k left (item ∷ items) ws xs zs verdict l place (first, more) same (inl g) = chain_goes known (Goal k item.text) left item ws first xs zs place same g
  goals_go known listed k left (item ∷ items) ws xs zs verdict l place (first, inl h) same (inr (done, inl g)) =
      let d = chain_done known (Goal k item.text) left item ws first xs zs same done in
      goals_go known listed (suc k) done.after items first.rest done.rest zs verdict l place
      (subst (λ n. Worked known listed (suc k) n items first.rest verdict l) d.left h.1) d.tails g.1
  goals_go known listed k left (item ∷ items) ws xs zs verdict l place (first, inl h) same (inr (done, inr g)) =
      let d = chain_done known (Goal k item.text) left item ws first xs zs same done in absurd (g.0 (sym d.end ∙ h.0))
  goals_go known listed k left (item ∷ items) ws xs zs verdict l place (first, inr h) same (inr (done, inl g)) =
      let d = chain_done known (Goal k item.text) left item ws first xs zs same done in absurd (h.0 (d.end ∙ g.0))
  goals_go known listed k left (item ∷ items) ws xs zs verdict l place (first, inr h) same (inr (done, inr g)) =
      let d = chain_done known (Goal k item.text) left item ws first xs zs same done in
      end_goes (listed ++ done.chain.end ∷ []) done.after first.rest done.rest zs (False k) l place
      (subst (λ n. Concluded (listed ++ done.chain.end ∷ []) n first.rest (False k) l) d.left
      (subst (λ t. Concluded (listed ++ t ∷ []) first.after first.rest (False k) l) d.end h.2)) d.tails g.1

  goals_done : (known : List Var) (listed : List Summands) (k left : ℕ) (items : List Item) (ws xs zs : List Line) (verdict other : Verdict) (l l' : ℕ)
      → Worked known listed k left items ws verdict l → ws ≡ xs ++ zs → Worked known listed k left items xs other l' → zs ≡ []
  goals_done known listed k left [] ws xs zs verdict other l l' h same g = end_done listed left ws xs zs Proved Proved l l' h.1 same g.1
  goals_done known listed k left (item ∷ items) ws xs zs verdict other l l' (first, inl h) same (done, inl g) =
      let d = chain_done known (Goal k item.text) left item ws first xs zs same done in
      goals_done known listed (suc k) done.after items first.rest done.rest zs verdict other l l'
      (subst (λ n. Worked known listed (suc k) n items first.rest verdict l) d.left h.1) d.tails g.1
  goals_done known listed k left (item ∷ items) ws xs zs verdict other l l' (first, inl h) same (done, inr g) =
      let d = chain_done known (Goal k item.text) left item ws first xs zs same done in absurd (g.0 (sym d.end ∙ h.0))
  goals_done known listed k left (item ∷ items) ws xs zs verdict other l l' (first, inr h) same (done, inl g) =
      let d = chain_done known (Goal k item.text) left item ws first xs zs same done in absurd (h.0 (d.end ∙ g.0))
  goals_done known listed k left (item ∷ items) ws xs zs verdict other l l' (first, inr h) same (done, inr g) =
      let d = chain_done known (Goal k item.text) left item ws first xs zs same done in
      end_done (listed ++ done.chain.end ∷ []) done.after first.rest done.rest zs (False k) (False k) l l'
      (subst (λ n. Concluded (listed ++ done.chain.end ∷ []) n first.rest (False k) l) d.left
      (subst (λ t. Concluded (listed ++ t ∷ []) first.after first.rest (False k) l) d.end h.2)) d.tails g.2

  -- CONDITIONS
  module _ (goals : List Item) where
    abbrev AllWorked : List Var → List Summands → ℕ → ℕ → List Item → List Line → Verdict → ℕ → Type 0
    AllWorked known listed k left items ws verdict l = AreConditionsWorked (IsAcceptedChain lemma_table c) (IsAcceptedSample c) goals known listed k left items ws verdict l

    conditions_go : (known : List Var) (listed : List Summands) (k left : ℕ) (items : List Item) (ws xs zs : List Line) (verdict : Verdict) (l : ℕ) (place : Place)
        → AllWorked known listed k left items ws verdict l → ws ≡ xs ++ zs
        → AreConditionsBegun (LeadsTo lemma_table c) (IsAcceptedChain lemma_table c) (IsAcceptedSample c) goals known listed k left items xs place → Goes place zs
    conditions_go known listed k left [] ws xs zs verdict l place h same g = goals_go known listed 1 left goals ws xs zs verdict l place h same g
    conditions_go known listed k left (item ∷ items) ws xs zs verdict l place (first, more) same (inl g) = chain_goes known (Condition k item.text) left item ws first xs zs place same g
    conditions_go known listed k left (item ∷ items) ws xs zs verdict l place (first, inl h) same (inr (done, inl g)) =
        let d = chain_done known (Condition k item.text) left item ws first xs zs same done in
        goes_at place (before_line (VerdictLine (Impossible k))) zs g.2
        (VerdictLine (Impossible k), [], ap (λ ys. ys ++ zs) (sym g.1) ∙ sym d.tails ∙ h.2, refl)
    conditions_go known listed k left (item ∷ items) ws xs zs verdict l place (first, inl h) same (inr (done, inr g)) =
        let d = chain_done known (Condition k item.text) left item ws first xs zs same done in absurd (g.0 (sym d.end ∙ h.0))
    conditions_go known listed k left (item ∷ items) ws xs zs verdict l place (first, inr h) same (inr (done, inl g)) =
        let d = chain_done known (Condition k item.text) left item ws first xs zs same done in absurd (h.0 (d.end ∙ g.0))
    conditions_go known listed k left (item ∷ items) ws xs zs verdict l place (first, inr h) same (inr (done, inr g)) =
        let d = chain_done known (Condition k item.text) left item ws first xs zs same done in
        let known' = known ++ known_by (item ∷ []) in
        conditions_go known' (listed ++ done.chain.end ∷ []) (suc k) done.after items first.rest done.rest zs verdict l place
        (subst (λ n. AllWorked known' (listed ++ done.chain.end ∷ []) (suc k) n items first.rest verdict l) d.left
        (subst (λ t. AllWorked known' (listed ++ t ∷ []) (suc k) first.after items first.rest verdict l) d.end h.1)) d.tails g.1

    conditions_done : (known : List Var) (listed : List Summands) (k left : ℕ) (items : List Item) (ws xs zs : List Line) (verdict other : Verdict) (l l' : ℕ)
        → AllWorked known listed k left items ws verdict l → ws ≡ xs ++ zs → AllWorked known listed k left items xs other l' → zs ≡ []
    conditions_done known listed k left [] ws xs zs verdict other l l' h same g = goals_done known listed 1 left goals ws xs zs verdict other l l' h same g
    conditions_done known listed k left (item ∷ items) ws xs zs verdict other l l' (first, inl h) same (done, inl g) =
        let d = chain_done known (Condition k item.text) left item ws first xs zs same done in
        let both : VerdictLine (Impossible k) ∷ zs ≡ VerdictLine (Impossible k) ∷ [] = ap (λ ys. ys ++ zs) (sym g.2) ∙ sym d.tails ∙ h.2 in
        tail_of (VerdictLine (Impossible k)) (VerdictLine (Impossible k)) zs [] both
    conditions_done known listed k left (item ∷ items) ws xs zs verdict other l l' (first, inl h) same (done, inr g) =
        let d = chain_done known (Condition k item.text) left item ws first xs zs same done in absurd (g.0 (sym d.end ∙ h.0))
    conditions_done known listed k left (item ∷ items) ws xs zs verdict other l l' (first, inr h) same (done, inl g) =
        let d = chain_done known (Condition k item.text) left item ws first xs zs same done in absurd (h.0 (d.end ∙ g.0))
    conditions_done known listed k left (item ∷ items) ws xs zs verdict other l l' (first, inr h) same (done, inr g) =
        let d = chain_done known (Condition k item.text) left item ws first xs zs same done in
        let known' = known ++ known_by (item ∷ []) in
        conditions_done known' (listed ++ done.chain.end ∷ []) (suc k) done.after items first.rest done.rest zs verdict other l l'
        (subst (λ n. AllWorked known' (listed ++ done.chain.end ∷ []) (suc k) n items first.rest verdict l) d.left
        (subst (λ t. AllWorked known' (listed ++ t ∷ []) (suc k) first.after items first.rest verdict l) d.end h.1)) d.tails g.1

-- WHOLE LOGS
module _ (subject : Subject) (steps left : ℕ) (lines : List Line) (verdict : Verdict)
    (h : AreConditionsWorked (IsAcceptedChain lemma_table subject.construction) (IsAcceptedSample subject.construction) subject.goals [] [] 1 steps subject.conditions lines verdict left) where
  abbrev C : Construction
  C = subject.construction

  -- what stands behind good lines begins with a line that fits
  pub log_goes : (xs zs : List Line) (place : Place) → lines ≡ xs ++ zs → IsGoodSoFar lemma_table subject steps xs place → Goes C place zs
  log_goes xs zs place same g = conditions_go C subject.goals [] [] 1 steps subject.conditions lines xs zs verdict left place h same g

  -- nothing stands behind an accepted log
  pub log_done : (xs zs : List Line) → lines ≡ xs ++ zs → IsGoodToEnd lemma_table subject steps xs → zs ≡ []
  log_done xs zs same g = conditions_done C subject.goals [] [] 1 steps subject.conditions lines xs zs verdict g.0 left g.1 h same g.2

  read_some : {X : Type 0} (read : Option Line) (rest : List (Option Line)) → [] ≡ read ∷ rest → X
  read_some read rest e = absurd (let q : ◌≡◌ {A = List (Option Line)} [] (read ∷ rest) = e in cc)

  pub none_refused : (number : ℕ) (refusal : Refusal) → IsFirstRefusal lemma_table subject steps (map Some lines) number refusal → ⊥
  none_refused number refusal (inl f) =
      let s = read_split lines f.good (f.read ∷ f.more) f.split in
      let g = log_goes f.good s.0 f.place s.1 f.stands in
      let both : Some g.0 ∷ map Some g.1 ≡ f.read ∷ f.more = ap (λ ys. map Some ys) (sym g.2) ∙ s.2 in
      let read : Some g.0 ≡ f.read = head_of (Some g.0) f.read (map Some g.1) f.more both in
      not_refused C f.place g.0 refusal g.3 (subst (λ o. IsRefused lemma_table C f.place o refusal) (sym read) f.refused)
  none_refused number refusal (inr (inl f)) =
      let s = read_split lines f.good (f.read ∷ f.more) f.split in
      let e = log_done f.good s.0 s.1 f.whole in
      read_some f.read f.more (ap (λ ys. map Some ys) (sym e) ∙ s.2)
  none_refused number refusal (inr (inr f)) =
      let s = read_split lines f.good [] (f.split ∙ sym (append-nil (map Some f.good))) in
      let g = log_goes f.good s.0 f.place s.1 f.stands in
      read_some (Some g.0) (map Some g.1) (sym s.2 ∙ ap (λ ys. map Some ys) g.2)
