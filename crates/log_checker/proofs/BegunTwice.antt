-- Of two beginnings of accepted logs the longer goes on where the shorter stands, and none goes on behind a whole log.
use Rattle.std.proofs.Common.{◌≡◌, ℕ, suc, ◌-◌, ◌⊎◌, inl, inr, List, [], ◌∷◌, ◌++◌, map, append_assoc, refl, sym, ◌∙◌, ap, subst}
use Rattle.geo_poly.specs.declared.variables.Var.{Var}
use Rattle.geo_poly.specs.Polynomials.{Summands}
use Rattle.geo_terms.specs.Constructions.{Construction}
use Rattle.geo_terms.specs.Trees.{Tree}
use Rattle.proof_log.specs.declared.log.Line.{Line}
use Rattle.proof_log.specs.declared.log.Line.TheVariants.{Condition, Cut, End, Goal, Sample, Start, Verdict as VerdictLine}
use Rattle.proof_log.specs.declared.log.Verdict.{Verdict}
use Rattle.proof_log.specs.declared.log.Verdict.TheVariants.{Proved, False, Impossible}
use Rattle.elim_apply.specs.LemmaTable.{lemma_table}
use Rattle.geo_logs.specs.Moves.{move_charge, replacement}
use Rattle.geo_logs.specs.Starts.{start_charge, start_of}
use Rattle.geo_logs.specs.Chains.{ChainStep, IsAcceptedChain, LeadsTo, cuts, line_of, moves}
use Rattle.geo_logs.specs.Logs.{AreConditionsWorked, AreGoalsWorked, BeginsWithChain, IsConcluded, Item, known_by}
use Rattle.geo_logs.specs.Places.{AreConditionsBegun, AreGoalsBegun, IsBegunChain, IsBegunEnd, Place, before_line, before_sample, before_start, in_chain}
use Rattle.geo_logs.specs.Samples.{IsAcceptedSample}
use Rattle.log_checker.proofs.Beginnings.{Goes, chain_done, chain_goes, goes_at, head_of, tail_of}
use Rattle.log_checker.proofs.Refusals.{not_cut, not_end, same_move}

pub no_item : {A X : Type 0} (x : X) (xs : List X) → [] ≡ x ∷ xs → A
no_item {A} {X} x xs e = absurd (let q : ◌≡◌ {A = List X} [] (x ∷ xs) = e in cc)

module _ (c : Construction) where
  -- the longer one stands at the same place, or goes on with a line that fits
  abbrev pub Reaches : Place → List Line → Place → Type 0
  Reaches place zs other = ((zs ≡ []) × (place ≡ other)) ⊎ Goes c place zs

  no_end : (ss ts : List ChainStep) (tail : List Line) → map line_of ss ≡ map line_of ts ++ End ∷ tail → ⊥
  no_end [] [] tail e = no_item End tail e
  no_end [] (t ∷ ts) tail e = no_item (line_of t) (map line_of ts ++ End ∷ tail) e
  no_end (s ∷ ss) [] tail e = not_end c s (head_of (line_of s) End (map line_of ss) tail e)
  no_end (s ∷ ss) (t ∷ ts) tail e = no_end ss ts tail (tail_of (line_of s) (line_of t) (map line_of ss) (map line_of ts ++ End ∷ tail) e)

  -- CHAINS
  module _ (known : List Var) where
    abbrev Leads : ℕ → Summands → List ChainStep → ℕ → Summands → Type 0
    Leads left q steps left' e = LeadsTo lemma_table c known left q steps left' e

    path_reaches : (left : ℕ) (q : Summands) (zs : List ChainStep) (l : ℕ) (e : Summands) (xs : List ChainStep) (after : ℕ) (last : Summands) (more : List Line)
        → Leads left q zs l e → Leads left q xs after last → map line_of zs ≡ map line_of xs ++ more → Reaches (in_chain known after last) more (in_chain known l e)
    path_reaches left q [] l e [] after last more h g same =
        let charges : after ≡ l = sym g.0 ∙ h.0 in let ends : last ≡ e = sym g.1 ∙ h.1 in inl (sym same, λ i. in_chain known (charges i) (ends i))
    path_reaches left q (moves m r ∷ zs) l e [] after last more h g same =
        inr (goes_at c (in_chain known after last) (in_chain known left q) more (λ i. in_chain known (sym g.0 i) (sym g.1 i))
        (line_of (moves m r), map line_of zs, sym same, inl (moves m r, left - move_charge (replacement lemma_table c m q) q, r, (h.0, (refl, refl)), refl)))
    path_reaches left q (cuts f r ∷ zs) l e [] after last more h g same =
        inr (goes_at c (in_chain known after last) (in_chain known left q) more (λ i. in_chain known (sym g.0 i) (sym g.1 i))
        (Cut f r, map line_of zs, sym same, inl (cuts f r, left, r, (h.0, (refl, refl)), refl)))
    path_reaches left q [] l e (x ∷ xs) after last more h g same = no_item (line_of x) (map line_of xs ++ more) same
    path_reaches left q (moves m r ∷ zs) l e (cuts f s ∷ xs) after last more h g same =
        not_cut c m r f s (head_of (line_of (moves m r)) (Cut f s) (map line_of zs) (map line_of xs ++ more) same)
    path_reaches left q (cuts f s ∷ zs) l e (moves m r ∷ xs) after last more h g same =
        not_cut c m r f s (sym (head_of (Cut f s) (line_of (moves m r)) (map line_of zs) (map line_of xs ++ more) same))
    path_reaches left q (moves m r ∷ zs) l e (moves n s ∷ xs) after last more h g same =
        let one = same_move c q m n r s (head_of (line_of (moves m r)) (line_of (moves n s)) (map line_of zs) (map line_of xs ++ more) same) in
        let goes : Leads (left - move_charge (replacement lemma_table c n q) q) s zs l e =
        subst (λ x. Leads (left - move_charge x q) s zs l e) one.0 (subst (λ t. Leads (left - move_charge (replacement lemma_table c m q) q) t zs l e) one.1 h.1) in
        path_reaches (left - move_charge (replacement lemma_table c n q) q) s zs l e xs after last more goes g.1
        (tail_of (line_of (moves m r)) (line_of (moves n s)) (map line_of zs) (map line_of xs ++ more) same)
    path_reaches left q (cuts f r ∷ zs) l e (cuts k s ∷ xs) after last more h g same =
        let n : Cut f r ≡ Cut k s = head_of (Cut f r) (Cut k s) (map line_of zs) (map line_of xs ++ more) same in
        let result : r ≡ s = cc in
        path_reaches left s zs l e xs after last more (subst (λ t. Leads left t zs l e) result h.1) g.1 (tail_of (Cut f r) (Cut k s) (map line_of zs) (map line_of xs ++ more) same)

    module _ (head : Line) (left : ℕ) (e : Tree) where
      abbrev Begun : List Line → Place → Type 0
      Begun lines place = IsBegunChain (LeadsTo lemma_table c) (IsAcceptedChain lemma_table c) (IsAcceptedSample c) head known left e lines place

      chain_reaches : (ws xs zs : List Line) (place other : Place) → ws ≡ xs ++ zs → Begun ws other → Begun xs place → Reaches place zs other
      chain_reaches ws xs zs place other same (inl h) (inl g) =
          inl (ap (λ ys. ys ++ zs) (sym g.0) ∙ sym same ∙ h.0, g.1 ∙ sym h.1)
      chain_reaches ws xs zs place other same (inl h) (inr (inl g)) = no_item head zs (sym h.0 ∙ same ∙ ap (λ ys. ys ++ zs) g.0)
      chain_reaches ws xs zs place other same (inl h) (inr (inr g)) =
          no_item head (Start (start_of e) ∷ (map line_of g.steps ++ zs)) (sym h.0 ∙ same ∙ ap (λ ys. ys ++ zs) g.split)
      chain_reaches ws xs zs place other same (inr (inl h)) (inl g) =
          inr (goes_at c place (before_line head) zs g.1 (head, [], ap (λ ys. ys ++ zs) (sym g.0) ∙ sym same ∙ h.0, refl))
      chain_reaches ws xs zs place other same (inr (inl h)) (inr (inl g)) =
          let both : head ∷ zs ≡ head ∷ [] = ap (λ ys. ys ++ zs) (sym g.0) ∙ sym same ∙ h.0 in
          inl (tail_of head head zs [] both, g.1 ∙ sym h.1)
      chain_reaches ws xs zs place other same (inr (inl h)) (inr (inr g)) =
          let both : head ∷ [] ≡ head ∷ Start (start_of e) ∷ (map line_of g.steps ++ zs) = sym h.0 ∙ same ∙ ap (λ ys. ys ++ zs) g.split in
          no_item (Start (start_of e)) (map line_of g.steps ++ zs) (tail_of head head [] (Start (start_of e) ∷ (map line_of g.steps ++ zs)) both)
      chain_reaches ws xs zs place other same (inr (inr h)) (inl g) =
          inr (goes_at c place (before_line head) zs g.1 (head, Start (start_of e) ∷ map line_of h.steps, ap (λ ys. ys ++ zs) (sym g.0) ∙ sym same ∙ h.split, refl))
      chain_reaches ws xs zs place other same (inr (inr h)) (inr (inl g)) =
          let both : head ∷ zs ≡ head ∷ Start (start_of e) ∷ map line_of h.steps = ap (λ ys. ys ++ zs) (sym g.0) ∙ sym same ∙ h.split in
          inr (goes_at c place (before_start left e) zs g.1 (Start (start_of e), map line_of h.steps, tail_of head head zs (Start (start_of e) ∷ map line_of h.steps) both, (refl, h.started)))
      chain_reaches ws xs zs place other same (inr (inr h)) (inr (inr g)) =
          let both : head ∷ Start (start_of e) ∷ map line_of h.steps ≡ head ∷ Start (start_of e) ∷ (map line_of g.steps ++ zs) = sym h.split ∙ same ∙ ap (λ ys. ys ++ zs) g.split in
          let first = tail_of head head (Start (start_of e) ∷ map line_of h.steps) (Start (start_of e) ∷ (map line_of g.steps ++ zs)) both in
          let lines = tail_of (Start (start_of e)) (Start (start_of e)) (map line_of h.steps) (map line_of g.steps ++ zs) first in
          moved place other g.stands h.stands (path_reaches (left - start_charge e) (start_of e) h.steps h.after h.last g.steps g.after g.last zs h.leads g.leads lines)
        where
          moved : (p o : Place) → p ≡ in_chain known g.after g.last → o ≡ in_chain known h.after h.last
              → Reaches (in_chain known g.after g.last) zs (in_chain known h.after h.last) → Reaches p zs o
          moved p o a b (inl r) = inl (r.0, a ∙ r.1 ∙ sym b)
          moved p o a b (inr r) = inr (goes_at c p (in_chain known g.after g.last) zs a r)

    -- a chain that is finished is no beginning without an end
    done_not_open : {A : Type 0} (head : Line) (left : ℕ) (item : Item) (ws xs zs : List Line) (other : Place) → ws ≡ xs ++ zs
        → IsBegunChain (LeadsTo lemma_table c) (IsAcceptedChain lemma_table c) (IsAcceptedSample c) head known left item.term ws other
        → BeginsWithChain (IsAcceptedChain lemma_table c) (IsAcceptedSample c) head known left item xs → A
    done_not_open {A} head left item ws xs zs other same begun done = go begun
      where
        whole : ws ≡ head ∷ Start (start_of item.term) ∷ (map line_of done.chain.steps ++ End ∷ (done.rest ++ zs))
        whole =
            same ∙ ap (λ ys. ys ++ zs) (done.split ∙ ap (λ ys. head ∷ Start (start_of item.term) ∷ ys) (append_assoc (map line_of done.chain.steps) (End ∷ []) done.rest))
            ∙ ap (λ ys. head ∷ Start (start_of item.term) ∷ ys) (append_assoc (map line_of done.chain.steps) (End ∷ done.rest) zs)

        go : IsBegunChain (LeadsTo lemma_table c) (IsAcceptedChain lemma_table c) (IsAcceptedSample c) head known left item.term ws other → A
        go (inl h) = no_item head (Start (start_of item.term) ∷ (map line_of done.chain.steps ++ End ∷ (done.rest ++ zs))) (sym h.0 ∙ whole)
        go (inr (inl h)) =
            no_item (Start (start_of item.term)) (map line_of done.chain.steps ++ End ∷ (done.rest ++ zs))
            (tail_of head head [] (Start (start_of item.term) ∷ (map line_of done.chain.steps ++ End ∷ (done.rest ++ zs))) (sym h.0 ∙ whole))
        go (inr (inr h)) =
            let both : head ∷ Start (start_of item.term) ∷ map line_of h.steps ≡ head ∷ Start (start_of item.term) ∷ (map line_of done.chain.steps ++ End ∷ (done.rest ++ zs)) = sym h.split ∙ whole in
            let first = tail_of head head (Start (start_of item.term) ∷ map line_of h.steps) (Start (start_of item.term) ∷ (map line_of done.chain.steps ++ End ∷ (done.rest ++ zs))) both in
            absurd (no_end h.steps done.chain.steps (done.rest ++ zs)
            (tail_of (Start (start_of item.term)) (Start (start_of item.term)) (map line_of h.steps) (map line_of done.chain.steps ++ End ∷ (done.rest ++ zs)) first))

  -- THE END
  abbrev EndBegun : List Summands → Verdict → ℕ → List Line → Place → Type 0
  EndBegun listed verdict left lines place = IsBegunEnd (LeadsTo lemma_table c) (IsAcceptedChain lemma_table c) (IsAcceptedSample c) listed verdict left lines place

  abbrev Concluded : List Summands → ℕ → List Line → Verdict → ℕ → Type 0
  Concluded listed left lines verdict l = IsConcluded (IsAcceptedChain lemma_table c) (IsAcceptedSample c) listed left lines verdict l

  end_reaches : (listed : List Summands) (verdict : Verdict) (left : ℕ) (ws xs zs : List Line) (place other : Place) → ws ≡ xs ++ zs
      → EndBegun listed verdict left ws other → EndBegun listed verdict left xs place → Reaches place zs other
  end_reaches listed verdict left ws xs zs place other same (inl h) (inl g) = inl (ap (λ ys. ys ++ zs) (sym g.0) ∙ sym same ∙ h.0, g.1 ∙ sym h.1)
  end_reaches listed verdict left ws xs zs place other same (inl h) (inr g) = no_item (Sample g.0) zs (sym h.0 ∙ same ∙ ap (λ ys. ys ++ zs) g.3)
  end_reaches listed verdict left ws xs zs place other same (inr h) (inl g) =
      inr (goes_at c place (before_sample listed left) zs g.1 (Sample h.0, [], ap (λ ys. ys ++ zs) (sym g.0) ∙ sym same ∙ h.3, (h.0, h.1, h.2, refl)))
  end_reaches listed verdict left ws xs zs place other same (inr h) (inr g) =
      let both : Sample g.0 ∷ zs ≡ Sample h.0 ∷ [] = ap (λ ys. ys ++ zs) (sym g.3) ∙ sym same ∙ h.3 in
      inl (tail_of (Sample g.0) (Sample h.0) zs [] both, g.4 ∙ sym h.4)

  end_not_done : {A : Type 0} (listed : List Summands) (verdict : Verdict) (left l : ℕ) (ws xs zs : List Line) (other : Place) → ws ≡ xs ++ zs
      → EndBegun listed verdict left ws other → Concluded listed left xs verdict l → A
  end_not_done listed verdict left l ws xs zs other same (inl h) g = no_item (Sample g.values) (VerdictLine verdict ∷ zs) (sym h.0 ∙ same ∙ ap (λ ys. ys ++ zs) g.split)
  end_not_done listed verdict left l ws xs zs other same (inr h) g =
      let both : Sample h.0 ∷ [] ≡ Sample g.values ∷ VerdictLine verdict ∷ zs = sym h.3 ∙ same ∙ ap (λ ys. ys ++ zs) g.split in
      no_item (VerdictLine verdict) zs (tail_of (Sample h.0) (Sample g.values) [] (VerdictLine verdict ∷ zs) both)

  -- GOALS
  abbrev GoalsBegun : List Var → List Summands → ℕ → ℕ → List Item → List Line → Place → Type 0
  GoalsBegun known listed k left items lines place = AreGoalsBegun (LeadsTo lemma_table c) (IsAcceptedChain lemma_table c) (IsAcceptedSample c) known listed k left items lines place

  abbrev GoalsWorked : List Var → List Summands → ℕ → ℕ → List Item → List Line → Verdict → ℕ → Type 0
  GoalsWorked known listed k left items lines verdict l = AreGoalsWorked (IsAcceptedChain lemma_table c) (IsAcceptedSample c) known listed k left items lines verdict l

  goals_reach : (known : List Var) (listed : List Summands) (k left : ℕ) (items : List Item) (ws xs zs : List Line) (place other : Place) → ws ≡ xs ++ zs
      → GoalsBegun known listed k left items ws other → GoalsBegun known listed k left items xs place → Reaches place zs other
  goals_reach known listed k left [] ws xs zs place other same h g = end_reaches listed Proved left ws xs zs place other same h g
  goals_reach known listed k left (item ∷ items) ws xs zs place other same (inl h) (inl g) = chain_reaches known (Goal k item.text) left item.term ws xs zs place other same h g
  goals_reach known listed k left (item ∷ items) ws xs zs place other same (inl h) (inr (done, g)) = done_not_open known (Goal k item.text) left item ws xs zs other same h done
  goals_reach known listed k left (item ∷ items) ws xs zs place other same (inr (first, h)) (inl g) = inr (chain_goes c known (Goal k item.text) left item ws first xs zs place same g)
  goals_reach known listed k left (item ∷ items) ws xs zs place other same (inr (first, inl h)) (inr (done, inl g)) =
      let d = chain_done c known (Goal k item.text) left item ws first xs zs same done in
      goals_reach known listed (suc k) done.after items first.rest done.rest zs place other d.tails (subst (λ n. GoalsBegun known listed (suc k) n items first.rest other) d.left h.1) g.1
  goals_reach known listed k left (item ∷ items) ws xs zs place other same (inr (first, inl h)) (inr (done, inr g)) =
      let d = chain_done c known (Goal k item.text) left item ws first xs zs same done in absurd (g.0 (sym d.end ∙ h.0))
  goals_reach known listed k left (item ∷ items) ws xs zs place other same (inr (first, inr h)) (inr (done, inl g)) =
      let d = chain_done c known (Goal k item.text) left item ws first xs zs same done in absurd (h.0 (d.end ∙ g.0))
  goals_reach known listed k left (item ∷ items) ws xs zs place other same (inr (first, inr h)) (inr (done, inr g)) =
      let d = chain_done c known (Goal k item.text) left item ws first xs zs same done in
      end_reaches (listed ++ done.chain.end ∷ []) (False k) done.after first.rest done.rest zs place other d.tails
      (subst (λ n. EndBegun (listed ++ done.chain.end ∷ []) (False k) n first.rest other) d.left
      (subst (λ t. EndBegun (listed ++ t ∷ []) (False k) first.after first.rest other) d.end h.1)) g.1

  goals_not_done : {A : Type 0} (known : List Var) (listed : List Summands) (k left l : ℕ) (items : List Item) (ws xs zs : List Line) (verdict : Verdict) (other : Place) → ws ≡ xs ++ zs
      → GoalsBegun known listed k left items ws other → GoalsWorked known listed k left items xs verdict l → A
  goals_not_done known listed k left l [] ws xs zs verdict other same h g = end_not_done listed Proved left l ws xs zs other same h g.1
  goals_not_done known listed k left l (item ∷ items) ws xs zs verdict other same (inl h) (done, g) = done_not_open known (Goal k item.text) left item ws xs zs other same h done
  goals_not_done known listed k left l (item ∷ items) ws xs zs verdict other same (inr (first, inl h)) (done, inl g) =
      let d = chain_done c known (Goal k item.text) left item ws first xs zs same done in
      goals_not_done known listed (suc k) done.after l items first.rest done.rest zs verdict other d.tails (subst (λ n. GoalsBegun known listed (suc k) n items first.rest other) d.left h.1) g.1
  goals_not_done known listed k left l (item ∷ items) ws xs zs verdict other same (inr (first, inl h)) (done, inr g) =
      let d = chain_done c known (Goal k item.text) left item ws first xs zs same done in absurd (g.0 (sym d.end ∙ h.0))
  goals_not_done known listed k left l (item ∷ items) ws xs zs verdict other same (inr (first, inr h)) (done, inl g) =
      let d = chain_done c known (Goal k item.text) left item ws first xs zs same done in absurd (h.0 (d.end ∙ g.0))
  goals_not_done known listed k left l (item ∷ items) ws xs zs verdict other same (inr (first, inr h)) (done, inr g) =
      let d = chain_done c known (Goal k item.text) left item ws first xs zs same done in
      end_not_done (listed ++ done.chain.end ∷ []) (False k) done.after l first.rest done.rest zs other d.tails
      (subst (λ n. EndBegun (listed ++ done.chain.end ∷ []) (False k) n first.rest other) d.left
      (subst (λ t. EndBegun (listed ++ t ∷ []) (False k) first.after first.rest other) d.end h.1)) g.2

  -- CONDITIONS
  module _ (goals : List Item) where
    abbrev AllBegun : List Var → List Summands → ℕ → ℕ → List Item → List Line → Place → Type 0
    AllBegun known listed k left items lines place = AreConditionsBegun (LeadsTo lemma_table c) (IsAcceptedChain lemma_table c) (IsAcceptedSample c) goals known listed k left items lines place

    abbrev AllWorked : List Var → List Summands → ℕ → ℕ → List Item → List Line → Verdict → ℕ → Type 0
    AllWorked known listed k left items lines verdict l = AreConditionsWorked (IsAcceptedChain lemma_table c) (IsAcceptedSample c) goals known listed k left items lines verdict l

    pub begun_reaches : (known : List Var) (listed : List Summands) (k left : ℕ) (items : List Item) (ws xs zs : List Line) (place other : Place) → ws ≡ xs ++ zs
        → AllBegun known listed k left items ws other → AllBegun known listed k left items xs place → Reaches place zs other
    begun_reaches known listed k left [] ws xs zs place other same h g = goals_reach known listed 1 left goals ws xs zs place other same h g
    begun_reaches known listed k left (item ∷ items) ws xs zs place other same (inl h) (inl g) = chain_reaches known (Condition k item.text) left item.term ws xs zs place other same h g
    begun_reaches known listed k left (item ∷ items) ws xs zs place other same (inl h) (inr (done, g)) = done_not_open known (Condition k item.text) left item ws xs zs other same h done
    begun_reaches known listed k left (item ∷ items) ws xs zs place other same (inr (first, h)) (inl g) = inr (chain_goes c known (Condition k item.text) left item ws first xs zs place same g)
    begun_reaches known listed k left (item ∷ items) ws xs zs place other same (inr (first, inl h)) (inr (done, inl g)) =
        let d = chain_done c known (Condition k item.text) left item ws first xs zs same done in
        inl (ap (λ ys. ys ++ zs) (sym g.1) ∙ sym d.tails ∙ h.1, g.2 ∙ sym h.2)
    begun_reaches known listed k left (item ∷ items) ws xs zs place other same (inr (first, inl h)) (inr (done, inr g)) =
        let d = chain_done c known (Condition k item.text) left item ws first xs zs same done in absurd (g.0 (sym d.end ∙ h.0))
    begun_reaches known listed k left (item ∷ items) ws xs zs place other same (inr (first, inr h)) (inr (done, inl g)) =
        let d = chain_done c known (Condition k item.text) left item ws first xs zs same done in absurd (h.0 (d.end ∙ g.0))
    begun_reaches known listed k left (item ∷ items) ws xs zs place other same (inr (first, inr h)) (inr (done, inr g)) =
        let d = chain_done c known (Condition k item.text) left item ws first xs zs same done in
        let more = known ++ known_by (item ∷ []) in
        begun_reaches more (listed ++ done.chain.end ∷ []) (suc k) done.after items first.rest done.rest zs place other d.tails
        (subst (λ n. AllBegun more (listed ++ done.chain.end ∷ []) (suc k) n items first.rest other) d.left
        (subst (λ t. AllBegun more (listed ++ t ∷ []) (suc k) first.after items first.rest other) d.end h.1)) g.1

    pub begun_not_done : {A : Type 0} (known : List Var) (listed : List Summands) (k left l : ℕ) (items : List Item) (ws xs zs : List Line) (verdict : Verdict) (other : Place) → ws ≡ xs ++ zs
        → AllBegun known listed k left items ws other → AllWorked known listed k left items xs verdict l → A
    begun_not_done known listed k left l [] ws xs zs verdict other same h g = goals_not_done known listed 1 left l goals ws xs zs verdict other same h g
    begun_not_done known listed k left l (item ∷ items) ws xs zs verdict other same (inl h) (done, g) = done_not_open known (Condition k item.text) left item ws xs zs other same h done
    begun_not_done known listed k left l (item ∷ items) ws xs zs verdict other same (inr (first, inl h)) (done, inl g) =
        let d = chain_done c known (Condition k item.text) left item ws first xs zs same done in
        no_item (VerdictLine (Impossible k)) zs (sym h.1 ∙ d.tails ∙ ap (λ ys. ys ++ zs) g.2)
    begun_not_done known listed k left l (item ∷ items) ws xs zs verdict other same (inr (first, inl h)) (done, inr g) =
        let d = chain_done c known (Condition k item.text) left item ws first xs zs same done in absurd (g.0 (sym d.end ∙ h.0))
    begun_not_done known listed k left l (item ∷ items) ws xs zs verdict other same (inr (first, inr h)) (done, inl g) =
        let d = chain_done c known (Condition k item.text) left item ws first xs zs same done in absurd (h.0 (d.end ∙ g.0))
    begun_not_done known listed k left l (item ∷ items) ws xs zs verdict other same (inr (first, inr h)) (done, inr g) =
        let d = chain_done c known (Condition k item.text) left item ws first xs zs same done in
        let more = known ++ known_by (item ∷ []) in
        begun_not_done more (listed ++ done.chain.end ∷ []) (suc k) done.after l items first.rest done.rest zs verdict other d.tails
        (subst (λ n. AllBegun more (listed ++ done.chain.end ∷ []) (suc k) n items first.rest other) d.left
        (subst (λ t. AllBegun more (listed ++ t ∷ []) (suc k) first.after items first.rest other) d.end h.1)) g.1
