-- A subject has one defined list, with one end.
use Rattle.std.proofs.Common.{◌≡◌, ℕ, ◌-◌, inl, inr, ℤ, List, [], ◌∷◌, ◌++◌, map, append_assoc, refl, sym, ap, ◌∙◌, subst}
use Rattle.geo_poly.specs.declared.limits.Which.TheVariants.{Norm, Degree}
use Rattle.geo_poly.specs.declared.variables.Var.{Var}
use Rattle.geo_poly.specs.Polynomials.{Summands}
use Rattle.geo_terms.specs.Constructions.{Construction}
use Rattle.geo_terms.specs.Trees.{Tree}
use Rattle.proof_log.specs.declared.log.Line.{Line}
use Rattle.proof_log.specs.declared.log.Line.TheVariants.{End, Sample, Start, Verdict as VerdictLine}
use Rattle.proof_log.specs.declared.log.Verdict.{Verdict}
use Rattle.geo_logs.specs.Chains.{Chain, chain_lines, line_of}
use Rattle.geo_logs.specs.Starts.{IsStarted, start_charge, start_of}
use Rattle.geo_logs.specs.Defined.{IsDefinedChain}
use Rattle.geo_logs.specs.Ends.{IsAfterHeader, IsAtSample, Next, comes, stops}
use Rattle.geo_logs.proofs.NextLines.{IsBegunChain, IsBegunEnd}
use Rattle.geo_logs.specs.Logs.{IsConcluded}
use Rattle.geo_logs.specs.Moves.{Table, Stop, spent, too_large}
use Rattle.geo_logs.specs.Samples.{IsLeastSample, IsSearchStopped, error_of, sample_variables}
use Rattle.geo_sample.specs.Tries.{AreMade, EndIn, Try, search_tries}
use Rattle.geo_sample.proofs.LeastSamples.{exists_one}
use Rattle.geo_sample.proofs.TryEnds.{ends_exclude}
use Rattle.geo_logs.proofs.OneChain.{one_sample}
use Rattle.geo_logs.proofs.OneNext.{AreCompared, IsAhead, ahead_behind, compare_paths, compared_behind, one_start_stop, path_within, start_not_stopped}

-- WHAT COMES AFTER A HEADER
one_after_header : (left : ℕ) (e : Tree) (n m : Next) → IsAfterHeader left e n → IsAfterHeader left e m → n ≡ m
one_after_header left e (comes a) (comes b) h g = ap comes (h.0 ∙ sym g.0)
one_after_header left e (comes a) (stops s) h g = absurd (start_not_stopped left e s h.1 g)
one_after_header left e (stops s) (comes b) h g = absurd (start_not_stopped left e s g.1 h)
one_after_header left e (stops s) (stops s') h g = ap stops (one_start_stop left e s s' h g)

start_comes : (left : ℕ) (e : Tree) (n : Next) → IsStarted left e → IsAfterHeader left e n → n ≡ comes (Start (start_of e))
start_comes left e n started h = one_after_header left e n (comes (Start (start_of e))) h (refl, started)

-- CHAINS
module _ (table : Table) (c : Construction) (head : Line) (known : List Var) (left : ℕ) (e : Tree) where
  pub begun_compared : (xs ys : List Line) (n m : Next) → IsBegunChain table c head known left e xs n → IsBegunChain table c head known left e ys m → AreCompared xs n ys m
  begun_compared xs ys n m (inl h) (inl g) = inl (h.0 ∙ sym g.0, h.1 ∙ sym g.1)
  begun_compared xs ys n m (inl h) (inr (inl g)) = inr (inl (head, [], h.1, g.0 ∙ ap (λ (ws : List Line). ws ++ head ∷ []) (sym h.0)))
  begun_compared xs ys n m (inl h) (inr (inr g)) =
      inr (inl (head, Start (start_of e) ∷ map line_of g.steps, h.1, g.split ∙ ap (λ (ws : List Line). ws ++ head ∷ Start (start_of e) ∷ map line_of g.steps) (sym h.0)))
  begun_compared xs ys n m (inr (inl h)) (inl g) = inr (inr (head, [], g.1, h.0 ∙ ap (λ (ws : List Line). ws ++ head ∷ []) (sym g.0)))
  begun_compared xs ys n m (inr (inl h)) (inr (inl g)) = inl (h.0 ∙ sym g.0, one_after_header left e n m h.1 g.1)
  begun_compared xs ys n m (inr (inl h)) (inr (inr g)) =
      inr (inl (Start (start_of e), map line_of g.steps, start_comes left e n g.started h.1, g.split ∙ ap (λ (ws : List Line). ws ++ Start (start_of e) ∷ map line_of g.steps) (sym h.0)))
  begun_compared xs ys n m (inr (inr h)) (inl g) =
      inr (inr (head, Start (start_of e) ∷ map line_of h.steps, g.1, h.split ∙ ap (λ (ws : List Line). ws ++ head ∷ Start (start_of e) ∷ map line_of h.steps) (sym g.0)))
  begun_compared xs ys n m (inr (inr h)) (inr (inl g)) =
      inr (inr (Start (start_of e), map line_of h.steps, start_comes left e m h.started g.1, h.split ∙ ap (λ (ws : List Line). ws ++ Start (start_of e) ∷ map line_of h.steps) (sym g.0)))
  begun_compared xs ys n m (inr (inr h)) (inr (inr g)) =
      let found = compare_paths table c known (left - start_charge e) (start_of e) h.steps g.steps h.after g.after h.last g.last n m h.leads h.follows g.leads g.follows in
      let both = compared_behind (head ∷ Start (start_of e) ∷ []) (map line_of h.steps) n (map line_of g.steps) m found in
      subst (λ (ws : List Line). AreCompared ws n ys m) (sym h.split) (subst (λ (ws : List Line). AreCompared (head ∷ Start (start_of e) ∷ map line_of h.steps) n ws m) (sym g.split) both)

  pub begun_within : (xs : List Line) (n : Next) (chain : Chain) (left' : ℕ) (rest : List Line) → IsBegunChain table c head known left e xs n → IsDefinedChain table c known left e chain left'
      → IsAhead xs n (chain_lines head e chain ++ rest)
  begun_within xs n chain left' rest (inl h) g =
      (head, Start (start_of e) ∷ map line_of chain.steps ++ End ∷ [] ++ rest, h.1, ap (λ (ws : List Line). ws ++ (chain_lines head e chain ++ rest)) (sym h.0))
  begun_within xs n chain left' rest (inr (inl h)) g = (
    Start (start_of e),
    map line_of chain.steps ++ End ∷ [] ++ rest,
    start_comes left e n g.started h.1,
    ap (λ (ws : List Line). ws ++ (Start (start_of e) ∷ map line_of chain.steps ++ End ∷ [] ++ rest)) (sym h.0),
  )
  begun_within xs n chain left' rest (inr (inr h)) g =
      let found = path_within table c known (left - start_charge e) (start_of e) h.steps chain.steps h.after left' h.last chain.end n rest h.leads h.follows g.leads g.no_cut g.ended in
      let both = ahead_behind (head ∷ Start (start_of e) ∷ []) (map line_of h.steps) n (map line_of chain.steps ++ End ∷ rest) found in
      let same : head ∷ Start (start_of e) ∷ (map line_of chain.steps ++ End ∷ rest) ≡ chain_lines head e chain ++ rest =
      ap (λ (ws : List Line). head ∷ Start (start_of e) ∷ ws) (sym (append_assoc (map line_of chain.steps) (End ∷ []) rest)) in
      subst (λ (ws : List Line). IsAhead ws n (chain_lines head e chain ++ rest)) (sym h.split) (subst (λ (ws : List Line). IsAhead (head ∷ Start (start_of e) ∷ map line_of h.steps) n ws) same both)

-- SAMPLES
-- two stops of tries are one
pub one_stop : (left : ℕ) (tries : List Try) (r r' : ℕ) (s s' : Stop) → EndIn (error_of s) left tries r → EndIn (error_of s') left tries r' → s ≡ s'
one_stop left tries r r' spent spent h g = refl
one_stop left tries r r' spent (too_large Norm) h g = absurd ((ends_exclude left tries r r').spent_or_large h g)
one_stop left tries r r' spent (too_large Degree) h g = absurd g
one_stop left tries r r' (too_large Norm) spent h g = absurd ((ends_exclude left tries r' r).spent_or_large g h)
one_stop left tries r r' (too_large Norm) (too_large Norm) h g = refl
one_stop left tries r r' (too_large Norm) (too_large Degree) h g = absurd g
one_stop left tries r r' (too_large Degree) s' h g = absurd h

-- tries that are made are not stopped
pub made_not_stopped : (left : ℕ) (tries : List Try) (r r' : ℕ) (s : Stop) → AreMade left tries r → EndIn (error_of s) left tries r' → ⊥
made_not_stopped left tries r r' spent h g = (ends_exclude left tries r r').made_or_spent h g
made_not_stopped left tries r r' (too_large Norm) h g = (ends_exclude left tries r r').made_or_large h g
made_not_stopped left tries r r' (too_large Degree) h g = g

module _ (c : Construction) (listed : List Summands) (left : ℕ) where
  sample_not_stopped : (values : List (Var × ℤ)) (left' : ℕ) (s : Stop) → IsLeastSample c listed left values left' → IsSearchStopped c listed left s → ⊥
  sample_not_stopped values left' s h (rest, (xs, least, ended)) =
      let same : xs ≡ values = exists_one.unique (sample_variables c) listed xs values least h.least in
      made_not_stopped left (search_tries values listed) left' rest s h.made (subst (λ (ys : List (Var × ℤ)). EndIn (error_of s) left (search_tries ys listed) rest) same ended)

  one_sample_stop : (s s' : Stop) → IsSearchStopped c listed left s → IsSearchStopped c listed left s' → s ≡ s'
  one_sample_stop s s' (rest, (xs, least, ended)) (rest', (ys, least', ended')) =
      let same : xs ≡ ys = exists_one.unique (sample_variables c) listed xs ys least least' in
      one_stop left (search_tries ys listed) rest rest' s s' (subst (λ (zs : List (Var × ℤ)). EndIn (error_of s) left (search_tries zs listed) rest) same ended) ended'

  one_at_sample : (n m : Next) → IsAtSample c listed left n → IsAtSample c listed left m → n ≡ m
  one_at_sample (comes a) (comes b) (values, l, h, e) (values', l', g, f) =
      let same = one_sample c listed left values values' l l' h g in ap comes (e ∙ ap Sample same.0 ∙ sym f)
  one_at_sample (comes a) (stops s) (values, l, h, e) g = absurd (sample_not_stopped values l s h g)
  one_at_sample (stops s) (comes b) h (values, l, g, e) = absurd (sample_not_stopped values l s g h)
  one_at_sample (stops s) (stops s') h g = ap stops (one_sample_stop s s' h g)

  sample_comes : (n : Next) (values : List (Var × ℤ)) (l : ℕ) → IsLeastSample c listed left values l → IsAtSample c listed left n → n ≡ comes (Sample values)
  sample_comes n values l h g = one_at_sample n (comes (Sample values)) g (values, l, h, refl)

  module _ (verdict : Verdict) where
    pub ends_compared : (xs ys : List Line) (n m : Next) → IsBegunEnd c listed verdict left xs n → IsBegunEnd c listed verdict left ys m → AreCompared xs n ys m
    ends_compared xs ys n m (inl h) (inl g) = inl (h.0 ∙ sym g.0, one_at_sample n m h.1 g.1)
    ends_compared xs ys n m (inl h) (inr (values, l, g, e, f)) = inr (inl (Sample values, [], sample_comes n values l g h.1, e ∙ ap (λ (ws : List Line). ws ++ Sample values ∷ []) (sym h.0)))
    ends_compared xs ys n m (inr (values, l, g, e, f)) (inl h) = inr (inr (Sample values, [], sample_comes m values l g h.1, e ∙ ap (λ (ws : List Line). ws ++ Sample values ∷ []) (sym h.0)))
    ends_compared xs ys n m (inr (values, l, h, e, f)) (inr (values', l', h', e', f')) =
        let same = one_sample c listed left values values' l l' h h' in
        inl (e ∙ ap (λ (ws : List (Var × ℤ)). Sample ws ∷ []) same.0 ∙ sym e', f ∙ sym f')

    pub end_within : (table : Table) (xs : List Line) (n : Next) (ys : List Line) (left' : ℕ) → IsBegunEnd c listed verdict left xs n
        → IsConcluded (IsDefinedChain table c) (IsLeastSample c) listed left ys verdict left' → IsAhead xs n ys
    end_within table xs n ys left' (inl h) g =
        (Sample g.values, VerdictLine verdict ∷ [], sample_comes n g.values left' g.chosen h.1, g.split ∙ ap (λ (ws : List Line). ws ++ Sample g.values ∷ VerdictLine verdict ∷ []) (sym h.0))
    end_within table xs n ys left' (inr (values, l, h, e, f)) g =
        let same = one_sample c listed left values g.values l left' h g.chosen in
        let begun : xs ≡ Sample g.values ∷ [] = e ∙ ap (λ (ws : List (Var × ℤ)). Sample ws ∷ []) same.0 in
        (VerdictLine verdict, [], f, g.split ∙ ap (λ (ws : List Line). ws ++ VerdictLine verdict ∷ []) (sym begun))
