-- A line is refused for one reason.
use Rattle.std.proofs.Common.{◌≡◌, ◌≢◌, ℕ, ◌⊎◌, inl, inr, ℤ, Option, Some, None, List, [], ◌∷◌, refl, sym, ◌∙◌, ap, subst}
use Rattle.geo_poly.specs.declared.variables.Var.{Var}
use Rattle.geo_poly.specs.Monomials.{Powers}
use Rattle.geo_poly.specs.Polynomials.{Summands, IsPolynomial, product_of}
use Rattle.geo_sample.specs.Tries.{single_tries}
use Rattle.geo_terms.specs.Constructions.{Construction}
use Rattle.geo_terms.specs.Trees.{Tree}
use Rattle.proof_log.specs.declared.log.Line.{Line}
use Rattle.proof_log.specs.declared.log.Line.TheVariants.{Header, Program, Condition, Goal, Start, Ratio, Point, Coords, Cut, End, Sample, Verdict as VerdictLine, StopTooLarge, StopSpent}
use Rattle.geo_logs.specs.declared.moves.Move.{Move}
use Rattle.geo_logs.specs.declared.moves.Replacement.{Replacement}
use Rattle.elim_apply.specs.LemmaTable.{lemma_table}
use Rattle.geo_logs.specs.Moves.{IsMoveStopped, Stop, replacement}
use Rattle.geo_logs.specs.Chains.{line_of, moves}
use Rattle.geo_logs.specs.Judging.{IsAfterVerdict, IsByKnown, IsCutRefused, IsInnerRefused, IsMoveRefused, IsOtherLine, IsRefused}
use Rattle.geo_logs.specs.Judging.{IsRefusedAt, IsSampleRefused, Kind, Refusal, chain_kind, kind_of, no_row, rejected, stopped}
use Rattle.geo_logs.specs.Judging.{verdict_kind, wrong_chain, wrong_cut, wrong_polynomial, wrong_sample, wrong_start, wrong_verdict}
use Rattle.geo_logs.specs.Places.{Place, before_line, before_sample, before_start, in_chain}
use Rattle.geo_logs.proofs.OneEnd as tries
use Rattle.geo_logs.proofs.OneNext as line
use Rattle.geo_logs.proofs.OneNext.{one_start_stop, start_not_stopped}
use Rattle.log_checker.proofs.Refusals.{same_move}

-- HEADERS AND VERDICTS
other_is : (due l : Line) (r : Refusal) → IsOtherLine due l r → ((r ≡ rejected wrong_chain) × (kind_of due ≡ chain_kind)) ⊎ ((r ≡ rejected wrong_verdict) × (kind_of due ≡ verdict_kind))
other_is due l (rejected wrong_chain) h = inl (refl, h.0)
other_is due l (rejected wrong_verdict) h = inr (refl, h.0)
other_is due l _ h = absurd h

kinds_apart : {A : Type 0} (k : Kind) → k ≡ chain_kind → k ≡ verdict_kind → A
kinds_apart k e f = absurd (let q : chain_kind ≡ verdict_kind = sym e ∙ f in cc)

other_once : (due l : Line) (r s : Refusal) → IsOtherLine due l r → IsOtherLine due l s → r ≡ s
other_once due l r s h g = go (other_is due l r h) (other_is due l s g)
  where
    go : ((r ≡ rejected wrong_chain) × (kind_of due ≡ chain_kind)) ⊎ ((r ≡ rejected wrong_verdict) × (kind_of due ≡ verdict_kind))
        → ((s ≡ rejected wrong_chain) × (kind_of due ≡ chain_kind)) ⊎ ((s ≡ rejected wrong_verdict) × (kind_of due ≡ verdict_kind)) → r ≡ s
    go (inl a) (inl b) = a.0 ∙ sym b.0
    go (inl a) (inr b) = kinds_apart (kind_of due) a.1 b.1
    go (inr a) (inl b) = kinds_apart (kind_of due) b.1 a.1
    go (inr a) (inr b) = a.0 ∙ sym b.0

-- MOVES
-- how a move is refused
abbrev IsHow : Replacement → ℕ → Summands → Refusal → Type 0
IsHow made left q r =
    ((r ≡ rejected no_row) × (made.rows ≡ []))
    ⊎ (((stop : Stop) × (r ≡ stopped stop) × (made.rows ≢ []) × IsMoveStopped made left q stop)
    ⊎ ((r ≡ rejected wrong_polynomial) × (made.rows ≢ []) × ((stop : Stop) → IsMoveStopped made left q stop → ⊥)))

how_once : (made : Replacement) (left : ℕ) (q : Summands) (r s : Refusal) → IsHow made left q r → IsHow made left q s → r ≡ s
how_once made left q r s (inl a) (inl b) = a.0 ∙ sym b.0
how_once made left q r s (inl a) (inr (inl b)) = absurd (b.2 a.1)
how_once made left q r s (inl a) (inr (inr b)) = absurd (b.1 a.1)
how_once made left q r s (inr (inl a)) (inl b) = absurd (a.2 b.1)
how_once made left q r s (inr (inl a)) (inr (inl b)) = a.1 ∙ ap (λ (x : Stop). stopped x) (line.one_stop made left q a.0 b.0 a.3 b.3) ∙ sym b.1
how_once made left q r s (inr (inl a)) (inr (inr b)) = absurd (b.2 a.0 a.3)
how_once made left q r s (inr (inr a)) (inl b) = absurd (a.1 b.1)
how_once made left q r s (inr (inr a)) (inr (inl b)) = absurd (a.2 b.0 b.3)
how_once made left q r s (inr (inr a)) (inr (inr b)) = a.0 ∙ sym b.0

module _ (c : Construction) where
  how : (left : ℕ) (q : Summands) (m : Move) (t : Summands) (r : Refusal) → IsMoveRefused lemma_table c left q m t r → IsHow (replacement lemma_table c m q) left q r
  how left q m t (rejected no_row) h = inl (refl, h)
  how left q m t (stopped stop) h = inr (inl (stop, refl, h.0, h.1))
  how left q m t (rejected wrong_polynomial) h = inr (inr (refl, h.0, h.1))
  how left q m t _ h = absurd h

  abbrev HasMove : ℕ → Summands → Line → Refusal → Type 0
  HasMove left q l r = (move : Move) × (t : Summands) × (l ≡ line_of (moves move t)) × IsMoveRefused lemma_table c left q move t r

  moves_once : (left : ℕ) (q : Summands) (l : Line) (r s : Refusal) → HasMove left q l r → HasMove left q l s → r ≡ s
  moves_once left q l r s (m, t, e, h) (k, u, f, g) =
      let one = same_move c q m k t u (sym e ∙ f) in
      how_once (replacement lemma_table c k q) left q r s (subst (λ (x : Replacement). IsHow x left q r) one.0 (how left q m t r h)) (how left q k u s g)

  -- CUTS
  abbrev IsWrongCut : List Var → Summands → Powers × ℤ → Type 0
  IsWrongCut known q f = (IsByKnown known f.0 → ⊥) ⊎ ((s : Summands) → IsPolynomial s → product_of (f ∷ []) s ≢ q)

  abbrev IsExactCut : List Var → Summands → Powers × ℤ → Type 0
  IsExactCut known q f = IsByKnown known f.0 × ((s : Summands) × IsPolynomial s × (product_of (f ∷ []) s ≡ q))

  cut_is : (known : List Var) (q : Summands) (f : Powers × ℤ) (t : Summands) (r : Refusal) → IsCutRefused known q f t r
      → ((r ≡ rejected wrong_cut) × IsWrongCut known q f) ⊎ ((r ≡ rejected wrong_polynomial) × IsExactCut known q f)
  cut_is known q f t (rejected wrong_cut) h = inl (refl, h)
  cut_is known q f t (rejected wrong_polynomial) h = inr (refl, (h.0, (h.1.0, h.1.1, h.1.2)))
  cut_is known q f t _ h = absurd h

  not_both : {A : Type 0} (known : List Var) (q : Summands) (f : Powers × ℤ) → IsWrongCut known q f → IsExactCut known q f → A
  not_both known q f (inl a) b = absurd (a b.0)
  not_both known q f (inr a) b = absurd (a b.1.0 b.1.1 b.1.2)

  cut_once : (known : List Var) (q : Summands) (f : Powers × ℤ) (t : Summands) (r s : Refusal) → IsCutRefused known q f t r → IsCutRefused known q f t s → r ≡ s
  cut_once known q f t r s h g = go (cut_is known q f t r h) (cut_is known q f t s g)
    where
      go : ((r ≡ rejected wrong_cut) × IsWrongCut known q f) ⊎ ((r ≡ rejected wrong_polynomial) × IsExactCut known q f)
          → ((s ≡ rejected wrong_cut) × IsWrongCut known q f) ⊎ ((s ≡ rejected wrong_polynomial) × IsExactCut known q f) → r ≡ s
      go (inl a) (inl b) = a.0 ∙ sym b.0
      go (inl a) (inr b) = not_both known q f a.1 b.1
      go (inr a) (inl b) = not_both known q f b.1 a.1
      go (inr a) (inr b) = a.0 ∙ sym b.0

  inner_once : (known : List Var) (left : ℕ) (q : Summands) (l : Line) (r s : Refusal)
      → IsInnerRefused lemma_table c known left q l r → IsInnerRefused lemma_table c known left q l s → r ≡ s
  inner_once known left q End r s h g = h.0 ∙ sym g.0
  inner_once known left q (Cut f t) r s h g = cut_once known q f t r s h g
  inner_once known left q (Header version) r s h g = moves_once left q (Header version) r s h g
  inner_once known left q (Program text) r s h g = moves_once left q (Program text) r s h g
  inner_once known left q (Condition k text) r s h g = moves_once left q (Condition k text) r s h g
  inner_once known left q (Goal k text) r s h g = moves_once left q (Goal k text) r s h g
  inner_once known left q (Start t) r s h g = moves_once left q (Start t) r s h g
  inner_once known left q (Ratio v lemma at t) r s h g = moves_once left q (Ratio v lemma at t) r s h g
  inner_once known left q (Point at t) r s h g = moves_once left q (Point at t) r s h g
  inner_once known left q (Coords t) r s h g = moves_once left q (Coords t) r s h g
  inner_once known left q (Sample values) r s h g = moves_once left q (Sample values) r s h g
  inner_once known left q (VerdictLine verdict) r s h g = moves_once left q (VerdictLine verdict) r s h g
  inner_once known left q (StopTooLarge n which) r s h g = moves_once left q (StopTooLarge n which) r s h g
  inner_once known left q (StopSpent n) r s h g = moves_once left q (StopSpent n) r s h g

  -- STARTS
  start_is : (left : ℕ) (e : Tree) (q : Summands) (r : Refusal) → IsRefusedAt lemma_table c (before_start left e) (Start q) r
      → ((stop : Stop) × (r ≡ stopped stop) × IsRefusedAt lemma_table c (before_start left e) (Start q) (stopped stop))
      ⊎ ((r ≡ rejected wrong_start) × IsRefusedAt lemma_table c (before_start left e) (Start q) (rejected wrong_start))
  start_is left e q (stopped stop) h = inl (stop, refl, h)
  start_is left e q (rejected wrong_start) h = inr (refl, h)
  start_is left e q _ h = absurd h

  start_once : (left : ℕ) (e : Tree) (q : Summands) (r s : Refusal)
      → IsRefusedAt lemma_table c (before_start left e) (Start q) r → IsRefusedAt lemma_table c (before_start left e) (Start q) s → r ≡ s
  start_once left e q r s h g = go (start_is left e q r h) (start_is left e q s g)
    where
      go : ((stop : Stop) × (r ≡ stopped stop) × IsRefusedAt lemma_table c (before_start left e) (Start q) (stopped stop))
          ⊎ ((r ≡ rejected wrong_start) × IsRefusedAt lemma_table c (before_start left e) (Start q) (rejected wrong_start))
          → ((stop : Stop) × (s ≡ stopped stop) × IsRefusedAt lemma_table c (before_start left e) (Start q) (stopped stop))
          ⊎ ((s ≡ rejected wrong_start) × IsRefusedAt lemma_table c (before_start left e) (Start q) (rejected wrong_start)) → r ≡ s
      go (inl a) (inl b) = a.1 ∙ ap (λ (x : Stop). stopped x) (one_start_stop left e a.0 b.0 a.2 b.2) ∙ sym b.1
      go (inl a) (inr b) = absurd (start_not_stopped left e a.0 b.1.0 a.2)
      go (inr a) (inl b) = absurd (start_not_stopped left e b.0 a.1.0 b.2)
      go (inr a) (inr b) = a.0 ∙ sym b.0

  -- SAMPLES
  abbrev IsWrongSample : List Summands → ℕ → List (Var × ℤ) → Type 0
  IsWrongSample listed left values = IsSampleRefused c listed left values (rejected wrong_sample)

  abbrev IsStoppedSample : List Summands → ℕ → List (Var × ℤ) → Refusal → Type 0
  IsStoppedSample listed left values r = (stop : Stop) × (r ≡ stopped stop) × IsSampleRefused c listed left values (stopped stop)

  sample_is : (listed : List Summands) (left : ℕ) (values : List (Var × ℤ)) (r : Refusal) → IsSampleRefused c listed left values r
      → ((r ≡ rejected wrong_sample) × IsWrongSample listed left values) ⊎ IsStoppedSample listed left values r
  sample_is listed left values (rejected wrong_sample) h = inl (refl, h)
  sample_is listed left values (stopped stop) h = inr (stop, refl, h)
  sample_is listed left values _ h = absurd h

  wrong_or_stopped : {A : Type 0} (listed : List Summands) (left : ℕ) (values : List (Var × ℤ)) (r : Refusal) → IsWrongSample listed left values → IsStoppedSample listed left values r → A
  wrong_or_stopped listed left values r (inl a) b = absurd (a b.2.0)
  wrong_or_stopped listed left values r (inr a) b = absurd (tries.made_not_stopped left (single_tries values listed) a.1.0 b.2.1.0 b.0 a.1.1 b.2.1.1)

  sample_once : (listed : List Summands) (left : ℕ) (values : List (Var × ℤ)) (r s : Refusal) → IsSampleRefused c listed left values r → IsSampleRefused c listed left values s → r ≡ s
  sample_once listed left values r s h g = go (sample_is listed left values r h) (sample_is listed left values s g)
    where
      go : ((r ≡ rejected wrong_sample) × IsWrongSample listed left values) ⊎ IsStoppedSample listed left values r
          → ((s ≡ rejected wrong_sample) × IsWrongSample listed left values) ⊎ IsStoppedSample listed left values s → r ≡ s
      go (inl a) (inl b) = a.0 ∙ sym b.0
      go (inl a) (inr b) = wrong_or_stopped listed left values s a.1 b
      go (inr a) (inl b) = wrong_or_stopped listed left values r b.1 a
      go (inr a) (inr b) = a.1 ∙ ap (λ (x : Stop). stopped x) (tries.one_stop left (single_tries values listed) a.2.1.0 b.2.1.0 a.0 b.0 a.2.1.1 b.2.1.1) ∙ sym b.1

  -- LINES
  at_start_once : (left : ℕ) (e : Tree) (l : Line) (r s : Refusal) → IsRefusedAt lemma_table c (before_start left e) l r → IsRefusedAt lemma_table c (before_start left e) l s → r ≡ s
  at_start_once left e (Start q) r s h g = start_once left e q r s h g
  at_start_once left e _ r s h g = absurd h

  at_sample_once : (listed : List Summands) (left : ℕ) (l : Line) (r s : Refusal)
      → IsRefusedAt lemma_table c (before_sample listed left) l r → IsRefusedAt lemma_table c (before_sample listed left) l s → r ≡ s
  at_sample_once listed left (Sample values) r s h g = sample_once listed left values r s h g
  at_sample_once listed left _ r s h g = absurd h

  at_once : (place : Place) (l : Line) (r s : Refusal) → IsRefusedAt lemma_table c place l r → IsRefusedAt lemma_table c place l s → r ≡ s
  at_once (before_line due) l r s h g = other_once due l r s h g
  at_once (before_start left e) l r s h g = at_start_once left e l r s h g
  at_once (in_chain known left q) l r s h g = inner_once known left q l r s h g
  at_once (before_sample listed left) l r s h g = at_sample_once listed left l r s h g

  -- what is read is refused for one reason
  pub refused_once : (place : Place) (read : Option Line) (r s : Refusal) → IsRefused lemma_table c place read r → IsRefused lemma_table c place read s → r ≡ s
  refused_once place None r s h g = h ∙ sym g
  refused_once place (Some l) r s (inl h) (inl g) = h.1 ∙ sym g.1
  refused_once place (Some l) r s (inl h) (inr g) = absurd (h.0 g.0)
  refused_once place (Some l) r s (inr h) (inl g) = absurd (g.0 h.0)
  refused_once place (Some l) r s (inr h) (inr g) = at_once place l r s h.1 g.1

pub after_once : (read : Option Line) (r s : Refusal) → IsAfterVerdict read r → IsAfterVerdict read s → r ≡ s
after_once None r s h g = h ∙ sym g
after_once (Some l) r s h g = h ∙ sym g
