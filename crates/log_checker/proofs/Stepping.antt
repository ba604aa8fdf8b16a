-- A line that is read at a place of a good beginning fits there, or it is refused.
use Rattle.std.proofs.Common.{◌≡◌, ◌≢◌, ℕ, zero, suc, ◌-◌, ◌^◌, ◌<◌, ◌==◌, ◌⊎◌, inl, inr, ⊎_elim, All, true, false, ℤ, Option, Some, None}
use Rattle.std.proofs.Common.{List, [], ◌∷◌, ◌++◌, map, length, unsigned_abs, refl, sym, ap, subst, arith}
use Rattle.std.proofs.lemmas.Bool.Decides.{nat_tests}
use Rattle.std.proofs.lemmas.List.Elements.{All-cons, All-nil}
use Rattle.geo_points.specs.declared.ids.PointId.{PointId}
use Rattle.geo_poly.specs.declared.variables.Var.{Var}
use Rattle.geo_poly.specs.Cuts.{IsCut}
use Rattle.geo_poly.specs.Monomials.{Powers}
use Rattle.geo_poly.specs.Polynomials.{IsPolynomial, Summands, product_of}
use Rattle.geo_poly.specs.Replace.{replaced_by}
use Rattle.geo_poly.specs.Specialise.{NoneZero}
use Rattle.geo_sample.specs.Samples.{specialised_by}
use Rattle.geo_sample.specs.Tries.{single_tries}
use Rattle.geo_terms.specs.Constructions.{Construction, IsConstruction}
use Rattle.geo_terms.specs.Trees.{Tree}
use Rattle.proof_log.specs.declared.log.Line.{Line}
use Rattle.proof_log.specs.declared.log.Line.TheVariants.{Condition, Goal, Start, Ratio as RatioLine, Point as PointLine, Coords as CoordsLine, Cut, End, Sample, Verdict as VerdictLine}
use Rattle.proof_log.specs.declared.log.Verdict.{Verdict}
use Rattle.proof_log.specs.declared.log.Verdict.TheVariants.{Proved, False, Impossible}
use Rattle.proof_log.specs.Writable.{CanWriteLemma, CanWriteValues, IsWritable}
use Rattle.elim_apply.specs.LemmaTable.{lemma_table}
use Rattle.geo_logs.specs.declared.moves.Move.{Move}
use Rattle.geo_logs.specs.declared.moves.Move.TheVariants.{Ratio, Point, Coords}
use Rattle.geo_logs.specs.declared.moves.Replacement.{Replacement}
use Rattle.geo_logs.specs.Chains.{Chain, ChainStep, IsAcceptedChain, IsEnd, LeadsTo, cuts, line_of, moves}
use Rattle.geo_logs.specs.Ends.{IsAfterHeader, Next, comes, stops}
use Rattle.geo_logs.specs.Judging.{IsByKnown, IsGoodSoFar, IsMoveRefused, IsRefused, IsRefusedAt, Kind, Refusal, chain_kind, header_kind}
use Rattle.geo_logs.specs.Judging.{inner_kind, kind_at, kind_of, no_row, not_ended, program_kind, rejected, sample_kind, start_kind}
use Rattle.geo_logs.specs.Judging.{stop_kind, stopped, verdict_kind, wrong_chain, wrong_cut, wrong_line, wrong_polynomial, wrong_sample}
use Rattle.geo_logs.specs.Judging.{wrong_start, wrong_verdict}
use Rattle.geo_logs.specs.Logs.{Subject}
use Rattle.geo_logs.specs.Moves.{IsMoveStopped, IsMoved, Stop, move_charge, replacement}
use Rattle.geo_logs.specs.Places.{Place, before_line, before_sample, before_start, in_chain}
use Rattle.geo_logs.specs.Samples.{IsAcceptedSample, sample_variables}
use Rattle.geo_logs.specs.Starts.{IsStarted, IsStartStopped, start_of}
use Rattle.geo_logs.proofs.OneNext.{not_stopped}
use Rattle.log_checker.specs.Judged.{GoesOnWith, LinesGoOnOrAreRefused}
use Rattle.log_checker.proofs.Deciding.{Decided, both_decided, decided_by, division_decided, end_decided, known_decided, lists_decided}
use Rattle.log_checker.proofs.Deciding.{none_decided, nonzero_decided, numbers_decided, polynomials_decided, texts_decided}
use Rattle.log_checker.proofs.Deciding.{variables_decided}
use Rattle.log_checker.proofs.NextStops.{TriesEnd, moved_or_stopped, start_next, tries_end}
use Rattle.log_checker.proofs.Onwards.{AreClosed, Comes, conditions_on}
use Rattle.log_checker.proofs.Refusals.{Fits}
use Rattle.log_checker.proofs.Standing.{IsGood, any_accepted, construction_of, place_good}

-- KINDS
abbrev kind_number : Kind → ℕ
kind_number header_kind = 0
kind_number program_kind = 1
kind_number chain_kind = 2
kind_number start_kind = 3
kind_number inner_kind = 4
kind_number sample_kind = 5
kind_number verdict_kind = 6
kind_number stop_kind = 7

-- kinds with other numbers are others
other_kind : (a b : Kind) → (kind_number a == kind_number b) ≡ false → a ≢ b
other_kind a b e same = let q : (kind_number a == kind_number a) ≡ false = subst (λ k. (kind_number a == kind_number k) ≡ false) (sym same) e in go (kind_number a) q
  where
    go : (n : ℕ) → (n == n) ≡ false → ⊥
    go n q = grind (arith, nat_tests)

-- a text, whichever it is
abbrev AnyText : List ℕ → Type 0
AnyText text = Unit {0}

module _ (c : Construction) where
  -- the line fits at the place, or it is refused there
  abbrev FitsOrIsRefused : Place → Line → Type 0
  FitsOrIsRefused place line = Fits c place line ⊎ ((refusal : Refusal) × IsRefused lemma_table c place (Some line) refusal)

  -- it is of another kind
  of_other_kind : (place : Place) (line : Line) → (kind_number (kind_of line) == kind_number (kind_at place)) ≡ false → FitsOrIsRefused place line
  of_other_kind place line e = inr (rejected wrong_line, inl (other_kind (kind_of line) (kind_at place) e, refl))

  -- it is of the right kind, but wrong
  of_this_kind : (place : Place) (line : Line) (refusal : Refusal) → kind_of line ≡ kind_at place → IsRefusedAt lemma_table c place line refusal → FitsOrIsRefused place line
  of_this_kind place line refusal e h = inr (refusal, inr (e, h))

  -- THE VERY LINE
  head_decided : (k j : ℕ) (s t : List ℕ) → Decided ((k ≡ j) × (s ≡ t))
  head_decided k j s t = both_decided (numbers_decided k j) (texts_decided s t)

  at_condition : (k : ℕ) (text : List ℕ) (line : Line) → FitsOrIsRefused (before_line (Condition k text)) line
  at_condition k text (Condition j other) = go (head_decided j k other text)
    where
      go : Decided ((j ≡ k) × (other ≡ text)) → FitsOrIsRefused (before_line (Condition k text)) (Condition j other)
      go (inl h) = inl (λ i. Condition (h.0 i) (h.1 i))
      go (inr n) =
          of_this_kind (before_line (Condition k text)) (Condition j other) (rejected wrong_chain) refl
          (refl, (λ (e : Condition j other ≡ Condition k text). n ((let number : j ≡ k = cc in number), (let texts : other ≡ text = cc in texts))))
  at_condition k text (Goal j other) =
      of_this_kind (before_line (Condition k text)) (Goal j other) (rejected wrong_chain) refl (refl, (λ (e : Goal j other ≡ Condition k text). cc))
  at_condition k text line = of_other_kind (before_line (Condition k text)) line refl

  at_goal : (k : ℕ) (text : List ℕ) (line : Line) → FitsOrIsRefused (before_line (Goal k text)) line
  at_goal k text (Goal j other) = go (head_decided j k other text)
    where
      go : Decided ((j ≡ k) × (other ≡ text)) → FitsOrIsRefused (before_line (Goal k text)) (Goal j other)
      go (inl h) = inl (λ i. Goal (h.0 i) (h.1 i))
      go (inr n) =
          of_this_kind (before_line (Goal k text)) (Goal j other) (rejected wrong_chain) refl
          (refl, (λ (e : Goal j other ≡ Goal k text). n ((let number : j ≡ k = cc in number), (let texts : other ≡ text = cc in texts))))
  at_goal k text (Condition j other) =
      of_this_kind (before_line (Goal k text)) (Condition j other) (rejected wrong_chain) refl (refl, (λ (e : Condition j other ≡ Goal k text). cc))
  at_goal k text line = of_other_kind (before_line (Goal k text)) line refl

  verdicts_decided : (v w : Verdict) → Decided (v ≡ w)
  verdicts_decided Proved Proved = inl refl
  verdicts_decided Proved (False g) = inr (λ (e : Proved ≡ False g). cc)
  verdicts_decided Proved (Impossible k) = inr (λ (e : Proved ≡ Impossible k). cc)
  verdicts_decided (False g) Proved = inr (λ (e : False g ≡ Proved). cc)
  verdicts_decided (False g) (False h) = decided_by (λ (e : g ≡ h). ap False e) (λ (e : False g ≡ False h). cc) (numbers_decided g h)
  verdicts_decided (False g) (Impossible k) = inr (λ (e : False g ≡ Impossible k). cc)
  verdicts_decided (Impossible k) Proved = inr (λ (e : Impossible k ≡ Proved). cc)
  verdicts_decided (Impossible k) (False g) = inr (λ (e : Impossible k ≡ False g). cc)
  verdicts_decided (Impossible k) (Impossible j) = decided_by (λ (e : k ≡ j). ap Impossible e) (λ (e : Impossible k ≡ Impossible j). cc) (numbers_decided k j)

  at_verdict : (v : Verdict) (line : Line) → FitsOrIsRefused (before_line (VerdictLine v)) line
  at_verdict v (VerdictLine w) = go (verdicts_decided w v)
    where
      go : Decided (w ≡ v) → FitsOrIsRefused (before_line (VerdictLine v)) (VerdictLine w)
      go (inl e) = inl (ap VerdictLine e)
      go (inr n) = of_this_kind (before_line (VerdictLine v)) (VerdictLine w) (rejected wrong_verdict) refl (refl, (λ (e : VerdictLine w ≡ VerdictLine v). n (let same : w ≡ v = cc in same)))
  at_verdict v line = of_other_kind (before_line (VerdictLine v)) line refl

  -- THE START
  started_or_stopped : (left : ℕ) (e : Tree) → IsStarted left e ⊎ ((stop : Stop) × IsStartStopped left e stop)
  started_or_stopped left e = let found = start_next left e in go found.0 found.1
    where
      go : (next : Next) → IsAfterHeader left e next → IsStarted left e ⊎ ((stop : Stop) × IsStartStopped left e stop)
      go (comes line) h = inl h.1
      go (stops stop) h = inr (stop, h)

  at_start : (left : ℕ) (e : Tree) (line : Line) → FitsOrIsRefused (before_start left e) line
  at_start left e (Start q) = go (started_or_stopped left e) (polynomials_decided q (start_of e))
    where
      go : IsStarted left e ⊎ ((stop : Stop) × IsStartStopped left e stop) → Decided (q ≡ start_of e) → FitsOrIsRefused (before_start left e) (Start q)
      go (inr h) d = of_this_kind (before_start left e) (Start q) (stopped h.0) refl h.1
      go (inl h) (inl same) = inl (ap Start same, h)
      go (inl h) (inr n) = of_this_kind (before_start left e) (Start q) (rejected wrong_start) refl (h, n)
  at_start left e line = of_other_kind (before_start left e) line refl

  -- THE SAMPLE
  values_fit : (values : List (Var × ℤ)) → CanWriteValues values → All (λ (v : Var × ℤ). unsigned_abs v.1 < 2 ^ 127) values
  values_fit [] h = All-nil (λ (v : Var × ℤ). unsigned_abs v.1 < 2 ^ 127)
  values_fit (v ∷ vs) h = All-cons (λ (v : Var × ℤ). unsigned_abs v.1 < 2 ^ 127) v vs h.0.fits (values_fit vs h.1)

  at_sample : (listed : List Summands) (left : ℕ) (line : Line) → IsWritable line → FitsOrIsRefused (before_sample listed left) line
  at_sample listed left (Sample values) w =
      go (lists_decided variables_decided (map (λ (v : Var × ℤ). v.0) values) (sample_variables c)) (tries_end (single_tries values listed) left) (nonzero_decided (specialised_by values listed))
    where
      go : Decided (map (λ (v : Var × ℤ). v.0) values ≡ sample_variables c) → TriesEnd left (single_tries values listed) → Decided (NoneZero (specialised_by values listed))
          → FitsOrIsRefused (before_sample listed left) (Sample values)
      go (inr n) t d = of_this_kind (before_sample listed left) (Sample values) (rejected wrong_sample) refl (inl n)
      go (inl e) (inr t) d = of_this_kind (before_sample listed left) (Sample values) (stopped t.0) refl (e, (t.1, t.2))
      go (inl e) (inl t) (inl h) = inl (values, t.0, record { variables = e; fits = values_fit values w; made = t.1; nonzero = h }, refl)
      go (inl e) (inl t) (inr n) = of_this_kind (before_sample listed left) (Sample values) (rejected wrong_sample) refl (inr (e, (t.0, t.1), n))
  at_sample listed left line w = of_other_kind (before_sample listed left) line refl

  -- INSIDE A CHAIN
  module _ (known : List Var) (left : ℕ) (q : Summands) where
    -- a move: its line fits, or it is refused
    abbrev MoveFitsOrIsRefused : Move → Summands → Type 0
    MoveFitsOrIsRefused move r =
        (LeadsTo lemma_table c known left q (moves move r ∷ []) (left - move_charge (replacement lemma_table c move q) q) r)
        ⊎ ((refusal : Refusal) × IsMoveRefused lemma_table c left q move r refusal)

    abbrev made_by : Move → Replacement
    made_by move = replacement lemma_table c move q

    of_move : (move : Move) (r : Summands) → MoveFitsOrIsRefused move r
    of_move move r = rowless (none_decided (made_by move).rows)
      where
        moved : (made_by move).rows ≢ [] → IsMoved (made_by move) left q (replaced_by (made_by move).rows (made_by move).den.poly q)
            → Decided (r ≡ replaced_by (made_by move).rows (made_by move).den.poly q) → MoveFitsOrIsRefused move r
        moved some h (inl e) = inl (subst (IsMoved (made_by move) left q) (sym e) h, (refl, refl))
        moved some h (inr n) =
            inr (rejected wrong_polynomial, (some, (λ stop bad. not_stopped (made_by move) left q (replaced_by (made_by move).rows (made_by move).den.poly q) stop h bad), n))

        paid : (made_by move).rows ≢ [] → IsMoved (made_by move) left q (replaced_by (made_by move).rows (made_by move).den.poly q)
            ⊎ ((stop : Stop) × IsMoveStopped (made_by move) left q stop) → MoveFitsOrIsRefused move r
        paid some (inl h) = moved some h (polynomials_decided r (replaced_by (made_by move).rows (made_by move).den.poly q))
        paid some (inr h) = inr (stopped h.0, (some, h.1))

        rowless : Decided ((made_by move).rows ≡ []) → MoveFitsOrIsRefused move r
        rowless (inl e) = inr (rejected no_row, e)
        rowless (inr some) = paid some (moved_or_stopped (made_by move) left q some)

    abbrev here : Place
    here = in_chain known left q

    of_ratio : (v : Var) (lemma : ℕ) (at : PointId) (r : Summands) → MoveFitsOrIsRefused (Ratio v lemma at) r → FitsOrIsRefused here (line_of (moves (Ratio v lemma at) r))
    of_ratio v lemma at r (inl h) = inl (inl (moves (Ratio v lemma at) r, left - move_charge (replacement lemma_table c (Ratio v lemma at) q) q, r, h, refl))
    of_ratio v lemma at r (inr h) = of_this_kind here (line_of (moves (Ratio v lemma at) r)) h.0 refl (Ratio v lemma at, r, refl, h.1)

    -- the point of a ratio's line stands there exactly where the lemma looks at one
    ratio_line : (v : Var) (lemma : ℕ) (at : Option PointId) (r : Summands) → CanWriteLemma lemma at → FitsOrIsRefused here (RatioLine v lemma at r)
    ratio_line v zero None r w = of_ratio v 0 (record { 0 = 0 }) r (of_move (Ratio v 0 (record { 0 = 0 })) r)
    ratio_line v zero (Some y) r w = absurd (let e : true ≡ false = w.no_point.1 refl in cc)
    ratio_line v (suc k) None r w = absurd (let n : suc k ≡ 0 = w.no_point.0 refl in omega (arith, n))
    ratio_line v (suc k) (Some y) r w = of_ratio v (suc k) y r (of_move (Ratio v (suc k) y) r)

    point_line : (at : PointId) (r : Summands) → MoveFitsOrIsRefused (Point at) r → FitsOrIsRefused here (PointLine at r)
    point_line at r (inl h) = inl (inl (moves (Point at) r, left - move_charge (replacement lemma_table c (Point at) q) q, r, h, refl))
    point_line at r (inr h) = of_this_kind here (PointLine at r) h.0 refl (Point at, r, refl, h.1)

    coords_line : (r : Summands) → MoveFitsOrIsRefused Coords r → FitsOrIsRefused here (CoordsLine r)
    coords_line r (inl h) = inl (inl (moves Coords r, left - move_charge (replacement lemma_table c Coords q) q, r, h, refl))
    coords_line r (inr h) = of_this_kind here (CoordsLine r) h.0 refl (Coords, r, refl, h.1)

    cut_line : (f : Powers × ℤ) (r : Summands) → IsPolynomial q → IsWritable (Cut f r) → FitsOrIsRefused here (Cut f r)
    cut_line f r valid w = go (known_decided known f.0) (division_decided f q w.0.factor valid)
      where
        exact : IsByKnown known f.0 → (s : Summands) → IsPolynomial s → product_of (f ∷ []) s ≡ q → Decided (r ≡ s) → FitsOrIsRefused here (Cut f r)
        exact k s p e (inl same) =
            let cut : IsCut known f q s = record { factor = w.0.factor; by_known = k; polynomial = p; exact = e } in
            inl (inl (cuts f r, left, r, (subst (IsCut known f q) (sym same) cut, (refl, refl)), refl))
        exact k s p e (inr n) = of_this_kind here (Cut f r) (rejected wrong_polynomial) refl (k, (s, p, e, n))

        go : Decided (IsByKnown known f.0) → ((s : Summands) × IsPolynomial s × (product_of (f ∷ []) s ≡ q)) ⊎ ((s : Summands) → IsPolynomial s → product_of (f ∷ []) s ≢ q)
            → FitsOrIsRefused here (Cut f r)
        go (inr n) d = of_this_kind here (Cut f r) (rejected wrong_cut) refl (inl n)
        go (inl k) (inr none) = of_this_kind here (Cut f r) (rejected wrong_cut) refl (inr none)
        go (inl k) (inl s) = exact k s.0 s.1 s.2 (polynomials_decided r s.0)

    end_line : Decided (IsEnd q) → FitsOrIsRefused here End
    end_line (inl e) = inl (inr (refl, e))
    end_line (inr n) = of_this_kind here End (rejected not_ended) refl (refl, n)

    at_inner : (line : Line) → IsPolynomial q → IsWritable line → FitsOrIsRefused here line
    at_inner (RatioLine v lemma at r) valid w = ratio_line v lemma at r w.2
    at_inner (PointLine at r) valid w = point_line at r (of_move (Point at) r)
    at_inner (CoordsLine r) valid w = coords_line r (of_move Coords r)
    at_inner (Cut f r) valid w = cut_line f r valid w
    at_inner End valid w = end_line (end_decided q)
    at_inner line valid w = of_other_kind here line refl

  -- PLACES
  module _ (valid : IsConstruction c) (steps n : ℕ) where
    at_due : (due line : Line) → IsGood c valid AnyText steps n (before_line due) → FitsOrIsRefused (before_line due) line
    at_due (Condition k text) line h = at_condition k text line
    at_due (Goal k text) line h = at_goal k text line
    at_due (VerdictLine v) line h = at_verdict v line
    at_due due line h = absurd h

    pub fits_or_is_refused : (place : Place) (line : Line) → IsGood c valid AnyText steps n place → IsWritable line → FitsOrIsRefused place line
    fits_or_is_refused (before_line due) line h w = at_due due line h
    fits_or_is_refused (before_start left e) line h w = at_start left e line
    fits_or_is_refused (in_chain known left q) line h w = at_inner known left q line h.0.polynomial w
    fits_or_is_refused (before_sample listed left) line h w = at_sample listed left line w

-- GOING ON
module _ (c : Construction) where
  abbrev Leads : List Var → ℕ → Summands → List ChainStep → ℕ → Summands → Type 0
  Leads = LeadsTo lemma_table c

  abbrev Works : List Var → ℕ → Tree → Chain → ℕ → Type 0
  Works = IsAcceptedChain lemma_table c

  abbrev pub Ends : List Var → Summands → Type 0
  Ends known q = IsEnd q

  one_more : (known : List Var) (left : ℕ) (q : Summands) (steps : List ChainStep) (after : ℕ) (last : Summands) (step : ChainStep) (left' : ℕ) (r : Summands)
      → Leads known left q steps after last → Leads known after last (step ∷ []) left' r → Leads known left q (steps ++ step ∷ []) left' r
  one_more known left q [] after last step left' r h g =
      subst (λ k. Leads known k q (step ∷ []) left' r) (sym h.0) (subst (λ t. Leads known after t (step ∷ []) left' r) (sym h.1) g)
  one_more known left q (moves m s ∷ steps) after last step left' r h g =
      (h.0, one_more known (left - move_charge (replacement lemma_table c m q) q) s steps after last step left' r h.1 g)
  one_more known left q (cuts f s ∷ steps) after last step left' r h g = (h.0, one_more known left s steps after last step left' r h.1 g)

  pub closed : AreClosed Leads Works Ends
  closed = record {
    none = λ known left q. (refl, refl);
    more = one_more;
    whole = λ known left e steps after last s h end. record { started = s; leads = h; ended = end };
  }

  comes_here : (place : Place) (line : Line) → Fits c place line → Comes Leads Works (IsAcceptedSample c) Ends place line
  comes_here (before_line due) line h = h
  comes_here (before_start left e) line h = h
  comes_here (in_chain known left q) line h = h
  comes_here (before_sample listed left) line h = h

-- good lines go on with a line that fits
pub fitting_goes_on : (subject : Subject) (steps : ℕ) (good : List Line) (place : Place) (line : Line) → IsGoodSoFar lemma_table subject steps good place → Fits subject.construction place line
    → GoesOnWith subject steps good line
fitting_goes_on subject steps good place line h fits =
    let c = subject.construction in
    conditions_on (LeadsTo lemma_table c) (IsAcceptedChain lemma_table c) (IsAcceptedSample c) (Ends c) (closed c) subject.goals [] [] 1 steps subject.conditions good place line h
    (comes_here c place line fits)

pub lines_go_on_or_are_refused : LinesGoOnOrAreRefused
lines_go_on_or_are_refused p subject steps good place line w s h writable =
    let c = subject.construction in
    let known = place_good p subject w s AnyText steps (LeadsTo lemma_table c) (IsAcceptedChain lemma_table c) (IsAcceptedSample c) (any_accepted c) (λ i item at. tt) (λ i item at. tt) good place h in
    ⊎_elim (λ (fits : Fits c place line). inl (fitting_goes_on subject steps good place line h fits))
    (λ (bad : (refusal : Refusal) × IsRefused lemma_table c place (Some line) refusal). inr bad)
    (fits_or_is_refused c (construction_of p subject w s AnyText steps) steps (suc (length good)) place line known writable)
