-- No line of an accepted log is refused.
use Rattle.std.proofs.Common.{◌≡◌, ℕ, zero, suc, ◌⊎◌, inl, inr, ℤ, Option, Some, None, List, [], ◌∷◌, refl, sym, ◌∙◌, ap, subst}
use Rattle.std.specs.Prelude.{if◌then◌else◌}
use Rattle.std.specs.List.{filter_map}
use Rattle.std.specs.Option.{option_map}
use Rattle.geo_points.specs.declared.ids.PointId.{PointId}
use Rattle.geo_poly.specs.declared.variables.Var.{Var}
use Rattle.geo_poly.specs.declared.variables.Var.TheVariants.{R, S, P, X as Abscissa, Y as Ordinate, T as Number}
use Rattle.geo_poly.specs.Monomials.{Powers}
use Rattle.geo_poly.specs.Polynomials.{Summands}
use Rattle.geo_terms.specs.Constructions.{Construction}
use Rattle.geo_terms.specs.Trees.{Tree}
use Rattle.elim_ratio.specs.RatioTable.{ratio_table}
use Rattle.proof_log.specs.declared.log.Line.{Line}
use Rattle.proof_log.specs.declared.log.Line.TheVariants.{Start, Ratio as RatioLine, Point as PointLine, Coords as CoordsLine, Cut, End, Sample}
use Rattle.geo_logs.specs.declared.moves.Move.{Move}
use Rattle.geo_logs.specs.declared.moves.Move.TheVariants.{Ratio, Point, Coords}
use Rattle.geo_logs.specs.declared.moves.Replacement.{Replacement}
use Rattle.geo_poly.specs.Cuts.{IsCut}
use Rattle.geo_logs.specs.Starts.{IsStarted, start_of}
use Rattle.geo_logs.specs.Chains.{ChainStep, moves, cuts, IsEnd, LeadsTo, line_of}
use Rattle.geo_logs.specs.Judging.{IsRefused, IsRefusedAt, IsMoveRefused, IsCutRefused, IsOtherLine, IsSampleRefused, Refusal, kind_of}
use Rattle.geo_logs.specs.Judging.{rejected, stopped, no_row, wrong_polynomial, wrong_chain, wrong_verdict, wrong_start, wrong_cut}
use Rattle.geo_logs.specs.Judging.{wrong_sample, inner_kind}
use Rattle.elim_apply.specs.LemmaTable.{lemma_table, row_charge, row_denominator}
use Rattle.geo_poly.specs.PolynomialVariables.{variables_of}
use Rattle.fraction_poly.specs.Forms.{piece_of}
use Rattle.fraction_poly.specs.TableRows.{made_row}
use Rattle.geo_poly.specs.Variables.{var_cmp}
use Rattle.std.specs.Ordering.{is_eq}
use Rattle.geo_logs.specs.Moves.{IsMoved, place_of_lemma, replacement}
use Rattle.geo_logs.specs.Places.{Place, before_line, before_sample, before_start, in_chain}
use Rattle.geo_logs.specs.Samples.{IsAcceptedSample}
use Rattle.geo_logs.proofs.OneEnd.{made_not_stopped}
use Rattle.geo_logs.proofs.OneNext.{not_stopped, start_not_stopped}
use Rattle.geo_logs.proofs.OneStep.{one_cut}

-- MOVES WITH THE SAME LINE
-- lemma 0 does not look at the point
module _ (c : Construction) where
  blind_row : (w : Var) (at other : PointId) → ratio_table 0 c at w ≡ ratio_table 0 c other w
  blind_row (R a b d e) at other = refl
  blind_row (S a b d) at other = refl
  blind_row (P a b d) at other = refl
  blind_row (Abscissa a) at other = refl
  blind_row (Ordinate a) at other = refl
  blind_row (Number t) at other = refl

  blind : (v : Var) (at other : PointId) (q : Summands) → replacement lemma_table c (Ratio v 0 at) q ≡ replacement lemma_table c (Ratio v 0 other) q
  blind v at other q = λ i. record {
    rows = filter_map (λ w. option_map (λ r. (made_row w r).0) (if is_eq (var_cmp v w) then blind_row w at other i else None)) (variables_of q);
    den = piece_of (row_denominator (blind_row v at other i));
    charge = row_charge (blind_row v at other i);
  }

  -- two moves with one line replace the same, and have the same result
  abbrev pub AreOne : Summands → Move → Summands → Move → Summands → Type 0
  AreOne q m r n s = (replacement lemma_table c m q ≡ replacement lemma_table c n q) × (r ≡ s)

  ratio_one : (q : Summands) (v w : Var) (lemma other : ℕ) (at there : PointId) (r s : Summands)
      → RatioLine v lemma (place_of_lemma lemma at) r ≡ RatioLine w other (place_of_lemma other there) s → AreOne q (Ratio v lemma at) r (Ratio w other there) s
  ratio_one q v w zero zero at there r s e =
      let same : v ≡ w = cc in
      let result : r ≡ s = cc in
      (blind v at there q ∙ ap (λ u. replacement lemma_table c (Ratio u 0 there) q) same, result)
  ratio_one q v w zero (suc k) at there r s e = absurd (let n : 0 ≡ suc k = cc in cc)
  ratio_one q v w (suc k) zero at there r s e = absurd (let n : suc k ≡ 0 = cc in cc)
  ratio_one q v w (suc k) (suc j) at there r s e =
      let same : v ≡ w = cc in
      let number : suc k ≡ suc j = cc in
      let place : ◌≡◌ {A = Option PointId} (Some at) (Some there) = cc in
      let point : at ≡ there = cc in
      let result : r ≡ s = cc in
      ((λ i. replacement lemma_table c (Ratio (same i) (number i) (point i)) q), result)

  pub same_move : (q : Summands) (m n : Move) (r s : Summands) → line_of (moves m r) ≡ line_of (moves n s) → AreOne q m r n s
  same_move q (Ratio v lemma at) (Ratio w other there) r s e = ratio_one q v w lemma other at there r s e
  same_move q (Ratio v lemma at) (Point b) r s e = absurd (let n : RatioLine v lemma (place_of_lemma lemma at) r ≡ PointLine b s = e in cc)
  same_move q (Ratio v lemma at) Coords r s e = absurd (let n : RatioLine v lemma (place_of_lemma lemma at) r ≡ CoordsLine s = e in cc)
  same_move q (Point a) (Ratio w other there) r s e = absurd (let n : PointLine a r ≡ RatioLine w other (place_of_lemma other there) s = e in cc)
  same_move q (Point a) (Point b) r s e =
      let n : PointLine a r ≡ PointLine b s = e in
      let same : a ≡ b = cc in let result : r ≡ s = cc in (ap (λ y. replacement lemma_table c (Point y) q) same, result)
  same_move q (Point a) Coords r s e = absurd (let n : PointLine a r ≡ CoordsLine s = e in cc)
  same_move q Coords (Ratio w other there) r s e = absurd (let n : CoordsLine r ≡ RatioLine w other (place_of_lemma other there) s = e in cc)
  same_move q Coords (Point b) r s e = absurd (let n : CoordsLine r ≡ PointLine b s = e in cc)
  same_move q Coords Coords r s e = let n : CoordsLine r ≡ CoordsLine s = e in let result : r ≡ s = cc in (refl, result)

  -- a line of a step is no end, and a line of a move is no cut
  pub not_end : {A : Type 0} (x : ChainStep) → line_of x ≡ End → A
  not_end (moves (Ratio v lemma at) r) e = absurd (let n : RatioLine v lemma (place_of_lemma lemma at) r ≡ End = e in cc)
  not_end (moves (Point a) r) e = absurd (let n : PointLine a r ≡ End = e in cc)
  not_end (moves Coords r) e = absurd (let n : CoordsLine r ≡ End = e in cc)
  not_end (cuts f r) e = absurd (let n : Cut f r ≡ End = e in cc)

  pub not_cut : {A : Type 0} (m : Move) (r : Summands) (f : Powers × ℤ) (s : Summands) → line_of (moves m r) ≡ Cut f s → A
  not_cut (Ratio v lemma at) r f s e = absurd (let n : RatioLine v lemma (place_of_lemma lemma at) r ≡ Cut f s = e in cc)
  not_cut (Point a) r f s e = absurd (let n : PointLine a r ≡ Cut f s = e in cc)
  not_cut Coords r f s e = absurd (let n : CoordsLine r ≡ Cut f s = e in cc)

  -- WHAT FITS AT A PLACE
  abbrev pub Fits : Place → Line → Type 0
  Fits (before_line due) line = line ≡ due
  Fits (before_start left e) line = (line ≡ Start (start_of e)) × IsStarted left e
  Fits (in_chain known left q) line =
      ((step : ChainStep) × (left' : ℕ) × (r : Summands) × LeadsTo lemma_table c known left q (step ∷ []) left' r × (line ≡ line_of step)) ⊎ ((line ≡ End) × IsEnd q)
  Fits (before_sample listed left) line = (values : List (Var × ℤ)) × (left' : ℕ) × IsAcceptedSample c listed left values left' × (line ≡ Sample values)

  abbrev RefusedAt : Place → Line → Refusal → Type 0
  RefusedAt place line refusal = IsRefusedAt lemma_table c place line refusal

  move_fits : (left : ℕ) (q : Summands) (m n : Move) (r s : Summands) (refusal : Refusal) → IsMoved (replacement lemma_table c m q) left q r
      → AreOne q m r n s → IsMoveRefused lemma_table c left q n s refusal → ⊥
  move_fits left q m n r s (rejected no_row) h one bad = h.replaces (ap (λ (x : Replacement). x.rows) one.0 ∙ bad)
  move_fits left q m n r s (stopped stop) h one bad = not_stopped (replacement lemma_table c n q) left q r stop (subst (λ x. IsMoved x left q r) one.0 h) bad.1
  move_fits left q m n r s (rejected wrong_polynomial) h one bad = bad.2 (sym one.1 ∙ (subst (λ x. IsMoved x left q r) one.0 h).result)
  move_fits left q m n r s _ h one bad = absurd bad

  cut_fits : (known : List Var) (q : Summands) (f : Powers × ℤ) (r : Summands) (refusal : Refusal) → IsCut known f q r → IsCutRefused known q f r refusal → ⊥
  cut_fits known q f r (rejected wrong_cut) h (inl bad) = bad h.by_known
  cut_fits known q f r (rejected wrong_cut) h (inr bad) = bad r h.polynomial h.exact
  cut_fits known q f r (rejected wrong_polynomial) h bad =
      bad.1.3 (one_cut known f q r bad.1.0 h (record { factor = h.factor; by_known = bad.0; polynomial = bad.1.1; exact = bad.1.2 }))
  cut_fits known q f r _ h bad = absurd bad

  step_fits : (known : List Var) (left : ℕ) (q : Summands) (step : ChainStep) (left' : ℕ) (r : Summands) (refusal : Refusal) → LeadsTo lemma_table c known left q (step ∷ []) left' r
      → RefusedAt (in_chain known left q) (line_of step) refusal → ⊥
  step_fits known left q (moves (Ratio v lemma at) s) left' r refusal h (n, t, e, bad) = move_fits left q (Ratio v lemma at) n s t refusal h.0 (same_move q (Ratio v lemma at) n s t e) bad
  step_fits known left q (moves (Point a) s) left' r refusal h (n, t, e, bad) = move_fits left q (Point a) n s t refusal h.0 (same_move q (Point a) n s t e) bad
  step_fits known left q (moves Coords s) left' r refusal h (n, t, e, bad) = move_fits left q Coords n s t refusal h.0 (same_move q Coords n s t e) bad
  step_fits known left q (cuts f s) left' r refusal h bad = cut_fits known q f s refusal h.0 bad

  due_fits : (due : Line) (refusal : Refusal) → IsOtherLine due due refusal → ⊥
  due_fits due (rejected wrong_chain) bad = bad.1 refl
  due_fits due (rejected wrong_verdict) bad = bad.1 refl
  due_fits due _ bad = absurd bad

  start_fits : (left : ℕ) (e : Tree) (refusal : Refusal) → IsStarted left e → RefusedAt (before_start left e) (Start (start_of e)) refusal → ⊥
  start_fits left e (stopped stop) h bad = start_not_stopped left e stop h bad
  start_fits left e (rejected wrong_start) h bad = bad.1 refl
  start_fits left e _ h bad = absurd bad

  sample_fits : (listed : List Summands) (left : ℕ) (values : List (Var × ℤ)) (left' : ℕ) (refusal : Refusal)
      → IsAcceptedSample c listed left values left' → IsSampleRefused c listed left values refusal → ⊥
  sample_fits listed left values left' (rejected wrong_sample) h (inl bad) = bad h.variables
  sample_fits listed left values left' (rejected wrong_sample) h (inr bad) = bad.2 h.nonzero
  sample_fits listed left values left' (stopped stop) h bad = made_not_stopped left _ left' bad.1.0 stop h.made bad.1.1
  sample_fits listed left values left' _ h bad = absurd bad

  kind_fits : (step : ChainStep) → kind_of (line_of step) ≡ inner_kind
  kind_fits (moves (Ratio v lemma at) r) = refl
  kind_fits (moves (Point a) r) = refl
  kind_fits (moves Coords r) = refl
  kind_fits (cuts f r) = refl

  -- what fits is not refused
  pub not_refused : (place : Place) (line : Line) (refusal : Refusal) → Fits place line → IsRefused lemma_table c place (Some line) refusal → ⊥
  not_refused (before_line due) line refusal f (inl bad) = bad.0 (ap kind_of f)
  not_refused (before_line due) line refusal f (inr bad) = due_fits due refusal (subst (λ l. IsOtherLine due l refusal) f bad.1)
  not_refused (before_start left e) line refusal f (inl bad) = bad.0 (ap kind_of f.0)
  not_refused (before_start left e) line refusal f (inr bad) = start_fits left e refusal f.1 (subst (λ l. RefusedAt (before_start left e) l refusal) f.0 bad.1)
  not_refused (in_chain known left q) line refusal (inl f) (inl bad) = bad.0 (ap kind_of f.4 ∙ kind_fits f.0)
  not_refused (in_chain known left q) line refusal (inl f) (inr bad) =
      step_fits known left q f.0 f.1 f.2 refusal f.3 (subst (λ l. RefusedAt (in_chain known left q) l refusal) f.4 bad.1)
  not_refused (in_chain known left q) line refusal (inr f) (inl bad) = bad.0 (ap kind_of f.0)
  not_refused (in_chain known left q) line refusal (inr f) (inr bad) = (subst (λ l. RefusedAt (in_chain known left q) l refusal) f.0 bad.1).1 f.1
  not_refused (before_sample listed left) line refusal f (inl bad) = bad.0 (ap kind_of f.3)
  not_refused (before_sample listed left) line refusal f (inr bad) =
      sample_fits listed left f.0 f.1 refusal f.2 (subst (λ l. RefusedAt (before_sample listed left) l refusal) f.3 bad.1)
