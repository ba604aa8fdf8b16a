-- Subjects with the same items over constructions with the same steps have the same refusals.
use Rattle.std.proofs.Common.{◌≡◌, ◌≢◌, ℕ, inl, inr, ℤ, Option, Some, None, List, [], sym, ◌∙◌, subst}
use Rattle.geo_poly.specs.declared.variables.Var.{Var}
use Rattle.geo_poly.specs.Polynomials.{Summands}
use Rattle.geo_poly.specs.Replace.{replaced_by}
use Rattle.geo_terms.specs.Constructions.{Construction}
use Rattle.geo_terms.specs.Trees.{Tree}
use Rattle.proof_log.specs.declared.log.Line.{Line}
use Rattle.proof_log.specs.declared.log.Line.TheVariants.{Header, Program, Condition, Goal, Start, Ratio, Point, Coords, Cut, End, Sample, Verdict as VerdictLine, StopTooLarge, StopSpent}
use Rattle.geo_logs.specs.declared.moves.Move.{Move}
use Rattle.geo_logs.specs.declared.moves.Replacement.{Replacement}
use Rattle.elim_apply.specs.LemmaTable.{lemma_table}
use Rattle.geo_logs.specs.Moves.{IsMoveStopped, Stop}
use Rattle.geo_logs.specs.Chains.{IsAcceptedChain, LeadsTo, line_of, moves}
use Rattle.geo_logs.specs.Judging.{IsFirstRefusal, IsGoodSoFar, IsGoodToEnd, IsInnerRefused, IsMoveRefused, IsRefused, IsRefusedAt}
use Rattle.geo_logs.specs.Judging.{IsSampleRefused, Refusal, no_row, rejected, stopped, wrong_polynomial, wrong_sample, wrong_start}
use Rattle.geo_logs.specs.Logs.{Subject}
use Rattle.geo_logs.specs.Places.{Place, before_line, before_sample, before_start, in_chain}
use Rattle.geo_logs.specs.Samples.{IsAcceptedSample}
use Rattle.log_checker.proofs.AlikeLogs.{AlikeSubjects, begun_alike, chain_alike, leads_alike, over, same_over, sample_alike, worked_alike}
use Rattle.log_checker.proofs.AlikeSteps.{AlikeConstructions, replacement_same, variables_same}

module _ (c d : Construction) (h : AlikeConstructions c d) where
  move_alike : (left : ℕ) (q : Summands) (m : Move) (t : Summands) (r : Refusal) → IsMoveRefused lemma_table c left q m t r → IsMoveRefused lemma_table d left q m t r
  move_alike left q m t (rejected no_row) a = subst (λ (x : Replacement). x.rows ≡ []) (replacement_same c d h m q) a
  move_alike left q m t (stopped stop) a = subst (λ (x : Replacement). (x.rows ≢ []) × IsMoveStopped x left q stop) (replacement_same c d h m q) a
  move_alike left q m t (rejected wrong_polynomial) a =
      subst (λ (x : Replacement). (x.rows ≢ []) × ((stop : Stop) → IsMoveStopped x left q stop → ⊥) × (t ≢ replaced_by x.rows x.den.poly q)) (replacement_same c d h m q) a
  move_alike left q m t _ a = absurd a

  abbrev HasMove : Construction → ℕ → Summands → Line → Refusal → Type 0
  HasMove e left q l r = (move : Move) × (t : Summands) × (l ≡ line_of (moves move t)) × IsMoveRefused lemma_table e left q move t r

  moves_alike : (left : ℕ) (q : Summands) (l : Line) (r : Refusal) → HasMove c left q l r → HasMove d left q l r
  moves_alike left q l r (m, t, e, a) = (m, t, e, move_alike left q m t r a)

  inner_alike : (known : List Var) (left : ℕ) (q : Summands) (l : Line) (r : Refusal) → IsInnerRefused lemma_table c known left q l r → IsInnerRefused lemma_table d known left q l r
  inner_alike known left q End r a = a
  inner_alike known left q (Cut f t) r a = a
  inner_alike known left q (Header version) r a = moves_alike left q (Header version) r a
  inner_alike known left q (Program text) r a = moves_alike left q (Program text) r a
  inner_alike known left q (Condition k text) r a = moves_alike left q (Condition k text) r a
  inner_alike known left q (Goal k text) r a = moves_alike left q (Goal k text) r a
  inner_alike known left q (Start t) r a = moves_alike left q (Start t) r a
  inner_alike known left q (Ratio v lemma at t) r a = moves_alike left q (Ratio v lemma at t) r a
  inner_alike known left q (Point at t) r a = moves_alike left q (Point at t) r a
  inner_alike known left q (Coords t) r a = moves_alike left q (Coords t) r a
  inner_alike known left q (Sample values) r a = moves_alike left q (Sample values) r a
  inner_alike known left q (VerdictLine verdict) r a = moves_alike left q (VerdictLine verdict) r a
  inner_alike known left q (StopTooLarge n which) r a = moves_alike left q (StopTooLarge n which) r a
  inner_alike known left q (StopSpent n) r a = moves_alike left q (StopSpent n) r a

  sample_refused_alike : (listed : List Summands) (left : ℕ) (values : List (Var × ℤ)) (r : Refusal) → IsSampleRefused c listed left values r → IsSampleRefused d listed left values r
  sample_refused_alike listed left values (rejected wrong_sample) (inl a) = inl (λ e. a (e ∙ sym (variables_same c d h)))
  sample_refused_alike listed left values (rejected wrong_sample) (inr a) = inr (a.0 ∙ variables_same c d h, a.1, a.2)
  sample_refused_alike listed left values (stopped stop) a = (a.0 ∙ variables_same c d h, a.1)
  sample_refused_alike listed left values _ a = absurd a

  start_refused_alike : (left : ℕ) (e : Tree) (l : Line) (r : Refusal) → IsRefusedAt lemma_table c (before_start left e) l r → IsRefusedAt lemma_table d (before_start left e) l r
  start_refused_alike left e (Start q) (stopped stop) a = a
  start_refused_alike left e (Start q) (rejected wrong_start) a = a
  start_refused_alike left e _ _ a = absurd a

  at_sample_alike : (listed : List Summands) (left : ℕ) (l : Line) (r : Refusal) → IsRefusedAt lemma_table c (before_sample listed left) l r → IsRefusedAt lemma_table d (before_sample listed left) l r
  at_sample_alike listed left (Sample values) r a = sample_refused_alike listed left values r a
  at_sample_alike listed left _ r a = absurd a

  at_alike : (place : Place) (l : Line) (r : Refusal) → IsRefusedAt lemma_table c place l r → IsRefusedAt lemma_table d place l r
  at_alike (before_line due) l r a = a
  at_alike (before_start left e) l r a = start_refused_alike left e l r a
  at_alike (in_chain known left q) l r a = inner_alike known left q l r a
  at_alike (before_sample listed left) l r a = at_sample_alike listed left l r a

  refused_alike : (place : Place) (read : Option Line) (r : Refusal) → IsRefused lemma_table c place read r → IsRefused lemma_table d place read r
  refused_alike place None r a = a
  refused_alike place (Some l) r (inl a) = inl a
  refused_alike place (Some l) r (inr a) = inr (a.0, at_alike place l r a.1)

module _ (s t : Subject) (h : AlikeSubjects s t) (steps : ℕ) where
  abbrev c : Construction
  c = s.construction

  abbrev d : Construction
  d = t.construction

  good_alike : (good : List Line) (place : Place) → IsGoodSoFar lemma_table s steps good place → IsGoodSoFar lemma_table (over s d) steps good place
  good_alike good place a =
      begun_alike (IsAcceptedChain lemma_table c) (IsAcceptedChain lemma_table d) (IsAcceptedSample c) (IsAcceptedSample d) (chain_alike c d h.steps) (sample_alike c d h.steps)
      (LeadsTo lemma_table c) (LeadsTo lemma_table d) (leads_alike c d h.steps) s.goals [] [] 1 steps s.conditions good place a

  whole_alike : (good : List Line) → IsGoodToEnd lemma_table s steps good → IsGoodToEnd lemma_table (over s d) steps good
  whole_alike good a = (
    a.0,
    a.1,
    worked_alike (IsAcceptedChain lemma_table c) (IsAcceptedChain lemma_table d) (IsAcceptedSample c) (IsAcceptedSample d) (chain_alike c d h.steps) (sample_alike c d h.steps)
        s.goals [] [] 1 steps s.conditions good a.0 a.1 a.2,
  )

  over_alike : (reads : List (Option Line)) (number : ℕ) (r : Refusal) → IsFirstRefusal lemma_table s steps reads number r → IsFirstRefusal lemma_table (over s d) steps reads number r
  over_alike reads number r (inl f) =
      inl (record {
        good = f.good;
        place = f.place;
        read = f.read;
        more = f.more;
        split = f.split;
        counted = f.counted;
        stands = good_alike f.good f.place f.stands;
        refused = refused_alike c d h.steps f.place f.read r f.refused;
      })
  over_alike reads number r (inr (inl f)) =
      inr (inl (record { good = f.good; read = f.read; more = f.more; split = f.split; counted = f.counted; whole = whole_alike f.good f.whole; refused = f.refused }))
  over_alike reads number r (inr (inr f)) =
      inr (inr (record { good = f.good; place = f.place; split = f.split; counted = f.counted; stands = good_alike f.good f.place f.stands; refused = f.refused }))

  pub first_refusal_alike : (reads : List (Option Line)) (number : ℕ) (r : Refusal) → IsFirstRefusal lemma_table s steps reads number r → IsFirstRefusal lemma_table t steps reads number r
  first_refusal_alike reads number r f = subst (λ (x : Subject). IsFirstRefusal lemma_table x steps reads number r) (same_over s t h) (over_alike reads number r f)
