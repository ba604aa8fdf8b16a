-- How the log in the fixed frame ends is the same for programs with the same lines.
use Rattle.std.proofs.Common.{◌≡◌, ℕ, suc, ◌-◌, inl, inr, not, ℤ, List, [], ◌∷◌, filter, length, sym, ap, ◌∙◌, subst}
use Rattle.geo_poly.specs.declared.variables.Var.{Var}
use Rattle.geo_poly.specs.Polynomials.{Summands}
use Rattle.geo_program.specs.WellFormed.{IsWellFormed, Source}
use Rattle.geo_sample.specs.Samples.{SearchEndsIn}
use Rattle.geo_sample.specs.Samples as Search
use Rattle.geo_terms.specs.Constructions.{Construction}
use Rattle.geo_terms.specs.Trees.{Tree}
use Rattle.proof_log.specs.declared.log.Line.{Line}
use Rattle.proof_log.specs.declared.log.Verdict.{Verdict}
use Rattle.elim_apply.specs.LemmaTable.{lemma_table}
use Rattle.geo_logs.specs.Chains.{Chain, ChainStep}
use Rattle.geo_logs.specs.Ends.{Ending, ends_by, ends_with, stops, too_long}
use Rattle.geo_logs.specs.Logs.{Subject}
use Rattle.geo_logs.specs.Moves.{Stop}
use Rattle.geo_logs.specs.Places.{IsBegun, Place, before_line, before_sample, before_start, in_chain}
use Rattle.geo_logs.specs.Samples.{error_of}
use Rattle.geo_logs.specs.Starts.{start_charge, start_of}
use Rattle.log_checker.specs.Subjects.{source_lines}
use Rattle.log_checker.proofs.AlikeLogs.{AlikeSubjects, begun_alike, next_line_alike, over, same_over, steps_alike, worked_alike}
use Rattle.log_checker.proofs.AlikeSteps.{AlikeConstructions, variables_same}
use Rattle.log_checker.proofs.OneSubject.{alike_subjects}
use Rattle.geo_chain.specs.FixedLogs.{IsFixedChain, IsFixedLog, IsFixedSample, IsStopInFrame, LeadsInFrame}
use Rattle.geo_chain.specs.Frames.{after_step, framed_variables, is_of_first_point}
use Rattle.geo_discover.specs.FixedEnds.{EndsWithVerdict, StopsAtLine}
use Rattle.geo_discover.specs.Laws.{FixedEndsAgree}
use Rattle.geo_discover.proofs.OneFixedStop.{fixed_log_unique}

-- CONSTRUCTIONS WITH THE SAME STEPS
module _ (c d : Construction) (h : AlikeConstructions c d) where
  variables_alike : framed_variables c ≡ framed_variables d
  variables_alike = ap (filter (λ (v : Var). not (is_of_first_point v))) (variables_same c d h)

  paths_alike : (known : List Var) (left : ℕ) (q : Summands) (steps : List ChainStep) (left' : ℕ) (e : Summands)
      → LeadsInFrame lemma_table c known left q steps left' e → LeadsInFrame lemma_table d known left q steps left' e
  paths_alike known left q [] left' e l = l
  paths_alike known left q (step ∷ steps) left' e (own, after, leads, is, rest) = (
    own,
    after,
    steps_alike c d h known left q (own ∷ []) after (after_step own) leads,
    is,
    paths_alike known after (after_step step) steps left' e rest,
  )

  chains_alike : (known : List Var) (left : ℕ) (e : Tree) (chain : Chain) (left' : ℕ)
      → IsFixedChain lemma_table c known left e chain left' → IsFixedChain lemma_table d known left e chain left'
  chains_alike known left e chain left' a = record {
    started = a.started;
    leads = paths_alike known (left - start_charge e) (start_of e) chain.steps left' chain.end a.leads;
    no_cut = a.no_cut;
    ended = a.ended;
  }

  samples_alike : (listed : List Summands) (left : ℕ) (values : List (Var × ℤ)) (left' : ℕ)
      → IsFixedSample c listed left values left' → IsFixedSample d listed left values left'
  samples_alike listed left values left' a =
      record { least = subst (λ (vs : List Var). Search.IsLeastSample vs listed values) variables_alike a.least; made = a.made }

  stops_alike : (place : Place) (stop : Stop) → IsStopInFrame lemma_table c place stop → IsStopInFrame lemma_table d place stop
  stops_alike (before_line line) stop a = a
  stops_alike (before_start left e) stop a = a
  stops_alike (in_chain known left q) stop a = next_line_alike c d h (in_chain known left q) (stops stop) a
  stops_alike (before_sample listed left) stop a =
      (a.0, subst (λ (vs : List Var). SearchEndsIn (error_of stop) vs listed left a.0) variables_alike a.1)

-- ALIKE SUBJECTS
module _ (s t : Subject) (h : AlikeSubjects s t) (steps : ℕ) where
  abbrev c : Construction
  c = s.construction

  abbrev d : Construction
  d = t.construction

  ends_alike : (lines : List Line) (verdict : Verdict) (left : ℕ) → IsFixedLog lemma_table s steps lines (ends_with verdict left)
      → IsFixedLog lemma_table t steps lines (ends_with verdict left)
  ends_alike lines verdict left a =
      subst (λ (x : Subject). IsFixedLog lemma_table x steps lines (ends_with verdict left)) (same_over s t h)
      (record {
        rest = a.rest;
        split = a.split;
        worked = worked_alike (IsFixedChain lemma_table c) (IsFixedChain lemma_table d) (IsFixedSample c) (IsFixedSample d)
            (chains_alike c d h.steps) (samples_alike c d h.steps) s.goals [] [] 1 steps s.conditions a.rest verdict left a.worked;
      })

  begins_alike : (lines : List Line) (place : Place)
      → IsBegun (LeadsInFrame lemma_table c) (IsFixedChain lemma_table c) (IsFixedSample c) s steps lines place
      → IsBegun (LeadsInFrame lemma_table d) (IsFixedChain lemma_table d) (IsFixedSample d) (over s d) steps lines place
  begins_alike lines place (inl b) = inl b
  begins_alike lines place (inr (rest, split, b)) =
      inr (
        rest,
        split,
        begun_alike (IsFixedChain lemma_table c) (IsFixedChain lemma_table d) (IsFixedSample c) (IsFixedSample d) (chains_alike c d h.steps)
            (samples_alike c d h.steps) (LeadsInFrame lemma_table c) (LeadsInFrame lemma_table d) (paths_alike c d h.steps) s.goals [] [] 1 steps
            s.conditions rest place b,
      )

  fixed_alike : (lines : List Line) (ending : Ending) → IsFixedLog lemma_table s steps lines ending → IsFixedLog lemma_table t steps lines ending
  fixed_alike lines (ends_with verdict left) a = ends_alike lines verdict left a
  fixed_alike lines (ends_by stop) (place, begun, stopped) =
      subst (λ (x : Subject). IsFixedLog lemma_table x steps lines (ends_by stop)) (same_over s t h)
      (place, begins_alike lines place begun, stops_alike c d h.steps place stop stopped)
  fixed_alike lines too_long a = a

-- PROGRAMS WITH THE SAME LINES
module _ (p q : Source) (steps : ℕ) (w : IsWellFormed p) (v : IsWellFormed q) (same : source_lines p ≡ source_lines q) where
  verdicts_agree : (verdict verdict' : Verdict) → EndsWithVerdict p steps verdict → EndsWithVerdict q steps verdict' → verdict ≡ verdict'
  verdicts_agree verdict verdict' h g =
      let alike = alike_subjects p q h.subject g.subject w v same h.about g.about (h.version ∙ sym g.version) in
      let ends = fixed_log_unique lemma_table g.subject steps h.lines g.lines (ends_with verdict h.left) (ends_with verdict' g.left)
      (fixed_alike h.subject g.subject alike steps h.lines (ends_with verdict h.left) h.log) g.log in
      same_verdict verdict verdict' h.left g.left ends.1
    where
      same_verdict : (x y : Verdict) (l k : ℕ) → ends_with x l ≡ ends_with y k → x ≡ y
      same_verdict x y l k e = cc

  stops_agree : (stop stop' : Stop) (n m : ℕ) → StopsAtLine p steps stop n → StopsAtLine q steps stop' m → (stop ≡ stop') × (n ≡ m)
  stops_agree stop stop' n m h g =
      let alike = alike_subjects p q h.subject g.subject w v same h.about g.about (h.version ∙ sym g.version) in
      let ends = fixed_log_unique lemma_table g.subject steps h.lines g.lines (ends_by stop) (ends_by stop')
      (fixed_alike h.subject g.subject alike steps h.lines (ends_by stop) h.log) g.log in
      (same_stop stop stop' ends.1, h.last ∙ ap (λ (lines : List Line). suc (length lines)) ends.0 ∙ sym g.last)
    where
      same_stop : (x y : Stop) → ends_by x ≡ ends_by y → x ≡ y
      same_stop x y e = cc

  not_both : (verdict : Verdict) (stop : Stop) (n : ℕ) → EndsWithVerdict p steps verdict → StopsAtLine q steps stop n → ⊥
  not_both verdict stop n h g =
      let alike = alike_subjects p q h.subject g.subject w v same h.about g.about (h.version ∙ sym g.version) in
      let ends = fixed_log_unique lemma_table g.subject steps h.lines g.lines (ends_with verdict h.left) (ends_by stop)
      (fixed_alike h.subject g.subject alike steps h.lines (ends_with verdict h.left) h.log) g.log in
      apart verdict h.left stop ends.1
    where
      apart : (x : Verdict) (l : ℕ) (y : Stop) → ends_with x l ≡ ends_by y → ⊥
      apart x l y e = cc

pub fixed_ends_agree : FixedEndsAgree
fixed_ends_agree = record { verdicts = verdicts_agree; stops = stops_agree; verdict_or_stop = not_both }
