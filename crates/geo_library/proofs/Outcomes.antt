-- What a citation asks has one outcome.
use Rattle.std.proofs.Common.{◌≡◌, ◌≢◌, ℕ, suc, ◌+◌, inl, inr, length, List, [], ◌∷◌, ap, ap₂, sym, ◌∙◌, subst}
use Rattle.geo_terms.specs.Constructions.{Construction}
use Rattle.geo_terms.specs.Trees.{Tree}
use Rattle.geo_program.specs.WellFormed.{Source}
use Rattle.geo_lowering.specs.Lowering.{layout_of, renamed}
use Rattle.geo_lowering.specs.declared.version.Version.TheVariants.{Two}
use Rattle.elim_apply.specs.LemmaTable.{lemma_table}
use Rattle.proof_log.specs.declared.log.Line.{Line}
use Rattle.geo_logs.specs.Chains.{Chain}
use Rattle.geo_logs.specs.Ends.{IsNext, Next, stops}
use Rattle.geo_logs.specs.Moves.{Stop}
use Rattle.geo_logs.specs.Defined.{IsDefinedChain, LeadsBySteps}
use Rattle.geo_logs.specs.Places as Places
use Rattle.geo_logs.specs.Places.{Place, before_line, before_start, in_chain}
use Rattle.geo_logs.specs.Samples.{IsLeastSample}
use Rattle.geo_logs.proofs.NextLines.{IsBegunChain}
use Rattle.geo_logs.proofs.OneChain.{one_chain}
use Rattle.geo_logs.proofs.OneEnd.{begun_compared, begun_within}
use Rattle.geo_logs.proofs.OneNext.{AreCompared, no_stop_ahead}
use Rattle.geo_library.specs.Figures.{Figure, IsFigureChain}
use Rattle.geo_library.specs.Instances.{Asked, AskedAt, asks_condition, asks_goal, asks_statement}
use Rattle.geo_library.specs.Outcomes.{OneOutcome}
use Rattle.geo_library.specs.Working.{ArePassed, IsChainStopped, IsFailed, IsFirstMiss, IsPassed, IsStoppedAt, Miss, Progress, counted_header, counted_lines, no_instance, stopped_at}

module _ (q : Source) (figure : Figure) where
  abbrev c : Construction
  c = figure.construction

  abbrev term : Tree → Tree
  term e = renamed (layout_of Two q.commands) e

  same_chain : (left : ℕ) (e : Tree) (chain other : Chain) (l k : ℕ) → IsFigureChain q figure left e chain l → IsFigureChain q figure left e other k → (chain ≡ other) × (l ≡ k)
  same_chain left e chain other l k h g = one_chain lemma_table c figure.known left (term e) chain other l k h g

  -- ONE THING
  passed_once : (now one other : Progress) (a : Asked) → IsPassed q figure now a one → IsPassed q figure now a other → one ≡ other
  passed_once now one other (asks_condition text) h g = h.1 ∙ sym g.1
  passed_once now one other (asks_goal e) h g =
      let same = same_chain now.left e h.0 g.0 one.left other.left h.1 g.1 in
      let lines : one.lines ≡ other.lines = h.3 ∙ ap (λ (chain : Chain). now.lines + counted_lines q e chain) same.0 ∙ sym g.3 in
      λ i. record { lines = lines i; left = same.1 i }
  passed_once now one other (asks_statement text) h g = h.1 ∙ sym g.1

  passed_or_failed : (now after : Progress) (a : Asked) → IsPassed q figure now a after → IsFailed q figure now a → ⊥
  passed_or_failed now after (asks_condition text) h g = g h.0
  passed_or_failed now after (asks_goal e) h g =
      let same = same_chain now.left e h.0 g.0 after.left g.1 h.1 g.2 in g.3 (ap (λ (chain : Chain). chain.end) (sym same.0) ∙ h.2)
  passed_or_failed now after (asks_statement text) h g = g h.0

  -- a chain that is stopped, by what comes next
  by_next : (left : ℕ) (e : Tree) (lines : List Line) (stop : Stop) → IsChainStopped q figure left e lines stop
      → IsBegunChain lemma_table c counted_header figure.known left (term e) lines (stops stop)
  by_next left e lines stop h = by h.begun
    where
      moved : (place : Place) → h.place ≡ place → IsNext lemma_table c place (stops stop)
      moved place e = subst (λ (p : Place). IsNext lemma_table c p (stops stop)) e h.next

      by : Places.IsBegunChain (LeadsBySteps lemma_table c) (IsDefinedChain lemma_table c) (IsLeastSample c) counted_header figure.known left (term e) lines h.place
          → IsBegunChain lemma_table c counted_header figure.known left (term e) lines (stops stop)
      by (inl g) = inl (g.0, moved (before_line counted_header) g.1)
      by (inr (inl g)) = inr (inl (g.0, moved (before_start left (term e)) g.1))
      by (inr (inr g)) = inr (inr (record {
        steps = g.steps;
        after = g.after;
        last = g.last;
        started = g.started;
        leads = g.leads;
        split = g.split;
        follows = moved (in_chain figure.known g.after g.last) g.stands;
      }))

  worked_or_stopped : (left : ℕ) (e : Tree) (chain : Chain) (after : ℕ) (lines : List Line) (stop : Stop) → IsFigureChain q figure left e chain after → IsChainStopped q figure left e lines stop → ⊥
  worked_or_stopped left e chain after lines stop h g =
      no_stop_ahead {A = ⊥} lines stop _ (begun_within lemma_table c counted_header figure.known left (term e) lines (stops stop) chain after [] (by_next left e lines stop g) h)

  passed_or_stopped : (now after : Progress) (a : Asked) (number : ℕ) (stop : Stop) → IsPassed q figure now a after → IsStoppedAt q figure now a number stop → ⊥
  passed_or_stopped now after (asks_condition text) number stop h g = g
  passed_or_stopped now after (asks_goal e) number stop h g = worked_or_stopped now.left e h.0 after.left g.0 stop h.1 g.1
  passed_or_stopped now after (asks_statement text) number stop h g = g

  failed_or_stopped : (now : Progress) (a : Asked) (number : ℕ) (stop : Stop) → IsFailed q figure now a → IsStoppedAt q figure now a number stop → ⊥
  failed_or_stopped now (asks_condition text) number stop h g = g
  failed_or_stopped now (asks_goal e) number stop h g = worked_or_stopped now.left e h.0 h.1 g.0 stop h.2 g.1
  failed_or_stopped now (asks_statement text) number stop h g = g

  same_stop : (lines others : List Line) (stop other : Stop) → AreCompared lines (stops stop) others (stops other) → (lines ≡ others) × (stop ≡ other)
  same_stop lines others stop other (inl h) = (h.0, let z : stops stop ≡ stops other = h.1 in let s : stop ≡ other = cc in s)
  same_stop lines others stop other (inr (inl h)) = no_stop_ahead lines stop others h
  same_stop lines others stop other (inr (inr h)) = no_stop_ahead others other lines h

  stopped_once : (now : Progress) (a : Asked) (number count : ℕ) (stop other : Stop) → IsStoppedAt q figure now a number stop
      → IsStoppedAt q figure now a count other → stopped_at number stop ≡ stopped_at count other
  stopped_once now (asks_condition text) number count stop other h g = absurd h
  stopped_once now (asks_goal e) number count stop other h g =
      let same = same_stop h.0 g.0 stop other
      (begun_compared lemma_table c counted_header figure.known now.left (term e) h.0 g.0 (stops stop) (stops other) (by_next now.left e h.0 stop h.1) (by_next now.left e g.0 other g.1)) in
      let numbers : number ≡ count = h.2 ∙ ap (λ (lines : List Line). suc (now.lines + length lines)) same.0 ∙ sym g.2 in
      ap₂ stopped_at numbers same.1
  stopped_once now (asks_statement text) number count stop other h g = absurd h

  -- ALL
  all_passed_once : (now one other : Progress) (asked : List AskedAt) → ArePassed q figure now asked one → ArePassed q figure now asked other → one ≡ other
  all_passed_once now one other [] h g = h ∙ sym g
  all_passed_once now one other (a ∷ more) h g =
      let same = passed_once now h.0 g.0 a.asked h.1 g.1 in
      all_passed_once h.0 one other more h.2 (subst (λ (p : Progress). ArePassed q figure p more other) (sym same) g.2)

  passed_or_missed : (now end : Progress) (asked : List AskedAt) (miss : Miss) → ArePassed q figure now asked end → IsFirstMiss q figure now asked miss → ⊥
  passed_or_missed now end [] miss h g = g
  passed_or_missed now end (a ∷ more) miss h (inl g) = passed_or_failed now h.0 a.asked h.1 g.0
  passed_or_missed now end (a ∷ more) miss h (inr (inl g)) = passed_or_stopped now h.0 a.asked g.0 g.1 h.1 g.2
  passed_or_missed now end (a ∷ more) miss h (inr (inr g)) =
      let same = passed_once now h.0 g.0 a.asked h.1 g.1 in
      passed_or_missed h.0 end more miss h.2 (subst (λ (p : Progress). IsFirstMiss q figure p more miss) (sym same) g.2)

  missed_once : (now : Progress) (asked : List AskedAt) (one other : Miss) → IsFirstMiss q figure now asked one → IsFirstMiss q figure now asked other → one ≡ other
  missed_once now [] one other h g = absurd h
  missed_once now (a ∷ more) one other (inl h) (inl g) = h.1 ∙ sym g.1
  missed_once now (a ∷ more) one other (inl h) (inr (inl g)) = absurd (failed_or_stopped now a.asked g.0 g.1 h.0 g.2)
  missed_once now (a ∷ more) one other (inl h) (inr (inr g)) = absurd (passed_or_failed now g.0 a.asked g.1 h.0)
  missed_once now (a ∷ more) one other (inr (inl h)) (inl g) = absurd (failed_or_stopped now a.asked h.0 h.1 g.0 h.2)
  missed_once now (a ∷ more) one other (inr (inl h)) (inr (inl g)) = h.3 ∙ stopped_once now a.asked h.0 g.0 h.1 g.1 h.2 g.2 ∙ sym g.3
  missed_once now (a ∷ more) one other (inr (inl h)) (inr (inr g)) = absurd (passed_or_stopped now g.0 a.asked h.0 h.1 g.1 h.2)
  missed_once now (a ∷ more) one other (inr (inr h)) (inl g) = absurd (passed_or_failed now h.0 a.asked h.1 g.0)
  missed_once now (a ∷ more) one other (inr (inr h)) (inr (inl g)) = absurd (passed_or_stopped now h.0 a.asked g.0 g.1 h.1 g.2)
  missed_once now (a ∷ more) one other (inr (inr h)) (inr (inr g)) =
      let same = passed_once now h.0 g.0 a.asked h.1 g.1 in
      missed_once h.0 more one other h.2 (subst (λ (p : Progress). IsFirstMiss q figure p more other) (sym same) g.2)

pub one_outcome : OneOutcome
one_outcome = record { passed = all_passed_once; not_both = passed_or_missed; missed = missed_once }
