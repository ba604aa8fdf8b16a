-- At each place that the prover's log of a program reaches, a line or a stop comes next; so the list has an end.
use Rattle.std.proofs.Common.{ℕ, suc, ◌-◌, ◌≤◌, ◌⊎◌, inl, inr, ⊎_elim, ℤ, length, append-nil, List, [], ◌∷◌, ◌++◌, refl, sym, subst}
use Rattle.geo_poly.specs.declared.variables.Var.{Var}
use Rattle.geo_poly.specs.Cuts.{IsCut}
use Rattle.geo_poly.specs.Monomials.{Powers}
use Rattle.geo_poly.specs.PolynomialVariables.{AllVariables}
use Rattle.geo_poly.specs.Polynomials.{IsPolynomial, Summands}
use Rattle.geo_poly.specs.Replace.{replaced_by}
use Rattle.geo_program.specs.WellFormed.{IsWellFormed, Source}
use Rattle.geo_sample.proofs.LeastSamples.{collected_polynomials}
use Rattle.geo_terms.specs.Constructions.{Construction, IsConstruction}
use Rattle.proof_log.specs.declared.log.Line.{Line}
use Rattle.proof_log.specs.declared.log.Line.TheVariants.{End, Header}
use Rattle.proof_log.specs.declared.log.Verdict.{Verdict}
use Rattle.elim_apply.specs.LemmaTable.{lemma_table}
use Rattle.geo_logs.specs.Chains.{IsEnd, cuts, line_of, moves}
use Rattle.geo_logs.specs.Defined.{IsCutDue, IsDefinedChain, IsLogOfProver, LeadsBySteps, NoCutDue}
use Rattle.geo_logs.specs.Ends.{IsAfterPolynomial, IsDefinedLog, IsNext, Next, comes, ends_with, stops, text_length}
use Rattle.geo_logs.specs.Logs.{Subject}
use Rattle.geo_logs.specs.Moves.{IsMoveStopped, IsMoved, Stop, move_charge, replacement}
use Rattle.geo_logs.specs.Naming.{IsNamed}
use Rattle.geo_logs.specs.Places.{Place, before_line, before_sample, before_start, in_chain}
use Rattle.geo_logs.specs.Samples.{IsLeastSample}
use Rattle.log_checker.specs.Begun.{BeginningsGoOn, BeginsDefinedLog, IsBegunByProver}
use Rattle.log_checker.specs.Laws.{DefinedLogExists}
use Rattle.log_checker.specs.Subjects.{IsSubjectOf}
use Rattle.log_checker.proofs.GoingOn.{GoesOnEverywhere, begun_first, continued, log_on, none_fits}
use Rattle.log_checker.proofs.NextCuts.{cut_or_none}
use Rattle.log_checker.proofs.NextMoves.{HasMove, end_or_move}
use Rattle.log_checker.proofs.NextStops.{moved_or_stopped, sample_next, start_next}
use Rattle.log_checker.proofs.Standing.{IsGood, construction_of, place_good, prover_accepted}

-- a text, whichever it is
abbrev AnyText : List ℕ → Type 0
AnyText text = Unit {0}

module _ (c : Construction) where
  -- IN A CHAIN
  polynomial_next : (known : List Var) (left : ℕ) (q : Summands) → IsPolynomial q → AllVariables (IsNamed c (length c.steps)) q
      → (next : Next) × IsAfterPolynomial lemma_table c known left q next
  polynomial_next known left q valid named = ⊎_elim uncut cut (cut_or_none known q valid)
    where
      cut : (f : Powers × ℤ) × (r : Summands) × IsCutDue known q f × IsCut known f q r → (next : Next) × IsAfterPolynomial lemma_table c known left q next
      cut (f, r, due, is) = (comes (line_of (cuts f r)), inl (cuts f r, left, r, (due, is, (refl, refl)), refl))

      uncut : NoCutDue known q → (next : Next) × IsAfterPolynomial lemma_table c known left q next
      uncut none = ⊎_elim ended going (end_or_move c q named)
        where
          ended : IsEnd q → (next : Next) × IsAfterPolynomial lemma_table c known left q next
          ended end = (comes End, inr (none, end, refl))

          going : HasMove c q → (next : Next) × IsAfterPolynomial lemma_table c known left q next
          going m = ⊎_elim moved stopped (moved_or_stopped (replacement lemma_table c m.move q) left q m.replaces)
            where
              moved : IsMoved (replacement lemma_table c m.move q) left q (replaced_by (replacement lemma_table c m.move q).rows (replacement lemma_table c m.move q).den.poly q)
                  → (next : Next) × IsAfterPolynomial lemma_table c known left q next
              moved h =
                  let r = replaced_by (replacement lemma_table c m.move q).rows (replacement lemma_table c m.move q).den.poly q in
                  (comes (line_of (moves m.move r)), inl (moves m.move r, left - move_charge (replacement lemma_table c m.move q) q, r, (none, m.next, h, (refl, refl)), refl))

              stopped : (stop : Stop) × IsMoveStopped (replacement lemma_table c m.move q) left q stop → (next : Next) × IsAfterPolynomial lemma_table c known left q next
              stopped (stop, h) = (stops stop, (m.move, none, m.next, h))

  place_next : (valid : IsConstruction c) (steps n : ℕ) (place : Place) → IsGood c valid AnyText steps n place → (next : Next) × IsNext lemma_table c place next
  place_next valid steps n (before_line line) h = (comes line, refl)
  place_next valid steps n (before_start left e) h = start_next left e
  place_next valid steps n (in_chain known left q) h = polynomial_next known left q h.0.polynomial h.0.named
  place_next valid steps n (before_sample listed left) h = sample_next c listed left (collected_polynomials listed h.0.0) h.0.1

-- PROGRAMS
pub goes_on_everywhere : (p : Source) (subject : Subject) (steps : ℕ) → IsWellFormed p → IsSubjectOf p subject → GoesOnEverywhere lemma_table subject steps
goes_on_everywhere p subject steps w s lines place (inl h) =
    (comes h.1, subst (λ q. IsNext lemma_table subject.construction q (comes h.1)) (sym h.4) refl)
goes_on_everywhere p subject steps w s lines place (inr h) =
    let c = subject.construction in
    place_next c (construction_of p subject w s AnyText steps) steps (suc (length h.0)) place
    (place_good p subject w s AnyText steps (LeadsBySteps lemma_table c) (IsDefinedChain lemma_table c) (IsLeastSample c) (prover_accepted c) (λ i item at. tt) (λ i item at. tt) h.0 place h.2)

abbrev AnyLine : Line → Type 0
AnyLine line = Unit {0}

pub defined_log_exists : DefinedLogExists
defined_log_exists p subject steps w s =
    let h = continued lemma_table subject steps AnyLine (goes_on_everywhere p subject steps w s) (λ xs place line b f n. tt) (λ xs stop f. tt) [] (before_line (Header subject.version))
    (begun_first lemma_table subject steps) (none_fits lemma_table subject steps) in
    (h.rest, h.ending, h.defined)

-- BEGINNINGS
pub beginnings_go_on : BeginningsGoOn
beginnings_go_on = record { begun = begun; longer = longer; next = next }
  where
    begun : (p : Source) (subject : Subject) (steps : ℕ) (lines : List Line) (place : Place) → IsWellFormed p → IsSubjectOf p subject → IsBegunByProver subject steps lines place
        → text_length lines ≤ 67108864 → BeginsDefinedLog subject steps lines
    begun p subject steps lines place w s h fits =
        let found = continued lemma_table subject steps AnyLine (goes_on_everywhere p subject steps w s) (λ xs place line b f n. tt) (λ xs stop f. tt) lines place h fits in
        (found.rest, found.ending, found.defined)

    longer : (subject : Subject) (steps : ℕ) (lines : List Line) (place : Place) (line : Line) → IsBegunByProver subject steps lines place
        → IsNext lemma_table subject.construction place (comes line)
        → ((place' : Place) × IsBegunByProver subject steps (lines ++ line ∷ []) place')
        ⊎ ((verdict : Verdict) × (left : ℕ) × IsLogOfProver lemma_table subject steps (lines ++ line ∷ []) verdict left)
    longer subject steps lines place line h n = log_on lemma_table subject steps lines place line h n

    next : (p : Source) (subject : Subject) (steps : ℕ) (lines : List Line) (place : Place) (line : Line) → IsWellFormed p → IsSubjectOf p subject
        → IsBegunByProver subject steps lines place → IsNext lemma_table subject.construction place (comes line) → text_length (lines ++ line ∷ []) ≤ 67108864
        → BeginsDefinedLog subject steps (lines ++ line ∷ [])
    next p subject steps lines place line w s h n fits =
        ⊎_elim (λ (r : (place' : Place) × IsBegunByProver subject steps (lines ++ line ∷ []) place'). begun p subject steps (lines ++ line ∷ []) r.0 w s r.1 fits)
        (λ (r : (verdict : Verdict) × (left : ℕ) × IsLogOfProver lemma_table subject steps (lines ++ line ∷ []) verdict left).
        let found : BeginsDefinedLog subject steps (lines ++ line ∷ []) =
        ([], ends_with r.0 r.1, subst (λ ls. IsDefinedLog lemma_table subject steps ls (ends_with r.0 r.1)) (sym (append-nil (lines ++ line ∷ []))) (r.2, fits)) in found)
        (longer subject steps lines place line h n)
