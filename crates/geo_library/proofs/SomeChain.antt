-- The chain of a term has an end or a stop, since a move takes some of the steps that are left, and behind a cut comes no other.
use Rattle.std.proofs.Common.{ℕ, zero, suc, ◌+◌, ◌-◌, ◌*◌, ◌<◌, ◌≤◌, ◌⊎◌, inl, inr, ℤ, List, [], ◌∷◌, length, map, refl, mul-pos, arith}
use Rattle.fraction_poly.specs.Forms.{Form, abscissa, area, denominator, integer, numerator, opposite, ordinate, piece_of, pythagoras, ratio, ◌⊞◌, ◌⊟◌, ◌⊠◌}
use Rattle.fraction_poly.specs.Measures.{numbers_of}
use Rattle.geo_poly.specs.declared.variables.Var.{Var}
use Rattle.geo_poly.specs.Cuts.{IsCut}
use Rattle.geo_poly.specs.Monomials.{Powers}
use Rattle.geo_poly.specs.Polynomials.{Summands}
use Rattle.geo_poly.specs.Replace.{replaced_by}
use Rattle.geo_terms.specs.Constructions.{Construction, IsConstruction}
use Rattle.geo_terms.specs.TermBounds.{IsTermBelow}
use Rattle.geo_terms.specs.Trees.{Tree, addition, area_leaf, division, integer_leaf, multiplication, negation, parameter_leaf, pythagoras_leaf, ratio_leaf, subtraction}
use Rattle.proof_log.specs.declared.log.Line.{Line}
use Rattle.proof_log.specs.declared.log.Line.TheVariants.{Start}
use Rattle.elim_apply.specs.LemmaTable.{lemma_table, move_denominator}
use Rattle.geo_logs.specs.declared.moves.Move.{Move}
use Rattle.geo_logs.specs.Chains.{Chain, ChainStep, IsEnd, cuts, line_of, moves}
use Rattle.geo_logs.specs.Defined.{IsCutDue, IsDefinedChain, LeadsBySteps, NoCutDue}
use Rattle.geo_logs.specs.Ends.{IsAfterHeader, IsNext, Next, comes, stops}
use Rattle.geo_logs.specs.Moves.{IsMoveStopped, IsMoved, Stop, move_charge, replacement}
use Rattle.geo_logs.specs.Places.{IsBegunChain, Place, before_start, in_chain}
use Rattle.geo_logs.specs.Samples.{IsLeastSample}
use Rattle.geo_logs.specs.Starts.{IsStarted, start_charge, start_of}
use Rattle.geo_logs.proofs.AcceptedProvers.{leads}
use Rattle.geo_logs.proofs.CutOnce.{cut_once}
use Rattle.log_checker.proofs.NextCuts.{cut_or_none}
use Rattle.log_checker.proofs.NextMoves.{HasMove, end_or_move}
use Rattle.log_checker.proofs.NextStops.{moved_or_stopped, start_next}
use Rattle.log_checker.proofs.Writing.{IsOwn, path_own, start_own}

-- WHAT A MOVE TAKES
sums : (a b c d : ℕ) → 1 ≤ a → 1 ≤ b → 1 ≤ a * b + c * d
sums a b c d h k = let some : 1 ≤ a * b = mul-pos h k in omega (arith, some)

-- a term has counts of at least 1
some_numbers : (e : Tree) → (1 ≤ (numbers_of e).kn) × (1 ≤ (numbers_of e).kd)
some_numbers (integer_leaf m) = (omega arith, omega arith)
some_numbers (parameter_leaf t) = (omega arith, omega arith)
some_numbers (area_leaf a b c) = (omega arith, omega arith)
some_numbers (pythagoras_leaf a b c) = (omega arith, omega arith)
some_numbers (ratio_leaf a b c d) = (omega arith, omega arith)
some_numbers (negation e) = some_numbers e
some_numbers (addition e f) =
    let a = some_numbers e in let b = some_numbers f in
    (sums (numbers_of e).kn (numbers_of f).kd (numbers_of f).kn (numbers_of e).kd a.0 b.1, mul-pos a.1 b.1)
some_numbers (subtraction e f) =
    let a = some_numbers e in let b = some_numbers f in
    (sums (numbers_of e).kn (numbers_of f).kd (numbers_of f).kn (numbers_of e).kd a.0 b.1, mul-pos a.1 b.1)
some_numbers (multiplication e f) = let a = some_numbers e in let b = some_numbers f in (mul-pos a.0 b.0, mul-pos a.1 b.1)
some_numbers (division e f) = let a = some_numbers e in let b = some_numbers f in (mul-pos a.0 b.1, mul-pos a.1 b.0)

-- and so has a form
some_count : (f : Form) → 1 ≤ (piece_of f).count
some_count (integer n) = omega arith
some_count (area a b c) = omega arith
some_count (pythagoras a b c) = omega arith
some_count (ratio a b c d) = omega arith
some_count (abscissa a) = omega arith
some_count (ordinate a) = omega arith
some_count (numerator e) = (some_numbers e).0
some_count (denominator e) = (some_numbers e).1
some_count (f ⊞ g) = let a = some_count f in omega (arith, a)
some_count (f ⊟ g) = let a = some_count f in omega (arith, a)
some_count (f ⊠ g) = mul-pos (some_count f) (some_count g)
some_count (opposite f) = some_count f

move_charged : (c : Construction) (move : Move) (q : Summands) → 1 ≤ move_charge (replacement lemma_table c move q) q
move_charged c move q = let d : 1 ≤ (piece_of (move_denominator c move)).count = some_count (move_denominator c move) in omega (arith, d)

-- STEPS
module _ (c : Construction) (construction : IsConstruction c) (known : List Var) where
  abbrev Leads : ℕ → Summands → List ChainStep → ℕ → Summands → Type 0
  Leads = LeadsBySteps lemma_table c known

  abbrev IsGood : Summands → Type 0
  IsGood q = IsOwn c construction q

  -- the steps lead to an end, or to a stop
  record EndsChain (left : ℕ) (q : Summands) : Type 0 where
    steps : List ChainStep
    after : ℕ
    last : Summands
    leads : Leads left q steps after last
    no_cut : NoCutDue known last
    ended : IsEnd last

  record StopsChain (left : ℕ) (q : Summands) : Type 0 where
    steps : List ChainStep
    after : ℕ
    last : Summands
    leads : Leads left q steps after last
    stop : Stop
    next : IsNext lemma_table c (in_chain known after last) (stops stop)

  abbrev Outcome : ℕ → Summands → Type 0
  Outcome left q = EndsChain left q ⊎ StopsChain left q

  one_good : (left : ℕ) (q : Summands) (step : ChainStep) (after : ℕ) (r : Summands) → Leads left q (step ∷ []) after r → IsGood q → IsGood r
  one_good left q step after r h good = path_own c construction known left q (step ∷ []) after r good (leads lemma_table c known left q (step ∷ []) after r h)

  -- a move in front, or a cut
  behind_move : (left : ℕ) (q : Summands) (move : Move) (r : Summands)
      → ((steps : List ChainStep) (after : ℕ) (last : Summands) → Leads (left - move_charge (replacement lemma_table c move q) q) r steps after last → Leads left q (moves move r ∷ steps) after last)
      → Outcome (left - move_charge (replacement lemma_table c move q) q) r → Outcome left q
  behind_move left q move r first (inl h) =
      inl (record {
        steps = moves move r ∷ h.steps;
        after = h.after;
        last = h.last;
        leads = first h.steps h.after h.last h.leads;
        no_cut = h.no_cut;
        ended = h.ended;
      })
  behind_move left q move r first (inr h) =
      inr (record {
        steps = moves move r ∷ h.steps;
        after = h.after;
        last = h.last;
        leads = first h.steps h.after h.last h.leads;
        stop = h.stop;
        next = h.next;
      })

  behind_cut : (left : ℕ) (q : Summands) (f : Powers × ℤ) (r : Summands) → IsCutDue known q f → IsCut known f q r → Outcome left r → Outcome left q
  behind_cut left q f r due is (inl h) =
      inl (record {
        steps = cuts f r ∷ h.steps;
        after = h.after;
        last = h.last;
        leads = (due, is, h.leads);
        no_cut = h.no_cut;
        ended = h.ended;
      })
  behind_cut left q f r due is (inr h) =
      inr (record {
        steps = cuts f r ∷ h.steps;
        after = h.after;
        last = h.last;
        leads = (due, is, h.leads);
        stop = h.stop;
        next = h.next;
      })

  -- where no cut is due: the end, or a move, or a stop
  uncut : (left : ℕ) (q : Summands) → NoCutDue known q → IsGood q → ((less : ℕ) (r : Summands) → less < left → IsGood r → Outcome less r) → Outcome left q
  uncut left q none good again = by (end_or_move c q good.named)
    where
      moved : (m : HasMove c q)
          → IsMoved (replacement lemma_table c m.move q) left q (replaced_by (replacement lemma_table c m.move q).rows (replacement lemma_table c m.move q).den.poly q)
          ⊎ ((stop : Stop) × IsMoveStopped (replacement lemma_table c m.move q) left q stop) → Outcome left q
      moved m (inl h) =
          let r = replaced_by (replacement lemma_table c m.move q).rows (replacement lemma_table c m.move q).den.poly q in
          let after = left - move_charge (replacement lemma_table c m.move q) q in
          let some = move_charged c m.move q in
          let paid = h.paid in
          behind_move left q m.move r (λ steps last_left last rest. (none, m.next, h, rest))
          (again after r (omega (arith, some, paid)) (one_good left q (moves m.move r) after r (none, m.next, h, (refl, refl)) good))
      moved m (inr (stop, h)) =
          inr (record { steps = []; after = left; last = q; leads = (refl, refl); stop = stop; next = (m.move, none, m.next, h) })

      by : IsEnd q ⊎ HasMove c q → Outcome left q
      by (inl end) = inl (record { steps = []; after = left; last = q; leads = (refl, refl); no_cut = none; ended = end })
      by (inr m) = moved m (moved_or_stopped (replacement lemma_table c m.move q) left q m.replaces)

  outcome : (fuel left : ℕ) (q : Summands) → left < fuel → IsGood q → Outcome left q
  outcome zero left q few good = absurd (omega (arith, few))
  outcome (suc fuel) left q few good =
      by (λ less r l. outcome fuel less r (let k : less < left = l in omega (arith, few, k))) (cut_or_none known q good.polynomial)
    where
      by : ((less : ℕ) (r : Summands) → less < left → IsGood r → Outcome less r)
          → NoCutDue known q ⊎ ((f : Powers × ℤ) × (r : Summands) × IsCutDue known q f × IsCut known f q r) → Outcome left q
      by again (inl none) = uncut left q none good again
      by again (inr (f, r, due, is)) =
          behind_cut left q f r due is (uncut left r (cut_once known f q r due is) (one_good left q (cuts f r) left r (due, is, (refl, refl)) good) again)

  -- THE CHAIN OF A TERM
  pub record HasChain (left : ℕ) (e : Tree) : Type 0 where
    pub chain : Chain
    pub after : ℕ
    pub works : IsDefinedChain lemma_table c known left e chain after

  -- lines that begin it, and a stop that is due behind them
  pub record HasStop (header : Line) (left : ℕ) (e : Tree) : Type 0 where
    pub lines : List Line
    pub place : Place
    pub stop : Stop
    pub begun : IsBegunChain (LeadsBySteps lemma_table c) (IsDefinedChain lemma_table c) (IsLeastSample c) header known left e lines place
    pub next : IsNext lemma_table c place (stops stop)

  pub some_chain : (header : Line) (left : ℕ) (e : Tree) → IsTermBelow (length c.steps) c.params e → HasChain left e ⊎ HasStop header left e
  some_chain header left e below = let n = start_next left e in by n.0 n.1
    where
      from : IsStarted left e → Outcome (left - start_charge e) (start_of e) → HasChain left e ⊎ HasStop header left e
      from started (inl h) =
          inl (record {
            chain = record { steps = h.steps; end = h.last };
            after = h.after;
            works = record { started = started; leads = h.leads; no_cut = h.no_cut; ended = h.ended };
          })
      from started (inr h) =
          inr (record {
            lines = header ∷ Start (start_of e) ∷ map line_of h.steps;
            place = in_chain known h.after h.last;
            stop = h.stop;
            begun = inr (inr (record {
              steps = h.steps;
              after = h.after;
              last = h.last;
              started = started;
              leads = h.leads;
              split = refl;
              stands = refl;
            }));
            next = h.next;
          })

      by : (next : Next) → IsAfterHeader left e next → HasChain left e ⊎ HasStop header left e
      by (stops stop) h = inr (record { lines = header ∷ []; place = before_start left e; stop = stop; begun = inr (inl (refl, refl)); next = h })
      by (comes line) (is, started) =
          from started (outcome (suc (left - start_charge e)) (left - start_charge e) (start_of e) (omega arith) (start_own c construction left e below started))
