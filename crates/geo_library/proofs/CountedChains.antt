-- Chains that are counted: the header, the start, the steps, the end.
use Rattle.std.proofs.Common.{◌≡◌, ℕ, suc, ◌+◌, ◌-◌, inl, inr, Option, Some, None, List, [], ◌∷◌, ◌++◌, map, length, refl, sym, ◌∙◌, ap, subst, arith, length-append}
use Rattle.std.proofs.lemmas.List.{length-map}
use Rattle.fraction_poly.specs.TableRows.{HasPointsBelow}
use Rattle.geo_chain.specs.NextLines.{HasLinePointsBelow, IsNextLine}
use Rattle.geo_poly.specs.declared.variables.Var.{Var}
use Rattle.geo_poly.specs.declared.variables.Var.TheVariants.{R, S, P, X, Y, T}
use Rattle.geo_poly.specs.declared.limits.Which.{Which}
use Rattle.geo_poly.specs.Monomials.{Powers}
use Rattle.geo_poly.specs.Polynomials.{Summands}
use Rattle.geo_poly.specs.PolynomialVariables.{AllVariables}
use Rattle.sparse_lists.specs.SparseLists.{AllKeys}
use Rattle.geo_terms.specs.Constructions.{Construction}
use Rattle.geo_terms.specs.TermBounds.{IsTermBelow}
use Rattle.geo_terms.specs.Trees.{Tree}
use Rattle.proof_log.specs.declared.log.Line.{Line}
use Rattle.proof_log.specs.declared.log.Line.TheVariants as line
use Rattle.proof_log.specs.Steps.{polynomial_on}
use Rattle.elim_apply.specs.LemmaTable.{lemma_table}
use Rattle.elim_apply.specs.declared.errors.ApplyError.{ApplyError}
use Rattle.elim_apply.specs.declared.errors.ApplyError.TheVariants as apply
use Rattle.geo_logs.specs.declared.moves.Move.TheVariants.{Ratio, Point, Coords}
use Rattle.geo_logs.specs.Chains.{ChainStep, chain_lines, moves, cuts, line_of}
use Rattle.geo_logs.specs.Defined.{LeadsBySteps}
use Rattle.geo_logs.specs.Ends.{IsNext, stops}
use Rattle.geo_logs.specs.Moves.{Stop, move_charge, replacement, spent, too_large}
use Rattle.geo_logs.specs.Naming.{IsNamed}
use Rattle.geo_logs.specs.Places.{Place, before_start, in_chain}
use Rattle.geo_logs.specs.Starts.{IsStarted, start_charge, start_of}
use Rattle.geo_logs.proofs.TermVariables.{term_sound}
use Rattle.geo_library.specs.declared.errors.CiteError.{CiteError}
use Rattle.geo_library.specs.declared.errors.CiteError.TheVariants as cite
use Rattle.geo_library.specs.Inner.Counting.{AreStepsStopped, AreStepsWorked, IsChainHalted, IsChainWorked, IsStopAt, TellsStop, error_of_stop}
use Rattle.geo_library.specs.Working.{counted_header}

-- STOPS
-- the error of a stop at its place
pub stop_told : (c : Construction) (place : Place) (number : ℕ) (error : ApplyError) → (error ≡ apply.Spent → IsNext lemma_table c place (stops spent))
    → ((which : Which) → error ≡ apply.TooLarge which → IsNext lemma_table c place (stops (too_large which))) → (error ≡ apply.NoRow → ⊥)
    → TellsStop (IsStopAt c place number) (error_of_stop error number)
stop_told c place number apply.NoRow is_spent is_large is_made = absurd (is_made refl)
stop_told c place number apply.Spent is_spent is_large is_made = (refl, is_spent refl)
stop_told c place number (apply.TooLarge which) is_spent is_large is_made = (refl, is_large which refl)
stop_told c place number apply.NoMemory is_spent is_large is_made = tt

-- what is so of each stop is so of the stop that the error tells
pub told_weaker : (One Other : ℕ → Stop → Type 0) → ((number : ℕ) (stop : Stop) → One number stop → Other number stop) → (error : CiteError) → TellsStop One error → TellsStop Other error
told_weaker One Other f (cite.Spent number) h = f number spent h
told_weaker One Other f (cite.TooLarge number which) h = f number (too_large which) h
told_weaker One Other f cite.NoMemory h = tt
told_weaker One Other f (cite.Rejected number reason) h = h
told_weaker One Other f (cite.Syntax fault) h = h
told_weaker One Other f (cite.NotInstance number) h = h

-- want of memory tells nothing
pub no_memory_told : (One : ℕ → Stop → Type 0) (error : CiteError) → error ≡ cite.NoMemory → TellsStop One error
no_memory_told One error e = subst (TellsStop One) (sym e) tt

module _ (c : Construction) (known : List Var) where
  abbrev Leads : ℕ → Summands → List ChainStep → ℕ → Summands → Type 0
  Leads left q steps left' r = LeadsBySteps lemma_table c known left q steps left' r

  -- STEPS
  leads_more : (left : ℕ) (q : Summands) (xs : List ChainStep) (mid : ℕ) (r : Summands) (ys : List ChainStep) (left' : ℕ) (e : Summands) → Leads left q xs mid r → Leads mid r ys left' e
      → Leads left q (xs ++ ys) left' e
  leads_more left q [] mid r ys left' e h g =
      subst (λ k. Leads k q ys left' e) (sym h.0) (subst (λ t. Leads mid t ys left' e) (sym h.1) g)
  leads_more left q (moves m s ∷ xs) mid r ys left' e h g =
      (h.0, h.1, h.2, leads_more (left - move_charge (replacement lemma_table c m q) q) s xs mid r ys left' e h.3 g)
  leads_more left q (cuts f s ∷ xs) mid r ys left' e h g = (h.0, h.1, leads_more left s xs mid r ys left' e h.2 g)

  -- the step of a next line, with its polynomial
  step_polynomial : (left : ℕ) (q : Summands) (step : ChainStep) (left' : ℕ) (r : Summands) → Leads left q (step ∷ []) left' r → polynomial_on (line_of step) ≡ Some r
  step_polynomial left q (moves (Ratio v lemma at) s) left' r h = ap Some h.3.1
  step_polynomial left q (moves (Point at) s) left' r h = ap Some h.3.1
  step_polynomial left q (moves Coords s) left' r h = ap Some h.3.1
  step_polynomial left q (cuts f s) left' r h = ap Some h.2.1

  -- what was made of the first polynomial so far
  pub record IsUnderWay (lines left : ℕ) (first : Summands) (lines' left' : ℕ) (last : Summands) : Type 0 where
    pub steps : List ChainStep
    pub leads : Leads left first steps left' last
    pub counted : lines' ≡ lines + length steps

  pub begins : (lines left : ℕ) (first : Summands) → IsUnderWay lines left first lines left first
  begins lines left first = record { steps = []; leads = (refl, refl); counted = omega arith }

  -- with a polynomial a next line is a step
  pub goes_on : (lines left : ℕ) (first : Summands) (now mid : ℕ) (last : Summands) (l : Line) (now' left' : ℕ) (q : Summands) → IsUnderWay lines left first now mid last
      → IsNextLine c known mid last l left' → polynomial_on l ≡ Some q → now' ≡ now + 1 → IsUnderWay lines left first now' left' q
  goes_on lines left first now mid last l now' left' q h (inl g) on one =
      let same : Some g.next ≡ Some q = sym (step_polynomial mid last g.step left' g.next g.leads) ∙ ap polynomial_on (sym g.is) ∙ on in
      let is : g.next ≡ q = cc in
      record {
        steps = h.steps ++ g.step ∷ [];
        leads = leads_more left first h.steps mid last (g.step ∷ []) left' q h.leads (subst (λ r. Leads mid last (g.step ∷ []) left' r) is g.leads);
        counted = let more : length (h.steps ++ g.step ∷ []) ≡ length h.steps + 1 = length-append h.steps (g.step ∷ []) in let k = h.counted in omega (arith, more, k, one);
      }
  goes_on lines left first now mid last l now' left' q h (inr g) on one = let same : None ≡ Some q = ap polynomial_on (sym g.is) ∙ on in absurd (let f : ⊥ = cc in f)

  -- without one it is the end
  pub ends : (lines left : ℕ) (first : Summands) (now mid : ℕ) (last : Summands) (l : Line) (now' left' : ℕ) → IsUnderWay lines left first now mid last → IsNextLine c known mid last l left'
      → polynomial_on l ≡ None → now' ≡ now + 1 → AreStepsWorked c known lines left first now' left' last
  ends lines left first now mid last l now' left' h (inl g) on one =
      let same : Some g.next ≡ None = sym (step_polynomial mid last g.step left' g.next g.leads) ∙ ap polynomial_on (sym g.is) ∙ on in absurd (let f : ⊥ = cc in f)
  ends lines left first now mid last l now' left' h (inr g) on one = record {
    steps = h.steps;
    leads = subst (λ k. Leads left first h.steps k last) (sym g.kept) h.leads;
    no_cut = g.no_cut;
    ended = g.ended;
    counted = let k = h.counted in omega (arith, k, one);
  }

  -- a stop comes
  pub stops_there : (lines left : ℕ) (first : Summands) (now mid : ℕ) (last : Summands) → IsUnderWay lines left first now mid last → (error : CiteError)
      → TellsStop (IsStopAt c (in_chain known mid last) (now + 1)) error → TellsStop (AreStepsStopped c known lines left first) error
  stops_there lines left first now mid last h error told =
      told_weaker (IsStopAt c (in_chain known mid last) (now + 1)) (AreStepsStopped c known lines left first)
      (λ number stop k. record { steps = h.steps; after = mid; last = last; leads = h.leads; next = k.1; counted = let a = h.counted in let b = k.0 in omega (arith, a, b) })
      error told

  -- CHAINS
  module _ (lines left : ℕ) (e : Tree) where
    -- the start stops
    pub stops_first : (now left0 : ℕ) → now ≡ lines + 1 → left0 ≡ left → (error : CiteError) → TellsStop (IsStopAt c (before_start left0 e) (now + 1)) error
        → TellsStop (IsChainHalted c known lines left e) error
    stops_first now left0 one same error told =
        told_weaker (IsStopAt c (before_start left0 e) (now + 1)) (IsChainHalted c known lines left e)
        (λ number stop k. record {
          before = counted_header ∷ [];
          place = before_start left e;
          begun = inr (inl (refl, refl));
          next = subst (λ n. IsNext lemma_table c (before_start n e) (stops stop)) same k.1;
          counted = let b = k.0 in omega (arith, b, one);
        })
        error told

    -- a step stops
    pub stops_later : (now left0 mid : ℕ) (q : Summands) → left0 ≡ left → IsStarted left0 e → mid ≡ left0 - start_charge e → q ≡ start_of e → now ≡ lines + 2 → (error : CiteError)
        → TellsStop (AreStepsStopped c known now mid q) error → TellsStop (IsChainHalted c known lines left e) error
    stops_later now left0 mid q same begun charged is two error told =
        let started : IsStarted left e = subst (λ n. IsStarted n e) same begun in
        let paid : mid ≡ left - start_charge e = charged ∙ ap (λ n. n - start_charge e) same in
        told_weaker (AreStepsStopped c known now mid q) (IsChainHalted c known lines left e)
        (λ number stop k. record {
          before = counted_header ∷ line.Start (start_of e) ∷ map line_of k.steps;
          place = in_chain known k.after k.last;
          begun = inr (inr (record {
            steps = k.steps;
            after = k.after;
            last = k.last;
            started = started;
            leads = subst (λ z. Leads z (start_of e) k.steps k.after k.last) paid (subst (λ r. Leads mid r k.steps k.after k.last) is k.leads);
            split = refl;
            stands = refl;
          }));
          next = k.next;
          counted = let a = k.counted in let b : length (map line_of k.steps) ≡ length k.steps = length-map k.steps line_of in omega (arith, a, b, two);
        })
        error told

    -- all is worked
    pub chain_worked : (now left0 mid : ℕ) (q : Summands) (lines' left' : ℕ) (end : Summands) → left0 ≡ left → IsStarted left0 e → mid ≡ left0 - start_charge e → q ≡ start_of e
        → now ≡ lines + 2 → AreStepsWorked c known now mid q lines' left' end → IsChainWorked c known lines left e lines' left' end
    chain_worked now left0 mid q lines' left' end same begun charged is two h =
        let started : IsStarted left e = subst (λ n. IsStarted n e) same begun in
        let paid : mid ≡ left - start_charge e = charged ∙ ap (λ n. n - start_charge e) same in record {
          chain = record { steps = h.steps; end = end };
          works = record {
            started = started;
            leads = subst (λ k. Leads k (start_of e) h.steps left' end) paid (subst (λ r. Leads mid r h.steps left' end) is h.leads);
            no_cut = h.no_cut;
            ended = h.ended;
          };
          ended = refl;
          counted =
              let a = h.counted in
              let b : length (map line_of h.steps) ≡ length h.steps = length-map h.steps line_of in
              let d : length (map line_of h.steps ++ line.End ∷ []) ≡ length (map line_of h.steps) + 1 = length-append (map line_of h.steps) (line.End ∷ []) in omega (arith, a, b, d, two);
        }
