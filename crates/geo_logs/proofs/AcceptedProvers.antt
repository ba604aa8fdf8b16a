-- The prover's log is accepted.
use Rattle.std.proofs.Common.{◌≡◌, ℕ, suc, ◌-◌, ◌^◌, ◌<◌, ◌≤◌, inl, inr, All, Contains, length, ℤ, List, [], ◌∷◌, ◌++◌, refl, arith}
use Rattle.std.proofs.lemmas.List.Elements.{All-cons, All-head, All-nil, All-tail}
use Rattle.geo_poly.specs.declared.variables.Var.{Var}
use Rattle.geo_poly.specs.Polynomials.{IsPolynomial, Summands}
use Rattle.geo_terms.specs.Constructions.{Construction}
use Rattle.geo_terms.specs.Trees.{Tree}
use Rattle.proof_log.specs.declared.log.Line.{Line}
use Rattle.proof_log.specs.declared.log.Line.TheVariants.{Condition, Goal}
use Rattle.proof_log.specs.declared.log.Verdict.{Verdict}
use Rattle.proof_log.specs.declared.log.Verdict.TheVariants.{Proved, False}
use Rattle.geo_logs.specs.Chains.{Chain, ChainStep, moves, cuts, IsAcceptedChain, LeadsTo}
use Rattle.geo_logs.specs.Starts.{start_charge, start_of}
use Rattle.geo_logs.specs.Defined.{IsDefinedChain, LeadsBySteps}
use Rattle.geo_logs.specs.Laws.{AreNamed, ProversLogIsAccepted}
use Rattle.geo_logs.specs.Logs.{AreConditionsWorked, AreGoalsWorked, BeginsWithChain, IsConcluded, Item, known_by}
use Rattle.geo_logs.specs.Moves.{Table, move_charge, replacement}
use Rattle.geo_logs.specs.Naming.{IsNamed}
use Rattle.geo_terms.specs.TermBounds.{IsTermBelow}
use Rattle.geo_logs.specs.Samples.{IsAcceptedSample, IsLeastSample, sample_variables}
use Rattle.geo_logs.specs.Sound.{IsSoundTable, IsSoundTerm}
use Rattle.geo_poly.specs.PolynomialVariables.{AllVariables, IsPlain}
use Rattle.geo_logs.proofs.ChainValues.{chain_named}
use Rattle.geo_logs.proofs.ChainPolynomials.{chain_polynomial, start_polynomial}
use Rattle.geo_logs.proofs.Charges.{chain_spent}
use Rattle.geo_poly.proofs.EachVariable.{of-both}
use Rattle.geo_logs.proofs.SampleSizes.{values_fit}
use Rattle.geo_logs.proofs.SampleVariables.{plain_contained}
use Rattle.geo_sample.proofs.LeastSamples.{collected_polynomials, sample_keeps, single_made}

pub All-push : {A : Type 0} (Holds : A → Type 0) (xs : List A) (x : A) → All Holds xs → Holds x → All Holds (xs ++ x ∷ [])
All-push Holds [] x h g = All-cons Holds x [] g (All-nil Holds)
All-push Holds (y ∷ xs) x h g = All-cons Holds y (xs ++ x ∷ []) (All-head Holds y xs h) (All-push Holds xs x (All-tail Holds y xs h) g)

module _ (table : Table) (c : Construction) where
  pub leads : (known : List Var) (left : ℕ) (q : Summands) (steps : List ChainStep) (left' : ℕ) (e : Summands)
      → LeadsBySteps table c known left q steps left' e → LeadsTo table c known left q steps left' e
  leads known left q [] left' e h = h
  leads known left q (moves move r ∷ steps) left' e h = (h.2, leads known (left - move_charge (replacement table c move q) q) r steps left' e h.3)
  leads known left q (cuts f r ∷ steps) left' e h = (h.1, leads known left r steps left' e h.2)

  pub chain_accepted : (known : List Var) (left : ℕ) (e : Tree) (chain : Chain) (left' : ℕ) → IsDefinedChain table c known left e chain left' → IsAcceptedChain table c known left e chain left'
  chain_accepted known left e chain left' h = record {
    started = h.started;
    leads = leads known (left - start_charge e) (start_of e) chain.steps left' chain.end h.leads;
    ended = h.ended;
  }

  module _ (sound : IsSoundTable table c) where
    abbrev HasSampleVariables : Summands → Type 0
    HasSampleVariables q = AllVariables (λ v. Contains (sample_variables c) v) q

    end_contained : (known : List Var) (left : ℕ) (e : Tree) (chain : Chain) (left' : ℕ) → IsDefinedChain table c known left e chain left'
        → IsTermBelow (length c.steps) c.params e → IsSoundTerm c e → HasSampleVariables chain.end
    end_contained known left e chain left' h below term =
        let n = length c.steps in
        of-both IsPlain (IsNamed c n) (λ v. Contains (sample_variables c) v) (plain_contained c n) chain.end h.ended
        (chain_named table c sound known n (left - start_charge e) (start_of e) chain.steps left' chain.end (term.named n below)
        (leads known (left - start_charge e) (start_of e) chain.steps left' chain.end h.leads))

    end_polynomial : (known : List Var) (left : ℕ) (e : Tree) (chain : Chain) (left' : ℕ) → IsDefinedChain table c known left e chain left' → IsPolynomial chain.end
    end_polynomial known left e chain left' h =
        chain_polynomial table c sound known (left - start_charge e) (start_of e) chain.steps left' chain.end (start_polynomial e h.started.room)
        (leads known (left - start_charge e) (start_of e) chain.steps left' chain.end h.leads)

    -- what is listed: polynomials, none of them 0, with the variables of a sample
    record AreFit (listed : List Summands) : Type 0 where
      polynomials : All IsPolynomial listed
      some : All (λ q. (q ≡ []) → ⊥) listed
      contained : All HasSampleVariables listed

    fit_nothing : AreFit []
    fit_nothing = record { polynomials = All-nil IsPolynomial; some = All-nil (λ (q : Summands). (q ≡ []) → ⊥); contained = All-nil HasSampleVariables }

    fit_push : (listed : List Summands) (q : Summands) → AreFit listed → IsPolynomial q → ((q ≡ []) → ⊥) → HasSampleVariables q → AreFit (listed ++ q ∷ [])
    fit_push listed q fit polynomial nonzero contained = record {
      polynomials = All-push IsPolynomial listed q fit.polynomials polynomial;
      some = All-push (λ q. (q ≡ []) → ⊥) listed q fit.some nonzero;
      contained = All-push HasSampleVariables listed q fit.contained contained;
    }

    sample_accepted : (listed : List Summands) (left : ℕ) (values : List (Var × ℤ)) (left' : ℕ) → AreFit listed → left < 2 ^ 127
        → IsLeastSample c listed left values left' → (more : ℕ) × (left' ≤ more) × IsAcceptedSample c listed left values more
    sample_accepted listed left values left' fit small h =
        let collected = collected_polynomials listed fit.polynomials in
        let found = sample_keeps (sample_variables c) listed values fit.some h.least in
        let single = single_made (sample_variables c) listed values left left' h.least h.made in (
          single.0,
          single.1,
          record {
            variables = found.variables;
            fits = values_fit (sample_variables c) listed values left left' small collected fit.some h.least h.made;
            made = single.2;
            nonzero = found.keeps;
          },
        )

    abbrev begins : (head : Line) (known : List Var) (left : ℕ) (item : Item) (lines : List Line)
        → BeginsWithChain (IsDefinedChain table c) (IsLeastSample c) head known left item lines → BeginsWithChain (IsAcceptedChain table c) (IsAcceptedSample c) head known left item lines
    begins head known left item lines first = record {
      chain = first.chain;
      after = first.after;
      rest = first.rest;
      split = first.split;
      works = chain_accepted known left item.term first.chain first.after first.works;
    }

    -- a chain leaves no more steps than there were
    spent_by : (known : List Var) (left : ℕ) (item : Item) (chain : Chain) (after : ℕ) → IsDefinedChain table c known left item.term chain after → left < 2 ^ 127 → after < 2 ^ 127
    spent_by known left item chain after works small =
        let spent : after ≤ left = chain_spent table c known left item.term chain after (chain_accepted known left item.term chain after works) in
        omega (arith, spent, small)

    concluded : (listed : List Summands) (left : ℕ) (lines : List Line) (verdict : Verdict) (left' : ℕ) → AreFit listed → left < 2 ^ 127
        → IsConcluded (IsDefinedChain table c) (IsLeastSample c) listed left lines verdict left'
        → (more : ℕ) × (left' ≤ more) × IsConcluded (IsAcceptedChain table c) (IsAcceptedSample c) listed left lines verdict more
    concluded listed left lines verdict left' fit small h =
        let sample = sample_accepted listed left h.values left' fit small h.chosen in
        (sample.0, sample.1, record { values = h.values; chosen = sample.2; split = h.split })

    goals_accepted : (known : List Var) (listed : List Summands) (k left : ℕ) (items : List Item) (lines : List Line) (verdict : Verdict) (left' : ℕ)
        → AreNamed c items → AreFit listed → left < 2 ^ 127
        → AreGoalsWorked (IsDefinedChain table c) (IsLeastSample c) known listed k left items lines verdict left'
        → (more : ℕ) × (left' ≤ more) × AreGoalsWorked (IsAcceptedChain table c) (IsAcceptedSample c) known listed k left items lines verdict more
    goals_accepted known listed k left [] lines verdict left' named fit small h =
        let end = concluded listed left lines Proved left' fit small h.1 in (end.0, end.1, (h.0, end.2))
    goals_accepted known listed k left (item ∷ items) lines verdict left' named fit small (first, inl ended) =
        let rest = goals_accepted known listed (suc k) first.after items first.rest verdict left' (λ i other at. named (suc i) other at) fit
        (spent_by known left item first.chain first.after first.works small) ended.1 in
        (rest.0, rest.1, (begins (Goal k item.text) known left item lines first, inl (ended.0, rest.2)))
    goals_accepted known listed k left (item ∷ items) lines verdict left' named fit small (first, inr failed) =
        let own = named 0 item refl in
        let end = concluded (listed ++ first.chain.end ∷ []) first.after first.rest (False k) left'
        (fit_push listed first.chain.end fit (end_polynomial known left item.term first.chain first.after first.works) failed.0
        (end_contained known left item.term first.chain first.after first.works own.0 own.1)) (spent_by known left item first.chain first.after first.works small) failed.2 in
        (end.0, end.1, (begins (Goal k item.text) known left item lines first, inr (failed.0, failed.1, end.2)))

    conditions_accepted : (goals : List Item) (known : List Var) (listed : List Summands) (k left : ℕ) (items : List Item) (lines : List Line) (verdict : Verdict) (left' : ℕ)
        → AreNamed c goals → AreNamed c items → AreFit listed → left < 2 ^ 127
        → AreConditionsWorked (IsDefinedChain table c) (IsLeastSample c) goals known listed k left items lines verdict left'
        → (more : ℕ) × (left' ≤ more) × AreConditionsWorked (IsAcceptedChain table c) (IsAcceptedSample c) goals known listed k left items lines verdict more
    conditions_accepted goals known listed k left [] lines verdict left' ends named fit small h =
        goals_accepted known listed 1 left goals lines verdict left' ends fit small h
    conditions_accepted goals known listed k left (item ∷ items) lines verdict left' ends named fit small (first, inl ended) =
        (left', omega arith, (begins (Condition k item.text) known left item lines first, inl ended))
    conditions_accepted goals known listed k left (item ∷ items) lines verdict left' ends named fit small (first, inr more) =
        let own = named 0 item refl in
        let rest = conditions_accepted goals (known ++ known_by (item ∷ [])) (listed ++ first.chain.end ∷ [])
        (suc k) first.after items first.rest verdict left' ends (λ i other at. named (suc i) other at)
        (fit_push listed first.chain.end fit (end_polynomial known left item.term first.chain first.after first.works) more.0
        (end_contained known left item.term first.chain first.after first.works own.0 own.1)) (spent_by known left item first.chain first.after first.works small) more.1 in
        (rest.0, rest.1, (begins (Condition k item.text) known left item lines first, inr (more.0, rest.2)))

-- THE LAW
pub provers_log_accepted : ProversLogIsAccepted
provers_log_accepted table subject steps left lines verdict sound conditions goals small h =
    let c = subject.construction in
    let found = conditions_accepted table c sound subject.goals [] [] 1 steps subject.conditions h.rest verdict left goals conditions (fit_nothing table c sound) small h.worked in
    (found.0, found.1, record { rest = h.rest; split = h.split; worked = found.2 })
