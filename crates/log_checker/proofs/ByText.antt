-- Lines of moves and cuts that are judged by their text.
use Rattle.std.proofs.Common.{◌≡◌, ℕ, ◌+◌, ◌-◌, Bool, true, false, Option, Some, None, Result, Ok, Err, IfOk, IsTrue, List, [], ◌∷◌, ◌++◌, take, length, refl, sym, ap, subst, ◌∙◌, ℤ, arith}
use Rattle.std.specs.Prelude.{MatchOption}
use Rattle.std.specs.Option.{option_to_list}
use Rattle.std.proofs.lemmas.List.{append-nil, length-append}
use Rattle.geo_poly.specs.declared.variables.Var.{Var}
use Rattle.geo_poly.specs.Cuts.{IsCut}
use Rattle.geo_poly.specs.Factors.{IsFactor}
use Rattle.geo_poly.specs.Monomials.{Powers}
use Rattle.geo_poly.specs.PolynomialVariables.{variables_of}
use Rattle.geo_poly.specs.Polynomials.{Summands}
use Rattle.geo_poly.specs.SortedVariables.{IsSorted}
use Rattle.geo_poly.proofs.EachVariable.{all_variables, each-contained, each-variables}
use Rattle.geo_terms.specs.Constructions.{Construction, IsConstruction}
use Rattle.geo_conditions.specs.declared.problem.Problem.{Problem}
use Rattle.proof_log.specs.declared.log.Line.{Line}
use Rattle.proof_log.specs.declared.log.Line.TheVariants.{Cut}
use Rattle.proof_log.specs.Writable.{CanWriteFactor, CanWritePolynomial, IsVariable, IsWritable}
use Rattle.elim_apply.specs.LemmaTable.{lemma_table}
use Rattle.geo_logs.specs.Chains.{cuts, line_of, moves}
use Rattle.geo_logs.specs.Judging.{IsByKnown}
use Rattle.geo_logs.specs.Moves.{IsMoved, move_charge, replacement}
use Rattle.geo_logs.specs.Starts.{start_charge, start_of}
use Rattle.geo_logs.specs.declared.moves.Move.{Move}
use Rattle.log_checker.specs.Checkers.{header_of, subject_of}
use Rattle.proof_log.specs.Steps.{polynomial_on}
use Rattle.log_checker.specs.Judged.{IsRead}
use Rattle.log_checker.specs.Inner.ByText.{IsStepText, IsStepTo, StepGoesOn}
use Rattle.log_checker.specs.Inner.Lines.{IsNamedBy, IsReached, IsReady}
use Rattle.log_checker.specs.declared.due.Due.TheVariants as due
use Rattle.log_checker.specs.declared.due.Task.{Task}
use Rattle.log_checker.specs.declared.evidence.Evidence.{Evidence}
use Rattle.log_checker.proofs.DueChains.{worked_there}
use Rattle.log_checker.proofs.DueProblems.{construction_valid, task_below}
use Rattle.log_checker.proofs.Writing.{IsOwn, cut_own, moved_own, path_own, start_own, written}

-- THE LINE THAT IS DUE
module _ (c : Construction) (construction : IsConstruction c) (known : List Var) (left : ℕ) (q : Summands) (named : IsNamedBy c q) (h : CanWritePolynomial q) where
  own : IsOwn c construction q
  own = record {
    polynomial = h.polynomial;
    sorted = all_variables IsSorted q (λ v st. (each-contained IsVariable (variables_of q) v (each-variables IsVariable q h.variables) st).sorted);
    named = named;
  }

  pub move_to : (mv : Move) (r : Summands) (left' : ℕ) (line : Line) → IsMoved (replacement lemma_table c mv q) left q r
      → left' ≡ left - move_charge (replacement lemma_table c mv q) q → line ≡ line_of (moves mv r) → polynomial_on line ≡ Some r
      → (CanWritePolynomial r → IsWritable line) → IsStepTo c known left q left' line
  move_to mv r left' line moved paid is has fits = record {
    poly = r;
    has = has;
    writable = fits (written c construction r (moved_own c construction mv left q r own moved));
    is_step = record { step = moves mv r; leads = (moved, (sym paid, refl)); is = is };
  }

  pub cut_to : (f : Powers × ℤ) (r : Summands) → IsCut known f q r → CanWriteFactor f → IsStepTo c known left q left (Cut f r)
  cut_to f r cut fits = record {
    poly = r;
    has = refl;
    writable = (fits, written c construction r (cut_own c construction known f q r own cut));
    is_step = record { step = cuts f r; leads = (cut, (refl, refl)); is = refl };
  }

-- A CUT OF ZERO
pub zero_cut : (c : Construction) (known : List Var) (left : ℕ) (text : List ℕ) (line : Line) (f : Powers × ℤ) (r : Summands) → IsRead text (Some line)
    → line ≡ Cut f r → r ≡ [] → IsFactor f → IsByKnown known f.0 → IsStepText c known left [] text left []
zero_cut c known left text line f r read is none factor by_known = record {
  line = line;
  writable = read.0;
  spelt = read.1;
  is_step = record {
    step = cuts f [];
    leads = (record { factor = factor; by_known = by_known; polynomial = record { in_order = tt; monomials = tt; norm_fits = omega arith }; exact = refl }, (refl, refl));
    is = is ∙ ap (Cut f) none;
  };
}

-- a chain at zero goes on by it, or stays as it was
zero_goes_on : (c : Construction) (text : List ℕ) (e : Evidence) (q : Summands) → q ≡ [] → (y : Bool)
    → (IsTrue y → IsStepText c e.known e.budget.left [] text e.budget.left []) → StepGoesOn c text e q e q y
zero_goes_on c text e q none true h = (refl, subst (λ (r : Summands). IsStepText c e.known e.budget.left r text e.budget.left r) (sym none) (h refl))
zero_goes_on c text e q none false h = (refl, refl)

pub cut_goes_on : {E : Type 0} (c : Construction) (text : List ℕ) (e : Evidence) (q : Summands) → q ≡ [] → (result : Result Bool E)
    → IfOk result (λ y. IsTrue y → IsStepText c e.known e.budget.left [] text e.budget.left []) → IfOk result (StepGoesOn c text e q e q)
cut_goes_on c text e q none (Ok y) h = zero_goes_on c text e q none y h
cut_goes_on c text e q none (Err x) h = tt

-- THE POLYNOMIAL BEFORE IT
module _ (q : Problem) (ready : IsReady q) where
  pub step_written : (e : Evidence) (t : Task) (own : Option Var) (r : Summands) → IsReached q e (due.Step t own r) → CanWritePolynomial r
  step_written e t alone r (head, steps, good, d) =
      let c = q.steps in
      let construction = construction_valid q ready in
      let term = d.item.term in
      let w = worked_there (subject_of head q) steps (header_of (subject_of head q) steps t d.item) e.known d.first term d.lines e.budget.left r d.open_chain in
      let below = task_below q ready head steps d.before e.known e.ends d.first t d.item d.due in
      written c construction r (path_own c construction e.known (d.first - start_charge term) (start_of term) w.front e.budget.left r
      (start_own c construction d.first term below w.started) w.leads)

-- THE TEXT
take_front : (l m : List ℕ) → take (length l) (l ++ m) ≡ l
take_front [] m = refl
take_front (x ∷ l) m = ap (λ (k : List ℕ). x ∷ k) (take_front l m)

-- without its last byte
all_but_last : (l : List ℕ) (b : ℕ) → take (length (l ++ b ∷ []) - 1) (l ++ b ∷ []) ≡ l
all_but_last l b =
    let longer : length (l ++ b ∷ []) ≡ length l + 1 = length-append l (b ∷ []) in
    let same : length (l ++ b ∷ []) - 1 ≡ length l = omega (arith, longer) in
    ap (λ (n : ℕ). take n (l ++ b ∷ [])) same ∙ take_front l (b ∷ [])

-- what is left where the last byte is taken off
pub feed_off : (l m : List ℕ) (b : ℕ) (o : Option ℕ) (n k : ℕ) → l ++ b ∷ [] ≡ m ++ option_to_list o → length m ≡ n
    → MatchOption o ((k ≡ 0) × (n ≡ 0)) (λ _. n + 1 ≡ k) → l ≡ m
feed_off l m b None n k e len (old, new) =
    let longer : length (l ++ b ∷ []) ≡ length l + 1 = length-append l (b ∷ []) in
    let same : length (l ++ b ∷ []) ≡ length (m ++ []) = ap length e in
    let nothing : length (m ++ []) ≡ length m = ap length (append-nil m) in
    absurd (omega (arith, longer, same, nothing, len, new))
feed_off l m b (Some x) n k e len h = sym (all_but_last l b) ∙ ap (λ (t : List ℕ). take (length t - 1) t) e ∙ all_but_last m x
