-- The polynomials of accepted logs can be written.
use Rattle.std.proofs.Common.{◌≡◌, ℕ, suc, ◌<◌, ◌-◌, ◌^◌, inl, inr, ℤ, Option, Some, None, List, [], ◌∷◌, ◌++◌, length, map, refl, sym, subst, arith}
use Rattle.std.specs.List.{AllByRecursion, cons_option, filter_map}
use Rattle.std.specs.Option.{option_map}
use Rattle.fraction_poly.specs.Forms.{piece_of}
use Rattle.fraction_poly.specs.TableRows.{TableRow, made_row}
use Rattle.fraction_poly.proofs.SortedTerms.{forms_sorted, multiplied_sorted}
use Rattle.geo_poly.specs.declared.variables.Var.{Var}
use Rattle.geo_poly.specs.declared.variables.Var.TheVariants.{R, S, P, X as Abscissa, Y as Ordinate, T as Number}
use Rattle.geo_poly.specs.KeptVariables.{AllNumerators}
use Rattle.geo_poly.specs.Cuts.{IsCut}
use Rattle.geo_poly.specs.Monomials.{Powers}
use Rattle.geo_poly.specs.PolynomialVariables.{AllVariables, variables_of}
use Rattle.geo_poly.specs.Polynomials.{IsPolynomial, Summands}
use Rattle.geo_poly.specs.Replace.{row_of}
use Rattle.geo_poly.specs.SortedVariables.{IsSorted}
use Rattle.geo_poly.proofs.EachVariable.{all_variables, each-contained, each-variables, of-cut}
use Rattle.geo_poly.proofs.KeptVariables.{kept_property}
use Rattle.geo_terms.specs.Constructions.{Construction, IsConstruction}
use Rattle.geo_terms.specs.TermBounds.{IsTermBelow}
use Rattle.geo_terms.specs.Trees.{Tree}
use Rattle.geo_lowering.proofs.ConditionValues.{each_append}
use Rattle.proof_log.specs.declared.log.Line.{Line}
use Rattle.proof_log.specs.declared.log.Line.TheVariants.{Program as ProgramLine, Condition, Goal, End}
use Rattle.proof_log.specs.declared.log.Verdict.{Verdict}
use Rattle.proof_log.specs.declared.log.Verdict.TheVariants.{Proved, False}
use Rattle.proof_log.specs.Writable.{CanWritePolynomial, IsVariable}
use Rattle.geo_logs.specs.declared.moves.Move.{Move}
use Rattle.geo_logs.specs.declared.moves.Move.TheVariants.{Ratio, Point, Coords}
use Rattle.elim_apply.specs.LemmaTable.{lemma_table, move_denominator, row_of_move}
use Rattle.geo_logs.specs.Moves.{IsMoved, move_charge, replacement}
use Rattle.geo_logs.specs.Naming.{IsNamed}
use Rattle.geo_logs.specs.Sound.{IsSoundTable}
use Rattle.geo_logs.specs.Starts.{IsStarted, start_charge, start_of}
use Rattle.elim_apply.proofs.MoveRows.{lemma_table_sound}
use Rattle.geo_logs.proofs.MoveValues.{move_named}
use Rattle.geo_logs.proofs.TermVariables.{term_sound}
use Rattle.geo_logs.specs.Chains.{ChainStep, IsAcceptedChain, LeadsTo, chain_lines, cuts, line_of, moves}
use Rattle.geo_logs.specs.Logs.{AreConditionsWorked, AreGoalsWorked, BeginsWithChain, IsConcluded, Item, known_by}
use Rattle.geo_logs.specs.Samples.{IsAcceptedSample}
use Rattle.geo_logs.proofs.ChainPolynomials.{chain_polynomial, start_polynomial}
use Rattle.log_checker.specs.Accepted.{AcceptedPolynomialsAreWritable, HasWritablePolynomial}
use Rattle.log_checker.proofs.Places.{each_of}
use Rattle.log_checker.proofs.Realised.{conditions_named, goals_named}
use Rattle.log_checker.proofs.Verdicts.{parts_of, valid}

abbrev AreWritten : List Line → Type 0
AreWritten lines = AllByRecursion HasWritablePolynomial lines

module _ (c : Construction) (construction : IsConstruction c) where
  sound : IsSoundTable lemma_table c
  sound = lemma_table_sound c construction

  abbrev pub IsNamedHere : Var → Type 0
  IsNamedHere v = IsNamed c (length c.steps) v

  pub small : (k : ℕ) → k < length c.steps → k < 2 ^ 32
  small k lt = let few = construction.few in omega (arith, lt, few)

  pub variable : (v : Var) → IsSorted v → IsNamedHere v → IsVariable v
  variable (R a b d e) s n = record { sorted = s; small = (small a.0 n.0, (small b.0 n.1, (small d.0 n.2, (small e.0 n.3, tt)))) }
  variable (S a b d) s n = record { sorted = s; small = (small a.0 n.0, (small b.0 n.1, (small d.0 n.2, tt))) }
  variable (P a b d) s n = record { sorted = s; small = (small a.0 n.0, (small b.0 n.1, (small d.0 n.2, tt))) }
  variable (Abscissa a) s n = record { sorted = s; small = (small a.0 n.0, tt) }
  variable (Ordinate a) s n = record { sorted = s; small = (small a.0 n.0, tt) }
  variable (Number t) s n = record { sorted = s; small = (let fit = construction.params_fit in omega (arith, n, fit), tt) }

  -- a polynomial in sorted variables over the points and parameters
  pub record IsOwn (q : Summands) : Type 0 where
    pub polynomial : IsPolynomial q
    pub sorted : AllVariables IsSorted q
    pub named : AllVariables IsNamedHere q

  pub written : (q : Summands) → IsOwn q → CanWritePolynomial q
  written q h = record {
    polynomial = h.polynomial;
    variables = all_variables IsVariable q (λ v st.
        variable v (each-contained IsSorted (variables_of q) v (each-variables IsSorted q h.sorted) st) (each-contained IsNamedHere (variables_of q) v (each-variables IsNamedHere q h.named) st));
  }

  -- MOVES
  numerators : (move : Move) (vs : List Var) → AllNumerators IsSorted (filter_map (lemma_table.row c move) vs)
  numerators move [] = tt
  numerators move (v ∷ vs) = go (row_of_move c move v) (numerators move vs)
    where
      go : (o : Option TableRow) → AllNumerators IsSorted (filter_map (lemma_table.row c move) vs)
          → AllNumerators IsSorted (cons_option (option_map (λ r. (made_row v r).0) o) (filter_map (lemma_table.row c move) vs))
      go None rest = rest
      go (Some r) rest = (forms_sorted r.num, rest)

  pub moved_own : (move : Move) (left : ℕ) (q r : Summands) → IsOwn q → IsMoved (replacement lemma_table c move q) left q r → IsOwn r
  moved_own move left q r h m = record {
    polynomial = chain_polynomial lemma_table c sound [] left q (moves move r ∷ []) (left - move_charge (replacement lemma_table c move q) q) r h.polynomial (m, (refl, refl));
    sorted =
        subst (AllVariables IsSorted) (sym m.result)
        ((kept_property IsSorted).replacement (replacement lemma_table c move q).rows (piece_of (move_denominator c move)).poly q
        (numerators move (variables_of q)) (forms_sorted (move_denominator c move))
        (all_variables (λ v. row_of (replacement lemma_table c move q).rows v ≡ None → IsSorted v) q
        (λ v st e. each-contained IsSorted (variables_of q) v (each-variables IsSorted q h.sorted) st)));
    named = (move_named lemma_table c sound (length c.steps) move left q r h.named m).names;
  }

  pub cut_own : (known : List Var) (f : Powers × ℤ) (q r : Summands) → IsOwn q → IsCut known f q r → IsOwn r
  cut_own known f q r h k = record { polynomial = k.polynomial; sorted = (kept_property IsSorted).cut known f q r k h.sorted; named = of-cut IsNamedHere known f q r k h.named }

  -- a path keeps to such polynomials
  pub path_own : (known : List Var) (left : ℕ) (q : Summands) (steps : List ChainStep) (left' : ℕ) (e : Summands) → IsOwn q → LeadsTo lemma_table c known left q steps left' e → IsOwn e
  path_own known left q [] left' e h l = subst IsOwn l.1 h
  path_own known left q (moves move r ∷ steps) left' e h l =
      path_own known (left - move_charge (replacement lemma_table c move q) q) r steps left' e (moved_own move left q r h l.0) l.1
  path_own known left q (cuts f r ∷ steps) left' e h l = path_own known left r steps left' e (cut_own known f q r h l.0) l.1

  line_written : (move : Move) (r : Summands) → CanWritePolynomial r → HasWritablePolynomial (line_of (moves move r))
  line_written (Ratio v lemma at) r h = h
  line_written (Point at) r h = h
  line_written Coords r h = h

  steps_written : (known : List Var) (left : ℕ) (q : Summands) (steps : List ChainStep) (left' : ℕ) (e : Summands) → IsOwn q → LeadsTo lemma_table c known left q steps left' e
      → AreWritten (map line_of steps)
  steps_written known left q [] left' e h l = tt
  steps_written known left q (moves move r ∷ steps) left' e h l =
      let own = moved_own move left q r h l.0 in
      (line_written move r (written r own), steps_written known (left - move_charge (replacement lemma_table c move q) q) r steps left' e own l.1)
  steps_written known left q (cuts f r ∷ steps) left' e h l =
      let own = cut_own known f q r h l.0 in
      (written r own, steps_written known left r steps left' e own l.1)

  -- CHAINS
  pub start_own : (left : ℕ) (e : Tree) → IsTermBelow (length c.steps) c.params e → IsStarted left e → IsOwn (start_of e)
  start_own left e below started =
      record { polynomial = start_polynomial e started.room; sorted = (multiplied_sorted e).0; named = (term_sound c e).named (length c.steps) below }

  abbrev IsBelow : Item → Type 0
  IsBelow item = IsTermBelow (length c.steps) c.params item.term

  chain_written : (header : Line) → HasWritablePolynomial header → (known : List Var) (left : ℕ) (item : Item) (lines : List Line) → IsBelow item
      → (first : BeginsWithChain (IsAcceptedChain lemma_table c) (IsAcceptedSample c) header known left item lines) → AreWritten first.rest → AreWritten lines
  chain_written header h known left item lines below first rest =
      let e = item.term in
      let own = start_own left e below first.works.started in
      let steps = steps_written known (left - start_charge e) (start_of e) first.chain.steps first.after first.chain.end own first.works.leads in
      let inner = each_append HasWritablePolynomial (map line_of first.chain.steps) (End ∷ []) steps (tt, tt) in
      subst AreWritten (sym first.split) (each_append HasWritablePolynomial (chain_lines header e first.chain) first.rest (h, (written (start_of e) own, inner)) rest)

  concluded_written : (listed : List Summands) (left : ℕ) (lines : List Line) (verdict : Verdict) (left' : ℕ)
      → IsConcluded (IsAcceptedChain lemma_table c) (IsAcceptedSample c) listed left lines verdict left' → AreWritten lines
  concluded_written listed left lines verdict left' h = subst AreWritten (sym h.split) (tt, (tt, tt))

  goals_written : (known : List Var) (listed : List Summands) (k left : ℕ) (items : List Item) (lines : List Line) (verdict : Verdict) (left' : ℕ) → AllByRecursion IsBelow items
      → AreGoalsWorked (IsAcceptedChain lemma_table c) (IsAcceptedSample c) known listed k left items lines verdict left' → AreWritten lines
  goals_written known listed k left [] lines verdict left' b h = concluded_written listed left lines Proved left' h.1
  goals_written known listed k left (item ∷ items) lines verdict left' b (first, inl h) =
      chain_written (Goal k item.text) tt known left item lines b.0 first (goals_written known listed (suc k) first.after items first.rest verdict left' b.1 h.1)
  goals_written known listed k left (item ∷ items) lines verdict left' b (first, inr h) =
      chain_written (Goal k item.text) tt known left item lines b.0 first (concluded_written (listed ++ first.chain.end ∷ []) first.after first.rest (False k) left' h.2)

  conditions_written : (goals : List Item) (known : List Var) (listed : List Summands) (k left : ℕ) (items : List Item) (lines : List Line) (verdict : Verdict) (left' : ℕ)
      → AllByRecursion IsBelow goals → AllByRecursion IsBelow items
      → AreConditionsWorked (IsAcceptedChain lemma_table c) (IsAcceptedSample c) goals known listed k left items lines verdict left' → AreWritten lines
  conditions_written goals known listed k left [] lines verdict left' g b h = goals_written known listed 1 left goals lines verdict left' g h
  conditions_written goals known listed k left (item ∷ items) lines verdict left' g b (first, inl h) =
      chain_written (Condition k item.text) tt known left item lines b.0 first (subst AreWritten (sym h.2) (tt, tt))
  conditions_written goals known listed k left (item ∷ items) lines verdict left' g b (first, inr h) =
      chain_written (Condition k item.text) tt known left item lines b.0 first
      (conditions_written goals (known ++ known_by (item ∷ [])) (listed ++ first.chain.end ∷ []) (suc k) first.after items first.rest verdict left' g b.1 h.1)

-- WHOLE LOGS
program_written : (texts : List (List ℕ)) → AreWritten (map ProgramLine texts)
program_written [] = tt
program_written (t ∷ ts) = (tt, program_written ts)

pub accepted_polynomials_are_writable : AcceptedPolynomialsAreWritable
accepted_polynomials_are_writable p steps lines verdict a =
    let subject = a.subject in
    let c = subject.construction in
    let parts = parts_of p subject a.about in
    let below : Item → Type 0 = λ item. IsTermBelow (length c.steps) c.params item.term in
    let rest = conditions_written c (valid p subject a.well_formed parts) subject.goals [] [] 1 steps subject.conditions a.accepted.rest verdict a.left
    (each_of below subject.goals (λ i item at. (goals_named p subject a.well_formed parts i item at).0))
    (each_of below subject.conditions (λ i item at. (conditions_named p subject a.well_formed parts i item at).0)) a.accepted.worked in
    subst AreWritten (sym a.accepted.split) (tt, each_append HasWritablePolynomial (map ProgramLine subject.program) a.accepted.rest (program_written subject.program) rest)
