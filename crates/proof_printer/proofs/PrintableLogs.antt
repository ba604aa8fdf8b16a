-- The lines of an accepted log can be printed, one behind another.
use Rattle.std.proofs.Common.{◌≡◌, ℕ, zero, suc, ◌-◌, ◌<◌, ◌^◌, inl, inr, if◌then◌else◌, None, List, [], ◌∷◌, ◌++◌, map, length, refl, sym, subst, arith}
use Rattle.std.specs.List.{AllByRecursion, filter_map}
use Rattle.std.specs.Option.{option_map}
use Rattle.std.specs.Ordering.{is_eq}
use Rattle.fraction_poly.specs.Forms.{piece_of}
use Rattle.fraction_poly.specs.TableRows.{HasPointsBelow, made_row}
use Rattle.geo_points.specs.declared.ids.PointId.{PointId}
use Rattle.geo_poly.specs.declared.variables.Var.{Var}
use Rattle.geo_poly.specs.declared.variables.Var.TheVariants.{R, S, P, X as Abscissa, Y as Ordinate, T as Number}
use Rattle.geo_poly.specs.Polynomials.{Summands}
use Rattle.geo_poly.specs.PolynomialVariables.{AllVariables, variables_of}
use Rattle.geo_poly.specs.Variables.{var_cmp}
use Rattle.geo_poly.proofs.EachVariable.{of-both, of-cut}
use Rattle.geo_terms.specs.Constructions.{Construction, IsConstruction}
use Rattle.geo_terms.specs.TermBounds.{IsTermBelow}
use Rattle.geo_logs.specs.declared.moves.Move.{Move}
use Rattle.geo_logs.specs.declared.moves.Move.TheVariants as move
use Rattle.geo_logs.specs.Chains.{ChainStep, IsAcceptedChain, LeadsTo, cuts, line_of, moves}
use Rattle.geo_logs.specs.Logs.{AreConditionsWorked, AreGoalsWorked, BeginsWithChain, IsConcluded, Item, known_by}
use Rattle.geo_logs.specs.Moves.{IsMoved, move_charge, replacement}
use Rattle.geo_logs.specs.Naming.{IsNamed}
use Rattle.geo_logs.specs.Samples.{IsAcceptedSample}
use Rattle.geo_logs.specs.Sound.{IsSoundTable}
use Rattle.geo_logs.specs.Starts.{start_charge, start_of}
use Rattle.geo_logs.proofs.Charges.{chain_spent}
use Rattle.geo_logs.proofs.MoveValues.{move_named}
use Rattle.geo_logs.proofs.NamedPoints.{named_points}
use Rattle.geo_logs.proofs.TermVariables.{term_sound}
use Rattle.elim_apply.specs.LemmaTable.{lemma_table, row_charge, row_denominator}
use Rattle.elim_apply.proofs.MoveRows.{lemma_table_sound}
use Rattle.elim_ratio.specs.RatioTable.{ratio_table}
use Rattle.proof_log.specs.declared.log.Line.{Line}
use Rattle.proof_log.specs.declared.log.Line.TheVariants.{Header, Program as ProgramLine, Condition, Goal, End}
use Rattle.proof_log.specs.declared.log.Verdict.{Verdict}
use Rattle.proof_log.specs.declared.log.Verdict.TheVariants.{Proved, False}
use Rattle.elim_apply.specs.Replacements.{CanMove}
use Rattle.proof_printer.specs.Inner.Printing.{CanPrint, CanPrintAll}
use Rattle.proof_printer.specs.Readable.{polynomial_after}

module _ (c : Construction) (construction : IsConstruction c) where
  sound : IsSoundTable lemma_table c
  sound = lemma_table_sound c construction

  abbrev points : ℕ
  points = length c.steps

  -- MOVES
  moved : (mv : Move) (left : ℕ) (q r : Summands) → AllVariables (IsNamed c points) q → left < 2 ^ 128 → IsMoved (replacement lemma_table c mv q) left q r → CanMove c q mv
  moved mv left q r named few m = record {
    points = named_points c points q named;
    place = (move_named lemma_table c sound points mv left q r named m).place;
    within = record {
      some = m.replaces;
      charge = (let paid = m.paid in omega (arith, paid, few));
      weight = m.weight_fits;
      degree = m.degree_fits;
    };
  }

  -- lemma 0 is the same at each point
  same_rows : (x y : PointId) (v : Var) → ratio_table zero c x v ≡ ratio_table zero c y v
  same_rows x y (R a b d e) = refl
  same_rows x y (S a b d) = refl
  same_rows x y (P a b d) = refl
  same_rows x y (Abscissa a) = refl
  same_rows x y (Ordinate a) = refl
  same_rows x y (Number t) = refl

  same_replacement : (w : Var) (x y : PointId) (q : Summands) → replacement lemma_table c (move.Ratio w zero x) q ≡ replacement lemma_table c (move.Ratio w zero y) q
  same_replacement w x y q = λ i. record {
    rows = filter_map (λ v. option_map (λ r. (made_row v r).0) (if is_eq (var_cmp w v) then same_rows x y v i else None)) (variables_of q);
    den = piece_of (row_denominator (same_rows x y w i));
    charge = row_charge (same_rows x y w i);
  }

  -- the line of a move can be printed, and the polynomial behind it is its result
  step_can : (mv : Move) (left : ℕ) (q r : Summands) → AllVariables (IsNamed c points) q → left < 2 ^ 128 → IsMoved (replacement lemma_table c mv q) left q r
      → CanPrint c q (line_of (moves mv r))
  step_can (move.Ratio v zero at) left q r named few m =
      moved (move.Ratio v zero (record { 0 = 0 })) left q r named few (subst (λ made. IsMoved made left q r) (same_replacement v at (record { 0 = 0 }) q) m)
  step_can (move.Ratio v (suc k) at) left q r named few m = moved (move.Ratio v (suc k) at) left q r named few m
  step_can (move.Point at) left q r named few m = moved (move.Point at) left q r named few m
  step_can move.Coords left q r named few m = moved move.Coords left q r named few m

  after_step : (mv : Move) (q r : Summands) → polynomial_after q (line_of (moves mv r)) ≡ r
  after_step (move.Ratio v lemma at) q r = refl
  after_step (move.Point at) q r = refl
  after_step move.Coords q r = refl

  -- CHAINS
  -- the lines can be printed behind any polynomial
  abbrev Anywhere : List Line → Type 0
  Anywhere lines = (q : Summands) → CanPrintAll c q lines

  steps_can : (known : List Var) (left : ℕ) (q : Summands) (steps : List ChainStep) (left' : ℕ) (e : Summands) (rest : List Line) → AllVariables (IsNamed c points) q → left < 2 ^ 128
      → LeadsTo lemma_table c known left q steps left' e → Anywhere rest → CanPrintAll c q ((map line_of steps ++ End ∷ []) ++ rest)
  steps_can known left q [] left' e rest named few leads can = (tt, can q)
  steps_can known left q (moves mv r ∷ steps) left' e rest named few leads can =
      let spent = move_charge (replacement lemma_table c mv q) q in
      let next = steps_can known (left - spent) r steps left' e rest (move_named lemma_table c sound points mv left q r named leads.0).names (omega (arith, few)) leads.1 can in
      (step_can mv left q r named few leads.0, subst (λ (p : Summands). CanPrintAll c p ((map line_of steps ++ End ∷ []) ++ rest)) (sym (after_step mv q r)) next)
  steps_can known left q (cuts f r ∷ steps) left' e rest named few leads can =
      (tt, steps_can known left r steps left' e rest (of-cut (IsNamed c points) known f q r leads.0 named) few leads.1 can)

  abbrev IsBelow : Item → Type 0
  IsBelow item = IsTermBelow points c.params item.term

  chain_can : (head : Line) → ((q : Summands) → CanPrint c q head) → (known : List Var) (left : ℕ) (item : Item) (lines : List Line) → IsBelow item → left < 2 ^ 128
      → (first : BeginsWithChain (IsAcceptedChain lemma_table c) (IsAcceptedSample c) head known left item lines) → Anywhere first.rest → Anywhere lines
  chain_can head h known left item lines item_below few first rest =
      let e = item.term in
      let inner = steps_can known (left - start_charge e) (start_of e) first.chain.steps first.after first.chain.end first.rest ((term_sound c e).named points item_below) (omega (arith, few))
      first.works.leads rest in
      subst Anywhere (sym first.split) (λ q. (h q, (tt, inner)))

  after_few : (known : List Var) (left : ℕ) (item : Item) (head : Line) (lines : List Line)
      → (first : BeginsWithChain (IsAcceptedChain lemma_table c) (IsAcceptedSample c) head known left item lines) → left < 2 ^ 128 → first.after < 2 ^ 128
  after_few known left item head lines first few =
      let less = chain_spent lemma_table c known left item.term first.chain first.after first.works in omega (arith, less, few)

  concluded_can : (listed : List Summands) (left : ℕ) (lines : List Line) (verdict : Verdict) (left' : ℕ)
      → IsConcluded (IsAcceptedChain lemma_table c) (IsAcceptedSample c) listed left lines verdict left' → Anywhere lines
  concluded_can listed left lines verdict left' h = subst Anywhere (sym h.split) (λ q. (tt, (tt, tt)))

  goals_can : (known : List Var) (listed : List Summands) (k left : ℕ) (items : List Item) (lines : List Line) (verdict : Verdict) (left' : ℕ) → AllByRecursion IsBelow items → left < 2 ^ 128
      → AreGoalsWorked (IsAcceptedChain lemma_table c) (IsAcceptedSample c) known listed k left items lines verdict left' → Anywhere lines
  goals_can known listed k left [] lines verdict left' b few h = concluded_can listed left lines Proved left' h.1
  goals_can known listed k left (item ∷ items) lines verdict left' b few (first, inl h) =
      chain_can (Goal k item.text) (λ q. tt) known left item lines b.0 few first
      (goals_can known listed (suc k) first.after items first.rest verdict left' b.1 (after_few known left item (Goal k item.text) lines first few) h.1)
  goals_can known listed k left (item ∷ items) lines verdict left' b few (first, inr h) =
      chain_can (Goal k item.text) (λ q. tt) known left item lines b.0 few first
      (concluded_can (listed ++ first.chain.end ∷ []) first.after first.rest (False k) left' h.2)

  conditions_can : (goals : List Item) (known : List Var) (listed : List Summands) (k left : ℕ) (items : List Item) (lines : List Line) (verdict : Verdict) (left' : ℕ)
      → AllByRecursion IsBelow goals → AllByRecursion IsBelow items → left < 2 ^ 128
      → AreConditionsWorked (IsAcceptedChain lemma_table c) (IsAcceptedSample c) goals known listed k left items lines verdict left' → Anywhere lines
  conditions_can goals known listed k left [] lines verdict left' g b few h = goals_can known listed 1 left goals lines verdict left' g few h
  conditions_can goals known listed k left (item ∷ items) lines verdict left' g b few (first, inl h) =
      chain_can (Condition k item.text) (λ q. tt) known left item lines b.0 few first (subst Anywhere (sym h.2) (λ q. (tt, tt)))
  conditions_can goals known listed k left (item ∷ items) lines verdict left' g b few (first, inr h) =
      chain_can (Condition k item.text) (λ q. tt) known left item lines b.0 few first
      (conditions_can goals (known ++ known_by (item ∷ [])) (listed ++ first.chain.end ∷ []) (suc k) first.after items first.rest verdict left' g b.1
      (after_few known left item (Condition k item.text) lines first few) h.1)

  -- THE WHOLE LOG
  program_can : (texts : List (List ℕ)) (rest : List Line) → Anywhere rest → Anywhere (map ProgramLine texts ++ rest)
  program_can [] rest h = h
  program_can (t ∷ ts) rest h = λ q. (tt, program_can ts rest h q)

  pub log_can : (version : ℕ) (program : List (List ℕ)) (conditions goals : List Item) (steps : ℕ) (lines rest : List Line) (verdict : Verdict) (left : ℕ)
      → AllByRecursion IsBelow goals → AllByRecursion IsBelow conditions → steps < 2 ^ 128 → lines ≡ Header version ∷ map ProgramLine program ++ rest
      → AreConditionsWorked (IsAcceptedChain lemma_table c) (IsAcceptedSample c) goals [] [] 1 steps conditions rest verdict left → CanPrintAll c [] lines
  log_can version program conditions goals steps lines rest verdict left g b few split worked =
      let behind = conditions_can goals [] [] 1 steps conditions rest verdict left g b few worked in
      subst (CanPrintAll c []) (sym split) (tt, program_can program rest behind [])
