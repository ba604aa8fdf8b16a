-- Each line of the prover's log may be written.
use Rattle.std.proofs.Common.{◌≡◌, ℕ, zero, suc, ◌+◌, ◌^◌, ◌<◌, ◌≤◌, inl, inr, Bool, true, false, cond, All, Contains, ℤ, Option, Some}
use Rattle.std.proofs.Common.{None, List, [], ◌∷◌, ◌++◌, map, length, unsigned_abs, refl, sym, ap, subst, arith, lit<}
use Rattle.std.specs.Prelude.{find}
use Rattle.std.specs.List.{AllByRecursion}
use Rattle.std.specs.Option.{is_some}
use Rattle.std.proofs.lemmas.List.{length-append}
use Rattle.std.proofs.lemmas.List.Elements.{All-head, All-tail}
use Rattle.sparse_lists.specs.SparseLists.{AllKeys}
use Rattle.geo_points.specs.declared.ids.PointId.{PointId}
use Rattle.geo_poly.specs.declared.variables.Var.{Var}
use Rattle.geo_poly.specs.Monomials.{Powers}
use Rattle.geo_poly.specs.PolynomialVariables.{IsRatio, variables_of}
use Rattle.geo_poly.specs.Polynomials.{Summands}
use Rattle.geo_poly.proofs.EachVariable.{each-contained, each-variables}
use Rattle.geo_sample.proofs.LeastSamples.{collected_polynomials, sample_keeps}
use Rattle.geo_terms.specs.Constructions.{Construction, IsConstruction}
use Rattle.geo_terms.specs.declared.steps.Step.{Step}
use Rattle.geo_terms.specs.declared.steps.Step.TheVariants.{Point as FreeStep, Inter, Foot, Pratio, Tratio, Weights}
use Rattle.geo_lowering.proofs.ConditionValues.{each_append}
use Rattle.elim_apply.specs.FirstLemmas.{lemmas}
use Rattle.elim_apply.specs.LemmaTable.{lemma_table}
use Rattle.elim_apply.proofs.FirstRows.{first_lemma_has_row}
use Rattle.elim_ratio.specs.RatioTable.{first_lemma}
use Rattle.proof_log.specs.declared.log.Line.{Line}
use Rattle.proof_log.specs.declared.log.Line.TheVariants.{Condition, Goal, Header, Program as ProgramLine, Verdict as VerdictLine}
use Rattle.proof_log.specs.declared.log.Verdict.TheVariants.{Proved, False, Impossible}
use Rattle.proof_log.specs.Lines.{line_text, log_text}
use Rattle.proof_log.specs.Writable.{AllWritable, CanWriteLemma, CanWriteValues, HasNoLineFeed, IsVariable, IsVersion, IsWritable}
use Rattle.geo_logs.specs.declared.moves.Move.{Move}
use Rattle.geo_logs.specs.declared.moves.Move.TheVariants.{Ratio, Point, Coords}
use Rattle.geo_logs.specs.Chains.{ChainStep, cuts, line_of, moves}
use Rattle.geo_logs.specs.Defined.{IsConstructed, IsDefinedChain, IsNextMove, LeadsBySteps, named_point}
use Rattle.geo_logs.specs.Ends.{IsNext, comes, stop_line, text_length}
use Rattle.geo_logs.specs.Logs.{Subject}
use Rattle.geo_logs.specs.Moves.{Stop, place_of_lemma, spent, too_large}
use Rattle.geo_logs.specs.Places.{Place, before_line, before_sample, before_start, first_lines, in_chain}
use Rattle.geo_logs.specs.Samples.{IsLeastSample, coordinates_from, parameters_from, sample_variables}
use Rattle.geo_logs.proofs.OneList.{defined_log_unique}
use Rattle.geo_logs.proofs.SampleSizes.{values_fit}
use Rattle.log_checker.specs.Begun.{DefinedLogsAreWritable, NextLinesAreWritable}
use Rattle.log_checker.proofs.GoingOn.{begun_first, comes_next, continued, none_fits}
use Rattle.log_checker.proofs.LineFeeds.{condition_texts, goal_texts, program_texts}
use Rattle.log_checker.proofs.Places.{At, below, first, of_map}
use Rattle.log_checker.proofs.Reached.{goes_on_everywhere}
use Rattle.log_checker.proofs.Standing.{IsGood, construction_of, place_good, prover_accepted}
use Rattle.log_checker.proofs.Writing.{IsOwn, cut_own, moved_own, small, start_own, written}
use Rattle.log_checker.proofs.VersionNumbers.{version_is}

-- the number of the first lemma of a ratio is small
found_small : (p : ℕ → Bool) (xs : List ℕ) (x : ℕ) → AllByRecursion (λ (n : ℕ). n < 2 ^ 32) xs → find p xs ≡ Some x → x < 2 ^ 32
found_small p [] x h e = let q : ◌≡◌ {A = Option ℕ} None (Some x) = e in absurd (cc)
found_small p (z ∷ zs) x h e = go (p z) (found_small p zs x h.1) e
  where
    go : (b : Bool) → (find p zs ≡ Some x → x < 2 ^ 32) → cond b (Some z) (find p zs) ≡ Some x → x < 2 ^ 32
    go true rest f = let q : ◌≡◌ {A = Option ℕ} (Some z) (Some x) = f in let same : z ≡ x = cc in subst (λ n. n < 2 ^ 32) same h.0
    go false rest f = rest f

module _ (c : Construction) (construction : IsConstruction c) where
  -- RATIOS
  constructed_small : (y : PointId) → IsConstructed c y → y.0 < 2 ^ 32
  constructed_small y h = small c construction y.0 (below c.steps y.0 h.step h.made)

  lemma_written : (lemma : ℕ) (at y : PointId) → lemma < 2 ^ 32 → at ≡ named_point lemma y → y.0 < 2 ^ 32 → CanWriteLemma lemma (place_of_lemma lemma at)
  lemma_written zero at y s e few = record { small = s; point = tt; no_point = ((λ h. refl), (λ h. refl)) }
  lemma_written (suc k) at y s e few =
      record { small = s; point = subst (λ (z : PointId). z.0 < 2 ^ 32) (sym e) few; no_point = ((λ h. let q : true ≡ false = h in absurd (cc)), (λ (h : suc k ≡ 0). absurd (omega (arith, h)))) }

  first_small : (y : PointId) (v : Var) → IsRatio v → first_lemma c y v < 2 ^ 32
  first_small y v h =
      found_small (λ lemma. is_some (lemma_table.row c (Ratio v lemma y) v)) lemmas (first_lemma c y v)
      (lit< tt, (lit< tt, (lit< tt, (lit< tt, (lit< tt, (lit< tt, (lit< tt, tt))))))) (first_lemma_has_row c y v h)

  own_variable : (q : Summands) (v : Var) → IsOwn c construction q → Contains (variables_of q) v → IsVariable v
  own_variable q v h st = each-contained IsVariable (variables_of q) v (each-variables IsVariable q (written c construction q h).variables) st

  -- MOVES AND CUTS
  move_written : (q r : Summands) (move : Move) → IsOwn c construction q → IsNextMove lemma_table c q move → IsOwn c construction r → IsWritable (line_of (moves move r))
  move_written q r (Ratio v lemma at) h (inl n) o =
      let few = constructed_small n.0 n.1.constructed in
      let lemma_small : lemma < 2 ^ 32 = subst (λ k. k < 2 ^ 32) (sym n.3) (first_small n.0 v n.2.ratio) in
      (n.2.ratio, own_variable q v h n.2.stands, lemma_written lemma at n.0 lemma_small n.4 few, written c construction r o)
  move_written q r (Ratio v lemma at) h (inr n) o =
      let none : PointId = record { 0 = 0 } in
      let zero_lemma : lemma < 2 ^ 32 = subst (λ k. k < 2 ^ 32) (sym n.2) (lit< tt) in
      let there : at ≡ named_point lemma none = subst (λ k. at ≡ named_point k none) (sym n.2) n.3 in
      (n.1.ratio, own_variable q v h n.1.stands, lemma_written lemma at none zero_lemma there (lit< tt), written c construction r o)
  move_written q r (Point y) h n o = (constructed_small y n.0.constructed, written c construction r o)
  move_written q r Coords h n o = written c construction r o

  keys_known : (known : List Var) (m : Powers) → AllByRecursion IsVariable known → AllKeys (λ v. Contains known v) m → AllKeys IsVariable m
  keys_known known [] h k = tt
  keys_known known (u ∷ m) h k = (each_contained known u.0 h k.0, keys_known known m h k.1)
    where
      each_contained : (vs : List Var) (v : Var) → AllByRecursion IsVariable vs → Contains vs v → IsVariable v
      each_contained [] v g (i, lt, e) = absurd (omega (arith, lt))
      each_contained (w ∷ vs) v g (zero, lt, e) = subst IsVariable e g.0
      each_contained (w ∷ vs) v g (suc i, lt, e) = each_contained vs v g.1 (i, omega (arith, lt), e)

  step_written : (known : List Var) (left : ℕ) (q : Summands) (step : ChainStep) (left' : ℕ) (r : Summands) → IsOwn c construction q → AllByRecursion IsVariable known
      → LeadsBySteps lemma_table c known left q (step ∷ []) left' r → IsWritable (line_of step)
  step_written known left q (moves move s) left' r h k l = move_written q s move h l.1 (moved_own c construction move left q s h l.2)
  step_written known left q (cuts f s) left' r h k l =
      (record { factor = l.1.factor; variables = keys_known known f.0 k l.1.by_known }, written c construction s (cut_own c construction known f q s h l.1))

  -- SAMPLES
  coordinates_small : (k n : ℕ) (steps : List Step) → k + length steps ≤ n → n < 2 ^ 32 → AllByRecursion IsVariable (coordinates_from k steps)
  coordinates_small k n [] h f = tt
  coordinates_small k n (FreeStep ∷ steps) h f =
      let one : k < 2 ^ 32 = omega (arith, h, f) in
      (record { sorted = tt; small = (one, tt) }, (record { sorted = tt; small = (one, tt) }, coordinates_small (suc k) n steps (omega (arith, h)) f))
  coordinates_small k n (Inter u v p q ∷ steps) h f = coordinates_small (suc k) n steps (omega (arith, h)) f
  coordinates_small k n (Foot p u v ∷ steps) h f = coordinates_small (suc k) n steps (omega (arith, h)) f
  coordinates_small k n (Pratio w u v r ∷ steps) h f = coordinates_small (suc k) n steps (omega (arith, h)) f
  coordinates_small k n (Tratio u v r ∷ steps) h f = coordinates_small (suc k) n steps (omega (arith, h)) f
  coordinates_small k n (Weights o u v r s ∷ steps) h f = coordinates_small (suc k) n steps (omega (arith, h)) f

  parameters_small : (k count n : ℕ) → k + count ≤ n → n < 2 ^ 32 → AllByRecursion IsVariable (parameters_from k count)
  parameters_small k zero n h f = tt
  parameters_small k (suc count) n h f = (record { sorted = tt; small = ((let one : k < 2 ^ 32 = omega (arith, h, f) in one), tt) }, parameters_small (suc k) count n (omega (arith, h)) f)

  sample_small : AllByRecursion IsVariable (sample_variables c)
  sample_small =
      each_append IsVariable (coordinates_from 0 c.steps) (parameters_from 0 c.params)
      (coordinates_small 0 (length c.steps) c.steps (omega arith) (let few = construction.few in omega (arith, few)))
      (parameters_small 0 c.params c.params (omega arith) (let fit = construction.params_fit in omega (arith, fit)))

  values_written : (values : List (Var × ℤ)) → AllByRecursion IsVariable (map (λ (v : Var × ℤ). v.0) values) → All (λ (v : Var × ℤ). unsigned_abs v.1 < 2 ^ 127) values → CanWriteValues values
  values_written [] h f = tt
  values_written (v ∷ vs) h f =
      let P : Var × ℤ → Type 0 = λ w. unsigned_abs w.1 < 2 ^ 127 in
      (record { variable = h.0; fits = All-head P v vs f }, values_written vs h.1 (All-tail P v vs f))

  -- A PLACE
  due_written : (steps n : ℕ) (line : Line) → n < 2 ^ 32 → IsGood c construction HasNoLineFeed steps n (before_line line) → IsWritable line
  due_written steps n (Condition k text) few h = record { positive = h.0; small = (let b = h.1 in omega (arith, b, few)); one_line = h.2 }
  due_written steps n (Goal k text) few h = record { positive = h.0; small = (let b = h.1 in omega (arith, b, few)); one_line = h.2 }
  due_written steps n (VerdictLine Proved) few h = tt
  due_written steps n (VerdictLine (False k)) few h = omega (arith, h, few)
  due_written steps n (VerdictLine (Impossible k)) few h = omega (arith, h, few)
  due_written steps n _ few h = absurd h

  next_written : (steps n : ℕ) (place : Place) (line : Line) → steps < 2 ^ 127 → n < 2 ^ 32
      → IsGood c construction HasNoLineFeed steps n place → IsNext lemma_table c place (comes line) → IsWritable line
  next_written steps n (before_line due) line s few h next = subst IsWritable (sym (comes_next lemma_table c (before_line due) line next)) (due_written steps n due few h)
  next_written steps n (before_start left e) line s few h next = subst IsWritable (sym next.0) (written c construction _ (start_own c construction left e h next.1))
  next_written steps n (in_chain known left q) line s few h (inl (step, left', r, leads, is)) = subst IsWritable (sym is) (step_written known left q step left' r h.0 h.1 leads)
  next_written steps n (in_chain known left q) line s few h (inr (none, end, is)) = subst IsWritable (sym is) tt
  next_written steps n (before_sample listed left) line s few h (values, left', least, is) =
      let low : left < 2 ^ 127 = let b = h.1 in omega (arith, b, s) in
      let fit = values_fit (sample_variables c) listed values left left' low (collected_polynomials listed h.0.0) h.0.1 least.least least.made in
      let same = (sample_keeps (sample_variables c) listed values h.0.1 least.least).variables in
      subst IsWritable (sym is) (values_written values (subst (AllByRecursion IsVariable) (sym same) sample_small) fit)

-- THE FIRST LINES
first_written : (subject : Subject) → IsVersion subject.version → ((i : ℕ) (text : List ℕ) → At subject.program i text → HasNoLineFeed text)
    → (k : ℕ) (line : Line) → At (first_lines subject) k line → IsWritable line
first_written subject version texts zero line at = subst IsWritable (first (Header subject.version) line (map ProgramLine subject.program) at) version
first_written subject version texts (suc k) line at =
    let found = of_map ProgramLine subject.program k line at in subst IsWritable (sym found.2) (texts k found.0 found.1)

-- LENGTHS
pub lines_fit : (lines : List Line) → length lines ≤ text_length lines
lines_fit [] = omega arith
lines_fit (l ∷ ls) =
    let f : Line → List ℕ = λ m. line_text m ++ 10 ∷ [] in
    let a : text_length (l ∷ ls) ≡ length (f l) + text_length ls = length-append (f l) (log_text ls) in
    let b : length (f l) ≡ length (line_text l) + 1 = length-append (line_text l) (10 ∷ []) in
    let rest = lines_fit ls in omega (arith, a, b, rest)

-- PROGRAMS
pub next_lines_are_writable : NextLinesAreWritable
next_lines_are_writable p subject steps lines place line w s few (inl (k, due, at, taken, stands)) fits next =
    let is = comes_next lemma_table subject.construction (before_line due) line (subst (λ q. IsNext lemma_table subject.construction q (comes line)) stands next) in
    subst IsWritable (sym is) (first_written subject (subst IsVersion (sym s.same_version) (version_is s.version)) (program_texts p w subject s) k due at)
next_lines_are_writable p subject steps lines place line w s few (inr (rest, split, h)) fits next =
    let c = subject.construction in
    let construction = construction_of p subject w s HasNoLineFeed steps in
    let good = place_good p subject w s HasNoLineFeed steps (LeadsBySteps lemma_table c) (IsDefinedChain lemma_table c) (IsLeastSample c) (prover_accepted c)
    (goal_texts p w subject s) (condition_texts p w subject s) rest place h in
    let a : length lines ≡ length (first_lines subject ++ rest) = ap length split in
    let b = length-append (first_lines subject) rest in
    let d = lines_fit lines in
    next_written c construction steps (suc (length rest)) place line few (let enough : suc (length rest) < 2 ^ 32 = omega (arith, a, b, d, fits) in enough) good next

stop_written : (lines : List Line) (stop : Stop) → text_length lines ≤ 67108864 → IsWritable (stop_line (suc (length lines)) stop)
stop_written lines spent fits = let d = lines_fit lines in omega (arith, d, fits)
stop_written lines (too_large which) fits = let d = lines_fit lines in omega (arith, d, fits)

all_written : (lines : List Line) → AllByRecursion IsWritable lines → AllWritable lines
all_written [] h = tt
all_written (l ∷ ls) h = (h.0, all_written ls h.1)

pub defined_logs_are_writable : DefinedLogsAreWritable
defined_logs_are_writable p subject steps lines ending w s few d =
    let found = continued lemma_table subject steps IsWritable (goes_on_everywhere p subject steps w s)
    (λ xs place line b f n. next_lines_are_writable p subject steps xs place line w s few b f n) (λ xs stop f. stop_written xs stop f) [] (before_line (Header subject.version))
    (begun_first lemma_table subject steps) (none_fits lemma_table subject steps) in
    let one = defined_log_unique lemma_table subject steps found.rest lines found.ending ending found.defined d in
    subst AllWritable one.0 (all_written found.rest found.hold)
