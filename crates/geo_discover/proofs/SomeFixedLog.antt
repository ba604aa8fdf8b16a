-- A program has a log in the fixed frame: each of its chains has an end or a stop, since a move takes some of the steps that are left, and
-- behind a cut comes no other.
use Rattle.std.proofs.Common.{◌≡◌, ◌≢◌, ℕ, zero, suc, ◌+◌, ◌-◌, ◌*◌, ◌<◌, ◌≤◌, ◌⊎◌, inl, inr, All, ℤ, List, [], ◌∷◌, ◌++◌, length, map, refl, mul-pos, arith}
use Rattle.std.specs.List.{AllByRecursion}
use Rattle.std.proofs.lemmas.List.Elements.{All-nil}
use Rattle.fraction_poly.specs.Forms.{Form, abscissa, area, denominator, integer, numerator, opposite, ordinate, piece_of, pythagoras, ratio, ◌⊞◌, ◌⊟◌, ◌⊠◌}
use Rattle.fraction_poly.specs.Measures.{numbers_of}
use Rattle.geo_poly.specs.declared.variables.Var.{Var}
use Rattle.geo_poly.specs.Cuts.{IsCut}
use Rattle.geo_poly.specs.Monomials.{Powers}
use Rattle.geo_poly.specs.PolynomialVariables.{AllVariables}
use Rattle.geo_poly.specs.Polynomials.{IsPolynomial, Summands}
use Rattle.geo_poly.specs.Replace.{replaced_by}
use Rattle.geo_poly.specs.Specialise.{NoneZero}
use Rattle.geo_sample.specs.Samples as Search
use Rattle.geo_sample.specs.Tries.{search_tries}
use Rattle.geo_sample.proofs.LeastSamples.{collected_polynomials, exists_one}
use Rattle.geo_terms.specs.Constructions.{Construction, IsConstruction}
use Rattle.geo_terms.specs.TermBounds.{IsTermBelow}
use Rattle.geo_terms.specs.Trees.{Tree, addition, area_leaf, division, integer_leaf, multiplication, negation, parameter_leaf, pythagoras_leaf, ratio_leaf, subtraction}
use Rattle.geo_lowering.specs.declared.version.Version.TheVariants.{Two}
use Rattle.geo_program.specs.WellFormed.{IsWellFormed, Source}
use Rattle.proof_log.specs.declared.log.Line.{Line}
use Rattle.proof_log.specs.declared.log.Line.TheVariants.{Condition, Goal, Header, Program as ProgramLine, Sample, Start, Verdict as VerdictLine}
use Rattle.proof_log.specs.declared.log.Verdict.{Verdict}
use Rattle.proof_log.specs.declared.log.Verdict.TheVariants.{False, Impossible, Proved}
use Rattle.elim_apply.specs.LemmaTable.{lemma_table, move_denominator}
use Rattle.elim_apply.proofs.MoveRows.{lemma_table_sound}
use Rattle.geo_logs.specs.declared.moves.Move.{Move}
use Rattle.geo_logs.specs.Chains.{Chain, ChainStep, IsEnd, chain_lines, cuts, line_of, moves}
use Rattle.geo_logs.specs.Defined.{IsCutDue, LeadsBySteps, NoCutDue}
use Rattle.geo_logs.specs.Ends.{IsAfterHeader, IsNext, Next, comes, ends_by, ends_with, stops}
use Rattle.geo_logs.specs.Logs.{AreConditionsWorked, AreGoalsWorked, IsConcluded, Item, Subject, known_by}
use Rattle.geo_logs.specs.Moves.{IsMoveStopped, IsMoved, Stop, move_charge, replacement}
use Rattle.geo_logs.specs.Naming.{IsNamed}
use Rattle.geo_logs.specs.Places.{AreConditionsBegun, AreGoalsBegun, IsBegunChain, IsBegunEnd, Place, before_sample, before_start, first_lines, in_chain}
use Rattle.geo_logs.specs.Starts.{IsStarted, start_charge, start_of}
use Rattle.geo_logs.proofs.AcceptedProvers.{All-push}
use Rattle.log_checker.specs.Subjects.{IsSubjectOf}
use Rattle.log_checker.proofs.AcceptedBytes.{programs_have_subjects}
use Rattle.log_checker.proofs.NextCuts.{cut_or_none}
use Rattle.log_checker.proofs.NextMoves.{HasMove, end_or_move}
use Rattle.log_checker.proofs.NextStops.{TriesEnd, moved_or_stopped, start_next, tries_end}
use Rattle.log_checker.proofs.Places.{each_of}
use Rattle.log_checker.proofs.Realised.{conditions_named, goals_named}
use Rattle.log_checker.proofs.Verdicts.{Parts, parts_of, valid}
use Rattle.log_checker.proofs.Writing.{start_own}
use Rattle.geo_chain.specs.FixedLogs.{IsFixedChain, IsFixedLog, IsFixedSample, IsStopInFrame, LeadsInFrame}
use Rattle.geo_chain.specs.Frames.{after_step, framed, framed_variables}
use Rattle.geo_discover.specs.Laws.{ProgramsHaveAFixedLog}
use Rattle.geo_discover.specs.FixedEnds.{EndsWithVerdict, StopsAtLine}
use Rattle.geo_discover.proofs.FixedChains.{fixed_named, fixed_polynomial}
use Rattle.geo_discover.proofs.OneCut.{cut_once}

-- WHAT A MOVE TAKES
sums : (a b c d : ℕ) → 1 ≤ a → 1 ≤ b → 1 ≤ a * b + c * d
sums a b c d h k = let some : 1 ≤ a * b = mul-pos h k in omega (arith, some)

-- a term has counts of at least 1
some_numbers : (e : Tree) → (1 ≤ (numbers_of e).kn) × (1 ≤ (numbers_of e).kd)
some_numbers (integer_leaf m) = (omega arith, omega arith)
some_numbers (parameter_leaf t) = (omega arith, omega arith)
some_numbers (area_leaf a b c) = (omega arith, omega arith)
some_numbers (pythagoras_leaf a b c) = (omega arith, omega arith)
some_numbers (ratio_leaf a b c d) = (omega arith, omega arith)
some_numbers (negation e) = some_numbers e
some_numbers (addition e f) =
    let a = some_numbers e in let b = some_numbers f in
    (sums (numbers_of e).kn (numbers_of f).kd (numbers_of f).kn (numbers_of e).kd a.0 b.1, mul-pos a.1 b.1)
some_numbers (subtraction e f) =
    let a = some_numbers e in let b = some_numbers f in
    (sums (numbers_of e).kn (numbers_of f).kd (numbers_of f).kn (numbers_of e).kd a.0 b.1, mul-pos a.1 b.1)
some_numbers (multiplication e f) = let a = some_numbers e in let b = some_numbers f in (mul-pos a.0 b.0, mul-pos a.1 b.1)
some_numbers (division e f) = let a = some_numbers e in let b = some_numbers f in (mul-pos a.0 b.1, mul-pos a.1 b.0)

-- and so has a form
some_count : (f : Form) → 1 ≤ (piece_of f).count
some_count (integer n) = omega arith
some_count (area a b c) = omega arith
some_count (pythagoras a b c) = omega arith
some_count (ratio a b c d) = omega arith
some_count (abscissa a) = omega arith
some_count (ordinate a) = omega arith
some_count (numerator e) = (some_numbers e).0
some_count (denominator e) = (some_numbers e).1
some_count (f ⊞ g) = let a = some_count f in omega (arith, a)
some_count (f ⊟ g) = let a = some_count f in omega (arith, a)
some_count (f ⊠ g) = mul-pos (some_count f) (some_count g)
some_count (opposite f) = some_count f

move_charged : (c : Construction) (move : Move) (q : Summands) → 1 ≤ move_charge (replacement lemma_table c move q) q
move_charged c move q = let d : 1 ≤ (piece_of (move_denominator c move)).count = some_count (move_denominator c move) in omega (arith, d)

-- CHAINS
module _ (c : Construction) (construction : IsConstruction c) (known : List Var) where
  abbrev Leads : ℕ → Summands → List ChainStep → ℕ → Summands → Type 0
  Leads = LeadsInFrame lemma_table c known

  -- a polynomial over the points and parameters
  record IsGood (q : Summands) : Type 0 where
    polynomial : IsPolynomial q
    named : AllVariables (IsNamed c (length c.steps)) q

  path_good : (left : ℕ) (q : Summands) (steps : List ChainStep) (left' : ℕ) (e : Summands) → IsGood q → Leads left q steps left' e → IsGood e
  path_good left q steps left' e h leads =
      let sound = lemma_table_sound c construction in
      record {
        polynomial = fixed_polynomial c construction sound known left q steps left' e h.polynomial leads;
        named = fixed_named c construction sound known (length c.steps) left q steps left' e h.named leads;
      }

  -- the steps lead to an end, or to a stop
  record EndsChain (left : ℕ) (q : Summands) : Type 0 where
    steps : List ChainStep
    after : ℕ
    last : Summands
    leads : Leads left q steps after last
    no_cut : NoCutDue known last
    ended : IsEnd last

  record StopsChain (left : ℕ) (q : Summands) : Type 0 where
    steps : List ChainStep
    after : ℕ
    last : Summands
    leads : Leads left q steps after last
    stop : Stop
    next : IsNext lemma_table c (in_chain known after last) (stops stop)

  abbrev Outcome : ℕ → Summands → Type 0
  Outcome left q = EndsChain left q ⊎ StopsChain left q

  -- a step in front
  behind : (left : ℕ) (q : Summands) (own : ChainStep) (after : ℕ) → LeadsBySteps lemma_table c known left q (own ∷ []) after (after_step own)
      → Outcome after (after_step (framed own)) → Outcome left q
  behind left q own after leads (inl h) =
      inl (record {
        steps = framed own ∷ h.steps;
        after = h.after;
        last = h.last;
        leads = (own, after, leads, refl, h.leads);
        no_cut = h.no_cut;
        ended = h.ended;
      })
  behind left q own after leads (inr h) =
      inr (record {
        steps = framed own ∷ h.steps;
        after = h.after;
        last = h.last;
        leads = (own, after, leads, refl, h.leads);
        stop = h.stop;
        next = h.next;
      })

  one_good : (left : ℕ) (q : Summands) (own : ChainStep) (after : ℕ) → LeadsBySteps lemma_table c known left q (own ∷ []) after (after_step own) → IsGood q
      → IsGood (after_step (framed own))
  one_good left q own after leads h = path_good left q (framed own ∷ []) after (after_step (framed own)) h (own, after, leads, refl, (refl, refl))

  -- where no cut is due: the end, or a move, or a stop
  uncut : (left : ℕ) (q : Summands) → NoCutDue known q → IsGood q → ((less : ℕ) (r : Summands) → less < left → IsGood r → Outcome less r) → Outcome left q
  uncut left q none good again = by (end_or_move c q good.named)
    where
      moved : (m : HasMove c q)
          → IsMoved (replacement lemma_table c m.move q) left q (replaced_by (replacement lemma_table c m.move q).rows (replacement lemma_table c m.move q).den.poly q)
          ⊎ ((stop : Stop) × IsMoveStopped (replacement lemma_table c m.move q) left q stop) → Outcome left q
      moved m (inl h) =
          let r = replaced_by (replacement lemma_table c m.move q).rows (replacement lemma_table c m.move q).den.poly q in
          let own = moves m.move r in
          let after = left - move_charge (replacement lemma_table c m.move q) q in
          let leads : LeadsBySteps lemma_table c known left q (own ∷ []) after r = (none, m.next, h, (refl, refl)) in
          let some = move_charged c m.move q in
          let paid = h.paid in
          behind left q own after leads (again after (after_step (framed own)) (omega (arith, some, paid)) (one_good left q own after leads good))
      moved m (inr (stop, h)) =
          inr (record { steps = []; after = left; last = q; leads = (refl, refl); stop = stop; next = (m.move, none, m.next, h) })

      by : IsEnd q ⊎ HasMove c q → Outcome left q
      by (inl end) = inl (record { steps = []; after = left; last = q; leads = (refl, refl); no_cut = none; ended = end })
      by (inr m) = moved m (moved_or_stopped (replacement lemma_table c m.move q) left q m.replaces)

  outcome : (fuel left : ℕ) (q : Summands) → left < fuel → IsGood q → Outcome left q
  outcome zero left q few good = absurd (omega (arith, few))
  outcome (suc fuel) left q few good =
      by (λ less r l. outcome fuel less r (let k : less < left = l in omega (arith, few, k))) (cut_or_none known q good.polynomial)
    where
      by : ((less : ℕ) (r : Summands) → less < left → IsGood r → Outcome less r)
          → NoCutDue known q ⊎ ((f : Powers × ℤ) × (r : Summands) × IsCutDue known q f × IsCut known f q r) → Outcome left q
      by again (inl none) = uncut left q none good again
      by again (inr (f, r, due, is)) =
          let leads : LeadsBySteps lemma_table c known left q (cuts f r ∷ []) left r = (due, is, (refl, refl)) in
          behind left q (cuts f r) left leads (uncut left r (cut_once known f q r due.factor is) (one_good left q (cuts f r) left leads good) again)

-- LOGS
module _ (c : Construction) (construction : IsConstruction c) where
  abbrev Works : List Var → ℕ → Tree → Chain → ℕ → Type 0
  Works = IsFixedChain lemma_table c

  abbrev Chosen : List Summands → ℕ → List (Var × ℤ) → ℕ → Type 0
  Chosen = IsFixedSample c

  abbrev InFrame : List Var → ℕ → Summands → List ChainStep → ℕ → Summands → Type 0
  InFrame = LeadsInFrame lemma_table c

  -- lines that begin something, and a stop that is due behind them
  record StopsBehind (Begun : List Line → Place → Type 0) : Type 0 where
    lines : List Line
    place : Place
    stop : Stop
    begun : Begun lines place
    next : IsStopInFrame lemma_table c place stop

  -- THE CHAIN OF A TERM
  record HasChain (known : List Var) (left : ℕ) (e : Tree) : Type 0 where
    chain : Chain
    after : ℕ
    works : Works known left e chain after
    polynomial : IsPolynomial chain.end

  abbrev ChainOrStop : Line → List Var → ℕ → Tree → Type 0
  ChainOrStop header known left e = HasChain known left e ⊎ StopsBehind (IsBegunChain InFrame Works Chosen header known left e)

  some_chain : (header : Line) (known : List Var) (left : ℕ) (e : Tree) → IsTermBelow (length c.steps) c.params e → ChainOrStop header known left e
  some_chain header known left e below = let n = start_next left e in by n.0 n.1
    where
      from : IsStarted left e → IsGood c construction known (start_of e) → Outcome c construction known (left - start_charge e) (start_of e) → ChainOrStop header known left e
      from started good (inl h) =
          inl (record {
            chain = record { steps = h.steps; end = h.last };
            after = h.after;
            works = record { started = started; leads = h.leads; no_cut = h.no_cut; ended = h.ended };
            polynomial = (path_good c construction known (left - start_charge e) (start_of e) h.steps h.after h.last good h.leads).polynomial;
          })
      from started good (inr h) =
          inr (record {
            lines = header ∷ Start (start_of e) ∷ map line_of h.steps;
            place = in_chain known h.after h.last;
            stop = h.stop;
            begun = inr (inr (record {
              steps = h.steps;
              after = h.after;
              last = h.last;
              started = started;
              leads = h.leads;
              split = refl;
              stands = refl;
            }));
            next = h.next;
          })

      by : (next : Next) → IsAfterHeader left e next → ChainOrStop header known left e
      by (stops stop) h = inr (record { lines = header ∷ []; place = before_start left e; stop = stop; begun = inr (inl (refl, refl)); next = h })
      by (comes line) (is, started) =
          let own = start_own c construction left e below started in
          let good : IsGood c construction known (start_of e) = record { polynomial = own.polynomial; named = own.named } in
          from started good (outcome c construction known (suc (left - start_charge e)) (left - start_charge e) (start_of e) (omega arith) good)

  -- THE SAMPLE AND THE VERDICT
  record Concludes (listed : List Summands) (verdict : Verdict) (left : ℕ) : Type 0 where
    lines : List Line
    after : ℕ
    concluded : IsConcluded Works Chosen listed left lines verdict after

  some_end : (listed : List Summands) (verdict : Verdict) (left : ℕ) → All IsPolynomial listed → NoneZero listed
      → Concludes listed verdict left ⊎ StopsBehind (IsBegunEnd InFrame Works Chosen listed verdict left)
  some_end listed verdict left valid some = by (tries_end (search_tries s.0 listed) left)
    where
      s : (values : List (Var × ℤ)) × Search.IsLeastSample (framed_variables c) listed values
      s = exists_one.exists (framed_variables c) listed (collected_polynomials listed valid) some

      by : TriesEnd left (search_tries s.0 listed) → Concludes listed verdict left ⊎ StopsBehind (IsBegunEnd InFrame Works Chosen listed verdict left)
      by (inl (after, made)) =
          inl (record {
            lines = Sample s.0 ∷ VerdictLine verdict ∷ [];
            after = after;
            concluded = record { values = s.0; chosen = record { least = s.1; made = made }; split = refl };
          })
      by (inr (stop, rest, end)) =
          inr (record { lines = []; place = before_sample listed left; stop = stop; begun = inl (refl, refl); next = (rest, (s.0, s.1, end)) })

  -- GOALS
  abbrev IsBelow : Item → Type 0
  IsBelow item = IsTermBelow (length c.steps) c.params item.term

  null_or_not : (q : Summands) → (q ≡ []) ⊎ (q ≢ [])
  null_or_not [] = inl refl
  null_or_not (t ∷ ts) = inr (λ e. cc)

  record GoalsWorked (known : List Var) (listed : List Summands) (k left : ℕ) (items : List Item) : Type 0 where
    lines : List Line
    verdict : Verdict
    after : ℕ
    worked : AreGoalsWorked Works Chosen known listed k left items lines verdict after

  abbrev GoalsOrStop : List Var → List Summands → ℕ → ℕ → List Item → Type 0
  GoalsOrStop known listed k left items = GoalsWorked known listed k left items ⊎ StopsBehind (AreGoalsBegun InFrame Works Chosen known listed k left items)

  some_goals : (known : List Var) (listed : List Summands) (k left : ℕ) (items : List Item) → AllByRecursion IsBelow items → All IsPolynomial listed → NoneZero listed
      → GoalsOrStop known listed k left items
  some_goals known listed k left [] below valid some = by (some_end listed Proved left valid some)
    where
      by : Concludes listed Proved left ⊎ StopsBehind (IsBegunEnd InFrame Works Chosen listed Proved left) → GoalsOrStop known listed k left []
      by (inl h) = inl (record { lines = h.lines; verdict = Proved; after = h.after; worked = (refl, h.concluded) })
      by (inr h) = inr (record { lines = h.lines; place = h.place; stop = h.stop; begun = h.begun; next = h.next })
  some_goals known listed k left (item ∷ items) below valid some =
      by (some_chain (Goal k item.text) known left item.term below.0) (λ after. some_goals known listed (suc k) after items below.1 valid some)
    where
      null : (h : HasChain known left item.term) → h.chain.end ≡ [] → GoalsOrStop known listed (suc k) h.after items → GoalsOrStop known listed k left (item ∷ items)
      null h e (inl g) =
          inl (record {
            lines = chain_lines (Goal k item.text) item.term h.chain ++ g.lines;
            verdict = g.verdict;
            after = g.after;
            worked = (record { chain = h.chain; after = h.after; rest = g.lines; split = refl; works = h.works }, inl (e, g.worked));
          })
      null h e (inr g) =
          inr (record {
            lines = chain_lines (Goal k item.text) item.term h.chain ++ g.lines;
            place = g.place;
            stop = g.stop;
            begun = inr (record { chain = h.chain; after = h.after; rest = g.lines; split = refl; works = h.works }, inl (e, g.begun));
            next = g.next;
          })

      fails : (h : HasChain known left item.term) → h.chain.end ≢ []
          → Concludes (listed ++ h.chain.end ∷ []) (False k) h.after ⊎ StopsBehind (IsBegunEnd InFrame Works Chosen (listed ++ h.chain.end ∷ []) (False k) h.after) → GoalsOrStop known listed k left (item ∷ items)
      fails h n (inl g) =
          inl (record {
            lines = chain_lines (Goal k item.text) item.term h.chain ++ g.lines;
            verdict = False k;
            after = g.after;
            worked = (record { chain = h.chain; after = h.after; rest = g.lines; split = refl; works = h.works }, inr (n, refl, g.concluded));
          })
      fails h n (inr g) =
          inr (record {
            lines = chain_lines (Goal k item.text) item.term h.chain ++ g.lines;
            place = g.place;
            stop = g.stop;
            begun = inr (record { chain = h.chain; after = h.after; rest = g.lines; split = refl; works = h.works }, inr (n, g.begun));
            next = g.next;
          })

      by : ChainOrStop (Goal k item.text) known left item.term → ((after : ℕ) → GoalsOrStop known listed (suc k) after items) → GoalsOrStop known listed k left (item ∷ items)
      by (inr h) more = inr (record { lines = h.lines; place = h.place; stop = h.stop; begun = inl h.begun; next = h.next })
      by (inl h) more = ended (null_or_not h.chain.end)
        where
          ended : (h.chain.end ≡ []) ⊎ (h.chain.end ≢ []) → GoalsOrStop known listed k left (item ∷ items)
          ended (inl e) = null h e (more h.after)
          ended (inr n) =
              fails h n
              (some_end (listed ++ h.chain.end ∷ []) (False k) h.after (All-push IsPolynomial listed h.chain.end valid h.polynomial)
              (All-push (λ (r : Summands). r ≢ []) listed h.chain.end some n))

  -- CONDITIONS
  record ConditionsWorked (goals : List Item) (known : List Var) (listed : List Summands) (k left : ℕ) (items : List Item) : Type 0 where
    lines : List Line
    verdict : Verdict
    after : ℕ
    worked : AreConditionsWorked Works Chosen goals known listed k left items lines verdict after

  abbrev ConditionsOrStop : List Item → List Var → List Summands → ℕ → ℕ → List Item → Type 0
  ConditionsOrStop goals known listed k left items =
      ConditionsWorked goals known listed k left items ⊎ StopsBehind (AreConditionsBegun InFrame Works Chosen goals known listed k left items)

  -- the conditions behind that of a chain
  abbrev MoreConditions : List Item → (known : List Var) → List Summands → ℕ → (left : ℕ) (item : Item) → List Item → HasChain known left item.term → Type 0
  MoreConditions goals known listed k left item items h =
      ConditionsOrStop goals (known ++ known_by (item ∷ [])) (listed ++ h.chain.end ∷ []) (suc k) h.after items

  some_conditions : (goals : List Item) → AllByRecursion IsBelow goals → (known : List Var) (listed : List Summands) (k left : ℕ) (items : List Item)
      → AllByRecursion IsBelow items → All IsPolynomial listed → NoneZero listed → ConditionsOrStop goals known listed k left items
  some_conditions goals stated known listed k left [] below valid some = by (some_goals known listed 1 left goals stated valid some)
    where
      by : GoalsOrStop known listed 1 left goals → ConditionsOrStop goals known listed k left []
      by (inl h) = inl (record { lines = h.lines; verdict = h.verdict; after = h.after; worked = h.worked })
      by (inr h) = inr (record { lines = h.lines; place = h.place; stop = h.stop; begun = h.begun; next = h.next })
  some_conditions goals stated known listed k left (item ∷ items) below valid some =
      by (some_chain (Condition k item.text) known left item.term below.0)
      (λ h n. some_conditions goals stated (known ++ known_by (item ∷ [])) (listed ++ h.chain.end ∷ []) (suc k) h.after items below.1
      (All-push IsPolynomial listed h.chain.end valid h.polynomial) (All-push (λ (r : Summands). r ≢ []) listed h.chain.end some n))
    where
      going : (h : HasChain known left item.term) → h.chain.end ≢ [] → MoreConditions goals known listed k left item items h → ConditionsOrStop goals known listed k left (item ∷ items)
      going h n (inl g) =
          inl (record {
            lines = chain_lines (Condition k item.text) item.term h.chain ++ g.lines;
            verdict = g.verdict;
            after = g.after;
            worked = (record { chain = h.chain; after = h.after; rest = g.lines; split = refl; works = h.works }, inr (n, g.worked));
          })
      going h n (inr g) =
          inr (record {
            lines = chain_lines (Condition k item.text) item.term h.chain ++ g.lines;
            place = g.place;
            stop = g.stop;
            begun = inr (record { chain = h.chain; after = h.after; rest = g.lines; split = refl; works = h.works }, inr (n, g.begun));
            next = g.next;
          })

      by : ChainOrStop (Condition k item.text) known left item.term → ((h : HasChain known left item.term) → h.chain.end ≢ [] → MoreConditions goals known listed k left item items h) → ConditionsOrStop goals known listed k left (item ∷ items)
      by (inr h) more = inr (record { lines = h.lines; place = h.place; stop = h.stop; begun = inl h.begun; next = h.next })
      by (inl h) more = ended (null_or_not h.chain.end)
        where
          ended : (h.chain.end ≡ []) ⊎ (h.chain.end ≢ []) → ConditionsOrStop goals known listed k left (item ∷ items)
          ended (inl e) =
              inl (record {
                lines = chain_lines (Condition k item.text) item.term h.chain ++ VerdictLine (Impossible k) ∷ [];
                verdict = Impossible k;
                after = h.after;
                worked = (
                  record { chain = h.chain; after = h.after; rest = VerdictLine (Impossible k) ∷ []; split = refl; works = h.works },
                  inl (e, refl, refl, refl),
                );
              })
          ended (inr n) = going h n (more h n)

-- PROGRAMS
some_log : (p : Source) (subject : Subject) (steps : ℕ) → IsWellFormed p → IsSubjectOf p subject
    → ((verdict : Verdict) × (lines : List Line) × (left : ℕ) × IsFixedLog lemma_table subject steps lines (ends_with verdict left))
    ⊎ ((stop : Stop) × (lines : List Line) × IsFixedLog lemma_table subject steps lines (ends_by stop))
some_log p subject steps w s =
    by (some_conditions c (valid p subject w parts) subject.goals
    (each_of (IsBelow c (valid p subject w parts)) subject.goals (λ i item at. (goals_named p subject w parts i item at).0)) [] [] 1 steps subject.conditions
    (each_of (IsBelow c (valid p subject w parts)) subject.conditions (λ i item at. (conditions_named p subject w parts i item at).0))
    (All-nil IsPolynomial) (All-nil (λ (r : Summands). r ≢ [])))
  where
    c : Construction
    c = subject.construction

    parts : Parts p subject
    parts = parts_of p subject s

    by : ConditionsOrStop c (valid p subject w parts) subject.goals [] [] 1 steps subject.conditions
        → ((verdict : Verdict) × (lines : List Line) × (left : ℕ) × IsFixedLog lemma_table subject steps lines (ends_with verdict left))
        ⊎ ((stop : Stop) × (lines : List Line) × IsFixedLog lemma_table subject steps lines (ends_by stop))
    by (inl h) =
        inl (h.verdict, Header subject.version ∷ map ProgramLine subject.program ++ h.lines, h.after, record { rest = h.lines; split = refl; worked = h.worked })
    by (inr h) = inr (h.stop, first_lines subject ++ h.lines, (h.place, inr (h.lines, refl, h.begun), h.next))

pub some_fixed_log : ProgramsHaveAFixedLog
some_fixed_log p steps short =
    let found = programs_have_subjects Two p short in
    by found.0 found.1 found.2 (some_log p found.0 steps short.well_formed found.1)
  where
    by : (subject : Subject) → IsSubjectOf p subject → subject.version ≡ 2
        → ((verdict : Verdict) × (lines : List Line) × (left : ℕ) × IsFixedLog lemma_table subject steps lines (ends_with verdict left))
        ⊎ ((stop : Stop) × (lines : List Line) × IsFixedLog lemma_table subject steps lines (ends_by stop))
        → ((verdict : Verdict) × EndsWithVerdict p steps verdict) ⊎ ((stop : Stop) × (number : ℕ) × StopsAtLine p steps stop number)
    by subject about version (inl (verdict, lines, left, log)) =
        inl (verdict, record { subject = subject; about = about; version = version; lines = lines; left = left; log = log })
    by subject about version (inr (stop, lines, log)) =
        inr (stop, suc (length lines), record { subject = subject; about = about; version = version; lines = lines; log = log; last = refl })
