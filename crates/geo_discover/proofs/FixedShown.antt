-- What a log in the fixed frame shows of its subject, and that its verdict decides.
use Rattle.std.proofs.Common.{◌≡◌, ◌≢◌, ℕ, zero, suc, ◌-◌, ◌<◌, ◌⊎◌, inl, inr, All, Bool, true, false, cond, eqb, not, filter, length, map}
use Rattle.std.proofs.Common.{ℤ, pos, Some, List, [], ◌∷◌, ◌++◌, refl, sym, ap, ◌∙◌, subst, arith}
use Rattle.std.specs.Prelude.{slice_get}
use Rattle.std.proofs.Math.Nat.{eq-or-lt_of_le}
use Rattle.std.proofs.lemmas.Bool.{eqb-true}
use Rattle.std.proofs.lemmas.List.Elements.{All-nil}
use Rattle.ring_laws.specs.Fraction.{IsNonzero, Same, whole}
use Rattle.geo_points.specs.Placements.{Placement}
use Rattle.geo_poly.specs.declared.variables.Var.{Var}
use Rattle.geo_poly.specs.declared.variables.Var.TheVariants.{X, Y, T}
use Rattle.geo_poly.specs.Polynomials.{IsPolynomial, Summands}
use Rattle.geo_poly.specs.PolynomialVariables.{AllVariables}
use Rattle.geo_poly.specs.Specialise.{NoneZero}
use Rattle.geo_poly.proofs.EachVariable.{each-contained}
use Rattle.geo_sample.proofs.LeastSamples.{sample_keeps}
use Rattle.geo_terms.specs.declared.steps.Step.{Step}
use Rattle.geo_terms.specs.declared.steps.Step.TheVariants.{Point, Inter, Foot, Pratio, Tratio, Weights}
use Rattle.geo_terms.specs.Constructions.{Construction, IsConstruction, IsStep, MeetsSteps}
use Rattle.geo_terms.specs.Trees.{Tree}
use Rattle.geo_terms.specs.TermBounds.{IsTermBelow}
use Rattle.geo_terms.specs.Values.{HasTreeValue, tree_value}
use Rattle.proof_log.specs.declared.log.Line.{Line}
use Rattle.proof_log.specs.declared.log.Line.TheVariants.{Condition, Goal, Sample, Verdict as VerdictLine}
use Rattle.proof_log.specs.declared.log.Verdict.{Verdict}
use Rattle.proof_log.specs.declared.log.Verdict.TheVariants.{Proved, False, Impossible}
use Rattle.elim_apply.specs.LemmaTable.{lemma_table}
use Rattle.geo_logs.specs.Chains.{Chain}
use Rattle.geo_logs.specs.Laws.{AreNamed, AreNamedBefore, GivesConditions, GivesFailure, HasSample, HoldBefore, SaysZero}
use Rattle.geo_logs.specs.Logs.{AreConditionsWorked, AreGoalsWorked, BeginsWithChain, IsConcluded, IsLog, Item, Subject, known_by}
use Rattle.geo_logs.specs.Placements.{HasValuesBelow, HoldsAsCondition, MeetsStepsBelow}
use Rattle.geo_logs.specs.Samples.{coordinates_from, parameters_from, sample_variables, value_in}
use Rattle.geo_logs.specs.Sound.{IsSoundTable}
use Rattle.geo_logs.specs.Starts.{start_charge, start_of}
use Rattle.geo_logs.proofs.AcceptedChains.{start_apart, start_null, term_null}
use Rattle.geo_logs.proofs.AcceptedSamples.{Failure, IsWorkedAt, conditions_sampled}
use Rattle.geo_logs.proofs.AcceptedProvers.{All-push}
use Rattle.geo_logs.proofs.ChainPolynomials.{start_polynomial}
use Rattle.geo_logs.proofs.Known.{IsFar, known_far}
use Rattle.geo_logs.proofs.MoveValues.{apart, at_variable, nonzero, zero_fraction}
use Rattle.geo_logs.proofs.SampleValues.{IsNonzeroAt, each_nonzero, end_apart}
use Rattle.geo_logs.proofs.TermVariables.{term_sound}
use Rattle.log_checker.specs.Shown.{IsShown}
use Rattle.geo_chain.specs.FixedLogs.{IsFixedChain, IsFixedSample}
use Rattle.geo_chain.specs.Frames.{first_point, framed_variables, is_of_first_point}
use Rattle.geo_discover.proofs.FixedChains.{fixed_elsewhere, fixed_named, fixed_null, fixed_null_on, fixed_polynomial}
use Rattle.geo_discover.proofs.Origins.{IsAtOrigin, IsElsewhere, origin_stays, x0, y0}
use Rattle.geo_discover.proofs.WithoutCoordinates.{start_without}
use Rattle.geo_logs.proofs.AcceptedGoals.{conditions_impossible, conditions_zero}

-- THE VARIABLES OF A SAMPLE
abbrev elsewhere : Var → Bool
elsewhere v = not (is_of_first_point v)

not_first : (k : ℕ) → eqb (suc k) 0 ≡ false
not_first k = go (eqb (suc k) 0) refl
  where
    go : (b : Bool) → eqb (suc k) 0 ≡ b → b ≡ false
    go false e = refl
    go true e = absurd (let z : suc k ≡ 0 = eqb-true (suc k) 0 e in omega (arith, z))

later_two : (k : ℕ) (vs : List Var) → filter elsewhere (X (record { 0 = suc k }) ∷ Y (record { 0 = suc k }) ∷ vs) ≡ X (record { 0 = suc k }) ∷ Y (record { 0 = suc k }) ∷ filter elsewhere vs
later_two k vs =
    let rest = filter elsewhere vs in
    ap (λ (b : Bool). cond {A = List Var} (not b) (X (record { 0 = suc k }) ∷ cond (not b) (Y (record { 0 = suc k }) ∷ rest) rest) (cond (not b) (Y (record { 0 = suc k }) ∷ rest) rest)) (not_first k)

later_coordinates : (k : ℕ) (steps : List Step) → filter elsewhere (coordinates_from (suc k) steps) ≡ coordinates_from (suc k) steps
later_coordinates k [] = refl
later_coordinates k (Point ∷ steps) =
    later_two k (coordinates_from (suc (suc k)) steps) ∙ ap (λ (vs : List Var). X (record { 0 = suc k }) ∷ Y (record { 0 = suc k }) ∷ vs) (later_coordinates (suc k) steps)
later_coordinates k (Inter u v p q ∷ steps) = later_coordinates (suc k) steps
later_coordinates k (Foot p u v ∷ steps) = later_coordinates (suc k) steps
later_coordinates k (Pratio w u v r ∷ steps) = later_coordinates (suc k) steps
later_coordinates k (Tratio u v r ∷ steps) = later_coordinates (suc k) steps
later_coordinates k (Weights o u v r t ∷ steps) = later_coordinates (suc k) steps

all_parameters : (k n : ℕ) → filter elsewhere (parameters_from k n) ≡ parameters_from k n
all_parameters k zero = refl
all_parameters k (suc n) = ap (λ (vs : List Var). T (record { 0 = k }) ∷ vs) (all_parameters (suc k) n)

filter_joined : (xs ys : List Var) → filter elsewhere (xs ++ ys) ≡ filter elsewhere xs ++ filter elsewhere ys
filter_joined [] ys = refl
filter_joined (x ∷ xs) ys = go (elsewhere x) (filter_joined xs ys)
  where
    go : (b : Bool) → filter elsewhere (xs ++ ys) ≡ filter elsewhere xs ++ filter elsewhere ys
        → cond b (x ∷ filter elsewhere (xs ++ ys)) (filter elsewhere (xs ++ ys)) ≡ cond b (x ∷ filter elsewhere xs) (filter elsewhere xs) ++ filter elsewhere ys
    go true e = ap (λ (vs : List Var). x ∷ vs) e
    go false e = e

abbrev IsBehind : ℕ → List Step → Type 0
IsBehind params steps =
    ((length steps ≡ 0) × (coordinates_from 0 steps ++ parameters_from 0 params ≡ filter elsewhere (coordinates_from 0 steps ++ parameters_from 0 params)))
    ⊎ ((slice_get steps 0 ≡ Some Point) × (coordinates_from 0 steps ++ parameters_from 0 params ≡ x0 ∷ y0 ∷ filter elsewhere (coordinates_from 0 steps ++ parameters_from 0 params)))

-- the variables of the fixed frame are those of a sample, without the first two where there is a point
abbrev pub AreBehind : Construction → Type 0
AreBehind c = ((length c.steps ≡ 0) × (sample_variables c ≡ framed_variables c)) ⊎ ((slice_get c.steps 0 ≡ Some Point) × (sample_variables c ≡ x0 ∷ y0 ∷ framed_variables c))

pub framed_behind : (c : Construction) → IsConstruction c → AreBehind c
framed_behind c valid = go c.steps (λ step at. valid.steps 0 step at)
  where
    go : (steps : List Step) → ((step : Step) → slice_get steps 0 ≡ Some step → IsStep c.nodes 0 c.params step) → IsBehind c.params steps
    go [] first = inl (refl, sym (all_parameters 0 c.params))
    go (Point ∷ steps) first =
        inr (
          refl,
          ap (λ (vs : List Var). x0 ∷ y0 ∷ vs)
              (sym (filter_joined (coordinates_from 1 steps) (parameters_from 0 c.params)
              ∙ ap (λ (vs : List Var). vs ++ filter elsewhere (parameters_from 0 c.params)) (later_coordinates 0 steps)
              ∙ ap (λ (vs : List Var). coordinates_from 1 steps ++ vs) (all_parameters 0 c.params))),
        )
    go (Inter u v p q ∷ steps) first = let h = first (Inter u v p q) refl in absurd (omega (arith, h.0))
    go (Foot p u v ∷ steps) first = let h = first (Foot p u v) refl in absurd (omega (arith, h.0))
    go (Pratio w u v r ∷ steps) first = let h = first (Pratio w u v r) refl in absurd (omega (arith, h.0))
    go (Tratio u v r ∷ steps) first = let h = first (Tratio u v r) refl in absurd (omega (arith, h.0))
    go (Weights o u v r t ∷ steps) first = let h = first (Weights o u v r t) refl in absurd (omega (arith, h.0))

-- THE SAMPLE OF THE FULL FRAME
abbrev pub with_origin : List (Var × ℤ) → List (Var × ℤ)
with_origin values = (x0, pos 0) ∷ (y0, pos 0) ∷ values

module _ (c : Construction) (valid : IsConstruction c) where
  -- a sample of the fixed frame as one of the full frame
  pub record IsFull (values full : List (Var × ℤ)) : Type 0 where
    pub ordered : map (λ v. v.0) full ≡ sample_variables c
    pub origin : (placed : Placement) (n : ℕ) → HasValuesBelow placed c n full → 0 < n → 0 < length c.steps → IsAtOrigin placed
    pub keeps : (e : Summands) → IsPolynomial e → AllVariables IsElsewhere e → IsNonzeroAt values e → IsNonzeroAt full e

  first_value : (values : List (Var × ℤ)) → value_in (with_origin values) x0 ≡ pos 0
  first_value values = refl

  second_value : (values : List (Var × ℤ)) → value_in (with_origin values) y0 ≡ pos 0
  second_value values = refl

  pub full_of : (values : List (Var × ℤ)) → map (λ v. v.0) values ≡ framed_variables c → (full : List (Var × ℤ)) × IsFull values full
  full_of values ordered = go (framed_behind c valid)
    where
      go : AreBehind c → (full : List (Var × ℤ)) × IsFull values full
      go (inl (none, same)) = (
        values,
        record {
          ordered = ordered ∙ sym same;
          origin = λ placed n has some points. absurd (omega (arith, none, points));
          keeps = λ e good other some. some;
        },
      )
      go (inr (free, same)) = (
        with_origin values,
        record {
          ordered = ap (λ (vs : List Var). x0 ∷ y0 ∷ vs) ordered ∙ sym same;
          origin = λ placed n has some points. record {
            by_x = subst (λ z. Same (at_variable placed x0) (whole z)) (first_value values) (has.by_x first_point some free);
            by_y = subst (λ z. Same (at_variable placed y0) (whole z)) (second_value values) (has.by_y first_point some free);
          };
          keeps = λ e good other some. subst (λ (p : Summands). IsNonzeroAt values p) (sym (origin_stays e good other)) some;
        },
      )

  -- WHAT IS LISTED IS NOT 0
  abbrev Works : List Var → ℕ → Tree → Chain → ℕ → Type 0
  Works = IsFixedChain lemma_table c

  abbrev Chosen : List Summands → ℕ → List (Var × ℤ) → ℕ → Type 0
  Chosen = IsFixedSample c

  -- a sample of the fixed frame, and polynomials none of which is 0
  pub record IsKeptSample (listed : List Summands) (left : ℕ) (values : List (Var × ℤ)) (left' : ℕ) : Type 0 where
    pub own : IsFixedSample c listed left values left'
    pub some : NoneZero listed

  suits : (listed : List Summands) (left : ℕ) (values : List (Var × ℤ)) (left' : ℕ) → IsKeptSample listed left values left' → All (IsNonzeroAt values) listed
  suits listed left values left' h = each_nonzero values listed (sample_keeps (framed_variables c) listed values h.some h.own.least).keeps

  abbrev begun : (head : Line) (known : List Var) (left : ℕ) (item : Item) (lines : List Line)
      → BeginsWithChain Works Chosen head known left item lines → BeginsWithChain Works IsKeptSample head known left item lines
  begun head known left item lines first = record { chain = first.chain; after = first.after; rest = first.rest; split = first.split; works = first.works }

  concluded : (listed : List Summands) (left : ℕ) (lines : List Line) (verdict : Verdict) (left' : ℕ) → NoneZero listed → IsConcluded Works Chosen listed left lines verdict left'
      → IsConcluded Works IsKeptSample listed left lines verdict left'
  concluded listed left lines verdict left' some h = record { values = h.values; chosen = record { own = h.chosen; some = some }; split = h.split }

  goals_kept : (known : List Var) (listed : List Summands) (k left : ℕ) (items : List Item) (lines : List Line) (verdict : Verdict) (left' : ℕ) → NoneZero listed
      → AreGoalsWorked Works Chosen known listed k left items lines verdict left' → AreGoalsWorked Works IsKeptSample known listed k left items lines verdict left'
  goals_kept known listed k left [] lines verdict left' some h = (h.0, concluded listed left lines Proved left' some h.1)
  goals_kept known listed k left (item ∷ items) lines verdict left' some (first, inl ended) =
      (begun (Goal k item.text) known left item lines first, inl (ended.0, goals_kept known listed (suc k) first.after items first.rest verdict left' some ended.1))
  goals_kept known listed k left (item ∷ items) lines verdict left' some (first, inr failed) = (
    begun (Goal k item.text) known left item lines first,
    inr (failed.0, failed.1, concluded (listed ++ first.chain.end ∷ []) first.after first.rest (False k) left' (All-push (λ (p : Summands). p ≢ []) listed first.chain.end some failed.0) failed.2),
  )

  conditions_kept : (goals : List Item) (known : List Var) (listed : List Summands) (k left : ℕ) (items : List Item) (lines : List Line) (verdict : Verdict) (left' : ℕ) → NoneZero listed
      → AreConditionsWorked Works Chosen goals known listed k left items lines verdict left' → AreConditionsWorked Works IsKeptSample goals known listed k left items lines verdict left'
  conditions_kept goals known listed k left [] lines verdict left' some h = goals_kept known listed 1 left goals lines verdict left' some h
  conditions_kept goals known listed k left (item ∷ items) lines verdict left' some (first, inl ended) = (begun (Condition k item.text) known left item lines first, inl ended)
  conditions_kept goals known listed k left (item ∷ items) lines verdict left' some (first, inr more) = (
    begun (Condition k item.text) known left item lines first,
    inr (
      more.0,
      conditions_kept goals (known ++ known_by (item ∷ [])) (listed ++ first.chain.end ∷ []) (suc k) first.after items first.rest verdict left'
          (All-push (λ (p : Summands). p ≢ []) listed first.chain.end some more.0) more.1,
    ),
  )

-- WHAT A LOG SHOWS
module _ (subject : Subject) (valid : IsConstruction subject.construction) (sound : IsSoundTable lemma_table subject.construction)
    (named_conditions : AreNamed subject.construction subject.conditions) (named_goals : AreNamed subject.construction subject.goals) where
  abbrev c : Construction
  c = subject.construction

  -- a chain that ends in 0: its term is 0 wherever it has a value and the steps of the points that it names are met
  ended_in_zero : (known : List Var) (left : ℕ) (e : Tree) (chain : Chain) (left' : ℕ) → IsFixedChain lemma_table c known left e chain left' → chain.end ≡ []
      → IsTermBelow (length c.steps) c.params e → (placed : Placement) (n : ℕ) → MeetsStepsBelow placed c n → IsTermBelow n c.params e
      → HasTreeValue placed e → Same (tree_value placed e) zero_fraction
  ended_in_zero known left e chain left' h z all placed n met below has_value =
      let term = term_sound c e in
      term_null placed c e term has_value
      (fixed_null c valid sound known placed n met (left - start_charge e) (start_of e) chain.steps left' chain.end (term.named (length c.steps) all)
      (term.named n below) (start_without e) (term.defined placed has_value) h.leads z)

  module _ (values full : List (Var × ℤ)) (whole_sample : IsFull c valid values full) where
    abbrev Worked : ℕ → Tree → Type 0
    Worked i e = IsWorkedAt (IsFixedChain lemma_table c) (IsKeptSample c valid) [] subject.conditions i values e

    -- where the conditions before place i hold, a term that is worked behind them is not 0
    worked_apart : (i : ℕ) (e : Tree) → Worked i e → IsTermBelow (length c.steps) c.params e → (placed : Placement) (n : ℕ) → HasValuesBelow placed c n full
        → MeetsStepsBelow placed c n → AreNamedBefore subject n i → HoldBefore placed subject i
        → IsTermBelow n c.params e → HasTreeValue placed e → IsNonzero (tree_value placed e)
    worked_apart i e w all placed n has met named hold below has_value =
        let term = term_sound c e in
        let start = start_of e in
        let left = w.left - start_charge e in
        let good = fixed_polynomial c valid sound w.knows left start w.chain.steps w.after w.chain.end (start_polynomial e w.works.started.room) w.works.leads in
        let other = fixed_elsewhere c valid sound w.knows left start w.chain.steps w.after w.chain.end (term.named (length c.steps) all) (start_without e) w.works.leads in
        let far = w.from placed tt (λ j item lt at. known_far placed item (start_apart placed c item.term (named j item lt at).1 (hold j item lt at))) in
        nonzero (tree_value placed e)
        (λ h. end_apart placed c n full whole_sample.ordered has w.chain.end good w.works.ended
        (fixed_named c valid sound w.knows n left start w.chain.steps w.after w.chain.end (term.named n below) w.works.leads)
        (whole_sample.keeps w.chain.end good other w.nonzero)
        (fixed_null_on c valid sound w.knows placed n met (whole_sample.origin placed n has) (λ v k. each-contained (IsFar placed) w.knows v far k) left start w.chain.steps w.after w.chain.end
        (term.named n below) (term.defined placed has_value) w.works.leads (start_null placed c e term has_value h)))

    gives_conditions : ((i : ℕ) (condition : Item) → slice_get subject.conditions i ≡ Some condition → Worked i condition.term) → GivesConditions subject full
    gives_conditions worked placed n zero has met named in_turn = λ i condition lt at. absurd (omega (arith, lt))
    gives_conditions worked placed n (suc m) has met named in_turn =
        let hold : HoldBefore placed subject m =
        gives_conditions worked placed n m has met (λ i condition lt at. named i condition (omega (arith, lt)) at) (λ i condition lt at. in_turn i condition (omega (arith, lt)) at) in
        λ i condition lt at. go i condition lt at hold (eq-or-lt_of_le (omega (arith, lt)))
      where
        go : (i : ℕ) (condition : Item) → i < suc m → slice_get subject.conditions i ≡ Some condition → HoldBefore placed subject m → (i ≡ m) ⊎ (i < m) → HoldsAsCondition placed condition.term
        go i condition lt at hold (inr less) = hold i condition less at
        go i condition lt at hold (inl same) =
            let before : HoldBefore placed subject i = λ j other below place. hold j other (omega (arith, same, below)) place in
            let has_value : HasTreeValue placed condition.term = in_turn i condition lt at before in
            record {
              has_value = has_value;
              nonzero = worked_apart i condition.term (worked i condition at) (named_conditions i condition at).0 placed n has met
                  (λ j other below place. named j other (omega (arith, below, lt)) place) before (named i condition lt at).0 has_value;
            }

    gives_failure : (verdict : Verdict) → Failure (IsFixedChain lemma_table c) (IsKeptSample c valid) [] subject.conditions 1 subject.goals values verdict → GivesFailure subject full verdict
    gives_failure Proved h = tt
    gives_failure (Impossible k) h = tt
    gives_failure (False g) h = (
      h.place,
      h.goal,
      omega (arith, h.number),
      h.at,
      λ placed has met named hold below term has_value.
          worked_apart (length subject.conditions) h.goal.term h.worked (named_goals h.place h.goal h.at).0 placed (length c.steps) has (λ k step lt at. met k step at) named hold below has_value,
    )

  pub fixed_shown : (steps left : ℕ) (lines : List Line) (verdict : Verdict) → IsLog (IsFixedChain lemma_table c) (IsFixedSample c) subject steps lines verdict left
      → (others : List Line) × IsShown subject others verdict
  fixed_shown steps left lines verdict h = go verdict h
    where
      zeros : (verdict : Verdict) → IsLog (IsFixedChain lemma_table c) (IsFixedSample c) subject steps lines verdict left → (i : ℕ) (goal : Item) → slice_get subject.goals i ≡ Some goal
          → SaysZero verdict i → (placed : Placement) → MeetsSteps placed c → HasTreeValue placed goal.term → Same (tree_value placed goal.term) (whole (pos 0))
      zeros verdict h i goal at says placed met has_value =
          let found = conditions_zero (IsFixedChain lemma_table c) (IsFixedSample c) subject.goals [] [] 1 steps subject.conditions h.rest verdict left h.worked i goal at says in
          let below = (named_goals i goal at).0 in
          ended_in_zero found.known found.left goal.term found.chain found.after found.works found.zero below placed (length c.steps)
          (λ k step lt. met k step) below has_value

      sampled : (verdict : Verdict) → IsLog (IsFixedChain lemma_table c) (IsFixedSample c) subject steps lines verdict left → HasSample verdict
          → (full : List (Var × ℤ)) × (map (λ v. v.0) full ≡ sample_variables c) × GivesConditions subject full × GivesFailure subject full verdict
      sampled verdict h some =
          let kept = conditions_kept c valid subject.goals [] [] 1 steps subject.conditions h.rest verdict left (All-nil (λ (p : Summands). p ≢ [])) h.worked in
          let found = conditions_sampled (IsFixedChain lemma_table c) (IsKeptSample c valid) (suits c valid) subject.goals [] [] 1 steps subject.conditions h.rest verdict left kept some in
          let ordered = (sample_keeps (framed_variables c) found.all found.values found.chosen.some found.chosen.own.least).variables in
          let full = full_of c valid found.values ordered in
          (full.0, full.1.ordered, gives_conditions found.values full.0 full.1 found.conditions, gives_failure found.values full.0 full.1 verdict found.failure)

      go : (verdict : Verdict) → IsLog (IsFixedChain lemma_table c) (IsFixedSample c) subject steps lines verdict left → (others : List Line) × IsShown subject others verdict
      go Proved h =
          let s = sampled Proved h tt in (
            Sample s.0 ∷ VerdictLine Proved ∷ [],
            record {
              zero = zeros Proved h;
              never = λ k is. absurd (let q : Proved ≡ Impossible k = is in cc);
              sample = λ some. ([], s.0, refl, s.1, s.2, s.3);
            },
          )
      go (False g) h =
          let s = sampled (False g) h tt in (
            Sample s.0 ∷ VerdictLine (False g) ∷ [],
            record {
              zero = zeros (False g) h;
              never = λ k is. absurd (let q : False g ≡ Impossible k = is in cc);
              sample = λ some. ([], s.0, refl, s.1, s.2, s.3);
            },
          )
      go (Impossible j) h = (
        [],
        record {
          zero = zeros (Impossible j) h;
          never = λ k is.
              let same : k ≡ j = let q : Impossible j ≡ Impossible k = is in cc in
              let found = conditions_impossible (IsFixedChain lemma_table c) (IsFixedSample c) subject.goals [] [] 1 steps subject.conditions h.rest j left h.worked in
              let ends = found.ends in (
                found.place,
                found.condition,
                omega (arith, found.number, same),
                found.at,
                λ placed n met below holds.
                    apart (tree_value placed found.condition.term) holds.nonzero
                    (ended_in_zero ends.known ends.left found.condition.term ends.chain ends.after ends.works ends.zero
                    (named_conditions found.place found.condition found.at).0 placed n met below holds.has_value),
              );
          sample = λ some. absurd some;
        },
      )
