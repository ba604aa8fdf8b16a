-- The existence half: the sample of an accepted log, and the chains that it makes end in something else than 0.
use Rattle.std.proofs.Common.{◌≡◌, ℕ, zero, suc, ◌+◌, ◌<◌, ◌⊎◌, inl, inr, All, length, map, ℤ, Option, Some, None, List, [], ◌∷◌, ◌++◌, append_assoc, refl, sym, ap, ◌∙◌, subst, arith}
use Rattle.std.specs.Prelude.{slice_get}
use Rattle.std.proofs.Math.Nat.{eq-or-lt_of_le}
use Rattle.ring_laws.specs.Fraction.{IsNonzero}
use Rattle.geo_points.specs.Placements.{Placement}
use Rattle.geo_poly.specs.declared.variables.Var.{Var}
use Rattle.geo_poly.specs.Polynomials.{Summands}
use Rattle.geo_poly.proofs.Cuts.{All-front, All-last}
use Rattle.geo_terms.specs.Trees.{Tree}
use Rattle.geo_terms.specs.Values.{HasTreeValue, tree_value}
use Rattle.proof_log.specs.declared.log.Line.{Line}
use Rattle.proof_log.specs.declared.log.Line.TheVariants.{Header, Program as ProgramLine, Condition, Goal, Sample, Verdict as VerdictLine}
use Rattle.proof_log.specs.declared.log.Verdict.{Verdict}
use Rattle.proof_log.specs.declared.log.Verdict.TheVariants.{Proved, False, Impossible}
use Rattle.geo_logs.specs.Chains.{Chain, IsAcceptedChain, chain_lines}
use Rattle.geo_logs.specs.Laws.{AcceptedSampleRealises, AreNamedBefore, GivesConditions, GivesFailure, HasSample, HoldBefore}
use Rattle.geo_logs.specs.Logs.{AreConditionsWorked, AreGoalsWorked, Chains, Item, Samples, Subject, known_by}
use Rattle.geo_logs.specs.Moves.{Table}
use Rattle.geo_logs.specs.Placements.{HasValuesBelow, HoldsAsCondition, MeetsStepsBelow}
use Rattle.geo_terms.specs.TermBounds.{IsTermBelow}
use Rattle.geo_logs.specs.Samples.{IsAcceptedSample, sample_variables}
use Rattle.geo_logs.specs.Sound.{IsSoundTable, IsSoundTerm}
use Rattle.geo_logs.proofs.AcceptedChains.{ended_apart, start_apart}
use Rattle.geo_poly.proofs.EachVariable.{EachIn, each-append}
use Rattle.geo_logs.proofs.SampleValues.{IsNonzeroAt, each_nonzero}
use Rattle.geo_logs.proofs.Known.{IsFar, known_far}

none_at : {P : Type 0} (i : ℕ) (item : Item) → slice_get {X = Item} [] i ≡ Some item → P
none_at i item e = absurd (let q : ◌≡◌ {A = Option Item} None (Some item) = e in cc)

first_at : (item other : Item) (items : List Item) → slice_get (item ∷ items) 0 ≡ Some other → item ≡ other
first_at item other items e = let q : ◌≡◌ {A = Option Item} (Some item) (Some other) = e in cc

module _ (Works : Chains) (IsChosen : Samples) where
  -- the term has a chain that does not end in 0 at the sample; what is known in it comes from `known` and from the items before place i
  pub record IsWorkedAt (known : List Var) (items : List Item) (i : ℕ) (values : List (Var × ℤ)) (e : Tree) : Type 0 where
    pub knows : List Var
    pub left : ℕ
    pub chain : Chain
    pub after : ℕ
    pub works : Works knows left e chain after
    pub nonzero : IsNonzeroAt values chain.end
    pub from : (placed : Placement) → EachIn (IsFar placed) known
        → ((j : ℕ) (other : Item) → j < i → slice_get items j ≡ Some other → EachIn (IsFar placed) (known_by (other ∷ [])))
        → EachIn (IsFar placed) knows

  -- one item earlier
  later : (known : List Var) (item : Item) (items : List Item) (i : ℕ) (values : List (Var × ℤ)) (e : Tree)
      → IsWorkedAt (known ++ known_by (item ∷ [])) items i values e → IsWorkedAt known (item ∷ items) (suc i) values e
  later known item items i values e h = record {
    knows = h.knows;
    left = h.left;
    chain = h.chain;
    after = h.after;
    works = h.works;
    nonzero = h.nonzero;
    from = λ placed far each. h.from placed (each-append (IsFar placed) known (known_by (item ∷ [])) far (each 0 item (omega arith) refl))
        (λ j other lt at. each (suc j) other (omega (arith, lt)) at);
  }

  -- the goal that the verdict names, of those from number k on
  pub record IsFailing (known : List Var) (conditions : List Item) (k g : ℕ) (items : List Item) (values : List (Var × ℤ)) : Type 0 where
    pub place : ℕ
    pub goal : Item
    pub number : g ≡ k + place
    pub at : slice_get items place ≡ Some goal
    pub worked : IsWorkedAt known conditions (length conditions) values goal.term

  -- the failing goal, where the verdict names one
  abbrev pub Failure : List Var → List Item → ℕ → List Item → List (Var × ℤ) → Verdict → Type 0
  Failure known conditions k items values Proved = Unit {0}
  Failure known conditions k items values (False g) = IsFailing known conditions k g items values
  Failure known conditions k items values (Impossible j) = Unit {0}

  shifted : (known : List Var) (conditions : List Item) (k : ℕ) (item : Item) (items : List Item) (values : List (Var × ℤ)) (v : Verdict)
      → Failure known conditions (suc k) items values v → Failure known conditions k (item ∷ items) values v
  shifted known conditions k item items values Proved h = tt
  shifted known conditions k item items values (False g) h =
      record { place = suc h.place; goal = h.goal; number = omega (arith, h.number); at = h.at; worked = h.worked }
  shifted known conditions k item items values (Impossible j) h = tt

  failing_later : (known : List Var) (item : Item) (conditions : List Item) (k : ℕ) (items : List Item) (values : List (Var × ℤ)) (v : Verdict)
      → Failure (known ++ known_by (item ∷ [])) conditions k items values v → Failure known (item ∷ conditions) k items values v
  failing_later known item conditions k items values Proved h = tt
  failing_later known item conditions k items values (False g) h =
      record { place = h.place; goal = h.goal; number = h.number; at = h.at; worked = later known item conditions (length conditions) values h.goal.term h.worked }
  failing_later known item conditions k items values (Impossible j) h = tt

  module _ (suits : (listed : List Summands) (left : ℕ) (values : List (Var × ℤ)) (left' : ℕ) → IsChosen listed left values left' → All (IsNonzeroAt values) listed) where
    -- the lines end with a sample at which the listed polynomials are not 0
    pub record EndsWithSample (known : List Var) (listed : List Summands) (k : ℕ) (goals : List Item) (lines : List Line) (verdict : Verdict) (left' : ℕ) : Type 0 where
      pub before : List Line
      pub values : List (Var × ℤ)
      pub all : List Summands
      pub left : ℕ
      pub split : lines ≡ before ++ Sample values ∷ VerdictLine verdict ∷ []
      pub chosen : IsChosen all left values left'
      pub nonzero : All (IsNonzeroAt values) listed
      pub failure : Failure known [] k goals values verdict

    goals_sampled : (known : List Var) (listed : List Summands) (k left : ℕ) (items : List Item) (lines : List Line) (verdict : Verdict) (left' : ℕ)
        → AreGoalsWorked Works IsChosen known listed k left items lines verdict left' → EndsWithSample known listed k items lines verdict left'
    goals_sampled known listed k left [] lines verdict left' h =
        let end = h.1 in
        subst (λ (v : Verdict). EndsWithSample known listed k [] lines v left') (sym h.0)
        (record {
          before = [];
          values = end.values;
          all = listed;
          left = left;
          split = end.split;
          chosen = end.chosen;
          nonzero = suits listed left end.values left' end.chosen;
          failure = tt;
        })
    goals_sampled known listed k left (item ∷ items) lines verdict left' (first, inl ended) =
        let rest = goals_sampled known listed (suc k) first.after items first.rest verdict left' ended.1 in
        let head : List Line = chain_lines (Goal k item.text) item.term first.chain in
        record {
          before = head ++ rest.before;
          values = rest.values;
          all = rest.all;
          left = rest.left;
          split = first.split ∙ ap (λ (xs : List Line). head ++ xs) rest.split ∙ sym (append_assoc head rest.before (Sample rest.values ∷ VerdictLine verdict ∷ []));
          chosen = rest.chosen;
          nonzero = rest.nonzero;
          failure = shifted known [] k item items rest.values verdict rest.failure;
        }
    goals_sampled known listed k left (item ∷ items) lines verdict left' (first, inr failed) =
        let end = failed.2 in
        let head : List Line = chain_lines (Goal k item.text) item.term first.chain in
        let all = suits (listed ++ first.chain.end ∷ []) first.after end.values left' end.chosen in
        subst (λ (v : Verdict). EndsWithSample known listed k (item ∷ items) lines v left') (sym failed.1)
        (record {
          before = head;
          values = end.values;
          all = listed ++ first.chain.end ∷ [];
          left = first.after;
          split = first.split ∙ ap (λ (xs : List Line). head ++ xs) end.split;
          chosen = end.chosen;
          nonzero = All-front (IsNonzeroAt end.values) listed (first.chain.end ∷ []) all;
          failure = record {
            place = 0;
            goal = item;
            number = omega arith;
            at = refl;
            worked = record {
              knows = known;
              left = left;
              chain = first.chain;
              after = first.after;
              works = first.works;
              nonzero = All-last (IsNonzeroAt end.values) listed first.chain.end all;
              from = λ placed far each. far;
            };
          };
        })

    -- and so does each chain of a condition
    pub record IsSampled (known : List Var) (listed : List Summands) (goals items : List Item) (lines : List Line) (verdict : Verdict) (left' : ℕ) : Type 0 where
      pub before : List Line
      pub values : List (Var × ℤ)
      pub all : List Summands
      pub left : ℕ
      pub split : lines ≡ before ++ Sample values ∷ VerdictLine verdict ∷ []
      pub chosen : IsChosen all left values left'
      pub nonzero : All (IsNonzeroAt values) listed
      pub conditions : (i : ℕ) (condition : Item) → slice_get items i ≡ Some condition → IsWorkedAt known items i values condition.term
      pub failure : Failure known items 1 goals values verdict

    pub conditions_sampled : (goals : List Item) (known : List Var) (listed : List Summands) (k left : ℕ) (items : List Item) (lines : List Line) (verdict : Verdict) (left' : ℕ)
        → AreConditionsWorked Works IsChosen goals known listed k left items lines verdict left' → HasSample verdict → IsSampled known listed goals items lines verdict left'
    conditions_sampled goals known listed k left [] lines verdict left' h some =
        let end = goals_sampled known listed 1 left goals lines verdict left' h in
        record {
          before = end.before;
          values = end.values;
          all = end.all;
          left = end.left;
          split = end.split;
          chosen = end.chosen;
          nonzero = end.nonzero;
          conditions = λ i condition at. none_at i condition at;
          failure = end.failure;
        }
    conditions_sampled goals known listed k left (item ∷ items) lines verdict left' (first, inl ended) some =
        absurd (subst HasSample ended.1 some)
    conditions_sampled goals known listed k left (item ∷ items) lines verdict left' (first, inr more) some =
        let rest = conditions_sampled goals (known ++ known_by (item ∷ [])) (listed ++ first.chain.end ∷ []) (suc k) first.after items first.rest verdict left' more.1 some in
        let head : List Line = chain_lines (Condition k item.text) item.term first.chain in
        record {
          before = head ++ rest.before;
          values = rest.values;
          all = rest.all;
          left = rest.left;
          split = first.split ∙ ap (λ (xs : List Line). head ++ xs) rest.split ∙ sym (append_assoc head rest.before (Sample rest.values ∷ VerdictLine verdict ∷ []));
          chosen = rest.chosen;
          nonzero = All-front (IsNonzeroAt rest.values) listed (first.chain.end ∷ []) rest.nonzero;
          conditions = each rest.values (All-last (IsNonzeroAt rest.values) listed first.chain.end rest.nonzero) rest.conditions;
          failure = failing_later known item items 1 goals rest.values verdict rest.failure;
        }
      where
        each : (values : List (Var × ℤ)) → IsNonzeroAt values first.chain.end
            → ((i : ℕ) (condition : Item) → slice_get items i ≡ Some condition → IsWorkedAt (known ++ known_by (item ∷ [])) items i values condition.term)
            → (i : ℕ) (condition : Item) → slice_get (item ∷ items) i ≡ Some condition → IsWorkedAt known (item ∷ items) i values condition.term
        each values some rest zero condition at =
            subst (λ (x : Item). IsWorkedAt known (item ∷ items) 0 values x.term) (first_at item condition items at)
            (record {
              knows = known;
              left = left;
              chain = first.chain;
              after = first.after;
              works = first.works;
              nonzero = some;
              from = λ placed far each. far;
            })
        each values some rest (suc i) condition at = later known item items i values condition.term (rest i condition at)

-- THE LAW
module _ (table : Table) (subject : Subject) (sound : IsSoundTable table subject.construction) (values : List (Var × ℤ))
    (ordered : map (λ (v : Var × ℤ). v.0) values ≡ sample_variables subject.construction) where
  abbrev Worked : ℕ → Tree → Type 0
  Worked i e = IsWorkedAt (IsAcceptedChain table subject.construction) (IsAcceptedSample subject.construction) [] subject.conditions i values e

  -- where the conditions before place i hold, a term that is worked behind them is not 0
  worked_apart : (i : ℕ) (e : Tree) → Worked i e → (placed : Placement) (n : ℕ) → HasValuesBelow placed subject.construction n values
      → MeetsStepsBelow placed subject.construction n → AreNamedBefore subject n i → HoldBefore placed subject i
      → IsTermBelow n subject.construction.params e → IsSoundTerm subject.construction e → HasTreeValue placed e → IsNonzero (tree_value placed e)
  worked_apart i e w placed n has met named hold below term has_value =
      ended_apart table subject.construction sound w.knows w.left e w.chain w.after w.works term values ordered w.nonzero placed n has met
      (w.from placed tt (λ j other lt at. known_far placed other (start_apart placed subject.construction other.term (named j other lt at).1 (hold j other lt at))))
      below has_value

  gives_conditions : ((i : ℕ) (condition : Item) → slice_get subject.conditions i ≡ Some condition → Worked i condition.term) → GivesConditions subject values
  gives_conditions worked placed n zero has met named in_turn = λ i condition lt at. absurd (omega (arith, lt))
  gives_conditions worked placed n (suc m) has met named in_turn =
      let hold : HoldBefore placed subject m =
      gives_conditions worked placed n m has met (λ i condition lt at. named i condition (omega (arith, lt)) at) (λ i condition lt at. in_turn i condition (omega (arith, lt)) at) in
      λ i condition lt at. go i condition lt at hold (eq-or-lt_of_le (omega (arith, lt)))
    where
      go : (i : ℕ) (condition : Item) → i < suc m → slice_get subject.conditions i ≡ Some condition → HoldBefore placed subject m → (i ≡ m) ⊎ (i < m) → HoldsAsCondition placed condition.term
      go i condition lt at hold (inr less) = hold i condition less at
      go i condition lt at hold (inl same) =
          let before : HoldBefore placed subject i = λ j other below place. hold j other (omega (arith, same, below)) place in
          let has_value : HasTreeValue placed condition.term = in_turn i condition lt at before in
          record {
            has_value = has_value;
            nonzero = worked_apart i condition.term (worked i condition at) placed n has met (λ j other below place. named j other (omega (arith, below, lt)) place) before
                (named i condition lt at).0 (named i condition lt at).1 has_value;
          }

  gives_failure : (verdict : Verdict) → Failure (IsAcceptedChain table subject.construction) (IsAcceptedSample subject.construction) [] subject.conditions 1 subject.goals values verdict
      → GivesFailure subject values verdict
  gives_failure Proved h = tt
  gives_failure (Impossible k) h = tt
  gives_failure (False g) h = (
    h.place,
    h.goal,
    omega (arith, h.number),
    h.at,
    λ placed has met named hold below term has_value.
        worked_apart (length subject.conditions) h.goal.term h.worked placed (length subject.construction.steps) has (λ k step lt at. met k step at) named hold below term has_value,
  )

pub sample_realises : AcceptedSampleRealises
sample_realises table subject steps left lines verdict sound h some =
    let found = conditions_sampled (IsAcceptedChain table subject.construction) (IsAcceptedSample subject.construction) (λ listed left values left' chosen. each_nonzero values listed chosen.nonzero)
    subject.goals [] [] 1 steps subject.conditions h.rest verdict left h.worked some in
    let head : List Line = Header subject.version ∷ map ProgramLine subject.program in (
      head ++ found.before,
      found.values,
      h.split ∙ ap (λ (xs : List Line). head ++ xs) found.split ∙ sym (append_assoc head found.before (Sample found.values ∷ VerdictLine verdict ∷ [])),
      found.chosen.variables,
      gives_conditions table subject sound found.values found.chosen.variables found.conditions,
      gives_failure table subject sound found.values found.chosen.variables verdict found.failure,
    )
