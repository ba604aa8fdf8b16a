-- The universal half: which chains of an accepted log end in 0.
use Rattle.std.proofs.Common.{◌≡◌, ℕ, zero, suc, ◌+◌, ◌<◌, inl, inr, pos, Option, Some, None, List, [], ◌∷◌, ◌++◌, refl, subst, arith}
use Rattle.std.specs.Prelude.{slice_get}
use Rattle.ring_laws.specs.Fraction.{Same, whole}
use Rattle.geo_points.specs.Placements.{Placement}
use Rattle.geo_poly.specs.declared.variables.Var.{Var}
use Rattle.geo_poly.specs.Polynomials.{Summands}
use Rattle.geo_terms.specs.Constructions.{MeetsSteps}
use Rattle.geo_terms.specs.Trees.{Tree}
use Rattle.geo_terms.specs.Values.{HasTreeValue, tree_value}
use Rattle.proof_log.specs.declared.log.Line.{Line}
use Rattle.proof_log.specs.declared.log.Verdict.{Verdict}
use Rattle.proof_log.specs.declared.log.Verdict.TheVariants.{Proved, False, Impossible}
use Rattle.geo_logs.specs.Chains.{Chain}
use Rattle.geo_logs.specs.Laws.{SaysZero}
use Rattle.geo_logs.specs.Logs.{AreConditionsWorked, AreGoalsWorked, Chains, IsAccepted, Item, Samples, Subject, known_by}
use Rattle.geo_logs.specs.Moves.{Table}
use Rattle.geo_logs.specs.Placements.{HoldsAsCondition}
use Rattle.geo_logs.specs.Sound.{IsSoundTable, IsSoundTerm}
use Rattle.geo_logs.proofs.AcceptedChains.{ended_in_zero}
use Rattle.geo_logs.proofs.MoveValues.{apart}

none_at : {P : Type 0} (i : ℕ) (item : Item) → slice_get {X = Item} [] i ≡ Some item → P
none_at i item e = absurd (let q : ◌≡◌ {A = Option Item} None (Some item) = e in cc)

first_at : (item other : Item) (items : List Item) → slice_get (item ∷ items) 0 ≡ Some other → item ≡ other
first_at item other items e = let q : ◌≡◌ {A = Option Item} (Some item) (Some other) = e in cc

-- the verdict says it of the goal at place i behind those before number k
abbrev SaysZeroFrom : ℕ → Verdict → ℕ → Type 0
SaysZeroFrom k Proved i = Unit {0}
SaysZeroFrom k (False g) i = k + i < g
SaysZeroFrom k (Impossible j) i = ⊥

next_says : (k i : ℕ) (v : Verdict) → SaysZeroFrom k v (suc i) → SaysZeroFrom (suc k) v i
next_says k i Proved h = tt
next_says k i (False g) h = omega (arith, h)
next_says k i (Impossible j) h = h

first_says : (v : Verdict) (i : ℕ) → SaysZero v i → SaysZeroFrom 1 v i
first_says Proved i h = tt
first_says (False g) i h = omega (arith, h)
first_says (Impossible j) i h = h

module _ (Works : Chains) (IsChosen : Samples) where
  -- the term has a chain that ends in 0
  pub record EndsInZero (e : Tree) : Type 0 where
    pub known : List Var
    pub left : ℕ
    pub chain : Chain
    pub after : ℕ
    pub works : Works known left e chain after
    pub zero : chain.end ≡ []

  goals_zero : (known : List Var) (listed : List Summands) (k left : ℕ) (items : List Item) (lines : List Line) (verdict : Verdict) (left' : ℕ)
      → AreGoalsWorked Works IsChosen known listed k left items lines verdict left'
      → (i : ℕ) (goal : Item) → slice_get items i ≡ Some goal → SaysZeroFrom k verdict i → EndsInZero goal.term
  goals_zero known listed k left [] lines verdict left' h i goal at says = none_at i goal at
  goals_zero known listed k left (item ∷ items) lines verdict left' (first, inl ended) zero goal at says =
      subst (λ (x : Item). EndsInZero x.term) (first_at item goal items at)
      (record { known = known; left = left; chain = first.chain; after = first.after; works = first.works; zero = ended.0 })
  goals_zero known listed k left (item ∷ items) lines verdict left' (first, inl ended) (suc i) goal at says =
      goals_zero known listed (suc k) first.after items first.rest verdict left' ended.1 i goal at (next_says k i verdict says)
  goals_zero known listed k left (item ∷ items) lines verdict left' (first, inr failed) i goal at says =
      let late : k + i < k = subst (λ (v : Verdict). SaysZeroFrom k v i) failed.1 says in absurd (omega arith)

  goals_possible : (known : List Var) (listed : List Summands) (k left : ℕ) (items : List Item) (lines : List Line) (j : ℕ) (left' : ℕ)
      → AreGoalsWorked Works IsChosen known listed k left items lines (Impossible j) left' → ⊥
  goals_possible known listed k left [] lines j left' h = let e : Impossible j ≡ Proved = h.0 in cc
  goals_possible known listed k left (item ∷ items) lines j left' (first, inl ended) = goals_possible known listed (suc k) first.after items first.rest j left' ended.1
  goals_possible known listed k left (item ∷ items) lines j left' (first, inr failed) = let e : Impossible j ≡ False k = failed.1 in cc

  pub conditions_zero : (goals : List Item) (known : List Var) (listed : List Summands) (k left : ℕ) (items : List Item) (lines : List Line) (verdict : Verdict) (left' : ℕ)
      → AreConditionsWorked Works IsChosen goals known listed k left items lines verdict left'
      → (i : ℕ) (goal : Item) → slice_get goals i ≡ Some goal → SaysZero verdict i → EndsInZero goal.term
  conditions_zero goals known listed k left [] lines verdict left' h i goal at says =
      goals_zero known listed 1 left goals lines verdict left' h i goal at (first_says verdict i says)
  conditions_zero goals known listed k left (item ∷ items) lines verdict left' (first, inl ended) i goal at says =
      absurd (subst (λ (v : Verdict). SaysZero v i) ended.1 says)
  conditions_zero goals known listed k left (item ∷ items) lines verdict left' (first, inr more) i goal at says =
      conditions_zero goals (known ++ known_by (item ∷ [])) (listed ++ first.chain.end ∷ []) (suc k) first.after items first.rest verdict left' more.1 i goal at says

  -- the condition of the verdict
  pub record IsImpossibleAt (k j : ℕ) (items : List Item) : Type 0 where
    pub place : ℕ
    pub condition : Item
    pub number : j ≡ k + place
    pub at : slice_get items place ≡ Some condition
    pub ends : EndsInZero condition.term

  same_number : (j k : ℕ) → Impossible j ≡ Impossible k → j ≡ k
  same_number j k e = cc

  pub conditions_impossible : (goals : List Item) (known : List Var) (listed : List Summands) (k left : ℕ) (items : List Item) (lines : List Line) (j : ℕ) (left' : ℕ)
      → AreConditionsWorked Works IsChosen goals known listed k left items lines (Impossible j) left' → IsImpossibleAt k j items
  conditions_impossible goals known listed k left [] lines j left' h = absurd (goals_possible known listed 1 left goals lines j left' h)
  conditions_impossible goals known listed k left (item ∷ items) lines j left' (first, inl ended) =
      let same = same_number j k ended.1 in
      record {
        place = 0;
        condition = item;
        number = omega (arith, same);
        at = refl;
        ends = record { known = known; left = left; chain = first.chain; after = first.after; works = first.works; zero = ended.0 };
      }
  conditions_impossible goals known listed k left (item ∷ items) lines j left' (first, inr more) =
      let found = conditions_impossible goals (known ++ known_by (item ∷ [])) (listed ++ first.chain.end ∷ []) (suc k) first.after items first.rest j left' more.1 in
      record {
        place = suc found.place;
        condition = found.condition;
        number = omega (arith, found.number);
        at = found.at;
        ends = found.ends;
      }

-- THE LAWS
pub goals_are_zero : (table : Table) (subject : Subject) (steps left : ℕ) (lines : List Line) (verdict : Verdict)
    → IsSoundTable table subject.construction → IsAccepted table subject steps lines verdict left
    → (i : ℕ) (goal : Item) → slice_get subject.goals i ≡ Some goal → SaysZero verdict i → IsSoundTerm subject.construction goal.term
    → (placed : Placement) → MeetsSteps placed subject.construction → HasTreeValue placed goal.term → Same (tree_value placed goal.term) (whole (pos 0))
goals_are_zero table subject steps left lines verdict sound h i goal at says term placed met has_value =
    let found = conditions_zero _ _ subject.goals [] [] 1 steps subject.conditions h.rest verdict left h.worked i goal at says in
    ended_in_zero table subject.construction sound found.known found.left goal.term found.chain found.after found.works term found.zero placed met has_value

pub never_met : (table : Table) (subject : Subject) (steps left k : ℕ) (lines : List Line)
    → IsSoundTable table subject.construction → IsAccepted table subject steps lines (Impossible k) left
    → (i : ℕ) × (condition : Item) × (k ≡ suc i) × (slice_get subject.conditions i ≡ Some condition)
    × (IsSoundTerm subject.construction condition.term → (placed : Placement) → MeetsSteps placed subject.construction → HoldsAsCondition placed condition.term → ⊥)
never_met table subject steps left k lines sound h =
    let found = conditions_impossible _ _ subject.goals [] [] 1 steps subject.conditions h.rest k left h.worked in
    let ends = found.ends in (
      found.place,
      found.condition,
      omega (arith, found.number),
      found.at,
      λ term placed met holds.
          apart (tree_value placed found.condition.term) holds.nonzero
          (ended_in_zero table subject.construction sound ends.known ends.left found.condition.term ends.chain ends.after ends.works term ends.zero placed met holds.has_value),
    )
