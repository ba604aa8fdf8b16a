-- Programs that are the same mean the same.
use Rattle.std.proofs.Common.{◌≡◌, ℕ, ◌<◌, suc, inl, inr, ⊎_elim, Contains, List, [], ◌∷◌, ◌++◌, All, length, map, refl, sym, ap, ap₂, subst, subst₂, ◌∙◌}
use Rattle.std.specs.Prelude.{slice_index_or, pos}
use Rattle.std.specs.List.{AllByRecursion}
use Rattle.geo_points.specs.Placements.{Placement, SamePlacement, SamePoint}
use Rattle.geo_program.specs.declared.statements.Statement.{Statement}
use Rattle.geo_program.specs.declared.statements.Statement.TheVariants.{Parallel}
use Rattle.geo_program.specs.Forms.{statement_form}
use Rattle.geo_program.specs.FormTexts.{form_text}
use Rattle.geo_program.specs.Spelling.{SameSource}
use Rattle.geo_program.specs.WellFormed.{Source}
use Rattle.geo_lowering.specs.declared.version.Version.{Version}
use Rattle.geo_conditions.specs.Laws.{SameProgramsMeanTheSame}
use Rattle.geo_conditions.specs.Lists.{AreConditionItems, AreGoalItems, Found, IsListed, ItemForm, condition_form, condition_item, goal_item}
use Rattle.geo_conditions.specs.Statements.{pair_goals}
use Rattle.geo_conditions.specs.Terms.{condition_term, goal_term}
use Rattle.geo_conditions.specs.Truth.{Breaks, HasValues, Holds, IsImpossible, IsTrueProgram, Meets, ProgramValues, whole_point}
use Rattle.geo_conditions.proofs.GoalTexts.{IsPair, pairs_paired, same_pair}
use Rattle.geo_conditions.proofs.Listings.{held, listed_hold}
use Rattle.geo_conditions.proofs.Sightings.{same_condition, same_found, same_frees, same_holding, same_layout, same_length, same_met, same_named, same_numbers, same_saying}

turned : (p q : Source) → SameSource p q → SameSource q p
turned p q s = record { names = sym s.names; commands = sym s.commands; statement = sym s.statement }

-- TRUTH
meets : (p q : Source) → SameSource p q → (placed : Placement) → Meets p placed → Meets q placed
meets p q s placed h = record {
  commands = subst (λ (A : Type 0). A) (same_met p q s placed) h.commands;
  conditions = subst (λ (A : Type 0). A) (λ i. All (λ (f : Found). same_condition p q s placed f.condition i) (same_found p q s i)) h.conditions;
}

holds : (p q : Source) → SameSource p q → (placed : Placement) → Holds p placed → Holds q placed
holds p q s placed h = subst (λ (A : Type 0). A) (same_holding p q s placed) h

true_too : (p q : Source) → SameSource p q → IsTrueProgram p → IsTrueProgram q
true_too p q s h = record {
  placed = h.placed;
  meets = meets p q s h.placed h.meets;
  holds = λ other m. holds p q s other (h.holds other (meets q p (turned p q s) other m));
}

impossible : (p q : Source) → SameSource p q → IsImpossible p → IsImpossible q
impossible p q s h placed m = h placed (meets q p (turned p q s) placed m)

values : (p q : Source) → SameSource p q → (placed : Placement) (v : ProgramValues) → HasValues p placed v → HasValues q placed v
values p q s placed v h = record {
  points = h.points ∙ ap length (same_frees p q s);
  numbers = h.numbers ∙ same_numbers p q s;
  same_points =
      subst
      (λ (xs : List ℕ). (k : ℕ) → k < length v.coordinates → SamePoint (placed.point (slice_index_or xs k 0)) (whole_point (slice_index_or v.coordinates k (pos 0, pos 0))))
      (same_frees p q s) h.same_points;
  same_numbers = h.same_numbers;
}

breaks : (p q : Source) → SameSource p q → (v : ProgramValues) → Breaks p v → Breaks q v
breaks p q s v h =
    let t = turned p q s in
    record {
      placed = h.placed;
      has = values p q s h.placed v h.has;
      meets = meets p q s h.placed h.meets;
      unique = λ one other a m b n.
          subst₂ (λ (x y : ℕ). SamePlacement x y one other) (same_named p q s) (same_numbers p q s)
          (h.unique one other (values q p t one v a) (meets q p t one m) (values q p t other v b) (meets q p t other n));
      fails = λ other a m k. h.fails other (values q p t other v a) (meets q p t other m) (holds q p t other k);
    }

-- ITEMS
conditions_too : (version : Version) (p q : Source) → SameSource p q → (items : List ItemForm) → AreConditionItems version p items → AreConditionItems version q items
conditions_too version p q s items h =
    let item : condition_item version p ≡ condition_item version q =
    λ i f. record { text = form_text (s.names i) (condition_form f.condition); term = condition_term (same_layout p q s version i) f.condition; line = f.line } in
    record {
      conditions = h.conditions;
      listed = subst (λ (xs : List Found). IsListed (λ f. f.condition) [] xs h.conditions) (same_found p q s) h.listed;
      written = h.written ∙ ap (λ (f : Found → ItemForm). map f h.conditions) item;
    }

-- the list, the last one left out
before_last : {A B : Type 0} (key : A → B) (xs : List A) (x : A) (listed result : List A) → IsListed key listed (xs ++ x ∷ []) result
    → (most : List A) × IsListed key listed xs most × IsListed key most (x ∷ []) result
before_last key [] x listed result h = (listed, refl, h)
before_last {A} {B} key (y ∷ ys) x listed result h =
    ⊎_elim
    (λ (c : Contains (map key listed) (key y) × IsListed key listed (ys ++ x ∷ []) result).
    let r = before_last key ys x listed result c.1 in (r.0, inl (c.0, r.1), r.2))
    (λ (c : (Contains (map key listed) (key y) → ⊥) × IsListed key (listed ++ y ∷ []) (ys ++ x ∷ []) result).
    let r = before_last key ys x (listed ++ y ∷ []) result c.1 in (r.0, inr (c.0, r.1), r.2)) h

-- and with it again
with_last : {A B : Type 0} (key : A → B) (xs : List A) (x : A) (listed most result : List A) → IsListed key listed xs most → IsListed key most (x ∷ []) result
    → IsListed key listed (xs ++ x ∷ []) result
with_last key [] x listed most result e h = subst (λ (l : List _). IsListed key l (x ∷ []) result) e h
with_last key (y ∷ ys) x listed most result h k =
    ⊎_elim (λ (c : Contains (map key listed) (key y) × IsListed key listed ys most). inl (c.0, with_last key ys x listed most result c.1 k))
    (λ (c : (Contains (map key listed) (key y) → ⊥) × IsListed key (listed ++ y ∷ []) ys most).
    inr (c.0, with_last key ys x (listed ++ y ∷ []) most result c.1 k)) h

module _ (version : Version) (p q : Source) (s : SameSource p q) where
  -- a pair's goal has one item in both, and so have the statements
  pair_item : (g : Statement) → IsPair g → goal_item version p g ≡ goal_item version q g
  pair_item (Parallel a b c d) h = λ i. record {
    text = form_text (s.names i) (statement_form p.nodes (Parallel a b c d));
    term = goal_term (same_layout p q s version i) p.nodes (Parallel a b c d);
    line = suc (same_length p q s i);
  }
  pair_item g h = absurd h

  statement_item : goal_item version p p.statement ≡ goal_item version q q.statement
  statement_item = λ i. record {
    text = form_text (s.names i) (s.statement i);
    term = (same_saying p q s i).term (same_layout p q s version i);
    line = suc (same_length p q s i);
  }

  pair_items : (gs : List Statement) → AllByRecursion IsPair gs → map (goal_item version p) gs ≡ map (goal_item version q) gs
  pair_items [] h = refl
  pair_items (g ∷ gs) h = ap₂ (λ (x : ItemForm) (xs : List ItemForm). x ∷ xs) (pair_item g h.0) (pair_items gs h.1)

  all_items : (gs : List Statement) → AllByRecursion IsPair gs → map (goal_item version p) (gs ++ p.statement ∷ []) ≡ map (goal_item version q) (gs ++ q.statement ∷ [])
  all_items [] h = ap (λ (x : ItemForm). x ∷ []) statement_item
  all_items (g ∷ gs) h = ap₂ (λ (x : ItemForm) (xs : List ItemForm). x ∷ xs) (pair_item g h.0) (all_items gs h.1)

  -- where the statement is a pair's goal, it is the same statement
  same_goal : IsPair p.statement → q.statement ≡ p.statement
  same_goal h = same_pair q.nodes p.nodes q.statement p.statement h (sym s.statement)

abbrev itself : Statement → Statement
itself g = g

goals_too : (version : Version) (p q : Source) → SameSource p q → (items : List ItemForm) → AreGoalItems version p items → AreGoalItems version q items
goals_too version p q s items h = by (before_last itself (pair_goals p.nodes p.statement) p.statement [] h.goals h.listed)
  where
    pairs : pair_goals p.nodes p.statement ≡ pair_goals q.nodes q.statement
    pairs = λ i. (same_saying p q s i).pairs

    by : ((most : List Statement) × IsListed itself [] (pair_goals p.nodes p.statement) most × IsListed itself most (p.statement ∷ []) h.goals) → AreGoalItems version q items
    by r =
        let most = r.0 in
        let paired : AllByRecursion IsPair most = listed_hold itself IsPair (pair_goals p.nodes p.statement) [] most r.1 tt (pairs_paired p.nodes p.statement) in
        let listed : IsListed itself [] (pair_goals q.nodes q.statement) most = subst (λ (xs : List Statement). IsListed itself [] xs most) pairs r.1 in
        ⊎_elim
        (λ (c : Contains (map itself most) p.statement × (h.goals ≡ most)).
        let same = same_goal version p q s (held itself IsPair most p.statement paired c.0) in
        record {
          goals = most;
          listed = with_last itself (pair_goals q.nodes q.statement) q.statement [] most most listed (inl (subst (Contains (map itself most)) (sym same) c.0, refl));
          written = h.written ∙ ap (map (goal_item version p)) c.1 ∙ pair_items version p q s most paired;
        })
        (λ (c : (Contains (map itself most) p.statement → ⊥) × (h.goals ≡ most ++ p.statement ∷ [])).
        record {
          goals = most ++ q.statement ∷ [];
          listed =
              with_last itself (pair_goals q.nodes q.statement) q.statement [] most (most ++ q.statement ∷ []) listed
              (inr (
                (λ (d : Contains (map itself most) q.statement).
                    let same : p.statement ≡ q.statement = same_goal version q p (turned p q s) (held itself IsPair most q.statement paired d) in
                    c.0 (subst (Contains (map itself most)) (sym same) d)),
                refl,
              ));
          written = h.written ∙ ap (map (goal_item version p)) c.1 ∙ all_items version p q s most paired;
        }) r.2

pub same_programs_mean_the_same : SameProgramsMeanTheSame
same_programs_mean_the_same p q s =
    let t = turned p q s in
    record {
      meets = λ placed. (meets p q s placed, meets q p t placed);
      holds = λ placed. (holds p q s placed, holds q p t placed);
      is_true = (true_too p q s, true_too q p t);
      impossible = (impossible p q s, impossible q p t);
      broken = λ v. (breaks p q s v, breaks q p t v);
      conditions = λ version items. (conditions_too version p q s items, conditions_too version q p t items);
      goals = λ version items. (goals_too version p q s items, goals_too version q p t items);
    }
