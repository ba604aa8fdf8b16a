-- Programs that are the same evaluate alike, and one answer comes of values.
use Rattle.std.proofs.Common.{◌≡◌, ◌⊎◌, ℕ, zero, suc, ◌<◌, Bool, true, false, pos, List, [], ◌∷◌, ◌++◌, length, map, refl, sym, ◌∙◌, ap, subst, arith}
use Rattle.std.specs.Prelude.{Some, Result, Ok, Err, slice_get, slice_index_or}
use Rattle.std.specs.List.{AllByRecursion}
use Rattle.std.proofs.lemmas.List.Elements.{All-from_recursion, recursion_from_All}
use Rattle.std.proofs.lemmas.List.{length-map}
use Rattle.ring_laws.specs.Fraction.{IsNonzero, Same, whole}
use Rattle.geo_points.specs.Placements.{Placement, SamePoint}
use Rattle.geo_terms.specs.Stores.{Store}
use Rattle.geo_program.specs.declared.names.NameKind.TheVariants as kind
use Rattle.geo_program.specs.Names.{names_of}
use Rattle.geo_program.specs.Spelling.{SameSource}
use Rattle.geo_program.specs.declared.statements.Statement.{Statement}
use Rattle.geo_program.specs.WellFormed.{IsWellFormed, Source}
use Rattle.geo_lowering.specs.Building.{forgotten}
use Rattle.geo_lowering.specs.Conditions.{Condition}
use Rattle.geo_lowering.specs.Counting.{points_named}
use Rattle.geo_lowering.specs.Lowering.{Layout, layout_of, point_place}
use Rattle.geo_lowering.specs.StepForms.{StepForm}
use Rattle.geo_lowering.specs.declared.version.Version.TheVariants.{Two}
use Rattle.geo_conditions.specs.Lists.{Found, IsListed}
use Rattle.geo_conditions.specs.Terms.{condition_term, goal_term}
use Rattle.geo_conditions.specs.Truth.{HasValues, ProgramValues, whole_point}
use Rattle.geo_conditions.proofs.Sightings.{same_found, same_frees, same_layout, same_numbers}
use Rattle.geo_conditions.proofs.SamePrograms.{same_programs_mean_the_same}
use Rattle.geo_place.specs.declared.errors.PlaceError.{PlaceError}
use Rattle.geo_place.specs.declared.errors.PlaceError.TheVariants.{NoMemory, TooLarge, Unmet}
use Rattle.geo_place.specs.declared.placed.At.{At}
use Rattle.geo_place.specs.declared.placed.Placed.{Placed}
use Rattle.geo_place.specs.Evaluation.{AreAt, ComesUp, End, EndsAs, IsListedAt, IsReckoned, IsRight, TurnOverflows, IsTriplePast, LineTurn}
use Rattle.geo_place.specs.Evaluation.{Succeeds, Turn, judge, make, placed_all, test, too_large, turns_of, unmet, write}
use Rattle.geo_place.specs.Formulas.{reckoned, step_spot}
use Rattle.geo_place.specs.Placing.{AnswersValues, Places}
use Rattle.geo_place.specs.Reckonings.{Overflows, number}
use Rattle.geo_place.proofs.Once.{evaluation_ends_once}
use Rattle.geo_place.proofs.LeastTriples.{least_once}
use Rattle.geo_place.proofs.ListParts.{beside, head_of, none_before, tail_of}
use Rattle.geo_place.proofs.PlaceAnswers.{names_counted}
use Rattle.geo_place.proofs.SeenTurns.{LineTask, Task, judges, line_task, makes_point, same_point_lines, same_steps, same_tasks, task_of, tests, writes}

-- TASKS THAT PASS
module _ (placed : Placement) (l : Layout) where
  abbrev TaskTooLarge : Task → Type 0
  TaskTooLarge (tests c) = Overflows (reckoned placed (condition_term l c))
  TaskTooLarge (makes_point n f) = Overflows (step_spot placed n f).x ⊎ Overflows (step_spot placed n f).y
  TaskTooLarge (writes n) = IsTriplePast (placed.point n)
  TaskTooLarge (judges t) = Overflows (reckoned placed t)

  abbrev TaskRight : Task → Type 0
  TaskRight (tests c) = IsNonzero (number (reckoned placed (condition_term l c)))
  TaskRight (makes_point n f) = Unit {0}
  TaskRight (writes n) = Unit {0}
  TaskRight (judges t) = Same (number (reckoned placed t)) (whole (pos 0))

module _ (placed : Placement) (p : Source) where
  abbrev Q : LineTurn → LineTask
  Q = line_task (layout_of Two p.commands) p.nodes

  large_to : (t : Turn) → TurnOverflows p placed t → TaskTooLarge placed (layout_of Two p.commands) (task_of (layout_of Two p.commands) p.nodes t)
  large_to (test c) h = h
  large_to (make n f) h = h
  large_to (write n) h = h
  large_to (judge g) h = h

  large_of : (t : Turn) → TaskTooLarge placed (layout_of Two p.commands) (task_of (layout_of Two p.commands) p.nodes t) → TurnOverflows p placed t
  large_of (test c) h = h
  large_of (make n f) h = h
  large_of (write n) h = h
  large_of (judge g) h = h

  right_to : (t : Turn) → IsRight p placed t → TaskRight placed (layout_of Two p.commands) (task_of (layout_of Two p.commands) p.nodes t)
  right_to (test c) h = h
  right_to (make n f) h = h
  right_to (write n) h = h
  right_to (judge g) h = h

  right_of : (t : Turn) → TaskRight placed (layout_of Two p.commands) (task_of (layout_of Two p.commands) p.nodes t) → IsRight p placed t
  right_of (test c) h = h
  right_of (make n f) h = h
  right_of (write n) h = h
  right_of (judge g) h = h

-- TURNS OF ONE LINE AND TASK
abbrev condition_of : Condition → Task → Condition
condition_of d (tests c) = c
condition_of d (makes_point n f) = d
condition_of d (writes n) = d
condition_of d (judges t) = d

-- a turn with the task of a test is this test
is_test : (l : Layout) (nodes : Store) (line : ℕ) (c : Condition) (k : ℕ) (u : Turn)
    → ◌≡◌ {A = LineTask} (record { line = line; task = tests c }) (line_task l nodes (record { line = k; turn = u }))
    → ◌≡◌ {A = LineTurn} (record { line = k; turn = u }) (record { line = line; turn = test c })
is_test l nodes line c k (test d) e = λ i. record { line = sym (ap (λ (t : LineTask). t.line) e) i; turn = test (sym (ap (λ (t : LineTask). condition_of c t.task) e) i) }
is_test l nodes line c k (make n f) e = let q : tests c ≡ makes_point n f = ap (λ (t : LineTask). t.task) e in cc
is_test l nodes line c k (write n) e = let q : tests c ≡ writes n = ap (λ (t : LineTask). t.task) e in cc
is_test l nodes line c k (judge g) e = let q : tests c ≡ judges (goal_term l nodes g) = ap (λ (t : LineTask). t.task) e in cc

-- a turn with the task of a goal is a goal
record IsJudge (line k : ℕ) (u : Turn) : Type 0 where
  goal : Statement
  same : ◌≡◌ {A = LineTurn} (record { line = k; turn = u }) (record { line = line; turn = judge goal })

is_judge : (l m : Layout) (one other : Store) (line : ℕ) (g : Statement) (k : ℕ) (u : Turn)
    → line_task l one (record { line = line; turn = judge g }) ≡ line_task m other (record { line = k; turn = u }) → IsJudge line k u
is_judge l m one other line g k (test d) e = let q : judges (goal_term l one g) ≡ tests d = ap (λ (t : LineTask). t.task) e in cc
is_judge l m one other line g k (make n f) e = let q : judges (goal_term l one g) ≡ makes_point n f = ap (λ (t : LineTask). t.task) e in cc
is_judge l m one other line g k (write n) e = let q : judges (goal_term l one g) ≡ writes n = ap (λ (t : LineTask). t.task) e in cc
is_judge l m one other line g k (judge h) e = record { goal = h; same = λ i. record { line = sym (ap (λ (t : LineTask). t.line) e) i; turn = judge h } }

-- SAME PROGRAMS
module _ (p q : Source) (s : SameSource p q) (placed : Placement) where
  abbrev P' : LineTurn → LineTask
  P' = line_task (layout_of Two p.commands) p.nodes

  abbrev Q' : LineTurn → LineTask
  Q' = line_task (layout_of Two q.commands) q.nodes

  large_there : (t u : LineTurn) → P' t ≡ Q' u → TurnOverflows p placed t.turn → TurnOverflows q placed u.turn
  large_there t u e h =
      large_of placed q u.turn
      (subst (λ (z : LineTask). TaskTooLarge placed (layout_of Two q.commands) z.task) e
      (subst (λ (l : Layout). TaskTooLarge placed l (P' t).task) (same_layout p q s Two) (large_to placed p t.turn h)))

  large_here : (t u : LineTurn) → P' t ≡ Q' u → TurnOverflows q placed u.turn → TurnOverflows p placed t.turn
  large_here t u e h =
      large_of placed p t.turn
      (subst (λ (l : Layout). TaskTooLarge placed l (P' t).task) (sym (same_layout p q s Two))
      (subst (λ (z : LineTask). TaskTooLarge placed (layout_of Two q.commands) z.task) (sym e) (large_to placed q u.turn h)))

  right_there : (t u : LineTurn) → P' t ≡ Q' u → IsRight p placed t.turn → IsRight q placed u.turn
  right_there t u e h =
      right_of placed q u.turn
      (subst (λ (z : LineTask). TaskRight placed (layout_of Two q.commands) z.task) e (subst (λ (l : Layout). TaskRight placed l (P' t).task) (same_layout p q s Two) (right_to placed p t.turn h)))

  right_here : (t u : LineTurn) → P' t ≡ Q' u → IsRight q placed u.turn → IsRight p placed t.turn
  right_here t u e h =
      right_of placed p t.turn
      (subst (λ (l : Layout). TaskRight placed l (P' t).task) (sym (same_layout p q s Two))
      (subst (λ (z : LineTask). TaskRight placed (layout_of Two q.commands) z.task) (sym e) (right_to placed q u.turn h)))

  all_there : (ts us : List LineTurn) → map P' ts ≡ map Q' us → AllByRecursion (Succeeds p placed) ts → AllByRecursion (Succeeds q placed) us
  all_there ts [] e h = tt
  all_there [] (u ∷ us) e h = absurd (none_before [] (Q' u) (map Q' us) (sym e))
  all_there (t ∷ ts) (u ∷ us) e h =
      let here = head_of e in
      (((λ z. h.0.0 (large_here t u here z)), right_there t u here h.0.1), all_there ts us (tail_of e) h.1)

  -- the turn that comes up there
  record ComesUpThere (t : LineTurn) : Type 0 where
    turn : LineTurn
    same : P' t ≡ Q' turn
    comes : ComesUp q placed turn

  comes_up : (t : LineTurn) → ComesUp p placed t → ComesUpThere t
  comes_up t h =
      let r = beside P' Q' h.before t h.after (turns_of q) (sym (ap (λ (ts : List LineTurn). map P' ts) h.parts) ∙ same_tasks p q s) in
      record {
        turn = r.item;
        same = r.same;
        comes = record {
          before = r.before;
          after = r.after;
          parts = r.parts;
          passed = All-from_recursion (Succeeds q placed) r.before (all_there h.before r.before r.same_before (recursion_from_All (Succeeds p placed) h.before h.passed));
        };
      }

  listed_there : (c : Condition) (k : ℕ) → IsListedAt p c k → IsListedAt q c k
  listed_there c k h = record {
    earlier = h.earlier;
    later = h.later;
    line = h.line;
    listed = subst (λ (xs : List Found). IsListed (λ f. f.condition) [] xs (h.earlier ++ record { condition = c; line = h.line } ∷ h.later)) (same_found p q s) h.listed;
    place = h.place;
  }

  pub ends_there : (e : End) → EndsAs p placed e → EndsAs q placed e
  ends_there (unmet k) (line, c, fails, listed) =
      let t : LineTurn = record { line = line; turn = test c } in
      let r = comes_up t fails.0 in
      let is : r.turn ≡ t = is_test (layout_of Two q.commands) q.nodes line c r.turn.line r.turn.turn r.same in
      let same : P' t ≡ Q' t = subst (λ (u : LineTurn). P' t ≡ Q' u) is r.same in (
        line,
        c,
        (subst (λ (u : LineTurn). ComesUp q placed u) is r.comes, (λ z. fails.1 (large_here t t same z)), (λ z. fails.2 (right_here t t same z))),
        listed_there c k listed,
      )
  ends_there (too_large line) (turn, comes, large) =
      let t : LineTurn = record { line = line; turn = turn } in
      let r = comes_up t comes in
      let there : line ≡ r.turn.line = ap (λ (z : LineTask). z.line) r.same in
      let is : r.turn ≡ record { line = line; turn = r.turn.turn } = λ i. record { line = sym there i; turn = r.turn.turn } in
      (r.turn.turn, subst (λ (u : LineTurn). ComesUp q placed u) is r.comes, large_there t r.turn r.same large)
  ends_there (placed_all true) h = All-from_recursion (Succeeds q placed) (turns_of q) (all_there (turns_of p) (turns_of q) (same_tasks p q s) (recursion_from_All (Succeeds p placed) (turns_of p) h))
  ends_there (placed_all false) (line, g, fails) =
      let t : LineTurn = record { line = line; turn = judge g } in
      let r = comes_up t fails.0 in
      let j = is_judge (layout_of Two p.commands) (layout_of Two q.commands) p.nodes q.nodes line g r.turn.line r.turn.turn r.same in
      let u : LineTurn = record { line = line; turn = judge j.goal } in
      let same : P' t ≡ Q' u = subst (λ (z : LineTurn). P' t ≡ Q' z) j.same r.same in (
        line,
        j.goal,
        (subst (λ (z : LineTurn). ComesUp q placed z) j.same r.comes, (λ z. fails.1 (large_here t u same z)), (λ z. fails.2 (right_here t u same z))),
      )

  places_same : point_place Two p.commands ≡ point_place Two q.commands
  places_same = ap (λ (l : Layout). l.point) (same_layout p q s Two)

  values_there : (one : Placement) (v : ProgramValues) → HasValues p one v → HasValues q one v
  values_there one v h = record {
    points = h.points ∙ ap (λ (xs : List ℕ). length xs) (same_frees p q s);
    numbers = h.numbers ∙ same_numbers p q s;
    same_points =
        subst (λ (xs : List ℕ). (k : ℕ) → k < length v.coordinates
        → SamePoint (one.point (slice_index_or xs k 0)) (whole_point (slice_index_or v.coordinates k (pos 0, pos 0))))
        (same_frees p q s) h.same_points;
    same_numbers = h.same_numbers;
  }

  pub reckoned_there : (v : ProgramValues) → IsReckoned p v placed → IsReckoned q v placed
  reckoned_there v h = record {
    values = subst (λ (place : ℕ → ℕ). HasValues q (record { point = λ a. placed.point (place a); number = placed.number }) v) places_same (values_there (forgotten Two p placed) v h.values);
    points = subst (λ (fs : List StepForm). AreAt placed 0 fs) (same_steps p q s) h.points;
  }

-- ONE ANSWER
turned : (p q : Source) → SameSource p q → SameSource q p
turned p q s = record { names = sym s.names; commands = sym s.commands; statement = sym s.statement }

same_bool : (a b : Bool) → placed_all a ≡ placed_all b → a ≡ b
same_bool true true e = refl
same_bool false false e = refl
same_bool true false e = cc
same_bool false true e = cc

same_condition : (k j : ℕ) → unmet k ≡ unmet j → k ≡ j
same_condition k j e = ap (λ (z : End). elim z [ unmet i ↦ i | too_large i ↦ k | placed_all b ↦ k ]) e

same_line : (k j : ℕ) → too_large k ≡ too_large j → k ≡ j
same_line k j e = ap (λ (z : End). elim z [ unmet i ↦ k | too_large i ↦ i | placed_all b ↦ k ]) e

-- points with the same names, lines and triples
record SameAt (a b : At) : Type 0 where
  x : a.x ≡ b.x
  y : a.y ≡ b.y
  w : a.w ≡ b.w

same_ats : (xs ys : List At) → map (λ a. a.name) xs ≡ map (λ a. a.name) ys → map (λ a. a.line) xs ≡ map (λ a. a.line) ys
    → ((k : ℕ) (a b : At) → slice_get xs k ≡ Some a → slice_get ys k ≡ Some b → SameAt a b) → xs ≡ ys
same_ats [] [] n l t = refl
same_ats [] (y ∷ ys) n l t = absurd (none_before [] y.line (map (λ a. a.line) ys) (sym l))
same_ats (x ∷ xs) [] n l t = absurd (none_before [] x.line (map (λ a. a.line) xs) l)
same_ats (x ∷ xs) (y ∷ ys) n l t =
    let name = head_of n in
    let line = head_of l in
    let here = t 0 x y refl refl in
    let more = same_ats xs ys (tail_of n) (tail_of l) (λ k a b e f. t (suc k) a b e f) in
    λ i. record { name = name i; line = line i; x = here.x i; y = here.y i; w = here.w i } ∷ more i

get_below : {A : Type 0} (xs : List A) (k : ℕ) (x : A) → slice_get xs k ≡ Some x → k < length xs
get_below [] k x e = cc
get_below (y ∷ ys) zero x e = omega arith
get_below (y ∷ ys) (suc k) x e = let h : k < length ys = get_below ys k x e in omega arith

module _ (p q : Source) (s : SameSource p q) (w : IsWellFormed p) (v : ProgramValues) where
  same_end : (one other : Placement) (e f : End) → IsReckoned p v one → IsReckoned q v other → EndsAs p one e → EndsAs q other f → e ≡ f
  same_end one other e f h k a b =
      evaluation_ends_once p v one other e f w h (reckoned_there q p (turned p q s) other v k) a (ends_there q p (turned p q s) other f b)

  same_placed : (a b : Placed) → Places p v a → Places q v b → a ≡ b
  same_placed a b h k =
      let t = turned p q s in
      let hold = same_bool a.holds b.holds (same_end h.reckoned k.reckoned (placed_all a.holds) (placed_all b.holds) h.is_reckoned k.is_reckoned h.ends k.ends) in
      let there = forgotten Two q k.reckoned in
      let near = h.only.unique there (values_there q p t there there v k.only.has) (((same_programs_mean_the_same p q s).meets there).1 k.only.meets) in
      let long : length a.points ≡ points_named p.commands =
      sym (length-map a.points (λ (c : At). c.name)) ∙ ap (λ (ns : List (List ℕ)). length ns) h.told.names ∙ sym (names_counted p w) in
      let points = same_ats a.points b.points (h.told.names ∙ ap (λ ns. names_of kind.Point ns) s.names ∙ sym k.told.names) (h.told.lines ∙ same_point_lines p q s ∙ sym k.told.lines)
      (λ i c d e f.
      let one = h.told.triples i c e in
      let other = k.told.triples i d f in
      let below : i < points_named p.commands = let l = get_below a.points i c e in omega (arith, l, long) in
      let same = least_once ((forgotten Two p h.reckoned).point i) (there.point i) one.least other.least (near.same_points i below) in
      record { x = one.x ∙ same.x ∙ sym other.x; y = one.y ∙ same.y ∙ sym other.y; w = one.w ∙ ap pos same.w ∙ sym other.w }) in
      λ i. record { points = points i; holds = hold i }

  pub same_answer : (one other : Result Placed PlaceError) → AnswersValues p v one → AnswersValues q v other → (one ≡ Err NoMemory → ⊥) → (other ≡ Err NoMemory → ⊥) → one ≡ other
  same_answer (Ok a) (Ok b) h k m n = ap Ok (same_placed a b h k)
  same_answer (Ok a) (Err (Unmet j)) h k m n =
      let e : placed_all a.holds ≡ unmet j = same_end h.reckoned k.reckoned (placed_all a.holds) (unmet j) h.is_reckoned k.is_reckoned h.ends k.ends in cc
  same_answer (Ok a) (Err (TooLarge j)) h k m n =
      let e : placed_all a.holds ≡ too_large j = same_end h.reckoned k.reckoned (placed_all a.holds) (too_large j) h.is_reckoned k.is_reckoned h.ends k.ends in cc
  same_answer (Ok a) (Err NoMemory) h k m n = absurd (n refl)
  same_answer (Err (Unmet i)) (Ok b) h k m n =
      let e : unmet i ≡ placed_all b.holds = same_end h.reckoned k.reckoned (unmet i) (placed_all b.holds) h.is_reckoned k.is_reckoned h.ends k.ends in cc
  same_answer (Err (Unmet i)) (Err (Unmet j)) h k m n =
      ap (λ (c : ℕ). Err (Unmet c)) (same_condition i j (same_end h.reckoned k.reckoned (unmet i) (unmet j) h.is_reckoned k.is_reckoned h.ends k.ends))
  same_answer (Err (Unmet i)) (Err (TooLarge j)) h k m n =
      let e : unmet i ≡ too_large j = same_end h.reckoned k.reckoned (unmet i) (too_large j) h.is_reckoned k.is_reckoned h.ends k.ends in cc
  same_answer (Err (Unmet i)) (Err NoMemory) h k m n = absurd (n refl)
  same_answer (Err (TooLarge i)) (Ok b) h k m n =
      let e : too_large i ≡ placed_all b.holds = same_end h.reckoned k.reckoned (too_large i) (placed_all b.holds) h.is_reckoned k.is_reckoned h.ends k.ends in cc
  same_answer (Err (TooLarge i)) (Err (Unmet j)) h k m n =
      let e : too_large i ≡ unmet j = same_end h.reckoned k.reckoned (too_large i) (unmet j) h.is_reckoned k.is_reckoned h.ends k.ends in cc
  same_answer (Err (TooLarge i)) (Err (TooLarge j)) h k m n =
      ap (λ (c : ℕ). Err (TooLarge c)) (same_line i j (same_end h.reckoned k.reckoned (too_large i) (too_large j) h.is_reckoned k.is_reckoned h.ends k.ends))
  same_answer (Err (TooLarge i)) (Err NoMemory) h k m n = absurd (n refl)
  same_answer (Err NoMemory) other h k m n = absurd (m refl)
