-- Each evaluation has an end: its turns are decided one after another, up to the first that does not pass.
use Rattle.std.proofs.Common.{◌≡◌, ℕ, suc, ◌⊎◌, inl, inr, true, false, List, [], ◌∷◌, ◌++◌, length, map, Option, Some, None, refl, ap, subst, append_assoc}
use Rattle.std.specs.List.{AllByRecursion}
use Rattle.std.proofs.lemmas.List.Elements.{All-from_recursion}
use Rattle.geo_points.specs.Placements.{Placement}
use Rattle.geo_program.specs.declared.commands.Command.{Command}
use Rattle.geo_program.specs.declared.names.NameKind.{NameKind}
use Rattle.geo_program.specs.declared.names.NameKind.TheVariants as kind
use Rattle.geo_program.specs.declared.statements.Statement.{Statement}
use Rattle.geo_program.specs.WellFormed.{Source}
use Rattle.geo_lowering.specs.Conditions.{Condition, command_conditions, early_conditions, late_conditions}
use Rattle.geo_lowering.specs.Counting.{counted, further, gathered, hidden, named, next_number, next_point}
use Rattle.geo_lowering.specs.Lowering.{command_steps, layout_of}
use Rattle.geo_lowering.specs.StepForms.{StepForm}
use Rattle.geo_lowering.specs.declared.version.Version.TheVariants.{Two}
use Rattle.geo_lowering.proofs.ConditionValues.{each_append, each_back, each_front}
use Rattle.geo_conditions.specs.Lists.{AreConditions, Found, all_found, found_at, found_from}
use Rattle.geo_conditions.specs.Statements.{statement_conditions, statement_goals}
use Rattle.geo_conditions.proofs.Decisions.{lists_exist}
use Rattle.geo_conditions.proofs.Listings.{all_hold}
use Rattle.geo_place.specs.Evaluation.{End, EndsAs, IsListedAt, IsRight, LineTurn, Succeeds, Turn, TurnOverflows}
use Rattle.geo_place.specs.Evaluation.{at_line, command_turns, judge, make, makes, placed_all, test, too_large, turns_from, turns_of, unmet, write}
use Rattle.geo_place.proofs.Decided.{Decided, overflow_decided, right_decided}
use Rattle.geo_place.proofs.Scopes.{turns_line}

-- EACH CONDITION IS LISTED
-- the condition is listed in one place
record StandsIn (fs : List Found) (c : Condition) : Type 0 where
  earlier : List Found
  later : List Found
  line : ℕ
  parts : fs ≡ earlier ++ record { condition = c; line = line } ∷ later

stand_in : (front back : List Found) → AllByRecursion (λ f. StandsIn (front ++ back) f.condition) back
stand_in front [] = tt
stand_in front (f ∷ back) = (
  record { earlier = front; later = back; line = f.line; parts = refl },
  subst (λ (fs : List Found). AllByRecursion (λ g. StandsIn fs g.condition) back) (append_assoc front (f ∷ []) back) (stand_in (front ++ f ∷ []) back),
)

module _ (Q : Condition → Type 0) where
  -- where the turn is a test, Q holds of its condition
  abbrev OfTest : Turn → Type 0
  OfTest (test c) = Q c
  OfTest (make n f) = Unit {0}
  OfTest (write n) = Unit {0}
  OfTest (judge g) = Unit {0}

  abbrev OfTurn : LineTurn → Type 0
  OfTurn t = OfTest t.turn

  abbrev Of : List Found → Type 0
  Of fs = AllByRecursion (λ f. Q f.condition) fs

  of_line : (line : ℕ) (cs : List Condition) → Of (found_at line cs) → AllByRecursion Q cs
  of_line line [] h = tt
  of_line line (c ∷ cs) h = (h.0, of_line line cs h.1)

  tests : (cs : List Condition) → AllByRecursion Q cs → AllByRecursion OfTest (map test cs)
  tests [] h = tt
  tests (c ∷ cs) h = (h.0, tests cs h.1)

  no_makes : (n : ℕ) (fs : List StepForm) → AllByRecursion OfTest (makes n fs)
  no_makes n [] = tt
  no_makes n (f ∷ fs) = (tt, no_makes (suc n) fs)

  no_writes : (n : ℕ) (made : Option NameKind) → AllByRecursion OfTest (gathered kind.Point made (write n) [])
  no_writes n (Some kind.Point) = (tt, tt)
  no_writes n (Some kind.Param) = tt
  no_writes n (Some kind.Line) = tt
  no_writes n None = tt

  no_judges : (gs : List Statement) → AllByRecursion OfTest (map judge gs)
  no_judges [] = tt
  no_judges (g ∷ gs) = (tt, no_judges gs)

  commands : (p : Source) (cs : List Command) (line x n m : ℕ) → Of (found_from p.nodes x line cs) → AllByRecursion OfTurn (turns_from p line x n m cs)
  commands p [] line x n m h = tt
  commands p (c ∷ cs) line x n m h =
      let steps = command_steps Two (layout_of Two p.commands) p.nodes n m c in
      let here = found_at line (command_conditions p.nodes (record { 0 = x }) c) in
      let later = found_from p.nodes (counted kind.Point (named c) x) (suc line) cs in
      let own = of_line line (command_conditions p.nodes (record { 0 = x }) c) (each_front (λ f. Q f.condition) here later h) in
      let early = early_conditions p.nodes c in let late = late_conditions (record { 0 = x }) c in
      let writes = gathered kind.Point (named c) (write (further n (hidden Two c))) [] in
      each_append OfTurn (at_line line (command_turns p x n m c)) (turns_from p (suc line) (counted kind.Point (named c) x) (next_point Two n c) (next_number m c) cs)
      (turns_line OfTurn line (command_turns p x n m c)
      (each_append OfTest (map test early ++ makes n steps ++ writes) (map test late)
      (each_append OfTest (map test early ++ makes n steps) writes
      (each_append OfTest (map test early) (makes n steps) (tests early (each_front Q early late own)) (no_makes n steps))
      (no_writes (further n (hidden Two c)) (named c)))
      (tests late (each_back Q early late own))))
      (commands p cs (suc line) _ (next_point Two n c) (next_number m c) (each_back (λ f. Q f.condition) here later h))

  -- what holds of all conditions holds of those that are tested
  of_turns : (p : Source) → Of (all_found p) → AllByRecursion OfTurn (turns_of p)
  of_turns p h =
      let last = suc (length p.commands) in
      let own = found_from p.nodes 0 1 p.commands in
      let stated = found_at last (statement_conditions p.nodes p.statement) in
      let first = turns_from p 1 0 0 0 p.commands in
      let second = at_line last (map test (statement_conditions p.nodes p.statement)) in
      each_append OfTurn (first ++ second) (at_line last (map judge (statement_goals p.nodes p.statement)))
      (each_append OfTurn first second (commands p p.commands 1 0 0 0 (each_front (λ f. Q f.condition) own stated h))
      (turns_line OfTurn last (map test (statement_conditions p.nodes p.statement))
      (tests (statement_conditions p.nodes p.statement) (of_line last (statement_conditions p.nodes p.statement) (each_back (λ f. Q f.condition) own stated h)))))
      (turns_line OfTurn last (map judge (statement_goals p.nodes p.statement)) (no_judges (statement_goals p.nodes p.statement)))

-- THE FIRST TURN THAT DOES NOT PASS
module _ (p : Source) (placed : Placement) where
  -- a number is too large, or else what comes out is wrong
  abbrev Fails : Turn → Type 0
  Fails t = TurnOverflows p placed t ⊎ ((TurnOverflows p placed t → ⊥) × (IsRight p placed t → ⊥))

  record Stuck (ts : List LineTurn) : Type 0 where
    before : List LineTurn
    turn : LineTurn
    after : List LineTurn
    parts : ts ≡ before ++ turn ∷ after
    passed : AllByRecursion (Succeeds p placed) before
    fails : Fails turn.turn

  decided : (t : LineTurn) → Succeeds p placed t ⊎ Fails t.turn
  decided t = by (overflow_decided p placed t.turn) (right_decided p placed t.turn)
    where
      by : Decided (TurnOverflows p placed t.turn) → Decided (IsRight p placed t.turn) → Succeeds p placed t ⊎ Fails t.turn
      by (inl o) d = inr (inl o)
      by (inr n) (inl r) = inl (n, r)
      by (inr n) (inr w) = inr (inr (n, w))

  walk : (ts : List LineTurn) → AllByRecursion (Succeeds p placed) ts ⊎ Stuck ts
  walk [] = inl tt
  walk (t ∷ ts) = by (decided t) (walk ts)
    where
      by : Succeeds p placed t ⊎ Fails t.turn → AllByRecursion (Succeeds p placed) ts ⊎ Stuck ts
          → AllByRecursion (Succeeds p placed) (t ∷ ts) ⊎ Stuck (t ∷ ts)
      by (inr f) d = inr (record { before = []; turn = t; after = ts; parts = refl; passed = tt; fails = f })
      by (inl s) (inl all) = inl (s, all)
      by (inl s) (inr u) =
          inr (record {
            before = t ∷ u.before;
            turn = u.turn;
            after = u.after;
            parts = ap (λ (us : List LineTurn). t ∷ us) u.parts;
            passed = (s, u.passed);
            fails = u.fails;
          })

  -- the end that such a turn makes
  listed_at : (c : Condition) (fs : List Found) → AreConditions p fs → StandsIn fs c → (k : ℕ) × IsListedAt p c k
  listed_at c fs h s = (
    suc (length s.earlier),
    record { earlier = s.earlier; later = s.later; line = s.line; listed = subst (AreConditions p) s.parts h; place = refl },
  )

  stuck_end : (fs : List Found) → AreConditions p fs → (u : Stuck (turns_of p)) → OfTest (StandsIn fs) u.turn.turn → (end : End) × EndsAs p placed end
  stuck_end fs h u s = by u.turn.turn refl s u.fails
    where
      up : (t : Turn) → u.turn.turn ≡ t → turns_of p ≡ u.before ++ record { line = u.turn.line; turn = t } ∷ u.after
      up t e = subst (λ (z : Turn). turns_of p ≡ u.before ++ record { line = u.turn.line; turn = z } ∷ u.after) e u.parts

      by : (t : Turn) → u.turn.turn ≡ t → OfTest (StandsIn fs) t → Fails t → (end : End) × EndsAs p placed end
      by t e s (inl o) = (
        too_large u.turn.line,
        (t, record { before = u.before; after = u.after; parts = up t e; passed = All-from_recursion (Succeeds p placed) u.before u.passed }, o),
      )
      by (test c) e s (inr w) =
          let at = listed_at c fs h s in (
            unmet at.0,
            (
              u.turn.line,
              c,
              (record { before = u.before; after = u.after; parts = up (test c) e; passed = All-from_recursion (Succeeds p placed) u.before u.passed }, w.0, w.1),
              at.1,
            ),
          )
      by (make n f) e s (inr w) = absurd (w.1 tt)
      by (write n) e s (inr w) = absurd (w.1 tt)
      by (judge g) e s (inr w) = (
        placed_all false,
        (
          u.turn.line,
          g,
          (record { before = u.before; after = u.after; parts = up (judge g) e; passed = All-from_recursion (Succeeds p placed) u.before u.passed }, w.0, w.1),
        ),
      )

  pub evaluation_ends : (end : End) × EndsAs p placed end
  evaluation_ends = by (walk (turns_of p))
    where
      by : AllByRecursion (Succeeds p placed) (turns_of p) ⊎ Stuck (turns_of p) → (end : End) × EndsAs p placed end
      by (inl all) = (placed_all true, All-from_recursion (Succeeds p placed) (turns_of p) all)
      by (inr u) =
          let listed = lists_exist.conditions p in
          let fs = listed.0 in
          let Q : Condition → Type 0 = StandsIn fs in
          let all = (all_hold (λ (f : Found). f.condition) Q (all_found p) [] fs listed.1 (stand_in [] fs)).1 in
          let turns = subst (AllByRecursion (OfTurn Q)) u.parts (of_turns Q p all) in
          stuck_end fs listed.1 u (each_back (OfTurn Q) u.before (u.turn ∷ u.after) turns).0
