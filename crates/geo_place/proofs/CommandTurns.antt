-- The turns of one command among all turns, and its conditions among those that are listed.
use Rattle.std.proofs.Common.{◌≡◌, ℕ, zero, suc, ◌+◌, ◌-◌, ◌<◌, ◌≤◌, List, [], ◌∷◌, ◌++◌, length, map, refl, sym, ◌∙◌, ap, subst, append_assoc, append-nil, arith}
use Rattle.std.specs.Prelude.{Option, Some, None, slice_get, take, drop}
use Rattle.std.specs.List.{AllByRecursion}
use Rattle.std.proofs.lemmas.List.{length-append, length-take-le, map-append, take-append-drop, take_at, drop_at}
use Rattle.geo_points.specs.Placements.{Placement}
use Rattle.geo_terms.specs.Stores.{Store}
use Rattle.geo_terms.specs.Trees.{Tree, integer_leaf, parameter_leaf, area_leaf, pythagoras_leaf, ratio_leaf, negation, addition, subtraction, multiplication, division}
use Rattle.geo_program.specs.declared.commands.Command.{Command}
use Rattle.geo_program.specs.declared.commands.Command.TheVariants.{Point, Param, Line, Parallel, Perp, Med, Intersec, Inter, Foot, Pratio}
use Rattle.geo_program.specs.declared.commands.Command.TheVariants.{Tratio, Online, Lratio, Midpoint, Translate, Symmetric, Reflect}
use Rattle.geo_program.specs.declared.commands.Command.TheVariants.{Circumcenter, Orthocenter, Centroid, Oncircle, Second, Cc, Inverse}
use Rattle.geo_program.specs.declared.commands.Command.TheVariants.{Weights, AssumeDifferent, AssumeNotCollinear, AssumeNotParallel}
use Rattle.geo_program.specs.declared.names.NameKind.TheVariants as kind
use Rattle.geo_program.specs.WellFormed.{IsWellFormed, Source}
use Rattle.geo_lowering.specs.Conditions.{Condition, early_conditions, late_conditions, command_conditions}
use Rattle.geo_lowering.specs.Counting.{counted, further, gathered, hidden, named, next_number, next_point, numbers_from, numbers_had, points_from, points_past}
use Rattle.geo_lowering.specs.Lowering.{Layout, command_steps, layout_of, points_after, steps_from, steps_of}
use Rattle.geo_lowering.specs.StepForms.{StepForm}
use Rattle.geo_lowering.proofs.Bounds.{Bounds, bounds_next, no_bounds, numbers_from-up, past_steps}
use Rattle.geo_lowering.proofs.ConditionValues.{each_append, each_back}
use Rattle.geo_lowering.proofs.Exists.{Behind, behind, lines_past, params_past}
use Rattle.geo_lowering.proofs.Fixed.{past_all}
use Rattle.geo_lowering.proofs.FormLaws.{past}
use Rattle.geo_lowering.proofs.Laying.{AreLaid, AreNamed, IsLaid, IsNamed, laid_program, named_program}
use Rattle.geo_lowering.proofs.Values.{IsOver}
use Rattle.geo_lowering.specs.declared.version.Version.TheVariants.{Two}
use Rattle.geo_conditions.specs.Lists.{Found, IsListed, all_found, found_at, found_from}
use Rattle.geo_conditions.specs.Statements.{statement_conditions, statement_goals}
use Rattle.geo_conditions.specs.Terms.{condition_term}
use Rattle.geo_conditions.proofs.Agreement.{IsConditionOver}
use Rattle.geo_conditions.proofs.ConditionScopes.{AreOver, at_line as found_line, command_over, early_over, found_over}
use Rattle.geo_conditions.proofs.Listings.{held, listed_hold, listed_once}
use Rattle.geo_conditions.specs.Truth.{ProgramValues}
use Rattle.geo_place.specs.declared.errors.PlaceError.{PlaceError}
use Rattle.geo_place.specs.Evaluation.{LineTurn, Succeeds, at_line, command_turns, judge, makes, test, turns_from, turns_of, write}
use Rattle.geo_place.specs.Inner.{Run, Stops}
use Rattle.geo_place.proofs.ListParts.{fresh_hold, listed_front, listed_join, listed_split, none_fresh, one_fresh}
use Rattle.geo_place.proofs.MakeTurns.{line_append, stops_in, drop_next, take_next}
use Rattle.geo_place.proofs.Scopes.{steps_append, term_over}

-- LISTS OVER COMMANDS
points_append : (x : ℕ) (bs cs : List Command) → points_from x (bs ++ cs) ≡ points_from (points_from x bs) cs
points_append x [] cs = refl
points_append x (b ∷ bs) cs = points_append (counted kind.Point (named b) x) bs cs

pub past_append : (n : ℕ) (bs cs : List Command) → points_past Two n (bs ++ cs) ≡ points_past Two (points_past Two n bs) cs
past_append n [] cs = refl
past_append n (b ∷ bs) cs = past_append (next_point Two n b) bs cs

numbers_append : (m : ℕ) (bs cs : List Command) → numbers_from m (bs ++ cs) ≡ numbers_from (numbers_from m bs) cs
numbers_append m [] cs = refl
numbers_append m (b ∷ bs) cs = numbers_append (next_number m b) bs cs

turns_append : (p : Source) (bs cs : List Command) (line x n m : ℕ)
    → turns_from p line x n m (bs ++ cs) ≡ turns_from p line x n m bs ++ turns_from p (line + length bs) (points_from x bs) (points_past Two n bs) (numbers_from m bs) cs
turns_append p [] cs line x n m = let q : line ≡ line + 0 = omega arith in ap (λ (l : ℕ). turns_from p l x n m cs) q
turns_append p (b ∷ bs) cs line x n m =
    let here = at_line line (command_turns p x n m b) in
    let x' = counted kind.Point (named b) x in let n' = next_point Two n b in let m' = next_number m b in
    let q : suc line + length bs ≡ line + suc (length bs) = omega arith in
    let last : ℕ → List LineTurn = λ l. turns_from p l (points_from x' bs) (points_past Two n' bs) (numbers_from m' bs) cs in
    ap (λ (ts : List LineTurn). here ++ ts) (turns_append p bs cs (suc line) x' n' m')
    ∙ sym (append_assoc here (turns_from p (suc line) x' n' m' bs) (last (suc line + length bs)))
    ∙ ap (λ (l : ℕ). here ++ turns_from p (suc line) x' n' m' bs ++ last l) q

found_append : (nodes : Store) (bs cs : List Command) (x line : ℕ)
    → found_from nodes x line (bs ++ cs) ≡ found_from nodes x line bs ++ found_from nodes (points_from x bs) (line + length bs) cs
found_append nodes [] cs x line = let q : line ≡ line + 0 = omega arith in ap (λ (l : ℕ). found_from nodes x l cs) q
found_append nodes (b ∷ bs) cs x line =
    let here = found_at line (command_conditions nodes (record { 0 = x }) b) in
    let x' = counted kind.Point (named b) x in
    let q : suc line + length bs ≡ line + suc (length bs) = omega arith in
    let last : ℕ → List Found = λ l. found_from nodes (points_from x' bs) l cs in
    ap (λ (fs : List Found). here ++ fs) (found_append nodes bs cs x' (suc line))
    ∙ sym (append_assoc here (found_from nodes x' (suc line) bs) (last (suc line + length bs)))
    ∙ ap (λ (l : ℕ). here ++ found_from nodes x' (suc line) bs ++ last l) q

found_line_append : (line : ℕ) (cs ds : List Condition) → found_at line (cs ++ ds) ≡ found_at line cs ++ found_at line ds
found_line_append line cs ds = map-append (λ (c : Condition). record { condition = c; line = line }) cs ds

named_front : (nodes : Store) (bs cs : List Command) (x y j : ℕ) → AreNamed nodes x y j (bs ++ cs) → AreNamed nodes x y j bs
named_front nodes [] cs x y j h = tt
named_front nodes (b ∷ bs) cs x y j h = (h.0, named_front nodes bs cs _ _ _ h.1)

laid_here : (l : Layout) (bs cs : List Command) (c : Command) (x y j n m : ℕ) → AreLaid Two l x y j n m (bs ++ c ∷ cs)
    → IsLaid Two l (points_from x bs) (params_past y bs) (lines_past j bs) (points_past Two n bs) (numbers_from m bs) c
laid_here l [] cs c x y j n m h = h.0
laid_here l (b ∷ bs) cs c x y j n m h = laid_here l bs cs c _ _ _ (next_point Two n b) (next_number m b) h.1

over_wider : (n m m' : ℕ) → m ≤ m' → (e : Tree) → IsOver n m e → IsOver n m' e
over_wider n m m' l (integer_leaf z) h = h
over_wider n m m' l (parameter_leaf t) h = omega arith
over_wider n m m' l (area_leaf a b c) h = h
over_wider n m m' l (pythagoras_leaf a b c) h = h
over_wider n m m' l (ratio_leaf a b c d) h = h
over_wider n m m' l (negation e) h = over_wider n m m' l e h
over_wider n m m' l (addition e f) h = (over_wider n m m' l e h.0, over_wider n m m' l f h.1)
over_wider n m m' l (subtraction e f) h = (over_wider n m m' l e h.0, over_wider n m m' l f h.1)
over_wider n m m' l (multiplication e f) h = (over_wider n m m' l e h.0, over_wider n m m' l f h.1)
over_wider n m m' l (division e f) h = (over_wider n m m' l e h.0, over_wider n m m' l f h.1)

past-length : (n : ℕ) (fs : List StepForm) → past n fs ≡ n + length fs
past-length n [] = omega arith
past-length n (f ∷ fs) = past-length (suc n) fs ∙ (let e : suc n + length fs ≡ n + suc (length fs) = omega arith in e)

-- LATE CONDITIONS ARE NEW
abbrev key : Found → Condition
key f = f.condition

late_new : (line x y j : ℕ) (old more : List Found) (c : Command) → AllByRecursion (λ f. IsConditionOver x y j (key f)) old
    → IsListed key old (found_at line (late_conditions (record { 0 = x }) c)) (old ++ more) → length more ≡ length (late_conditions (record { 0 = x }) c)
late_new line x y j old more (Oncircle o a) h l =
    ap (λ (fs : List Found). length fs) (one_fresh key _ old more (λ k. let q = held key (IsConditionOver x y j) old _ h k in let b : x < x = q.2 in absurd (omega arith)) l)
late_new line x y j old more (Second a b o) h l =
    ap (λ (fs : List Found). length fs) (one_fresh key _ old more (λ k. let q = held key (IsConditionOver x y j) old _ h k in let b : x < x = q.1 in absurd (omega arith)) l)
late_new line x y j old more (Cc o p a) h l =
    ap (λ (fs : List Found). length fs) (one_fresh key _ old more (λ k. let q = held key (IsConditionOver x y j) old _ h k in let b : x < x = q.1 in absurd (omega arith)) l)
late_new line x y j old more Point h l = ap (λ (fs : List Found). length fs) (none_fresh key old more l)
late_new line x y j old more Param h l = ap (λ (fs : List Found). length fs) (none_fresh key old more l)
late_new line x y j old more (Line a b) h l = ap (λ (fs : List Found). length fs) (none_fresh key old more l)
late_new line x y j old more (Parallel p b) h l = ap (λ (fs : List Found). length fs) (none_fresh key old more l)
late_new line x y j old more (Perp p b) h l = ap (λ (fs : List Found). length fs) (none_fresh key old more l)
late_new line x y j old more (Med a b) h l = ap (λ (fs : List Found). length fs) (none_fresh key old more l)
late_new line x y j old more (Intersec a b) h l = ap (λ (fs : List Found). length fs) (none_fresh key old more l)
late_new line x y j old more (Inter a b c d) h l = ap (λ (fs : List Found). length fs) (none_fresh key old more l)
late_new line x y j old more (Foot p a b) h l = ap (λ (fs : List Found). length fs) (none_fresh key old more l)
late_new line x y j old more (Pratio w u v r) h l = ap (λ (fs : List Found). length fs) (none_fresh key old more l)
late_new line x y j old more (Tratio u v r) h l = ap (λ (fs : List Found). length fs) (none_fresh key old more l)
late_new line x y j old more (Online a b) h l = ap (λ (fs : List Found). length fs) (none_fresh key old more l)
late_new line x y j old more (Lratio a b r) h l = ap (λ (fs : List Found). length fs) (none_fresh key old more l)
late_new line x y j old more (Midpoint a b) h l = ap (λ (fs : List Found). length fs) (none_fresh key old more l)
late_new line x y j old more (Translate a b c) h l = ap (λ (fs : List Found). length fs) (none_fresh key old more l)
late_new line x y j old more (Symmetric a o) h l = ap (λ (fs : List Found). length fs) (none_fresh key old more l)
late_new line x y j old more (Reflect a p q) h l = ap (λ (fs : List Found). length fs) (none_fresh key old more l)
late_new line x y j old more (Circumcenter a b c) h l = ap (λ (fs : List Found). length fs) (none_fresh key old more l)
late_new line x y j old more (Orthocenter a b c) h l = ap (λ (fs : List Found). length fs) (none_fresh key old more l)
late_new line x y j old more (Centroid a b c) h l = ap (λ (fs : List Found). length fs) (none_fresh key old more l)
late_new line x y j old more (Inverse p o a) h l = ap (λ (fs : List Found). length fs) (none_fresh key old more l)
late_new line x y j old more (Weights a b c r s) h l = ap (λ (fs : List Found). length fs) (none_fresh key old more l)
late_new line x y j old more (AssumeDifferent a b) h l = ap (λ (fs : List Found). length fs) (none_fresh key old more l)
late_new line x y j old more (AssumeNotCollinear a b c) h l = ap (λ (fs : List Found). length fs) (none_fresh key old more l)
late_new line x y j old more (AssumeNotParallel a b c d) h l = ap (λ (fs : List Found). length fs) (none_fresh key old more l)

-- LINES
at_one_line : (line : ℕ) (cs : List Condition) → AllByRecursion (λ f. f.line ≡ line) (found_at line cs)
at_one_line line [] = tt
at_one_line line (c ∷ cs) = (refl, at_one_line line cs)

later_at : (line line' : ℕ) → line < line' → (cs : List Condition) → AllByRecursion (λ f. line < f.line) (found_at line' cs)
later_at line line' l [] = tt
later_at line line' l (c ∷ cs) = (l, later_at line line' l cs)

later_from : (nodes : Store) (cs : List Command) (line line' x : ℕ) → line < line' → AllByRecursion (λ f. line < f.line) (found_from nodes x line' cs)
later_from nodes [] line line' x l = tt
later_from nodes (c ∷ cs) line line' x l =
    each_append (λ f. line < f.line) (found_at line' (command_conditions nodes (record { 0 = x }) c)) (found_from nodes (counted kind.Point (named c) x) (suc line') cs)
    (later_at line line' l (command_conditions nodes (record { 0 = x }) c)) (later_from nodes cs line (suc line') (counted kind.Point (named c) x) (omega arith))

-- how many points there are after the command
pub after_at : (n : ℕ) (cs : List Command) (k : ℕ) (c : Command) → slice_get cs k ≡ Some c → slice_get (points_after Two n cs) k ≡ Some (next_point Two (points_past Two n (take k cs)) c)
after_at n [] k c e = cc
after_at n (b ∷ bs) zero c e = ap (λ (o : Option Command). elim o [ None ↦ Some (next_point Two n b) | Some d ↦ Some (next_point Two n d) ]) e
after_at n (b ∷ bs) (suc k) c e = after_at (next_point Two n b) bs k c e

-- THE COMMAND AT A PLACE
module _ (p : Source) (w : IsWellFormed p) (k : ℕ) (c : Command) (at : slice_get p.commands k ≡ Some c) where
  abbrev pub before : List Command
  before = take k p.commands

  abbrev pub rest : List Command
  rest = drop (suc k) p.commands

  pub commands_are : p.commands ≡ before ++ c ∷ rest
  commands_are = sym (take-append-drop k p.commands) ∙ ap (λ (cs : List Command). before ++ cs) (drop_next k p.commands c at)

  pub before_next : take (suc k) p.commands ≡ before ++ c ∷ []
  before_next = take_next k p.commands c at

  below_all : k < length p.commands
  below_all = go k p.commands at
    where
      go : (i : ℕ) (cs : List Command) → slice_get cs i ≡ Some c → i < length cs
      go i [] e = cc
      go zero (b ∷ bs) e = omega arith
      go (suc i) (b ∷ bs) e = let h : i < length bs = go i bs e in omega arith

  pub long : length before ≡ k
  long = length-take-le k p.commands (let b = below_all in omega arith)

  abbrev l : Layout
  l = layout_of Two p.commands

  abbrev pub x : ℕ
  x = points_from 0 before

  abbrev pub n : ℕ
  n = points_past Two 0 before

  abbrev pub m : ℕ
  m = numbers_from 0 before

  abbrev M : ℕ
  M = numbers_had p.commands

  abbrev y : ℕ
  y = params_past 0 before

  abbrev j : ℕ
  j = lines_past 0 before

  abbrev pub line : ℕ
  line = suc k

  abbrev pub early : List Condition
  early = early_conditions p.nodes c

  abbrev pub late : List Condition
  late = late_conditions (record { 0 = x }) c

  abbrev pub steps : List StepForm
  steps = command_steps Two l p.nodes n m c

  line_is : 1 + length before ≡ line
  line_is = let e = long in omega arith

  -- TURNS
  abbrev pub E : List LineTurn
  E = at_line line (map test early)

  abbrev pub K : List LineTurn
  K = at_line line (makes n steps)

  abbrev pub W : List LineTurn
  W = at_line line (gathered kind.Point (named c) (write (further n (hidden Two c))) [])

  abbrev pub L : List LineTurn
  L = at_line line (map test late)

  abbrev pub done : List LineTurn
  done = turns_from p 1 0 0 0 before

  turns_are : at_line line (command_turns p x n m c) ≡ E ++ K ++ W ++ L
  turns_are =
      let e = map test early in let s = makes n steps in let g = gathered kind.Point (named c) (write (further n (hidden Two c))) [] in let f = map test late in
      line_append line (e ++ s ++ g) f ∙ ap (λ (ts : List LineTurn). ts ++ L) (line_append line (e ++ s) g) ∙ ap (λ (ts : List LineTurn). ts ++ W ++ L) (line_append line e s)

  abbrev others : List LineTurn
  others = turns_from p (suc line) (counted kind.Point (named c) x) (next_point Two n c) (next_number m c) rest

  abbrev statement_turns : List LineTurn
  statement_turns = at_line (suc (length p.commands)) (map test (statement_conditions p.nodes p.statement))

  abbrev goal_turns : List LineTurn
  goal_turns = at_line (suc (length p.commands)) (map judge (statement_goals p.nodes p.statement))

  commands_turns : turns_from p 1 0 0 0 p.commands ≡ done ++ ((E ++ K ++ W ++ L) ++ others)
  commands_turns =
      ap (λ (cs : List Command). turns_from p 1 0 0 0 cs) commands_are ∙ turns_append p before (c ∷ rest) 1 0 0 0
      ∙ ap (λ (i : ℕ). done ++ turns_from p i x n m (c ∷ rest)) line_is ∙ ap (λ (ts : List LineTurn). done ++ (ts ++ others)) turns_are

  all_turns : turns_of p ≡ done ++ (E ++ K ++ W ++ L) ++ (others ++ statement_turns ++ goal_turns)
  all_turns =
      let C = E ++ K ++ W ++ L in
      ap (λ (ts : List LineTurn). ts ++ statement_turns ++ goal_turns) (commands_turns ∙ sym (append_assoc done C others))
      ∙ ap (λ (ts : List LineTurn). ts ++ goal_turns) (append_assoc (done ++ C) others statement_turns) ∙ append_assoc (done ++ C) (others ++ statement_turns) goal_turns

  -- the turns of the commands up to this one
  done_next : turns_from p 1 0 0 0 (take (suc k) p.commands) ≡ done ++ (E ++ K ++ W ++ L)
  done_next =
      ap (λ (cs : List Command). turns_from p 1 0 0 0 cs) before_next ∙ turns_append p before (c ∷ []) 1 0 0 0
      ∙ ap (λ (i : ℕ). done ++ turns_from p i x n m (c ∷ [])) line_is ∙ ap (λ (ts : List LineTurn). done ++ (ts ++ [])) turns_are
      ∙ ap (λ (ts : List LineTurn). done ++ ts) (append-nil (E ++ K ++ W ++ L))

  module _ (v : ProgramValues) (placed : Placement) (conditions : List Found) where
    abbrev run : Run
    run = record { program = p; values = v; placed = placed; conditions = conditions }

    abbrev P : LineTurn → Type 0
    P t = Succeeds run.program run.placed t

    module _ (e : PlaceError) (d : AllByRecursion P done) where
      command_stop : Stops run (E ++ K ++ W ++ L) e → Stops run (turns_of p) e
      command_stop s = stops_in run (turns_of p) done (E ++ K ++ W ++ L) (others ++ statement_turns ++ goal_turns) e all_turns d s

      pub early_stop : Stops run E e → Stops run (turns_of p) e
      early_stop s =
          command_stop (stops_in run (E ++ K ++ W ++ L) [] E (K ++ W ++ L) e
          (append_assoc (E ++ K) W L ∙ append_assoc E K (W ++ L) ∙ ap (λ (ts : List LineTurn). E ++ ts) (sym (append_assoc K W L))) tt s)

      pub make_stop : AllByRecursion P E → Stops run K e → Stops run (turns_of p) e
      make_stop a s = command_stop (stops_in run (E ++ K ++ W ++ L) E K (W ++ L) e (append_assoc (E ++ K) W L) a s)

      pub write_stop : AllByRecursion P E → AllByRecursion P K → Stops run W e → Stops run (turns_of p) e
      write_stop a b s = command_stop (stops_in run (E ++ K ++ W ++ L) (E ++ K) W L e refl (each_append P E K a b) s)

      pub late_stop : AllByRecursion P E → AllByRecursion P K → AllByRecursion P W → Stops run L e → Stops run (turns_of p) e
      late_stop a b f s =
          command_stop (stops_in run (E ++ K ++ W ++ L) (E ++ K ++ W) L [] e (sym (append-nil (E ++ K ++ W ++ L))) (each_append P (E ++ K) W (each_append P E K a b) f) s)

    pub all_pass : AllByRecursion P done → AllByRecursion P E → AllByRecursion P K → AllByRecursion P W → AllByRecursion P L → AllByRecursion P (turns_from p 1 0 0 0 (take (suc k) p.commands))
    all_pass d a b f g =
        subst (λ ts. AllByRecursion P ts) (sym done_next)
        (each_append P done (E ++ K ++ W ++ L) d (each_append P (E ++ K ++ W) L (each_append P (E ++ K) W (each_append P E K a b) f) g))

  -- SCOPES
  scopes : (placed : Placement) → Behind Two p placed 0 0 0 0 0 before c
  scopes placed =
      behind Two p placed before rest c 0 0 0 0 0 (no_bounds l) (subst (λ cs. AreNamed p.nodes 0 0 0 cs) commands_are (named_program p w))
      (subst (λ cs. AreLaid Two l 0 0 0 0 0 cs) commands_are (laid_program Two p.commands))

  pub laid : IsLaid Two l x y j n m c
  laid = laid_here l before rest c 0 0 0 0 0 (subst (λ cs. AreLaid Two l 0 0 0 0 0 cs) commands_are (laid_program Two p.commands))

  module _ (placed : Placement) where
    bounds : Bounds l x y j n m
    bounds = (scopes placed).bounds

    names : IsNamed p.nodes x y j c
    names = (scopes placed).names

    numbers_few : m ≤ M
    numbers_few =
        let e : M ≡ numbers_from m (c ∷ rest) = ap (λ (cs : List Command). numbers_from 0 cs) commands_are ∙ numbers_append 0 before (c ∷ rest) in
        let h : m ≤ numbers_from m (c ∷ rest) = numbers_from-up m (c ∷ rest) in omega arith

    numbers_few_next : next_number m c ≤ M
    numbers_few_next =
        let e : M ≡ numbers_from (next_number m c) rest = ap (λ (cs : List Command). numbers_from 0 cs) commands_are ∙ numbers_append 0 before (c ∷ rest) in
        let h : next_number m c ≤ numbers_from (next_number m c) rest = numbers_from-up (next_number m c) rest in omega arith

    terms_over : (x y j n m : ℕ) → Bounds l x y j n m → m ≤ M → (cs : List Condition) → AreOver x y j cs → AllByRecursion (λ d. IsOver n M (condition_term l d)) cs
    terms_over x y j n m B u [] h = tt
    terms_over x y j n m B u (d ∷ ds) h = (over_wider n m M u (condition_term l d) (term_over l x y j n m B d h.0), terms_over x y j n m B u ds h.1)

    pub early_terms : AllByRecursion (λ d. IsOver n M (condition_term l d)) early
    early_terms = terms_over x y j n m bounds numbers_few early (early_over p.nodes x y j c names)

    pub late_terms : AllByRecursion (λ d. IsOver (next_point Two n c) M (condition_term l d)) late
    late_terms =
        let X = counted kind.Point (named c) x in let Y = counted kind.Param (named c) y in let J = counted kind.Line (named c) j in
        terms_over X Y J (next_point Two n c) (next_number m c) (bounds_next Two l p.nodes x y j n m c bounds names laid) numbers_few_next late
        (each_back (IsConditionOver X Y J) early late (command_over p.nodes x y j c names))

  -- STEPS
  abbrev steps_before : List StepForm
  steps_before = steps_from Two l p.nodes 0 0 before

  steps_are : steps_of Two p ≡ steps_before ++ (steps ++ steps_from Two l p.nodes (next_point Two n c) (next_number m c) rest)
  steps_are = ap (λ (cs : List Command). steps_from Two l p.nodes 0 0 cs) commands_are ∙ steps_append l p.nodes before (c ∷ rest) 0 0

  before_long : length steps_before ≡ n
  before_long = let a = past-length 0 steps_before in let b = past_all Two p before 0 0 in omega (arith, a, b)

  steps_long : n + length steps ≡ next_point Two n c
  steps_long = sym (past-length n steps) ∙ past_steps Two l p.nodes n m c

  -- the steps of the command among all
  pub steps_here : take (next_point Two n c - n) (drop n (steps_of Two p)) ≡ steps
  steps_here =
      let after = steps_from Two l p.nodes (next_point Two n c) (next_number m c) rest in
      let d : drop n (steps_of Two p) ≡ steps ++ after = ap (λ (fs : List StepForm). drop n fs) steps_are ∙ drop_at steps_before (steps ++ after) n before_long in
      ap (λ (fs : List StepForm). take (next_point Two n c - n) fs) d ∙ take_at steps after (next_point Two n c - n) (let e = steps_long in omega arith)

  pub points_up : n ≤ next_point Two n c
  points_up = let e = steps_long in omega arith

  pub points_few : next_point Two n c ≤ length (steps_of Two p)
  points_few =
      let after = steps_from Two l p.nodes (next_point Two n c) (next_number m c) rest in
      let e : length (steps_of Two p) ≡ length steps_before + (length steps + length after) =
      ap (λ (fs : List StepForm). length fs) steps_are ∙ length-append steps_before (steps ++ after) ∙ ap (λ (i : ℕ). length steps_before + i) (length-append steps after) in
      let a = before_long in let b = steps_long in omega (arith, e, a, b)

  pub past_next : points_past Two 0 (take (suc k) p.commands) ≡ next_point Two n c
  past_next = ap (λ (cs : List Command). points_past Two 0 cs) before_next ∙ past_append 0 before (c ∷ [])

  pub named_next : points_from 0 (take (suc k) p.commands) ≡ counted kind.Point (named c) x
  named_next = ap (λ (cs : List Command). points_from 0 cs) before_next ∙ points_append 0 before (c ∷ [])

  -- CONDITIONS
  abbrev found_before : List Found
  found_before = found_from p.nodes 0 1 before

  abbrev found_later : List Found
  found_later = found_from p.nodes (counted kind.Point (named c) x) (suc line) rest ++ found_at (suc (length p.commands)) (statement_conditions p.nodes p.statement)

  found_parts : all_found p ≡ found_before ++ (found_at line early ++ (found_at line late ++ found_later))
  found_parts =
      let stated = found_at (suc (length p.commands)) (statement_conditions p.nodes p.statement) in
      let here = found_at line (early ++ late) in
      let others = found_from p.nodes (counted kind.Point (named c) x) (suc line) rest in
      ap (λ (fs : List Found). fs ++ stated)
      (ap (λ (cs : List Command). found_from p.nodes 0 1 cs) commands_are ∙ found_append p.nodes before (c ∷ rest) 0 1 ∙ ap (λ (i : ℕ). found_before ++ found_from p.nodes x i (c ∷ rest)) line_is)
      ∙ append_assoc found_before (here ++ others) stated ∙ ap (λ (fs : List Found). found_before ++ fs) (append_assoc here others stated)
      ∙ ap (λ (fs : List Found). found_before ++ (fs ++ found_later)) (found_line_append line early late)
      ∙ ap (λ (fs : List Found). found_before ++ fs) (append_assoc (found_at line early) (found_at line late) found_later)

  found_next : found_from p.nodes 0 1 (take (suc k) p.commands) ≡ found_before ++ (found_at line early ++ found_at line late)
  found_next =
      ap (λ (cs : List Command). found_from p.nodes 0 1 cs) before_next ∙ found_append p.nodes before (c ∷ []) 0 1
      ∙ ap (λ (i : ℕ). found_before ++ found_from p.nodes x i (c ∷ [])) line_is
      ∙ ap (λ (fs : List Found). found_before ++ fs) (append-nil (found_at line (early ++ late)) ∙ found_line_append line early late)

  -- what is listed for the command: those that do not name its point, and those that do
  pub record Listed (old result : List Found) : Type 0 where
    pub first : List Found
    pub second : List Found
    pub later : List Found
    pub whole : result ≡ ((old ++ first) ++ second) ++ later
    pub early_listed : IsListed key old (found_at line early) (old ++ first)
    pub late_listed : IsListed key (old ++ first) (found_at line late) ((old ++ first) ++ second)
    pub late_long : length second ≡ length late
    pub first_lines : AllByRecursion (λ f. f.line ≡ line) first
    pub second_lines : AllByRecursion (λ f. f.line ≡ line) second
    pub later_lines : AllByRecursion (λ f. line < f.line) later
    pub next : IsListed key [] (found_from p.nodes 0 1 (take (suc k) p.commands)) ((old ++ first) ++ second)

  pub listed_here : (placed : Placement) (old result : List Found) → IsListed key [] (all_found p) result → IsListed key [] found_before old → Listed old result
  listed_here placed old result h b =
      let back = found_at line early ++ (found_at line late ++ found_later) in
      let s = listed_split key found_before back [] result (subst (λ fs. IsListed key [] fs result) found_parts h) in
      let same : s.0 ≡ old = listed_once key found_before [] s.0 old s.1 b in
      let t = listed_split key (found_at line early) (found_at line late ++ found_later) old result (subst (λ fs. IsListed key fs back result) same s.2) in
      let u = listed_split key (found_at line late) found_later (old ++ t.0) result t.2 in
      let v = listed_front key found_later ((old ++ t.0) ++ u.0) result u.2 in
      let over_old = listed_hold key (IsConditionOver x y j) found_before [] old b tt
      (found_over p.nodes before 0 0 0 1
      (named_front p.nodes before (c ∷ rest) 0 0 0 (subst (λ cs. AreNamed p.nodes 0 0 0 cs) commands_are (named_program p w)))) in
      let over_first = fresh_hold key (λ f. IsConditionOver x y j f.condition) (found_at line early) old t.0 t.1 (found_line x y j line early (early_over p.nodes x y j c (names placed))) in
      record {
        first = t.0;
        second = u.0;
        later = v.0;
        whole = v.1;
        early_listed = t.1;
        late_listed = u.1;
        late_long = late_new line x y j (old ++ t.0) u.0 c (each_append (λ f. IsConditionOver x y j f.condition) old t.0 over_old over_first) u.1;
        first_lines = fresh_hold key (λ f. f.line ≡ line) (found_at line early) old t.0 t.1 (at_one_line line early);
        second_lines = fresh_hold key (λ f. f.line ≡ line) (found_at line late) (old ++ t.0) u.0 u.1 (at_one_line line late);
        later_lines = fresh_hold key (λ f. line < f.line) found_later ((old ++ t.0) ++ u.0) v.0 (subst (λ fs. IsListed key ((old ++ t.0) ++ u.0) found_later fs) v.1 u.2)
            (each_append (λ f. line < f.line) (found_from p.nodes (counted kind.Point (named c) x) (suc line) rest) (found_at (suc (length p.commands)) (statement_conditions p.nodes p.statement))
            (later_from p.nodes rest line (suc line) (counted kind.Point (named c) x) (omega arith))
            (later_at line (suc (length p.commands)) (let q = below_all in omega arith) (statement_conditions p.nodes p.statement)));
        next = subst (λ fs. IsListed key [] fs ((old ++ t.0) ++ u.0)) (sym found_next)
            (listed_join key found_before (found_at line early ++ found_at line late) [] old ((old ++ t.0) ++ u.0) b
            (listed_join key (found_at line early) (found_at line late) old (old ++ t.0) ((old ++ t.0) ++ u.0) t.1 u.1));
      }
