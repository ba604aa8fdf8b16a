-- Where the goals of an instance are 0, what is cited holds at it.
use Rattle.std.proofs.Common.{◌≡◌, ℕ, suc, ◌+◌, ◌<◌, ◌≤◌, Bool, true, false, pos, All, Contains, get_or, length, map, List, [], ◌∷◌, ◌++◌, refl, sym, ◌∙◌, ap, subst, arith}
use Rattle.std.specs.List.{AllByRecursion, flat_map}
use Rattle.std.proofs.lemmas.List.Elements.{All-from_recursion, recursion_from_All}
use Rattle.ring_laws.specs.Fraction.{Fraction, IsNonzero, Same, whole}
use Rattle.ring_laws.proofs.Fractions.{fractions}
use Rattle.geo_points.specs.declared.ids.PointId.{PointId}
use Rattle.geo_points.specs.Placements.{Placement}
use Rattle.geo_points.proofs.Same.{self_point}
use Rattle.geo_terms.specs.Constructions.{MeetsSteps}
use Rattle.geo_terms.specs.Stores.{Store, tree_of}
use Rattle.geo_terms.specs.Trees.{Tree}
use Rattle.geo_terms.specs.Values.{HasTreeValue, tree_value}
use Rattle.geo_lexer.specs.Lexemes.{HasLexemes, Lexeme, word_lexeme}
use Rattle.geo_lexer.proofs.Meanings.{one_meaning}
use Rattle.geo_program.specs.declared.commands.Command.{Command}
use Rattle.geo_program.specs.declared.commands.Command.TheVariants.{Pratio, Tratio, Lratio, Online, Oncircle, Weights}
use Rattle.geo_program.specs.declared.names.Name.{Name}
use Rattle.geo_program.specs.declared.names.NameKind.TheVariants as kind
use Rattle.geo_program.specs.declared.statements.Statement.{Statement}
use Rattle.geo_program.specs.declared.statements.Statement.TheVariants.{Equal, Collinear, Parallel, Perpendicular, Identical, Midpoint, SameLength, Harmonic, Concyclic}
use Rattle.geo_program.specs.CanonicalText.{argument_lexemes, line_text}
use Rattle.geo_program.specs.Expressions.{IsExpression}
use Rattle.geo_program.specs.Forms.{Argument, StatementForm, statement_form}
use Rattle.geo_program.specs.FormTexts.{form_text}
use Rattle.geo_program.specs.Inner.Printing.{whole_scope}
use Rattle.geo_program.specs.WellFormed.{IsArgument, IsWellFormed, Scope, Source}
use Rattle.geo_program.specs.Words.{statement_words}
use Rattle.geo_program.proofs.LinesSpelt.{line_spelt}
use Rattle.geo_program.proofs.OneProgram.{arguments_read}
use Rattle.geo_program.proofs.WordPlaces.{place_of}
use Rattle.geo_program.proofs.ScopeLemmas.{IsExpression-wider}
use Rattle.geo_program.proofs.Shapes.{same_statement_shape}
use Rattle.geo_program.proofs.Standing.{IsWord-tested, MayAllStand, arguments_stand, statement_word}
use Rattle.geo_lowering.specs.CommandsMet.{AreCommandsMet, reading}
use Rattle.geo_lowering.specs.Conditions.{Condition, different, not_collinear, not_parallel, crossing, nonzero, IsConditionMet, command_conditions, expression_conditions}
use Rattle.geo_lowering.specs.Counting.{counted, named, next_number, next_point, points_from}
use Rattle.geo_lowering.specs.Lowering.{Extends, IsLowered, Layout, LoweredForm, layout_of, renamed, steps_of}
use Rattle.geo_lowering.specs.declared.version.Version.{Version}
use Rattle.geo_lowering.specs.StepForms.{AreFormsMet}
use Rattle.geo_lowering.proofs.ConditionValues.{each_back, each_front, step_value}
use Rattle.geo_lowering.proofs.Down.{extension}
use Rattle.geo_lowering.proofs.Exists.{lines_past, params_past}
use Rattle.geo_lowering.proofs.LawProofs.{to_steps}
use Rattle.geo_lowering.proofs.Laying.{AreNamed, IsNamed, laid_program, named_program, scope}
use Rattle.geo_lowering.proofs.Values.{AgreeBelow, IsOver, over_expression, over_renamed, renamed-has, renamed-value, seen, value-same}
use Rattle.geo_conditions.specs.Lists.{Found, all_found, condition_form, found_at, found_from}
use Rattle.geo_conditions.specs.Statements.{HaveSameValue, StatementHolds, statement_conditions}
use Rattle.geo_conditions.specs.Terms.{HasZeroValue}
use Rattle.geo_conditions.specs.Truth.{Holds, Meets}
use Rattle.geo_conditions.proofs.Agreement.{Agrees, IsConditionOver, IsStatementOver, nonzero-same, value_down}
use Rattle.geo_conditions.proofs.ConditionScopes.{AreOver, FoundOver, params-up, points-up, program_over, program_statement_over}
use Rattle.geo_conditions.proofs.Extensions.{extension_agrees, met_program}
use Rattle.geo_conditions.proofs.Listings.{held, unmapped}
use Rattle.geo_library.specs.CitedGoals.{command_goals, has_lines}
use Rattle.geo_library.specs.Instances.{Asked, AskedAt, IsGranted, IsInstance, all_asked, asks_condition, asks_goal, asks_statement}
use Rattle.geo_library.specs.Instances.{asked_at, command_asked, commands_asked, condition_texts, conditions_asked, statement_asked}
use Rattle.geo_library.specs.Instances.{statement_text}
use Rattle.geo_library.specs.Laws.{IsZeroOver, ZeroGoalsCite}
use Rattle.geo_library.specs.Renamings.{Renaming, given_names, image, places_in}
use Rattle.geo_library.proofs.CommandGoals.{AreZero, MayOwn, command_met}
use Rattle.geo_conditions.proofs.Texts.{IsOverNames, same, same_lexemes}
use Rattle.geo_library.proofs.Given.{declared_scope, maps_into, names_images}
use Rattle.geo_library.proofs.GoalScopes.{OnNumber, goals_over, goals_valued, lines_kept}
use Rattle.geo_library.proofs.Images.{MapsInto, NamesImages, arguments_over, image_arguments_are, image_condition, image_condition_text}
use Rattle.geo_library.proofs.Images.{image_conditions, image_expression, image_form, image_kinds, image_over, image_point, image_text}
use Rattle.geo_library.proofs.OwnNumbers.{AreOwn, AreReady, numbers_exist, params_read}

-- what is asked, at its line
abbrev at_line : ℕ → Asked → AskedAt
at_line line a = record { line = line; asked = a }

-- what holds of the images holds of the list of them
mapped : {A B : Type 0} (f : A → B) (P : B → Type 0) (xs : List A) → AllByRecursion (λ a. P (f a)) xs → AllByRecursion P (map f xs)
mapped f P [] h = tt
mapped f P (x ∷ xs) h = (h.0, mapped f P xs h.1)

module _ (version : Version) (p q : Source) (l : LoweredForm) (texts : List (List ℕ)) (wp : IsWellFormed p) (wq : IsWellFormed q)
    (low : IsLowered version q l) (ins : IsInstance (IsZeroOver version q l) p q texts) (V : Placement) (meets : Meets q V) where
  abbrev r : Renaming
  r = ins.renaming

  abbrev m : Layout
  m = places_in r

  abbrev given : List Name
  given = given_names p.names texts

  abbrev X : ℕ
  X = points_from 0 p.commands

  abbrev Y : ℕ
  Y = params_past 0 p.commands

  abbrev N : ℕ
  N = points_from 0 q.commands

  abbrev M : ℕ
  M = params_past 0 q.commands

  abbrev J : ℕ
  J = lines_past 0 q.commands

  into : MapsInto m X Y N M
  into = maps_into p q texts r wp wq ins.renames

  images : NamesImages given q.names m X Y
  images = names_images p q texts r wp wq ins.renames

  -- THE LOWERED PLACEMENT
  abbrev MetFound : List Found → Type 0
  MetFound fs = AllByRecursion (λ f. IsConditionMet q V f.condition) fs

  met_found : MetFound (all_found q)
  met_found = recursion_from_All (λ (f : Found). IsConditionMet q V f.condition) (all_found q) meets.conditions

  extended : (L : Placement) × Extends version q V L × AreFormsMet L 0 (steps_of version q)
  extended = extension version q V wq meets.commands (met_program q V met_found)

  abbrev L : Placement
  L = extended.0

  agrees : Agrees version q V L N M J
  agrees = extension_agrees version q V L wq extended.1 extended.2

  met_steps : MeetsSteps L l.construction
  met_steps = to_steps version q l L low extended.2

  -- THE CITED TERMS AT THE INSTANCE
  abbrev R : Placement
  R = reading q V

  abbrev W0 : Placement
  W0 = seen m R

  to_image : (e : Tree) → HasTreeValue W0 e → HasTreeValue R (renamed m e)
  to_image e h = subst (λ (A : Type 0). A) (sym (renamed-has m R e)) h

  from_image : (e : Tree) → HasTreeValue R (renamed m e) → HasTreeValue W0 e
  from_image e h = subst (λ (A : Type 0). A) (renamed-has m R e) h

  term_zero : (e : Tree) → IsOver X Y e → HasTreeValue W0 e → IsZeroOver version q l (image r e) → HasZeroValue W0 e
  term_zero e o h z =
      let d = value_down version q V L N M J agrees (renamed m e) (over_renamed m X Y N M into.points into.params e o) (to_image e h) in
      (h, subst (λ f. Same f (whole (pos 0))) (renamed-value m R e) (fractions.same_trans _ _ _ d.1 (z L met_steps d.0)))

  terms_zero : (es : List Tree) → AllByRecursion (IsOver X Y) es → AllByRecursion (HasTreeValue W0) es
      → AllByRecursion (λ e. IsZeroOver version q l (image r e)) es → AllByRecursion (HasZeroValue W0) es
  terms_zero [] o h z = tt
  terms_zero (e ∷ es) o h z = (term_zero e o.0 h.0 z.0, terms_zero es o.1 h.1 z.1)

  -- CONDITIONS
  over_names : (c : Condition) → IsConditionOver N M J c → IsOverNames q wq c
  over_names c o = subst (λ (s : Scope). IsConditionOver s.points s.params s.lines c) (sym (declared_scope q wq)) o

  -- what has this text holds
  abbrev Told : List ℕ → Type 0
  Told text = (k : Condition) → IsConditionOver N M J k → form_text q.names (condition_form k) ≡ text → IsConditionMet q V k

  told : (fs : List Found) → FoundOver N M J fs → MetFound fs → AllByRecursion (λ f. Told (form_text q.names (condition_form f.condition))) fs
  told [] o h = tt
  told (f ∷ fs) o h = (
    λ k ok e. let c = f.condition in let oc = over_names c o.0 in let on = over_names k ok in
        subst (IsConditionMet q V) (same q wq c k oc on (same_lexemes q wq c k oc on (sym e))) h.0,
    told fs o.1 h.1,
  )

  condition_held : (c : Condition) → IsConditionOver X Y 0 c → Contains (condition_texts q) (form_text given (condition_form c)) → IsConditionMet q V (image_condition m c)
  condition_held c o has =
      held (λ (f : Found). form_text q.names (condition_form f.condition)) Told (all_found q) (form_text given (condition_form c))
      (told (all_found q) (program_over q wq (named_program q wq)) met_found) has
      (image_condition m c) (image_over m X Y N M J into c o) (sym (image_condition_text given q.names m X Y images c o))

  abbrev Answer : Asked → Type 0
  Answer a = IsGranted (IsZeroOver version q l) q a

  abbrev Held : List Condition → Type 0
  Held cs = AllByRecursion (λ c. IsConditionMet q V (image_condition m c)) cs

  conditions_held : (cs : List Condition) → AreOver X Y 0 cs → AllByRecursion Answer (conditions_asked given r cs) → Held cs
  conditions_held [] o h = tt
  conditions_held (c ∷ cs) o h = (condition_held c o.0 h.0, conditions_held cs o.1 h.1)

  abbrev HeldFound : List Found → Type 0
  HeldFound fs = AllByRecursion (λ f. IsConditionMet q V (image_condition m f.condition)) fs

  found_held : (line : ℕ) (cs : List Condition) → Held cs → HeldFound (found_at line cs)
  found_held line [] h = tt
  found_held line (c ∷ cs) h = (h.0, found_held line cs h.1)

  held_append : (fs gs : List Found) → HeldFound fs → HeldFound gs → HeldFound (fs ++ gs)
  held_append [] gs h k = k
  held_append (f ∷ fs) gs h k = (h.0, held_append fs gs h.1 k)

  over_of_line : (line : ℕ) (cs : List Condition) → FoundOver X Y 0 (found_at line cs) → AreOver X Y 0 cs
  over_of_line line [] h = tt
  over_of_line line (c ∷ cs) h = (h.0, over_of_line line cs h.1)

  -- an expression without ratios has a value where its conditions hold
  valued : (e : Tree) → IsExpression X Y false e → Held (expression_conditions e) → HasTreeValue W0 e
  valued e i h =
      from_image e
      (step_value q V N M (renamed m e) (image_expression m X Y N M J into false e i)
      (subst (λ cs. AllByRecursion (IsConditionMet q V) cs) (sym (image_conditions m e)) (mapped (image_condition m) (IsConditionMet q V) (expression_conditions e) h)))

  number_valued : (x y j : ℕ) (c : Command) → x ≤ X → y ≤ Y → IsNamed p.nodes x y j c → Held (command_conditions p.nodes (record { 0 = x }) c) → OnNumber (HasTreeValue W0) p.nodes c
  number_valued x y j (Pratio w u v n) xs ys k h =
      let e = tree_of p.nodes n in valued e (IsExpression-wider x y X Y false e xs ys k.1.1.1.0.0) (each_front (λ c. IsConditionMet q V (image_condition m c)) (expression_conditions e) [] h)
  number_valued x y j (Tratio u v n) xs ys k h =
      let e = tree_of p.nodes n in valued e (IsExpression-wider x y X Y false e xs ys k.1.1.0.0) (each_front (λ c. IsConditionMet q V (image_condition m c)) (expression_conditions e) [] h)
  number_valued x y j (Lratio a b n) xs ys k h =
      let e = tree_of p.nodes n in valued e (IsExpression-wider x y X Y false e xs ys k.1.1.0.0) (each_front (λ c. IsConditionMet q V (image_condition m c)) (expression_conditions e) [] h)
  number_valued x y j (Weights a b c n t) xs ys k h =
      let e = tree_of p.nodes n in let f = tree_of p.nodes t in
      let given = each_front (λ c. IsConditionMet q V (image_condition m c)) (expression_conditions e ++ expression_conditions f) [] h in (
        valued e (IsExpression-wider x y X Y false e xs ys k.1.1.1.0.0)
            (each_front (λ c. IsConditionMet q V (image_condition m c)) (expression_conditions e) (expression_conditions f) given),
        valued f (IsExpression-wider x y X Y false f xs ys k.1.1.1.1.0.0)
            (each_back (λ c. IsConditionMet q V (image_condition m c)) (expression_conditions e) (expression_conditions f) given),
      )
  number_valued x y j c xs ys k h = tt

  -- COMMAND BY COMMAND
  may_own : (x : ℕ) (c : Command) → Held (command_conditions p.nodes (record { 0 = x }) c) → MayOwn W0.point (W0.point x) c
  may_own x (Online a b) h = h.0
  may_own x (Oncircle o a) h = h.1.0
  may_own x c h = tt

  pub record IsReady (x line : ℕ) (cs : List Command) : Type 0 where
    pub commands : AreReady p.nodes W0 x cs
    pub conditions : HeldFound (found_from p.nodes x line cs)

  ready : (cs : List Command) (x y j line : ℕ) → points_from x cs ≡ X → params_past y cs ≡ Y → AreNamed p.nodes x y j cs → FoundOver X Y 0 (found_from p.nodes x line cs)
      → AllByRecursion (λ a. Answer a.asked) (commands_asked given r p.nodes x line cs) → IsReady x line cs
  ready [] x y j line ex ey k o h = record { commands = tt; conditions = tt }
  ready (c ∷ cs) x y j line ex ey k o h =
      let at : PointId = record { 0 = x } in
      let x' = counted kind.Point (named c) x in let y' = counted kind.Param (named c) y in let j' = counted kind.Line (named c) j in
      let conditions = command_conditions p.nodes at c in
      let asked = command_asked given r p.nodes at c in
      let rest = commands_asked given r p.nodes x' (suc line) cs in
      let here : AllByRecursion Answer asked = unmapped (λ (a : Asked). at_line line a) (λ (a : AskedAt). Answer a.asked) asked
      (each_front (λ (a : AskedAt). Answer a.asked) (asked_at line asked) rest h) in
      let goals_here = command_goals p.nodes at c in
      let over = over_of_line line conditions (each_front (λ (f : Found). IsConditionOver X Y 0 f.condition) (found_at line conditions) (found_from p.nodes x' (suc line) cs) o) in
      let holds = conditions_held conditions over (each_front Answer (conditions_asked given r conditions) (map (λ e. asks_goal (image r e)) goals_here) here) in
      let zero = unmapped (λ e. asks_goal (image r e)) Answer goals_here (each_back Answer (conditions_asked given r conditions) (map (λ e. asks_goal (image r e)) goals_here) here) in
      let ux : x' ≤ X = subst (λ n. x' ≤ n) ex (points-up x' cs) in
      let uy : y' ≤ Y = subst (λ n. y' ≤ n) ey (params-up y' cs) in
      let lx : x ≤ X = subst (λ n. x ≤ n) ex (points-up x (c ∷ cs)) in
      let ly : y ≤ Y = subst (λ n. y ≤ n) ey (params-up y (c ∷ cs)) in
      let zeros = terms_zero goals_here (goals_over p.nodes x y j X Y c ux ly k.0) (goals_valued p.nodes W0 at c (number_valued x y j c lx ly k.0 holds)) zero in
      let later = ready cs x' y' j' (suc line) ex ey k.1
      (each_back (λ (f : Found). IsConditionOver X Y 0 f.condition) (found_at line conditions) (found_from p.nodes x' (suc line) cs) o)
      (each_back (λ (a : AskedAt). Answer a.asked) (asked_at line asked) rest h) in
      record {
        commands = ((may_own x c holds, zeros), later.commands);
        conditions = held_append (found_at line conditions) (found_from p.nodes x' (suc line) cs) (found_held line conditions holds) later.conditions;
      }

  -- what the program declares
  no_lines : AllByRecursion (λ c. has_lines c ≡ false) p.commands
  no_lines = recursion_from_All (λ c. has_lines c ≡ false) p.commands ins.no_lines

  found_over : FoundOver X Y 0 (all_found p)
  found_over = subst (λ j. FoundOver X Y j (all_found p)) (lines_kept 0 p.commands no_lines) (program_over p wp (named_program p wp))

  abbrev last : ℕ
  last = suc (length p.commands)

  abbrev AskedOf : List AskedAt → Type 0
  AskedOf list = AllByRecursion (λ a. Answer a.asked) list

  all_answered : AskedOf (all_asked given r p)
  all_answered = recursion_from_All (λ (a : AskedAt). Answer a.asked) (all_asked given r p) ins.answered

  abbrev statement_conditions_of : List Condition
  statement_conditions_of = statement_conditions p.nodes p.statement

  statement_answered : AllByRecursion Answer (statement_asked given r p.nodes p.statement)
  statement_answered =
      let asked = statement_asked given r p.nodes p.statement in
      unmapped (λ (a : Asked). at_line last a) (λ (a : AskedAt). Answer a.asked) asked
      (each_back (λ (a : AskedAt). Answer a.asked) (commands_asked given r p.nodes 0 1 p.commands) (asked_at last asked) all_answered)

  start : IsReady 0 1 p.commands
  start = ready p.commands 0 0 0 1 refl refl (named_program p wp)
      (each_front (λ (f : Found). IsConditionOver X Y 0 f.condition) (found_from p.nodes 0 1 p.commands) (found_at last statement_conditions_of) found_over)
      (each_front (λ (a : AskedAt). Answer a.asked) (commands_asked given r p.nodes 0 1 p.commands) (asked_at last (statement_asked given r p.nodes p.statement)) all_answered)

  all_held : HeldFound (all_found p)
  all_held =
      held_append (found_from p.nodes 0 1 p.commands) (found_at last statement_conditions_of) start.conditions
      (found_held last statement_conditions_of
      (conditions_held statement_conditions_of
      (over_of_line last statement_conditions_of (each_back (λ (f : Found). IsConditionOver X Y 0 f.condition) (found_from p.nodes 0 1 p.commands) (found_at last statement_conditions_of) found_over))
      (each_front Answer (conditions_asked given r statement_conditions_of) (asks_statement (form_text given (statement_form p.nodes p.statement)) ∷ []) statement_answered)))

  -- THE CITED PROGRAM'S PLACEMENT
  numbers : (ns : List Fraction) × ((look : ℕ → Fraction) (k : ℕ) → ((i : ℕ) → look (k + i) ≡ get_or ns i (whole (pos 0))) → AreOwn p.nodes W0 look 0 0 k p.commands)
  numbers = numbers_exist p.nodes W0 p.commands 0 0 start.commands

  look : ℕ → Fraction
  look k = get_or numbers.0 k (whole (pos 0))

  own : AreOwn p.nodes W0 look 0 0 0 p.commands
  unfolding look
  own = numbers.1 look 0 (λ i. let e : 0 + i ≡ i = omega arith in ap look e)

  abbrev W : Placement
  W = record { point = W0.point; number = look }

  params : (t : ℕ) → t < Y → look ((layout_of version p.commands).param t) ≡ W0.number t
  params t h = params_read p.nodes W0 version (layout_of version p.commands) look p.commands 0 0 0 0 0 0 (laid_program version p.commands) own t (omega arith) h

  below : AgreeBelow X Y W0 (reading p W)
  below = record { points = λ a h. self_point _; numbers = λ t h. subst (λ f. Same (W0.number t) f) (sym (params t h)) (fractions.same_refl _) }

  above : AgreeBelow X Y (reading p W) W0
  above = record { points = λ a h. self_point _; numbers = λ t h. subst (λ f. Same f (W0.number t)) (sym (params t h)) (fractions.same_refl _) }

  zeros_moved : (es : List Tree) → AllByRecursion (IsOver X Y) es → AllByRecursion (HasZeroValue W0) es → AllByRecursion (HasZeroValue (reading p W)) es
  zeros_moved [] o h = tt
  zeros_moved (e ∷ es) o h =
      let k = value-same X Y W0 (reading p W) below e o.0 h.0.0 in
      ((k.0, fractions.same_trans _ _ _ (fractions.same_sym _ _ k.1) h.0.1), zeros_moved es o.1 h.1)

  commands_met : (cs : List Command) (x y j k : ℕ) → points_from x cs ≡ X → params_past y cs ≡ Y → AreNamed p.nodes x y j cs → AllByRecursion (λ c. has_lines c ≡ false) cs
      → AreReady p.nodes W0 x cs → AreOwn p.nodes W0 look x y k cs → AreCommandsMet p W x k cs
  commands_met [] x y j k ex ey n s h o = tt
  commands_met (c ∷ cs) x y j k ex ey n s h o =
      let at : PointId = record { 0 = x } in
      let x' = counted kind.Point (named c) x in let y' = counted kind.Param (named c) y in
      let ux : x' ≤ X = subst (λ n. x' ≤ n) ex (points-up x' cs) in
      let ly : y ≤ Y = subst (λ n. y ≤ n) ey (params-up y (c ∷ cs)) in (
        command_met p W at (look k) c s.0 (zeros_moved (command_goals p.nodes at c) (goals_over p.nodes x y j X Y c ux ly n.0) h.0.1) o.0.1,
        commands_met cs x' y' (counted kind.Line (named c) j) (next_number k c) ex ey n.1 s.1 h.1 o.1,
      )

  condition_back : (c : Condition) → IsConditionOver X Y 0 c → IsConditionMet q V (image_condition m c) → IsConditionMet p W c
  condition_back (different a b) o h = h
  condition_back (not_collinear a b c) o h = h
  condition_back (not_parallel a b c d) o h = h
  condition_back (crossing a b) o h = let z : a.0 < 0 = o.0 in absurd (omega arith)
  condition_back (nonzero e) o h =
      let k = value-same X Y W0 (reading p W) below e (over_expression X Y false e o) (from_image e h.0) in
      (k.0, nonzero-same _ _ k.1 (subst IsNonzero (renamed-value m R e) h.1))

  conditions_back : (fs : List Found) → FoundOver X Y 0 fs → HeldFound fs → AllByRecursion (λ f. IsConditionMet p W f.condition) fs
  conditions_back [] o h = tt
  conditions_back (f ∷ fs) o h = (condition_back f.condition o.0 h.0, conditions_back fs o.1 h.1)

  cited_meets : Meets p W
  cited_meets = record {
    commands = commands_met p.commands 0 0 0 0 refl refl (named_program p wp) no_lines start.commands own;
    conditions = All-from_recursion (λ (f : Found). IsConditionMet p W f.condition) (all_found p) (conditions_back (all_found p) found_over all_held);
  }

  -- THE STATEMENT
  abbrev cited_form : StatementForm
  cited_form = statement_form p.nodes p.statement

  abbrev citing_form : StatementForm
  citing_form = statement_form q.nodes q.statement

  abbrev lexemes : StatementForm → List Lexeme
  lexemes f = word_lexeme f.word ∷ flat_map (argument_lexemes q.names) f.arguments

  cited_arguments : AllByRecursion (IsArgument (scope X Y 0)) cited_form.arguments
  cited_arguments =
      subst (λ j. AllByRecursion (IsArgument (scope X Y j)) cited_form.arguments) (lines_kept 0 p.commands no_lines)
      (subst (λ (s : Scope). AllByRecursion (IsArgument s) cited_form.arguments) (declared_scope p wp) (recursion_from_All (IsArgument (whole_scope p.names)) cited_form.arguments wp.statement))

  image_named : AllByRecursion (IsArgument (whole_scope q.names)) (image_form m cited_form).arguments
  image_named =
      subst (λ (s : Scope). AllByRecursion (IsArgument s) (image_form m cited_form).arguments) (sym (declared_scope q wq))
      (image_arguments_are m X Y N M J into cited_form.arguments cited_arguments)

  citing_named : AllByRecursion (IsArgument (whole_scope q.names)) citing_form.arguments
  citing_named = recursion_from_All (IsArgument (whole_scope q.names)) citing_form.arguments wq.statement

  image_stands : MayAllStand (lexemes (image_form m cited_form))
  image_stands = (IsWord-tested cited_form.word (statement_word p.nodes p.statement), arguments_stand q.names wq.names (image_form m cited_form).arguments image_named)

  citing_stands : MayAllStand (lexemes citing_form)
  citing_stands = (IsWord-tested citing_form.word (statement_word q.nodes q.statement), arguments_stand q.names wq.names citing_form.arguments citing_named)

  same_form : image_form m cited_form ≡ citing_form
  same_form =
      let f = image_form m cited_form in
      let text : form_text q.names f ≡ form_text q.names citing_form =
      sym (image_text given q.names m X Y images cited_form (arguments_over given q.names m X Y images cited_form.arguments cited_arguments))
      ∙ (each_back Answer (conditions_asked given r statement_conditions_of) (asks_statement (form_text given cited_form) ∷ []) statement_answered).0 in
      let all : lexemes f ≡ lexemes citing_form =
      one_meaning (line_text (lexemes f)) (lexemes f) (lexemes citing_form) (line_spelt (lexemes f) image_stands).has
      (subst (λ t. HasLexemes t (lexemes citing_form)) (sym text) (line_spelt (lexemes citing_form) citing_stands).has) in
      let words : f.word ≡ citing_form.word = cc in
      let tails : flat_map (argument_lexemes q.names) f.arguments ≡ flat_map (argument_lexemes q.names) citing_form.arguments = cc in
      let arguments : f.arguments ≡ citing_form.arguments =
      (arguments_read q.names wq.names wq.differ f.arguments citing_form.arguments [] []
      (image_kinds m cited_form.arguments ∙ same_statement_shape p.nodes q.nodes p.statement q.statement words)
      (All-from_recursion (IsArgument (whole_scope q.names)) f.arguments image_named) (All-from_recursion (IsArgument (whole_scope q.names)) citing_form.arguments citing_named)
      (ap (λ t. t ++ []) tails)).same in
      λ i. record { word = words i; arguments = arguments i }

  -- a side has the same value at the instance
  side : (e f : Tree) → IsOver X Y e → renamed m e ≡ f → HasTreeValue (reading p W) e → HasTreeValue R f × Same (tree_value (reading p W) e) (tree_value R f)
  side e f o is h =
      let k = value-same X Y (reading p W) W0 above e o h in (
        subst (HasTreeValue R) is (to_image e k.0),
        subst (λ g. Same (tree_value (reading p W) e) (tree_value R g)) is (subst (λ v. Same (tree_value (reading p W) e) v) (sym (renamed-value m R e)) k.1),
      )

  abbrev at : PointId → PointId
  at a = image_point m a

  statement_back : (s t : Statement) → IsStatementOver p.nodes X Y s → image_form m (statement_form p.nodes s) ≡ statement_form q.nodes t → StatementHolds p W s → StatementHolds q V t
  statement_back (Equal e f) (Equal g k) o is h =
      let E = tree_of p.nodes e in let F = tree_of p.nodes f in let G = tree_of q.nodes g in let K = tree_of q.nodes k in
      let arguments = ap (λ (z : StatementForm). z.arguments) is in
      let one : renamed m E ≡ G = cc in let two : renamed m F ≡ K = cc in
      let u = side E G (over_expression X Y true E o.0) one h.left in
      let v = side F K (over_expression X Y true F o.1) two h.right in
      record { left = u.0; right = v.0; same = fractions.same_trans _ _ _ (fractions.same_sym _ _ u.1) (fractions.same_trans _ _ _ h.same v.1) }
  statement_back (Collinear a b c) (Collinear d e f) o is h =
      let arguments = ap (λ (z : StatementForm). z.arguments) is in
      let x : at a ≡ d = cc in let y : at b ≡ e = cc in let z : at c ≡ f = cc in
      subst (StatementHolds q V) (λ i. Collinear (x i) (y i) (z i)) h
  statement_back (Parallel a b c d) (Parallel e f g k) o is h =
      let arguments = ap (λ (z : StatementForm). z.arguments) is in
      let x : at a ≡ e = cc in let y : at b ≡ f = cc in let z : at c ≡ g = cc in let w : at d ≡ k = cc in
      subst (StatementHolds q V) (λ i. Parallel (x i) (y i) (z i) (w i)) h
  statement_back (Perpendicular a b c d) (Perpendicular e f g k) o is h =
      let arguments = ap (λ (z : StatementForm). z.arguments) is in
      let x : at a ≡ e = cc in let y : at b ≡ f = cc in let z : at c ≡ g = cc in let w : at d ≡ k = cc in
      subst (StatementHolds q V) (λ i. Perpendicular (x i) (y i) (z i) (w i)) h
  statement_back (Identical a b) (Identical c d) o is h =
      let arguments = ap (λ (z : StatementForm). z.arguments) is in
      let x : at a ≡ c = cc in let y : at b ≡ d = cc in
      subst (StatementHolds q V) (λ i. Identical (x i) (y i)) h
  statement_back (Midpoint a b c) (Midpoint d e f) o is h =
      let arguments = ap (λ (z : StatementForm). z.arguments) is in
      let x : at a ≡ d = cc in let y : at b ≡ e = cc in let z : at c ≡ f = cc in
      subst (StatementHolds q V) (λ i. Midpoint (x i) (y i) (z i)) h
  statement_back (SameLength a b c d) (SameLength e f g k) o is h =
      let arguments = ap (λ (z : StatementForm). z.arguments) is in
      let x : at a ≡ e = cc in let y : at b ≡ f = cc in let z : at c ≡ g = cc in let w : at d ≡ k = cc in
      subst (StatementHolds q V) (λ i. SameLength (x i) (y i) (z i) (w i)) h
  statement_back (Harmonic a b c d) (Harmonic e f g k) o is h =
      let arguments = ap (λ (z : StatementForm). z.arguments) is in
      let x : at a ≡ e = cc in let y : at b ≡ f = cc in let z : at c ≡ g = cc in let w : at d ≡ k = cc in
      subst (StatementHolds q V) (λ i. Harmonic (x i) (y i) (z i) (w i)) h
  statement_back (Concyclic a b c d) (Concyclic e f g k) o is h =
      let arguments = ap (λ (z : StatementForm). z.arguments) is in
      let x : at a ≡ e = cc in let y : at b ≡ f = cc in let z : at c ≡ g = cc in let w : at d ≡ k = cc in
      subst (StatementHolds q V) (λ i. Concyclic (x i) (y i) (z i) (w i)) h
  statement_back s t o is h =
      let places : place_of (statement_form p.nodes s).word statement_words ≡ place_of (statement_form q.nodes t).word statement_words = ap
      (λ (f : StatementForm). place_of f.word statement_words) is in
      absurd (omega arith)

  pub citing_holds : ((placed : Placement) → Meets p placed → Holds p placed) → Holds q V
  citing_holds truth = statement_back p.statement q.statement (program_statement_over p wp) same_form (truth W cited_meets)

pub zero_goals_cite : ZeroGoalsCite
zero_goals_cite version p q l texts wp wq low truth ins V meets = citing_holds version p q l texts wp wq low ins V meets truth
