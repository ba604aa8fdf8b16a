-- Conditions and goals, each by themselves, are what the lines of the cited program ask, one after another.
use Rattle.std.proofs.Common.{◌≡◌, ◌≢◌, ℕ, suc, ◌+◌, ◌<◌, ◌≤◌, inl, inr, Option, Some, None, List, [], ◌∷◌, ◌++◌, length, map, refl, sym, ◌∙◌, ap, subst, append-nil, append_assoc, arith}
use Rattle.std.specs.Prelude.{Contains}
use Rattle.std.specs.List.{AllByRecursion}
use Rattle.geo_points.specs.declared.ids.PointId.{PointId}
use Rattle.geo_poly.specs.declared.variables.Var.{Var}
use Rattle.geo_terms.specs.Constructions.{Construction}
use Rattle.geo_terms.specs.Stores.{Store}
use Rattle.geo_terms.specs.Trees.{Tree}
use Rattle.geo_program.specs.declared.commands.Command.{Command}
use Rattle.geo_program.specs.declared.names.Name.{Name}
use Rattle.geo_program.specs.declared.names.NameKind.TheVariants as kind
use Rattle.geo_program.specs.Forms.{statement_form}
use Rattle.geo_program.specs.FormTexts.{form_text}
use Rattle.geo_program.specs.WellFormed.{Source}
use Rattle.geo_lowering.specs.Conditions.{Condition, command_conditions}
use Rattle.geo_lowering.specs.Counting.{counted, named}
use Rattle.geo_lowering.proofs.ConditionValues.{each_append}
use Rattle.geo_conditions.specs.Lists.{Found, all_found, condition_form, found_at, found_from}
use Rattle.geo_conditions.specs.Statements.{statement_conditions}
use Rattle.geo_library.specs.CitedGoals.{command_goals}
use Rattle.geo_library.specs.Figures.{Figure}
use Rattle.geo_library.specs.Inner.Asking.{GoalForm}
use Rattle.geo_library.specs.Inner.Cases.{image_forms, image_forms_from}
use Rattle.geo_library.specs.Inner.GoalsWorked.{AreGoalsZero, IsBefore, IsFirstGoalMiss, IsMissing}
use Rattle.geo_library.specs.Inner.Missing.{IsFirstNotFound, IsFound}
use Rattle.geo_library.specs.Instances.{Asked, AskedAt, all_asked, asked_at, asks_goal, asks_statement, command_asked, commands_asked}
use Rattle.geo_library.specs.Instances.{condition_texts, conditions_asked, statement_asked, statement_text}
use Rattle.geo_library.specs.Renamings.{Renaming, image}
use Rattle.geo_library.specs.Working.{ArePassed, IsFirstMiss, Miss, Progress, no_instance}

module _ (q : Source) (figure : Figure) (given : List Name) (r : Renaming) where
  abbrev listed : List (List ℕ)
  listed = condition_texts q

  abbrev C : Construction
  C = figure.construction

  -- LINES
  at_line : (line low : ℕ) → low ≤ line → (cds : List Condition) → AllByRecursion (λ f. low ≤ f.line) (found_at line cds)
  at_line line low b [] = tt
  at_line line low b (c ∷ cds) = (b, at_line line low b cds)

  found_lines : (nodes : Store) (x line low : ℕ) → low ≤ line → (cs : List Command) → AllByRecursion (λ f. low ≤ f.line) (found_from nodes x line cs)
  found_lines nodes x line low b [] = tt
  found_lines nodes x line low b (c ∷ cs) =
      each_append (λ (f : Found). low ≤ f.line) (found_at line (command_conditions nodes (record { 0 = x }) c)) _ (at_line line low b (command_conditions nodes (record { 0 = x }) c))
      (found_lines nodes (counted kind.Point (named c) x) (suc line) low (omega (arith, b)) cs)

  forms_at_line : (line low : ℕ) → low ≤ line → (es : List Tree) → AllByRecursion (λ g. low ≤ g.line) (image_forms q r line es)
  forms_at_line line low b [] = tt
  forms_at_line line low b (e ∷ es) = (b, forms_at_line line low b es)

  form_lines : (nodes : Store) (x line low : ℕ) → low ≤ line → (cs : List Command) → AllByRecursion (λ g. low ≤ g.line) (image_forms_from q r nodes x line cs)
  form_lines nodes x line low b [] = tt
  form_lines nodes x line low b (c ∷ cs) =
      each_append (λ (g : GoalForm). low ≤ g.line) (image_forms q r line (command_goals nodes (record { 0 = x }) c)) _ (forms_at_line line low b (command_goals nodes (record { 0 = x }) c))
      (form_lines nodes (counted kind.Point (named c) x) (suc line) low (omega (arith, b)) cs)

  -- no condition is missing up to this line
  not_yet : (line : ℕ) (missing : Option ℕ) (fs : List Found) → AllByRecursion (λ f. suc line ≤ f.line) fs → IsFirstNotFound listed given fs missing → IsBefore missing line
  not_yet line missing [] b h = subst (λ (m : Option ℕ). IsBefore m line) (sym h) tt
  not_yet line missing (f ∷ fs) b (inl h) = not_yet line missing fs b.1 h.1
  not_yet line missing (f ∷ fs) b (inr h) = let low = b.0 in subst (λ (m : Option ℕ). IsBefore m line) (sym h.1) (omega (arith, low))

  one_line : (a b : ℕ) → ◌≡◌ {A = Option ℕ} (Some a) (Some b) → a ≡ b
  one_line a b e = cc

  -- where one is missing at this line, nothing else is told
  held_back : (line : ℕ) (missing : Option ℕ) (lines left : ℕ) (gs : List GoalForm) (miss : Miss) → AllByRecursion (λ g. line ≤ g.line) gs → missing ≡ Some line
      → IsFirstGoalMiss C figure.known missing lines left gs miss → miss ≡ no_instance line
  held_back line missing lines left [] miss b e h = h.2 ∙ ap no_instance (one_line h.0 line (sym h.1 ∙ e))
  held_back line missing lines left (g ∷ gs) miss b e (inl h) = h.1.2 ∙ ap no_instance (one_line h.1.0 line (sym h.1.1 ∙ e))
  held_back line missing lines left (g ∷ gs) miss b e (inr h) =
      let low = b.0 in let y : g.line < line = subst (λ (m : Option ℕ). IsBefore m g.line) e h.0 in absurd (omega (arith, low, y))

  -- MISSES
  -- conditions of a line, and then what is asked behind them
  conditions_missed : (line : ℕ) (missing : Option ℕ) (miss : Miss) (now : Progress) (cds : List Condition) (more : List Found) (behind : List AskedAt)
      → IsFirstNotFound listed given (found_at line cds ++ more) missing → (missing ≡ Some line → miss ≡ no_instance line)
      → (IsFirstNotFound listed given more missing → IsFirstMiss q figure now behind miss) → IsFirstMiss q figure now (asked_at line (conditions_asked given r cds) ++ behind) miss
  conditions_missed line missing miss now [] more behind h here later = later h
  conditions_missed line missing miss now (c ∷ cds) more behind (inl h) here later = inr (inr (now, (h.0, refl), conditions_missed line missing miss now cds more behind h.1 here later))
  conditions_missed line missing miss now (c ∷ cds) more behind (inr h) here later = inl (h.0, here h.1)

  -- goals of a line
  goals_missed : (line : ℕ) (missing : Option ℕ) (miss : Miss) (now : Progress) (es : List Tree) (more : List GoalForm) (behind : List AskedAt) → IsBefore missing line
      → IsFirstGoalMiss C figure.known missing now.lines now.left (image_forms q r line es ++ more) miss
      → ((then : Progress) → IsFirstGoalMiss C figure.known missing then.lines then.left more miss → IsFirstMiss q figure then behind miss)
      → IsFirstMiss q figure now (asked_at line (map (λ e. asks_goal (image r e)) es) ++ behind) miss
  goals_missed line missing miss now [] more behind y h later = later now h
  goals_missed line missing miss now (e ∷ es) more behind y (inl h) later = absurd (h.0 y)
  goals_missed line missing miss now (e ∷ es) more behind y (inr (b, inl (inl h))) later =
      let w = h.3 in inl ((w.chain, h.1, w.works, λ z. h.4 (sym w.ended ∙ z)), h.5)
  goals_missed line missing miss now (e ∷ es) more behind y (inr (b, inl (inr h))) later =
      let w = h.2 in inr (inl (h.0, h.1, (w.before, record { place = w.place; begun = w.begun; next = w.next }, w.counted), h.3))
  goals_missed line missing miss now (e ∷ es) more behind y (inr (b, inr h)) later =
      let w = h.2 in
      let then : Progress = record { lines = h.0; left = h.1 } in
      inr (inr (then, (w.chain, w.works, w.ended, w.counted), goals_missed line missing miss then es more behind y h.3 later))

  -- what a line asks, and what comes behind it
  pushed : (line : ℕ) (us vs : List Asked) (ws : List AskedAt) → asked_at line (us ++ vs) ++ ws ≡ asked_at line us ++ (asked_at line vs ++ ws)
  pushed line [] vs ws = refl
  pushed line (u ∷ us) vs ws = ap (λ (zs : List AskedAt). record { line = line; asked = u } ∷ zs) (pushed line us vs ws)

  line_split : (line : ℕ) (cds : List Condition) (es : List Tree) (others behind : List AskedAt)
      → (asked_at line (conditions_asked given r cds ++ map (λ e. asks_goal (image r e)) es) ++ others) ++ behind
      ≡ asked_at line (conditions_asked given r cds) ++ (asked_at line (map (λ e. asks_goal (image r e)) es) ++ (others ++ behind))
  line_split line cds es others behind =
      append_assoc (asked_at line (conditions_asked given r cds ++ map (λ e. asks_goal (image r e)) es)) others behind
      ∙ pushed line (conditions_asked given r cds) (map (λ e. asks_goal (image r e)) es) (others ++ behind)

  -- of commands, and then what the statement asks
  pub commands_missed : (nodes : Store) (x line : ℕ) (missing : Option ℕ) (miss : Miss) (now : Progress) (cs : List Command) (last : List Found) (behind : List AskedAt)
      → AllByRecursion (λ f. line + length cs ≤ f.line) last → IsFirstNotFound listed given (found_from nodes x line cs ++ last) missing
      → IsFirstGoalMiss C figure.known missing now.lines now.left (image_forms_from q r nodes x line cs) miss
      → ((then : Progress) → IsFirstNotFound listed given last missing → IsMissing missing miss → IsFirstMiss q figure then behind miss)
      → IsFirstMiss q figure now (commands_asked given r nodes x line cs ++ behind) miss
  commands_missed nodes x line missing miss now [] last behind b h g later = later now h g
  commands_missed nodes x line missing miss now (c ∷ cs) last behind b h g later =
      let cds = command_conditions nodes (record { 0 = x }) c in
      let es = command_goals nodes (record { 0 = x }) c in
      let y = counted kind.Point (named c) x in
      let rest = commands_asked given r nodes y (suc line) cs ++ behind in
      let left = found_from nodes y (suc line) cs ++ last in
      let high : AllByRecursion (λ f. suc line + length cs ≤ f.line) last = higher last b in
      let high_first : AllByRecursion (λ f. suc line ≤ f.line) last = first_of last high in
      let lows = each_append (λ (f : Found). suc line ≤ f.line) (found_from nodes y (suc line) cs) last (found_lines nodes y (suc line) (suc line) (omega arith) cs) high_first in
      subst (λ (all : List AskedAt). IsFirstMiss q figure now all miss) (sym (line_split line cds es (commands_asked given r nodes y (suc line) cs) behind))
      (conditions_missed line missing miss now cds left (asked_at line (map (λ e. asks_goal (image r e)) es) ++ rest)
      (subst (λ (fs : List Found). IsFirstNotFound listed given fs missing) (append_assoc (found_at line cds) (found_from nodes y (suc line) cs) last) h)
      (λ e. held_back line missing now.lines now.left (image_forms_from q r nodes x line (c ∷ cs)) miss (form_lines nodes x line line (omega arith) (c ∷ cs)) e g)
      (λ k. goals_missed line missing miss now es (image_forms_from q r nodes y (suc line) cs) rest (not_yet line missing left lows k) g
      (λ then u. commands_missed nodes y (suc line) missing miss then cs last behind high k u later)))
    where
      higher : (fs : List Found) → AllByRecursion (λ f. line + suc (length cs) ≤ f.line) fs → AllByRecursion (λ f. suc line + length cs ≤ f.line) fs
      higher [] k = tt
      higher (f ∷ fs) k = let low = k.0 in (omega (arith, low), higher fs k.1)

      first_of : (fs : List Found) → AllByRecursion (λ f. suc line + length cs ≤ f.line) fs → AllByRecursion (λ f. suc line ≤ f.line) fs
      first_of [] k = tt
      first_of (f ∷ fs) k = let low = k.0 in (omega (arith, low), first_of fs k.1)

  -- ALL IS SO
  abbrev Passed : Progress → List AskedAt → Type 0
  Passed now asked = (end : Progress) × ArePassed q figure now asked end

  conditions_passed : (line : ℕ) (now : Progress) (cds : List Condition) (more : List Found) (behind : List AskedAt) → IsFirstNotFound listed given (found_at line cds ++ more) None
      → (IsFirstNotFound listed given more None → Passed now behind) → Passed now (asked_at line (conditions_asked given r cds) ++ behind)
  conditions_passed line now [] more behind h later = later h
  conditions_passed line now (c ∷ cds) more behind (inl h) later =
      let k = conditions_passed line now cds more behind h.1 later in (k.0, (now, (h.0, refl), k.1))
  conditions_passed line now (c ∷ cds) more behind (inr h) later = let e = h.1 in absurd (none_some line e)
    where
      none_some : (line : ℕ) → ◌≡◌ {A = Option ℕ} None (Some line) → ⊥
      none_some line e = cc

  goals_passed : (line : ℕ) (now : Progress) (es : List Tree) (more : List GoalForm) (behind : List AskedAt) → AreGoalsZero C figure.known now.lines now.left (image_forms q r line es ++ more)
      → ((then : Progress) → AreGoalsZero C figure.known then.lines then.left more → Passed then behind) → Passed now (asked_at line (map (λ e. asks_goal (image r e)) es) ++ behind)
  goals_passed line now [] more behind h later = later now h
  goals_passed line now (e ∷ es) more behind h later =
      let w = h.2 in
      let then : Progress = record { lines = h.0; left = h.1 } in
      let k = goals_passed line then es more behind h.3 later in (k.0, (then, (w.chain, w.works, w.ended, w.counted), k.1))

  pub commands_passed : (nodes : Store) (x line : ℕ) (now : Progress) (cs : List Command) (last : List Found) (behind : List AskedAt)
      → IsFirstNotFound listed given (found_from nodes x line cs ++ last) None → AreGoalsZero C figure.known now.lines now.left (image_forms_from q r nodes x line cs)
      → ((then : Progress) → IsFirstNotFound listed given last None → Passed then behind) → Passed now (commands_asked given r nodes x line cs ++ behind)
  commands_passed nodes x line now [] last behind h g later = later now h
  commands_passed nodes x line now (c ∷ cs) last behind h g later =
      let cds = command_conditions nodes (record { 0 = x }) c in
      let es = command_goals nodes (record { 0 = x }) c in
      let y = counted kind.Point (named c) x in
      let rest = commands_asked given r nodes y (suc line) cs ++ behind in
      subst (λ (all : List AskedAt). Passed now all) (sym (line_split line cds es (commands_asked given r nodes y (suc line) cs) behind))
      (conditions_passed line now cds (found_from nodes y (suc line) cs ++ last) (asked_at line (map (λ e. asks_goal (image r e)) es) ++ rest)
      (subst (λ (fs : List Found). IsFirstNotFound listed given fs None) (append_assoc (found_at line cds) (found_from nodes y (suc line) cs) last) h)
      (λ k. goals_passed line now es (image_forms_from q r nodes y (suc line) cs) rest g
      (λ then u. commands_passed nodes y (suc line) then cs last behind k u later)))

  -- THE WHOLE PROGRAM
  some_none : (line : ℕ) (missing : Option ℕ) → missing ≡ None → missing ≡ Some line → ⊥
  some_none line missing e f = let g : ◌≡◌ {A = Option ℕ} None (Some line) = sym e ∙ f in cc

  both_asked : (line : ℕ) (us vs : List Asked) → asked_at line (us ++ vs) ≡ asked_at line us ++ asked_at line vs
  both_asked line [] vs = refl
  both_asked line (u ∷ us) vs = ap (λ (zs : List AskedAt). record { line = line; asked = u } ∷ zs) (both_asked line us vs)

  passed_both : (now mid end : Progress) (xs ys : List AskedAt) → ArePassed q figure now xs mid → ArePassed q figure mid ys end → ArePassed q figure now (xs ++ ys) end
  passed_both now mid end [] ys h g = subst (λ (p : Progress). ArePassed q figure p ys end) h g
  passed_both now mid end (x ∷ xs) ys h g = (h.0, h.1, passed_both h.0 mid end xs ys h.2 g)

  passed_then_missed : (now mid : Progress) (miss : Miss) (xs ys : List AskedAt) → ArePassed q figure now xs mid → IsFirstMiss q figure mid ys miss → IsFirstMiss q figure now (xs ++ ys) miss
  passed_then_missed now mid miss [] ys h g = subst (λ (p : Progress). IsFirstMiss q figure p ys miss) h g
  passed_then_missed now mid miss (x ∷ xs) ys h g = inr (inr (h.0, h.1, passed_then_missed h.0 mid miss xs ys h.2 g))

  module _ (p : Source) where
    abbrev end_line : ℕ
    end_line = suc (length p.commands)

    abbrev last_conditions : List Condition
    last_conditions = statement_conditions p.nodes p.statement

    abbrev wanted : List ℕ
    wanted = form_text given (statement_form p.nodes p.statement)

    -- all but the statement itself
    abbrev but_last : List AskedAt
    but_last = commands_asked given r p.nodes 0 1 p.commands ++ asked_at end_line (conditions_asked given r last_conditions)

    split_last : all_asked given r p ≡ but_last ++ (record { line = end_line; asked = asks_statement wanted } ∷ [])
    split_last =
        ap (λ (zs : List AskedAt). commands_asked given r p.nodes 0 1 p.commands ++ zs) (both_asked end_line (conditions_asked given r last_conditions) (asks_statement wanted ∷ []))
        ∙ sym (append_assoc (commands_asked given r p.nodes 0 1 p.commands) (asked_at end_line (conditions_asked given r last_conditions))
        (record { line = end_line; asked = asks_statement wanted } ∷ []))

    ends_at : (cds : List Condition) → AllByRecursion (λ f. 1 + length p.commands ≤ f.line) (found_at end_line cds)
    ends_at cds = at_line end_line (1 + length p.commands) (omega arith) cds

    -- a condition is missing, or a goal is not 0
    pub all_missed : (missing : Option ℕ) (miss : Miss) (now : Progress) → IsFirstNotFound listed given (all_found p) missing
        → IsFirstGoalMiss C figure.known missing now.lines now.left (image_forms_from q r p.nodes 0 1 p.commands) miss → IsFirstMiss q figure now (all_asked given r p) miss
    all_missed missing miss now h g =
        commands_missed p.nodes 0 1 missing miss now p.commands (found_at end_line last_conditions) (asked_at end_line (statement_asked given r p.nodes p.statement)) (ends_at last_conditions) h g
        (λ then k m.
        subst (λ (zs : List AskedAt). IsFirstMiss q figure then zs miss) (sym (both_asked end_line (conditions_asked given r last_conditions) (asks_statement wanted ∷ [])))
        (conditions_missed end_line missing miss then last_conditions [] (asked_at end_line (asks_statement wanted ∷ []))
        (subst (λ (fs : List Found). IsFirstNotFound listed given fs missing) (sym (append-nil (found_at end_line last_conditions))) k)
        (λ e. m.2 ∙ ap no_instance (one_line m.0 end_line (sym m.1 ∙ e)))
        (λ e. absurd (some_none m.0 missing e m.1))))

    -- all but the statement is so
    but_last_passed : (now : Progress) → IsFirstNotFound listed given (all_found p) None
        → AreGoalsZero C figure.known now.lines now.left (image_forms_from q r p.nodes 0 1 p.commands) → Passed now but_last
    but_last_passed now h g =
        commands_passed p.nodes 0 1 now p.commands (found_at end_line last_conditions) (asked_at end_line (conditions_asked given r last_conditions)) h g
        (λ then k.
        subst (λ (zs : List AskedAt). Passed then zs) (append-nil (asked_at end_line (conditions_asked given r last_conditions)))
        (conditions_passed end_line then last_conditions [] []
        (subst (λ (fs : List Found). IsFirstNotFound listed given fs None) (sym (append-nil (found_at end_line last_conditions))) k) (λ e. (then, refl))))

    -- the statement is the cited one
    pub all_passed : (now : Progress) → IsFirstNotFound listed given (all_found p) None → AreGoalsZero C figure.known now.lines now.left (image_forms_from q r p.nodes 0 1 p.commands)
        → wanted ≡ statement_text q → Passed now (all_asked given r p)
    all_passed now h g same =
        let k = but_last_passed now h g in
        subst (λ (zs : List AskedAt). Passed now zs) (sym split_last) (k.0, passed_both now k.0 k.0 but_last _ k.1 (k.0, (same, refl), refl))

    -- or it is another one
    pub statement_missed : (now : Progress) → IsFirstNotFound listed given (all_found p) None → AreGoalsZero C figure.known now.lines now.left (image_forms_from q r p.nodes 0 1 p.commands)
        → wanted ≢ statement_text q → IsFirstMiss q figure now (all_asked given r p) (no_instance end_line)
    statement_missed now h g other =
        let k = but_last_passed now h g in
        subst (λ (zs : List AskedAt). IsFirstMiss q figure now zs (no_instance end_line)) (sym split_last) (passed_then_missed now k.0 (no_instance end_line) but_last _ k.1 (inl (other, refl)))
