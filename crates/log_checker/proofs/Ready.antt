-- The sample of an accepted log makes the conditions hold, command by command.
use Rattle.std.proofs.Common.{◌≡◌, ℕ, ◌≤◌, ℤ, List, [], ◌∷◌, ◌++◌, map, length, append-nil, sym, ◌∙◌, ap, subst}
use Rattle.std.specs.List.{AllByRecursion}
use Rattle.std.proofs.lemmas.List.Elements.{All-from_recursion}
use Rattle.geo_points.specs.Placements.{Placement}
use Rattle.geo_points.specs.Points.{Point as Triple}
use Rattle.geo_poly.specs.declared.variables.Var.{Var}
use Rattle.geo_program.specs.declared.commands.Command.{Command}
use Rattle.geo_program.specs.WellFormed.{Source, IsWellFormed}
use Rattle.geo_terms.specs.Values.{HasTreeValue}
use Rattle.geo_lowering.specs.Building.{AreMade}
use Rattle.geo_lowering.specs.Conditions.{Condition, early_conditions}
use Rattle.geo_lowering.specs.Counting.{points_past, points_from, numbers_from}
use Rattle.geo_lowering.specs.Lowering.{IsLowered, LoweredForm, layout_of}
use Rattle.geo_lowering.proofs.Bounds.{Bounds, no_bounds, numbers_from-up}
use Rattle.geo_lowering.proofs.ConditionValues.{each_append, each_back}
use Rattle.geo_lowering.proofs.Exists.{behind, params_past, lines_past}
use Rattle.geo_lowering.proofs.Fixed.{bounds_all}
use Rattle.geo_lowering.proofs.Laying.{AreNamed, AreLaid, named_program, laid_program}
use Rattle.geo_lowering.specs.declared.version.Version.{Version}
use Rattle.geo_conditions.specs.Laws.{AreTermsNonzero, AreTermsReady, IsNonzeroCondition}
use Rattle.geo_conditions.specs.Lists.{AreConditions, Found, IsListed, all_found, condition_item, found_at, found_from}
use Rattle.geo_conditions.proofs.Agreement.{IsConditionOver}
use Rattle.geo_conditions.proofs.ConditionScopes.{FoundOver, at_line, early_over, found_over, program_over}
use Rattle.geo_conditions.proofs.Listings.{all_hold, listed_hold}
use Rattle.geo_conditions.proofs.TermsInTurn.{terms_in_turn}
use Rattle.geo_logs.specs.Laws.{AreNamedBefore, GivesConditions, HaveValuesInTurn, HoldBefore}
use Rattle.geo_logs.specs.Logs.{Item, Subject}
use Rattle.geo_logs.specs.Placements.{HasValuesBelow, HoldsAsCondition, MeetsStepsBelow}
use Rattle.geo_terms.specs.TermBounds.{IsTermBelow}
use Rattle.geo_logs.proofs.TermVariables.{term_sound}
use Rattle.log_checker.specs.Subjects.{log_item}
use Rattle.log_checker.proofs.Made.{given_by, has_values, meets_below}
use Rattle.log_checker.proofs.Names.{condition_below}
use Rattle.log_checker.proofs.Places.{At, at_map, below, each_at, each_of, in_front, of_front, of_map, parted}
use Rattle.log_checker.proofs.Prefixes.{found_front, found_up_to, fronted, line_past, named_front, numbers_split}

-- a listed condition as a log takes it
abbrev pub log_condition : Version → Source → Found → Item
log_condition version p f = log_item (condition_item version p f)

-- the conditions of a line
pub of_line : (P : Condition → Type 0) (line : ℕ) (cs : List Condition) → AllByRecursion (λ (f : Found). P f.condition) (found_at line cs) → AllByRecursion P cs
of_line P line [] h = tt
of_line P line (c ∷ cs) h = (h.0, of_line P line cs h.1)

module _ (version : Version) (p : Source) (subject : Subject) (found : List Found) (l : LoweredForm) (w : IsWellFormed p) (i : IsLowered version p l)
    (listed : AreConditions p found) (same : subject.conditions ≡ map (log_condition version p) found) (built : subject.construction ≡ l.construction) where
  -- CONDITIONS BY PLACES
  item_at : (k : ℕ) (f : Found) → At found k f → At subject.conditions k (log_condition version p f)
  item_at k f e = subst (λ items. At items k (log_condition version p f)) (sym same) (at_map (log_condition version p) found k f e)

  found_at_place : (k : ℕ) (item : Item) → At subject.conditions k item → (f : Found) × At found k f × (item ≡ log_condition version p f)
  found_at_place k item e = of_map (log_condition version p) found k item (subst (λ items. At items k item) same e)

  module _ (L : Placement) where
    abbrev Nonzero : List Found → Type 0
    Nonzero fs = AllByRecursion (λ (f : Found). IsNonzeroCondition version p L f.condition) fs

    nonzero_at : (k : ℕ) (f : Found) → HoldsAsCondition L (log_condition version p f).term → IsNonzeroCondition version p L f.condition
    nonzero_at k f h = (h.has_value, h.nonzero)

    -- the first conditions of the list
    nonzero_front : (front more : List Found) → found ≡ front ++ more → HoldBefore L subject (length front) → Nonzero front
    nonzero_front front more e h =
        each_of (λ (f : Found). IsNonzeroCondition version p L f.condition) front
        (λ k f at. nonzero_at k f (h k (log_condition version p f) (below front k f at) (item_at k f (subst (λ fs. At fs k f) (sym e) (in_front front more k f at)))))

    -- a condition has a value where those before it hold
    in_turn : (m : ℕ) → HaveValuesInTurn L subject m
    in_turn m k item lt at hold =
        let f = found_at_place k item at in
        let parts = parted found k f.0 f.1 in
        let here : HoldBefore L subject (length parts.before) = subst (λ j. HoldBefore L subject j) (sym parts.place) hold in
        let nonzero = nonzero_front parts.before (f.0 ∷ parts.after) parts.whole here in
        subst (λ (t : Item). HasTreeValue L t.term) (sym f.2)
        (terms_in_turn version p L parts.before parts.after f.0 w (subst (λ fs. AreConditions p fs) parts.whole listed)
        (All-from_recursion (λ (g : Found). IsNonzeroCondition version p L g.condition) parts.before nonzero))

  -- the first conditions, over what is declared, name points below n
  named_before : (front more : List Found) → found ≡ front ++ more → (x y j n m : ℕ) → Bounds (layout_of version p.commands) x y j n m → m ≤ subject.construction.params
      → FoundOver x y j front → AreNamedBefore subject n (length front)
  named_before front more e x y j n m B few over k item lt at =
      let f = found_at_place k item at in
      let here : At front k f.0 = of_front front more k f.0 lt (subst (λ fs. At fs k f.0) e f.1) in
      let o : IsConditionOver x y j f.0.condition = each_at (λ (g : Found). IsConditionOver x y j g.condition) front k f.0 over here in (
        subst (λ (t : Item). IsTermBelow n subject.construction.params t.term) (sym f.2)
            (condition_below (layout_of version p.commands) x y j n m subject.construction.params B few f.0.condition o),
        term_sound subject.construction item.term,
      )

  -- WHAT THE SAMPLE GIVES
  module _ (values : List (Var × ℤ)) (gives : GivesConditions subject values) where
    abbrev given : Placement
    given = given_by version p values

    -- what is made of the sample's values by the steps of some commands: the conditions that name their points alone are not 0 there
    first_nonzero : (before rest : List Command) → p.commands ≡ before ++ rest → (at : ℕ → Triple)
        → AreMade version p given (record { point = at; number = given.number }) 0 0 0 before
        → (fs more : List Found) → all_found p ≡ fs ++ more
        → Bounds (layout_of version p.commands) (points_from 0 before) (params_past 0 before) (lines_past 0 before) (points_past version 0 before) (numbers_from 0 before)
        → FoundOver (points_from 0 before) (params_past 0 before) (lines_past 0 before) fs
        → Nonzero (record { point = at; number = given.number }) fs
    first_nonzero before rest e at h fs more whole B over =
        let x = points_from 0 before in let y = params_past 0 before in let j = lines_past 0 before in
        let n = points_past version 0 before in
        let made : Placement = record { point = at; number = given.number } in
        let front = fronted (λ (f : Found). f.condition) fs more [] found (subst (λ xs. IsListed (λ (f : Found). f.condition) [] xs found) whole listed) in
        let few : numbers_from 0 before ≤ subject.construction.params =
        subst (λ k. numbers_from 0 before ≤ k)
        (sym (ap (λ c. c.params) built ∙ i.numbers ∙ ap (λ cs. numbers_from 0 cs) e ∙ numbers_split before rest 0)) (numbers_from-up (numbers_from 0 before) rest) in
        let listed_over = listed_hold (λ (f : Found). f.condition) (IsConditionOver x y j) fs [] front.front front.listing tt over in
        let hold : HoldBefore made subject (length front.front) =
        gives made n (length front.front)
        (subst (λ c. HasValuesBelow made c n values) (sym built) (has_values version p l i values before rest e at h))
        (subst (λ c. MeetsStepsBelow made c n) (sym built) (meets_below version p l i values before rest e at h))
        (named_before front.front front.more front.whole x y j n (numbers_from 0 before) B few listed_over) (in_turn made (length front.front)) in
        (all_hold (λ (f : Found). f.condition) (IsNonzeroCondition version p made) fs [] front.front front.listing (nonzero_front made front.front front.more front.whole hold)).1

    pub terms_ready : AreTermsReady version p given
    terms_ready before rest c e at h =
        let made : Placement = record { point = at; number = given.number } in
        let l = layout_of version p.commands in
        let k = subst (λ cs. AreNamed p.nodes 0 0 0 cs) e (named_program p w) in
        let d = subst (λ cs. AreLaid version l 0 0 0 0 0 cs) e (laid_program version p.commands) in
        let f = behind version p given before rest c 0 0 0 0 0 (no_bounds l) k d in
        let x = points_from 0 before in let y = params_past 0 before in let j = lines_past 0 before in
        let line = line_past 1 before in
        let early = early_conditions p.nodes c in
        let front = found_front p before rest c e in
        let over = each_append (λ (g : Found). IsConditionOver x y j g.condition) (found_from p.nodes 0 1 before) (found_at line early)
        (found_over p.nodes before 0 0 0 1 (named_front p.nodes before (c ∷ rest) 0 0 0 k)) (at_line x y j line early (early_over p.nodes x y j c f.names)) in
        let held = first_nonzero before (c ∷ rest) e at h (found_up_to p before c) front.0 front.1 f.bounds over in
        All-from_recursion (IsNonzeroCondition version p made) early
        (of_line (IsNonzeroCondition version p made) line early (each_back (λ (g : Found). IsNonzeroCondition version p made g.condition) (found_from p.nodes 0 1 before) (found_at line early) held))

    pub terms_nonzero : AreTermsNonzero version p given
    terms_nonzero at h =
        let made : Placement = record { point = at; number = given.number } in
        let l = layout_of version p.commands in
        let k = named_program p w in
        let B = bounds_all version p p.commands 0 0 0 0 0 (no_bounds l) k (laid_program version p.commands) in
        All-from_recursion (λ (g : Found). IsNonzeroCondition version p made g.condition) (all_found p)
        (first_nonzero p.commands [] (sym (append-nil p.commands)) at h (all_found p) [] (sym (append-nil (all_found p))) B (program_over p w k))
