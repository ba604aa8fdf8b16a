-- What the parts of the work show of the citing program.
use Rattle.std.proofs.Common.{◌≡◌, ◌≢◌, ℕ, suc, ◌<◌, Option, None, Result, Ok, Err, List, length, map, refl, sym, ◌∙◌, ap, subst}
use Rattle.std.specs.List.{AllByRecursion}
use Rattle.std.specs.Result.{IfOk, OnOk}
use Rattle.std.proofs.lemmas.List.Elements.{recursion_from_All}
use Rattle.geo_points.specs.declared.ids.ParamId.{ParamId}
use Rattle.geo_points.specs.declared.ids.PointId.{PointId}
use Rattle.geo_poly.specs.declared.variables.Var.{Var}
use Rattle.geo_terms.specs.Constructions.{Construction}
use Rattle.geo_terms.specs.Stores.{Store, tree_of}
use Rattle.geo_terms.specs.TermBounds.{IsTermBelow}
use Rattle.geo_program.specs.declared.commands.Command.{Command}
use Rattle.geo_program.specs.declared.names.Name.{Name}
use Rattle.geo_program.specs.Forms.{statement_form}
use Rattle.geo_program.specs.FormTexts.{form_text}
use Rattle.geo_program.specs.WellFormed.{IsWellFormed, Source}
use Rattle.geo_lowering.specs.Lowering.{IsLowered, LoweredForm}
use Rattle.geo_lowering.specs.declared.version.Version.TheVariants.{Two}
use Rattle.geo_conditions.specs.declared.items.Item.{Item}
use Rattle.geo_conditions.specs.Inner.ItemTerms.{terms_layout}
use Rattle.geo_conditions.specs.Lists.{AreConditions, AreStoredConditions, Found, all_found, condition_item, item_form}
use Rattle.geo_library.specs.Figures.{Figure, IsFigureOf, known_variables}
use Rattle.geo_library.specs.declared.asking.AskedGoal.{AskedGoal}
use Rattle.geo_library.specs.Inner.Asking.{AreAsked, GoalForm, asked_form, goals_from}
use Rattle.geo_library.specs.Inner.Cases.{IsMissed, IsRenamedBy, IsWorked, image_forms_from}
use Rattle.geo_library.specs.Inner.GoalsWorked.{AreGoalsZero, IsFirstGoalMiss}
use Rattle.geo_library.specs.Inner.Knowing.{AreKnown, IsReadyItem}
use Rattle.geo_library.specs.Inner.Naming.{AreImages}
use Rattle.geo_library.specs.Inner.Missing.{IsFirstNotFound}
use Rattle.geo_library.specs.Instances.{all_asked, condition_texts, statement_text}
use Rattle.geo_library.specs.Renamings.{IsRenaming, Renaming}
use Rattle.geo_library.specs.Working.{IsFirstMiss, Miss, Progress, no_instance}
use Rattle.geo_library.proofs.AllTexts.{first_of_program}
use Rattle.geo_library.proofs.FirstMisses.{all_missed, all_passed, statement_missed}
use Rattle.geo_library.proofs.GoalsInside.{asked_inside}
use Rattle.geo_library.proofs.ImagesPlaced.{program_placed}
use Rattle.geo_library.proofs.KnownByText.{all_alike, all_ready}

-- THE CONDITIONS
module _ (q : Source) (old : LoweredForm) (items : List Item) (h : AreStoredConditions Two q old.construction.nodes items) where
  abbrev found : List Found
  found = h.are.conditions

  pub items_ready : AllByRecursion (IsReadyItem old.construction.nodes) items
  items_ready =
      all_ready q old.construction.nodes items found h.are.written (recursion_from_All (λ i. i.term.0 < length old.construction.nodes) items h.stored)

  pub variables_known : (vars : List Var) → AreKnown old.construction.nodes items vars → vars ≡ known_variables q found
  variables_known vars k = all_alike q old.construction.nodes items found vars h.are.written k

  pub first_missing : (given : List Name) (wanted : List Found) (missing : Option ℕ) → IsFirstNotFound (map (λ i. i.text) items) given wanted missing
      → IsFirstNotFound (condition_texts q) given wanted missing
  first_missing given wanted missing k = first_of_program q old.construction.nodes items found given wanted missing h.are.listed h.are.written k

-- GOALS
-- asked over the places of their images, the goals are asked where their images stand
pub asked_there : (p q : Source) (texts : List (List ℕ)) (r : Renaming) → IsWellFormed p → IsWellFormed q → IsRenaming p.names q.names texts r → (form : LoweredForm) → IsLowered Two q form
    → (places : List PointId) (numbers : List ParamId) → form.points ≡ places → form.params ≡ numbers → (points : List PointId) (params : List ParamId)
    → AreImages (map (λ a. a.0) places) r.points (map (λ a. a.0) points) → AreImages (map (λ t. t.0) numbers) r.params (map (λ t. t.0) params)
    → (cs : List Command) → cs ≡ p.commands → (nodes : Store) (asked : List AskedGoal) → AreAsked nodes asked (goals_from p.nodes (terms_layout points params) 0 1 cs)
    → AreAsked nodes asked (image_forms_from q r p.nodes 0 1 p.commands)
asked_there p q texts r wp wq ren form low places numbers x y points params at_points at_params cs same nodes asked h = record {
  stored = h.stored;
  are = h.are
      ∙ ap (λ (ks : List Command). goals_from p.nodes (terms_layout points params) 0 1 ks) same
      ∙ program_placed p q texts r wp wq ren form low points params
      (subst (λ (ps : List PointId). AreImages (map (λ a. a.0) ps) r.points (map (λ a. a.0) points)) (sym x) at_points)
      (subst (λ (ts : List ParamId). AreImages (map (λ t. t.0) ts) r.params (map (λ t. t.0) params)) (sym y) at_params);
}

module _ (p q : Source) (given : List Name) (r : Renaming) (wp : IsWellFormed p) (wq : IsWellFormed q) (renamed : IsRenamedBy p q given r) (old : LoweredForm) (new : Construction)
    (low : IsLowered Two q (record old { construction = new })) (asked : List AskedGoal) (h : AreAsked new.nodes asked (image_forms_from q r p.nodes 0 1 p.commands)) where
  -- the goals stand among the new steps
  pub goals_inside : AllByRecursion (λ g. IsTermBelow (length new.steps) new.params (tree_of new.nodes g.term)) asked
  goals_inside = asked_inside p q renamed.texts r wp wq renamed.renames (record old { construction = new }) low new.nodes asked h

-- THE OUTCOME
-- a figure of the citing program, what is missing among its conditions, and the goals that are asked
pub record IsUnderWork (p q : Source) (given : List Name) (r : Renaming) (c : Construction) (vars : List Var) (missing : Option ℕ) (asked : List GoalForm) : Type 0 where
  pub form : LoweredForm
  pub lowered : IsLowered Two q form
  pub construction : c ≡ form.construction
  pub conditions : List Found
  pub listed : AreConditions q conditions
  pub known : vars ≡ known_variables q conditions
  pub first : IsFirstNotFound (condition_texts q) given (all_found p) missing
  pub goals : asked ≡ image_forms_from q r p.nodes 0 1 p.commands

-- so it is behind the calls that find these
pub under_work : (p q : Source) (given : List Name) (r : Renaming) (old : LoweredForm) (items : List Item) (h : AreStoredConditions Two q old.construction.nodes items) (new : Construction)
    → IsLowered Two q (record old { construction = new }) → (vars : List Var) → AreKnown old.construction.nodes items vars → (missing : Option ℕ)
    → IsFirstNotFound (map (λ i. i.text) items) given (all_found p) missing → (asked : List AskedGoal)
    → AreAsked new.nodes asked (image_forms_from q r p.nodes 0 1 p.commands) → IsUnderWork p q given r new vars missing (map (asked_form new.nodes) asked)
under_work p q given r old items h new low vars k missing f asked a = record {
  form = record old { construction = new };
  lowered = low;
  construction = refl;
  conditions = h.are.conditions;
  listed = h.are.listed;
  known = variables_known q old items h vars k;
  first = first_missing q old items h given (all_found p) missing f;
  goals = a.are;
}

module _ (p q : Source) (given : List Name) (r : Renaming) (now : Progress) (c : Construction) (vars : List Var) (missing : Option ℕ) (asked : List GoalForm)
    (h : IsUnderWork p q given r c vars missing asked) where
  abbrev figure : Figure
  figure = record { construction = c; known = vars }

  drawn : IsFigureOf q figure
  drawn = record {
    form = h.form;
    conditions = h.conditions;
    lowered = h.lowered;
    listed = h.listed;
    same_construction = h.construction;
    same_known = h.known;
  }

  goals_zero : AreGoalsZero c vars now.lines now.left asked → AreGoalsZero c vars now.lines now.left (image_forms_from q r p.nodes 0 1 p.commands)
  goals_zero z = subst (λ (gs : List GoalForm). AreGoalsZero c vars now.lines now.left gs) h.goals z

  none_missing : missing ≡ None → IsFirstNotFound (condition_texts q) given (all_found p) None
  none_missing e = subst (λ (m : Option ℕ). IsFirstNotFound (condition_texts q) given (all_found p) m) e h.first

  pub missed : (miss : Miss) → IsFirstGoalMiss c vars missing now.lines now.left asked miss → IsMissed p q given r now miss
  missed miss g = record {
    figure = figure;
    drawn = drawn;
    first = all_missed q figure given r p missing miss now h.first
        (subst (λ (gs : List GoalForm). IsFirstGoalMiss c vars missing now.lines now.left gs miss) h.goals g);
  }

  pub worked : (text : List ℕ) → missing ≡ None → AreGoalsZero c vars now.lines now.left asked
      → form_text given (statement_form p.nodes p.statement) ≡ statement_text q → text ≡ statement_text q → IsWorked p q given r now text
  worked text e z same t =
      let passed = all_passed q figure given r p now (none_missing e) (goals_zero z) same in
      record { figure = figure; drawn = drawn; end = passed.0; passed = passed.1; cited = t }

  pub another : (miss : Miss) → missing ≡ None → AreGoalsZero c vars now.lines now.left asked
      → form_text given (statement_form p.nodes p.statement) ≢ statement_text q → miss ≡ no_instance (suc (length p.commands)) → IsMissed p q given r now miss
  another miss e z other m = record {
    figure = figure;
    drawn = drawn;
    first = subst (λ (x : Miss). IsFirstMiss q figure now (all_asked given r p) x) (sym m)
        (statement_missed q figure given r p now (none_missing e) (goals_zero z) other);
  }

-- where an answer is Ok, both are so of it
pub both_told : {T E : Type 0} (result : Result T E) (A : Type 0) (B C : T → Type 0) → OnOk result A → IfOk result B → ((x : T) → A → B x → C x) → IfOk result C
both_told (Ok x) A B C a b f = f x a b
both_told (Err e) A B C a b f = tt
