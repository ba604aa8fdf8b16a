-- The laws that stand on the functions of `laws`.
use Rattle.std.specs.Prelude.{◌≡◌, ◌↔◌, ℕ, All, Contains, List, ◌∷◌, ◌++◌}
use Rattle.geo_points.specs.Placements.{Placement, SamePlacement}
use Rattle.geo_points.specs.Points.{Point}
use Rattle.geo_terms.specs.Constructions.{MeetsSteps}
use Rattle.geo_terms.specs.Values.{HasTreeValue}
use Rattle.geo_program.specs.declared.commands.Command.{Command}
use Rattle.geo_program.specs.declared.statements.Statement.{Statement}
use Rattle.geo_program.specs.Spelling.{SameSource}
use Rattle.geo_program.specs.WellFormed.{IsWellFormed, Source}
use Rattle.geo_lowering.specs.Building.{forgotten, AreFreesSame, AreMade}
use Rattle.geo_lowering.specs.Conditions.{Condition, IsConditionMet, early_conditions}
use Rattle.geo_lowering.specs.Counting.{numbers_had, points_named}
use Rattle.geo_lowering.specs.Lowering.{Extends, IsLowered, LoweredForm, layout_of}
use Rattle.geo_lowering.specs.declared.version.Version.{Version}
use Rattle.geo_program.specs.Forms.{statement_form}
use Rattle.geo_program.specs.FormTexts.{form_text}
use Rattle.geo_conditions.specs.Lists.{condition_form, AreConditionItems, AreConditions, AreGoalItems, AreGoals, Found, ItemForm, all_found}
use Rattle.geo_conditions.specs.Statements.{pair_goals, statement_goals}
use Rattle.geo_conditions.specs.Terms.{HasNonzeroValue, HasZeroValue, condition_term, goal_term}
use Rattle.geo_conditions.specs.Truth.{Breaks, HasValues, Holds, IsImpossible, IsTrueProgram, Meets, ProgramValues}

-- the lowered placement extends the other one, and meets all steps
pub record IsLoweredTo (version : Version) (p : Source) (l : LoweredForm) (placed lowered : Placement) : Type 0 where
  pub well_formed : IsWellFormed p
  pub form : IsLowered version p l
  pub extends : Extends version p placed lowered
  pub steps : MeetsSteps lowered l.construction

-- the condition's term has a value other than 0
abbrev pub IsNonzeroCondition : Version → Source → Placement → Condition → Type 0
IsNonzeroCondition version p lowered c = HasNonzeroValue lowered (condition_term (layout_of version p.commands) c)

-- the goal's term has the value 0
abbrev pub IsZeroGoal : Version → Source → Placement → Statement → Type 0
IsZeroGoal version p lowered g = HasZeroValue lowered (goal_term (layout_of version p.commands) p.nodes g)

-- a listed condition's term has a value other than 0 exactly where the condition holds
abbrev pub ConditionsAreTerms : Type 0
ConditionsAreTerms =
    (version : Version) (p : Source) (l : LoweredForm) (placed lowered : Placement) (conditions : List Found)
    → IsLoweredTo version p l placed lowered → AreConditions p conditions
    → All (λ f. IsConditionMet p placed f.condition ↔ IsNonzeroCondition version p lowered f.condition) conditions

-- every placement that meets a program extends to one that meets all steps, in which no listed condition's term is 0
abbrev pub PlacementsLower : Type 0
PlacementsLower =
    (version : Version) (p : Source) (l : LoweredForm) (placed : Placement) (conditions : List Found)
    → IsWellFormed p → IsLowered version p l → AreConditions p conditions → Meets p placed
    → (lowered : Placement) × Extends version p placed lowered × MeetsSteps lowered l.construction
    × All (λ f. IsNonzeroCondition version p lowered f.condition) conditions

-- every lowered placement that meets all steps, in which no listed condition's term is 0, extends one that meets the program
abbrev pub LoweredPlacementsMeet : Type 0
LoweredPlacementsMeet =
    (version : Version) (p : Source) (l : LoweredForm) (lowered : Placement) (conditions : List Found)
    → IsWellFormed p → IsLowered version p l → AreConditions p conditions
    → MeetsSteps lowered l.construction → All (λ f. IsNonzeroCondition version p lowered f.condition) conditions
    → Extends version p (forgotten version p lowered) lowered × Meets p (forgotten version p lowered)

-- the statement holds exactly where every goal's term has the value 0
abbrev pub GoalsAreTerms : Type 0
GoalsAreTerms =
    (version : Version) (p : Source) (l : LoweredForm) (placed lowered : Placement) (goals : List Statement) → IsLoweredTo version p l placed lowered → AreGoals p goals
    → Holds p placed ↔ All (IsZeroGoal version p lowered) goals

-- where the conditions hold and the goals of the ratios are 0, the terms of all goals have values
abbrev pub GoalsHaveValues : Type 0
GoalsHaveValues =
    (version : Version) (p : Source) (l : LoweredForm) (placed lowered : Placement) (goals : List Statement)
    → IsLoweredTo version p l placed lowered → AreGoals p goals → Meets p placed
    → All (IsZeroGoal version p lowered) (pair_goals p.nodes p.statement)
    → All (λ g. HasTreeValue lowered (goal_term (layout_of version p.commands) p.nodes g)) goals

-- a condition's term has a value where the conditions listed before it hold
abbrev pub ConditionsHaveValues : Type 0
ConditionsHaveValues =
    (version : Version) (p : Source) (l : LoweredForm) (placed lowered : Placement) (before after : List Found) (f : Found)
    → IsLoweredTo version p l placed lowered → AreConditions p (before ++ f ∷ after)
    → All (λ g. IsConditionMet p placed g.condition) before → HasTreeValue lowered (condition_term (layout_of version p.commands) f.condition)

-- a program has one list of conditions and one list of goals at most
pub record ListsAreUnique : Type 0 where
  pub conditions : (p : Source) (one other : List Found) → AreConditions p one → AreConditions p other → one ≡ other
  pub goals : (p : Source) (one other : List Statement) → AreGoals p one → AreGoals p other → one ≡ other

-- in every placement that is made of the given free points and numbers by the steps of the commands before it,
-- the terms of a command's conditions that do not name its point are not 0
abbrev pub AreTermsReady : Version → Source → Placement → Type 0
AreTermsReady version p given =
    (before rest : List Command) (c : Command) → p.commands ≡ before ++ c ∷ rest
    → (point : ℕ → Point) → let lowered : Placement = record { point = point; number = given.number } in
    AreMade version p given lowered 0 0 0 before → All (IsNonzeroCondition version p lowered) (early_conditions p.nodes c)

-- in every placement that is made of them by the steps of all commands, no condition's term is 0
abbrev pub AreTermsNonzero : Version → Source → Placement → Type 0
AreTermsNonzero version p given =
    (point : ℕ → Point) → let lowered : Placement = record { point = point; number = given.number } in
    AreMade version p given lowered 0 0 0 p.commands → All (λ f. IsNonzeroCondition version p lowered f.condition) (all_found p)

-- then the given free points and numbers have a placement that meets the program
abbrev pub PlacementsAreRealised : Type 0
PlacementsAreRealised =
    (version : Version) (p : Source) (l : LoweredForm) (given : Placement) → IsWellFormed p → IsLowered version p l → AreTermsReady version p given → AreTermsNonzero version p given
    → (lowered : Placement) × MeetsSteps lowered l.construction × Meets p (forgotten version p lowered)
    × AreFreesSame (forgotten version p lowered) given 0 p.commands × (lowered.number ≡ given.number)

-- two placements with the same values that meet a program are the same
abbrev pub ValuesFixPlacements : Type 0
ValuesFixPlacements =
    (p : Source) (v : ProgramValues) (one other : Placement) → IsWellFormed p
    → HasValues p one v → Meets p one → HasValues p other v → Meets p other
    → SamePlacement (points_named p.commands) (numbers_had p.commands) one other

-- values break a program where the statement fails in some placement with these values that meets it
abbrev pub OneFailureBreaks : Type 0
OneFailureBreaks =
    (p : Source) (v : ProgramValues) (placed : Placement)
    → IsWellFormed p → HasValues p placed v → Meets p placed → (Holds p placed → ⊥) → Breaks p v

-- conditions that a program gives have one text only where they are the same
abbrev pub TextsTellConditions : Type 0
TextsTellConditions =
    (p : Source) (f g : Found) → IsWellFormed p → Contains (all_found p) f → Contains (all_found p) g
    → form_text p.names (condition_form f.condition) ≡ form_text p.names (condition_form g.condition) → f.condition ≡ g.condition

-- a condition's term has a value wherever the terms of the conditions listed before it are not 0, in every placement:
-- no step is asked for, so this holds while a placement is made
abbrev pub TermsHaveValuesInTurn : Type 0
TermsHaveValuesInTurn =
    (version : Version) (p : Source) (lowered : Placement) (before after : List Found) (f : Found) → IsWellFormed p → AreConditions p (before ++ f ∷ after)
    → All (λ g. IsNonzeroCondition version p lowered g.condition) before → HasTreeValue lowered (condition_term (layout_of version p.commands) f.condition)

-- a program that some placement meets is true where, in every lowered placement that meets all steps with no condition's
-- term 0, every goal's term is 0
abbrev pub ZeroGoalsMakeTrue : Type 0
ZeroGoalsMakeTrue =
    (version : Version) (p : Source) (l : LoweredForm) (conditions : List Found) (goals : List Statement) (placed : Placement) → IsWellFormed p → IsLowered version p l
    → AreConditions p conditions → AreGoals p goals → Meets p placed
    → ((lowered : Placement) → MeetsSteps lowered l.construction → All (λ f. IsNonzeroCondition version p lowered f.condition) conditions
    → All (IsZeroGoal version p lowered) goals)
    → IsTrueProgram p

-- it is impossible where no lowered placement that meets all steps has no condition's term 0
abbrev pub ZeroConditionsMakeImpossible : Type 0
ZeroConditionsMakeImpossible =
    (version : Version) (p : Source) (l : LoweredForm) (conditions : List Found) → IsWellFormed p → IsLowered version p l → AreConditions p conditions
    → ((lowered : Placement) → MeetsSteps lowered l.construction → All (λ f. IsNonzeroCondition version p lowered f.condition) conditions → ⊥)
    → IsImpossible p

-- a program is not true and broken, nor true and impossible, nor broken and impossible
pub record VerdictsExclude : Type 0 where
  pub true_or_broken : (p : Source) (v : ProgramValues) → IsTrueProgram p → Breaks p v → ⊥
  pub true_or_impossible : (p : Source) → IsTrueProgram p → IsImpossible p → ⊥
  pub broken_or_impossible : (p : Source) (v : ProgramValues) → Breaks p v → IsImpossible p → ⊥

-- every program has its list of conditions and its list of goals
pub record ListsExist : Type 0 where
  pub conditions : (p : Source) → (cs : List Found) × AreConditions p cs
  pub goals : (p : Source) → (gs : List Statement) × AreGoals p gs

-- goals that a program gives have one text only where they are the same
abbrev pub GoalTextsTellGoals : Type 0
GoalTextsTellGoals =
    (p : Source) (g h : Statement) → IsWellFormed p
    → Contains (statement_goals p.nodes p.statement) g → Contains (statement_goals p.nodes p.statement) h
    → form_text p.names (statement_form p.nodes g) ≡ form_text p.names (statement_form p.nodes h) → g ≡ h

-- the same placements meet both programs, and both statements hold in the same ones; so the programs are true, impossible or broken
-- alike, and they have the same items
pub record MeanTheSame (p q : Source) : Type 0 where
  pub meets : (placed : Placement) → Meets p placed ↔ Meets q placed
  pub holds : (placed : Placement) → Holds p placed ↔ Holds q placed
  pub is_true : IsTrueProgram p ↔ IsTrueProgram q
  pub impossible : IsImpossible p ↔ IsImpossible q
  pub broken : (v : ProgramValues) → Breaks p v ↔ Breaks q v
  pub conditions : (version : Version) (items : List ItemForm) → AreConditionItems version p items ↔ AreConditionItems version q items
  pub goals : (version : Version) (items : List ItemForm) → AreGoalItems version p items ↔ AreGoalItems version q items

-- programs that are the same, whatever the order of the terms in their stores, mean the same
abbrev pub SameProgramsMeanTheSame : Type 0
SameProgramsMeanTheSame = (p q : Source) → SameSource p q → MeanTheSame p q
